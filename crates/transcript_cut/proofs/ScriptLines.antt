-- The first line of a script from a byte on.
use Rattle.std.proofs.Common.{◌≡◌, ℕ, ◌+◌, ◌-◌, List, ◌∷◌, true, false, take, drop, sym, ap, ◌∙◌, arith}
use Rattle.std.proofs.lemmas.List.{drop-drop}
use Rattle.script_lines.specs.Script.{lines_of, is_blank}
use Rattle.transcript_laws.specs.Transcript.{lines_from}
use Rattle.transcript_cut.specs.LineEnds.{IsLineEnd}
use Rattle.transcript_cut.proofs.Lines.{line_of, at_line, past_blank}

module _ (session number : ℕ) (script rest line : List ℕ) (from spot : ℕ) (behind_from : rest ≡ drop from script) (end : IsLineEnd rest spot) (front : line ≡ take spot rest) where
  whole : lines_from session number (lines_of (drop from script)) ≡ lines_from session number (lines_of rest)
  whole = ap (λ t. lines_from session number (lines_of t)) (sym behind_from)

  dropped : (n : ℕ) → from + (spot + 1) ≡ n → drop (spot + 1) rest ≡ drop n script
  dropped n same = ap (drop (spot + 1)) behind_from ∙ drop-drop (spot + 1) from script ∙ ap (λ k. drop k script) same

  more : (n : ℕ) → from + (spot + 1) ≡ n → lines_from session (number + 1) (lines_of (drop (spot + 1) rest)) ≡ lines_from session (number + 1) (lines_of (drop n script))
  more n same = ap (λ t. lines_from session (number + 1) (lines_of t)) (dropped n same)

  sized : spot ≡ (from + spot) - from
  sized = omega arith

  taken : take spot rest ≡ take ((from + spot) - from) (drop from script)
  taken = ap (take spot) behind_from ∙ ap (λ n. take n (drop from script)) sized

  -- where it isn't blank
  pub line_here : (n : ℕ) → from + (spot + 1) ≡ n → is_blank line ≡ false
      → lines_from session number (lines_of (drop from script)) ≡ line_of session number (take ((from + spot) - from) (drop from script)) ∷ lines_from session (number + 1) (lines_of (drop n script))
  line_here n same full =
      whole ∙ at_line session number rest spot end (ap is_blank (sym front) ∙ full)
      ∙ ap (λ bytes. line_of session number bytes ∷ lines_from session (number + 1) (lines_of (drop (spot + 1) rest))) taken
      ∙ ap (λ ls. line_of session number (take ((from + spot) - from) (drop from script)) ∷ ls) (more n same)

  -- where it is
  pub blank_here : (n : ℕ) → from + (spot + 1) ≡ n → is_blank line ≡ true → lines_from session number (lines_of (drop from script)) ≡ lines_from session (number + 1) (lines_of (drop n script))
  blank_here n same blank = whole ∙ past_blank session number rest spot end (ap is_blank (sym front) ∙ blank) ∙ more n same
