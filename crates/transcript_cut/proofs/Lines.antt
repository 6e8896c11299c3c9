-- The first line of a text, and the lines behind it.
use Rattle.std.proofs.Common.{◌≡◌, ◌<◌, ◌≤◌, ℕ, ◌+◌, List, [], ◌∷◌, ◌++◌, Bool, true, false, cond, ◌||◌, length, take, drop, ◌⊎◌, inl, inr, refl, sym, ap, ◌∙◌, arith, take_all}
use Rattle.std.specs.Prelude.{◌==◌}
use Rattle.std.specs.List.{onto_first}
use Rattle.std.proofs.lemmas.List.{drop_all}
use Rattle.cells.proofs.Laws.{less_or_not}
use Rattle.script_lines.specs.Script.{lines_of, is_blank}
use Rattle.transcript_laws.specs.AnswerLines.{has_lf}
use Rattle.transcript_laws.specs.Transcript.{ScriptLine, lines_from}
use Rattle.transcript_cut.specs.LineEnds.{IsLineEnd}

either_false : (a b : Bool) → (a || b) ≡ false → (a ≡ false) × (b ≡ false)
either_false true b is = absurd (let no : ⊥ = cc in no)
either_false false b is = (refl, is)

-- what has an LF behind a first part has an LF
has_lf-behind : (bytes rest : List ℕ) → has_lf (bytes ++ 10 ∷ rest) ≡ true
has_lf-behind [] rest = refl
has_lf-behind (b ∷ bytes) rest = ap (λ l. (b == 10) || l) (has_lf-behind bytes rest) ∙ or_true (b == 10)
  where
    or_true : (a : Bool) → (a || true) ≡ true
    or_true true = refl
    or_true false = refl

pub lf_in : (bytes rest text : List ℕ) → has_lf text ≡ false → text ≡ bytes ++ 10 ∷ rest → ⊥
lf_in bytes rest text none parts = let both : true ≡ false = sym (has_lf-behind bytes rest) ∙ ap has_lf (sym parts) ∙ none in cc

lines_of-front : (xs ys : List ℕ) → has_lf xs ≡ false → lines_of (xs ++ 10 ∷ ys) ≡ xs ∷ lines_of ys
lines_of-front [] ys none = refl
lines_of-front (x ∷ xs) ys none =
    let parts = either_false (x == 10) (has_lf xs) none in
    ap (λ b. cond b ([] ∷ lines_of (xs ++ 10 ∷ ys)) (onto_first x (lines_of (xs ++ 10 ∷ ys)))) parts.0 ∙ ap (onto_first x) (lines_of-front xs ys parts.1)

lines_of-alone : (xs : List ℕ) → has_lf xs ≡ false → lines_of xs ≡ xs ∷ []
lines_of-alone [] none = refl
lines_of-alone (x ∷ xs) none =
    let parts = either_false (x == 10) (has_lf xs) none in
    ap (λ b. cond b ([] ∷ lines_of xs) (onto_first x (lines_of xs))) parts.0 ∙ ap (onto_first x) (lines_of-alone xs parts.1)

-- a line of a session's script
abbrev pub line_of : ℕ → ℕ → List ℕ → ScriptLine
line_of session number bytes = record { session = session; number = number; bytes = bytes }

-- the lines where the first is this one
abbrev pub with_first : ℕ → ℕ → List ℕ → List ScriptLine → List ScriptLine
with_first session number bytes more = cond (is_blank bytes) more (line_of session number bytes ∷ more)

module _ (session number : ℕ) (text : List ℕ) (spot : ℕ) (is : IsLineEnd text spot) where
  abbrev behind : List ScriptLine
  behind = lines_from session (number + 1) (lines_of (drop (spot + 1) text))

  -- the first line, and those behind it
  pub first_line : lines_from session number (lines_of text) ≡ with_first session number (take spot text) behind
  first_line = by (less_or_not spot (length text))
    where
      by : (spot < length text) ⊎ (length text ≤ spot) → lines_from session number (lines_of text) ≡ with_first session number (take spot text) behind
      by (inl low) = ap (λ t. lines_from session number (lines_of t)) (is.behind low) ∙ ap (lines_from session number) (lines_of-front (take spot text) (drop (spot + 1) text) is.before)
      by (inr past) =
          let whole : take spot text ≡ text = take_all spot text past in
          let none : drop (spot + 1) text ≡ [] = drop_all (spot + 1) text (omega (arith, past)) in
          ap (lines_from session number) (lines_of-alone text (ap has_lf (sym whole) ∙ is.before))
          ∙ ap (λ t. with_first session number t (lines_from session (number + 1) [])) (sym whole)
          ∙ ap (λ t. with_first session number (take spot text) (lines_from session (number + 1) (lines_of t))) (sym none)

  pub past_blank : is_blank (take spot text) ≡ true → lines_from session number (lines_of text) ≡ behind
  past_blank blank = first_line ∙ ap (λ b. cond b behind (line_of session number (take spot text) ∷ behind)) blank

  pub at_line : is_blank (take spot text) ≡ false → lines_from session number (lines_of text) ≡ line_of session number (take spot text) ∷ behind
  at_line full = first_line ∙ ap (λ b. cond b behind (line_of session number (take spot text) ∷ behind)) full
