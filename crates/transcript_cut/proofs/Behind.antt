-- The lines that are left of some scripts.
use Rattle.std.proofs.Common.{◌≡◌, ◌<◌, ◌≤◌, ℕ, ◌+◌, List, [], ◌∷◌, ◌++◌, length, drop, ◌⊎◌, inl, inr, sym, ap, ◌∙◌, arith}
use Rattle.std.proofs.lemmas.List.{drop_more, drop_all, get_or_past}
use Rattle.cells.proofs.Laws.{less_or_not}
use Rattle.script_lines.specs.Script.{lines_of}
use Rattle.transcript_laws.specs.Transcript.{ScriptLine, lines_from, lines_of_scripts}
use Rattle.transcript_cut.specs.Spans.{script_of}
use Rattle.transcript_cut.specs.Cursors.{lines_behind}

module _ (scripts : List (List ℕ)) where
  -- those of the scripts from one on are those from the first byte of its script on
  pub whole_scripts : (session : ℕ) → lines_of_scripts session (drop session scripts) ≡ lines_behind scripts session 1 0
  whole_scripts session = by (less_or_not session (length scripts))
    where
      by : (session < length scripts) ⊎ (length scripts ≤ session) → lines_of_scripts session (drop session scripts) ≡ lines_behind scripts session 1 0
      by (inl low) = ap (lines_of_scripts session) (drop_more scripts session [] low)
      by (inr past) =
          ap (lines_of_scripts session) (drop_all session scripts past)
          ∙ ap (λ more. lines_from session 1 (lines_of []) ++ lines_of_scripts (session + 1) more) (sym (drop_all (session + 1) scripts (omega (arith, past))))
          ∙ ap (λ script. lines_from session 1 (lines_of script) ++ lines_of_scripts (session + 1) (drop (session + 1) scripts)) (sym (get_or_past scripts session [] past))

  -- those of all scripts are those from a first place on
  pub all_lines : (session number from : ℕ) → session ≡ 0 → number ≡ 1 → from ≡ 0 → lines_of_scripts 0 scripts ≡ lines_behind scripts session number from
  all_lines session number from first one start =
      whole_scripts 0 ∙ ap (λ k. lines_behind scripts k 1 0) (sym first) ∙ ap (λ k. lines_behind scripts session k 0) (sym one) ∙ ap (λ k. lines_behind scripts session number k) (sym start)

  -- where none is left of a script
  pub next_script : (session number from : ℕ) → lines_from session number (lines_of (drop from (script_of scripts session))) ≡ [] → lines_behind scripts session number from ≡ lines_behind scripts (session + 1) 1 0
  next_script session number from none = ap (λ ls. ls ++ lines_of_scripts (session + 1) (drop (session + 1) scripts)) none ∙ whole_scripts (session + 1)

  -- behind the last script
  pub no_script : (session number from : ℕ) → length scripts ≤ session → lines_behind scripts session number from ≡ []
  no_script session number from past =
      ap (λ script. lines_from session number (lines_of (drop from script)) ++ lines_of_scripts (session + 1) (drop (session + 1) scripts)) (get_or_past scripts session [] past)
      ∙ ap (λ script. lines_from session number (lines_of script) ++ lines_of_scripts (session + 1) (drop (session + 1) scripts)) (drop_all from [] (omega arith))
      ∙ ap (lines_of_scripts (session + 1)) (drop_all (session + 1) scripts (omega (arith, past)))

  -- the next line of a script is the next of them
  pub next_line : (session number from : ℕ) (line : ScriptLine) (more : List ScriptLine) → lines_from session number (lines_of (drop from (script_of scripts session))) ≡ line ∷ more
      → lines_behind scripts session number from ≡ line ∷ (more ++ lines_of_scripts (session + 1) (drop (session + 1) scripts))
  next_line session number from line more is = ap (λ ls. ls ++ lines_of_scripts (session + 1) (drop (session + 1) scripts)) is
