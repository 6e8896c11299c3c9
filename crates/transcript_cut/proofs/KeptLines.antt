-- What is kept of lines, by their places.
use Rattle.std.proofs.Common.{◌≡◌, ℕ, zero, suc, List, [], ◌∷◌, Option, Some, None, length, set, refl, ap, subst}
use Rattle.std.specs.List.{slice_get}
use Rattle.transcript_laws.specs.Transcript.{ScriptLine}
use Rattle.transcript_laws.specs.declared.Command.{Command}
use Rattle.transcript_cut.specs.Cuttings.{lines_kept}
use Rattle.transcript_cut.specs.Keeping.{IsCommandOf, AreCommandsOf}
use Rattle.transcript_cut.specs.Spans.{line_at}
use Rattle.transcript_cut.specs.declared.said.Said.{Said}

module _ (scripts : List (List ℕ)) where
  -- as much is kept as there are lines
  pub commands_count : (said : List Said) (commands : List (Option Command)) → AreCommandsOf (lines_kept scripts said) commands → length commands ≡ length said
  commands_count [] [] are = refl
  commands_count [] (c ∷ commands) are = absurd are
  commands_count (s ∷ said) [] are = absurd are
  commands_count (s ∷ said) (c ∷ commands) are = ap suc (commands_count said commands are.1)

  -- what is kept at a place is kept of the line there
  pub command_at : (said : List Said) (commands : List (Option Command)) (k : ℕ) (s : Said) (kept : Option Command) → AreCommandsOf (lines_kept scripts said) commands → slice_get said k ≡ Some s → slice_get commands k ≡ Some kept → IsCommandOf (line_at scripts s.line) kept
  command_at [] commands k s kept are at there = absurd (cc)
  command_at (r ∷ said) [] k s kept are at there = absurd are
  command_at (r ∷ said) (c ∷ commands) zero s kept are at there =
      let one : r ≡ s = cc in
      let two : c ≡ kept = cc in
      subst (λ (p : Said × Option Command). IsCommandOf (line_at scripts p.0.line) p.1) (λ i. (one i, two i)) are.0
  command_at (r ∷ said) (c ∷ commands) (suc k) s kept are at there = command_at said commands k s kept are.1 at there

  -- what is kept of the others is left where nothing is kept of a line any more
  pub commands_taken : (lines : List ScriptLine) (commands : List (Option Command)) (k : ℕ) → AreCommandsOf lines commands → AreCommandsOf lines (set commands k None)
  commands_taken [] [] k are = tt
  commands_taken [] (c ∷ commands) k are = absurd are
  commands_taken (l ∷ lines) [] k are = absurd are
  commands_taken (l ∷ lines) (c ∷ commands) zero are = (tt, are.1)
  commands_taken (l ∷ lines) (c ∷ commands) (suc k) are = (are.0, commands_taken lines commands k are.1)
