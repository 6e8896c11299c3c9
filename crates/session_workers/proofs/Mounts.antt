-- Scripts where one mount has a name.
use Rattle.std.proofs.Common.{ℕ, Bool, true, false, cond, List, [], ◌∷◌, map, Some, None}
use Rattle.std.specs.List.{AllByRecursion}
use Rattle.history.specs.Alone.{IsOn}
use Rattle.history.specs.Bound.{IsWithin}
use Rattle.session_runs.specs.Meanings.{line_of_bytes}
use Rattle.session_runs.proofs.Laws.{bytes_of_mount}
use Rattle.script_lines.specs.Script.{lines_of, is_blank}
use Rattle.serial_runs.specs.Runs.{AreOfMount}
use Rattle.session_runs.specs.Scripts.{asked_line, asked_by}

module _ (mount : List ℕ) where
  one_on : (blank : Bool) (line : List ℕ) → IsOn mount (cond blank None (Some (line_of_bytes (mount ∷ []) line)))
  one_on true line = tt
  one_on false line = (bytes_of_mount mount line).0

  one_within : (blank : Bool) (line : List ℕ) → IsWithin (cond blank None (Some (line_of_bytes (mount ∷ []) line)))
  one_within true line = tt
  one_within false line = (bytes_of_mount mount line).1

  each_on : (lines : List (List ℕ)) → AllByRecursion (IsOn mount) (map (asked_line (mount ∷ [])) lines)
  each_on [] = tt
  each_on (line ∷ lines) = (one_on (is_blank line) line, each_on lines)

  each_within : (lines : List (List ℕ)) → AllByRecursion IsWithin (map (asked_line (mount ∷ [])) lines)
  each_within [] = tt
  each_within (line ∷ lines) = (one_within (is_blank line) line, each_within lines)

  -- where one mount has a name, scripts ask for stored arrays of that mount alone, and bring in no array of their own
  pub of_mount : (scripts : List (List ℕ)) → AreOfMount mount (map (asked_by (mount ∷ [])) scripts)
  of_mount [] = record { on_mount = tt; within = tt }
  of_mount (script ∷ scripts) = let rest = of_mount scripts in record { on_mount = (each_on (lines_of script), rest.on_mount); within = (each_within (lines_of script), rest.within) }
