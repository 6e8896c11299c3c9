-- What is sound of a command that opens nothing is so whatever the names of mounts are.
use Rattle.std.proofs.Common.{ℕ, List, Result, Ok, Err}
use Rattle.std.specs.Prelude.{IfOk}
use Rattle.line_forms.specs.Form.{IsSoundOther, IsSound}
use Rattle.line_forms.specs.declared.command.Command.{Command}
use Rattle.line_forms.specs.declared.command.Command.TheVariants.{Open, View, Join, Read, Write, Begin, Commit, Abort, Resize, Resolve}

pub sound_other : (names : List (List ℕ)) (command : Command) → IsSoundOther command → IsSound names command
sound_other names (Open name plan) h = absurd h
sound_other names (View name of transform steps) h = h
sound_other names (Join name form layers transform steps) h = h
sound_other names (Read name steps down) h = h
sound_other names (Write name steps values) h = h
sound_other names (Begin atomic repeatable_read) h = h
sound_other names Commit h = h
sound_other names Abort h = h
sound_other names (Resize name shape) h = h
sound_other names (Resolve name) h = h

-- the same of what a line gives
pub sound_if : {E : Type 0} (names : List (List ℕ)) (r : Result Command E) → IfOk r IsSoundOther → IfOk r (IsSound names)
sound_if names (Ok command) h = sound_other names command h
sound_if names (Err e) h = tt
