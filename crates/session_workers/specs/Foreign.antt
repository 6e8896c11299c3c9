-- What a conflict that a log tells names, whatever the stores tell.
use Rattle.std.specs.Prelude.{◌≡◌, ℕ, List, Some}
use Rattle.std.specs.List.{slice_get, AllByRecursion}
use Rattle.answer_text.specs.declared.answer.Answer.{Answer}
use Rattle.answer_text.specs.declared.answer.Body.{Body}
use Rattle.answer_text.specs.declared.answer.Body.TheVariants.{Conflict}
use Rattle.history.specs.History.{History}
use Rattle.serial_runs.specs.Foreign.{IsForeignConflict}

-- a conflict names the key of a chunk that event `now`, a commit, a key of one or a resize, of another session, touches; `read` is below `now`
abbrev pub IsForeignAnswer : ℕ → History → Body → Type 0
IsForeignAnswer owner history (Conflict key read now) = IsForeignConflict owner history key read now
IsForeignAnswer owner history answer = Unit {0}

-- so it is of each answer of each session
abbrev pub AreForeign : History → List (List Answer) → Type 0
AreForeign history logs = (k : ℕ) (log : List Answer) → slice_get logs k ≡ Some log → AllByRecursion (λ (a : Answer). IsForeignAnswer k history a.body) log
