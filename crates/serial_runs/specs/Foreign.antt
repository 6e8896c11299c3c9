-- What a conflict names, whatever the store began with and however it makes its changes.
use Rattle.std.specs.Prelude.{◌≡◌, ℕ, List, Some}
use Rattle.std.specs.List.{slice_get, AllByRecursion}
use Rattle.history.specs.Answers as body
use Rattle.history.specs.Answers.{Body, Answer}
use Rattle.history.specs.Chunks.{Chunk, key_of}
use Rattle.history.specs.Commit.{Key}
use Rattle.history.specs.Generations.{IsForeignChange}
use Rattle.history.specs.History.{History}

-- event `now` is a commit or a resize of another session that touches the chunk of the key, behind event `read`
pub record IsForeignConflict (owner : ℕ) (history : History) (key : Key) (read now : ℕ) : Type 0 where
  pub chunk : Chunk
  pub named : key_of history chunk ≡ Some key
  pub changed : IsForeignChange owner history chunk read now

-- so it is, where the answer is a conflict
abbrev pub IsForeignAnswer : ℕ → History → Body → Type 0
IsForeignAnswer owner history (body.conflict key read now) = IsForeignConflict owner history key read now
IsForeignAnswer owner history answer = Unit {0}

-- so it is of each answer of each session
abbrev pub AreForeign : History → List (List Answer) → Type 0
AreForeign history logs = (k : ℕ) (log : List Answer) → slice_get logs k ≡ Some log → AllByRecursion (λ (a : Answer). IsForeignAnswer k history a.body) log
