-- How a transaction that its session tries to commit ends.
use Rattle.std.specs.Prelude.{◌≡◌, ℕ, List, [], ◌∷◌, take, drop, false, Some, None, IsTrue, Contains}
use Rattle.std.specs.FinMap as finmap
use Rattle.std.specs.List.{AllByRecursion}
use Rattle.history.specs.Words.{is_inside}
use Rattle.stack_driver.specs.Targets.{Cell}
use Rattle.history.specs.declared.event.Event.{Event}
use Rattle.history.specs.History.{History}
use Rattle.history.specs.Answers as body
use Rattle.history.specs.Answers.{Body, Text}
use Rattle.history.specs.Chunks.{Chunk, key_of}
use Rattle.history.specs.Commit.{Key, Transaction, done, kept_ops, read_generation}
use Rattle.history.specs.Generations.{IsChange, IsForeignChange}
use Rattle.history.specs.Legal.{AreReads, is_present}
use Rattle.history.specs.Own.{fault, resized_event}
use Rattle.history.specs.Plain.{plain_after}
use Rattle.history.specs.Reads.{Marks, mark_of, marked_world, footprint_of, is_put}
use Rattle.history.specs.Refusals.{metadata_key_at}
use Rattle.history.specs.Staged.{AreInShapes}
use Rattle.history.specs.Store.{resized_after}
use Rattle.history.specs.Writes.{puts_of}
use Rattle.serial_runs.specs.Numbered.{IsEvent}

-- committed, by the one event whose number is printed. Each cell that it writes lies in the shape that its array has behind all events
-- before this one. Each Read has the words of its view in the plain arrays there, once the transaction's own operations before it were
-- applied; and by this event the plain arrays get its Writes
pub record IsSerialCommit (history : History) (owner : ℕ) (t : Transaction) (numbers : List ℕ) : Type 0 where
  pub number : ℕ
  pub alone : numbers ≡ number ∷ []
  pub event : IsEvent history number (done owner t (kept_ops t) None)
  pub inside : AreInShapes event.before t.ops
  pub reads : AreReads (plain_after event.before).words [] (kept_ops t)

-- the event isn't a commit or a resize of this session
abbrev pub IsNoOwnChange : ℕ → Event → Type 0
IsNoOwnChange owner e = e.owner ≡ owner → ¬ IsChange e.kind

-- from so many events on up to the one of this number, the session made no commit and no resize
abbrev pub IsCalm : ℕ → History → ℕ → ℕ → Type 0
IsCalm owner history from number = AllByRecursion (IsNoOwnChange owner) (drop from (take number history))

-- a conflict: under repeatable read, the chunk of this key was read before the transaction itself had written what it read there. Each
-- chunk was read at a mark, behind so many events, and the transaction's reads are those of the arrays as they were at these marks; the
-- session changed nothing behind them.
-- `read` is the last event up to its mark that touched the chunk, and event `now`, behind `read`, is a commit or a resize of another
-- session that touches it
pub record IsConflictWithOther (history : History) (owner : ℕ) (t : Transaction) (key : Key) (read now : ℕ) : Type 0 where
  pub asked : IsTrue t.mode.repeatable_read
  pub chunk : Chunk
  pub named : key_of history chunk ≡ Some key
  pub was_read : Contains (footprint_of history t.ops) chunk
  pub marks : Marks
  pub stands : AreReads (marked_world finmap.empty history (mark_of marks)) [] t.ops
  pub calm : AllByRecursion (λ (m : Chunk × ℕ). IsCalm owner history m.1 now) marks
  pub read_at : read ≡ read_generation history marks chunk
  pub changed : IsForeignChange owner history chunk read now

-- shrunk: behind some of the events a written cell lies outside its array's shape, and event `now` is the last of these that gave the
-- array a shape; the cell doesn't lie in it. The key is that of the array's metadata
pub record IsShrunkByEvent (history : History) (t : Transaction) (key : Key) (now : ℕ) : Type 0 where
  pub cell : Cell
  pub written : IsTrue (is_put (puts_of t.ops) cell)
  pub named : metadata_key_at history cell ≡ Some key
  pub moment : ℕ
  pub absent : is_present (take moment history) cell ≡ false
  pub last : now ≡ resized_after (take moment history) cell.array
  pub resizer : ℕ
  pub shape : List ℕ
  pub event : IsEvent history now (resized_event resizer cell.array shape)
  pub outside : is_inside shape cell.index ≡ false

-- a failed store: nothing was done, and the event that is printed is the failed call of this session
pub record IsFailed (history : History) (owner number : ℕ) (done_before : List ℕ) : Type 0 where
  pub nothing : done_before ≡ []
  pub mount : Text
  pub event : IsEvent history number (fault owner mount)

-- an attempt ends in one of these ways, and never in another
abbrev pub IsEnd : History → ℕ → Transaction → Body → Type 0
IsEnd history owner t (body.committed numbers) = IsSerialCommit history owner t numbers
IsEnd history owner t (body.conflict key read now) = IsConflictWithOther history owner t key read now
IsEnd history owner t (body.shrunk key now) = IsShrunkByEvent history t key now
IsEnd history owner t (body.store_failed number done_before listed) = IsFailed history owner number done_before
IsEnd history owner t body.memory = Unit {0}
IsEnd history owner t answer = ⊥
