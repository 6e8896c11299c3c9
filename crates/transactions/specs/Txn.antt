-- What a contract sees of a transaction.
use Rattle.std.specs.Prelude.{◌≡◌, ℕ, List, [], map, Option, Some, None, if◌then◌else◌}
use Rattle.std.specs.List.{slice_get}
use Rattle.std.specs.Str.{bytes_eq}
use Rattle.history.specs.Commit.{Transaction}
use Rattle.history.specs.Reads.{Marks}
use Rattle.history.specs.declared.event.Mode.{Mode}
use Rattle.history.specs.declared.event.Op.{Op}
use Rattle.chunk_fetches.specs.Found.{Id, found}
use Rattle.chunk_fetches.specs.Staging.{StagedChunk}
use Rattle.chunk_fetches.specs.Kept.{chunk_at, place_from}
use Rattle.chunk_fetches.specs.declared.kept.Kept.{Kept}

-- where it was begun, its flags and its operations, what is staged by these, and the chunks that it keeps, in the order of reading
pub record TxnSeen : Type 0 where
  pub line : ℕ
  pub mode : Mode
  pub ops : List Op
  pub staged : List StagedChunk
  pub kept : List Kept

-- the operations that a commit which failed had shared, none where there was no such commit
abbrev pub shared_ops : Option (List Op) → List Op
shared_ops None = []
shared_ops (Some ops) = ops

-- the marks of chunks that are kept
abbrev pub marks_of : List Kept → Marks
marks_of kept = map (λ (k : Kept). (chunk_at k.id, k.mark)) kept

-- the transaction as the history speaks of it
abbrev pub transaction_of : TxnSeen → Transaction
transaction_of t = record { line = t.line; mode = t.mode; ops = t.ops; marks = marks_of t.kept }

-- a place counts for an id where the chunk there has the id
abbrev pub if_named : Option Kept → List ℕ → ℕ → Option ℕ
if_named None id place = None
if_named (Some k) id place = if bytes_eq id k.id then Some place else None

abbrev pub counting : List Kept → List ℕ → Option ℕ → Option ℕ
counting kept id None = None
counting kept id (Some place) = if_named (slice_get kept place) id place

-- a table tells the places of the chunks that are kept, as far as its entries count
abbrev pub ArePlaces : List (Id × ℕ) → List Kept → Type 0
ArePlaces entries kept = (id : List ℕ) → counting kept id (found entries id) ≡ place_from 0 kept id
