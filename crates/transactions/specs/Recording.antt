-- What a transaction has recorded beside its events, so that it may be committed.
use Rattle.std.specs.Prelude.{◌≡◌, ℕ, map, Some, IsTrue, Contains}
use Rattle.std.specs.List.{AllByRecursion, IsDistinct}
use Rattle.history.specs.Chunks.{Chunk, is_chunk}
use Rattle.history.specs.Commit.{Transaction, kept_ops}
use Rattle.history.specs.History.{History}
use Rattle.history.specs.Legal.{viewed}
use Rattle.history.specs.Reads.{Marks, footprint_of, has_mark}
use Rattle.history.specs.Staged.{IsStaged, IsTransaction}
use Rattle.history.specs.declared.event.Op.{Op}
use Rattle.kv_face.specs.Store.{Contents}
use Rattle.stack_driver.specs.Conditions.{IsView}
use Rattle.chunk_fetches.specs.Agreement.{Opening}

-- the operation's view is one
abbrev pub IsOfView : Op → Type 0
IsOfView op = IsView (viewed op)

-- the marks are of the chunks that operations read before they wrote the cell, one for each
pub record AreOfFootprint (events : History) (t : Transaction) : Type 0 where
  pub marked : (c : Chunk) → Contains (footprint_of events t.ops) c → IsTrue (has_mark t.marks c)
  pub needed : AllByRecursion (λ m. Contains (footprint_of events t.ops) m.0) t.marks
  pub once : IsDistinct is_chunk (map (λ (m : Chunk × ℕ). m.0) t.marks)

-- each operation has a whole view and a word for each of its cells, reads are there under repeatable read alone, each chunk of the
-- footprint has its mark, and what was read stands by the marks where the store told its contents at the start
pub record IsRecorded (opening : Opening) (events : History) (t : Transaction) : Type 0 where
  pub views : AllByRecursion IsOfView t.ops
  pub sound : AllByRecursion IsStaged t.ops
  pub modes : kept_ops t ≡ t.ops
  pub footprint : AreOfFootprint events t
  pub reads : (start : Contents) → opening.store.contents ≡ Some start → IsTransaction start events t
