-- What a read shows a transaction, and the marks that it leaves.
use Rattle.std.specs.Prelude.{◌≡◌, ◌≤◌, ℕ, List, [], ◌∷◌, ◌++◌, length, map, false, Some, IsTrue, if◌then◌else◌}
use Rattle.std.specs.List.{list_any, AllByRecursion, IsDistinct}
use Rattle.stack_driver.specs.declared.view.View.{View}
use Rattle.history.specs.declared.event.Op.TheVariants.{Read}
use Rattle.history.specs.History.{History}
use Rattle.history.specs.Chunks.{Chunk, is_chunk, chunk_of}
use Rattle.history.specs.Reads.{Marks, mark_of, has_mark, unwritten, visible_values}
use Rattle.history.specs.Commit.{Fixed, Transaction}

-- a chunk was read within these numbers of events
abbrev pub IsMarkWithin : ℕ → ℕ → Chunk × ℕ → Type 0
IsMarkWithin low high m = (low ≤ m.1) × (m.1 ≤ high)

-- each chunk that the view needs has a mark; new ones are of such chunks that had none, one for each, and lie between what was seen
-- before and what is seen now
pub record AreMarked (events : History) (seen : ℕ) (t : Transaction) (view : View) (marks : Marks) : Type 0 where
  pub fresh : Marks
  pub marked : marks ≡ t.marks ++ fresh
  pub within : AllByRecursion (IsMarkWithin seen (length events)) fresh
  pub needed : AllByRecursion (λ m. IsTrue (list_any (λ x. is_chunk (chunk_of events x) m.0) (unwritten t.ops view))) fresh
  pub new : AllByRecursion (λ m. has_mark t.marks m.0 ≡ false) fresh
  pub once : IsDistinct is_chunk (map (λ (m : Chunk × ℕ). m.0) fresh)
  pub each : AllByRecursion (λ x. IsTrue (has_mark marks (chunk_of events x))) (unwritten t.ops view)

-- a read gives what the transaction sees
pub record IsRead (fixed : Fixed) (events : History) (seen : ℕ) (t : Transaction) (view : View) (words : List ℕ) (marks : Marks) : Type 0 where
  pub marked : AreMarked events seen t view marks
  pub shown : map Some words ≡ visible_values fixed.start events (mark_of marks) t.ops view

-- a transaction after a read: under repeatable read the words and the marks are kept
abbrev pub after_read : Transaction → View → List ℕ → Marks → Transaction
after_read t view words marks = if t.mode.repeatable_read then record t { ops = t.ops ++ Read view words ∷ []; marks = marks } else t
