-- How a read is refused by the history.
use Rattle.std.specs.Prelude.{◌≡◌, ℕ, List, false, Option, Some, None}
use Rattle.stack_driver.specs.declared.view.View.{View}
use Rattle.history.specs.declared.array.Home.{Home}
use Rattle.history.specs.declared.array.Home.TheVariants.{Zarr, N5, Zarr3, Local}
use Rattle.history.specs.History.{History}
use Rattle.history.specs.Arrays.{Known, known_after}
use Rattle.history.specs.Chunks.{Chunk}
use Rattle.history.specs.Answers.{Text}
use Rattle.history.specs.Commit.{Key, Transaction}
use Rattle.history.specs.Reads.{Marks, has_mark}
use Rattle.history.specs.Refusals.{IsNeeded, IsShrunkRead}
use Rattle.history.specs.Shown.{AreMarked, after_read}

-- a read names a cell that was outside its array's shape when its chunk was read, by some marks that the read may have
pub record IsShrunkBy (events : History) (seen : ℕ) (t : Transaction) (view : View) (key : Key) (now : ℕ) : Type 0 where
  pub marks : Marks
  pub marked : AreMarked events seen t view marks
  pub shrunk : IsShrunkRead events marks t view key now

-- what becomes of a transaction that reads; a read outside of one leaves none
abbrev pub with_read : Option Transaction → View → List ℕ → Marks → Option Transaction
with_read None view words marks = None
with_read (Some t) view words marks = Some (after_read t view words marks)

-- the mount on which a stored array lies; a local one lies on none
abbrev pub mount_of : Home → Option Text
mount_of (Zarr mount path meta) = Some mount
mount_of (N5 mount path meta) = Some mount
mount_of (Zarr3 mount path meta) = Some mount
mount_of (Local start) = None

-- the array lies on the mount
abbrev pub IsOnMount : Text → Option Known → Type 0
IsOnMount mount None = ⊥
IsOnMount mount (Some k) = mount_of k.info.home ≡ Some mount

-- a read fetches a chunk of the mount: one that it needs and has no mark for
pub record IsFetched (events : History) (t : Transaction) (view : View) (mount : Text) : Type 0 where
  pub chunk : Chunk
  pub needed : IsNeeded events t view chunk
  pub unmarked : has_mark t.marks chunk ≡ false
  pub on_mount : IsOnMount mount (known_after events chunk.array)
