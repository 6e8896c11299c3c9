use Rattle.std.proofs.Common.{◌≤◌, ℕ, take}
use Rattle.std.specs.Prelude.{All}
use Rattle.chunk_versions.specs.Marks.{IsShown}
use Rattle.chunk_versions.specs.Moments.{newest}
use Rattle.version_store.proofs.showing.shows_now.Given as goal

-- the cells so far are shown
abbrev pub invariant-loop-i : goal.invariant-loop-i
invariant-loop-i l = (m : ℕ) → newest l.chunk.touches ≤ m → All (IsShown l.chunk l.casts m) (take l.i l.asked)
