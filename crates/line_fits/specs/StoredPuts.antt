-- Whether a store call may fail that changes what operations write.
use Rattle.std.specs.Prelude.{◌≡◌, ◌<◌, ◌↔◌, ℕ, List, Bool, false, get_or, Some, Contains, IsTrue}
use Rattle.history.specs.Arrays.{Known, known_after}
use Rattle.history.specs.History.{History}
use Rattle.history.specs.ReadRows.{mount_of, IsOnMount}
use Rattle.history.specs.Writes.{Put}
use Rattle.event_replay.specs.declared.Piece.{Piece}
use Rattle.transcript_cut.specs.Transcript.{mount}

-- for each array of the history, whether it lies on the mount
pub record AreStored (events : History) (stored : List Bool) : Type 0 where
  pub each : (a : ℕ) (k : Known) → known_after events a ≡ Some k
      → IsTrue (get_or stored a false) ↔ (mount_of k.info.home ≡ Some mount)

-- so many arrays are there, this one among them, and it lies on the mount
pub record IsStoredAt (opened : ℕ) (stored : List Bool) (array : ℕ) : Type 0 where
  pub there : array < opened
  pub is : IsTrue (get_or stored array false)

-- some chunk is of such an array
pub record HasStoredPiece (opened : ℕ) (stored : List Bool) (pieces : List Piece) : Type 0 where
  pub piece : Piece
  pub among : Contains pieces piece
  pub of_stored : IsStoredAt opened stored (get_or piece.id 0 0)

-- some word is put in a stored array that is there
pub record PutsStored (before : History) (puts : List Put) : Type 0 where
  pub put : Put
  pub among : Contains puts put
  pub on_mount : IsOnMount mount (known_after before put.0.array)
