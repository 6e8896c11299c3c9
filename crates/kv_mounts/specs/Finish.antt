-- What finishing each mount leaves.
use Rattle.std.specs.Prelude.{◌≡◌, ◌⊎◌, ◌<◌, ◌≤◌, ℕ, ◌+◌, List, [], ◌∷◌, if◌then◌else◌}
use Rattle.std.specs.List.{AllZip}
use Rattle.kv_face.specs.Store.{finished, failing}
use Rattle.kv_mounts.specs.Parts.{Part}
use Rattle.kv_mounts.specs.Union.{has_failed}

-- places of mounts, and for how many there is room
pub record Places : Type 0 where
  pub places : List ℕ
  pub room : ℕ

-- a store after `finish`: it stands finished, or failed and counts a fault more; all else is as it was
pub record IsFinished (old new : Part) : Type 0 where
  pub kept : new ≡ record old { faults = new.faults; standing = new.standing }
  pub closed : (new.standing ≡ finished) ⊎ (new.standing ≡ failing)
  pub later : old.faults ≤ new.faults
  pub cause : new.standing ≡ failing → old.faults < new.faults

-- each store was finished
abbrev pub AreFinished : List Part → List Part → Type 0
AreFinished old new = AllZip IsFinished old new

-- the places from the first one on of the mounts whose stores stand failed
abbrev pub failed_from : ℕ → List Part → List ℕ
failed_from first [] = []
failed_from first (p ∷ ps) = if has_failed p then first ∷ failed_from (first + 1) ps else failed_from (first + 1) ps

-- the places of the mounts whose stores stand failed, in order
abbrev pub failed_places : List Part → List ℕ
failed_places parts = failed_from 0 parts
