-- The plans of all writes of a commit.
use Rattle.std.specs.Prelude.{◌≡◌, ◌⊎◌, ◌<◌, ℕ, ◌+◌, List, [], ◌∷◌, ◌++◌, length, map, Some}
use Rattle.chunk_forms.specs.declared.form.Damage.{Damage}
use Rattle.kv_face.specs.Store.{Contents}
use Rattle.history.specs.History.{History}
use Rattle.history.specs.Arrays.{Known, known_after, chunk_shape}
use Rattle.history.specs.Own.{fault}
use Rattle.history.specs.ReadRows.{mount_of}
use Rattle.chunk_plans.specs.Laid.{IsCovered}
use Rattle.chunk_plans.specs.Agreement.{Opening, Agrees}
use Rattle.chunk_plans.specs.Fetches.{IsDamagedThere}
use Rattle.chunk_plans.specs.Log.{Log}
use Rattle.chunk_plans.specs.Seen.{StoreSeen}
use Rattle.chunk_plans.specs.declared.plan.Planned.{Planned}
use Rattle.chunk_plans.specs.Leaving.{HasNumber, IsLeftOf}
use Rattle.chunk_plans.specs.declared.write.ChunkWrite.{ChunkWrite}
use Rattle.chunk_plans.specs.Writes.{IsPlanOf, IsReadyWrite, chunk_of_write}
use Rattle.commits.specs.Writes.{stored_write_keys}

-- the plan of a write, for the event of a number
pub record IsPlannedBy (store : StoreSeen) (log : Log) (number : ℕ) (w : ChunkWrite) (p : Planned) : Type 0 where
  pub array : p.array ≡ w.array
  pub chunk : p.chunk.now ≡ w.chunk.now
  pub key : p.key ≡ w.key
  pub left : (k : Known) → known_after log.events w.array ≡ Some k → IsLeftOf k (chunk_of_write w) p.left
  pub numbered : HasNumber number p.left
  pub plan : (opening : Opening) (start : Contents) (k : Known) → Agrees opening store log → opening.store.contents ≡ Some start → known_after log.events w.array ≡ Some k
      → IsReadyWrite start log k w → IsPlanOf start log.events number k w p.left

-- the plans of writes, each for an event so many numbers behind that of the one before
abbrev pub ArePlannedBy : StoreSeen → Log → ℕ → ℕ → List ChunkWrite → List Planned → Type 0
ArePlannedBy store log number step [] [] = Unit {0}
ArePlannedBy store log number step [] (p ∷ plans) = ⊥
ArePlannedBy store log number step (w ∷ writes) [] = ⊥
ArePlannedBy store log number step (w ∷ writes) (p ∷ plans) = IsPlannedBy store log number w p × ArePlannedBy store log (number + step) step writes plans

-- the chunk of a write is damaged, and the write doesn't cover it
pub record IsDamagedWrite (store : StoreSeen) (log : Log) (w : ChunkWrite) (key : List ℕ) (cause : Damage) : Type 0 where
  pub there : IsDamagedThere store log (chunk_of_write w) key cause
  pub partly : (k : Known) → known_after log.events w.array ≡ Some k → ¬ (IsCovered k.shape (chunk_shape k.info) w.chunk.now w.staged.now)

-- the first of the writes that can't be planned for damage; those before it are planned
abbrev pub IsFirstDamaged : StoreSeen → Log → ℕ → ℕ → List ChunkWrite → List ℕ → Damage → Type 0
IsFirstDamaged store log number step [] key cause = ⊥
IsFirstDamaged store log number step (w ∷ writes) key cause =
    IsDamagedWrite store log w key cause ⊎ ((p : Planned) × IsPlannedBy store log number w p × IsFirstDamaged store log (number + step) step writes key cause)

-- one of these arrays lies on the mount
abbrev pub IsAmongOn : History → List ℕ → List ℕ → Type 0
IsAmongOn events [] mount = ⊥
IsAmongOn events (a ∷ arrays) mount = ((k : Known) × (known_after events a ≡ Some k) × (mount_of k.info.home ≡ Some mount)) ⊎ IsAmongOn events arrays mount

abbrev pub write_arrays : List ChunkWrite → List ℕ
write_arrays writes = map (λ (w : ChunkWrite). w.array) writes

-- a store call for one of these arrays failed, which one event more tells
pub record HasFailedFor (owner : ℕ) (arrays : List ℕ) (store next : StoreSeen) (events later : History) (event : ℕ) : Type 0 where
  pub mount : List ℕ
  pub among : IsAmongOn events arrays mount
  pub rose : store.faults < next.faults
  pub added : later ≡ events ++ fault owner mount ∷ []
  pub number : event ≡ length events + 1

-- an array of the writes lies on the mount, or no store holds any of them
abbrev pub IsMountFor : History → List ChunkWrite → List ℕ → Type 0
IsMountFor events writes mount = IsAmongOn events (write_arrays writes) mount ⊎ (stored_write_keys events writes ≡ [])
