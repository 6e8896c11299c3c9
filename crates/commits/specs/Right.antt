-- When a commit is right by what the store told at the start.
use Rattle.std.specs.Prelude.{◌≡◌, List, Some}
use Rattle.std.specs.List.{AllByRecursion}
use Rattle.kv_face.specs.Store.{Contents}
use Rattle.history.specs.declared.event.Op.{Op}
use Rattle.history.specs.Arrays.{Known, known_after}
use Rattle.history.specs.Legal.{IsLegalDone}
use Rattle.chunk_plans.specs.Agreement.{Opening, Agrees}
use Rattle.chunk_plans.specs.Log.{Log}
use Rattle.chunk_plans.specs.Seen.{StoreSeen}
use Rattle.chunk_plans.specs.declared.write.ChunkWrite.{ChunkWrite}
use Rattle.chunk_plans.specs.Writes.{IsReadyWrite}

-- the commit may follow, and what was prepared of its chunks and may be used is right
pub record IsRightCommit (start : Contents) (log : Log) (ops : List Op) (writes : List ChunkWrite) : Type 0 where
  pub legal : IsLegalDone start log.events ops
  pub ready : AllByRecursion (λ (w : ChunkWrite). (k : Known) → known_after log.events w.array ≡ Some k → IsReadyWrite start log k w) writes

-- behind a commit, a state agrees with each opening by which it was right
abbrev pub KeepsByCommit : StoreSeen → Log → List Op → List ChunkWrite → StoreSeen → Log → Type 0
KeepsByCommit store log ops writes next later =
    (opening : Opening) → Agrees opening store log → ((start : Contents) → opening.store.contents ≡ Some start → IsRightCommit start log ops writes) → Agrees opening next later

-- the state agrees with an opening by which the commit is right
abbrev pub IsStateByCommit : StoreSeen → Log → List Op → List ChunkWrite → Type 0
IsStateByCommit store log ops writes = (opening : Opening) × (Agrees opening store log × ((start : Contents) → opening.store.contents ≡ Some start → IsRightCommit start log ops writes))
