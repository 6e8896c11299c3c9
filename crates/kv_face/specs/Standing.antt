-- The standing that a field tells.
use Rattle.kv_face.specs.Store.{Standing, opened, finished, failing}
use Rattle.kv_face.specs.declared.memory.State.{State}
use Rattle.kv_face.specs.declared.memory.State.TheVariants as state

abbrev pub standing_of : State → Standing
standing_of state.Opened = opened
standing_of state.Finished = finished
standing_of state.Failing = failing
