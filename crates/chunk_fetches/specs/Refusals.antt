-- Refusals of looks.
use Rattle.std.specs.Prelude.{◌≡◌}
use Rattle.shared_state.specs.declared.FetchError.{FetchError}
use Rattle.shared_state.specs.declared.FetchError.TheVariants.{StoreFailed, Damaged, Memory}
use Rattle.chunk_fetches.specs.declared.error.LookError.{LookError}
use Rattle.chunk_fetches.specs.declared.error.LookError.TheVariants as look

-- a look is not refused for damaged bytes
abbrev pub IsNotDamaged : FetchError → Type 0
IsNotDamaged (StoreFailed event) = Unit {0}
IsNotDamaged (Damaged key cause) = ⊥
IsNotDamaged Memory = Unit {0}

-- the same refusal
abbrev pub IsSameRefusal : FetchError → LookError → Type 0
IsSameRefusal (StoreFailed event) e = e ≡ look.StoreFailed event
IsSameRefusal (Damaged key cause) e = ⊥
IsSameRefusal Memory e = e ≡ look.Memory
