-- The key of a stored array's metadata.
use Rattle.std.proofs.Common.{◌≡◌, ◌≢◌, ℕ, List, None, false}
use Rattle.std.specs.Option.{option_map}
use Rattle.state_laws.specs.FormNames.{metadata_name}
use Rattle.state_laws.specs.declared.Home.{Home}
use Rattle.state_laws.specs.declared.Home.TheVariants.{Zarr, N5, Zarr3, Local}
use Rattle.state_laws.specs.Arrays.{form_of, is_local}

-- a stored array's metadata has a name
pub named_if_stored : (home : Home) (f : List ℕ → List ℕ) → is_local home ≡ false → option_map f (metadata_name (form_of home)) ≢ None
named_if_stored (Zarr mount path meta) f stored = λ none. absurd (cc)
named_if_stored (N5 mount path meta) f stored = λ none. absurd (cc)
named_if_stored (Zarr3 mount path meta) f stored = λ none. absurd (cc)
named_if_stored (Local start) f stored = λ none. absurd (cc)
