-- What leaves ask for.
use Rattle.std.specs.Prelude.{◌≡◌, ℕ, List, [], ◌∷◌, ◌++◌, Option, Some, None, Ok, Err, false}
use Rattle.cells.specs.Dense.{IsDense}
use Rattle.chunk_forms.specs.Made.{form_made}
use Rattle.chunk_forms.specs.Metadata.{IsMetadata, is_local}
use Rattle.chunk_forms.specs.declared.form.Form.{Form}
use Rattle.chunk_forms.specs.declared.form.Want.{Want}
use Rattle.history.specs.Leaves.{Leaf}
use Rattle.history.specs.Legal.{IsMount}
use Rattle.history.specs.Lines.{SpecLeaf, given, stored}
use Rattle.stated_arrays.specs.declared.asked.Asked.{Asked}
use Rattle.stated_arrays.specs.declared.asked.Wanted.{Wanted}
use Rattle.stated_arrays.specs.declared.asked.Wanted.TheVariants.{Stored, Given}

-- a stored leaf
abbrev pub leaf_asked : Asked → Leaf
leaf_asked asked = record { mount = asked.mount; path = asked.path; want = asked.want; may_open = asked.may_open; may_create = asked.may_create }

-- a leaf, of no node
abbrev pub wanted_leaf : Wanted → SpecLeaf
wanted_leaf (Stored asked) = stored [] (leaf_asked asked)
wanted_leaf (Given start) = given start

-- where it lies
abbrev pub location_asked : Asked → List ℕ
location_asked asked = asked.mount ++ 47 ∷ asked.path

-- a stored one lies on a mount, and numbers are those of a shape's cells
abbrev pub IsSoundWanted : Wanted → Type 0
IsSoundWanted (Stored asked) = IsMount asked.mount
IsSoundWanted (Given start) = IsDense start

-- the metadata of a stored array as it is asked, or that this doesn't determine it
abbrev pub IsMadeBy : Want → Option Form → Type 0
IsMadeBy want (Some form) = (form_made want ≡ Ok form) × (is_local form ≡ false) × IsMetadata form
IsMadeBy want None = (member : List ℕ) × (form_made want ≡ Err member)
