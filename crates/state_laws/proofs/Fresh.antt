-- An array that is about to enter the run: it may be opened, and its keys.
use Rattle.std.proofs.Common.{◌≡◌, ℕ, List, [], ◌∷◌, ◌++◌, codes, true, false, Some, refl, subst}
use Rattle.std.specs.Prelude.{count_by}
use Rattle.std.specs.FinMap as finmap
use Rattle.std.proofs.lemmas.List.{append_assoc}
use Rattle.history.specs.declared.Form.{Form}
use Rattle.history.specs.declared.Form.TheVariants as form
use Rattle.history.specs.declared.Want.{Want}
use Rattle.history.specs.declared.Want.TheVariants as want
use Rattle.history.specs.Metadata.{shape_of, is_local, IsMetadata, with_shape}
use Rattle.history.specs.Wants.{is_asked_form, metadata_name_asked}
use Rattle.stack_driver.specs.References.{IsReference}
use Rattle.array_homes.specs.Homes.{info_at, reference_of}
use Rattle.history.specs.History.{History}
use Rattle.history.specs.Arrays.{form_of}
use Rattle.history.specs.Chunks.{home_text, metadata_key}
use Rattle.history.specs.Leaves.{Leaf}
use Rattle.history.specs.Legal.{IsLegal, IsLegalOpening, IsMount, is_opening}
use Rattle.history.specs.Outcomes.{home_of, new_info}
use Rattle.history.specs.Places.{location, IsFree}
use Rattle.history.specs.ReadRows.{mount_of}
use Rattle.history.proofs.Laws.{legal_step, opening_legal}
use Rattle.state_laws.specs.Outline.{outline}
use Rattle.state_laws.proofs.Outline.{count-outline, free_outline, opening_of_outline}

-- its reference keeps the rules
pub reference_new : (number : ℕ) (mount path : List ℕ) (meta : Form) → is_local meta ≡ false → IsMetadata meta → IsReference (reference_of (info_at number mount path meta) (shape_of meta))
reference_new number mount path (form.Zarr meta) stored valid = record { shape = valid.shape; chunk = valid.chunks; ranks = valid.ranks; whole = λ run. absurd (cc) }
reference_new number mount path (form.N5 meta) stored valid = record { shape = valid.dimensions; chunk = valid.block; ranks = valid.ranks; whole = λ run. absurd (cc) }
reference_new number mount path (form.Zarr3 meta) stored valid = record { shape = valid.shape; chunk = valid.chunks; ranks = valid.ranks; whole = λ run. absurd (cc) }
reference_new number mount path form.Local stored valid = absurd (cc)

-- where it lies
pub location_new : (mount path : List ℕ) (meta : Form) → is_local meta ≡ false → location (home_of mount path meta) ≡ Some (mount ++ 47 ∷ path)
location_new mount path (form.Zarr meta) stored = refl
location_new mount path (form.N5 meta) stored = refl
location_new mount path (form.Zarr3 meta) stored = refl
location_new mount path form.Local stored = absurd (cc)

pub mount_new : (mount path : List ℕ) (meta : Form) → is_local meta ≡ false → mount_of (home_of mount path meta) ≡ Some mount
mount_new mount path (form.Zarr meta) stored = refl
mount_new mount path (form.N5 meta) stored = refl
mount_new mount path (form.Zarr3 meta) stored = refl
mount_new mount path form.Local stored = absurd (cc)

-- its metadata as it is opened
pub form_new : (mount path : List ℕ) (meta : Form) → is_local meta ≡ false → meta ≡ with_shape (form_of (home_of mount path meta)) (shape_of meta)
form_new mount path (form.Zarr meta) stored = refl
form_new mount path (form.N5 meta) stored = refl
form_new mount path (form.Zarr3 meta) stored = refl
form_new mount path form.Local stored = absurd (cc)

pub home_new : (mount path : List ℕ) (meta : Form) → is_local meta ≡ false → form_of (home_of mount path meta) ≡ meta
home_new mount path (form.Zarr meta) stored = refl
home_new mount path (form.N5 meta) stored = refl
home_new mount path (form.Zarr3 meta) stored = refl
home_new mount path form.Local stored = absurd (cc)

-- what was asked is stored
pub asked_stored : (want : Want) (meta : Form) → is_asked_form want meta ≡ true → is_local meta ≡ false
asked_stored w (form.Zarr meta) asked = refl
asked_stored w (form.N5 meta) asked = refl
asked_stored w (form.Zarr3 meta) asked = refl
asked_stored (want.Zarr w) form.Local asked = absurd (cc)
asked_stored (want.N5 w) form.Local asked = absurd (cc)
asked_stored (want.Zarr3 w) form.Local asked = absurd (cc)

-- the key of its metadata, behind what stands before its keys
text_new : (mount path name : List ℕ) → (mount ++ 47 ∷ path ++ 47 ∷ []) ++ name ≡ mount ++ 47 ∷ path ++ 47 ∷ name
text_new mount path name = append_assoc (mount ++ 47 ∷ path) (47 ∷ []) name

pub key_new : (number n : ℕ) (mount path : List ℕ) (want : Want) (meta : Form) → is_asked_form want meta ≡ true
    → (home_text (home_of mount path meta) n ++ metadata_name_asked want ≡ mount ++ 47 ∷ path ++ 47 ∷ metadata_name_asked want)
    × (metadata_key (record { info = info_at number mount path meta; opened = n; shape = shape_of meta }) ≡ Some (home_text (home_of mount path meta) n ++ metadata_name_asked want))
key_new number n mount path (want.Zarr w) (form.Zarr meta) asked = (text_new mount path (codes ".zarray"), refl)
key_new number n mount path (want.N5 w) (form.N5 meta) asked = (text_new mount path (codes "attributes.json"), refl)
key_new number n mount path (want.Zarr3 w) (form.Zarr3 meta) asked = (text_new mount path (codes "zarr.json"), refl)
key_new number n mount path (want.Zarr w) (form.N5 meta) asked = absurd (cc)
key_new number n mount path (want.Zarr w) (form.Zarr3 meta) asked = absurd (cc)
key_new number n mount path (want.Zarr w) form.Local asked = absurd (cc)
key_new number n mount path (want.N5 w) (form.Zarr meta) asked = absurd (cc)
key_new number n mount path (want.N5 w) (form.Zarr3 meta) asked = absurd (cc)
key_new number n mount path (want.N5 w) form.Local asked = absurd (cc)
key_new number n mount path (want.Zarr3 w) (form.Zarr meta) asked = absurd (cc)
key_new number n mount path (want.Zarr3 w) (form.N5 meta) asked = absurd (cc)
key_new number n mount path (want.Zarr3 w) form.Local asked = absurd (cc)

-- it may be opened at a free location
pub opening_new : (h : History) (leaf : Leaf) (meta : Form) → IsLegal finmap.empty (outline h) → IsFree h (leaf.mount ++ 47 ∷ leaf.path) → IsMount leaf.mount → IsMetadata meta → is_local meta ≡ false
    → IsLegalOpening h (new_info (count_by is_opening h) leaf meta)
opening_new h leaf meta legal free mount valid stored =
    let grown = opening_legal finmap.empty (outline h) 0 leaf meta legal (free_outline h (leaf.mount ++ 47 ∷ leaf.path) free) mount valid (location_new leaf.mount leaf.path meta stored) in
    let here = legal_step finmap.empty (outline h) _ grown in
    subst (λ n. IsLegalOpening h (new_info n leaf meta)) (count-outline h) (opening_of_outline h (new_info (count_by is_opening (outline h)) leaf meta) here.1)
