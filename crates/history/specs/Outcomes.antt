-- What opening one leaf of a view gives, after a history.
use Rattle.std.specs.Prelude.{◌≡◌, ℕ, List, [], ◌∷◌, Option, Some, None, Result, Ok, Err, if◌then◌else◌}
use Rattle.std.specs.FinMap as finmap
use Rattle.cells.specs.declared.dtype.Dtype.TheVariants.{U8}
use Rattle.kv_face.specs.Store.{Contents}
use Rattle.chunk_forms.specs.declared.form.Form.{Form}
use Rattle.chunk_forms.specs.declared.form.Form.TheVariants as form
use Rattle.chunk_forms.specs.Metadata.{shape_of, dtype_of, fill_of}
use Rattle.history.specs.declared.array.ArrayInfo.{ArrayInfo}
use Rattle.history.specs.declared.array.Home.{Home}
use Rattle.history.specs.declared.array.Home.TheVariants.{Zarr, N5, Zarr3, Local}
use Rattle.history.specs.History.{History}
use Rattle.history.specs.Arrays.{Known, form_of}
use Rattle.history.specs.Places.{taken, array_at}
use Rattle.chunk_forms.specs.Wants.{mismatch_of}
use Rattle.history.specs.Leaves.{Leaf, location_of_leaf, metadata_key_asked, Stored, nothing, unreadable, readable, IsStoredAs}
use Rattle.chunk_forms.specs.Made.{form_made}

-- what comes of opening a leaf
pub data Outcome : Type 0 where
  -- an array of the history lies above or below, at this location, the least of these
  path_taken : (other : List ℕ) → Outcome
  -- the store has bytes at the metadata key that are no metadata
  bad_metadata : (bytes : List ℕ) → Outcome
  -- it is found, and may not be opened
  exists : Outcome
  -- it is found, and this member differs from what is asked
  mismatch : (member : List ℕ) → Outcome
  -- an array of the history
  there : (array : Known) → Outcome
  -- a new array with the stored metadata
  found : (meta : Form) → Outcome
  -- it isn't found, and may not be made
  not_found : Outcome
  -- it is to be made, and this member isn't determined
  bad_want : (member : List ℕ) → Outcome
  -- a new array with this metadata
  made : (meta : Form) → Outcome

-- the outcome where no member differs from what is asked; else the first that does
abbrev pub unless_differs : Option (List ℕ) → Outcome → Outcome
unless_differs None outcome = outcome
unless_differs (Some member) outcome = mismatch member

-- a new array with this metadata, or the member that isn't determined
abbrev pub making_outcome : Result Form (List ℕ) → Outcome
making_outcome (Ok meta) = made meta
making_outcome (Err member) = bad_want member

-- the outcome where the history has no array at the place
abbrev pub outcome_in_store : Leaf → Stored → Outcome
outcome_in_store leaf nothing = if leaf.may_create then making_outcome (form_made leaf.want) else not_found
outcome_in_store leaf (unreadable bytes) = bad_metadata bytes
outcome_in_store leaf (readable meta) = if leaf.may_open then unless_differs (mismatch_of leaf.want meta (shape_of meta)) (found meta) else exists

-- the outcome where the history may have an array at the place, with its present shape
abbrev pub outcome_at : Leaf → Stored → Option Known → Outcome
outcome_at leaf stored None = outcome_in_store leaf stored
outcome_at leaf stored (Some k) = if leaf.may_open then unless_differs (mismatch_of leaf.want (form_of k.info.home) k.shape) (there k) else exists

-- the outcome where no array lies above or below; else the least location of one that does
abbrev pub unless_taken : Option (List ℕ) → Outcome → Outcome
unless_taken None outcome = outcome
unless_taken (Some other) outcome = path_taken other

-- the first of these that holds, by what the store has at the metadata key
abbrev pub opening_outcome : History → Leaf → Stored → Outcome
opening_outcome events leaf stored = unless_taken (taken events (location_of_leaf leaf)) (outcome_at leaf stored (array_at events (location_of_leaf leaf)))

-- the outcome over a store that begins so; where the history has the array, the store isn't looked at
pub record IsOutcome (start : Contents) (events : History) (leaf : Leaf) (outcome : Outcome) : Type 0 where
  pub stored : Stored
  pub read : array_at events (location_of_leaf leaf) ≡ None → IsStoredAs leaf.want (finmap.get start (metadata_key_asked leaf)) stored
  pub same : outcome ≡ opening_outcome events leaf stored

-- where a new array of this form is kept
abbrev pub home_of : List ℕ → List ℕ → Form → Home
home_of mount path (form.Zarr meta) = Zarr mount path meta
home_of mount path (form.N5 meta) = N5 mount path meta
home_of mount path (form.Zarr3 meta) = Zarr3 mount path meta
home_of mount path form.Local = Local (record { dtype = U8; shape = []; words = 0 ∷ [] })

-- the array that is opened by a leaf with this metadata
abbrev pub new_info : ℕ → Leaf → Form → ArrayInfo
new_info number leaf meta = record {
  number = number;
  home = home_of leaf.mount leaf.path meta;
  dtype = dtype_of meta;
  shape = shape_of meta;
  fill = fill_of meta;
}
