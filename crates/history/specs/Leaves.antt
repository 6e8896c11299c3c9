-- What a leaf of a view asks for, and what the store has of it.
use Rattle.std.specs.Prelude.{◌≡◌, List, ◌∷◌, ◌++◌, ℕ, Bool, true, Option, Some, None}
use Rattle.chunk_forms.specs.declared.form.Form.{Form}
use Rattle.chunk_forms.specs.declared.form.Want.{Want}
use Rattle.chunk_forms.specs.Metadata.{SpellsMetadata}
use Rattle.chunk_forms.specs.Wants.{is_asked_form, metadata_name_asked}

-- a leaf of a Spec: where it lies, what is asked of it, and whether it may be opened where it is found and made where it isn't
pub record Leaf : Type 0 where
  pub mount : List ℕ
  pub path : List ℕ
  pub want : Want
  pub may_open : Bool
  pub may_create : Bool

-- where the array lies that the leaf asks for: MOUNT/PATH
abbrev pub location_of_leaf : Leaf → List ℕ
location_of_leaf leaf = leaf.mount ++ 47 ∷ leaf.path

-- where the metadata of what is asked lies
abbrev pub metadata_key_asked : Leaf → List ℕ
metadata_key_asked leaf = leaf.mount ++ 47 ∷ leaf.path ++ 47 ∷ metadata_name_asked leaf.want

-- what the store has at the metadata key at the start: nothing, bytes that are no metadata, or metadata
pub data Stored : Type 0 where
  nothing : Stored
  unreadable : (bytes : List ℕ) → Stored
  readable : (meta : Form) → Stored

-- the bytes that the store has are nothing, no metadata or this metadata, by the format that is asked
abbrev pub IsStoredAs : Want → Option (List ℕ) → Stored → Type 0
IsStoredAs want bytes nothing = bytes ≡ None
IsStoredAs want bytes (unreadable text) = (bytes ≡ Some text) × ((meta : Form) → is_asked_form want meta ≡ true → ¬ SpellsMetadata meta text)
IsStoredAs want bytes (readable meta) = (text : List ℕ) × (bytes ≡ Some text) × (is_asked_form want meta ≡ true) × SpellsMetadata meta text
