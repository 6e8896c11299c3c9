-- What a store has of a leaf: nothing, bytes that are no metadata, or metadata.
use Rattle.std.proofs.Common.{◌≡◌, ◌∙◌, ℕ, true, List, Option, Some, None, Result, Ok, Err, refl, sym, ap}
use Rattle.chunk_forms.specs.declared.form.Form.{Form}
use Rattle.chunk_forms.specs.declared.form.Form.TheVariants as form
use Rattle.chunk_forms.specs.declared.form.Want.{Want}
use Rattle.chunk_forms.specs.declared.form.Want.TheVariants as want
use Rattle.chunk_forms.specs.Metadata.{SpellsMetadata}
use Rattle.chunk_forms.specs.Wants.{is_asked_form}
use Rattle.history.specs.Leaves.{Stored, nothing, unreadable, readable, IsStoredAs}
use Rattle.json_forms.specs.Bytes.{data_of}
use Rattle.meta_forms.specs.declared.error.MetaError.{MetaError}
use Rattle.serde_json.specs.Data.{Data}
use Rattle.zarr_chunks.specs.Metadata as zarr_meta
use Rattle.zarr_chunks.specs.Read as zarr
use Rattle.zarr_chunks.specs.Want as zarr_want
use Rattle.zarr_chunks.proofs.ReadLaws as zarr_laws
use Rattle.n5_blocks.specs.Metadata as n5_meta
use Rattle.n5_blocks.specs.Read as n5
use Rattle.n5_blocks.specs.Want as n5_want
use Rattle.n5_blocks.proofs.ReadLaws as n5_laws
use Rattle.zarr3_chunks.specs.Metadata as zarr3_meta
use Rattle.zarr3_chunks.specs.Read as zarr3
use Rattle.zarr3_chunks.specs.Want as zarr3_want
use Rattle.zarr3_chunks.proofs.ReadLaws as zarr3_reads
use Rattle.zarr3_chunks.proofs.PassLaws as zarr3_laws

-- some of these, for whatever is asked
abbrev Has : Want → List ℕ → Type 0
Has asked bytes = (s : Stored) × IsStoredAs asked (Some bytes) s

has_none : (asked : Want) (bytes : List ℕ) → ((meta : Form) → is_asked_form asked meta ≡ true → SpellsMetadata meta bytes → ⊥) → Has asked bytes
has_none asked bytes none = (unreadable bytes, (refl, none))

has_some : (asked : Want) (bytes : List ℕ) (meta : Form) → is_asked_form asked meta ≡ true → SpellsMetadata meta bytes → Has asked bytes
has_some asked bytes meta is spells = (readable meta, (bytes, refl, is, spells))

zarr_has : (w : zarr_want.Want) (bytes : List ℕ) → Has (want.Zarr w) bytes
zarr_has w bytes = by (data_of bytes) (zarr.metadata_of bytes) refl refl
  where
    by : (d : Option Data) (r : Result zarr_meta.Metadata MetaError) → data_of bytes ≡ d → zarr.metadata_of bytes ≡ r → Has (want.Zarr w) bytes
    by (Some d) (Ok m) there is = has_some (want.Zarr w) bytes (form.Zarr m) refl (zarr_laws.SpellsMetadata-from_data bytes d m there (sym (ap zarr.metadata_of_data there) ∙ is))
    by None (Ok m) there is = absurd (let never : zarr.metadata_of_data None ≡ Ok m = sym (ap zarr.metadata_of_data there) ∙ is in let no_such : ⊥ = cc in no_such)
    by d (Err e) there is = has_none (want.Zarr w) bytes none
      where
        none : (meta : Form) → is_asked_form (want.Zarr w) meta ≡ true → SpellsMetadata meta bytes → ⊥
        none (form.Zarr m) asked spells = let both : Ok m ≡ Err e = sym (zarr_laws.metadata_of-SpellsMetadata bytes m spells) ∙ is in absurd (let no_such : ⊥ = cc in no_such)
        none (form.N5 m) asked spells = absurd (let no_such : ⊥ = cc in no_such)
        none (form.Zarr3 m) asked spells = absurd (let no_such : ⊥ = cc in no_such)
        none form.Local asked spells = absurd (let no_such : ⊥ = cc in no_such)

n5_has : (w : n5_want.Want) (bytes : List ℕ) → Has (want.N5 w) bytes
n5_has w bytes = by (data_of bytes) (n5.metadata_of bytes) refl refl
  where
    by : (d : Option Data) (r : Result n5_meta.Metadata MetaError) → data_of bytes ≡ d → n5.metadata_of bytes ≡ r → Has (want.N5 w) bytes
    by (Some d) (Ok m) there is = has_some (want.N5 w) bytes (form.N5 m) refl (n5_laws.SpellsMetadata-from_data bytes d m there (sym (ap n5.metadata_of_data there) ∙ is))
    by None (Ok m) there is = absurd (let never : n5.metadata_of_data None ≡ Ok m = sym (ap n5.metadata_of_data there) ∙ is in let no_such : ⊥ = cc in no_such)
    by d (Err e) there is = has_none (want.N5 w) bytes none
      where
        none : (meta : Form) → is_asked_form (want.N5 w) meta ≡ true → SpellsMetadata meta bytes → ⊥
        none (form.N5 m) asked spells = let both : Ok m ≡ Err e = sym (n5_laws.metadata_of-SpellsMetadata bytes m spells) ∙ is in absurd (let no_such : ⊥ = cc in no_such)
        none (form.Zarr m) asked spells = absurd (let no_such : ⊥ = cc in no_such)
        none (form.Zarr3 m) asked spells = absurd (let no_such : ⊥ = cc in no_such)
        none form.Local asked spells = absurd (let no_such : ⊥ = cc in no_such)

zarr3_has : (w : zarr3_want.Want) (bytes : List ℕ) → Has (want.Zarr3 w) bytes
zarr3_has w bytes = by (data_of bytes) (zarr3.metadata_of bytes) refl refl
  where
    by : (d : Option Data) (r : Result zarr3_meta.Metadata MetaError) → data_of bytes ≡ d → zarr3.metadata_of bytes ≡ r → Has (want.Zarr3 w) bytes
    by (Some d) (Ok m) there is = has_some (want.Zarr3 w) bytes (form.Zarr3 m) refl (zarr3_reads.SpellsMetadata-from_data bytes d m there (sym (ap zarr3.metadata_of_data there) ∙ is))
    by None (Ok m) there is = absurd (let never : zarr3.metadata_of_data None ≡ Ok m = sym (ap zarr3.metadata_of_data there) ∙ is in let no_such : ⊥ = cc in no_such)
    by d (Err e) there is = has_none (want.Zarr3 w) bytes none
      where
        none : (meta : Form) → is_asked_form (want.Zarr3 w) meta ≡ true → SpellsMetadata meta bytes → ⊥
        none (form.Zarr3 m) asked spells = let both : Ok m ≡ Err e = sym (zarr3_laws.metadata_of-SpellsMetadata bytes m spells) ∙ is in absurd (let no_such : ⊥ = cc in no_such)
        none (form.N5 m) asked spells = absurd (let no_such : ⊥ = cc in no_such)
        none (form.Zarr m) asked spells = absurd (let no_such : ⊥ = cc in no_such)
        none form.Local asked spells = absurd (let no_such : ⊥ = cc in no_such)

-- the store has one of these of each leaf
pub stored_there : (asked : Want) (bytes : Option (List ℕ)) → (s : Stored) × IsStoredAs asked bytes s
stored_there asked None = (nothing, refl)
stored_there (want.Zarr w) (Some bytes) = zarr_has w bytes
stored_there (want.N5 w) (Some bytes) = n5_has w bytes
stored_there (want.Zarr3 w) (Some bytes) = zarr3_has w bytes
