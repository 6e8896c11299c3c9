-- Metadata from stored bytes: why there is none.
use Rattle.std.proofs.Common.{◌≡◌, ◌≢◌, ℕ, List, true, Result, Ok, Err, IfErr, refl, sym, ◌∙◌}
use Rattle.meta_forms.specs.declared.error.MetaError.{MetaError}
use Rattle.meta_forms.specs.declared.error.MetaError.TheVariants as meta
use Rattle.zarr_chunks.specs.Metadata as zarr
use Rattle.zarr_chunks.specs.Want as zarr_want
use Rattle.zarr_chunks.specs.Read as zarr_read
use Rattle.zarr_chunks.proofs.ReadLaws as zarr_laws
use Rattle.n5_blocks.specs.Metadata as n5
use Rattle.n5_blocks.specs.Want as n5_want
use Rattle.n5_blocks.specs.Read as n5_read
use Rattle.n5_blocks.proofs.ReadLaws as n5_laws
use Rattle.zarr3_chunks.specs.Metadata as zarr3
use Rattle.zarr3_chunks.specs.Want as zarr3_want
use Rattle.zarr3_chunks.specs.Read as zarr3_read
use Rattle.zarr3_chunks.proofs.PassLaws as zarr3_laws
use Rattle.history.specs.declared.Form.{Form}
use Rattle.history.specs.declared.Form.TheVariants as form
use Rattle.history.specs.declared.Want.{Want}
use Rattle.history.specs.declared.Want.TheVariants as want
use Rattle.history.specs.Metadata.{SpellsMetadata}
use Rattle.history.specs.Wants.{is_asked_form}
use Rattle.array_homes.specs.Answers.{refused, of_zarr, of_n5, of_zarr3}
use Rattle.array_homes.specs.Opening.{IsBadBy}
use Rattle.array_homes.specs.declared.read.FormReadError.{FormReadError}
use Rattle.array_homes.specs.declared.read.FormReadError.TheVariants as error
use Rattle.array_homes.specs.declared.read.MetaCause.{MetaCause}
use Rattle.array_homes.specs.declared.read.MetaCause.TheVariants as cause

-- but for want of memory, the answer has a cause
abbrev pub IsCaused : Want → List ℕ → Result Form FormReadError → Type 0
IsCaused want bytes answer = IfErr answer (λ e. e ≢ error.Memory → (c : MetaCause) × (e ≡ error.Bad c) × IsBadBy want bytes c)

-- but for want of memory, the bytes spell no metadata of what is asked
abbrev pub IsUnspelled : Want → List ℕ → Result Form FormReadError → Type 0
IsUnspelled want bytes answer = IfErr answer (λ e. e ≢ error.Memory → (m : Form) → is_asked_form want m ≡ true → ¬ SpellsMetadata m bytes)

refused_by : (by : MetaError → MetaCause) (P : MetaError → Type 0) (why : MetaError) → (why ≢ meta.Memory → P why) → refused by why ≢ error.Memory
    → (c : MetaCause) × (refused by why ≡ error.Bad c) × ((m : MetaError) × P m × (c ≡ by m))
refused_by by P meta.NotJson given other = (by meta.NotJson, refl, (meta.NotJson, given (λ e. cc), refl))
refused_by by P (meta.BadMember name) given other = (by (meta.BadMember name), refl, (meta.BadMember name, given (λ e. cc), refl))
refused_by by P (meta.Unsupported name) given other = (by (meta.Unsupported name), refl, (meta.Unsupported name, given (λ e. cc), refl))
refused_by by P meta.Memory given other = absurd (other refl)

pub zarr_caused : (w : zarr_want.Want) (bytes : List ℕ) (answer : Result zarr.Metadata MetaError) → IfErr answer (λ e. e ≢ meta.Memory → zarr_read.metadata_of bytes ≡ Err e) → IsCaused (want.Zarr w) bytes (of_zarr answer)
zarr_caused w bytes (Ok m) given = tt
zarr_caused w bytes (Err why) given = refused_by cause.Zarr (λ e. zarr_read.metadata_of bytes ≡ Err e) why given

pub n5_caused : (w : n5_want.Want) (bytes : List ℕ) (answer : Result n5.Metadata MetaError) → IfErr answer (λ e. e ≢ meta.Memory → n5_read.metadata_of bytes ≡ Err e) → IsCaused (want.N5 w) bytes (of_n5 answer)
n5_caused w bytes (Ok m) given = tt
n5_caused w bytes (Err why) given = refused_by cause.N5 (λ e. n5_read.metadata_of bytes ≡ Err e) why given

pub zarr3_caused : (w : zarr3_want.Want) (bytes : List ℕ) (answer : Result zarr3.Metadata MetaError) → IfErr answer (λ e. e ≢ meta.Memory → zarr3_read.metadata_of bytes ≡ Err e) → IsCaused (want.Zarr3 w) bytes (of_zarr3 answer)
zarr3_caused w bytes (Ok m) given = tt
zarr3_caused w bytes (Err why) given = refused_by cause.Zarr (λ e. zarr3_read.metadata_of bytes ≡ Err e) why given

zarr_apart : (w : zarr_want.Want) (bytes : List ℕ) (why : MetaError) → zarr_read.metadata_of bytes ≡ Err why → (m : Form) → is_asked_form (want.Zarr w) m ≡ true → ¬ SpellsMetadata m bytes
zarr_apart w bytes why bad (form.Zarr m) asked spells = let clash = sym (zarr_laws.metadata_of-SpellsMetadata bytes m spells) ∙ bad in absurd (cc)
zarr_apart w bytes why bad (form.N5 m) asked spells = absurd (cc)
zarr_apart w bytes why bad (form.Zarr3 m) asked spells = absurd (cc)
zarr_apart w bytes why bad form.Local asked spells = absurd (cc)

n5_apart : (w : n5_want.Want) (bytes : List ℕ) (why : MetaError) → n5_read.metadata_of bytes ≡ Err why → (m : Form) → is_asked_form (want.N5 w) m ≡ true → ¬ SpellsMetadata m bytes
n5_apart w bytes why bad (form.Zarr m) asked spells = absurd (cc)
n5_apart w bytes why bad (form.N5 m) asked spells = let clash = sym (n5_laws.metadata_of-SpellsMetadata bytes m spells) ∙ bad in absurd (cc)
n5_apart w bytes why bad (form.Zarr3 m) asked spells = absurd (cc)
n5_apart w bytes why bad form.Local asked spells = absurd (cc)

zarr3_apart : (w : zarr3_want.Want) (bytes : List ℕ) (why : MetaError) → zarr3_read.metadata_of bytes ≡ Err why → (m : Form) → is_asked_form (want.Zarr3 w) m ≡ true → ¬ SpellsMetadata m bytes
zarr3_apart w bytes why bad (form.Zarr m) asked spells = absurd (cc)
zarr3_apart w bytes why bad (form.N5 m) asked spells = absurd (cc)
zarr3_apart w bytes why bad (form.Zarr3 m) asked spells = let clash = sym (zarr3_laws.metadata_of-SpellsMetadata bytes m spells) ∙ bad in absurd (cc)
zarr3_apart w bytes why bad form.Local asked spells = absurd (cc)

pub zarr_unspelled : (w : zarr_want.Want) (bytes : List ℕ) (answer : Result zarr.Metadata MetaError) → IfErr answer (λ e. e ≢ meta.Memory → zarr_read.metadata_of bytes ≡ Err e) → IsUnspelled (want.Zarr w) bytes (of_zarr answer)
zarr_unspelled w bytes (Ok m) given = tt
zarr_unspelled w bytes (Err why) given = λ other m asked. let r = refused_by cause.Zarr (λ e. zarr_read.metadata_of bytes ≡ Err e) why given other in zarr_apart w bytes r.2.0 r.2.1 m asked

pub n5_unspelled : (w : n5_want.Want) (bytes : List ℕ) (answer : Result n5.Metadata MetaError) → IfErr answer (λ e. e ≢ meta.Memory → n5_read.metadata_of bytes ≡ Err e) → IsUnspelled (want.N5 w) bytes (of_n5 answer)
n5_unspelled w bytes (Ok m) given = tt
n5_unspelled w bytes (Err why) given = λ other m asked. let r = refused_by cause.N5 (λ e. n5_read.metadata_of bytes ≡ Err e) why given other in n5_apart w bytes r.2.0 r.2.1 m asked

pub zarr3_unspelled : (w : zarr3_want.Want) (bytes : List ℕ) (answer : Result zarr3.Metadata MetaError) → IfErr answer (λ e. e ≢ meta.Memory → zarr3_read.metadata_of bytes ≡ Err e) → IsUnspelled (want.Zarr3 w) bytes (of_zarr3 answer)
zarr3_unspelled w bytes (Ok m) given = tt
zarr3_unspelled w bytes (Err why) given = λ other m asked. let r = refused_by cause.Zarr (λ e. zarr3_read.metadata_of bytes ≡ Err e) why given other in zarr3_apart w bytes r.2.0 r.2.1 m asked
