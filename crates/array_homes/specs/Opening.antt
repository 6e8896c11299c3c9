-- What opening a leaf gives by what the store holds, and by what an array of the history is.
use Rattle.std.specs.Prelude.{◌≡◌, ◌≢◌, ℕ, List, Bool, Option, Some, None, Result, Ok, Err, if◌then◌else◌}
use Rattle.meta_forms.specs.declared.error.MetaError.{MetaError}
use Rattle.history.specs.declared.Form.{Form}
use Rattle.history.specs.declared.Want.{Want}
use Rattle.history.specs.declared.Want.TheVariants as want
use Rattle.history.specs.Members.{member_name}
use Rattle.history.specs.Made.{form_made}
use Rattle.history.specs.Metadata.{shape_of, SpellsMetadata}
use Rattle.history.specs.Wants.{mismatch_of}
use Rattle.history.specs.Arrays.{Known}
use Rattle.history.specs.Leaves.{Leaf, Stored, IsStoredAs}
use Rattle.history.specs.OpenRows.{IsBadFor}
use Rattle.history.specs.Outcomes.{Outcome, bad_metadata, exists, mismatch, there, found, not_found, bad_want, made, unless_differs, outcome_in_store}
use Rattle.array_homes.specs.declared.read.MetaCause.{MetaCause}
use Rattle.array_homes.specs.declared.read.MetaCause.TheVariants as cause
use Rattle.array_homes.specs.declared.deciding.Decided.{Decided}
use Rattle.array_homes.specs.declared.deciding.Decided.TheVariants.{Found, Made}
use Rattle.array_homes.specs.declared.deciding.CheckError.{CheckError}
use Rattle.array_homes.specs.declared.deciding.CheckError.TheVariants as check
use Rattle.array_homes.specs.declared.deciding.OpeningRefusal.{OpeningRefusal}
use Rattle.array_homes.specs.declared.deciding.OpeningRefusal.TheVariants.{BadMeta, Exists, Mismatch, NotFound, BadWant, Memory}

-- the cause, by the format that was asked; both versions of Zarr have the causes of `Zarr`
abbrev pub cause_of : Want → MetaError → MetaCause
cause_of (want.Zarr w) why = cause.Zarr why
cause_of (want.N5 w) why = cause.N5 why
cause_of (want.Zarr3 w) why = cause.Zarr why

-- the bytes are no metadata of what is asked, by this cause
abbrev pub IsBadBy : Want → List ℕ → MetaCause → Type 0
IsBadBy want bytes cause = (why : MetaError) × IsBadFor want bytes why × (cause ≡ cause_of want why)

-- a leaf at a place
abbrev pub leaf_at : List ℕ → List ℕ → Want → Bool → Bool → Leaf
leaf_at mount path want may_open may_create = record { mount = mount; path = path; want = want; may_open = may_open; may_create = may_create }

-- the outcome of a leaf that the history doesn't have, the store holding these bytes, or none, at its metadata's key
pub record IsStoreOutcome (leaf : Leaf) (bytes : Option (List ℕ)) (outcome : Outcome) : Type 0 where
  pub stored : Stored
  pub read : IsStoredAs leaf.want bytes stored
  pub same : outcome ≡ outcome_in_store leaf stored

-- the answer has this outcome
abbrev pub Tells : Want → Option (List ℕ) → Result Decided OpeningRefusal → Outcome → Type 0
Tells want bytes (Ok (Found meta)) outcome = outcome ≡ found meta
Tells want bytes (Ok (Made meta)) outcome = outcome ≡ made meta
Tells want bytes (Err (BadMeta cause)) outcome = (text : List ℕ) × (bytes ≡ Some text) × IsBadBy want text cause × (outcome ≡ bad_metadata text)
Tells want bytes (Err Exists) outcome = outcome ≡ exists
Tells want bytes (Err (Mismatch member)) outcome = outcome ≡ mismatch member.now
Tells want bytes (Err NotFound) outcome = outcome ≡ not_found
Tells want bytes (Err (BadWant member)) outcome = outcome ≡ bad_want (member_name member)
Tells want bytes (Err Memory) outcome = ⊥

-- the answer is the outcome of the leaf over a store that holds these bytes, or none, at its metadata's key; or memory was wanting
abbrev pub IsDecision : Leaf → Option (List ℕ) → Result Decided OpeningRefusal → Type 0
IsDecision leaf bytes answer = answer ≢ Err Memory → (outcome : Outcome) × IsStoreOutcome leaf bytes outcome × Tells leaf.want bytes answer outcome

-- the metadata of an array that may be opened
abbrev pub meta_in : Decided → Form
meta_in (Found meta) = meta
meta_in (Made meta) = meta

-- where the metadata comes from: the store's bytes spell it, or it is made as it is asked
abbrev pub IsFrom : Want → Option (List ℕ) → Decided → Type 0
IsFrom want bytes (Found meta) = (text : List ℕ) × (bytes ≡ Some text) × SpellsMetadata meta text
IsFrom want bytes (Made meta) = (bytes ≡ None) × (form_made want ≡ Ok meta)

-- the answer where the store has this metadata
abbrev pub IsFoundAs : Want → Bool → Form → Result Decided OpeningRefusal → Type 0
IsFoundAs want may_open meta answer =
    (bytes : Option (List ℕ)) → Tells want bytes answer (if may_open then unless_differs (mismatch_of want meta (shape_of meta)) (found meta) else exists)

-- the answer to a leaf at whose place the history has this array has this outcome; of want of memory nothing is said
abbrev pub IsChecked : Known → Result (Unit {0}) CheckError → Outcome → Type 0
IsChecked k (Ok done) outcome = outcome ≡ there k
IsChecked k (Err check.Exists) outcome = outcome ≡ exists
IsChecked k (Err (check.Mismatch member)) outcome = outcome ≡ mismatch member.now
IsChecked k (Err check.Memory) outcome = Unit {0}
