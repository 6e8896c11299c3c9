-- How the leaves of a line are opened.
use Rattle.std.specs.Prelude.{◌≡◌, ◌≤◌, ℕ, ◌+◌, List, [], ◌∷◌, length, take, Some, Err, count_by}
use Rattle.cells.specs.Dense.{DenseCells}
use Rattle.kv_face.specs.Store.{Contents}
use Rattle.chunk_forms.specs.declared.form.Form.{Form}
use Rattle.chunk_forms.specs.declared.form.Want.{Want}
use Rattle.chunk_forms.specs.declared.form.Want.TheVariants as want
use Rattle.chunk_forms.specs.declared.MetaError.{MetaError}
use Rattle.chunk_forms.specs.ZarrRead as zarr
use Rattle.chunk_forms.specs.N5Read as n5
use Rattle.chunk_forms.specs.Zarr3Read as zarr3
use Rattle.stack_driver.specs.References.{Reference}
use Rattle.history.specs.declared.array.ArrayInfo.{ArrayInfo}
use Rattle.history.specs.declared.array.Home.TheVariants.{Local}
use Rattle.history.specs.History.{History}
use Rattle.history.specs.Arrays.{Known, ref_of}
use Rattle.history.specs.Legal.{is_opening}
use Rattle.history.specs.Answers as body
use Rattle.history.specs.Answers.{Text, Body}
use Rattle.history.specs.Leaves.{Leaf, location_of_leaf, metadata_key_asked}
use Rattle.history.specs.Lines.{SpecLeaf, given, stored, member_of_node}
use Rattle.history.specs.Outcomes.{Outcome, path_taken, bad_metadata, exists, mismatch, there, found, not_found, bad_want, made, IsOutcome, new_info}
use Rattle.history.specs.Own.{Numbered, opened_event}
use Rattle.history.specs.Places.{IsFree}

-- the number of the next array
abbrev pub next_array : History → ℕ
next_array events = count_by is_opening events

-- an array with numbers of its own
abbrev pub given_info : ℕ → DenseCells → ArrayInfo
given_info number numbers = record { number = number; home = Local numbers; dtype = numbers.dtype; shape = numbers.shape; fill = 0 }

-- how views name an array that was opened just now
abbrev pub new_ref : History → ArrayInfo → Reference
new_ref events info = ref_of (record { info = info; opened = length events + 1; shape = info.shape })

-- a stored leaf gives a new array with this metadata, which the store had or which is to be made
pub data IsNew (start : Contents) (events : History) (leaf : Leaf) : Form → Type 0 where
  read_there : {meta : Form} → IsOutcome start events leaf (found meta) → IsNew start events leaf meta
  made_here : {meta : Form} → IsOutcome start events leaf (made meta) → IsNew start events leaf meta

-- the first leaves were opened, each after a number of events that was never less than what had been seen: which arrays
-- they are, which events they added, how many events were seen then, and which leaves are left
pub data AreOpened (start : Contents) (owner : ℕ) (events : History) : ℕ → List SpecLeaf → List Reference → List Numbered → ℕ → List SpecLeaf → Type 0 where
  no_leaf : {seen : ℕ} {leaves : List SpecLeaf} → AreOpened start owner events seen leaves [] [] seen leaves
  -- an array of the run
  known_leaf : {seen now : ℕ} {node : Text} {leaf : Leaf} {leaves rest : List SpecLeaf} {refs : List Reference} {own : List Numbered} (at : ℕ) (k : Known) → seen ≤ at → at ≤ length events → IsOutcome start (take at events) leaf (there k)
      → AreOpened start owner events at leaves refs own now rest → AreOpened start owner events seen (stored node leaf ∷ leaves) (ref_of k ∷ refs) own now rest
  -- a new stored one, which is the event behind those that were seen
  new_leaf : {seen now : ℕ} {node : Text} {leaf : Leaf} {leaves rest : List SpecLeaf} {refs : List Reference} {own : List Numbered} (at : ℕ) (meta : Form) → seen ≤ at → at ≤ length events → IsNew start (take at events) leaf meta
      → AreOpened start owner events (at + 1) leaves refs own now rest
      → AreOpened start owner events seen (stored node leaf ∷ leaves) (new_ref (take at events) (new_info (next_array (take at events)) leaf meta) ∷ refs) (record { number = at + 1; event = opened_event owner (new_info (next_array (take at events)) leaf meta) } ∷ own) now rest
  -- one with numbers of its own
  given_leaf : {seen now : ℕ} {numbers : DenseCells} {leaves rest : List SpecLeaf} {refs : List Reference} {own : List Numbered} (at : ℕ) → seen ≤ at → at ≤ length events
      → AreOpened start owner events (at + 1) leaves refs own now rest
      → AreOpened start owner events seen (given numbers ∷ leaves) (new_ref (take at events) (given_info (next_array (take at events)) numbers) ∷ refs) (record { number = at + 1; event = opened_event owner (given_info (next_array (take at events)) numbers) } ∷ own) now rest

-- why bytes are no metadata of the format that is asked
abbrev pub IsBadFor : Want → List ℕ → MetaError → Type 0
IsBadFor (want.Zarr w) bytes why = zarr.metadata_of bytes ≡ Err why
IsBadFor (want.N5 w) bytes why = n5.metadata_of bytes ≡ Err why
IsBadFor (want.Zarr3 w) bytes why = zarr3.metadata_of bytes ≡ Err why

-- the answer to a leaf of a node that is refused after `at` events, the line having added those numbered so
abbrev pub IsRefusal : Text → Leaf → ℕ → List ℕ → Outcome → Body → Type 0
IsRefusal node leaf at numbers (path_taken other) answer = answer ≡ body.path_taken at other numbers
IsRefusal node leaf at numbers (bad_metadata bytes) answer = (why : MetaError) × IsBadFor leaf.want bytes why × (answer ≡ body.bad_metadata (metadata_key_asked leaf) why numbers)
IsRefusal node leaf at numbers exists answer = answer ≡ body.exists at (location_of_leaf leaf) numbers
IsRefusal node leaf at numbers (mismatch member) answer = answer ≡ body.mismatch at member (location_of_leaf leaf) numbers
IsRefusal node leaf at numbers (there array) answer = ⊥
IsRefusal node leaf at numbers (found meta) answer = ⊥
IsRefusal node leaf at numbers not_found answer = answer ≡ body.not_found at (location_of_leaf leaf) numbers
IsRefusal node leaf at numbers (bad_want member) answer = answer ≡ body.bad_spec (member_of_node node member) (Some numbers)
IsRefusal node leaf at numbers (made meta) answer = ⊥

-- a leaf is refused after `at` events
pub record IsRefusedLeaf (start : Contents) (events : History) (now : ℕ) (node : Text) (leaf : Leaf) (numbers : List ℕ) (answer : Body) : Type 0 where
  pub at : ℕ
  pub not_older : now ≤ at
  pub within : at ≤ length events
  pub outcome : Outcome
  pub comes : IsOutcome start (take at events) leaf outcome
  pub answered : IsRefusal node leaf at numbers outcome answer

-- a store call for a leaf fails behind `before` events: no array of these lies at its place, above or below it
pub record IsFailedLeaf (events : History) (now : ℕ) (leaf : Leaf) (before : ℕ) : Type 0 where
  pub not_older : now ≤ before
  pub within : before ≤ length events
  pub free : IsFree (take before events) (location_of_leaf leaf)
