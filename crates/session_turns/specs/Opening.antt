-- How a line's leaves are opened, each in a turn of its own.
use Rattle.std.specs.Prelude.{◌≡◌, ◌≤◌, ℕ, ◌+◌, List, [], ◌∷◌, length, Some, Result}
use Rattle.std.specs.List.{AllByRecursion}
use Rattle.state_resizes.specs.declared.MetaCause.TheVariants as cause
use Rattle.cells.specs.Dense.{DenseCells}
use Rattle.chunk_forms.specs.Members.{member_name}
use Rattle.history.specs.declared.event.Event.{Event}
use Rattle.history.specs.Answers as old
use Rattle.history.specs.Answers.{Text, Body}
use Rattle.history.specs.History.{History}
use Rattle.history.specs.Leaves.{Leaf, location_of_leaf}
use Rattle.history.specs.Lines.{SpecLeaf, member_of_node}
use Rattle.history.specs.OpenRows.{AreOpened, next_array, given_info, new_ref}
use Rattle.history.specs.Own.{numbers_of, opened_event}
use Rattle.history.specs.Refs.{IsKnownRef}
use Rattle.kv_face.specs.Store.{Contents}
use Rattle.session_turns.specs.Turns.{IsTurn, HasPassed, added_by}
use Rattle.stack_driver.specs.References.{Reference}
use Rattle.state_resizes.specs.Agreement.{Opening}
use Rattle.state_resizes.specs.Openings.{IsOpening}
use Rattle.state_resizes.specs.declared.Opened.{Opened}
use Rattle.state_resizes.specs.declared.OpenError.{OpenError}
use Rattle.state_resizes.specs.declared.OpenError.TheVariants as error
use Rattle.turn_book.specs.Passes.{BookView, PassView}

-- a stored array is opened in a turn, or refused
pub record IsLeafTurn (book : BookView Opening) (old new : PassView Event Opening) (leaf : Leaf) (r : Result Opened OpenError) : Type 0 where
  pub before : History
  pub added : History
  pub turn : IsTurn book old new before added
  pub answer : IsOpening book.fixed.store.contents before old.number leaf r new.seen

-- an array with numbers of its own is opened in a turn
pub record IsGivenTurn (book : BookView Opening) (old new : PassView Event Opening) (numbers : DenseCells) (opened : Opened) : Type 0 where
  pub before : History
  pub turn : IsTurn book old new before (opened_event old.number (given_info (next_array before) numbers) ∷ [])
  pub array : opened.array ≡ new_ref before (given_info (next_array before) numbers)
  pub number : opened.event ≡ Some (length before + 1)

-- the first of some leaves were opened: their arrays are known, and the numbers of the events that were added are told; where the store told
-- its contents at the start they were as a row of an opening has it
pub record AreOpenedBy (book : BookView Opening) (first now : PassView Event Opening) (leaves rest : List SpecLeaf) (arrays : List Reference) (events : List ℕ) : Type 0 where
  pub passed : HasPassed book first now
  pub count : length arrays + length rest ≡ length leaves
  pub known : AllByRecursion (IsKnownRef now.seen) arrays
  pub events_are : numbers_of (added_by first now) ≡ events
  pub told : (start : Contents) → book.fixed.store.contents ≡ Some start
      → (seen : ℕ) × (seen ≤ length now.seen) × AreOpened start first.number now.seen (length first.seen) leaves arrays (added_by first now) seen rest

-- the answer to a leaf of a node that isn't opened, by the events that the line added
abbrev pub open_answer : Text → Leaf → List ℕ → OpenError → Body
open_answer node leaf numbers (error.PathTaken path at) = old.path_taken at path numbers
open_answer node leaf numbers (error.StoreFailed event) = old.store_failed event [] (Some numbers)
open_answer node leaf numbers (error.BadMeta key (cause.Zarr why)) = old.bad_metadata key why numbers
open_answer node leaf numbers (error.BadMeta key (cause.N5 why)) = old.bad_metadata key why numbers
open_answer node leaf numbers (error.Exists at) = old.exists at (location_of_leaf leaf) numbers
open_answer node leaf numbers (error.Mismatch member at) = old.mismatch at member.now (location_of_leaf leaf) numbers
open_answer node leaf numbers (error.NotFound at) = old.not_found at (location_of_leaf leaf) numbers
open_answer node leaf numbers (error.BadWant member) = old.bad_spec (member_of_node node (member_name member)) (Some numbers)
open_answer node leaf numbers error.Memory = old.memory

-- one leaf more is opened, whatever leaves were opened before it
abbrev pub OpensLeaf : BookView Opening → PassView Event Opening → PassView Event Opening → SpecLeaf → List Reference → List ℕ → List Reference → List ℕ → Type 0
OpensLeaf book old new leaf arrays events later_arrays later_events = (first : PassView Event Opening) (leaves rest : List SpecLeaf)
    → AreOpenedBy book first old leaves (leaf ∷ rest) arrays events → AreOpenedBy book first new leaves rest later_arrays later_events

-- no event tells of the refusal
abbrev pub IsUnseen : OpenError → Type 0
IsUnseen (error.PathTaken path at) = Unit {0}
IsUnseen (error.StoreFailed event) = ⊥
IsUnseen (error.BadMeta key cause) = Unit {0}
IsUnseen (error.Exists at) = Unit {0}
IsUnseen (error.Mismatch member at) = Unit {0}
IsUnseen (error.NotFound at) = Unit {0}
IsUnseen (error.BadWant member) = Unit {0}
IsUnseen error.Memory = Unit {0}
