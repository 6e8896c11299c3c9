-- How one session alone opens the leaves of a line, over a store that starts empty and never fails.
use Rattle.std.specs.Prelude.{ℕ, ◌+◌, List, [], ◌∷◌, ◌++◌, length, map, Option, Some, None}
use Rattle.stack_driver.specs.References.{Reference}
use Rattle.history.specs.declared.array.ArrayInfo.{ArrayInfo}
use Rattle.history.specs.History.{History}
use Rattle.history.specs.Arrays.{Known, ref_of}
use Rattle.history.specs.Answers as body
use Rattle.history.specs.Answers.{Text, Body}
use Rattle.history.specs.Leaves.{Leaf, location_of_leaf, nothing}
use Rattle.history.specs.Lines.{SpecLeaf, given, stored, member_of_node}
use Rattle.history.specs.OpenRows.{next_array, given_info, new_ref}
use Rattle.history.specs.Outcomes.{Outcome, path_taken, bad_metadata, exists, mismatch, there, found, not_found, bad_want, made, opening_outcome, new_info}
use Rattle.history.specs.Own.{Numbered, numbers_of, opened_event}

-- what comes of a leaf: a store that starts empty has no metadata of its own
abbrev pub outcome_alone : History → Leaf → Outcome
outcome_alone events leaf = opening_outcome events leaf nothing

-- the first leaves, opened: the arrays, the events, and the leaves that are left from the first refused one on
pub record Begun : Type 0 where
  pub refs : List Reference
  pub own : List Numbered
  pub rest : List SpecLeaf

-- opened leaves with an array of the history before them
abbrev pub with_known : Known → Begun → Begun
with_known k begun = record begun { refs = ref_of k ∷ begun.refs }

-- opened leaves with a new array and its event before them
abbrev pub with_new : ℕ → History → ArrayInfo → Begun → Begun
with_new owner events info begun = record begun {
  refs = new_ref events info ∷ begun.refs;
  own = record { number = length events + 1; event = opened_event owner info } ∷ begun.own;
}

-- a new array, and what comes of the leaves behind it
abbrev pub opened_then : ℕ → History → ArrayInfo → (History → Begun) → Begun
opened_then owner events info next = with_new owner events info (next (events ++ opened_event owner info ∷ []))

-- no leaf is opened, and these are left
abbrev pub refused_from : List SpecLeaf → Begun
refused_from leaves = record { refs = []; own = []; rest = leaves }

-- by what comes of the first leaf, and of those behind it
abbrev pub by_outcome : ℕ → History → Leaf → List SpecLeaf → (History → Begun) → Outcome → Begun
by_outcome owner events leaf leaves next (path_taken other) = refused_from leaves
by_outcome owner events leaf leaves next (bad_metadata bytes) = refused_from leaves
by_outcome owner events leaf leaves next exists = refused_from leaves
by_outcome owner events leaf leaves next (mismatch member) = refused_from leaves
by_outcome owner events leaf leaves next (there k) = with_known k (next events)
by_outcome owner events leaf leaves next (found meta) = opened_then owner events (new_info (next_array events) leaf meta) next
by_outcome owner events leaf leaves next not_found = refused_from leaves
by_outcome owner events leaf leaves next (bad_want member) = refused_from leaves
by_outcome owner events leaf leaves next (made meta) = opened_then owner events (new_info (next_array events) leaf meta) next

-- the leaves of a line, opened one after another up to the first that is refused
abbrev pub leaves_from : ℕ → List SpecLeaf → History → Begun
leaves_from owner [] events = refused_from []
leaves_from owner (given numbers ∷ leaves) events = opened_then owner events (given_info (next_array events) numbers) (leaves_from owner leaves)
leaves_from owner (stored node leaf ∷ leaves) events = by_outcome owner events leaf (stored node leaf ∷ leaves) (leaves_from owner leaves) (outcome_alone events leaf)

-- the answer to a leaf of a node that is refused after `at` events, the line having added those numbered so
abbrev pub refusal_of : Text → Leaf → ℕ → List ℕ → Outcome → Option Body
refusal_of node leaf at numbers (path_taken other) = Some (body.path_taken at other numbers)
refusal_of node leaf at numbers (bad_metadata bytes) = None
refusal_of node leaf at numbers exists = Some (body.exists at (location_of_leaf leaf) numbers)
refusal_of node leaf at numbers (mismatch member) = Some (body.mismatch at member (location_of_leaf leaf) numbers)
refusal_of node leaf at numbers (there k) = None
refusal_of node leaf at numbers (found meta) = None
refusal_of node leaf at numbers not_found = Some (body.not_found at (location_of_leaf leaf) numbers)
refusal_of node leaf at numbers (bad_want member) = Some (body.bad_spec (member_of_node node member) (Some numbers))
refusal_of node leaf at numbers (made meta) = None

-- the events behind those that were there
abbrev pub with_own : History → List Numbered → History
with_own events own = events ++ map (λ (o : Numbered). o.event) own

-- the answer to the first leaf that is refused; one with numbers of its own never is
abbrev pub leaf_refusal : History → List Numbered → SpecLeaf → Option Body
leaf_refusal events own (given numbers) = None
leaf_refusal events own (stored node leaf) = refusal_of node leaf (length events) (numbers_of own) (outcome_alone events leaf)
