-- How the answer to an open line fits.
use Rattle.std.specs.Prelude.{◌≡◌, ℕ, ◌+◌, List, [], ◌∷◌, ◌++◌, map, take, Option, Some, None, Ok, Err}
use Rattle.std.specs.List.{AllByRecursion}
use Rattle.std.specs.FinMap as finmap
use Rattle.serial_runs.specs.declared.Form.{Form}
use Rattle.stack_driver.specs.References.{Reference}
use Rattle.stack_driver.specs.declared.view.View.{View}
use Rattle.history.specs.Answers as body
use Rattle.history.specs.Answers.{Body, Text, BuildCause}
use Rattle.history.specs.Arrays.{Known}
use Rattle.history.specs.History.{History}
use Rattle.history.specs.Leaves.{Leaf}
use Rattle.history.specs.Lines.{SpecLeaf, given, stored, Build}
use Rattle.history.specs.OpenRows.{IsRefusedLeaf, IsFailedLeaf}
use Rattle.history.specs.Outcomes.{IsOutcome, there, made}
use Rattle.history.specs.Viewing.{opened_body}
use Rattle.transcript_laws.specs.Takings.{before, Taking, taking, ref_of_leaf, all_refs}
use Rattle.transcript_laws.specs.Windows.{Window}

-- a stored leaf that takes a number made a new array behind the events below it, and one that takes none found an
-- array of the events up to the window's end; where it was found isn't asked for, so that this is weaker than a
-- session's row
abbrev pub IsSettledStored : History → Window → Leaf → Option ℕ → Type 0
IsSettledStored history w leaf (Some n) = (meta : Form) × IsOutcome finmap.empty (before history n) leaf (made meta)
IsSettledStored history w leaf None = (k : Known) × IsOutcome finmap.empty (take w.upto history) leaf (there k)

-- a leaf with numbers of its own takes a number
abbrev pub IsSettledGiven : Option ℕ → Type 0
IsSettledGiven (Some n) = Unit {0}
IsSettledGiven None = ⊥

-- the leaf was opened
abbrev pub IsSettledLeaf : History → Window → SpecLeaf → Option ℕ → Type 0
IsSettledLeaf history w (given cells) number = IsSettledGiven number
IsSettledLeaf history w (stored node leaf) number = IsSettledStored history w leaf number

-- all of these were
abbrev pub AreSettled : History → Window → List Taking → Type 0
AreSettled history w leaves = AllByRecursion (λ (t : Taking). IsSettledLeaf history w t.leaf t.number) leaves

-- the leaf takes no number
abbrev pub IsUntaken : Taking → Type 0
IsUntaken t = t.number ≡ None

-- the first leaves were opened, then comes this stored one, and neither it nor any behind it takes a number
pub record IsStopped (history : History) (w : Window) (leaves : List Taking) (node : Text) (leaf : Leaf) : Type 0 where
  pub opened : List Taking
  pub rest : List Taking
  pub parts : leaves ≡ opened ++ taking (stored node leaf) None ∷ rest
  pub settled : AreSettled history w opened
  pub untaken : AllByRecursion IsUntaken rest

-- every leaf was opened, by arrays with these references
pub record AreAllOpened (history : History) (w : Window) (leaves : List Taking) (refs : List Reference) : Type 0 where
  pub settled : AreSettled history w leaves
  pub arrays : all_refs (map (ref_of_leaf history) leaves) ≡ Some refs

-- an answer to an open line of these leaves, which prints these numbers for its new arrays
pub data IsOpenAnswer (history : History) (w : Window) (name : Text) (leaves : List Taking) (build : Build)
    (numbers : List ℕ) : Body → Type 0 where
  -- each leaf has its array, and the view is built over them
  opened : {refs : List Reference} {view : View} → AreAllOpened history w leaves refs → build refs ≡ Ok view
      → IsOpenAnswer history w name leaves build numbers (opened_body name view numbers)
  -- each leaf has its array, and a node of the Spec is refused
  unbuilt : {refs : List Reference} {path : Text} {cause : BuildCause} → AreAllOpened history w leaves refs
      → build refs ≡ Err (path, cause)
      → IsOpenAnswer history w name leaves build numbers (body.refused_spec path cause numbers)
  -- a leaf is refused behind some of the events of the window; where the answer has `at`, behind so many
  refused : {node : Text} {leaf : Leaf} {answer : Body} → IsStopped history w leaves node leaf
      → IsRefusedLeaf finmap.empty (take w.upto history) w.from node leaf numbers answer
      → IsOpenAnswer history w name leaves build numbers answer
  -- a store call for a leaf failed
  failed : {node : Text} {leaf : Leaf} (n : ℕ) → IsStopped history w leaves node leaf
      → IsFailedLeaf history w.from leaf n
      → IsOpenAnswer history w name leaves build numbers (body.store_failed (n + 1) [] (Some numbers))
