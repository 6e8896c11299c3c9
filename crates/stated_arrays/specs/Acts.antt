-- What lines ask for, as far as arrays and transactions go.
use Rattle.std.specs.Prelude.{◌≡◌, ℕ, List, [], ◌∷◌, Bool, true, false, ◌&&◌, ◌||◌, Option, is_some, length, ◌==◌, if◌then◌else◌}
use Rattle.std.specs.List.{AllByRecursion}
use Rattle.serde_json.specs.Data.{Data}
use Rattle.history.specs.Answers.{Text}
use Rattle.history.specs.Lines.{Line, opening, beginning, committing, aborting, Build}
use Rattle.history.specs.declared.event.Mode.{Mode}
use Rattle.transcript_cut.specs.Openings.{leaves_from}
use Rattle.transcript_cut.specs.declared.Tree.{Tree}
use Rattle.transcript_cut.specs.declared.SpecLeaf.{SpecLeaf}
use Rattle.transcript_cut.specs.Leaves.{IsSoundLeaf}
use Rattle.transcript_cut.specs.Stances.{Stance, stance_by}
use Rattle.transcript_cut.specs.Transcript.{mount}
use Rattle.transcript_cut.specs.declared.numbers.EventNumbers.{EventNumbers}
use Rattle.stated_arrays.specs.Outlined.{leaves_asked}
use Rattle.stated_arrays.specs.declared.acts.Act.{Act}
use Rattle.stated_arrays.specs.declared.acts.Act.TheVariants.{Open, Begin, Commit, Abort, Other}

-- the line opens nothing, and behind it stands what stood before
pub record IsQuiet (line : Line) : Type 0 where
  pub opens : leaves_asked line ≡ []
  pub keeps : (number : ℕ) (answer : Data) (s : Option Stance) → stance_by number answer line s ≡ s

-- what a line asks for is this act
abbrev pub IsActOf : Line → Act → Type 0
IsActOf line (Open leaves) = (name : Text) × (tree : Tree) × (build : Build) × (line ≡ opening name (leaves_from tree 0 leaves) build)
IsActOf line Begin = (mode : Mode) × (line ≡ beginning mode)
IsActOf line Commit = line ≡ committing
IsActOf line Abort = line ≡ aborting
IsActOf line Other = IsQuiet line

-- its leaves are as those of a Spec on the one mount
abbrev pub IsSoundAct : Act → Type 0
IsSoundAct (Open leaves) = AllByRecursion (IsSoundLeaf (mount ∷ [])) leaves
IsSoundAct _ = Unit {0}

-- nothing was done, and a store call failed or a chunk is damaged
abbrev pub fails : EventNumbers → Bool
fails numbers = length numbers.done == 0 && (is_some numbers.failed || numbers.damaged)

-- whether a transaction stands behind an act, where one stands before it or not
abbrev pub stands_by : Act → EventNumbers → Bool → Bool
stands_by (Open leaves) numbers stands = stands
stands_by Begin numbers stands = true
stands_by Commit numbers stands = stands && fails numbers
stands_by Abort numbers stands = false
stands_by Other numbers stands = stands

-- what an act opens, where a transaction stands or not
abbrev pub leaves_by : Act → Bool → List SpecLeaf
leaves_by (Open leaves) stands = if stands then [] else leaves
leaves_by _ stands = []
