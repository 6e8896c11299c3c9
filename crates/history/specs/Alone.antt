-- When a session is alone over one mount, whose store starts empty.
use Rattle.std.specs.Prelude.{◌≡◌, ◌≤◌, ◌+◌, ◌-◌, ◌^◌, ℕ, List, [], ◌∷◌, ◌++◌, length, false, Option, Some, None, Ok}
use Rattle.std.specs.FinMap as finmap
use Rattle.std.specs.List.{AllByRecursion}
use Rattle.cells.specs.Dense.{IsDense}
use Rattle.chunk_forms.specs.Made.{form_made}
use Rattle.chunk_forms.specs.Metadata.{IsMetadata}
use Rattle.chunk_forms.specs.declared.form.Form.{Form}
use Rattle.history.specs.declared.event.Event.{Event}
use Rattle.history.specs.declared.event.Kind.{Kind}
use Rattle.history.specs.declared.event.Kind.TheVariants.{Opened, Done, Resized, Fault}
use Rattle.history.specs.History.{History}
use Rattle.history.specs.Answers.{Text}
use Rattle.history.specs.Arrays.{Known, known_after, is_local}
use Rattle.history.specs.Commit.{Fixed}
use Rattle.history.specs.Lines.{SpecLeaf, given, stored, Line, refused, opening, viewing, joining, reading, writing, beginning, committing, aborting, resizing, resolving}
use Rattle.history.specs.ReadRows.{mount_of}
use Rattle.history.specs.Staged.{AreFitting}

-- the store of the mount starts empty, and changes on it are made together
abbrev pub single_store : Text → Fixed
single_store mount = record { start = finmap.empty; prefixes = (mount ++ 47 ∷ []) ∷ [] }

-- no failed store call
abbrev pub IsNoFault : Kind → Type 0
IsNoFault (Opened info) = Unit {0}
IsNoFault (Done line mode ops key) = Unit {0}
IsNoFault (Resized a shape) = Unit {0}
IsNoFault (Fault mount) = ⊥

-- each event is the session's, and none a failed store call
abbrev pub AreAlone : ℕ → List Event → Type 0
AreAlone owner events = AllByRecursion (λ e. (e.owner ≡ owner) × IsNoFault e.kind) events

-- each stored array lies on the mount
abbrev pub AreOnMount : Text → History → Type 0
AreOnMount mount events = (a : ℕ) (k : Known) → known_after events a ≡ Some k → is_local k.info.home ≡ false → mount_of k.info.home ≡ Some mount

-- a leaf that asks for a stored array asks for one on the mount
abbrev pub IsLeafOn : Text → SpecLeaf → Type 0
IsLeafOn mount (given numbers) = Unit {0}
IsLeafOn mount (stored node leaf) = leaf.mount ≡ mount

-- so does each leaf of a line
abbrev pub IsLineOn : Text → Line → Type 0
IsLineOn mount (refused error) = Unit {0}
IsLineOn mount (opening name leaves build) = AllByRecursion (IsLeafOn mount) leaves
IsLineOn mount (viewing name of changes) = Unit {0}
IsLineOn mount (joining name of join changes) = Unit {0}
IsLineOn mount (reading name changes down) = Unit {0}
IsLineOn mount (writing name changes values) = Unit {0}
IsLineOn mount (beginning mode) = Unit {0}
IsLineOn mount committing = Unit {0}
IsLineOn mount aborting = Unit {0}
IsLineOn mount (resizing name shape) = Unit {0}
IsLineOn mount (resolving name) = Unit {0}

-- so does each line that isn't blank
abbrev pub IsOn : Text → Option Line → Type 0
IsOn mount None = Unit {0}
IsOn mount (Some line) = IsLineOn mount line

-- what is asked of a leaf would make valid metadata, and numbers of its own are valid
abbrev pub IsLeafSound : SpecLeaf → Type 0
IsLeafSound (given numbers) = IsDense numbers
IsLeafSound (stored node leaf) = (meta : Form) → form_made leaf.want ≡ Ok meta → IsMetadata meta

-- each part of a line is as its form gives it: leaves, values that fit, sizes that an array may have
abbrev pub IsLineSound : Line → Type 0
IsLineSound (refused error) = Unit {0}
IsLineSound (opening name leaves build) = AllByRecursion IsLeafSound leaves
IsLineSound (viewing name of changes) = Unit {0}
IsLineSound (joining name of join changes) = Unit {0}
IsLineSound (reading name changes down) = Unit {0}
IsLineSound (writing name changes values) = AreFitting values
IsLineSound (beginning mode) = Unit {0}
IsLineSound committing = Unit {0}
IsLineSound aborting = Unit {0}
IsLineSound (resizing name shape) = AllByRecursion (λ s. s ≤ 2 ^ 62 - 2) shape
IsLineSound (resolving name) = Unit {0}

-- so it is of each line that isn't blank
abbrev pub IsSoundLine : Option Line → Type 0
IsSoundLine None = Unit {0}
IsSoundLine (Some line) = IsLineSound line

-- how many events a line may add: one for each of its leaves, else one
abbrev pub most_of : Option Line → ℕ
most_of None = 0
most_of (Some (opening name leaves build)) = length leaves
most_of (Some line) = 1

-- and all of some lines
abbrev pub most_events : List (Option Line) → ℕ
most_events [] = 0
most_events (line ∷ lines) = most_of line + most_events lines
