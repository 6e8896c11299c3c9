-- What is kept of lines before and behind the walk over them.
use Rattle.std.specs.Prelude.{◌≡◌, ◌++◌, ◌∷◌, ℕ, List, [], length, take, Option, Some, None}
use Rattle.std.specs.List.{slice_get}
use Rattle.json_forms.specs.Bytes.{data_of}
use Rattle.stated_acts.specs.Acts.{IsActAt, IsSoundAct}
use Rattle.stated_acts.specs.Keeping.{data_kept, IsCommandOf}
use Rattle.stated_acts.specs.Spans.{line_at}
use Rattle.stated_acts.specs.Transcript.{Told}
use Rattle.stated_acts.specs.declared.Act.{Act}
use Rattle.stated_acts.specs.declared.Command.{Command}
use Rattle.stated_acts.specs.declared.KeptAnswer.{KeptAnswer}
use Rattle.stated_acts.specs.declared.Said.{Said}
use Rattle.stated_history.specs.Walks.{AreToldIn, line_said, outlined, standing_before, TellsCommits}
use Rattle.stated_history.specs.declared.commits.Source.{Source}
use Rattle.stated_history.specs.declared.kept.StatedLines.{StatedLines}

-- what is kept of the answer to a line is what its text reads as
abbrev pub HoldsAnswer : List ℕ → Said → Type 0
HoldsAnswer transcript d = (kept : KeptAnswer) → d.answer ≡ Some kept → data_of (line_said d transcript) ≡ Some (data_kept kept)

-- this is kept of the line at a place
abbrev pub IsKeptAt : Source → ℕ → Option Command → Type 0
IsKeptAt s place kept = (d : Said) → slice_get s.said.now place ≡ Some d → IsCommandOf (line_at s.scripts.now d.line) kept

-- the line at a place does this, as its session stands before it
abbrev pub IsActOfLine : Source → ℕ → Act → Type 0
IsActOfLine s place act =
    (told : List Told) (t : Told) → AreToldIn s told → slice_get told place ≡ Some t
    → IsActAt (standing_before (outlined s) (take place told) t) t.asked act

-- what is kept of the line at a place, if anything is, is what it does
abbrev pub IsKeptAct : Source → ℕ → Option Act → Type 0
IsKeptAct s place kept = (act : Act) → kept ≡ Some act → IsActOfLine s place act × IsSoundAct act

-- what was kept, and behind it what is kept of the line at a place
abbrev pub HasKept : Source → ℕ → List (Option Act) → List (Option Act) → Type 0
HasKept s place before behind = (kept : Option Act) × (behind ≡ before ++ kept ∷ []) × IsKeptAct s place kept

-- of each line
pub record AreKeptActs (s : Source) (acts : List (Option Act)) : Type 0 where
  pub count : length acts ≡ length s.said.now
  pub each : (place : ℕ) (kept : Option Act) → slice_get acts place ≡ Some kept → IsKeptAct s place kept

-- the commits of all lines, and what is kept of each; or a line prints other numbers than those of its events
abbrev pub TellsLines : Source → Option StatedLines → Type 0
TellsLines s None = (told : List Told) → AreToldIn s told → TellsCommits (outlined s) told None
TellsLines s (Some lines) =
    ((told : List Told) → AreToldIn s told → TellsCommits (outlined s) told (Some lines.commits)) × AreKeptActs s lines.acts
