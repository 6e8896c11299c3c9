-- The history that a transcript states, once its commits are known.
use Rattle.std.specs.Prelude.{◌≡◌, ℕ, List, length, Option, Some, None, option_map}
use Rattle.std.specs.List.{slice_get}
use Rattle.history.specs.History.{History}
use Rattle.stated_acts.specs.Claimed.{IsStatedHistory, IsClaimed}
use Rattle.stated_acts.specs.Openings.{IsNumberedCut}
use Rattle.stated_acts.specs.Outline.{outline}
use Rattle.stated_acts.specs.Transcript.{Told}
use Rattle.stated_history.specs.Commits.{event_with, commit_at}
use Rattle.stated_history.specs.Walks.{IsSource, AreToldIn, outlined, TellsCommits}
use Rattle.stated_history.specs.declared.commits.Source.{Source}
use Rattle.stated_history.specs.declared.putting.Commit.{Commit}

-- these events are those of the outline, with the commits at their numbers
pub record ArePutIn (outline events : History) (commits : List (Option Commit)) (spots : List ℕ) : Type 0 where
  pub each : (k : ℕ) → slice_get events k ≡ option_map (event_with (commit_at commits spots k)) (slice_get outline k)
  pub count : length events ≡ length outline

-- the events with the commits of all lines are the history that is told, legal or not
abbrev pub AreStatedWithCommits : Type 0
AreStatedWithCommits =
    (s : Source) (spots : List ℕ) (told : List Told) (commits : List (Option Commit)) (events : History) → IsSource s
    → IsNumberedCut s.scripts.now s.said.now spots → AreToldIn s told → TellsCommits (outlined s) told (Some commits)
    → ArePutIn (outlined s) events commits spots → IsStatedHistory told events × (outline events ≡ outlined s)

-- and where a line prints other numbers than those of its events, no history is claimed
abbrev pub NoneIsClaimed : Type 0
NoneIsClaimed =
    (s : Source) (told : List Told) → IsSource s → AreToldIn s told → TellsCommits (outlined s) told None
    → (history : History) → ¬ IsClaimed told history
