-- What lines are judged by.
use Rattle.std.specs.Prelude.{◌≡◌, ◌≤◌, ◌<◌, ◌^◌, ℕ, ◌+◌, List, Option, length, take, get_or, count_by}
use Rattle.history.specs.History.{History}
use Rattle.history.specs.Legal.{is_opening}
use Rattle.open_fits.specs.Sweeps.{IsStated}
use Rattle.open_fits.specs.StoredPuts.{AreStored}
use Rattle.stated_history.specs.Claimed.{IsClaimed}
use Rattle.stated_history.specs.Outline.{outline}
use Rattle.stated_history.specs.ToldNumbers.{AreNumbered}
use Rattle.stated_history.specs.Transcript.{Told}
use Rattle.stated_history.specs.Kept.{AreKeptActs}
use Rattle.stated_history.specs.Walks.{IsSource, AreToldIn, outlined}
use Rattle.stated_history.specs.declared.commits.Source.{Source}
use Rattle.stated_history.specs.declared.Act.{Act}
use Rattle.transcript_fits.specs.declared.judge.Judge.{Judge}
use Rattle.open_fits.specs.Stores.{IsStoreOf}
use Rattle.open_fits.specs.declared.VersionStore.{VersionStore}

-- behind each number of events so many arrays are open
pub record AreCounts (events : History) (counts : List ℕ) : Type 0 where
  pub long : length counts ≡ length events + 1
  pub each : (n : ℕ) → n ≤ length events → get_or counts n 0 ≡ count_by is_opening (take n events)

-- the history that is judged
abbrev pub history_of : Judge → History
history_of j = j.events.now

-- a transcript states this history, which may have happened, and this is kept of it and of its lines
pub record IsJudge (j : Judge) : Type 0 where
  pub source : IsSource j.source.now
  pub acts : AreKeptActs j.source.now j.acts.now
  pub told : List Told
  pub told_in : AreToldIn j.source.now told
  pub numbered : AreNumbered told
  pub claimed : IsClaimed told (history_of j)
  pub outlined : outline (history_of j) ≡ outlined j.source.now
  pub stated : IsStated (history_of j)
  pub store : IsStoreOf (history_of j) j.store.now
  pub counts : AreCounts (history_of j) j.counts.now
  pub stored : AreStored (history_of j) j.stored.now

-- what is judged: a transcript that states this history, which may have happened, and what is kept of its lines and of the history
pub record IsJudgedSource (s : Source) (acts : List (Option Act)) (events : History) (store : VersionStore) : Type 0 where
  pub source : IsSource s
  pub acts_kept : AreKeptActs s acts
  pub few : length s.scripts.now < 2 ^ 32
  pub told : List Told
  pub told_in : AreToldIn s told
  pub numbered : AreNumbered told
  pub claimed : IsClaimed told events
  pub outlined : outline events ≡ outlined s
  pub stated : IsStated events
  pub kept : IsStoreOf events store
