-- What holds of a transcript behind each part of a check.
use Rattle.std.specs.Prelude.{◌≡◌, ◌<◌, ◌^◌, ℕ, List, length}
use Rattle.transcript_fits.specs.History.{History}
use Rattle.transcript_fits.specs.StatedOpenings.{IsNumberedCut}
use Rattle.transcript_fits.specs.Outline.{outline}
use Rattle.transcript_fits.specs.Said.{AreSaid}
use Rattle.transcript_fits.specs.declared.Said.{Said}
use Rattle.transcript_fits.specs.Walks.{IsSource, AreToldIn, outlined}
use Rattle.transcript_fits.specs.declared.Source.{Source}
use Rattle.transcript_fits.specs.Claimed.{IsStatedHistory}
use Rattle.transcript_fits.specs.ToldNumbers.{AreNumbered}
use Rattle.transcript_fits.specs.Transcript.{Told}

-- whatever is told of which this is kept prints the numbers of events, those of each session rising
abbrev pub AreAllNumbered : List (List ℕ) → List ℕ → List Said → Type 0
AreAllNumbered scripts transcript said = (told : List Told) → AreSaid scripts transcript said told → AreNumbered told

-- a source of fewer than 2 ^ 32 scripts, which prints the numbers of events; the answer that prints each of them stands at one of these spots
pub record IsNumberedSource (s : Source) (spots : List ℕ) : Type 0 where
  pub source : IsSource s
  pub few : length s.scripts.now < 2 ^ 32
  pub numbered : AreAllNumbered s.scripts.now s.transcript.now s.said.now
  pub table : IsNumberedCut s.scripts.now s.said.now spots

-- this is the history that is told, legal or not and with the numbers of events; it has the outline of the source
pub record IsStatedIn (s : Source) (told : List Told) (history : History) : Type 0 where
  pub numbered : AreNumbered told
  pub stated : IsStatedHistory told history
  pub same : outline history ≡ outlined s

-- so it is, whoever tells of the source
abbrev pub AreStatedIn : Source → History → Type 0
AreStatedIn s history = (told : List Told) → AreToldIn s told → IsStatedIn s told history
