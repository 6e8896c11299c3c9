-- A history that a transcript states may be swept over.
use Rattle.std.specs.Prelude.{ℕ, List}
use Rattle.std.specs.FinMap as finmap
use Rattle.transcript_fits.specs.Sweeps.{IsStated}
use Rattle.transcript_fits.specs.History.{History}
use Rattle.transcript_fits.specs.Legal.{IsLegal}
use Rattle.transcript_fits.specs.Outline.{outline}
use Rattle.transcript_fits.specs.Claimed.{IsStatedHistory}
use Rattle.transcript_fits.specs.ToldNumbers.{AreNumbered}
use Rattle.transcript_fits.specs.Transcript.{Told, AreToldOf, lines_of_scripts}
use Rattle.transcript_fits.specs.Unchecked.{AreChecked}

-- so is each that lines of checked scripts state, where arrays are opened as they may be
abbrev pub StatedMayBeSwept : Type 0
StatedMayBeSwept =
    (scripts : List (List ℕ)) (told : List Told) (history : History) → AreToldOf (lines_of_scripts 0 scripts) told
    → AreChecked scripts → AreNumbered told → IsStatedHistory told history → IsLegal finmap.empty (outline history)
    → IsStated history
