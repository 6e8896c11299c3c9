-- Reads that are judged.
use Rattle.std.specs.Prelude.{◌≤◌, ℕ, List, length, take, Option}
use Rattle.std.specs.List.{AllByRecursion}
use Rattle.history.specs.declared.event.Op.TheVariants.{Read}
use Rattle.history.specs.Commit.{Transaction}
use Rattle.open_fits.specs.declared.Own.{Own}
use Rattle.stack_driver.specs.Views.{look_of}
use Rattle.stack_driver.specs.Cells.{cells_of}
use Rattle.stack_driver.specs.declared.view.View.{View}
use Rattle.stated_history.specs.Acts.{HasCells}
use Rattle.stated_history.specs.StatedCommits.{IsSoundOp}
use Rattle.transcript_fits.specs.Changing.{PrintsLine}
use Rattle.transcript_fits.specs.Judges.{history_of}
use Rattle.transcript_fits.specs.Stands.{IsOwnOf, ops_in}
use Rattle.transcript_fits.specs.declared.judge.Judge.{Judge}
use Rattle.transcript_fits.specs.declared.line_fit.LineFit.{LineFit}
use Rattle.transcript_fits.specs.declared.line_fit.LineFit.TheVariants.{Unfit, Fits, IfRefused, IfMet}
use Rattle.transcript_fits.specs.declared.line_fit.ToldLine.{ToldLine}

-- a line reads a view, of arrays that are there when its window ends, where this transaction stands, whose operations did this
pub record IsReading (j : Judge) (line : ToldLine) (t : Option Transaction) (view : View) (kept : Own) : Type 0 where
  pub prints : PrintsLine (history_of j) line
  pub within : line.window.upto ≤ length (history_of j)
  pub cells : HasCells view (length (cells_of (look_of view).dims))
  pub there : (words : List ℕ) → IsSoundOp (take line.window.upto (history_of j)) (Read view words)
  pub ops : AllByRecursion (IsSoundOp (take line.window.upto (history_of j))) (ops_in t)
  pub own : IsOwnOf (history_of j) line.window.upto (ops_in t) kept

-- it waits for no refusal
abbrev pub IsReadingFit : LineFit → Type 0
IsReadingFit Unfit = Unit {0}
IsReadingFit Fits = Unit {0}
IsReadingFit (IfRefused question) = ⊥
IsReadingFit (IfMet waiting) = Unit {0}
