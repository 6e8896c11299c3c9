-- Open lines that are judged.
use Rattle.std.specs.Prelude.{◌≡◌, ◌⊎◌, ◌∷◌, ℕ, List, [], Some, None, codes}
use Rattle.serde_json.specs.Data.{Data}
use Rattle.serde_json.specs.Find.{get}
use Rattle.open_fits.specs.Openings.{leaves_of}
use Rattle.stated_history.specs.Conditions.{IsSoundPlan}
use Rattle.stated_history.specs.OpenedViews.{AreGiven, paired}
use Rattle.stated_history.specs.Stating.{numbers_taken}
use Rattle.stated_history.specs.Transcript.{mount}
use Rattle.stated_history.specs.declared.Act.{Act}
use Rattle.stated_history.specs.declared.Act.TheVariants.{Refused, Opens, Binds, Reads, Writes, Begins, Commits, Aborts}
use Rattle.stated_history.specs.declared.OpenPlan.{OpenPlan}
use Rattle.stated_history.specs.Walks.{outlined, takings_at}
use Rattle.open_fits.specs.declared.opens.OpenFit.{OpenFit}
use Rattle.open_fits.specs.declared.opens.OpenFit.TheVariants as leaf
use Rattle.open_fits.specs.declared.questions.OpenTold.{OpenTold}
use Rattle.transcript_fits.specs.declared.judge.Judge.{Judge}
use Rattle.transcript_fits.specs.declared.line_fit.LineFit.{LineFit}
use Rattle.transcript_fits.specs.declared.line_fit.LineFit.TheVariants.{Unfit, Fits, IfRefused, IfMet}
use Rattle.transcript_fits.specs.declared.line_fit.ToldLine.{ToldLine}

-- the line at a place opens what a plan asks for; its leaves take the numbers that are kept for the place
pub record IsOpening (j : Judge) (line : ToldLine) (place : ℕ) (plan : OpenPlan) : Type 0 where
  pub sound : IsSoundPlan (mount ∷ []) plan
  pub taken : numbers_taken (outlined j.source.now) (leaves_of plan) line.numbers.now.opened ≡ takings_at j.source.now place
  pub given : AreGiven (outlined j.source.now) (paired (leaves_of plan) (takings_at j.source.now place))

-- so it does if its act is to open
abbrev pub IsOpenedBy : Judge → ToldLine → ℕ → Act → Type 0
IsOpenedBy j line place (Refused body) = Unit {0}
IsOpenedBy j line place (Opens name plan) = IsOpening j line place plan
IsOpenedBy j line place (Binds name view) = Unit {0}
IsOpenedBy j line place (Reads view) = Unit {0}
IsOpenedBy j line place (Writes view words) = Unit {0}
IsOpenedBy j line place (Begins mode) = Unit {0}
IsOpenedBy j line place Commits = Unit {0}
IsOpenedBy j line place Aborts = Unit {0}

-- an open line waits for nothing, or where its answer binds no name for a refusal
abbrev pub IsOpeningFit : Data → LineFit → Type 0
IsOpeningFit d Unfit = Unit {0}
IsOpeningFit d Fits = Unit {0}
IsOpeningFit d (IfRefused question) = get (codes "open") d ≡ None
IsOpeningFit d (IfMet waiting) = ⊥

-- an open line with its answer, as its leaves are judged by it
pub record IsToldOpening (line : ToldLine) (name : List ℕ) (told : OpenTold) : Type 0 where
  pub line_is : told.line ≡ line.line
  pub name_is : told.name ≡ name
  pub from : told.from ≡ line.window.from
  pub upto : told.upto ≡ line.window.upto
  pub numbers : told.numbers ≡ line.numbers.now.opened
  pub failed : told.failed ≡ line.numbers.now.failed
  pub text : told.text ≡ line.text.now

-- what is told of the line is what is told of its leaves; where the answer binds a name no leaf is refused by it
abbrev pub AreJudgedAlike : Data → OpenFit → LineFit → Type 0
AreJudgedAlike d leaf.Unfit fit = fit ≡ Unfit
AreJudgedAlike d leaf.Fits fit = fit ≡ Fits
AreJudgedAlike d (leaf.IfRefused question) fit =
    ((fit ≡ IfRefused question) × (get (codes "open") d ≡ None)) ⊎ ((fit ≡ Unfit) × ((said : Data) × (get (codes "open") d ≡ Some said)))
