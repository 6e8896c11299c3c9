-- A session's line, once it is judged.
use Rattle.std.proofs.Common.{◌≡◌, ◌≢◌, ◌<◌, ◌+◌, ℕ, List, Some, Result, Ok, Err, sym, subst}
use Rattle.std.specs.Prelude.{IfOk, OnOk}
use Rattle.std.specs.List.{slice_get}
use Rattle.json_forms.specs.Bytes.{data_of}
use Rattle.serde_json.specs.Data.{Data}
use Rattle.open_fits.specs.declared.Window.{Window as WindowOf}
use Rattle.stated_history.specs.Standings.{standing_of}
use Rattle.stated_history.specs.ToldNumbers.{told_of}
use Rattle.stated_history.specs.ToldStandings.{act_at}
use Rattle.stated_history.specs.Transcript.{Told}
use Rattle.stated_history.specs.declared.Said.{Said}
use Rattle.stated_history.specs.Walks.{AreToldIn, line_said}
use Rattle.transcript_fits.specs.Frames.{IsFrameOf}
use Rattle.transcript_fits.specs.Judges.{IsJudge, history_of}
use Rattle.transcript_fits.specs.LineFits.{IsAnsweredSo, IsLineFit, answer_of_line}
use Rattle.transcript_fits.specs.Sessions.{IsFittingAt}
use Rattle.transcript_fits.specs.Stands.{HasPassed, IsLineAt, IsLineKept, IsLineTold, IsStandAt, MayGoOn}
use Rattle.transcript_fits.specs.declared.frames.Frame.{Frame}
use Rattle.transcript_fits.specs.declared.judge.Judge.{Judge}
use Rattle.transcript_fits.specs.declared.line_fit.LineFit.{LineFit}
use Rattle.transcript_fits.specs.declared.line_fit.LineFit.TheVariants.{Unfit}
use Rattle.transcript_fits.specs.declared.line_fit.ToldLine.{ToldLine}
use Rattle.transcript_fits.specs.declared.stand.Stand.{Stand}
use Rattle.transcript_fits.proofs.NextLine.{IsWindowAt, line_at, line_fits, next_stands, turned}

-- what holds of an answer by what else does
pub if_on : {X E : Type 0} (r : Result X E) (A : Type 0) (P : X → Type 0) → ((x : X) → A → P x) → OnOk r A → IfOk r P
if_on (Ok x) A P then on = then x on
if_on (Err e) A P then on = tt

pub if_ok_three : {X E : Type 0} (r : Result X E) (P Q R S : X → Type 0) → ((x : X) → P x → Q x → R x → S x) → IfOk r P → IfOk r Q → IfOk r R → IfOk r S
if_ok_three (Ok x) P Q R S then p q r = then x p q r
if_ok_three (Err e) P Q R S then p q r = tt

module _ (j : Judge) (is : IsJudge j) (frame : Frame) (old : Stand) (at : ℕ) (window : WindowOf) (is_window : IsWindowAt frame old at window) (line : ToldLine) (answer : Data) (d : Said) (got : slice_get j.source.now.said.now (frame.begin + at) ≡ Some d)
    (kept : IsLineKept j.source.now.transcript.now d window answer line) (reads : data_of (line_said d j.source.now.transcript.now) ≡ Some answer) where
  module _ (session begin many : ℕ) (of : IsFrameOf j session begin many frame) (low : at < many) (stands : IsStandAt j session begin at old) where
    here : slice_get j.source.now.said.now (begin + at) ≡ Some d
    here = subst (λ n. slice_get j.source.now.said.now (n + at) ≡ Some d) of.begin_is got

    -- the line as it is judged
    pub line_here : IsLineAt j (turned old window.upto) line (frame.begin + at)
    line_here = subst (λ n. IsLineAt j (turned old window.upto) line (n + at)) (sym of.begin_is) (line_at j is session begin many at frame of low old stands window is_window line answer d here kept reads)

    module _ (fit : LineFit) (fits : (told : List Told) (t : Told) → IsLineTold j told (frame.begin + at) t → IsLineFit (history_of j) (IsAnsweredSo (history_of j) line (standing_of old.walk.standing).transaction (act_at (standing_of old.walk.standing) t)) fit) where
      fits_there : (told : List Told) (t : Told) → IsLineTold j told (begin + at) t → IsLineFit (history_of j) (IsAnsweredSo (history_of j) line (standing_of old.walk.standing).transaction (act_at (standing_of old.walk.standing) t)) fit
      fits_there told t it = fits told t (subst (λ n. IsLineTold j told (n + at) t) (sym of.begin_is) it)

      -- whether it fits
      pub fits_here : (told : List Told) → AreToldIn j.source.now told → IsLineFit (history_of j) (IsFittingAt (history_of j) (told_of session told) at) fit
      fits_here told of_it = line_fits j is session begin many at frame of low old stands window is_window line answer d here kept reads fit fits_there told of_it

      -- where the session stands behind it
      pub stands_here : (new : Stand) → ((told : List Told) (t : Told) → IsLineTold j told (frame.begin + at) t → MayGoOn (answer_of_line line) (act_at (standing_of old.walk.standing) t) fit)
          → HasPassed j (turned old window.upto) new line (frame.begin + at) → fit ≢ Unfit → IsStandAt j session begin (at + 1) new
      stands_here new on passed goes =
          next_stands j is session begin many at frame of low old stands window is_window line answer d here kept reads fit fits_there new
          (λ told t it. on told t (subst (λ n. IsLineTold j told (n + at) t) (sym of.begin_is) it)) (subst (λ n. HasPassed j (turned old window.upto) new line (n + at)) of.begin_is passed) goes
