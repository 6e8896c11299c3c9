-- A session before its next line.
use Rattle.std.proofs.Common.{◌≡◌, ◌≢◌, ◌∙◌, ◌<◌, ◌≤◌, ◌+◌, ℕ, zero, suc, List, [], ◌∷◌, ◌++◌, Option, Some, Ok, Err, take, refl, sym, ap, subst, arith, add-one}
use Rattle.std.specs.Prelude.{filter_map}
use Rattle.std.specs.List.{AllByRecursion, fold, slice_get}
use Rattle.history.specs.Acts.{Asked, opens, binds, reads, stages, writes, begins, commits, aborts, resizes, resolves}
use Rattle.history.specs.Commit.{Transaction}
use Rattle.history.specs.History.{History}
use Rattle.history.specs.Answers.{Text}
use Rattle.history.specs.Lines.{SpecLeaf, Build}
use Rattle.history.specs.Own.{Numbered}
use Rattle.history.proofs.ActFits.{act_of-in}
use Rattle.history.proofs.Asking.{IsAskedBy}
use Rattle.history.proofs.Laws.{none_is_none}
use Rattle.open_fits.specs.Fits.{IsAnsweredBy}
use Rattle.open_fits.specs.Windows.{Window}
use Rattle.stated_history.specs.Claimed.{AreStated, IsStated, faults_at, opening_of, stated_asked}
use Rattle.stated_history.specs.Standings.{standing_of}
use Rattle.stated_history.specs.StatedEvents.{IsEvent}
use Rattle.stated_history.specs.Takings.{takings}
use Rattle.stated_history.specs.ToldNumbers.{failed_in, opened_in, told_of}
use Rattle.stated_history.specs.ToldStandings.{Standing, act_at, first_standing, standing, standing_asked, standing_step}
use Rattle.stated_history.specs.Transcript.{Told}
use Rattle.stated_history.specs.Walks.{AreToldIn}
use Rattle.stated_history.proofs.Laws.{IsSoundAct}
use Rattle.transcript_fits.specs.Judges.{IsJudge, history_of}
use Rattle.transcript_fits.specs.LineFits.{IsLineFit}
use Rattle.transcript_fits.specs.Sessions.{IsSessionAt}
use Rattle.transcript_fits.specs.Stands.{HasPassed, IsBegunAt, IsStandAt, IsThereStanding, MayGoOn, upto_of}
use Rattle.transcript_fits.specs.declared.judge.Judge.{Judge}
use Rattle.transcript_fits.specs.declared.line_fit.LineFit.{LineFit}
use Rattle.transcript_fits.specs.declared.line_fit.LineFit.TheVariants.{Unfit, Fits, IfRefused, IfMet}
use Rattle.transcript_fits.specs.declared.line_fit.ToldLine.{ToldLine}
use Rattle.transcript_fits.specs.declared.stand.Stand.{Stand}
use Rattle.transcript_fits.proofs.BegunLaws.{begun_next}
use Rattle.transcript_fits.proofs.Facing.{asks_there, sound_standing, there_standing}
use Rattle.transcript_fits.proofs.Judged.{judge_legal, judge_still}
use Rattle.transcript_fits.proofs.LineNumbers.{below_line}
use Rattle.transcript_fits.proofs.Placed.{among_all, good_line, opened_upto, stands_is, told_is, upto_later}
use Rattle.transcript_fits.proofs.Sound.{ActsThere, asked_steps, events_in, opens_there}

-- what a line of a session states
stated_at : (h : History) (s : Standing) (ts : List Told) (at : ℕ) (t : Told) → AreStated h s ts → slice_get ts at ≡ Some t → IsStated h (fold (standing_step h) s (take at ts)) t
stated_at h s [] at t are is = absurd (cc)
stated_at h s (u ∷ ts) zero t are is = let same : u ≡ t = cc in subst (IsStated h s) same are.0
stated_at h s (u ∷ ts) (suc at) t are is = stated_at h (standing_step h s u) ts at t are.1 is

front : (h : History) (os ps : List Numbered) → AllByRecursion (λ (o : Numbered). IsEvent h o.number o.event) (os ++ ps) → AllByRecursion (λ (o : Numbered). IsEvent h o.number o.event) os
front h [] ps all = tt
front h (o ∷ os) ps all = (all.0, front h os ps all.1)

module _ (j : Judge) (is : IsJudge j) where
  abbrev h : History
  h = history_of j

  module _ (t : Told) (w : Window) (tr : Option Transaction) where
    abbrev Answered : Asked → Type 0
    Answered asked = IsAnsweredBy h t.session w tr t.number asked t.text t.answer

    abbrev There : Asked → Type 0
    There asked = IsAskedBy (ActsThere h (judge_legal j is) (judge_still j is) t.session w t.number t.answer) asked

    -- an open line that fits, or whose answer binds nothing, binds what is there when its window ends
    open_there : (name : Text) (leaves : List SpecLeaf) (build : Build) (fit : LineFit) → AllByRecursion (λ (o : Numbered). IsEvent h o.number o.event) (stated_asked h t.session t.number (Ok (opens name leaves build)) t.answer)
        → IsSoundAct (take w.upto h) (opens name leaves build) → AllByRecursion (λ n. n ≤ w.upto) (opened_in t.answer)
        → MayGoOn t.answer (Ok (opens name leaves build)) fit → IsLineFit h (Answered (Ok (opens name leaves build))) fit → fit ≢ Unfit → There (Ok (opens name leaves build))
    open_there name leaves build Unfit events sound low on fits goes = absurd (goes refl)
    open_there name leaves build Fits events sound low on fits goes =
        opens_there h (judge_legal j is) (judge_still j is) t.session w t.number t.answer tr name leaves build t.text sound.0 sound.1 low
        (events_in h (judge_legal j is) (judge_still j is) t.session w (takings h leaves (opened_in t.answer)) (front h (filter_map (opening_of h t.session) (takings h leaves (opened_in t.answer))) (faults_at t.session (failed_in t.answer)) events)) fits
    open_there name leaves build (IfRefused question) events sound low on fits goes = λ said is view opened. absurd (none_is_none said (sym on ∙ is))
    open_there name leaves build (IfMet waiting) events sound low on fits goes = absurd (on name leaves build refl)

    pub asked_there : (asked : Asked) (fit : LineFit) → AllByRecursion (λ (o : Numbered). IsEvent h o.number o.event) (stated_asked h t.session t.number asked t.answer)
        → IsAskedBy (IsSoundAct (take w.upto h)) asked → AllByRecursion (λ n. n ≤ w.upto) (opened_in t.answer) → MayGoOn t.answer asked fit → IsLineFit h (Answered asked) fit → fit ≢ Unfit → There asked
    asked_there (Err refusal) fit events sound low on fits goes = tt
    asked_there (Ok (opens name leaves build)) fit events sound low on fits goes = open_there name leaves build fit events sound low on fits goes
    asked_there (Ok (binds name view)) fit events sound low on fits goes = tt
    asked_there (Ok (reads view down)) fit events sound low on fits goes = tt
    asked_there (Ok (stages u view words)) fit events sound low on fits goes = tt
    asked_there (Ok (writes view words)) fit events sound low on fits goes = tt
    asked_there (Ok (begins mode)) fit events sound low on fits goes = tt
    asked_there (Ok (commits u)) fit events sound low on fits goes = tt
    asked_there (Ok aborts) fit events sound low on fits goes = tt
    asked_there (Ok (resizes array shape)) fit events sound low on fits goes = tt
    asked_there (Ok (resolves name view array)) fit events sound low on fits goes = tt

  module _ (session begin many at : ℕ) (here : IsSessionAt j.source.now.said.now session begin many) (low : at < many) (old new : Stand) (line : ToldLine) (stands : IsStandAt j session begin at old) (passed : HasPassed j old new line (begin + at)) where
    module _ (told : List Told) (of_it : AreToldIn j.source.now told) (t : Told) (there : slice_get (told_of session told) at ≡ Some t) where
      abbrev s : Standing
      s = standing_of old.walk.standing

      among : slice_get told (begin + at) ≡ Some t
      among = among_all j is session begin many at here low told of_it t there

      stands_so : s ≡ standing h (take at (told_of session told))
      stands_so = stands_is j is session begin many at here low told of_it old stands.session_is stands.reached

      events_at : AllByRecursion (λ (o : Numbered). IsEvent h o.number o.event) (stated_asked h t.session t.number (act_at s t) t.answer)
      events_at =
          let stated = subst (λ ts. AreStated h first_standing (told_of session ts)) (sym (told_is j is told of_it)) (is.claimed.sessions session) in
          subst (λ x. AllByRecursion (λ (o : Numbered). IsEvent h o.number o.event) (stated_asked h t.session t.number (act_at x t) t.answer)) (sym stands_so) (stated_at h first_standing (told_of session told) at t stated there).events

      steps_so : standing_of new.walk.standing ≡ standing_asked h s t.number (act_at s t) t.answer
      steps_so = passed.walked.stands told t (record { told_in = of_it; there = among })

      -- names and operations are of arrays that are there then
      pub new_there : (w : Window) (fit : LineFit) → old.upto ≡ w.upto → w.upto ≡ upto_of h (told_of session told) at t → MayGoOn t.answer (act_at s t) fit
          → IsLineFit h (IsAnsweredBy h t.session w s.transaction t.number (act_at s t) t.text t.answer) fit → fit ≢ Unfit → IsThereStanding h new.upto (standing_of new.walk.standing)
      new_there w fit same ends on fits goes =
          let good = good_line j is told (begin + at) t of_it among in
          let before : IsThereStanding h w.upto s = subst (λ n. IsThereStanding h n s) same stands.there in
          let sound = asks_there h w.upto (judge_legal j is) (judge_still j is) s t good before in
          let opened = subst (λ m. AllByRecursion (λ n. n ≤ m) (opened_in t.answer)) (sym ends) (opened_upto j is session told at t of_it there) in
          let binds_there = asked_there t w s.transaction (act_at s t) fit events_at sound opened on fits goes in
          let behind = asked_steps h (judge_legal j is) (judge_still j is) t.session w t.number t.answer s (act_at s t) sound (sound_standing h w.upto s before) binds_there in
          let upto : w.upto ≡ new.upto = sym same ∙ sym passed.upto in
          subst (λ n. IsThereStanding h n (standing_of new.walk.standing)) upto (subst (IsThereStanding h w.upto) (sym steps_so) (there_standing h w.upto _ behind))

      pub new_begun : IsBegunAt (told_of session told) begin (begin + (at + 1)) new.begun (standing_of new.walk.standing).transaction
      new_begun =
          begun_next (told_of session told) begin at t there (below_line j.source.now.scripts.now told session at t of_it.cut.each there) h s (act_at s t) t.answer (standing_of new.walk.standing).transaction old.begun new.begun
          (act_of-in s.names s.transaction t.asked) (ap (λ (x : Standing). x.transaction) steps_so) (stands.begun told of_it) (passed.begun told t (record { told_in = of_it; there = among }))

      pub new_earlier : (u : Told) → slice_get (told_of session told) (at + 1) ≡ Some u → old.upto ≤ upto_of h (told_of session told) at t → new.upto ≤ upto_of h (told_of session told) (at + 1) u
      new_earlier u next before =
          let same = passed.upto in
          let later = upto_later j is session told at t u of_it there (subst (λ n. slice_get (told_of session told) n ≡ Some u) (add-one at) next) in
          let ends : upto_of h (told_of session told) (suc at) u ≡ upto_of h (told_of session told) (at + 1) u = ap (λ n. upto_of h (told_of session told) n u) (sym (add-one at)) in
          omega (arith, same, before, later, ends)
