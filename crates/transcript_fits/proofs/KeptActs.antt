-- What is kept of what the line at a place does.
use Rattle.std.proofs.Common.{◌≡◌, ◌∙◌, ℕ, Option, Some, take, sym, ap, subst}
use Rattle.std.specs.List.{slice_get}
use Rattle.stated_history.specs.Acts.{IsActAt, IsSoundAct}
use Rattle.stated_history.specs.Spans.{line_at}
use Rattle.stated_history.specs.Standings.{standing_of}
use Rattle.stated_history.specs.ToldNumbers.{told_of}
use Rattle.stated_history.specs.ToldStandings.{Standing, standing}
use Rattle.stated_history.specs.Transcript.{Told, asked_by}
use Rattle.stated_history.specs.Walks.{AreToldIn, outlined, standing_before}
use Rattle.stated_history.specs.declared.Act.{Act}
use Rattle.stated_history.specs.declared.Said.{Said}
use Rattle.stated_history.specs.declared.walk.Walk.{Walk}
use Rattle.stated_history.proofs.Laws.{said_is, told_there}
use Rattle.transcript_fits.specs.Judges.{IsJudge}
use Rattle.transcript_fits.specs.Stands.{IsActHere, IsWalkAt}
use Rattle.transcript_fits.specs.declared.judge.Judge.{Judge}

module _ (j : Judge) (is : IsJudge j) (w : Walk) (place : ℕ) (at : IsWalkAt j w place) where
  -- how the walk stands, as it is told
  stands_before : (t : Told) (d : Said) → slice_get is.told place ≡ Some t → slice_get j.source.now.said.now place ≡ Some d → standing_of w.standing ≡ standing_before (outlined j.source.now) (take place is.told) t
  stands_before t d there here =
      let own : w.session ≡ t.session = at.session d here ∙ sym (said_is j.source.now is.told place d t is.told_in here there).session in
      (at.reached is.told is.told_in).stands ∙ ap (λ n. standing (outlined j.source.now) (told_of n (take place is.told))) own

  -- an act that is kept is what the line does
  pub act_kept : (o : Option Act) (act : Act) → slice_get j.acts.now place ≡ Some o → o ≡ Some act → IsActHere j w place act × IsSoundAct act
  act_kept o act got some =
      let kept = is.acts.each place o got act some in (
        λ d here.
            let one = told_there j.source.now is.told place is.told_in at.low in
            let said = said_is j.source.now is.told place d one.0 is.told_in here one.1 in
            subst (λ (x : Standing). IsActAt x (asked_by (line_at j.source.now.scripts.now d.line)) act) (sym (stands_before one.0 d one.1 here))
            (subst (λ l. IsActAt (standing_before (outlined j.source.now) (take place is.told) one.0) l act) said.asked (kept.0 is.told one.0 is.told_in one.1)),
        kept.1,
      )
