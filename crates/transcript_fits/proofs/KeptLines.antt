-- The line at a place of which it is kept what it does.
use Rattle.std.proofs.Common.{◌≡◌, ℕ, List, Option, Some, None, refl, sym, subst}
use Rattle.std.specs.List.{slice_get}
use Rattle.history.specs.Acts.{Asked}
use Rattle.stated_history.specs.Standings.{standing_of}
use Rattle.stated_history.specs.ToldStandings.{act_at}
use Rattle.stated_history.specs.Transcript.{Told}
use Rattle.stated_history.specs.Walks.{IsGoneOnAt}
use Rattle.stated_history.specs.declared.Act.{Act}
use Rattle.stated_history.specs.declared.Act.TheVariants.{Reads}
use Rattle.stated_history.proofs.Laws.{got_low, read_gone}
use Rattle.transcript_fits.specs.Judges.{IsJudge}
use Rattle.transcript_fits.specs.Stands.{HasPassed, IsAlone, IsBegunBy, IsFaced, IsLineAt, IsLineTold, IsPassing}
use Rattle.transcript_fits.specs.declared.judge.Judge.{Judge}
use Rattle.transcript_fits.specs.declared.line_fit.ToldLine.{ToldLine}
use Rattle.transcript_fits.specs.declared.stand.Stand.{Stand}
use Rattle.transcript_fits.proofs.FacedLaws.{faced_of}
use Rattle.transcript_fits.proofs.KeptActs.{act_kept}
use Rattle.transcript_fits.proofs.Passing.{does_said, facing_line, line_told_of, walk_at, walked_on}

module _ (j : Judge) (is : IsJudge j) (stand : Stand) (line : ToldLine) (place : ℕ) where
  -- so it is faced
  module _ (at : IsLineAt j stand line place) (act : Act) (got : slice_get j.acts.now place ≡ Some (Some act)) where
    pub kept_faced : (told : List Told) (t : Told) → IsLineTold j told place t → IsFaced j line place (standing_of stand.walk.standing) stand.own (act_at (standing_of stand.walk.standing) t) act
    kept_faced told t it =
        let said = got_low j.source.now.said.now place at.passing.low in
        let kept = act_kept j is stand.walk place (walk_at j is stand line place at.passing stand.walk refl) (Some act) act got refl in
        faced_of j is stand line place at act kept.1 said.0 said.1 (kept.0 said.0 said.1) told t it.told_in it.there

    pub one_faced : (asked : Asked) × IsFaced j line place (standing_of stand.walk.standing) stand.own asked act
    one_faced =
        let one = line_told_of j is stand line place at.passing in
        (act_at (standing_of stand.walk.standing) one.0, kept_faced is.told one.0 one.1)

  -- a read outside of a transaction leaves its session as it stands
  pub alone_passed : IsPassing j stand line place → (kept : Option Act) → slice_get j.acts.now place ≡ Some kept → IsAlone kept stand.walk → HasPassed j stand stand line place
  alone_passed passing o got alone =
      let act = Reads alone.view in
      let said = got_low j.source.now.said.now place passing.low in
      let at = walk_at j is stand line place passing stand.walk refl in
      let kept = act_kept j is stand.walk place at o act got alone.read in
      let does = does_said j is stand line place passing said.0 act said.1 (kept.0 said.0 said.1) in
      let gone : IsGoneOnAt j.source.now place stand.walk None =
      λ told t of_it there. read_gone j.source.now told place said.0 t stand.walk act (facing_line j is stand line place passing act does stand.walk refl told t of_it there) said.1 alone.alone in
      record {
        walked = walked_on j is stand.walk stand.walk place None at refl gone stand stand refl refl passing.sound;
        own = passing.own;
        upto = refl;
        begun = λ told t it. subst (λ (a : Asked). IsBegunBy a stand.begun place stand.begun) (sym (does told t it)) refl;
      }
