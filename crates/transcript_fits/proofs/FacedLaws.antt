-- What a line does is sound, for a session that stands before it.
use Rattle.std.proofs.Common.{◌≡◌, ◌∙◌, ◌≤◌, ℕ, List, [], Some, map, take, length, refl, sym, ap, subst, arith}
use Rattle.std.specs.List.{AllByRecursion, slice_get}
use Rattle.open_fits.specs.Openings.{leaves_of}
use Rattle.stated_history.specs.Acts.{IsActAt, IsSoundAct}
use Rattle.open_fits.specs.declared.EventNumbers.{EventNumbers}
use Rattle.stated_history.specs.StatedCommits.{IsSoundOp}
use Rattle.stated_history.specs.Spans.{line_at}
use Rattle.stated_history.specs.Standings.{standing_of}
use Rattle.stated_history.specs.Takings.{Taking, takings}
use Rattle.stated_history.specs.ToldNumbers.{opened_in}
use Rattle.stated_history.specs.ToldStandings.{act_at}
use Rattle.stated_history.specs.Transcript.{Told, asked_by}
use Rattle.stated_history.specs.declared.Act.{Act}
use Rattle.stated_history.specs.declared.Act.TheVariants.{Refused, Opens, Binds, Reads, Writes, Begins, Commits, Aborts}
use Rattle.stated_history.specs.declared.OpenPlan.{OpenPlan}
use Rattle.stated_history.specs.declared.Said.{Said}
use Rattle.stated_history.specs.Walks.{AreToldIn, IsFacing, outlined, takings_at}
use Rattle.stated_history.proofs.Laws.{facing, got_or, open_line, said_is, taken_by}
use Rattle.transcript_fits.specs.Judges.{IsJudge, history_of}
use Rattle.transcript_fits.specs.Openings.{IsOpenedBy, IsOpening}
use Rattle.transcript_fits.specs.Stands.{IsFaced, IsLineAt, IsOwnOf, IsThereFor, ops_in}
use Rattle.transcript_fits.specs.declared.judge.Judge.{Judge}
use Rattle.transcript_fits.specs.declared.line_fit.ToldLine.{ToldLine}
use Rattle.transcript_fits.specs.declared.stand.Stand.{Stand}
use Rattle.transcript_fits.proofs.Facing.{line_there}
use Rattle.transcript_fits.proofs.Judged.{judge_legal, judge_still}
use Rattle.transcript_fits.proofs.Placed.{good_line}

module _ (j : Judge) (is : IsJudge j) (stand : Stand) (line : ToldLine) (place : ℕ) (at : IsLineAt j stand line place) (act : Act) (sound : IsSoundAct act) where
  -- the walk faces the line, whoever tells of it
  pub faces : (d : Said) → slice_get j.source.now.said.now place ≡ Some d → IsActAt (standing_of stand.walk.standing) (asked_by (line_at j.source.now.scripts.now d.line)) act
      → (told : List Told) (t : Told) → AreToldIn j.source.now told → slice_get told place ≡ Some t → IsFacing j.source.now told place t stand.walk act
  faces d here does told t of_it there =
      let session : stand.walk.session ≡ d.line.session = at.passing.session d here in
      facing j.source.now told place d t stand.walk stand.walk act of_it here there at.passing.reached (λ e other. let same = at.passing.session e other in omega (arith, same)) session (λ same. refl) (λ other. absurd (other session)) does

  -- an open line's leaves take the numbers that are kept
  opening_of : (told : List Told) (t : Told) → AreToldIn j.source.now told → slice_get told place ≡ Some t → (name : List ℕ) (plan : OpenPlan) → IsFacing j.source.now told place t stand.walk (Opens name plan) → IsSoundAct (Opens name plan) → line.numbers.now.opened ≡ opened_in t.answer → IsOpening j line place plan
  opening_of told t of_it there name plan faced is_sound numbers =
      let opened = open_line j.source.now told place t stand.walk name plan is.source faced in
      let kept : takings_at j.source.now place ≡ map (λ (x : Taking). x.number) (takings (outlined j.source.now) (leaves_of plan) (opened_in t.answer)) = got_or j.source.now.openings.now.takings place _ [] opened.numbers in
      record {
        sound = is_sound;
        taken = ap (λ ns. map (λ (x : Taking). x.number) (takings (outlined j.source.now) (leaves_of plan) ns)) numbers ∙ sym kept;
        given = (taken_by j.source.now told place t stand.walk (Opens name plan) is.source faced).1;
      }

opened_by_act : (j : Judge) (is : IsJudge j) (stand : Stand) (line : ToldLine) (place : ℕ) (at : IsLineAt j stand line place) (told : List Told) (t : Told) → AreToldIn j.source.now told → slice_get told place ≡ Some t → line.numbers.now.opened ≡ opened_in t.answer
    → (act : Act) → IsSoundAct act → IsFacing j.source.now told place t stand.walk act → IsOpenedBy j line place act
opened_by_act j is stand line place at told t of_it there numbers (Refused body) sound faced = tt
opened_by_act j is stand line place at told t of_it there numbers (Opens name plan) sound faced = opening_of j is stand line place at (Opens name plan) sound told t of_it there name plan faced sound numbers
opened_by_act j is stand line place at told t of_it there numbers (Binds name view) sound faced = tt
opened_by_act j is stand line place at told t of_it there numbers (Reads view) sound faced = tt
opened_by_act j is stand line place at told t of_it there numbers (Writes view words) sound faced = tt
opened_by_act j is stand line place at told t of_it there numbers (Begins mode) sound faced = tt
opened_by_act j is stand line place at told t of_it there numbers Commits sound faced = tt
opened_by_act j is stand line place at told t of_it there numbers Aborts sound faced = tt

-- so a line is faced whose act is this
pub faced_of : (j : Judge) (is : IsJudge j) (stand : Stand) (line : ToldLine) (place : ℕ) (at : IsLineAt j stand line place) (act : Act) → IsSoundAct act → (d : Said) → slice_get j.source.now.said.now place ≡ Some d
    → IsActAt (standing_of stand.walk.standing) (asked_by (line_at j.source.now.scripts.now d.line)) act → (told : List Told) (t : Told) → AreToldIn j.source.now told → slice_get told place ≡ Some t
    → IsFaced j line place (standing_of stand.walk.standing) stand.own (act_at (standing_of stand.walk.standing) t) act
faced_of j is stand line place at act sound d here does told t of_it there =
    let said = said_is j.source.now told place d t of_it here there in
    let s = standing_of stand.walk.standing in
    let does_so : IsActAt s t.asked act = subst (λ l. IsActAt s l act) (sym said.asked) does in
    let kept = at.kept d here in
    let numbers : line.numbers.now.opened ≡ opened_in t.answer = ap (λ (n : EventNumbers). n.opened) kept.numbers ∙ sym said.prints.opened in
    let upto = at.upto in
    record {
      opens = opened_by_act j is stand line place at told t of_it there numbers act sound (faces j is stand line place at act sound d here does told t of_it there);
      does = does_so;
      sound = sound;
      prints = at.prints;
      within = subst (λ n. n ≤ length (history_of j)) upto at.passing.within;
      there = subst (λ n. IsThereFor (history_of j) n s.transaction act) upto (line_there (history_of j) stand.upto (judge_legal j is) (judge_still j is) s t act (good_line j is told place t of_it there) at.passing.there does_so);
      ops = subst (λ n. AllByRecursion (IsSoundOp (take n (history_of j))) (ops_in s.transaction)) upto at.passing.there.ops;
      own = subst (λ n. IsOwnOf (history_of j) n (ops_in s.transaction) stand.own) upto at.passing.own;
    }
