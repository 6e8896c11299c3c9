-- A session that goes on behind one of its lines.
use Rattle.std.proofs.Common.{◌≡◌, ◌∙◌, ◌≤◌, ◌+◌, ℕ, List, [], Option, Some, None, Result, Ok, Err, take, length, refl, sym, ap, subst}
use Rattle.std.specs.FinMap as finmap
use Rattle.std.specs.Prelude.{OnOk}
use Rattle.std.proofs.lemmas.List.{length-map}
use Rattle.std.specs.List.{slice_get}
use Rattle.history.specs.declared.event.Op.{Op}
use Rattle.history.specs.declared.event.Op.TheVariants.{Write, Read}
use Rattle.history.specs.Acts.{Asked}
use Rattle.history.specs.Commit.{Transaction}
use Rattle.history.specs.History.{History}
use Rattle.history.specs.Legal.{viewed}
use Rattle.history.proofs.Laws.{legal_take}
use Rattle.open_fits.specs.Owned.{IsThere}
use Rattle.stack_driver.specs.Cells.{cells_of}
use Rattle.stack_driver.specs.Views.{look_of, targets_of}
use Rattle.stack_driver.specs.declared.view.View.{View}
use Rattle.stated_history.specs.Acts.{IsActAt}
use Rattle.stated_history.specs.StatedCommits.{IsSoundOp}
use Rattle.stated_history.specs.Standings.{IsSoundStanding, standing_of}
use Rattle.stated_history.specs.ToldNumbers.{told_of}
use Rattle.stated_history.specs.ToldStandings.{Standing, act_at, standing, standing_asked, standing_step}
use Rattle.stated_history.specs.Transcript.{Told, asked_by}
use Rattle.stated_history.specs.Spans.{line_at}
use Rattle.stated_history.specs.declared.Said.{Said}
use Rattle.stated_history.specs.declared.Act.{Act}
use Rattle.stated_history.specs.declared.Act.TheVariants.{Refused, Opens, Binds, Reads, Writes, Begins, Commits, Aborts}
use Rattle.stated_history.specs.Walks.{IsFacingLine, IsGoneOnAt, IsReached, outlined}
use Rattle.stated_history.specs.declared.putting.Commit.{Commit}
use Rattle.stated_history.specs.declared.walk.Walk.{Walk}
use Rattle.stated_history.proofs.Laws.{answer_same, got_low, said_is, told_there}
use Rattle.open_fits.proofs.Laws.{leaves_in}
use Rattle.transcript_fits.specs.Judges.{IsJudge, history_of}
use Rattle.transcript_fits.specs.LineFits.{answer_of_line}
use Rattle.transcript_fits.specs.Stands.{AreOwnBehind, HasPassed, HasWalked, IsBegunBy, IsFollowable, IsFollowing, IsLineTold, IsOwnOf, IsPassing, IsThereFor, IsWalkAt, ops_in}
use Rattle.transcript_fits.specs.declared.judge.Judge.{Judge}
use Rattle.transcript_fits.specs.declared.line_fit.ToldLine.{ToldLine}
use Rattle.transcript_fits.specs.declared.stand.Stand.{Stand}
use Rattle.transcript_fits.proofs.Facing.{line_there}
use Rattle.transcript_fits.proofs.Judged.{judge_legal, judge_still}
use Rattle.transcript_fits.proofs.PassLaws.{reached_next, stands_next}
use Rattle.transcript_fits.proofs.Placed.{good_line}
use Rattle.transcript_fits.proofs.ReadLaws.{op_whole}

targets_count : (view : View) → length (targets_of view) ≡ length (cells_of (look_of view).dims)
unfolding targets_of
targets_count view = length-map (cells_of (look_of view).dims) (look_of view).target

-- three facts of what came out
pub on_ok_three : {X E : Type 0} (r : Result X E) (A B C D : Type 0) → OnOk r A → OnOk r B → OnOk r C → (A → B → C → D) → OnOk r D
on_ok_three (Ok x) A B C D one two three all = all one two three
on_ok_three (Err e) A B C D one two three all = tt

module _ (j : Judge) (is : IsJudge j) where
  abbrev h : History
  h = history_of j

  -- a sound operation is of a view that is there
  op_there : (n : ℕ) → n ≤ length h → (op : Op) → IsSoundOp (take n h) op → IsThere h n (viewed op)
  op_there n low op sound = record {
    legal = judge_legal j is;
    stated = is.stated;
    in_history = (op_whole j is op n low sound).view;
    leaves = leaves_in finmap.empty (take n h) (viewed op) (legal_take finmap.empty h n (judge_legal j is)) sound.refs;
    targets = sound.targets;
  }

  -- so the operation of an act may join a transaction
  followable : (n : ℕ) → n ≤ length h → (t : Option Transaction) (act : Act) → IsThereFor h n t act → IsFollowable h n act
  followable n low t (Refused body) there = tt
  followable n low t (Opens name plan) there = tt
  followable n low t (Binds name view) there = tt
  followable n low t (Reads view) there = op_there n low (Read view []) (there [])
  followable n low t (Writes view words) there = (op_there n low (Write view words) there, there.count ∙ targets_count view, there.words)
  followable n low t (Begins mode) there = tt
  followable n low t Commits there = tt
  followable n low t Aborts there = tt

  module _ (old : Stand) (line : ToldLine) (place : ℕ) (passing : IsPassing j old line place) where
    abbrev s : Standing
    s = standing_of old.walk.standing

    -- what the line does, whoever tells of it
    abbrev Does : Act → Type 0
    Does act = (told : List Told) (t : Told) → IsLineTold j told place t → IsActAt s t.asked act

    pub line_told_of : (t : Told) × IsLineTold j is.told place t
    line_told_of =
        let one = told_there j.source.now is.told place is.told_in passing.low in
        (one.0, record { told_in = is.told_in; there = one.1 })

    pub following_line : (act : Act) → Does act → (told : List Told) (t : Told) → IsLineTold j told place t → IsFollowing h old line (act_at s t) act
    following_line act does told t it =
        let acts = does told t it in
        record {
          does = acts;
          can = followable old.upto passing.within s.transaction act (line_there h old.upto (judge_legal j is) (judge_still j is) s t act (good_line j is told place t it.told_in it.there) passing.there acts);
          own = passing.own;
        }

    pub following : (act : Act) → Does act → (history : History) × (asked : Asked) × IsFollowing history old line asked act
    following act does = let one = line_told_of in (h, act_at s one.0, following_line act does is.told one.0 one.1)

    -- before the line
    pub facing_line : (act : Act) → Does act → (w : Walk) → w ≡ old.walk → IsFacingLine j.source.now place w act
    facing_line act does w same =
        subst (λ (v : Walk). IsFacingLine j.source.now place v act) (sym same)
        (λ told t of_it there.
        let kept = got_low j.source.now.said.now place passing.low in
        let own : old.walk.session ≡ t.session = passing.session kept.0 kept.1 ∙ sym (said_is j.source.now told place kept.0 t of_it kept.1 there).session in
        let behind = passing.reached told of_it in
        record {
          told_of_it = of_it;
          there = there;
          before = record {
            session = own;
            stands = behind.stands ∙ ap (λ n. standing (outlined j.source.now) (told_of n (take place told))) own;
            before = behind.before;
          };
          does = does told t (record { told_in = of_it; there = there });
        })

    pub walk_at : (w : Walk) → w ≡ old.walk → IsWalkAt j w place
    walk_at w same =
        subst (λ (v : Walk). IsWalkAt j v place) (sym same)
        (record { low = passing.low; reached = passing.reached; session = passing.session; sound = passing.sound })

    -- the act of a line that something is kept of
    pub does_said : (d : Said) (act : Act) → slice_get j.source.now.said.now place ≡ Some d → IsActAt s (asked_by (line_at j.source.now.scripts.now d.line)) act → Does act
    does_said d act at does = λ told t it. subst (λ l. IsActAt s l act) (sym (said_is j.source.now told place d t it.told_in at it.there).asked) does

    pub walk_kept : (mid : Stand) (act : Act) → Does act → ((history : History) (asked : Asked) → IsFollowing history old line asked act → AreOwnBehind history old mid line asked place) → mid.walk ≡ old.walk
    walk_kept mid act does behind = let one = line_told_of in (behind h (act_at s one.0) (following_line act does is.told one.0 one.1)).walk

    -- and behind it
    module _ (mid new : Stand) (act : Act) (does : Does act) (walk : mid.walk ≡ old.walk) (behind : (history : History) (asked : Asked) → IsFollowing history old line asked act → AreOwnBehind history old mid line asked place)
        (walked : HasWalked j mid new place) (upto : new.upto ≡ mid.upto) (begun : new.begun ≡ mid.begun)
        (own : (history : History) (u : Transaction) → (standing_of new.walk.standing).transaction ≡ Some u → IsOwnOf history mid.upto u.ops mid.own → IsOwnOf history new.upto u.ops new.own)
        (none : (history : History) → (standing_of new.walk.standing).transaction ≡ None → IsOwnOf history new.upto [] new.own) where
      steps : (told : List Told) (t : Told) → IsLineTold j told place t → standing_of new.walk.standing ≡ standing_asked h s t.number (act_at s t) (answer_of_line line)
      steps told t it =
          let kept = got_low j.source.now.said.now place passing.low in
          let answer : answer_of_line line ≡ t.answer = answer_same j.source.now told place kept.0 t (answer_of_line line) is.source it.told_in kept.1 it.there (passing.answer kept.0 kept.1) in
          walked.stands told t it ∙ ap (λ (w : Walk). standing_step h (standing_of w.standing) t) walk ∙ ap (standing_asked h s t.number (act_at s t)) (sym answer)

      own_behind : IsOwnOf h new.upto (ops_in (standing_of new.walk.standing).transaction) new.own
      own_behind = by (standing_of new.walk.standing).transaction refl
        where
          by : (o : Option Transaction) → (standing_of new.walk.standing).transaction ≡ o → IsOwnOf h new.upto (ops_in (standing_of new.walk.standing).transaction) new.own
          by None stands = subst (λ x. IsOwnOf h new.upto (ops_in x) new.own) (sym stands) (none h stands)
          by (Some u) stands =
              let one = line_told_of in
              let follows = behind h (act_at s one.0) (following_line act does is.told one.0 one.1) in
              subst (λ x. IsOwnOf h new.upto (ops_in x) new.own) (sym stands)
              (own h u stands (follows.own one.0.number u (sym (ap (λ (x : Standing). x.transaction) (steps is.told one.0 one.1)) ∙ stands)))

      walked_from : HasWalked j old new place
      walked_from = record {
        reached = walked.reached;
        session = walked.session ∙ ap (λ (w : Walk). w.session) walk;
        sound = walked.sound;
        stands = λ told t it. walked.stands told t it ∙ ap (λ (w : Walk). standing_step h (standing_of w.standing) t) walk;
      }

      pub passed : HasPassed j old new line place
      passed =
          let one = line_told_of in
          record {
            walked = walked_from;
            own = own_behind;
            upto = upto ∙ (behind h (act_at s one.0) (following_line act does is.told one.0 one.1)).upto;
            begun = λ told t it. subst (λ m. IsBegunBy (act_at s t) old.begun place m) (sym begun) (behind h (act_at s t) (following_line act does told t it)).begun;
          }

  -- the walk is gone on by a line
  module _ (old new : Walk) (place : ℕ) (commit : Option Commit) (at : IsWalkAt j old place) (same : new.session ≡ old.session) (gone : IsGoneOnAt j.source.now place new commit) where
    pub walked_on : (one other : Stand) → one.walk ≡ old → other.walk ≡ new → IsSoundStanding other.walk.standing → HasWalked j one other place
    walked_on one other is_old is_new sound = record {
      reached = subst (λ (w : Walk). IsReached j.source.now (place + 1) w) (sym is_new) (reached_next j is place at.low old new commit same gone);
      session = ap (λ (w : Walk). w.session) is_new ∙ same ∙ sym (ap (λ (w : Walk). w.session) is_old);
      sound = sound;
      stands = λ told t it.
          ap (λ (w : Walk). standing_of w.standing) is_new
          ∙ stands_next j is place at.low old new commit same gone at.reached at.session told t it.told_in it.there
          ∙ sym (ap (λ (w : Walk). standing_step h (standing_of w.standing) t) is_old);
    }
