-- The verdicts at each part.
use Rattle.std.proofs.Common.{◌≡◌, ◌<◌, ◌^◌, ℕ, List, Bool, true, false, cond, length, Option, Some, refl, sym, subst}
use Rattle.std.specs.Prelude.{◌↔◌, IsTrue}
use Rattle.std.specs.FinMap as finmap
use Rattle.transcript_fits.specs.History.{History}
use Rattle.transcript_fits.specs.Legal.{IsLegal}
use Rattle.transcript_fits.specs.Sweeps.{IsStated}
use Rattle.transcript_fits.specs.Cuttings.{IsWholeCut}
use Rattle.transcript_fits.specs.Said.{AreSaid}
use Rattle.transcript_fits.specs.Spans.{line_at}
use Rattle.transcript_fits.specs.declared.AskedLine.{AskedLine}
use Rattle.transcript_fits.specs.declared.Said.{Said}
use Rattle.transcript_fits.specs.StatedHistories.{ArePutIn, AreStatedWithCommits}
use Rattle.transcript_fits.specs.Kept.{AreKeptActs}
use Rattle.transcript_fits.specs.Walks.{IsSource, AreToldIn, outlined, TellsCommits}
use Rattle.transcript_fits.specs.declared.Commit.{Commit}
use Rattle.transcript_fits.specs.declared.Act.{Act}
use Rattle.transcript_fits.specs.declared.Source.{Source}
use Rattle.transcript_fits.specs.Claimed.{IsClaimed}
use Rattle.transcript_fits.specs.Fitting.{IsAnswered}
use Rattle.transcript_fits.specs.ToldNumbers.{AreNumbered}
use Rattle.transcript_fits.specs.Transcript.{Told}
use Rattle.transcript_fits.specs.Unchecked.{AreChecked, IsNotChecked}
use Rattle.transcript_fits.specs.Verdicts.{IsVerdict, is_yes, is_no, is_not_checked, yes, no, part_2, part_3, part_4}
use Rattle.transcript_fits.proofs.Laws.{stated_is_one, part_5_follows}
use Rattle.transcript_fits.specs.Stores.{IsStoreOf}
use Rattle.transcript_fits.specs.declared.VersionStore.{VersionStore}
use Rattle.transcript_fits.specs.Judges.{IsJudgedSource}
use Rattle.transcript_check.specs.declared.verdict.Verdict.{Verdict}
use Rattle.transcript_check.specs.declared.verdict.Verdict.TheVariants.{Yes, No, NotChecked}
use Rattle.transcript_check.specs.Verdicts.{verdict_of}
use Rattle.transcript_check.specs.Parts.{AreAllNumbered, IsNumberedSource, IsStatedIn, AreStatedIn}
use Rattle.transcript_check.proofs.CutLaws.{cut_is_checked}
use Rattle.transcript_check.proofs.SweepLaws.{stated_may_be_swept}

-- it isn't checked because of a line
pub by_line : (scripts : List (List ℕ)) (transcript : List ℕ) (line : AskedLine) (v : Verdict) → IsNotChecked scripts transcript (line_at scripts line) → v ≡ NotChecked line.session line.number → IsVerdict scripts transcript (verdict_of v)
by_line scripts transcript line v isnt is = subst (λ (w : Verdict). IsVerdict scripts transcript (verdict_of w)) (sym is) (is_not_checked {line = line_at scripts line} isnt)

module _ (scripts : List (List ℕ)) (transcript : List ℕ) (said : List Said) (checked : AreChecked scripts) (cut : IsWholeCut scripts transcript said) where
  -- the answers don't print the numbers of events
  pub fails_part_2 : ((told : List Told) → AreSaid scripts transcript said told → ¬ AreNumbered told) → IsVerdict scripts transcript (no 2)
  fails_part_2 isnt = is_no (cut_is_checked scripts transcript checked said cut) (part_2 (record { told = cut.told; cut = cut.cut; fails = isnt cut.told cut.said }))

  -- no history is claimed
  pub fails_part_3 : AreAllNumbered scripts transcript said → ((history : History) → ¬ IsClaimed cut.told history) → IsVerdict scripts transcript (no 3)
  fails_part_3 numbered none = is_no (cut_is_checked scripts transcript checked said cut) (part_3 (record { told = cut.told; cut = cut.cut; numbered = numbered cut.told cut.said; fails = none }))

module _ (s : Source) (is : IsSource s) where
  abbrev pub told : List Told
  told = is.cut.told

  -- what is told of it
  pub told_in : AreToldIn s told
  told_in = record { cut = is.cut.cut; said_of = is.cut.said }

  -- no history is claimed
  pub none_claimed : AreAllNumbered s.scripts.now s.transcript.now s.said.now → ((history : History) → ¬ IsClaimed told history) → IsVerdict s.scripts.now s.transcript.now (no 3)
  none_claimed = fails_part_3 s.scripts.now s.transcript.now s.said.now is.checked is.cut

  module _ (history : History) (stated : AreStatedIn s history) where
    it : IsStatedIn s told history
    it = stated told told_in

    -- it may be swept over
    pub may_be_swept : IsStated history
    may_be_swept =
        stated_may_be_swept s.scripts.now told history is.cut.cut.each is.checked it.numbered it.stated (subst (IsLegal finmap.empty) (sym it.same) (is.stated.stated s.transcript.now told is.cut.said).outlined.legal)

    -- it isn't legal
    pub not_legal : (¬ IsLegal finmap.empty history) → IsVerdict s.scripts.now s.transcript.now (no 3)
    not_legal isnt = is_no (cut_is_checked s.scripts.now s.transcript.now is.checked s.said.now is.cut) (part_3 (record { told = told; cut = is.cut.cut; numbered = it.numbered; fails = fails }))
      where
        fails : (k : History) → IsClaimed told k → ⊥
        fails k claimed =
            let same : history ≡ k = stated_is_one told history k it.numbered it.stated (record { sessions = claimed.sessions; count = claimed.count }) in
            isnt (subst (IsLegal finmap.empty) (sym same) claimed.legal)

    module _ (legal : IsLegal finmap.empty history) where
      pub claimed : IsClaimed told history
      claimed = record { sessions = it.stated.sessions; count = it.stated.count; legal = legal }

      -- what is judged
      pub judged : (acts : List (Option Act)) (store : VersionStore) → length s.scripts.now < 2 ^ 32 → AreKeptActs s acts → IsStoreOf history store → IsJudgedSource s acts history store
      judged acts store few acts_kept kept = record {
        source = is;
        acts_kept = acts_kept;
        few = few;
        told = told;
        told_in = told_in;
        numbered = it.numbered;
        claimed = claimed;
        outlined = it.same;
        stated = may_be_swept;
        kept = kept;
      }

      -- its lines are answered
      pub fits : IsAnswered told history → IsVerdict s.scripts.now s.transcript.now (yes (length history))
      fits answered =
          is_yes {history = history} (cut_is_checked s.scripts.now s.transcript.now is.checked s.said.now is.cut)
          (record { told = told; cut = is.cut.cut; fit = record { numbered = it.numbered; claimed = claimed; answered = answered; plain = part_5_follows told history answered } })

      -- they aren't
      pub fails_part_4 : (¬ IsAnswered told history) → IsVerdict s.scripts.now s.transcript.now (no 4)
      fails_part_4 isnt =
          is_no (cut_is_checked s.scripts.now s.transcript.now is.checked s.said.now is.cut)
          (part_4 (record { told = told; history = history; stated = record { cut = is.cut.cut; numbered = it.numbered; claimed = claimed }; fails = isnt }))

      -- by whether they are
      pub by_answers : (b : Bool) (v : Verdict) → IsTrue b ↔ IsAnswered told history → v ≡ cond b (Yes (length history)) (No 4) → IsVerdict s.scripts.now s.transcript.now (verdict_of v)
      by_answers true v tells is = subst (λ (w : Verdict). IsVerdict s.scripts.now s.transcript.now (verdict_of w)) (sym is) (fits (tells.0 refl))
      by_answers false v tells is = subst (λ (w : Verdict). IsVerdict s.scripts.now s.transcript.now (verdict_of w)) (sym is) (fails_part_4 (λ answered. (let no : false ≡ true = tells.1 answered in cc)))

-- the events of an outline with the commits of all lines
pub put_in : (s : Source) (spots : List ℕ) (commits : List (Option Commit)) (before events : History) → IsNumberedSource s spots → ((t : List Told) → AreToldIn s t → TellsCommits (outlined s) t (Some commits)) → AreStatedWithCommits → before ≡ outlined s
    → ArePutIn before events commits spots → AreStatedIn s events
put_in s spots commits before events is tells complete same put = λ t of_it.
    let both = complete s spots t commits events is.source is.table of_it (tells t of_it) (subst (λ (b : History). ArePutIn b events commits spots) same put) in
    record { numbered = is.numbered t of_it.said_of; stated = both.0; same = both.1 }
