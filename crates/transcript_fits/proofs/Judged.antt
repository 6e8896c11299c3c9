-- What is known of a transcript whose lines are judged.
use Rattle.std.proofs.Common.{◌≡◌, ◌∙◌, ◌<◌, ◌≤◌, ℕ, get_or, length, take, drop, sym, arith, take-append-drop}
use Rattle.std.specs.FinMap as finmap
use Rattle.history.specs.Legal.{IsLegal}
use Rattle.open_fits.specs.Conflicts.{AreTablesOf}
use Rattle.stated_history.proofs.Laws.{AreUnresized, kept_outline, stated_unresized}
use Rattle.open_fits.specs.Sweeps.{IsFront}
use Rattle.transcript_fits.specs.Judges.{IsJudge, history_of}
use Rattle.transcript_fits.specs.declared.judge.Judge.{Judge}

module _ (j : Judge) (is : IsJudge j) where
  pub judge_legal : IsLegal finmap.empty (history_of j)
  judge_legal = is.claimed.legal

  pub judge_still : AreUnresized (history_of j)
  judge_still = stated_unresized is.told (history_of j) is.numbered is.claimed.sessions is.claimed.count

  -- the first so many events, of which so many open arrays
  pub front_of : (n opened : ℕ) → n ≤ length (history_of j) → opened ≡ get_or j.counts.now n 0 → IsFront (history_of j) (take n (history_of j)) opened
  front_of n opened low same = record {
    stated = is.stated;
    later = drop n (history_of j);
    whole = sym (take-append-drop n (history_of j));
    count = same ∙ is.counts.each n low;
  }

  pub count_low : (n : ℕ) → n ≤ length (history_of j) → n < length j.counts.now
  count_low n low = let long = is.counts.long in omega (arith, long, low)

  -- the tables of arrays and of what touched chunks are the history's
  pub tables_of : AreTablesOf (history_of j) j.source.now.openings.now j.store.now
  tables_of = record { outlined = is.outlined; arrays = (kept_outline j.source.now is.source).kept; touches = is.store }
