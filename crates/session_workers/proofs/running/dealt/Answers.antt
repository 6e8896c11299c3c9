use Rattle.std.proofs.Common.{◌∙◌, length, map, sym, ap, subst}
use Rattle.indexmap.specs.IndexMap.{get_by_text}
use Rattle.session_runs.specs.Session.{session_with}
use Rattle.session_workers.specs.Workers.{IsFresh, AreDealt}
use Rattle.session_workers.proofs.Worked.{lent}
use Rattle.session_workers.proofs.running.dealt.Goals as goal

pub returns : goal.returns
returns g c =
    let items = c.as_mut_slice.ensures.value in
    let long = ap length (sym items) ∙ c.as_mut_slice.ensures.len in
    let same = c.deal.ensures.count ∙ ap length items in
    let whole = lent c.args.row.len c.args.row.items c.deal.new.row long same in record {
      count = ap length whole ∙ same;
      dealt = λ book passes new.
          subst (λ xs. AreDealt (IsFresh book) (map (λ w. map (λ s. session_with s.pass (get_by_text s.names) s.txn s.log.items s.ended) w.sessions.items) xs) (length c.args.passes.items)) (sym whole) (c.deal.ensures.dealt book passes new);
    }
