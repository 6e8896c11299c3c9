use Rattle.std.proofs.Common.{◌∙◌, length, sym, ap, subst}
use Rattle.transcript_fits.specs.StatedHistories.{ArePutIn}
use Rattle.transcript_check.proofs.SpotLaws.{lent}
use Rattle.transcript_check.proofs.checking.put_all.Goals as goal

pub put_commits-requires-clause-count : goal.put_commits-requires-clause-count
put_commits-requires-clause-count c = c.requires.count ∙ sym (ap length c.as_mut_slice.ensures.value)

pub returns-in-Ok : goal.returns-in-Ok
returns-in-Ok c =
    let items = c.as_mut_slice.ensures.value in
    let put = subst (λ olds. ArePutIn olds c.put_commits.new.events c.args.commits.now c.args.spots.now) items c.in-Ok.ensures in
    subst (λ all. ArePutIn c.args.events.items all c.args.commits.now c.args.spots.now)
    (sym (lent c.args.events.len c.args.events.items c.put_commits.new.events (ap length (sym items) ∙ c.as_mut_slice.ensures.len) put.count)) put
