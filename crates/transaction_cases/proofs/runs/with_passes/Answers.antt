use Rattle.std.proofs.Common.{◌≡◌, rules}
use Rattle.transaction_cases.proofs.SeatLaws.{pass_first, pass_last, seat_fresh}
use Rattle.transaction_cases.proofs.runs.with_passes.Goals as goal

pub with_seats-requires-clause-one : goal.with_seats-requires-clause-one
with_seats-requires-clause-one g c =
    let one : c.pop.new.self.len ≡ 1 = search rules in
    seat_fresh c.args.book c.new-one.result.pass c.unwrap-2.result c.new-one.result.arrays.items c.new-one.result.txn 0 c.new-one.ensures.pass c.new-one.ensures.arrays c.new-one.ensures.txn
    (pass_first c.args.book c.args.passes.items c.pop.new.self.items c.args.passes.len c.pop.new.self.len c.pop-2.result c.unwrap-2.result c.requires.passes c.requires.two c.requires.count one c.pop.ensures.rest c.pop-2.ensures.value c.unwrap-2.ensures)

pub with_seats-requires-clause-other : goal.with_seats-requires-clause-other
with_seats-requires-clause-other g c = seat_fresh c.args.book c.new-other.result.pass c.unwrap.result c.new-other.result.arrays.items c.new-other.result.txn 1 c.new-other.ensures.pass c.new-other.ensures.arrays c.new-other.ensures.txn
    (pass_last c.args.book c.args.passes.items _ c.pop.result c.unwrap.result c.requires.passes c.requires.two c.requires.count c.pop.ensures.value c.unwrap.ensures)
