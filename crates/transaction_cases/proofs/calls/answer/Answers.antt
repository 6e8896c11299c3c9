use Rattle.transaction_cases.proofs.SeatLaws.{on_ok_with, seat_sound}
use Rattle.transaction_cases.proofs.calls.answer.Goals as goal

pub returns-in-begin : goal.returns-in-begin
returns-in-begin g c = record {
  seat =
      on_ok_with c.begin.result (λ sound. seat_sound c.args.book.now c.args.seat.now.pass c.args.seat.now.arrays.items c.args.seat.now.txn _ c.requires.seat sound)
      (c.begin.ensures c.args.book.now.fixed c.args.seat.now.pass.seen c.requires.seat.rested.past.outline);
}
