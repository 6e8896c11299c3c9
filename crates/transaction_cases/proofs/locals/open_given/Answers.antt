use Rattle.std.proofs.Common.{sym, subst}
use Rattle.transaction_cases.specs.Seats.{IsSeatThen}
use Rattle.transaction_cases.proofs.SeatLaws.{given_seat, on_ok_with}
use Rattle.transaction_cases.proofs.locals.open_given.Goals as goal

pub returns-in-Ok : goal.returns-in-Ok
returns-in-Ok g c = record {
  seat =
      on_ok_with _ (λ is. subst (λ a. IsSeatThen c.args.book.now c.args.seat.now.pass c.open_given_in_turn.new.pass a c.args.seat.now.txn) (sym is)
      (given_seat c.args.book.now c.args.seat.now.pass c.open_given_in_turn.new.pass c.args.seat.now.arrays.items c.args.seat.now.txn c.args.start c.in-Ok.opened c.requires.seat c.in-Ok.ensures.opened)) c.opened_told.ensures;
}
