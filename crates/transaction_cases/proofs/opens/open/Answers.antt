use Rattle.std.proofs.Common.{sym, subst}
use Rattle.session_runs.proofs.Laws.{on_ok_any, passed_of_turn}
use Rattle.transaction_cases.specs.Seats.{IsSeatThen}
use Rattle.transaction_cases.proofs.SeatLaws.{stored_seat, seat_later, on_ok_with}
use Rattle.transaction_cases.proofs.opens.open.Goals as goal

pub returns-in-Ok : goal.returns-in-Ok
returns-in-Ok g c = record {
  seat =
      on_ok_with _ (λ is. subst (λ a. IsSeatThen c.args.book.now c.args.seat.now.pass c.open_in_turn.new.pass a c.args.seat.now.txn) (sym is)
      (stored_seat c.args.book.now c.args.seat.now.pass c.open_in_turn.new.pass c.args.seat.now.arrays.items c.args.seat.now.txn _ c.in-Ok.opened c.requires.seat c.in-Ok.ensures)) c.opened_told.ensures;
}

pub returns : goal.returns
returns g c = record { seat = on_ok_any _ (seat_later c.args.book.now c.args.seat.now.pass c.open_in_turn.new.pass c.args.seat.now.arrays.items c.args.seat.now.txn c.requires.seat (passed_of_turn c.args.book.now c.args.seat.now.pass c.open_in_turn.new.pass c.open_in_turn.ensures.added c.open_in_turn.ensures.turn.turned)) }
