use Rattle.std.proofs.Common.{Some, sym, subst}
use Rattle.std.specs.List.{AllByRecursion}
use Rattle.history.specs.Refs.{IsKnownRef}
use Rattle.session_runs.proofs.Laws.{on_ok_any}
use Rattle.transaction_cases.specs.Seats.{HasSound, IsSeatThen}
use Rattle.transaction_cases.proofs.SeatLaws.{seat_staged, on_ok_with}
use Rattle.transaction_cases.proofs.txn_calls.write.Goals as goal

pub stage-requires-clause-may : goal.stage-requires-clause-may
stage-requires-clause-may g c =
    let book = c.requires.seat.0 in
    let seat = c.requires.seat.1 in
    record {
      opening = book.fixed;
      events = c.args.seat.now.pass.seen;
      txn = (subst (HasSound book.fixed c.args.seat.now.pass.seen) c.in-Some.is seat.sound).0;
      refs = c.in_ok-view.ensures.refs c.args.seat.now.pass.seen (subst (AllByRecursion (IsKnownRef c.args.seat.now.pass.seen)) (sym c.deref.ensures.value) seat.known);
    }

pub returns-in-Some : goal.returns-in-Some
returns-in-Some g c = record {
  seat = λ book seat.
      on_ok_with _ (λ more. seat_staged book c.args.seat.now.pass c.args.seat.now.arrays.items c.args.seat.now.txn _ _ c.in-Some.is seat (more book.fixed c.args.seat.now.pass.seen (c.in_ok-view.ensures.refs c.args.seat.now.pass.seen (subst (AllByRecursion (IsKnownRef c.args.seat.now.pass.seen)) (sym c.deref.ensures.value) seat.known)))) c.stage.ensures;
}
