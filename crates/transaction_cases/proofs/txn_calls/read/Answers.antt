use Rattle.std.proofs.Common.{Some, sym, subst}
use Rattle.std.specs.List.{AllByRecursion}
use Rattle.history.specs.Refs.{IsKnownRef}
use Rattle.session_runs.proofs.Laws.{on_ok_any}
use Rattle.transaction_cases.specs.Seats.{HasSound}
use Rattle.transaction_cases.proofs.SeatLaws.{seat_with}
use Rattle.transaction_cases.proofs.txn_calls.read.Goals as goal

pub read_view-requires-clause-sound : goal.read_view-requires-clause-sound
read_view-requires-clause-sound g c = subst (HasSound c.args.book.now.fixed c.args.seat.now.pass.seen) c.in-Some.is c.requires.seat.sound

pub read_view-requires-clause-refs : goal.read_view-requires-clause-refs
read_view-requires-clause-refs g c = c.in_ok-view.ensures.refs c.args.seat.now.pass.seen (subst (AllByRecursion (IsKnownRef c.args.seat.now.pass.seen)) (sym c.deref.ensures.value) c.requires.seat.known)

pub returns-in-Some : goal.returns-in-Some
returns-in-Some g c = record { seat = on_ok_any _ (seat_with c.args.book.now c.args.seat.now.pass c.read_view.new.pass c.args.seat.now.arrays.items _ c.requires.seat.known c.read_view.ensures.passed c.read_view.ensures.sound) }
