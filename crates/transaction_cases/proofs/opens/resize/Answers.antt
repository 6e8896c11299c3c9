use Rattle.std.proofs.Common.{◌∙◌, sym, subst}
use Rattle.std.specs.List.{AllByRecursion}
use Rattle.history.specs.Refs.{IsKnownRef}
use Rattle.state_resizes.specs.Conditions.{IsAsked}
use Rattle.session_runs.proofs.Laws.{on_ok_any}
use Rattle.transaction_cases.proofs.SeatLaws.{seat_later}
use Rattle.transaction_cases.proofs.opens.resize.Goals as goal

pub resized-requires-clause-asked : goal.resized-requires-clause-asked
resized-requires-clause-asked g c = λ events grown legal. subst (IsAsked events c.in_ok-array.array) (c.deref.ensures.value ∙ sym c.deref-3.ensures.value) (c.in_ok-array.ensures c.args.seat.now.pass.seen events (subst (AllByRecursion (IsKnownRef c.args.seat.now.pass.seen)) (sym c.deref-2.ensures.value) c.requires.seat.known) grown legal)

pub returns : goal.returns
returns g c = record { seat = on_ok_any c.resized.result (seat_later c.args.book.now c.args.seat.now.pass c.resized.new.pass c.args.seat.now.arrays.items c.args.seat.now.txn c.requires.seat c.resized.ensures) }
