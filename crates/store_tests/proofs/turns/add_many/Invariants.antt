use Rattle.std.proofs.Common.{◌≡◌}
use Rattle.turn_book.specs.Passes.{IsIdle}
use Rattle.store_tests.proofs.turns.add_many.Given as goal

abbrev pub invariant-loop-amount : goal.invariant-loop-amount
invariant-loop-amount g l = record { idle : IsIdle l.fn.book l.pass; number : l.pass.number ≡ l.fn.pass.number }
