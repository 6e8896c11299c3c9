use Rattle.std.proofs.Common.{◌≡◌}
use Rattle.std.specs.Prelude.{IsSome}
use Rattle.std.specs.List.{AllByRecursion}
use Rattle.history.specs.Arrays.{known_after}
use Rattle.state_laws.specs.declared.deed.HeldCells.{HeldCells}
use Rattle.state_laws.specs.Changing.{with_cells}
use Rattle.state_laws.proofs.entering.put_all.Given as goal

-- the cells that are left
abbrev pub invariant-loop-held : goal.invariant-loop-held
invariant-loop-held l = record {
  known : AllByRecursion (λ (c : HeldCells). IsSome (known_after l.records.events c.array)) l.held-iterator.rest.items;
  after : record l.records { locals = with_cells l.records.locals l.held-iterator.rest.items } ≡ record l.initial.records { locals = with_cells l.initial.records.locals l.fn.cells.items };
}
