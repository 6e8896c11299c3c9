use Rattle.std.proofs.Common.{◌≡◌, ◌++◌}
use Rattle.commits.specs.Keeping.{left_cells}
use Rattle.commits.specs.Plans.{keys_of, changes_of, cells_of}
use Rattle.commits.proofs.parts.parted.Given as goal

-- the plans that are left
abbrev pub invariant-loop-plan : goal.invariant-loop-plan
invariant-loop-plan l = record {
  changes : l.parts.changes.items ++ changes_of l.plan-iterator.rest.items ≡ changes_of l.fn.plans.items;
  keys : l.parts.keys.items ++ keys_of l.plan-iterator.rest.items ≡ keys_of l.fn.plans.items;
  cells : l.parts.cells.items ++ cells_of l.plan-iterator.rest.items ≡ cells_of l.fn.plans.items;
  left : l.parts.left.items ++ left_cells l.plan-iterator.rest.items ≡ left_cells l.fn.plans.items;
}
