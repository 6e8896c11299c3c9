use Rattle.std.proofs.Common.{◌≡◌, [], drop, unwrap_or}
use Rattle.std.specs.Option.{option_map}
use Rattle.transaction_cells.specs.Outside.{are_outside}
use Rattle.transaction_cells.proofs.outside.are_outside.Given as goal

-- none of the runs so far
abbrev pub invariant-loop-run : goal.invariant-loop-run
invariant-loop-run l =
    let cells = unwrap_or (option_map (λ s. s.now) l.staged) [] in
    are_outside l.shape l.chunk l.index cells (drop l.run-index l.runs) ≡ are_outside l.shape l.chunk l.index cells l.runs
