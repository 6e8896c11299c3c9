use Rattle.std.proofs.Common.{◌≡◌, [], drop, unwrap_or}
use Rattle.std.specs.List.{list_any}
use Rattle.std.specs.Option.{option_map}
use Rattle.cells.specs.Runs.{pairs_of}
use Rattle.transaction_cells.specs.Outside.{is_pair_outside}
use Rattle.transaction_cells.proofs.outside.has_outside.Given as goal

-- none of the pairs so far
abbrev pub invariant-loop-k : goal.invariant-loop-k
invariant-loop-k l =
    let cells = unwrap_or (option_map (λ s. s.now) l.staged) [] in
    list_any (is_pair_outside l.shape l.chunk l.index cells) (drop l.k (pairs_of l.run)) ≡ list_any (is_pair_outside l.shape l.chunk l.index cells) (pairs_of l.run)
