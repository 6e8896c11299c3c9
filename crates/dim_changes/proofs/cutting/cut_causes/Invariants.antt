use Rattle.std.proofs.Common.{◌≡◌, ◌≤◌, length, map, drop}
use Rattle.std.specs.List.{enumerate_from}
use Rattle.dim_changes.specs.Causes.{first_cause}
use Rattle.dim_changes.specs.Cuts.{cut_for}
use Rattle.dim_changes.specs.CutViews.{cause_at}
use Rattle.dim_changes.specs.Dims.{dim_at}
use Rattle.dim_changes.proofs.cutting.cut_causes.Given as goal

-- the cause that counts of the selected dimensions from this spot on
abbrev pub invariant-loop-k : goal.invariant-loop-k
invariant-loop-k l =
    (l.k ≤ length l.selected)
    × (l.cause ≡ first_cause (map (λ p. cause_at (cut_for l.act p.0 (dim_at l.dims p.1))) (enumerate_from l.k (drop l.k l.selected))))

abbrev pub decreases-loop-k : goal.decreases-loop-k
decreases-loop-k l = l.k
