use Rattle.std.proofs.Common.{ℕ, ◌+◌, ◌<◌, ℤ, pos, List, drop, get_or, sym, subst}
use Rattle.std.specs.List.{All}
use Rattle.index_transform.proofs.Laws.{get_or-inside}
use Rattle.json_forms.specs.Lists.{all_of}
use Rattle.dim_changes.specs.Dims.{position_of}
use Rattle.step_forms.proofs.Laws.{Gathered}
use Rattle.dim_expressions.proofs.TargetLaws.{gathered-item, below-more}
use Rattle.dim_expressions.proofs.transpose.positions_of.Goals as goal

pub loop-k-preserved : goal.loop-k-preserved
loop-k-preserved c =
    let k = c.loop-k.k in
    let x : ℤ = get_or c.args.targets.now k (pos 0) in
    let whole = all_of (position_of c.args.rank) c.args.targets.now in
    subst (λ (ys : List ℕ). Gathered ys (all_of (position_of c.args.rank) (drop (k + 1) c.args.targets.now)) whole × All (λ dim. dim < c.args.rank) ys)
    (sym c.in_ok-push.ensures.items) (
      gathered-item (position_of c.args.rank) c.args.targets.now k x c.in-Some.position c.loop-k.positions.items whole c.loop-k-test.true
          (get_or-inside c.args.targets.now k (pos 0) x c.loop-k-test.true) (sym c.in-Some.ensures.value) c.loop-k.invariant.0,
      below-more c.args.rank c.loop-k.positions.items c.in-Some.position c.loop-k.invariant.1 c.in-Some.ensures.bound,
    )
