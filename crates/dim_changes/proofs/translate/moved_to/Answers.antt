use Rattle.std.proofs.Common.{◌≡◌, ◌∙◌, ap, sym, arith, ◌-ℤ◌, to_z, of_z, w64}
use Rattle.std.proofs.lemmas.Int.{ints}
use Rattle.std.specs.Int.{w128}
use Rattle.index_intervals.specs.Bounds.{Bounds}
use Rattle.dim_changes.specs.Cuts.{moved_by}
use Rattle.dim_changes.proofs.CutLemmas.{moved_to-is}
use Rattle.dim_changes.proofs.translate.moved_to.Goals as goal

pub returns : goal.returns
returns c =
    let lo = ap (λ (v : Bounds). v.lo) c.dim.view_is in
    let e : to_z w64 (of_z w64 (to_z w64 (of_z w64 c.args.origin) -ℤ to_z w64 (of_z w64 c.dim.inside.lo))) ≡ c.args.origin -ℤ c.args.dim.now.lo = omega (arith, ints) in
    let f : to_z w128 (of_z w128 c.into.result) ≡ c.args.dim.now.lo = omega (arith, ints) in
    let g = rw f at c.if-not-is_index.ensures.value in
    c.moved_by.ensures ∙ ap (moved_by c.args.dim.now) e ∙ moved_to-is c.args.dim.now c.args.origin (sym g)
