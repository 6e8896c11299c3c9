use Rattle.std.proofs.Common.{◌≡◌, ◌<◌, length, map, get_or, pos, ◌∙◌, ap, sym, arith, ℤ, ◌+ℤ◌, ◌*ℤ◌, not, ◌||◌, to_z, of_z, w64, FitsSigned, rules}
use Rattle.std.proofs.lemmas.Int.{ints}
use Rattle.std.proofs.lemmas.Bool.Decides.{nat_tests}
use Rattle.index_transform.specs.declared.map.OutMap.{OutMap}
use Rattle.index_transform.specs.Shapes.{is_below, ends_leave}
use Rattle.index_transform.proofs.ShapeLemmas.{lo_at, hi_at}
use Rattle.index_transform.proofs.shape.ends_leave.Goals as goal

pub returns-in-Strided : goal.returns-in-Strided
returns-in-Strided c =
    let o : FitsSigned w64 c.in-Strided.offset = search rules in
    let s : FitsSigned w64 c.in-Strided.stride = search rules in
    let o_is : to_z w64 (of_z w64 c.in-Strided.offset) ≡ c.in-Strided.offset = omega (arith, ints) in
    let s_is : to_z w64 (of_z w64 c.in-Strided.stride) ≡ c.in-Strided.stride = omega (arith, ints) in
    let fit = (rw c.in-Strided.is at c.requires) in
    let below : c.in-Strided.dim < length c.args.dims.now = grind (arith, nat_tests, fit) in
    let r = (rw (o_is, s_is) at c.bounds_leave.ensures) in
    let d = c.index-dims-dim.result in
    let x = c.in-Strided.offset in
    let y = c.in-Strided.stride in
    r ∙ ap (λ (l : ℤ). not (is_below c.args.size (x +ℤ y *ℤ l)) || not (is_below c.args.size (x +ℤ y *ℤ d.hi))) (lo_at c.args.dims.now c.in-Strided.dim d below c.index-dims-dim.is)
    ∙ ap (λ (h : ℤ). not (is_below c.args.size (x +ℤ y *ℤ get_or (map (λ b. b.lo) c.args.dims.now) c.in-Strided.dim (pos 0))) || not (is_below c.args.size (x +ℤ y *ℤ h))) (hi_at c.args.dims.now c.in-Strided.dim d below c.index-dims-dim.is)
    ∙ sym (ap (λ (m : OutMap). ends_leave c.args.dims.now c.args.size m) c.in-Strided.is)
