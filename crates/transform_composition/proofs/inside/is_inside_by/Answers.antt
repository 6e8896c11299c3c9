use Rattle.std.proofs.Common.{◌≡◌, ◌<◌, length, ◌∙◌, ap, sym, arith, to_z, of_z, w64, FitsSigned, rules}
use Rattle.std.proofs.lemmas.Int.{ints}
use Rattle.std.proofs.lemmas.Bool.Decides.{nat_tests}
use Rattle.index_transform.specs.Bounds.{Bounds}
use Rattle.index_transform.specs.declared.map.OutMap.{OutMap}
use Rattle.transform_composition.specs.Inside.{are_ends_inside, is_inside_by}
use Rattle.index_transform.proofs.Laws.{get_or-inside}
use Rattle.transform_composition.proofs.inside.is_inside_by.Goals as goal

pub returns-in-Strided : goal.returns-in-Strided
returns-in-Strided c =
    let o : FitsSigned w64 c.in-Strided.offset = search rules in
    let s : FitsSigned w64 c.in-Strided.stride = search rules in
    let o_is : to_z w64 (of_z w64 c.in-Strided.offset) ≡ c.in-Strided.offset = omega (arith, ints) in
    let s_is : to_z w64 (of_z w64 c.in-Strided.stride) ≡ c.in-Strided.stride = omega (arith, ints) in
    let fit = (rw c.in-Strided.is at c.requires) in
    let below : c.in-Strided.dim < length c.args.dims.now = grind (arith, nat_tests, fit) in
    let r = (rw (o_is, s_is) at c.are_ends_inside.ensures) in
    let inner = c.index-dims-dim.is ∙ get_or-inside c.args.dims.now c.in-Strided.dim c.index-dims-dim.result c.args.outer.now below in
    r ∙ ap (λ (b : Bounds). are_ends_inside b c.args.outer.now c.in-Strided.offset c.in-Strided.stride) inner
    ∙ sym (ap (λ (m : OutMap). is_inside_by c.args.dims.now c.args.outer.now m) c.in-Strided.is)
