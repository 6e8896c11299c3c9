use Rattle.std.proofs.Common.{◌≡◌, ◌<◌, length, get_or, ◌∙◌, ap, sym, arith, Option, None, to_z, of_z, w64, FitsSigned, rules}
use Rattle.std.proofs.lemmas.Int.{ints}
use Rattle.std.proofs.lemmas.Bool.Decides.{nat_tests}
use Rattle.index_transform.specs.Bounds.{Bounds}
use Rattle.index_transform.specs.declared.Ends.{Ends}
use Rattle.index_transform.specs.Edges.{preimage}
use Rattle.index_transform.specs.declared.map.OutMap.{OutMap}
use Rattle.transform_composition.specs.Tightening.{gathered_from, preimages, overflows_at, overflows_by}
use Rattle.index_transform.proofs.Laws.{get_or-inside}
use Rattle.transform_composition.proofs.tightening.overflows_by.Goals as goal

pub returns-in-Strided : goal.returns-in-Strided
returns-in-Strided c =
    let o : FitsSigned w64 c.in-Strided.offset = search rules in
    let s : FitsSigned w64 c.in-Strided.stride = search rules in
    let o_is : to_z w64 (of_z w64 c.in-Strided.offset) ≡ c.in-Strided.offset = omega (arith, ints) in
    let s_is : to_z w64 (of_z w64 c.in-Strided.stride) ≡ c.in-Strided.stride = omega (arith, ints) in
    let fit = (rw c.in-Strided.is at c.requires.this_fits) in
    let below : c.in-Strided.dim < length c.args.inners.now = grind (arith, nat_tests, fit) in
    let r = (rw (o_is, s_is) at c.preimage.ensures) in
    let inner = c.index-inners-dim.is ∙ get_or-inside c.args.inners.now c.in-Strided.dim c.index-inners-dim.result c.args.outer.now below in
    c.overflows_at.ensures
    ∙ ap (λ (b : Bounds). overflows_at b c.gathered-bounds.result c.preimage.result) inner
    ∙ ap (λ (g : Option Ends). overflows_at (get_or c.args.inners.now c.in-Strided.dim c.args.outer.now) g c.preimage.result) c.gathered-bounds.ensures
    ∙ ap (λ (e : Ends). overflows_at (get_or c.args.inners.now c.in-Strided.dim c.args.outer.now) (gathered_from None (preimages preimage c.in-Strided.dim c.args.outers.now c.args.maps.now)) e) r
    ∙ sym (ap (λ (m : OutMap). overflows_by c.args.inners.now c.args.outers.now c.args.maps.now c.args.outer.now m) c.in-Strided.is)
