use Rattle.std.proofs.Common.{◌≡◌, ◌∙◌, ap, sym, refl, arith, [], ◌∷◌, ◌==◌, true, to_z, of_z, w64, FitsSigned, rules}
use Rattle.std.proofs.lemmas.Int.{ints}
use Rattle.std.proofs.lemmas.Bool.Decides.{nat_tests}
use Rattle.index_transform.specs.declared.Ends.{Ends}
use Rattle.index_transform.specs.Edges.{preimage}
use Rattle.index_transform.specs.declared.map.OutMap.{OutMap}
use Rattle.index_transform.specs.declared.map.OutMap.TheVariants.{Strided}
use Rattle.transform_composition.specs.Tightening.{preimages_at}
use Rattle.transform_composition.proofs.tightening.preimage_by.Goals as goal

pub returns-in-Strided : goal.returns-in-Strided
returns-in-Strided c =
    let o : FitsSigned w64 c.in-Strided.offset = search rules in
    let s : FitsSigned w64 c.in-Strided.stride = search rules in
    let o_is : to_z w64 (of_z w64 c.in-Strided.offset) ≡ c.in-Strided.offset = omega (arith, ints) in
    let s_is : to_z w64 (of_z w64 c.in-Strided.stride) ≡ c.in-Strided.stride = omega (arith, ints) in
    let same : (c.in-Strided.from == c.args.dim) ≡ true = grind (arith, nat_tests) in
    let r = (rw (o_is, s_is) at c.preimage.ensures) in
    let there : preimages_at preimage c.args.dim c.args.outer.now (Strided c.in-Strided.offset c.in-Strided.stride c.in-Strided.from) [] ≡ preimage c.args.outer.now c.in-Strided.offset c.in-Strided.stride ∷ [] = rw same refl in
    ap (λ (e : Ends). e ∷ []) r ∙ sym there ∙ sym (ap (λ (m : OutMap). preimages_at preimage c.args.dim c.args.outer.now m []) c.in-Strided.is)
