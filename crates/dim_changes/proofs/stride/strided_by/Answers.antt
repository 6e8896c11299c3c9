use Rattle.std.proofs.Common.{◌≡◌, refl, arith, to_z, of_z, w64}
use Rattle.std.proofs.lemmas.Int.{ints}
use Rattle.dim_changes.proofs.CutLemmas.{strided_by-is}
use Rattle.dim_changes.proofs.stride.strided_by.Goals as goal

pub returns-in-Ok : goal.returns-in-Ok
returns-in-Ok c =
    let e : to_z w64 (of_z w64 c.args.s) ≡ c.args.s = omega (arith, ints) in
    let nonzero = rw e at (c.in-Ok.ensures.succeeds.0 refl) in
    let dim = rw e at c.in-Ok.ensures.value in
    rw e (strided_by-is c.args.dim.now c.in-Ok.dim c.args.s nonzero dim)
