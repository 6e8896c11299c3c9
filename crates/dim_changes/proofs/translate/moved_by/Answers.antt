use Rattle.std.proofs.Common.{◌≡◌, refl, sym, arith, pos, ◌-ℤ◌, neg_ℤ, to_z, of_z, w64}
use Rattle.std.proofs.lemmas.Int.{ints}
use Rattle.dim_changes.proofs.CutLemmas.{moved_by-is, moved_by-Err}
use Rattle.dim_changes.proofs.translate.moved_by.Goals as goal

pub returns-in-Ok : goal.returns-in-Ok
returns-in-Ok c =
    let e : to_z w64 (of_z w64 c.args.by) ≡ c.args.by = omega (arith, ints) in
    let can = rw e at (c.in-Ok.ensures.succeeds.0 refl) in
    let same = rw e at c.in-Ok.ensures.value in
    let off : to_z w64 (of_z w64 (pos 0 -ℤ c.args.by)) ≡ neg_ℤ c.args.by = omega (arith, ints) in
    rw e (moved_by-is c.args.dim.now c.in-Ok.dim c.args.by (to_z w64 (of_z w64 (pos 0 -ℤ c.args.by))) can same off)

pub returns-in-Err : goal.returns-in-Err
returns-in-Err c =
    let e : to_z w64 (of_z w64 c.args.by) ≡ c.args.by = omega (arith, ints) in
    sym (moved_by-Err c.args.dim.now c.args.by (λ p. let t = c.in-Err.ensures.succeeds.1 (rw e p) in cc))
