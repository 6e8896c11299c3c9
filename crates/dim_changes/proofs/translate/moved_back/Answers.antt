use Rattle.std.proofs.Common.{◌≡◌, ◌∙◌, ap, arith, pos, ◌-ℤ◌, neg_ℤ, to_z, of_z, w64}
use Rattle.std.proofs.lemmas.Int.{ints}
use Rattle.dim_changes.specs.Cuts.{moved_by}
use Rattle.dim_changes.proofs.translate.moved_back.Goals as goal

pub returns : goal.returns
returns c =
    let e : to_z w64 (of_z w64 (pos 0 -ℤ to_z w64 (of_z w64 c.args.by))) ≡ neg_ℤ c.args.by = omega (arith, ints) in
    c.moved_by.ensures ∙ ap (moved_by c.args.dim.now) e
