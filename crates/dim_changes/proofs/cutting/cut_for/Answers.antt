use Rattle.std.proofs.Common.{sym, arith}
use Rattle.std.proofs.lemmas.Int.{ints}
use Rattle.dim_changes.proofs.cutting.cut_for.Goals as goal

pub moved_by-requires : goal.moved_by-requires
moved_by-requires c =
    let h = rw c.in-TranslateBy.is at c.requires in
    let i = h c.in-Some-number_for.number (sym c.in-Some-number_for.ensures) in
    omega (arith, ints, i.above, i.below)
