use Rattle.std.proofs.Common.{◌≡◌, ◌+ℤ◌, ◌-ℤ◌, to_z, of_z, w64, sym, subst, arith}
use Rattle.std.proofs.lemmas.Int.{ints}
use Rattle.index_intervals.specs.Bounds.{Bounds, IsIndex}
use Rattle.layer_join.specs.Slid.{shift_to}
use Rattle.layer_join.proofs.Steps.{end_index}
use Rattle.layer_join.proofs.sliding.behind.Goals as goal

pub index_behind-requires-clause-end : goal.index_behind-requires-clause-end
index_behind-requires-clause-end c =
    let n : to_z w64 (of_z w64 c.args.next) ≡ c.args.next = omega (arith, ints) in
    rw n (subst (λ (dim : Bounds). IsIndex (dim.hi +ℤ (c.args.next -ℤ dim.lo))) (sym c.along.ensures) (end_index c.args.axis (shift_to c.args.next c.args.axis c.args.v.now) c.args.v.now c.requires.able))
