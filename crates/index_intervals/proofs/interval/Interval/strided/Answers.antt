use Rattle.std.proofs.Common.{◌≡◌, to_z, of_z, w64, arith}
use Rattle.std.proofs.lemmas.Int.{ints}
use Rattle.index_intervals.proofs.StrideLemmas.{IsWithin-faced}
use Rattle.index_intervals.proofs.interval.Interval.strided.Goals as goal

pub returns-clause-members : goal.returns-clause-members
returns-clause-members c = λ x i.
    let s_is : to_z w64 (of_z w64 c.args.s) ≡ c.args.s = omega (arith, ints) in
    let faced = (rw s_is at c.facing.ensures) in
    let size = (rw s_is at c.abs.ensures.value) in
    let a_is : to_z w64 (of_z w64 c.abs.result) ≡ c.abs.result = omega (arith, ints) in
    let within = IsWithin-faced c.args.self.now c.facing.result c.args.s c.abs.result x faced size in
    let members = (rw a_is at (c.contracted.ensures.members x i)) in
    ((λ m. within.0 (members.0 m)), (λ w. members.1 (within.1 w)))
