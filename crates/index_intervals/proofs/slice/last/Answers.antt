use Rattle.std.proofs.Common.{◌≡◌, arith, to_z, of_z, w64}
use Rattle.std.proofs.lemmas.Int.{ints}
use Rattle.index_intervals.specs.Slice.{slice_lo, slice_size}
use Rattle.index_intervals.proofs.slice.last.Goals as goal

-- the parts in plain numbers
lo_is : (c : goal.After-from-2) → c.first.result ≡ slice_lo c.args.step c.args.from
lo_is c =
    let s : to_z w64 (of_z w64 c.args.step) ≡ c.args.step = omega (arith, ints) in
    let f : to_z w64 (of_z w64 c.args.from) ≡ c.args.from = omega (arith, ints) in
    (rw (s, f) at c.first.ensures)

size_is : (c : goal.After-from-2) → c.size.result ≡ slice_size c.args.step c.args.from c.args.to
size_is c =
    let s : to_z w64 (of_z w64 c.args.step) ≡ c.args.step = omega (arith, ints) in
    let f : to_z w64 (of_z w64 c.args.from) ≡ c.args.from = omega (arith, ints) in
    let t : to_z w64 (of_z w64 c.args.to) ≡ c.args.to = omega (arith, ints) in
    (rw (s, f, t) at c.size.ensures)

pub overflow_sub-result : goal.overflow_sub-result
overflow_sub-result c = omega (arith, ints)

pub overflow_cast-result : goal.overflow_cast-result
overflow_cast-result c =
    let l = lo_is c in
    let z = size_is c in
    omega (arith, ints)

pub returns : goal.returns
returns c =
    let l = lo_is c in
    let z = size_is c in
    omega (arith, ints)
