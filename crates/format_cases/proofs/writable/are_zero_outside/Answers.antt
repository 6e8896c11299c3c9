use Rattle.std.proofs.Common.{subst, arith}
use Rattle.cells.specs.Places.{IsInside, c_place}
use Rattle.cells.proofs.Laws.{c_place-lt, c_index-c_place}
use Rattle.format_cases.proofs.writable.are_zero_outside.Goals as goal

pub returns : goal.returns
returns c = λ _ cell inside outside.
    let below = c_place-lt c.args.block.now cell inside in
    c.loop-place.invariant.zero (c_place c.args.block.now cell) (omega (arith, below, c.requires.count, c.loop-place-test.false))
    (λ within. outside (subst (IsInside c.args.sizes.now) (c_index-c_place c.args.block.now cell inside) within))
