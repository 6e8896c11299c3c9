use Rattle.std.proofs.Common.{◌<◌, length, arith, rules}
use Rattle.line_fits.proofs.Walls.{last_from-last}
use Rattle.line_fits.proofs.windows.last_in.Goals as goal

pub returns : goal.returns
returns c =
    let some : 0 < length c.args.numbers.now = first_of (search rules, grind arith, omega (arith, c.if-is_empty.ensures)) in
    last_from-last c.args.seen c.args.numbers.now some
