-- The row's places are the view's and the chunk's.
use Rattle.std.proofs.Common.{◌≡◌, arith}
use Rattle.rebase_writes.proofs.run.lay_row.Goals as goal

pub overflow_cast-row : goal.overflow_cast-row
overflow_cast-row c = omega (arith, c.requires.some, c.requires.inside, c.requires.small)

pub overflow_cast-row-2 : goal.overflow_cast-row-2
overflow_cast-row-2 c = omega (arith, c.requires.some, c.requires.inside, c.requires.small)

pub overflow_cast-row-3 : goal.overflow_cast-row-3
overflow_cast-row-3 c = omega (arith, c.requires.some, c.requires.inside, c.requires.small)
