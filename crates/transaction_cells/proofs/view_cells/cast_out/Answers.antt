use Rattle.std.proofs.Common.{arith}
use Rattle.transaction_cells.proofs.CastLaws.{all_out}
use Rattle.transaction_cells.proofs.view_cells.cast_out.Goals as goal

pub returns : goal.returns
returns c = all_out c.args.lanes.now c.args.leaves.now c.args.words.now c.loop-cell.words c.loop-cell.cell c.requires.count (omega arith) c.loop-cell.invariant.words
