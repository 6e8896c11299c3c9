use Rattle.std.proofs.Common.{refl, sym}
use Rattle.transaction_cells.proofs.CastLaws.{plain_out}
use Rattle.transaction_cells.proofs.view_cells.out.Goals as goal

pub returns-else-not-are_plain : goal.returns-else-not-are_plain
returns-else-not-are_plain c = sym (plain_out c.args.lanes.now c.args.leaves.now c.args.words.now (c.if-not-are_plain.ensures refl) c.requires.count)
