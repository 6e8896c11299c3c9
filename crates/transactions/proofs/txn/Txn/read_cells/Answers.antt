use Rattle.transactions.proofs.ReadLaws.{may_stage}
use Rattle.transactions.proofs.txn.Txn.read_cells.Goals as goal

pub sources-requires : goal.sources-requires
sources-requires g c = may_stage c.args.around.now.book.now.fixed c.args.pass.now.seen c.args.self.now c.args.v.now c.args.cells.now c.requires.read
