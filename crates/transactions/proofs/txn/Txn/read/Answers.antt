use Rattle.std.proofs.Common.{sym, subst}
use Rattle.transactions.specs.Reading.{IsFoundUnless, IsReadError}
use Rattle.transactions.proofs.ReadLaws.{locate_refused}
use Rattle.transactions.proofs.StagedLaws.{found_unless, found_unlocated, if_err_any}
use Rattle.transactions.proofs.ViewLaws.{alike_known}
use Rattle.transactions.proofs.txn.Txn.read.Goals as goal

pub located-requires-clause-alike : goal.located-requires-clause-alike
located-requires-clause-alike g c = alike_known c.args.pass.now.seen c.args.v.now c.requires.txn.outline c.requires.refs

pub returns-in-Err-clause-errors : goal.returns-in-Err-clause-errors
returns-in-Err-clause-errors g c =
    subst (IsReadError c.args.around.now.book.now c.args.pass.now c.args.pass.now c.args.self.now c.args.v.now) (sym c.unlocated.ensures)
    (locate_refused c.args.around.now.book.now c.args.pass.now c.args.self.now c.args.v.now c.in-Err.e c.in-Err.ensures.err)

pub returns-in-Ok-clause-found : goal.returns-in-Ok-clause-found
returns-in-Ok-clause-found g c = if_err_any c.read_cells.result (found_unless c.args.v.now c.in-Ok.ensures.sites)

pub returns-in-Err-clause-found : goal.returns-in-Err-clause-found
returns-in-Err-clause-found g c = subst (IsFoundUnless c.args.v.now) (sym c.unlocated.ensures) (found_unlocated c.args.v.now c.in-Err.e)
