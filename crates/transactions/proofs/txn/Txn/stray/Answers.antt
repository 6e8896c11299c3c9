use Rattle.std.proofs.Common.{subst, get_or}
use Rattle.std.specs.Option.{option_copied}
use Rattle.transactions.specs.Strays.{IsFitting}
use Rattle.transactions.proofs.txn.Txn.stray.Goals as goal

pub stray_of-requires-clause-fits : goal.stray_of-requires-clause-fits
stray_of-requires-clause-fits c d = subst (λ o. IsFitting (get_or c.args.cells.now.pieces c.args.piece d) (option_copied o)) c.in-Some.is (c.requires.fits d)
