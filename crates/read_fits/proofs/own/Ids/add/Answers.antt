use Rattle.std.proofs.Common.{◌∙◌, sym}
use Rattle.read_fits.proofs.OwnLaws.{has_already}
use Rattle.read_fits.proofs.own.Ids.add.Goals as goal

pub returns-then-has : goal.returns-then-has
returns-then-has c = λ other. sym (has_already c.args.self.now.set.keys c.args.id.now other (sym c.has.ensures ∙ c.if-has.true))
