use Rattle.downsample_view.proofs.Reached.{reached}
use Rattle.downsample_view.proofs.downsampling.down.Goals as goal

pub returns-clause-reached : goal.returns-clause-reached
returns-clause-reached c = reached c.args.method c.args.factors.now c.args.domain.now.dims c.requires.factors c.requires.ranks
