use Rattle.version_store.proofs.Opened.{local_size}
use Rattle.version_store.proofs.opening.size_of.Goals as goal

pub returns-in-Local : goal.returns-in-Local
returns-in-Local c = local_size c.args.info.now c.in-Local.start c.count.result c.in-Local.is c.count.ensures.value
