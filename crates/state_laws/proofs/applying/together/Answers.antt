use Rattle.std.proofs.Common.{◌∙◌}
use Rattle.state_laws.proofs.OneCall.{together-keys}
use Rattle.state_laws.proofs.applying.together.Goals as goal

pub returns-clause-keys : goal.returns-clause-keys
returns-clause-keys g c = c.together.ensures ∙ together-keys ((g.K.KvStore.seen c.args.store.now).prefixes) c.args.changes.now
