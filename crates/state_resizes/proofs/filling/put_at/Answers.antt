use Rattle.state_resizes.proofs.Lists.{keys_put, bytes_put, bytes_left}
use Rattle.state_resizes.proofs.filling.put_at.Goals as goal

pub returns-clause-keys : goal.returns-clause-keys
returns-clause-keys c = keys_put c.args.changes.now c.args.place c.index-changes-place.result c.args.bytes c.requires

pub returns-clause-here : goal.returns-clause-here
returns-clause-here c = bytes_put c.args.changes.now c.args.place _ c.requires

pub returns-clause-others : goal.returns-clause-others
returns-clause-others c j other = bytes_left c.args.changes.now c.args.place _ j other
