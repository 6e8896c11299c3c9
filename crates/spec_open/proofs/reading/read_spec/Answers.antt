use Rattle.serde_json.specs.View.{view}
use Rattle.spec_open.proofs.Fits.{read_sound}
use Rattle.spec_open.proofs.reading.read_spec.Goals as goal

pub returns-clause-sound : goal.returns-clause-sound
returns-clause-sound c =
    read_sound c.args.names.now (view c.args.v.now) c.new-leaves.result.items _ (record { tree = c.in_ok-tree.tree; leaves = c.read_node.new.leaves.items })
    c.new-leaves.ensures.items c.wrap.ensures c.in_ok-tree.ensures.value
