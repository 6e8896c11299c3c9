use Rattle.state_laws.proofs.Laws.{agrees_shape}
use Rattle.shared_state.proofs.state.State.reshape.Goals as goal

pub make_shape-requires-clause-array : goal.make_shape-requires-clause-array
make_shape-requires-clause-array g c = let shape = c.requires.shape in (shape.array, shape.known, shape.may.stored, shape.form)

pub returns-clause-kept : goal.returns-clause-kept
returns-clause-kept g c = λ opening agrees right.
    let seen = g.K.KvStore.seen in
    let made = c.make_shape.ensures in
    agrees_shape opening (seen c.args.self.now.store) (seen c.make_shape.new.self.store) c.args.self.now.log c.make_shape.new.self.log c.args.owner c.args.new c.args.changes.now c.make_shape.result made.after made.done made.one_more made.none
    made.quiet made.failed made.told made.memory made.frame c.requires.shape right agrees
