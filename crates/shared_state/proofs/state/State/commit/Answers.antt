use Rattle.state_laws.proofs.Laws.{agrees_deed}
use Rattle.shared_state.proofs.state.State.commit.Goals as goal

pub returns-clause-kept : goal.returns-clause-kept
returns-clause-kept g c = λ opening agrees right.
    let seen = g.K.KvStore.seen in
    let made = c.make_deed.ensures in
    agrees_deed opening (seen c.args.self.now.store) (seen c.make_deed.new.self.store) c.args.self.now.log c.make_deed.new.self.log c.args.owner c.args.deed c.args.changes.items c.make_deed.result made.after made.done made.one_more made.none
    made.quiet made.failed made.told made.memory made.frame c.requires.deed right agrees
