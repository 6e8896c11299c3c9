use Rattle.std.proofs.Common.{refl}
use Rattle.commits.proofs.ByKeysLaws.{each_some}
use Rattle.commits.proofs.MadeLaws.{wanting_by}
use Rattle.commits.proofs.commit.commit_by_keys.Goals as goal

pub returns-in_err-writes-clause-made : goal.returns-in_err-writes-clause-made
returns-in_err-writes-clause-made g c =
    let seen = g.K.KvStore.seen in
    wanting_by c.args.owner (seen c.args.state.now.store) (seen c.args.state.now.store) c.args.state.now.log c.args.state.now.log 1 c.args.p.writes.items _ c.from_residual.result
    (each_some c.args.owner c.args.p.line c.args.p.mode c.args.p.ops c.args.p.writes.items c.requires.some) refl c.from_residual.ensures
