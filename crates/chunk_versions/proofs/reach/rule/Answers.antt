use Rattle.chunk_versions.proofs.Candidates.{ruled_now, ruled_already}
use Rattle.chunk_versions.proofs.reach.rule.Goals as goal

pub returns-then-reach-begin : goal.returns-then-reach-begin
returns-then-reach-begin c = ruled_now c.args.reach.now c.args.begin c.args.until c.requires c.if-reach-begin.true

pub returns-else-reach-begin : goal.returns-else-reach-begin
returns-else-reach-begin c = ruled_already c.args.reach.now c.args.begin c.args.until c.if-reach-begin.false
