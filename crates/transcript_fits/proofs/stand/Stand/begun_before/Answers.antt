use Rattle.std.proofs.Common.{◌-◌, take, arith}
use Rattle.stated_history.specs.Standings.{standing_of}
use Rattle.transcript_fits.proofs.Follows.{before_plain, before_reads}
use Rattle.transcript_fits.proofs.stand.Stand.begun_before.Goals as goal

pub returns-then-keeps_reads-clause-within : goal.returns-then-keeps_reads-clause-within
returns-then-keeps_reads-clause-within c =
    let kept = c.keeps_reads.ensures.yes c.if-keeps_reads.true in
    let one = c.requires.begun.1 kept.0 kept.1 in
    let low = one.0 in
    let high = one.1 in
    omega (arith, low, high)

pub returns-then-keeps_reads-clause-lines : goal.returns-then-keeps_reads-clause-lines
returns-then-keeps_reads-clause-lines c = λ told begun.
    let kept = c.keeps_reads.ensures.yes c.if-keeps_reads.true in
    before_reads told c.args.begin c.args.place c.args.self.now.begun (standing_of c.args.self.now.walk.standing).transaction kept.0 kept.1 kept.2 c.requires.begin begun

pub returns-else-keeps_reads-clause-lines : goal.returns-else-keeps_reads-clause-lines
returns-else-keeps_reads-clause-lines c = λ told begun.
    before_plain told c.args.begin c.args.place c.args.self.now.begun (standing_of c.args.self.now.walk.standing).transaction (c.keeps_reads.ensures.no c.if-keeps_reads.false) (take (c.args.place - c.args.begin) told)
