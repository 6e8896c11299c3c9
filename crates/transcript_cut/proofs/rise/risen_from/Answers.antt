use Rattle.transcript_cut.proofs.Rising.{greater_goes, lesser_stops}
use Rattle.transcript_cut.proofs.rise.risen_from.Goals as goal

pub returns-then-before-next : goal.returns-then-before-next
returns-then-before-next c = greater_goes c.args.before c.args.next c.if-before-next.true

pub returns-else-before-next : goal.returns-else-before-next
returns-else-before-next c = lesser_stops c.args.before c.args.next c.if-before-next.false
