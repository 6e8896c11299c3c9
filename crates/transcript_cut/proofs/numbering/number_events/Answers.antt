use Rattle.std.proofs.Common.{subst}
use Rattle.transcript_cut.specs.Risen.{TellsRise}
use Rattle.transcript_cut.proofs.Numbered.{numbering, falling}
use Rattle.transcript_cut.proofs.numbering.number_events.Goals as goal

pub returns-then-rising : goal.returns-then-rising
returns-then-rising c = numbering c.args.said.now c.spots_of_events.result (subst (TellsRise c.args.said.now) c.if-rising.true c.in_ok-rising.ensures) c.spots_of_events.ensures

pub returns-else-rising : goal.returns-else-rising
returns-else-rising c = falling c.args.said.now (subst (TellsRise c.args.said.now) c.if-rising.false c.in_ok-rising.ensures)
