use Rattle.transcript_laws.specs.Numbers.{single}
use Rattle.transcript_cut.proofs.Rising.{rises_both, first_stops}
use Rattle.transcript_cut.proofs.rise.risen_behind.Goals as goal

pub returns-in-Up : goal.returns-in-Up
returns-in-Up c = rises_both c.args.last c.in-Up.last c.args.done.now (single c.args.failed) c.risen_one.result c.in-Up.ensures c.risen_one.ensures

pub returns-in-Down : goal.returns-in-Down
returns-in-Down c = first_stops c.args.last c.args.done.now (single c.args.failed) c.in-Down.ensures
