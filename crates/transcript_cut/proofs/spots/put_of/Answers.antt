use Rattle.std.proofs.Common.{None, get_or, arith}
use Rattle.transcript_laws.specs.Numbers.{single}
use Rattle.transcript_cut.proofs.Slots.{put_three}
use Rattle.transcript_cut.proofs.spots.put_of.Goals as goal

pub returns : goal.returns
returns c = λ k low.
    put_three c.args.numbers.now.opened c.args.numbers.now.done (single c.args.numbers.now.failed) c.args.spot k (get_or c.args.slots.now k None) (get_or c.put_list.new.slots k None) (get_or c.put_list-2.new.slots k None)
    (get_or c.put_single.new.slots k None) (c.put_list.ensures k low) (c.put_list-2.ensures k (omega arith)) (c.put_single.ensures k (omega arith))
