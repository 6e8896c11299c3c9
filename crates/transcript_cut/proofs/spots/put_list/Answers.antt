use Rattle.std.proofs.Common.{None, get_or, ap, ◌∙◌}
use Rattle.transcript_cut.specs.Numbered.{slot_after}
use Rattle.transcript_cut.proofs.spots.put_list.Goals as goal

pub returns : goal.returns
returns c = λ k low. c.put_each.ensures k low ∙ ap (λ ns. slot_after ns c.args.spot k (get_or c.args.slots.now k None)) c.items.ensures
