use Rattle.std.proofs.Common.{◌≡◌, length, ◌∙◌, arith}
use Rattle.transcript_cut.proofs.Slots.{spots_told}
use Rattle.transcript_cut.proofs.spots.spots_by.Goals as goal

pub returns : goal.returns
returns c =
    let same : length c.put_all.new.slots ≡ length c.args.slots.now = omega arith in
    spots_told c.put_all.new.slots c.args.said.now c.all_filled.result (same ∙ c.requires.count) c.put_all.ensures c.all_filled.ensures
