use Rattle.std.proofs.Common.{◌<◌, ◌≤◌, None, length, get_or, take_all, refl, ap, ◌∙◌, arith}
use Rattle.transcript_cut.specs.Numbered.{slot_after}
use Rattle.transcript_cut.proofs.Slots.{put_more}
use Rattle.transcript_cut.proofs.spots.put_each.Goals as goal

pub loop-number-init : goal.loop-number-init
loop-number-init c = λ k low. refl

pub loop-number-preserved : goal.loop-number-preserved
loop-number-preserved c = λ k low.
    let here : c.loop-number.number-index < length c.args.numbers.now = omega arith in
    put_more c.args.numbers.now c.loop-number.number-index c.args.spot k (get_or c.args.slots.now k None) (get_or c.loop-number.slots k None) (get_or c.put_one.new.slots k None) here (c.loop-number.invariant k low)
    (c.put_one.ensures k (omega arith))

pub returns : goal.returns
returns c = λ k low.
    let past : length c.args.numbers.now ≤ c.loop-number.number-index = omega arith in
    c.loop-number.invariant k low ∙ ap (λ ns. slot_after ns c.args.spot k (get_or c.args.slots.now k None)) (take_all c.loop-number.number-index c.args.numbers.now past)
