use Rattle.std.proofs.Common.{◌<◌, ◌+◌, length, sym, ap, ◌∙◌, arith}
use Rattle.transcript_cut.specs.Numbers.{all_numbers}
use Rattle.transcript_cut.proofs.Slots.{count_more}
use Rattle.transcript_cut.proofs.spots.count_numbers.Goals as goal

pub loop-line-preserved : goal.loop-line-preserved
loop-line-preserved c =
    let low : c.loop-line.line-index < length c.args.said.now = omega arith in
    c.in_ok-count.ensures ∙ ap (λ n. n + length (all_numbers c.line-item.result.numbers)) c.loop-line.invariant
    ∙ sym (count_more c.args.said.now c.loop-line.line-index c.line-item.result low c.line-item.is)
