use Rattle.std.proofs.Common.{◌<◌, ◌+◌, length, drop, get_or, arith}
use Rattle.std.proofs.lemmas.List.{drop_more, drop_all}
use Rattle.transcript_cut.proofs.Rising.{up_first, up_more, up_stops, up_all}
use Rattle.transcript_cut.proofs.rise.risen_all.Goals as goal

pub loop-number-init : goal.loop-number-init
loop-number-init c = up_first c.args.last c.args.numbers.now

pub loop-number-preserved : goal.loop-number-preserved
loop-number-preserved c =
    let ns = c.args.numbers.now in
    let i = c.loop-number.number-index in
    let low : i < length ns = omega arith in
    up_more c.args.last c.loop-number.latest _ ns (drop i ns) (drop (i + 1) ns) (get_or ns i 0) (drop_more ns i 0 low) c.loop-number.invariant c.in-Up.ensures

pub returns-in-Down : goal.returns-in-Down
returns-in-Down c =
    let ns = c.args.numbers.now in
    let i = c.loop-number.number-index in
    let low : i < length ns = omega arith in
    up_stops c.args.last c.loop-number.latest ns (drop i ns) (drop (i + 1) ns) (get_or ns i 0) (drop_more ns i 0 low) c.loop-number.invariant c.in-Down.ensures

pub returns : goal.returns
returns c =
    let ns = c.args.numbers.now in
    let i = c.loop-number.number-index in
    up_all c.args.last c.loop-number.latest ns (drop i ns) (drop_all i ns (omega arith)) c.loop-number.invariant
