use Rattle.std.proofs.Common.{◌∙◌, ◌+◌, ap, arith}
use Rattle.std.specs.Prelude.{sum_by, length}
use Rattle.std.proofs.lemmas.List.{take_all}
use Rattle.script_streams.specs.Reading.{texts_in}
use Rattle.transcript_check.proofs.FileLaws.{counted_more, counted_within}
use Rattle.transcript_check.proofs.files.bytes_in.Goals as goal

pub overflow_add-count : goal.overflow_add-count
overflow_add-count c =
    let more = counted_more c.args.texts.now c.loop-i.i c.index-texts-i.result c.index-texts-i.result (omega (arith, c.loop-i-test.true)) c.index-texts-i.is in
    omega (arith, c.loop-i.invariant, more, counted_within c.args.texts.now (c.loop-i.i + 1) c.requires, c.len-count.ensures)

pub loop-i-preserved : goal.loop-i-preserved
loop-i-preserved c =
    let more = counted_more c.args.texts.now c.loop-i.i c.index-texts-i.result c.index-texts-i.result (omega (arith, c.loop-i-test.true)) c.index-texts-i.is in
    omega (arith, c.loop-i.invariant, more, c.len-count.ensures)

pub returns : goal.returns
returns c = c.loop-i.invariant ∙ ap (λ ts. sum_by length (texts_in ts)) (take_all c.loop-i.i c.args.texts.now (omega (arith, c.loop-i-test.false)))
