use Rattle.std.proofs.Common.{refl, subst, arith}
use Rattle.transcript_cut.specs.Cuttings.{IsKeptAnswer}
use Rattle.transcript_cut.specs.Fronts.{BeginsWithMemory, BeginsOtherwise}
use Rattle.transcript_cut.proofs.Behind.{all_lines}
use Rattle.transcript_cut.proofs.Cuts.{at_start, found_more, cut_off_here, broken_here, broken_behind, whole_here}
use Rattle.transcript_cut.proofs.cutting.keep_answers.Goals as goal

pub lines-init : goal.lines-init
lines-init c =
    at_start c.args.scripts.now c.args.transcript.now c.args.said.now.items _ c.requires.none
    (all_lines c.args.scripts.now c.first-cursor.result.session c.first-cursor.result.number c.first-cursor.result.from c.first-cursor.ensures.session c.first-cursor.ensures.number c.first-cursor.ensures.from)

pub overflow_add-at : goal.overflow_add-at
overflow_add-at c =
    let kept : IsKeptAnswer c.split_at.result.1.now c.in-Some.line c.lines.at c.in-Ok-Answer.length c.lines.said.items c.keep_answer.new.said.items = rw c.in-Ok-Answer.field-0-is at c.in-Ok-Answer.ensures in
    omega (arith, kept.begins.within, c.split_at.ensures.back_len)

pub lines-preserved : goal.lines-preserved
lines-preserved c =
    found_more c.args.scripts.now c.args.transcript.now c.lines.said.items c.keep_answer.new.said.items _ _ c.in-Some.line c.lines.at c.in-Ok-Answer.length c.split_at.result.1.now c.lines.invariant c.in-Some.ensures.some
    c.in-Some.ensures.placed c.split_at.ensures.back (rw c.in-Ok-Answer.field-0-is at c.in-Ok-Answer.ensures)

pub returns-in-Ok-Memory : goal.returns-in-Ok-Memory
returns-in-Ok-Memory c =
    cut_off_here c.args.scripts.now c.args.transcript.now c.lines.said.items _ _ c.in-Some.line c.lines.at c.lines.invariant c.in-Some.ensures.some c.in-Some.ensures.placed
    (subst BeginsWithMemory c.split_at.ensures.back (rw c.in-Ok-Memory.field-0-is at c.in-Ok-Memory.ensures))

pub returns-in-Ok-Other : goal.returns-in-Ok-Other
returns-in-Ok-Other c =
    broken_here c.args.scripts.now c.args.transcript.now c.lines.said.items _ _ c.in-Some.line c.lines.at c.lines.invariant c.in-Some.ensures.some
    (subst (λ t. BeginsOtherwise t c.in-Some.line.number) c.split_at.ensures.back (rw c.in-Ok-Other.field-0-is at c.in-Ok-Other.ensures))

pub returns-then-at-transcript : goal.returns-then-at-transcript
returns-then-at-transcript c = broken_behind c.args.scripts.now c.args.transcript.now c.lines.said.items _ c.lines.at c.lines.invariant (c.in_default.ensures.none refl) (omega arith)

pub returns-else-at-transcript : goal.returns-else-at-transcript
returns-else-at-transcript c = whole_here c.args.scripts.now c.args.transcript.now c.lines.said.items _ c.lines.at c.lines.invariant (c.in_default.ensures.none refl) (omega arith)
