use Rattle.std.proofs.Common.{◌≡◌, ◌+◌, true, false, ◌∙◌, arith}
use Rattle.script_lines.specs.Script.{is_blank}
use Rattle.transcript_cut.proofs.ScriptLines.{line_here, blank_here}
use Rattle.transcript_cut.proofs.cursor.line_in.Goals as goal

-- src/cursor.rt:101:13
pub returns-then-not-is_blank-clause-some : goal.returns-then-not-is_blank-clause-some
returns-then-not-is_blank-clause-some c =
    let full : is_blank c.split_at-in-loop-from.result.0.now ≡ false = cc in
    c.loop-from.invariant.same
    ∙ line_here c.args.session c.loop-from.number c.args.script.now c.split_at.result.1.now c.split_at-in-loop-from.result.0.now c.loop-from.from c.line_end-end.result c.split_at.ensures.back c.line_end-end.ensures
    c.split_at-in-loop-from.ensures.front (c.loop-from.from + c.line_end-end.result + 1) (omega arith) full

-- src/cursor.rt:96:5
pub loop-from-preserved : goal.loop-from-preserved
loop-from-preserved c =
    let blank : is_blank c.split_at-in-loop-from.result.0.now ≡ true = cc in
    record {
      same = c.loop-from.invariant.same
          ∙ blank_here c.args.session c.loop-from.number c.args.script.now c.split_at.result.1.now c.split_at-in-loop-from.result.0.now c.loop-from.from c.line_end-end.result c.split_at.ensures.back
          c.line_end-end.ensures c.split_at-in-loop-from.ensures.front (c.loop-from.from + (c.line_end-end.result + 1)) (omega arith) blank;
      counted = omega arith;
    }
