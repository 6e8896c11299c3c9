use Rattle.std.proofs.Common.{length}
use Rattle.script_lines.specs.NestedWords.{nested_words}
use Rattle.script_lines.proofs.Nesting.{GivenSo}
use Rattle.script_lines.proofs.words.+push_nested.Given as goal

abbrev pub decreases-push_nested : goal.decreases-push_nested
decreases-push_nested l = length l.shape.now

abbrev pub invariant-loop-k : goal.invariant-loop-k
invariant-loop-k l = GivenSo (nested_words l.dtype l.rest) l.items l.initial.out.items l.k l.out.items
