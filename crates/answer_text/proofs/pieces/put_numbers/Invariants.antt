use Rattle.std.specs.Prelude.{decimal}
use Rattle.answer_text.proofs.Items.{IsPut}
use Rattle.answer_text.proofs.pieces.put_numbers.Given as goal

abbrev pub invariant-loop-k : goal.invariant-loop-k
invariant-loop-k l = IsPut decimal l.numbers l.k l.fn.out.items l.out.items
