use Rattle.std.specs.Fmt.{signed_decimal}
use Rattle.answer_text.proofs.Items.{IsPut}
use Rattle.answer_text.proofs.pieces.put_indices.Given as goal

abbrev pub invariant-loop-k : goal.invariant-loop-k
invariant-loop-k l = IsPut signed_decimal l.indices l.k l.fn.out.items l.out.items
