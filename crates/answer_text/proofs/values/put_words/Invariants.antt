use Rattle.answer_text.specs.Nested.{word_text}
use Rattle.answer_text.proofs.Items.{IsPut}
use Rattle.answer_text.proofs.values.put_words.Given as goal

abbrev pub invariant-loop-k : goal.invariant-loop-k
invariant-loop-k l = IsPut (word_text l.dtype) l.words l.k l.fn.out.items l.out.items
