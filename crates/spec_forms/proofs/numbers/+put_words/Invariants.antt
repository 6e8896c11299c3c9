use Rattle.std.proofs.Common.{length}
use Rattle.spec_forms.proofs.Rows.{IsPut}
use Rattle.spec_forms.proofs.numbers.+put_words.Given as goal

abbrev pub decreases-put_words : goal.decreases-put_words
decreases-put_words l = length l.sizes.now

abbrev pub invariant-loop-item : goal.invariant-loop-item
invariant-loop-item l = IsPut l.dtype l.behind l.items l.item-index l.fn.out.items l.out.items
