use Rattle.std.proofs.Common.{rules, ◌≡◌, ◌++◌, true, false, [], ◌∷◌, get_or, sym, ◌∙◌}
use Rattle.chunk_elements.proofs.LongLaws.{long_kept, long_left_out}
use Rattle.chunk_elements.proofs.long.of_long.Goals.{then-not-is_single+in_ok-push, else-not-is_single}
use Rattle.chunk_elements.proofs.long.of_long.Goals as goal

pub loop-k-preserved : goal.loop-k-preserved
loop-k-preserved c = elim c.if-not-is_single.branch [
  | then-not-is_single+in_ok-push w ↦
      let after : c.if-not-is_single.kept.items ≡ c.loop-k.kept.items ++ get_or c.args.numbers.now c.loop-k.k 0 ∷ [] = search rules in
      let isnt : c.is_single.result ≡ false = search rules in
      long_kept c.args.numbers.now c.args.block.now c.args.sizes.now c.loop-k.kept.items c.if-not-is_single.kept.items _ c.loop-k.k c.requires.block c.requires.sizes c.loop-k-test.true
      (sym c.is_single.ensures ∙ isnt) after c.loop-k.invariant
  | else-not-is_single w ↦
      let after : c.if-not-is_single.kept.items ≡ c.loop-k.kept.items = search rules in
      let is : c.is_single.result ≡ true = search rules in
      rw after (long_left_out c.args.numbers.now c.args.block.now c.args.sizes.now c.loop-k.kept.items _ c.loop-k.k c.requires.block c.requires.sizes c.loop-k-test.true
      (sym c.is_single.ensures ∙ is) c.loop-k.invariant)
]
