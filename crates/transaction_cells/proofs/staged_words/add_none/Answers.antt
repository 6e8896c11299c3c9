use Rattle.std.proofs.Common.{◌∙◌, [], refl, ap, arith}
use Rattle.rebase_writes.specs.Staged.{staged_at}
use Rattle.transaction_cells.specs.StagedWords.{word_of_pair}
use Rattle.transaction_cells.proofs.MorePairs.{pair_more, pairs_all}
use Rattle.transaction_cells.proofs.staged_words.add_none.Goals as goal

pub loop-k-preserved : goal.loop-k-preserved
loop-k-preserved c =
    pair_more (word_of_pair []) c.args.run c.loop-k.k c.args.words.now.items c.loop-k.words.items c.push.new.self.items _ (omega arith) c.loop-k.invariant c.in_ok-push.ensures.items
    refl

pub returns : goal.returns
returns c = pairs_all (word_of_pair []) c.args.run c.loop-k.k c.args.words.now.items c.loop-k.words.items (omega arith) c.loop-k.invariant
