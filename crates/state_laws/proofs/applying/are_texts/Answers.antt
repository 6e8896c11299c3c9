use Rattle.std.proofs.lemmas.Str.{IsCharBoundary-start}
use Rattle.state_laws.proofs.OneCall.{text_more}
use Rattle.state_laws.proofs.applying.are_texts.Goals as goal

pub loop-change-preserved : goal.loop-change-preserved
loop-change-preserved c =
    text_more c.args.changes.now c.loop-change.change-index c.change-item.result c.items.result.now c.loop-change-test.true c.change-item.is c.items.ensures c.loop-change.invariant (IsCharBoundary-start c.items.result.now c.items.utf8)
