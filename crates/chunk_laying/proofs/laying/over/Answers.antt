use Rattle.std.proofs.Common.{sym, subst}
use Rattle.rebase_writes.specs.Staged.{AreWords}
use Rattle.chunk_laying.proofs.LayLaws.{over-base-ok, over-fill-ok}
use Rattle.chunk_laying.proofs.laying.over.Goals as goal

pub over_base-requires-clause-words : goal.over_base-requires-clause-words
over_base-requires-clause-words c = subst (λ t. AreWords t c.args.staged.now) (sym (c.requires.base_dtype c.in-Some.base c.in-Some.is)) c.requires.words

pub returns-in-Some-clause-words : goal.returns-in-Some-clause-words
returns-in-Some-clause-words c =
    rw c.in-Some.is (over-base-ok c.over_base.result c.args.chunk_shape.now c.args.staged.now c.args.fill c.in-Some.base.now (c.requires.base_shape c.in-Some.base c.in-Some.is) c.over_base.ensures.shape c.over_base.ensures.cells)

pub returns-in-None-clause-words : goal.returns-in-None-clause-words
returns-in-None-clause-words c = rw c.in-None.is (over-fill-ok c.over_fill.result c.args.chunk_shape.now c.args.staged.now c.args.fill c.over_fill.ensures.shape c.over_fill.ensures.cells)
