-- The copy is the base.
use Rattle.std.proofs.Common.{◌≡◌, ◌∙◌, ap, sym, subst, get_or}
use Rattle.cells.specs.Dense.{DenseCells}
use Rattle.rebase_writes.specs.Staged.{AreWords, laid_over}
use Rattle.rebase_writes.proofs.StagedLaws.{get_or-laid_over}
use Rattle.rebase_writes.proofs.staged.Staged.over.Goals as goal

pub returns-clause-value : goal.returns-clause-value
returns-clause-value c =
    c.lay_over.ensures.value ∙ ap (λ (d : DenseCells). record d { words = laid_over c.args.self.now d.words }) c.in_ok-dense.ensures

pub returns-clause-cells : goal.returns-clause-cells
returns-clause-cells c place inside =
    ap (λ (d : DenseCells). get_or d.words place 0) (returns-clause-value (c))
    ∙ get_or-laid_over c.args.self.now c.args.base.now.words place c.requires.size inside

pub lay_over-requires-clause-words : goal.lay_over-requires-clause-words
lay_over-requires-clause-words c =
    subst (λ t. AreWords t c.args.self.now) (sym (ap (λ (d : DenseCells). d.dtype) c.in_ok-dense.ensures)) c.requires.words
