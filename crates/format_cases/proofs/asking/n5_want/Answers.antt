use Rattle.std.proofs.Common.{◌∙◌}
use Rattle.format_cases.proofs.AskedLaws.{n5_asked}
use Rattle.format_cases.proofs.asking.n5_want.Goals as goal

pub invariant_of-result : goal.invariant_of-result
invariant_of-result c =
    n5_asked _ _ c.m.invariant
    (λ s is. c.in_ok-dimensions.ensures s is ∙ c.items.ensures)
    (λ s is. c.in_ok-block.ensures s is ∙ c.items-2.ensures)
