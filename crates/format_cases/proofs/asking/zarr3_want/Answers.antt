use Rattle.std.proofs.Common.{sym, ◌∙◌}
use Rattle.format_cases.proofs.AskedLaws.{asks_some, zarr3_asked}
use Rattle.format_cases.proofs.asking.zarr3_want.Goals as goal

pub invariant_of-result : goal.invariant_of-result
invariant_of-result c =
    zarr3_asked _ _ c.m.invariant
    (λ s is. c.in_ok-shape.ensures s is ∙ c.items.ensures)
    (λ s is. c.in_ok-chunks.ensures s is ∙ c.items-2.ensures)
    (λ x is. asks_some c.is_asked.result c.m.inside.dtype x (sym c.then_some.ensures ∙ is))
    (λ x is. asks_some c.is_asked-2.result c.m.inside.big x (sym c.then_some-2.ensures ∙ is))
    (λ x is. asks_some c.is_asked-3.result c.m.inside.fill x (sym c.then_some-3.ensures ∙ is))
