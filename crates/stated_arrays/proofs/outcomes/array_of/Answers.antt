use Rattle.std.proofs.Common.{◌≡◌, Some, sym, subst, ◌∙◌}
use Rattle.stated_arrays.specs.Outcomes.{IsOpenedAt}
use Rattle.stated_arrays.proofs.outcomes.array_of.Goals as goal

pub number_at-requires : goal.number_at-requires
number_at-requires c = (c.requires.1.0, c.requires.1.1)

pub array_opened-requires : goal.array_opened-requires
array_opened-requires c =
    let both : Some c.requires.1.0 ≡ Some c.number_at.result = sym c.requires.1.1 ∙ c.number_at.ensures in
    let same : c.requires.1.0 ≡ c.number_at.result = cc in
    (c.requires.0, subst (λ n. IsOpenedAt c.args.events.now n c.requires.0) same c.requires.1.2)

pub returns : goal.returns
returns c = λ info is.
    let both : Some is.0 ≡ Some c.number_at.result = sym is.1 ∙ c.number_at.ensures in
    let same : is.0 ≡ c.number_at.result = cc in
    c.array_opened.ensures info (subst (λ n. IsOpenedAt c.args.events.now n info) same is.2)
