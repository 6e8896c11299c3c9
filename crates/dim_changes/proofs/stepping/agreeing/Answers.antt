use Rattle.std.proofs.Common.{◌∙◌, sym, subst, IfOk}
use Rattle.transform_composition.specs.Composing.{composed}
use Rattle.transform_composition.specs.Agreeing.{Agrees}
use Rattle.transform_composition.specs.Transforms.{DomainAndMaps}
use Rattle.dim_changes.specs.Causes.{or_cause, Gives}
use Rattle.dim_changes.proofs.StepLemmas.{made-same, made-Err}
use Rattle.dim_changes.proofs.stepping.agreeing.Goals as goal

pub returns-clause-given : goal.returns-clause-given
returns-clause-given c =
    let same = made-same c.args.domain c.args.maps.items c.in-Ok.inner c.requires c.in-Ok.ensures in
    subst (λ (b : DomainAndMaps). Gives c.args.outer.now b (or_cause (composed c.args.outer.now b)) c.composed_over.result) same c.composed_over.ensures.given

pub returns-clause-agrees : goal.returns-clause-agrees
returns-clause-agrees c =
    let same = made-same c.args.domain c.args.maps.items c.in-Ok.inner c.requires c.in-Ok.ensures in
    subst (λ (b : DomainAndMaps). IfOk c.composed_over.result (λ t. Agrees t c.args.outer.now b)) same c.composed_over.ensures.agrees

pub unreachable-requires : goal.unreachable-requires
unreachable-requires c = made-Err c.args.domain c.args.maps.items c.in-Err.field-0 c.requires (sym c.in-Err.is ∙ c.new.ensures)
