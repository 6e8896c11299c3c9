use Rattle.std.proofs.Common.{ap, sym, ◌∙◌, arith, length}
use Rattle.serde_json.specs.View.{view}
use Rattle.transform_json.specs.Output.{maps_of}
use Rattle.transform_json.proofs.Accepted.{domain-good}
use Rattle.transform_json.proofs.Reading.{not_refused}
use Rattle.transform_json.proofs.read.transform_in.Goals as goal

pub maps_of-requires : goal.maps_of-requires
maps_of-requires c =
    let told = domain-good (view c.args.value.now) c.in_ok-domain.domain c.in_ok-domain.ensures.value in
    omega (arith, ap length c.items.ensures, told.rank)

pub unreachable-requires : goal.unreachable-requires
unreachable-requires c =
    not_refused (view c.args.value.now) c.in_ok-domain.domain c.in_ok-maps.maps.items c.in-Err.field-0 c.in_ok-domain.ensures.value
    (ap (maps_of (view c.args.value.now)) (sym c.items.ensures) ∙ c.in_ok-maps.ensures.value) (sym c.new.ensures ∙ c.in-Err.is)
