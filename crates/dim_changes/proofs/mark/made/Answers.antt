use Rattle.std.proofs.Common.{◌∙◌, sym}
use Rattle.dim_changes.proofs.StepLemmas.{made-same, made-Err}
use Rattle.dim_changes.proofs.mark.made.Goals as goal

pub unreachable-requires : goal.unreachable-requires
unreachable-requires c = made-Err c.args.domain c.args.maps.items c.in-Err.field-0 c.requires (sym c.in-Err.is ∙ c.new.ensures)

pub returns : goal.returns
returns c = made-same c.args.domain c.args.maps.items c.in-Ok.t c.requires c.in-Ok.ensures
