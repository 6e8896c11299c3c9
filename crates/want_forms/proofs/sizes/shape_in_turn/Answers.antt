use Rattle.std.proofs.Common.{◌≡◌, Some, ap, sym, ◌∙◌}
use Rattle.serde_json.specs.Find.{get}
use Rattle.serde_json.specs.View.{view}
use Rattle.want_forms.proofs.Lengths.{list_len-shape}
use Rattle.want_forms.proofs.sizes.shape_in_turn.Goals as goal

pub returns-clause-there : goal.returns-clause-there
returns-clause-there c =
    list_len-shape c.args.name.now (get c.args.name.now (view c.args.value.now)) _ _ c.wrap.result c.wrap.ensures
    c.in_ok-sizes_at.ensures c.in_ok-shape.ensures.value
