use Rattle.std.proofs.Common.{◌≡◌, ◌∙◌, ap, sym}
use Rattle.std.specs.Prelude.{codes, option_map}
use Rattle.serde_json.specs.Find.{get}
use Rattle.serde_json.specs.View.{view}
use Rattle.want_forms.proofs.Lengths.{list_len-shape}
use Rattle.want_forms.proofs.n5.dimensions_in_turn.Goals as goal

pub returns-clause-there : goal.returns-clause-there
returns-clause-there c =
    list_len-shape (codes "dimensions") (get (codes "dimensions") (view c.args.value.now)) _ _ c.wrap.result c.wrap.ensures
    (ap (option_map (λ v. v.items)) (sym c.in-Some.is) ∙ c.in_ok-sizes.ensures) c.in_ok-sizes-2.ensures.value
