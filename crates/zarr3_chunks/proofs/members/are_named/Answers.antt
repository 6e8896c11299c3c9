use Rattle.std.proofs.Common.{codes, sym, ◌∙◌}
use Rattle.std.specs.Prelude.{is_some}
use Rattle.std.proofs.lemmas.List.Folds.{list_all-map}
use Rattle.serde_json.specs.View.{view}
use Rattle.meta_forms.specs.Judged.{text_in}
use Rattle.zarr3_chunks.proofs.members.are_named.Goals as goal

pub returns : goal.returns
returns c = c.all_named.ensures ∙ sym (list_all-map (λ x. is_some (text_in (codes "name") x)) view c.args.codecs.now)
