use Rattle.std.proofs.Common.{ap, ◌∙◌}
use Rattle.std.specs.List.{list_all}
use Rattle.transform_json.specs.Written.{has_entries}
use Rattle.transform_json.proofs.Accepted.{all-have_entries}
use Rattle.transform_json.proofs.write.members_of_transform.Goals as goal

pub put_outputs-requires : goal.put_outputs-requires
put_outputs-requires c = ap (list_all has_entries) c.maps.ensures.value ∙ all-have_entries c.args.t.now.domain.dims c.args.t.now.maps c.maps.ensures.well_formed.maps
