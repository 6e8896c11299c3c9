use Rattle.std.proofs.Common.{Some, option_map, string_bytes, sym, ap, ◌∙◌}
use Rattle.std.specs.Prelude.{not}
use Rattle.serde_json.specs.View.{view}
use Rattle.transform_json.specs.Output.{is_good}
use Rattle.transform_json.proofs.LeastNames.{least_of-object, least_of-other, found_bytes}
use Rattle.transform_json.proofs.member.faulty_member.Goals as goal

pub returns-in-Some-first_faulty : goal.returns-in-Some-first_faulty
returns-in-Some-first_faulty c =
    rw c.as_str.ensures.value (found_bytes (Some c.in-Some-first_faulty.name) _ c.in-Some-first_faulty.ensures.found ∙
    sym (least_of-object (λ name. not (is_good c.args.rank c.args.indexed (view c.args.value.now) name)) (view c.args.value.now) c.in-Some.members.now c.first_faulty.ensures.ordered c.in-Some.ensures))

pub returns-in-None-first_faulty : goal.returns-in-None-first_faulty
returns-in-None-first_faulty c =
    ap (option_map string_bytes) c.in-None-first_faulty.ensures.found ∙
    sym (least_of-object (λ name. not (is_good c.args.rank c.args.indexed (view c.args.value.now) name)) (view c.args.value.now) c.in-Some.members.now c.first_faulty.ensures.ordered c.in-Some.ensures)

pub returns-in-None : goal.returns-in-None
returns-in-None c = sym (least_of-other (λ name. not (is_good c.args.rank c.args.indexed (view c.args.value.now) name)) (view c.args.value.now) c.in-None.ensures)
