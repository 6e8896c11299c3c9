use Rattle.std.proofs.Common.{◌≡◌, map, true, false, sym, ◌∙◌}
use Rattle.std.specs.Prelude.{is_some}
use Rattle.serde_json.specs.Find.{as_object}
use Rattle.serde_json.specs.View.{view}
use Rattle.json_forms.specs.Members.{least_unknown}
use Rattle.json_forms.proofs.OrderedNames.{has_exactly-other, has_exactly-more, has_exactly-these, is_some-option_map}
use Rattle.json_forms.proofs.members.has_exactly.Goals as goal

pub returns-then-not-is_object : goal.returns-then-not-is_object
returns-then-not-is_object c =
    let other : is_some (as_object (view c.args.value.now)) ≡ false = cc in
    sym (has_exactly-other _ (view c.args.value.now) other)

pub returns-then-is_some : goal.returns-then-is_some
returns-then-is_some c =
    let same = is_some-option_map _ _ _ c.least_unknown.ensures in
    let some : is_some (least_unknown (map (λ n. n.now) c.args.names.now) (view c.args.value.now)) ≡ true = cc in
    sym (has_exactly-more _ (view c.args.value.now) some)

pub returns : goal.returns
returns c =
    let same = is_some-option_map _ _ _ c.least_unknown.ensures in
    let there : is_some (as_object (view c.args.value.now)) ≡ true = cc in
    let none : is_some (least_unknown (map (λ n. n.now) c.args.names.now) (view c.args.value.now)) ≡ false = cc in
    c.has_all.ensures ∙ sym (has_exactly-these (λ n. n.now) c.args.names.now (view c.args.value.now) there none)
