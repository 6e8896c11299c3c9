use Rattle.std.proofs.Common.{◌≡◌, Option, Some, None, option_map, string_bytes, Bor, sym, ap, ◌∙◌}
use Rattle.serde_json.specs.View.{view}
use Rattle.json_forms.proofs.OrderedNames.{Text, least_unknown-object, least_unknown-other}
use Rattle.json_forms.proofs.members.least_unknown.Goals as goal

found_bytes : (o : Option (Bor Text)) (p : Option Text) → option_map (λ name. name.now) o ≡ p → option_map (λ name. string_bytes name.now) o ≡ option_map string_bytes p
found_bytes None p e = ap (option_map string_bytes) e
found_bytes (Some x) p e = ap (option_map string_bytes) e

pub returns-in-Some-first_unknown : goal.returns-in-Some-first_unknown
returns-in-Some-first_unknown c =
    rw c.as_str.ensures.value (found_bytes (Some c.in-Some-first_unknown.name) _ c.in-Some-first_unknown.ensures.found ∙
    sym (least_unknown-object (λ n. n.now) c.args.known.now (view c.args.value.now) c.in-Some.members.now c.first_unknown.ensures.ordered c.in-Some.ensures))

pub returns-in-None-first_unknown : goal.returns-in-None-first_unknown
returns-in-None-first_unknown c =
    ap (option_map string_bytes) c.in-None-first_unknown.ensures.found ∙
    sym (least_unknown-object (λ n. n.now) c.args.known.now (view c.args.value.now) c.in-Some.members.now c.first_unknown.ensures.ordered c.in-Some.ensures)

pub returns-in-None : goal.returns-in-None
returns-in-None c = sym (least_unknown-other _ (view c.args.value.now) c.in-None.ensures)
