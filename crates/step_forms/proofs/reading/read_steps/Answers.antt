use Rattle.std.proofs.Common.{◌≡◌, map, Some, None, Ok, Err, rules, ap, sym, ◌∙◌}
use Rattle.json_forms.specs.Lists.{list_items}
use Rattle.serde_json.specs.View.{view}
use Rattle.step_forms.specs.Steps.{steps_from}
use Rattle.step_forms.specs.declared.error.StepsError.TheVariants.{BadStep}
use Rattle.step_forms.proofs.StepLists.{read_none, read_all}
use Rattle.step_forms.proofs.GivenLaws.{steps_of_json_given}
use Rattle.step_forms.proofs.reading.read_steps.Goals as goal

pub returns-in_default-2-clause-err : goal.returns-in_default-2-clause-err
returns-in_default-2-clause-err c = λ able.
    let items = c.in-Some.items.now in
    let listed : list_items (view c.args.value.now) ≡ Some (map view items) = search rules in
    let faulty : steps_from 0 (map view items) ≡ Err (BadStep c.loop-k.k) = search (rules, read_none) in
    ap (λ o. elim o [ None ↦ Err (BadStep 0) | Some ds ↦ steps_from 0 ds ]) listed ∙ faulty ∙ ap Err (sym (c.bad_step.ensures able))

pub returns-clause-given : goal.returns-clause-given
returns-clause-given c =
    let items = c.in-Some.items.now in
    let listed : list_items (view c.args.value.now) ≡ Some (map view items) = search rules in
    let all : steps_from 0 (map view items) ≡ Ok c.wrap.result = search (rules, read_all) in
    steps_of_json_given (view c.args.value.now) c.wrap.result (ap (λ o. elim o [ None ↦ Err (BadStep 0) | Some ds ↦ steps_from 0 ds ]) listed ∙ all)
