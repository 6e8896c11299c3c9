use Rattle.std.proofs.Common.{rules, length}
use Rattle.step_forms.proofs.Chosen.{all_selected, some_selected}
use Rattle.step_forms.proofs.selection.selected.Goals as goal

pub returns-then-step-clause-selected : goal.returns-then-step-clause-selected
returns-then-step-clause-selected c =
    all_selected c.args.step.now (length c.args.domain.now.dims) c.in_ok-all_dims.field-0.items c.requires.selectors c.if-step.true (search rules) (search rules)

pub returns-clause-selected : goal.returns-clause-selected
returns-clause-selected c =
    some_selected c.args.step.now (length c.args.domain.now.dims) c.args.domain.now.labels c.in-Some.dims.items c.requires.selectors (search rules) (search rules) (search rules)
