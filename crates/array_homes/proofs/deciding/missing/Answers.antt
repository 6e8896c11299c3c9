use Rattle.std.proofs.Common.{None, refl, sym, ap, subst, cond, ◌∙◌}
use Rattle.history.specs.Made.{form_made}
use Rattle.history.specs.Leaves.{nothing}
use Rattle.history.specs.Outcomes.{made, making_outcome, not_found}
use Rattle.array_homes.specs.Opening.{Tells}
use Rattle.array_homes.proofs.deciding.missing.Goals as goal

pub returns-in-Ok-clause-outcome : goal.returns-in-Ok-clause-outcome
returns-in-Ok-clause-outcome c = λ mount path may_open other. (
  made c.in-Ok.form,
  record {
    stored = nothing;
    read = refl;
    same = sym (ap (λ b. cond b (making_outcome (form_made c.args.want.now)) not_found) c.if-not-may_create.false ∙ ap making_outcome c.in-Ok.ensures.value);
  },
  subst (λ r. Tells c.args.want.now None r (made c.in-Ok.form)) (sym c.new.ensures.value) refl,
)

pub returns-in-Err-Memory-clause-outcome : goal.returns-in-Err-Memory-clause-outcome
returns-in-Err-Memory-clause-outcome c = λ mount path may_open other. absurd (other refl)
