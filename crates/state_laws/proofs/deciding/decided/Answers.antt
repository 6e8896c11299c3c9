use Rattle.std.proofs.Common.{Some, sym, ap, subst, ◌∙◌}
use Rattle.array_homes.specs.Opening.{leaf_at, IsDecision}
use Rattle.state_laws.proofs.deciding.decided.Goals as goal

pub returns-in-Some-clause-outcome : goal.returns-in-Some-clause-outcome
returns-in-Some-clause-outcome c = λ mount path.
    subst (λ b. IsDecision (leaf_at mount path c.args.want.now c.args.may_open c.args.may_create) b c.decide.result) (ap Some c.as_slice.ensures ∙ sym c.in-Some.is) (c.decide.ensures.outcome mount path)

pub returns-in-None-clause-outcome : goal.returns-in-None-clause-outcome
returns-in-None-clause-outcome c = λ mount path.
    subst (λ b. IsDecision (leaf_at mount path c.args.want.now c.args.may_open c.args.may_create) b c.decide-in-None.result) (sym c.in-None.is) (c.decide-in-None.ensures.outcome mount path)
