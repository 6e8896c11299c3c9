use Rattle.std.proofs.Common.{List, ℕ, Bor, IfOk, sym, ap, subst}
use Rattle.std.specs.Prelude.{option_map}
use Rattle.array_homes.specs.Opening.{leaf_at, IsDecision, IsFrom}
use Rattle.array_homes.proofs.deciding.decide.Goals as goal

pub returns-in-Some-clause-outcome : goal.returns-in-Some-clause-outcome
returns-in-Some-clause-outcome c = λ mount path.
    subst (λ bytes. IsDecision (leaf_at mount path c.args.want.now c.args.may_open c.args.may_create) bytes c.stored.result)
    (sym (ap (option_map (λ (b : Bor (List ℕ)). b.now)) c.in-Some.is)) (c.stored.ensures.outcome mount path c.args.may_create)

pub returns-in-None-clause-outcome : goal.returns-in-None-clause-outcome
returns-in-None-clause-outcome c = λ mount path.
    subst (λ bytes. IsDecision (leaf_at mount path c.args.want.now c.args.may_open c.args.may_create) bytes c.missing.result)
    (sym (ap (option_map (λ (b : Bor (List ℕ)). b.now)) c.in-None.is)) (c.missing.ensures.outcome mount path c.args.may_open)

pub returns-in-Some-clause-source : goal.returns-in-Some-clause-source
returns-in-Some-clause-source c =
    subst (λ bytes. IfOk c.stored.result (λ d. IsFrom c.args.want.now bytes d)) (sym (ap (option_map (λ (b : Bor (List ℕ)). b.now)) c.in-Some.is)) c.stored.ensures.source

pub returns-in-None-clause-source : goal.returns-in-None-clause-source
returns-in-None-clause-source c =
    subst (λ bytes. IfOk c.missing.result (λ d. IsFrom c.args.want.now bytes d)) (sym (ap (option_map (λ (b : Bor (List ℕ)). b.now)) c.in-None.is)) c.missing.ensures.source
