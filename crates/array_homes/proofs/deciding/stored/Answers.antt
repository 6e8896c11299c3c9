use Rattle.std.proofs.Common.{◌≡◌, Some, refl, sym, subst}
use Rattle.std.proofs.lemmas.Result.{IfOk-weaker}
use Rattle.history.specs.Leaves.{readable, unreadable}
use Rattle.history.specs.Outcomes.{bad_metadata, outcome_in_store}
use Rattle.array_homes.specs.Opening.{leaf_at, IsBadBy, IsFrom}
use Rattle.array_homes.proofs.deciding.stored.Goals as goal

pub returns-in-Ok-clause-outcome : goal.returns-in-Ok-clause-outcome
returns-in-Ok-clause-outcome c = λ mount path may_create other. (
  outcome_in_store (leaf_at mount path c.args.want.now c.args.may_open may_create) (readable c.in-Ok.form),
  record { stored = readable c.in-Ok.form; read = (c.args.bytes.now, refl, c.in-Ok.ensures.asked, c.in-Ok.ensures.spells); same = refl },
  c.found.ensures.outcome (Some c.args.bytes.now),
)

pub returns-in-Err-Bad-clause-outcome : goal.returns-in-Err-Bad-clause-outcome
returns-in-Err-Bad-clause-outcome c = λ mount path may_create other.
    let given = c.in-Err-Bad.ensures.causes (λ e. cc) in
    let same : given.0 ≡ c.in-Err-Bad.cause = (let e = given.1 in cc) in (
      bad_metadata c.args.bytes.now,
      record { stored = unreadable c.args.bytes.now; read = (refl, c.in-Err-Bad.ensures.none (λ e. cc)); same = refl },
      (c.args.bytes.now, refl, subst (IsBadBy c.args.want.now c.args.bytes.now) same given.2, refl),
    )

pub returns-in-Err-Memory-clause-outcome : goal.returns-in-Err-Memory-clause-outcome
returns-in-Err-Memory-clause-outcome c = λ mount path may_create other. absurd (other refl)

pub returns-in-Ok-clause-source : goal.returns-in-Ok-clause-source
returns-in-Ok-clause-source c =
    IfOk-weaker c.found.result _ _ (λ d is. subst (IsFrom c.args.want.now (Some c.args.bytes.now)) (sym is) (c.args.bytes.now, refl, c.in-Ok.ensures.spells)) c.found.ensures.source
