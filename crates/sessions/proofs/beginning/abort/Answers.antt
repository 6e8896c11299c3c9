use Rattle.std.proofs.Common.{◌≡◌, is_none, sym, ap, subst, ◌∙◌}
use Rattle.history.specs.Lines.{aborting}
use Rattle.session_turns.specs.declared.Body.TheVariants.{Aborted, NoTransaction}
use Rattle.session_turns.specs.Standing.{session_state, transaction_in}
use Rattle.session_turns.specs.Told.{IsToldAlone}
use Rattle.sessions.proofs.BeginLaws.{told_aborted, told_none}
use Rattle.sessions.proofs.beginning.abort.Goals as goal

pub returns-in-Some-clause-told : goal.returns-in-Some-clause-told
returns-in-Some-clause-told c names seen =
    subst (λ o. IsToldAlone (session_state names seen c.args.txn.now) c.args.line aborting names (transaction_in o) Aborted) (sym c.in-Some.ensures.after)
    (told_aborted c.args.line c.args.txn.now (ap is_none (sym c.in-Some.ensures.value)) names seen)

pub returns-in-None-clause-told : goal.returns-in-None-clause-told
returns-in-None-clause-told c names seen =
    subst (λ o. IsToldAlone (session_state names seen c.args.txn.now) c.args.line aborting names (transaction_in o) NoTransaction) (sym c.in-None.ensures.value ∙ sym c.in-None.ensures.after)
    (told_none c.args.line c.args.txn.now (ap is_none (sym c.in-None.ensures.value)) names seen)
