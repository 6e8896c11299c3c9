use Rattle.std.proofs.Common.{◌≡◌, ℕ, Ok, Some, refl, sym, ap, subst}
use Rattle.session_turns.specs.declared.Body.TheVariants.{Staged}
use Rattle.history.specs.Acts.{Asked, stages}
use Rattle.sessions.specs.Commits.{HasSoundTxn}
use Rattle.session_turns.specs.Standing.{session_state}
use Rattle.session_turns.specs.Told.{IsAnswerTo, IsToldAlone}
use Rattle.session_turns.proofs.Laws.{found_all}
use Rattle.sessions.proofs.StageLaws.{more_sound, staged_told, unstaged_told}
use Rattle.sessions.proofs.staging.staged.Goals as goal
use Rattle.session_turns.specs.Txn.{TxnSeen, transaction_of}
use Rattle.session_turns.specs.declared.WriteError.TheVariants as write

pub returns-in-Ok-clause-told : goal.returns-in-Ok-clause-told
returns-in-Ok-clause-told c names seen line asked act =
    let v = c.args.w.view in
    subst (λ (n : ℕ). IsToldAlone (session_state names seen (Some c.args.t.now)) line asked names (Some (transaction_of c.write_owned.new.self)) (Staged n)) (sym c.len-cells.ensures)
    (staged_told c.args.t.now c.write_owned.new.self v c.args.w.words c.args.w.words refl c.in-Ok.ensures.ok names seen line asked (found_all v c.in-Ok.ensures.whole.targets) act)

pub returns-in-Ok-clause-txn : goal.returns-in-Ok-clause-txn
returns-in-Ok-clause-txn c opening events refs was printed =
    more_sound c.args.t.now c.write_owned.new.self c.args.w.view c.args.w.words c.args.w.words refl c.in-Ok.ensures.ok opening events (c.in-Ok.ensures.txn opening events was.0 refs) c.requires.view c.in-Ok.ensures.whole was

pub returns-clause-told : goal.returns-clause-told
returns-clause-told c names seen line asked act =
    unstaged_told c.args.t.now c.write_owned.new.self names seen line asked c.unwritten.result (ap transaction_of c.in-Err.ensures.memory)
    (subst (λ (a : Asked). IsAnswerTo a c.unwritten.result) (sym act) (c.unwritten.ensures.answer (Ok (stages (transaction_of c.args.t.now) c.args.w.view c.args.w.words))))

pub returns-clause-txn : goal.returns-clause-txn
returns-clause-txn c opening events refs was printed =
    subst (λ (t : TxnSeen). HasSoundTxn opening events (Some t))
    (sym (c.in-Err.ensures.same (λ is. printed (c.unwritten.ensures.memory (let same : c.in-Err.e ≡ write.Memory = cc in same))))) was
