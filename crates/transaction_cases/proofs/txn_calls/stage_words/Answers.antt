use Rattle.std.proofs.Common.{Some}
use Rattle.history.specs.History.{History}
use Rattle.history.specs.Refs.{HasKnownRefs}
use Rattle.state_laws.specs.Agreement.{Opening}
use Rattle.session_runs.proofs.Laws.{on_ok_any}
use Rattle.transaction_cases.specs.Seats.{HasSound}
use Rattle.transaction_cases.proofs.SeatLaws.{write_sound}
use Rattle.transaction_cases.proofs.txn_calls.stage_words.Goals as goal

pub returns-in-Ok : goal.returns-in-Ok
returns-in-Ok c =
    let then : (opening : Opening) (events : History) → HasKnownRefs events c.args.view.now → HasSound opening events (Some c.args.t.now) → HasSound opening events (Some c.write.new.self) =
    λ opening events refs sound. write_sound opening events c.args.t.now c.write.new.self c.args.view.now c.args.words.now c.requires.view c.in-Ok.ensures.whole sound (c.in-Ok.ensures.txn opening events sound.0 refs) c.in-Ok.ensures.ok in
    on_ok_any _ then
