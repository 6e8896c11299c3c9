use Rattle.std.proofs.Common.{Some, sym, subst, length}
use Rattle.session_runs.specs.Conditions.{IsTxnIn}
use Rattle.transaction_cases.specs.Seats.{HasSound}
use Rattle.transaction_cases.proofs.SeatLaws.{turned_passed, refused_passed, read_sound, sound_later}
use Rattle.transaction_cases.proofs.txn_calls.read_view.Goals as goal

pub returns-in-Ok-clause-passed : goal.returns-in-Ok-clause-passed
returns-in-Ok-clause-passed g c = turned_passed c.args.book.now c.args.pass.now c.read.new.pass _ c.requires.pass c.in-Ok.ensures.turned

pub returns-in-Ok-clause-sound : goal.returns-in-Ok-clause-sound
returns-in-Ok-clause-sound g c =
    let passed = turned_passed c.args.book.now c.args.pass.now c.read.new.pass _ c.requires.pass c.in-Ok.ensures.turned in
    read_sound c.args.book.now c.args.pass.now c.read.new.pass c.args.t.now c.read.new.self c.args.view.now _ c.requires.view passed c.requires.sound c.in-Ok.ensures.txn c.in-Ok.ensures.read

pub returns-in-Err-clause-passed : goal.returns-in-Err-clause-passed
returns-in-Err-clause-passed g c = refused_passed c.args.book.now c.args.pass.now c.read.new.pass c.args.t.now c.args.view.now _ c.requires.pass c.in-Err.ensures.errors

pub returns-in-Err-clause-sound : goal.returns-in-Err-clause-sound
returns-in-Err-clause-sound g c =
    let passed = refused_passed c.args.book.now c.args.pass.now c.read.new.pass c.args.t.now c.args.view.now _ c.requires.pass c.in-Err.ensures.errors in
    subst (λ u. HasSound c.args.book.now.fixed c.read.new.pass.seen (Some u)) (sym c.in-Err.ensures.same) (sound_later c.args.book.now c.args.pass.now c.read.new.pass (Some c.args.t.now) passed c.requires.sound)
