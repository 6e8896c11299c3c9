use Rattle.std.proofs.Common.{Ok, Err, Some, sym, subst}
use Rattle.session_runs.specs.Txn.{transaction_of}
use Rattle.session_runs.proofs.Laws.{on_ok_any}
use Rattle.transaction_cases.specs.Seats.{HasSound}
use Rattle.transaction_cases.proofs.SeatLaws.{commit_passed, left_sound, seat_with, sound_later}
use Rattle.transaction_cases.proofs.txn_calls.committed.Goals as goal

pub returns-in-Ok : goal.returns-in-Ok
returns-in-Ok g c =
    let passed = commit_passed c.args.book.now c.args.seat.now.pass c.commit.new.pass (transaction_of c.args.t) _ c.requires.rested c.in-Ok.ensures.committed in
    record { seat = on_ok_any _ (seat_with c.args.book.now c.args.seat.now.pass c.commit.new.pass c.args.seat.now.arrays.items _ c.requires.known passed (subst (HasSound c.args.book.now.fixed c.commit.new.pass.seen) (sym c.requires.none) tt)) }

pub returns-in-Err : goal.returns-in-Err
returns-in-Err g c =
    let passed = commit_passed c.args.book.now c.args.seat.now.pass c.commit.new.pass (transaction_of c.args.t) _ c.requires.rested c.in-Err.ensures.committed in
    let sound = sound_later c.args.book.now c.args.seat.now.pass c.commit.new.pass (Some c.args.t) passed c.requires.sound in
    record {
      seat = on_ok_any _ (seat_with c.args.book.now c.args.seat.now.pass c.commit.new.pass c.args.seat.now.arrays.items _ c.requires.known passed
          (subst (HasSound c.args.book.now.fixed c.commit.new.pass.seen) (sym c.in-Err.ensures.left) (left_sound c.args.book.now.fixed c.commit.new.pass.seen c.args.t _ sound)));
    }
