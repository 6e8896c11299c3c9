use Rattle.std.proofs.Common.{subst}
use Rattle.session_turns.specs.Numbers.{downsampling_of}
use Rattle.sessions.specs.Commits.{HasSoundTxn}
use Rattle.sessions.proofs.ReadRows.{inside_told, read_sound}
use Rattle.sessions.proofs.Failures.{read_tells}
use Rattle.sessions.proofs.CauseLaws.{inside_caused}
use Rattle.sessions.proofs.reading.answered.Goals as goal

pub returns-in-Some-clause-told : goal.returns-in-Some-clause-told
returns-in-Some-clause-told g c names asked act =
    inside_told c.args.around.now.book.now c.args.pass.now c.read_in.new.pass c.requires.pass c.in-Some.t c.read_in.new.t c.args.v.now (downsampling_of c.args.down.now) names c.args.line asked c.args.txn.now c.in-Some.is act c.read_in.result c.read_in.ensures.answer

pub returns-in-Some-clause-txn : goal.returns-in-Some-clause-txn
returns-in-Some-clause-txn g c =
    read_sound c.args.around.now.book.now c.args.pass.now c.read_in.new.pass c.in-Some.t c.read_in.new.t c.args.v.now (downsampling_of c.args.down.now) c.read_in.result c.requires.pass c.requires.view
    (subst (HasSoundTxn c.args.around.now.book.now.fixed c.args.pass.now.seen) c.in-Some.is c.requires.txn) c.read_in.ensures.txn c.read_in.ensures.answer

pub returns-in-Some-clause-failures : goal.returns-in-Some-clause-failures
returns-in-Some-clause-failures g c =
    read_tells c.args.around.now.book.now c.args.pass.now c.read_in.new.pass c.requires.pass c.in-Some.t c.read_in.new.t c.args.v.now (downsampling_of c.args.down.now) c.read_in.result c.read_in.ensures.answer

pub returns-in-Some-clause-caused : goal.returns-in-Some-clause-caused
returns-in-Some-clause-caused g c names asked act =
    inside_caused c.args.around.now.book.now c.args.pass.now c.read_in.new.pass c.requires.pass c.in-Some.t c.read_in.new.t c.args.v.now (downsampling_of c.args.down.now) names c.args.line asked c.args.txn.now c.in-Some.is act c.read_in.result c.read_in.ensures.answer
