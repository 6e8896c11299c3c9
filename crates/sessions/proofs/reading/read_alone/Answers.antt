use Rattle.session_turns.specs.Numbers.{downsampling_of}
use Rattle.sessions.proofs.ReadRows.{outside_told}
use Rattle.sessions.proofs.Failures.{read_tells}
use Rattle.sessions.proofs.CauseLaws.{outside_caused}
use Rattle.sessions.proofs.reading.read_alone.Goals as goal

pub returns-clause-told : goal.returns-clause-told
returns-clause-told g c names asked act =
    outside_told c.args.around.now.book.now c.args.pass.now c.read_in.new.pass c.requires.pass c.begin-t.result c.read_in.new.t c.args.v.now (downsampling_of c.args.down.now) names c.args.line asked c.begin-t.ensures act c.read_in.result c.read_in.ensures.answer

pub returns-clause-failures : goal.returns-clause-failures
returns-clause-failures g c =
    read_tells c.args.around.now.book.now c.args.pass.now c.read_in.new.pass c.requires.pass c.begin-t.result c.read_in.new.t c.args.v.now (downsampling_of c.args.down.now) c.read_in.result c.read_in.ensures.answer

pub returns-clause-caused : goal.returns-clause-caused
returns-clause-caused g c names asked act =
    outside_caused c.args.around.now.book.now c.args.pass.now c.read_in.new.pass c.requires.pass c.begin-t.result c.read_in.new.t c.args.v.now (downsampling_of c.args.down.now) names c.args.line asked c.begin-t.ensures act c.read_in.result c.read_in.ensures.answer
