use Rattle.std.proofs.Common.{None, length}
use Rattle.history.specs.Lines.{writing}
use Rattle.indexmap.specs.IndexMap.{get_by_text}
use Rattle.session_turns.specs.Changes.{changes_of}
use Rattle.session_turns.specs.Numbers.{values_of}
use Rattle.serde_json.specs.View.{view}
use Rattle.session_turns.specs.Standing.{session_state}
use Rattle.session_turns.proofs.Laws.{told_without}
use Rattle.history.specs.Acts.{act_of}
use Rattle.serial_runs.proofs.Laws.{act_of-refused}
use Rattle.sessions.proofs.Failures.{refused_tells}
use Rattle.sessions.proofs.CauseLaws.{refused_caused}
use Rattle.sessions.proofs.writing.write_alone.Goals as goal

pub returns-in-Err-clause-told : goal.returns-in-Err-clause-told
returns-in-Err-clause-told g c =
    told_without c.args.around.now.book.now c.args.pass.now (session_state (get_by_text c.args.names.now) (length c.args.pass.now.seen) None) c.args.line
    (writing c.args.name.now (changes_of None c.args.steps.now) (values_of (view c.args.values))) c.in-Err.body (c.in-Err.ensures.err None)

pub returns-in-Err-clause-failures : goal.returns-in-Err-clause-failures
returns-in-Err-clause-failures g c =
    let names = get_by_text c.args.names.now in
    let line = writing c.args.name.now (changes_of None c.args.steps.now) (values_of (view c.args.values)) in
    refused_tells c.args.pass.now (act_of names None line) c.in-Err.body (act_of-refused names None line) (c.in-Err.ensures.err None)

pub returns-in-Err-clause-caused : goal.returns-in-Err-clause-caused
returns-in-Err-clause-caused g c =
    refused_caused c.args.around.now.book.now c.args.pass.now (session_state (get_by_text c.args.names.now) (length c.args.pass.now.seen) None) c.args.line
    (writing c.args.name.now (changes_of None c.args.steps.now) (values_of (view c.args.values))) c.in-Err.body (c.in-Err.ensures.err None)
