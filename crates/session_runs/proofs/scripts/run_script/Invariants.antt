use Rattle.std.proofs.Common.{◌≡◌, ◌<◌, ◌+◌, ◌^◌, length}
use Rattle.std.specs.Prelude.{MatchOption}
use Rattle.std.specs.Option.{option_copied, option_map_or}
use Rattle.indexmap.specs.IndexMap.{get_by_text}
use Rattle.session_runs.specs.Session.{session_with}
use Rattle.session_runs.proofs.ScriptLaws.{IsUnderWay}
use Rattle.session_openings.specs.Turns.{HasPassed}
use Rattle.session_runs.proofs.scripts.run_script.Given as goal

abbrev pub invariant-loop-rest : goal.invariant-loop-rest
invariant-loop-rest g l = record {
  under : IsUnderWay l.around.book.now l.mounts l.script (option_copied l.rest) l.line (session_with l.session.pass (get_by_text l.session.names) l.session.txn l.session.log.items l.session.ended);
  passed : HasPassed l.around.book.now l.fn.session.pass l.session.pass;
  short : MatchOption l.rest (l.line < 2 ^ 63) (λ r. l.line + length r.now < 2 ^ 62);
}

abbrev pub decreases-loop-rest : goal.decreases-loop-rest
decreases-loop-rest g l = option_map_or (λ r. length r.now + 1) l.rest 0
