use Rattle.std.proofs.Common.{rules, ◌≡◌, ◌<◌, ◌+◌, ◌^◌, length, true, false, refl, sym, ap, subst, ◌∙◌, inl}
use Rattle.indexmap.specs.IndexMap.{get_by_text}
use Rattle.std.specs.Prelude.{MatchOption}
use Rattle.std.specs.Option.{option_copied}
use Rattle.session_runs.specs.Session.{session_with}
use Rattle.session_runs.proofs.ScriptLaws.{IsUnderWay, past_line, ends_at, short_more}
use Rattle.session_openings.proofs.Laws.{passed_then}
use Rattle.session_runs.proofs.scripts.run_script.Goals as goal

pub returns-then-not-given-clause-run : goal.returns-then-not-given-clause-run
returns-then-not-given-clause-run g c =
    let was = c.loop-rest.session in
    let now = c.given.new.session in
    let under = subst (λ r. IsUnderWay c.args.around.now.book.now c.args.mounts.now c.args.script.now (option_copied r) c.loop-rest.line (session_with was.pass (get_by_text was.names) was.txn was.log.items was.ended)) c.in-Some.is c.loop-rest.invariant.under in
    ends_at c.args.around.now.book.now c.args.mounts.now c.args.script.now c.in-Some.bytes.now c.cut.result.0.now (option_copied c.cut.result.1) c.loop-rest.line c.cut.ensures.lines (session_with was.pass (get_by_text was.names) was.txn was.log.items was.ended) (session_with now.pass (get_by_text now.names) now.txn now.log.items now.ended) (c.given.ensures.last c.if-not-given.true) under

pub loop-rest-preserved : goal.loop-rest-preserved
loop-rest-preserved g c =
    let was = c.loop-rest.session in
    let now = c.given.new.session in
    let under = subst (λ r. IsUnderWay c.args.around.now.book.now c.args.mounts.now c.args.script.now (option_copied r) c.loop-rest.line (session_with was.pass (get_by_text was.names) was.txn was.log.items was.ended)) c.in-Some.is c.loop-rest.invariant.under in
    record {
      under = past_line c.args.around.now.book.now c.args.mounts.now c.args.script.now c.in-Some.bytes.now c.cut.result.0.now (option_copied c.cut.result.1) c.loop-rest.line c.cut.ensures.lines (session_with was.pass (get_by_text was.names) was.txn was.log.items was.ended) (session_with now.pass (get_by_text now.names) now.txn now.log.items now.ended) (c.given.ensures.more c.if-not-given.false) under;
      passed = passed_then c.args.around.now.book.now c.args.session.now.pass was.pass now.pass c.loop-rest.invariant.passed c.given.ensures.passed;
      short = short_more c.loop-rest.line (length c.in-Some.bytes.now) c.cut.result.1 (subst (λ r. MatchOption r (c.loop-rest.line < 2 ^ 63) (λ b. c.loop-rest.line + length b.now < 2 ^ 62)) c.in-Some.is c.loop-rest.invariant.short) c.cut.ensures.shorter;
    }
