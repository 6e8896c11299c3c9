use Rattle.std.proofs.Common.{rules, ◌≡◌, ◌<◌, ◌+◌, ◌^◌, length, true, false, refl, sym, ap, subst, ◌∙◌, inl}
use Rattle.indexmap.specs.IndexMap.{get_by_text}
use Rattle.session_runs.specs.Session.{session_with}
use Rattle.session_runs.proofs.ScriptLaws.{given_blank, asked_full}
use Rattle.session_runs.proofs.StepLaws.{session_stops}
use Rattle.session_runs.proofs.scripts.given.Goals as goal

pub returns-then-is_blank-clause-more : goal.returns-then-is_blank-clause-more
returns-then-is_blank-clause-more g c = λ is. given_blank c.args.around.now.book.now c.args.mounts.now _ c.args.line c.args.bytes.now (sym c.is_blank.ensures ∙ c.if-is_blank.true) c.requires.going

pub returns-in-Err-clause-last : goal.returns-in-Err-clause-last
returns-in-Err-clause-last g c = λ is. record {
  ended = c.in-Err.ensures.ended;
  on = λ lines at was. inl (session_stops c.args.around.now.book.now _ _ lines c.in-Err.ensures.same.0 c.in-Err.ensures.same.1 c.in-Err.ensures.ended was);
}
