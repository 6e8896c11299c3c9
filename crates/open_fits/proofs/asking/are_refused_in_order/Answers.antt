use Rattle.std.proofs.Common.{◌≡◌, ◌<◌, length, take, refl, sym, ap, subst, arith}
use Rattle.std.proofs.lemmas.Option.{slice_get_read}
use Rattle.history.specs.Places.{IsTable}
use Rattle.open_fits.specs.Opens.{IsQuestion}
use Rattle.open_fits.proofs.AskingLaws.{all_at, in_order, moment_then, one_unrefused, all_refused, all_next, none_yet}
use Rattle.open_fits.proofs.asking.are_refused_in_order.Goals as goal

pub loop-question-init : goal.loop-question-init
loop-question-init c = record {
  table = none_yet c.args.openings.now.events c.new-places.result c.new-places.ensures;
  begin = λ none. refl;
  later = λ k q is. absurd (omega (arith, is));
  done = λ history same. tt;
}

pub place_until-requires-clause-order : goal.place_until-requires-clause-order
place_until-requires-clause-order c =
    let qs = c.args.questions.now in
    let i = c.loop-question.question-index in
    let q = c.question-item.result in
    let low : i < length qs = omega arith in
    in_order qs c.requires.sorted i q (slice_get_read qs (length qs) i q refl low c.question-item.is) c.loop-question.seen c.loop-question.invariant.begin c.loop-question.invariant.later

pub place_until-requires-clause-within : goal.place_until-requires-clause-within
place_until-requires-clause-within c =
    let qs = c.args.questions.now in
    let i = c.loop-question.question-index in
    let q = c.question-item.result in
    let low : i < length qs = omega arith in
    let within = (all_at (IsQuestion c.args.openings.now.events) qs i q (slice_get_read qs (length qs) i q refl low c.question-item.is) c.requires.questions).within in
    let size = ap length c.items-events.ensures in
    omega (arith, within, size)

pub place_until-requires-clause-table : goal.place_until-requires-clause-table
place_until-requires-clause-table c = subst (λ h. IsTable (take c.loop-question.seen h) c.loop-question.places) (sym c.items-events.ensures) c.loop-question.invariant.table

pub is_refused-requires-clause-question : goal.is_refused-requires-clause-question
is_refused-requires-clause-question c =
    let qs = c.args.questions.now in
    let i = c.loop-question.question-index in
    let q = c.question-item.result in
    let low : i < length qs = omega arith in
    all_at (IsQuestion c.args.openings.now.events) qs i q (slice_get_read qs (length qs) i q refl low c.question-item.is) c.requires.questions

pub is_refused-requires-clause-table : goal.is_refused-requires-clause-table
is_refused-requires-clause-table c = subst (λ h. IsTable (take c.question-item.result.moment h) c.place_until.new.places) c.items-events.ensures c.in_ok-place_until.ensures

pub loop-question-preserved : goal.loop-question-preserved
loop-question-preserved c =
    let qs = c.args.questions.now in
    let i = c.loop-question.question-index in
    let q = c.question-item.result in
    let low : i < length qs = omega arith in
    let at = slice_get_read qs (length qs) i q refl low c.question-item.is in
    record {
      table = subst (λ h. IsTable (take q.moment h) c.place_until.new.places) c.items-events.ensures c.in_ok-place_until.ensures;
      begin = λ none. absurd (omega (arith, none));
      later = λ k p is. moment_then qs i k q p at is;
      done = λ history same. all_next history qs i q c.in_ok-refused.refused at (c.loop-question.invariant.done history same) (c.in_ok-refused.ensures history same) c.if-not-refused.false;
    }

pub returns-then-not-refused : goal.returns-then-not-refused
returns-then-not-refused c = λ history same.
    let qs = c.args.questions.now in
    let i = c.loop-question.question-index in
    let q = c.question-item.result in
    let low : i < length qs = omega arith in
    one_unrefused history qs i q c.in_ok-refused.refused (slice_get_read qs (length qs) i q refl low c.question-item.is) (c.in_ok-refused.ensures history same) c.if-not-refused.true

pub returns : goal.returns
returns c = λ history same.
    let done : length c.args.questions.now ≡ c.loop-question.question-index = omega arith in
    all_refused history c.args.questions.now c.loop-question.question-index done (c.loop-question.invariant.done history same)
