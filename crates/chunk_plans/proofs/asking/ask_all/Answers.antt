use Rattle.std.proofs.Common.{◌∙◌, ◌∷◌, ◌++◌, [], refl, sym, ap, subst, append_assoc}
use Rattle.std.specs.List.{AllByRecursion}
use Rattle.chunk_plans.specs.Asking.{IsPart}
use Rattle.chunk_plans.proofs.AskLaws.{AreAskedSo, asked_more, asked_none, part_at, state_so}
use Rattle.chunk_plans.proofs.asking.ask_all.Goals as goal

pub loop-part-init : goal.loop-part-init
loop-part-init g d = record {
  so = subst (AreAskedSo _ _ _ _ []) (sym d.new-asked.ensures.items) (asked_none _ d.args.state.now.log);
  store = refl;
  rest = sym d.into_iter-part-iterator.ensures.into_iter_gives.0;
}

pub ask-requires-clause-agrees : goal.ask-requires-clause-agrees
ask-requires-clause-agrees g d = state_so _ _ d.args.state.now.log d.loop-part.state.log d.loop-part.yielded d.loop-part.asked.items d.loop-part.invariant.so d.requires.agrees

pub ask-requires-clause-part : goal.ask-requires-clause-part
ask-requires-clause-part g d =
    let all = d.loop-part.invariant.rest ∙ ap (λ xs. d.loop-part.yielded ++ xs) d.in-Some.ensures.steps.0 in
    part_at d.loop-part.yielded d.in-Some.part _ d.args.state.now.log.events d.loop-part.state.log.events d.loop-part.invariant.so.events (subst (AllByRecursion (IsPart d.args.state.now.log.events)) all d.requires.parts)

pub loop-part-preserved : goal.loop-part-preserved
loop-part-preserved g d = record {
  so =
      subst (AreAskedSo _ _ _ _ (d.loop-part.yielded ++ d.in-Some.part ∷ [])) (sym d.in_ok-push.ensures.items)
      (asked_more _ _ _ d.args.state.now.log d.loop-part.state.log _ d.loop-part.yielded d.loop-part.asked.items d.in-Some.part d.in_ok-ask.field-0 d.loop-part.invariant.so d.in_ok-ask.ensures.events d.in_ok-ask.ensures.kept d.in_ok-ask.ensures.asked d.in_ok-ask.ensures.part);
  store = d.in_ok-ask.ensures.store ∙ d.loop-part.invariant.store;
  rest = d.loop-part.invariant.rest ∙ ap (λ xs. d.loop-part.yielded ++ xs) d.in-Some.ensures.steps.0 ∙ sym (append_assoc d.loop-part.yielded (d.in-Some.part ∷ []) _);
}

pub returns-in_err-ask-clause-kept : goal.returns-in_err-ask-clause-kept
returns-in_err-ask-clause-kept g d opening agrees = d.in_err-ask.ensures.kept opening (d.loop-part.invariant.so.kept opening agrees)

pub returns-in_err-push-clause-kept : goal.returns-in_err-push-clause-kept
returns-in_err-push-clause-kept g d opening agrees = d.in_ok-ask.ensures.kept opening (d.loop-part.invariant.so.kept opening agrees)
