use Rattle.std.proofs.Common.{◌≡◌, ◌∙◌, ◌∷◌, ◌++◌, [], Err, sym, ap, subst, append_assoc, append-nil, arith}
use Rattle.chunk_fetches.specs.Looking.{AreLookedAt}
use Rattle.chunk_fetches.specs.declared.error.ReadError.TheVariants.{Damaged}
use Rattle.chunk_fetches.proofs.FreshLaws.{AreDecoded, none_of, decoded_none, decoded_more, looked_first, damaged_first}
use Rattle.chunk_fetches.proofs.AnswerLaws.{err_and}
use Rattle.chunk_fetches.proofs.decoding.decode_all.Goals as goal

pub loop-l-init : goal.loop-l-init
loop-l-init c d = record {
  decoded = subst (AreDecoded []) (sym d.new-fresh.ensures.items) decoded_none;
  rest = sym d.into_iter-l-iterator.ensures.into_iter_gives.0;
}

pub opened-requires : goal.opened-requires
opened-requires c d =
    let all = d.loop-l.invariant.rest ∙ ap (λ xs. d.loop-l.yielded ++ xs) d.in-Some.ensures.steps.0 in
    let opening = d.requires.0 in
    let events = d.requires.1 in
    let first = looked_first opening events d.requires.2 d.loop-l.yielded d.in-Some.l _ (subst (AreLookedAt opening events d.requires.2) all d.requires.3) in
    (opening, events, first.0, first.1)

pub returns-in_err-opened-clause-damaged : goal.returns-in_err-opened-clause-damaged
returns-in_err-opened-clause-damaged c d key cause is opening events pieces looked =
    let all = d.loop-l.invariant.rest ∙ ap (λ xs. d.loop-l.yielded ++ xs) d.in-Some.ensures.steps.0 in
    let same = err_and _ d.from_residual.result (Damaged key cause) is d.from_residual.ensures.1 in
    let was : d.opened.result ≡ Err (Damaged key cause) = d.in_err-opened.was ∙ ap Err (sym same) in
    damaged_first opening events pieces d.loop-l.yielded d.loop-l.fresh.items d.in-Some.l _ key cause d.loop-l.invariant.decoded (subst (AreLookedAt opening events pieces) all looked)
    (λ at start h told. d.opened.ensures.damaged key cause was opening events at start h told)

pub loop-l-preserved : goal.loop-l-preserved
loop-l-preserved c d = record {
  decoded = subst (AreDecoded (d.loop-l.yielded ++ d.in-Some.l ∷ [])) (sym d.in_ok-push.ensures.items) (decoded_more d.loop-l.yielded d.loop-l.fresh.items d.in-Some.l d.in_ok-opened.field-0 d.loop-l.invariant.decoded d.in_ok-opened.ensures.fresh);
  rest = d.loop-l.invariant.rest ∙ ap (λ xs. d.loop-l.yielded ++ xs) d.in-Some.ensures.steps.0 ∙ sym (append_assoc d.loop-l.yielded (d.in-Some.l ∷ []) _);
}

pub returns-clause-fresh : goal.returns-clause-fresh
returns-clause-fresh c d opening events pieces looked =
    let all = d.loop-l.invariant.rest ∙ ap (λ xs. d.loop-l.yielded ++ xs) (none_of d.loop-l.l-iterator.rest.items (omega (arith, d.in-None.ensures.steps.0))) ∙ append-nil d.loop-l.yielded in
    d.loop-l.invariant.decoded opening events pieces (subst (AreLookedAt opening events pieces) all looked)
