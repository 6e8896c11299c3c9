use Rattle.std.proofs.Common.{◌≤◌, ◌<◌, ◌∙◌, ◌∷◌, ◌++◌, [], length, vec_capacity, refl, sym, ap, subst, arith, append_assoc, length-append, append-nil}
use Rattle.std.specs.Prelude.{All}
use Rattle.indexmap.specs.IndexMap.{get_by_text}
use Rattle.session_runs.specs.Session.{session_with}
use Rattle.session_workers.specs.Workers.{IsFresh, AreDealt}
use Rattle.session_workers.proofs.Dealt.{dealt_none, dealt_step, empty_rows, nil_of}
use Rattle.session_workers.proofs.Fresh.{new_at, rested, unseen, numbered}
use Rattle.session_workers.proofs.dealing.deal.Goals as goal

pub loop-pass-init : goal.loop-pass-init
loop-pass-init g c = record {
  count = refl;
  next = c.requires.some;
  rest = sym c.into_iter-pass-iterator.ensures.into_iter_gives.0;
  rooms = λ k d low. let is = c.requires.rooms k d low in (let none = ap length is.0 in omega (arith, none), is.1);
  dealt = λ book passes new. dealt_none (IsFresh book) _ (empty_rows (λ w. w.sessions.items) (λ s. session_with s.pass (get_by_text s.names) s.txn s.log.items s.ended) c.args.row.now (λ k d low. (c.requires.rooms k d low).0));
}

pub loop-pass-preserved : goal.loop-pass-preserved
loop-pass-preserved g c =
    let more = length-append c.loop-pass.yielded (c.in-Some.pass ∷ []) in
    let whole = c.loop-pass.invariant.rest ∙ ap (λ xs. c.loop-pass.yielded ++ xs) c.in-Some.ensures.steps.0 in record {
      count = c.add.ensures.count ∙ c.loop-pass.invariant.count;
      next = c.place_behind-next.ensures;
      rest = whole ∙ sym (append_assoc c.loop-pass.yielded (c.in-Some.pass ∷ []) _);
      rooms =
          subst (λ n. All (λ w. (length w.sessions.items ≤ n) × (length c.args.passes.items ≤ vec_capacity w.sessions)) c.add.new.row) (sym more)
          (c.add.ensures.rooms (length c.loop-pass.yielded) (length c.args.passes.items) c.loop-pass.invariant.rooms);
      dealt = λ book passes new.
          let at = new_at book c.args.passes.items c.loop-pass.yielded _ c.in-Some.pass whole passes new in
          let same = c.new.ensures.pass in
          dealt_step (λ w. w.sessions.items) (λ s. session_with s.pass (get_by_text s.names) s.txn s.log.items s.ended) (IsFresh book) c.loop-pass.row c.add.new.row (length c.loop-pass.yielded) c.place_of-place.result _ c.new.result
          c.place_of-place.ensures c.add.ensures.added (c.loop-pass.invariant.dealt book passes new)
          (record {
            going = c.new.ensures.going;
            on = c.new.ensures.on book (rested book c.in-Some.pass _ at.0) (unseen book c.in-Some.pass _ at.0);
            small = subst (λ n. n < book.passes) (sym (ap (λ p. p.number) same ∙ numbered book c.in-Some.pass _ at.0)) at.1;
          })
          (ap (λ p. p.number) same ∙ numbered book c.in-Some.pass _ at.0) more;
    }

pub returns-clause-dealt : goal.returns-clause-dealt
returns-clause-dealt g c = λ book passes new.
    let ok = c.loop-pass.pass-iterator.rest.ok in
    let zero = c.in-None.ensures.steps.0 in
    let none = nil_of c.loop-pass.pass-iterator.rest.items (omega (arith, ok, zero)) in
    subst (AreDealt (IsFresh book) _) (sym (ap length (c.loop-pass.invariant.rest ∙ ap (λ xs. c.loop-pass.yielded ++ xs) none ∙ append-nil c.loop-pass.yielded))) (c.loop-pass.invariant.dealt book passes new)
