use Rattle.std.proofs.Common.{◌≡◌, ◌∙◌, ◌+◌, ◌<◌, ◌∷◌, ◌++◌, [], sym, ap, subst, arith, append_assoc, drop, get_or, length}
use Rattle.std.specs.Option.{option_copied}
use Rattle.transactions.specs.Had.{had_from, had_of}
use Rattle.chunk_fetches.specs.Sources.{count_new}
use Rattle.transactions.specs.Strays.{IsFitting, stray_at, strays_of, with_stray}
use Rattle.transactions.specs.Txn.{TxnSeen}
use Rattle.chunk_fetches.specs.declared.source.Source.TheVariants.{Covered}
use Rattle.chunk_fetches.proofs.Laws.{no_piece}
use Rattle.transactions.proofs.StrayLaws.{count_small, next_fit, next_strays}
use Rattle.transactions.proofs.txn.Txn.strays.Goals as goal
use Rattle.transactions.proofs.txn.Txn.strays.Goals.{in-Some+in_ok-push, in_default}

pub stray-requires-clause-fits : goal.stray-requires-clause-fits
stray-requires-clause-fits c d =
    let kept = c.args.self.now.kept in
    let fetched = c.args.fetched.now in
    let pieces = c.args.cells.now.pieces in
    let sources = c.args.sources.now in
    let k = c.loop-k.k in
    let count = c.requires.count in
    let lt = c.loop-k-test.true in
    let seen : c.deref.result.now ≡ kept = c.deref.ensures.value ∙ ap (λ (t : TxnSeen). t.kept) c.self.view_is in
    let had : option_copied c.had_of-had.result ≡ had_of (get_or sources k Covered) kept fetched c.loop-k.next = c.had_of-had.ensures ∙ ap (λ ks. had_of (get_or sources k Covered) ks fetched c.loop-k.next) seen in
    subst (IsFitting (get_or pieces k d)) (sym had) (next_fit kept fetched pieces sources k c.loop-k.next d Covered (omega (arith, lt, count)) lt c.loop-k.invariant.fit).0

pub loop-k-preserved : goal.loop-k-preserved
loop-k-preserved c =
    let staged = c.args.self.now.staged in
    let kept = c.args.self.now.kept in
    let fetched = c.args.fetched.now in
    let pieces = c.args.cells.now.pieces in
    let sources = c.args.sources.now in
    let k = c.loop-k.k in
    let next = c.loop-k.next in
    let count = c.requires.count in
    let lt = c.loop-k-test.true in
    let below : k < length pieces = omega (arith, lt, count) in
    let source = get_or sources k Covered in
    let more = c.count_new-next.ensures in
    let seen : c.deref.result.now ≡ kept = c.deref.ensures.value ∙ ap (λ (t : TxnSeen). t.kept) c.self.view_is in
    let had : option_copied c.had_of-had.result ≡ had_of source kept fetched next = c.had_of-had.ensures ∙ ap (λ ks. had_of source ks fetched next) seen in
    let told : c.stray.result ≡ stray_at staged (get_or pieces k no_piece) (had_of source kept fetched next) = c.stray.ensures no_piece ∙ ap (stray_at staged (get_or pieces k no_piece)) had in
    let rest = strays_of staged (drop (k + 1) pieces) (had_from (drop (k + 1) sources) kept fetched (next + count_new source)) in
    let step = next_strays kept fetched pieces sources k next no_piece Covered below lt staged in
    let fit = (next_fit kept fetched pieces sources k next no_piece Covered below lt c.loop-k.invariant.fit).1 in
    let few = c.loop-k.invariant.few in
    let small = count_small source in
    record {
      rest = rw more (elim c.match-stray.branch [
        | in-Some+in_ok-push w ↦
            rw (w.strays-is, w.in_ok-push.ensures.items)
            (append_assoc c.loop-k.strays.items (w.in-Some.stray ∷ []) rest
            ∙ ap (λ o. c.loop-k.strays.items ++ with_stray o rest) (sym w.in-Some.is ∙ told)
            ∙ ap (λ xs. c.loop-k.strays.items ++ xs) (sym step) ∙ c.loop-k.invariant.rest)
        | in_default w ↦
            rw w.strays-is
            (ap (λ o. c.loop-k.strays.items ++ with_stray o rest) (sym w.in_default.is ∙ told)
            ∙ ap (λ xs. c.loop-k.strays.items ++ xs) (sym step) ∙ c.loop-k.invariant.rest)
      ]);
      fit = rw more fit;
      few = omega (arith, more, few, small);
    }
