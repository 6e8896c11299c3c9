use Rattle.std.proofs.Common.{◌≡◌, ◌<◌, ◌∙◌, ◌∷◌, ◌++◌, ◌+◌, [], sym, ap, arith, cond, drop, get_or, length, append_assoc, append-nil}
use Rattle.chunk_fetches.specs.Fetched.{kept_as, kept_from}
use Rattle.chunk_fetches.specs.Sources.{new_pieces}
use Rattle.chunk_fetches.specs.declared.source.Source.TheVariants.{Covered}
use Rattle.chunk_fetches.proofs.FetchLaws.{kept_none}
use Rattle.chunk_fetches.proofs.FreshLaws.{none_of}
use Rattle.chunk_fetches.proofs.LooksLaws.{next_piece}
use Rattle.chunk_fetches.proofs.fetching.keep_all.Goals as goal

pub loop-f-preserved-then-k-pieces : goal.loop-f-preserved-then-k-pieces
loop-f-preserved-then-k-pieces c =
    let sources = c.args.sources.now in
    let pieces = c.args.pieces.now in
    let mark = c.args.mark in
    let k = c.next_new-k.result in
    let p = c.index-pieces-k.result in
    let f = c.in-Some.f in
    let below = c.if-k-pieces.true in
    let count = c.requires.count in
    let lt : k < length sources = omega (arith, below, count) in
    let rest = new_pieces (drop (k + 1) sources) (drop (k + 1) pieces) in
    let first = get_or pieces k p in
    let news : new_pieces (drop c.loop-f.k sources) (drop c.loop-f.k pieces) ≡ first ∷ rest =
    sym (c.next_new-k.ensures.next pieces count) ∙ next_piece Covered p sources pieces k lt (omega (arith, below))
    ∙ ap (λ b. cond b (first ∷ rest) rest) (c.next_new-k.ensures.new Covered lt) in
    let id = c.items.ensures in
    let made : c.in_ok-keep.field-0 ≡ kept_as mark first f = c.in_ok-keep.ensures ∙ (λ i. record { id = id i; key = f.key; snapshot = f.snapshot; bounds = f.bounds; mark = mark }) in
    let left = c.next.new.self.rest.items in
    record {
      rest =
          ap (λ xs. xs ++ kept_from mark rest left) c.in_ok-push.ensures.items
          ∙ append_assoc c.loop-f.fetched.items (c.in_ok-keep.field-0 ∷ []) (kept_from mark rest left)
          ∙ ap (λ x. c.loop-f.fetched.items ++ x ∷ kept_from mark rest left) made
          ∙ (λ i. c.loop-f.fetched.items ++ kept_from mark (sym news i) (sym c.in-Some.ensures.steps.0 i))
          ∙ c.loop-f.invariant.rest;
      few = omega (arith, lt);
    }

pub returns : goal.returns
returns c =
    let news = new_pieces (drop c.loop-f.k c.args.sources.now) (drop c.loop-f.k c.args.pieces.now) in
    sym (append-nil c.loop-f.fetched.items)
    ∙ ap (λ xs. c.loop-f.fetched.items ++ xs) (sym (ap (kept_from c.args.mark news) (none_of c.loop-f.f-iterator.rest.items (omega (arith, c.in-None.ensures.steps.0))) ∙ kept_none c.args.mark news))
    ∙ c.loop-f.invariant.rest
