use Rattle.std.proofs.Common.{◌∙◌, ◌∷◌, ◌+◌, sym, ap, arith, cond, drop, get_or}
use Rattle.chunk_fetches.specs.Sources.{new_pieces}
use Rattle.chunk_fetches.specs.declared.source.Source.TheVariants.{Covered}
use Rattle.chunk_fetches.proofs.LooksLaws.{next_piece, no_piece}
use Rattle.chunk_fetches.proofs.fetching.next_new.Goals as goal

pub loop-k-preserved : goal.loop-k-preserved
loop-k-preserved c =
    let sources = c.args.sources.now in
    let k = c.loop-k.k in
    let low = c.loop-k.invariant.from in
    let lt = c.loop-k-test.true in
    record {
      from = omega (arith, low);
      to = omega (arith, lt);
      next = λ pieces same.
          sym (next_piece Covered no_piece sources pieces k lt (omega (arith, lt, same))
          ∙ ap (λ b. cond b (get_or pieces k no_piece ∷ new_pieces (drop (k + 1) sources) (drop (k + 1) pieces)) (new_pieces (drop (k + 1) sources) (drop (k + 1) pieces))) (sym c.is_new.ensures ∙ c.if-is_new.false))
          ∙ c.loop-k.invariant.next pieces same;
    }
