use Rattle.std.proofs.Common.{◌∙◌, ◌∷◌, ℕ, List, ◌+◌, sym, ap, subst, arith, drop, cond, get_or}
use Rattle.shared_state.specs.Fetches.{IsChunkOf}
use Rattle.chunk_fetches.specs.Looking.{IsFresh}
use Rattle.chunk_fetches.specs.declared.looked.Fresh.{Fresh}
use Rattle.chunk_fetches.specs.Sources.{new_pieces}
use Rattle.chunk_fetches.specs.Kept.{chunk_at}
use Rattle.chunk_fetches.specs.declared.source.Source.TheVariants.{Covered}
use Rattle.chunk_fetches.proofs.LooksLaws.{no_piece, next_piece}
use Rattle.chunk_fetches.proofs.SettleLaws.{settled_same, settled_below, settled_chunk, settled_kept, settled_next, length-fresh}
use Rattle.chunk_fetches.proofs.settling.settle_all.Goals as goal
use Rattle.chunk_fetches.proofs.settling.settle_all.Goals.{then-is_new+in_ok-settle, else-is_new}

pub settle-requires-clause-agrees : goal.settle-requires-clause-agrees
settle-requires-clause-agrees c d =
    let f = d.requires.fresh in
    (f.0, d.loop-k.invariant.kept f.0 f.1 f.2 f.3 f.4 f.5)

pub bounds-fresh-next : goal.bounds-fresh-next
bounds-fresh-next c d =
    let sources = d.args.sources.now in
    let pieces = d.args.pieces.now in
    let k = d.loop-k.k in
    let p = d.index-pieces-k.result in
    let count = d.requires.count in
    let next = next_piece Covered p sources pieces k d.loop-k-test.true (omega arith)
    ∙ ap (λ b. cond b (get_or pieces k p ∷ new_pieces (drop (k + 1) sources) (drop (k + 1) pieces)) (new_pieces (drop (k + 1) sources) (drop (k + 1) pieces))) (sym d.is_new.ensures ∙ d.if-is_new.true) in
    let f = d.requires.fresh in
    settled_below _ _ d.args.state.now.log d.loop-k.state.log _ (new_pieces sources pieces) d.args.fresh.now d.loop-k.next (get_or pieces k p) (length-fresh f.0 f.1 (new_pieces sources pieces) d.args.fresh.now f.4) (settled_same _ _ _ _ _ _ _ _ _ next d.loop-k.invariant)

pub offset_bounds-fresh-next : goal.offset_bounds-fresh-next
offset_bounds-fresh-next c d =
    let sources = d.args.sources.now in
    let pieces = d.args.pieces.now in
    let k = d.loop-k.k in
    let p = d.index-pieces-k.result in
    let count = d.requires.count in
    let next = next_piece Covered p sources pieces k d.loop-k-test.true (omega arith)
    ∙ ap (λ b. cond b (get_or pieces k p ∷ new_pieces (drop (k + 1) sources) (drop (k + 1) pieces)) (new_pieces (drop (k + 1) sources) (drop (k + 1) pieces))) (sym d.is_new.ensures ∙ d.if-is_new.true) in
    let f = d.requires.fresh in
    let below = settled_below _ _ d.args.state.now.log d.loop-k.state.log _ (new_pieces sources pieces) d.args.fresh.now d.loop-k.next (get_or pieces k p) (length-fresh f.0 f.1 (new_pieces sources pieces) d.args.fresh.now f.4) (settled_same _ _ _ _ _ _ _ _ _ next d.loop-k.invariant) in
    omega (arith, below)

pub settle-requires-clause-chunk : goal.settle-requires-clause-chunk
settle-requires-clause-chunk c d =
    let sources = d.args.sources.now in
    let pieces = d.args.pieces.now in
    let k = d.loop-k.k in
    let p = d.index-pieces-k.result in
    let count = d.requires.count in
    let next = next_piece Covered p sources pieces k d.loop-k-test.true (omega arith)
    ∙ ap (λ b. cond b (get_or pieces k p ∷ new_pieces (drop (k + 1) sources) (drop (k + 1) pieces)) (new_pieces (drop (k + 1) sources) (drop (k + 1) pieces))) (sym d.is_new.ensures ∙ d.if-is_new.true) in
    subst (λ id. IsChunkOf d.loop-k.state.log.events (chunk_at id)) (sym d.items.ensures)
    (settled_chunk _ _ d.args.state.now.log d.loop-k.state.log _ (new_pieces sources pieces) d.args.fresh.now d.loop-k.next (get_or pieces k p) (settled_same _ _ _ _ _ _ _ _ _ next d.loop-k.invariant) d.requires.chunks)

pub returns-in_err-settle-clause-kept : goal.returns-in_err-settle-clause-kept
returns-in_err-settle-clause-kept c d =
    let sources = d.args.sources.now in
    let pieces = d.args.pieces.now in
    let k = d.loop-k.k in
    let p = d.index-pieces-k.result in
    let count = d.requires.count in
    let next = next_piece Covered p sources pieces k d.loop-k-test.true (omega arith)
    ∙ ap (λ b. cond b (get_or pieces k p ∷ new_pieces (drop (k + 1) sources) (drop (k + 1) pieces)) (new_pieces (drop (k + 1) sources) (drop (k + 1) pieces))) (sym d.is_new.ensures ∙ d.if-is_new.true) in
    let f = d.index-fresh-next.result in
    settled_kept _ _ _ d.args.state.now.log d.loop-k.state.log d.settle.new.state.log _ (new_pieces sources pieces) d.args.fresh.now d.loop-k.next (get_or pieces k p) f (settled_same _ _ _ _ _ _ _ _ _ next d.loop-k.invariant) d.settle.ensures.events
    (λ opening early more grown is agrees. d.settle.ensures.kept opening early more grown (subst (λ (g : Fresh). IsFresh opening early (chunk_at d.items.result.now) g) (sym d.index-fresh-next.is) (subst (λ (id : List ℕ). IsFresh opening early (chunk_at id) (get_or d.args.fresh.now d.loop-k.next f)) (sym d.items.ensures) is)) agrees)

pub overflow_add-next : goal.overflow_add-next
overflow_add-next c d =
    let sources = d.args.sources.now in
    let pieces = d.args.pieces.now in
    let k = d.loop-k.k in
    let p = d.index-pieces-k.result in
    let count = d.requires.count in
    let next = next_piece Covered p sources pieces k d.loop-k-test.true (omega arith)
    ∙ ap (λ b. cond b (get_or pieces k p ∷ new_pieces (drop (k + 1) sources) (drop (k + 1) pieces)) (new_pieces (drop (k + 1) sources) (drop (k + 1) pieces))) (sym d.is_new.ensures ∙ d.if-is_new.true) in
    let f = d.requires.fresh in
    let below = settled_below _ _ d.args.state.now.log d.loop-k.state.log _ (new_pieces sources pieces) d.args.fresh.now d.loop-k.next (get_or pieces k p) (length-fresh f.0 f.1 (new_pieces sources pieces) d.args.fresh.now f.4) (settled_same _ _ _ _ _ _ _ _ _ next d.loop-k.invariant) in
    omega (arith, below)

pub loop-k-preserved : goal.loop-k-preserved
loop-k-preserved c d = elim d.if-is_new.branch [
  | then-is_new+in_ok-settle w ↦
      let sources = d.args.sources.now in
      let pieces = d.args.pieces.now in
      let k = d.loop-k.k in
      let p = w.index-pieces-k.result in
      let count = d.requires.count in
      let next = next_piece Covered p sources pieces k d.loop-k-test.true (omega arith)
      ∙ ap (λ b. cond b (get_or pieces k p ∷ new_pieces (drop (k + 1) sources) (drop (k + 1) pieces)) (new_pieces (drop (k + 1) sources) (drop (k + 1) pieces))) (sym d.is_new.ensures ∙ w.if-is_new.true) in
      let f = w.index-fresh-next.result in
      rw (w.state-is, w.next-is)
      (settled_next _ _ _ d.args.state.now.log d.loop-k.state.log w.settle.new.state.log _ (new_pieces sources pieces) d.args.fresh.now d.loop-k.next (get_or pieces k p) f (settled_same _ _ _ _ _ _ _ _ _ next d.loop-k.invariant) w.settle.ensures.events
      (λ opening early more grown is agrees. w.settle.ensures.kept opening early more grown (subst (λ (g : Fresh). IsFresh opening early (chunk_at w.items.result.now) g) (sym w.index-fresh-next.is) (subst (λ (id : List ℕ). IsFresh opening early (chunk_at id) (get_or d.args.fresh.now d.loop-k.next f)) (sym w.items.ensures) is)) agrees))
  | else-is_new w ↦
      let sources = d.args.sources.now in
      let pieces = d.args.pieces.now in
      let k = d.loop-k.k in
      let count = d.requires.count in
      let next = next_piece Covered no_piece sources pieces k d.loop-k-test.true (omega arith)
      ∙ ap (λ b. cond b (get_or pieces k no_piece ∷ new_pieces (drop (k + 1) sources) (drop (k + 1) pieces)) (new_pieces (drop (k + 1) sources) (drop (k + 1) pieces))) (sym d.is_new.ensures ∙ w.if-is_new.false) in
      rw (w.state-is, w.next-is) (settled_same _ _ _ _ _ _ _ _ _ next d.loop-k.invariant)
]
