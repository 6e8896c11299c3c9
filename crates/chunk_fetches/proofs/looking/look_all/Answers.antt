use Rattle.std.proofs.Common.{◌≡◌, ◌∙◌, ◌∷◌, ◌+◌, Err, sym, ap, subst, arith, drop, cond, get_or}
use Rattle.shared_state.specs.Fetches.{IsChunkOf}
use Rattle.chunk_fetches.specs.Looking.{IsLookedAt, HasFailedAt}
use Rattle.chunk_fetches.specs.Sources.{new_pieces}
use Rattle.chunk_fetches.specs.Kept.{chunk_at}
use Rattle.chunk_fetches.specs.declared.error.LookError.TheVariants.{StoreFailed, Memory}
use Rattle.chunk_fetches.specs.declared.source.Source.TheVariants.{Covered}
use Rattle.chunk_fetches.proofs.LooksLaws.{AreLookedUpTo, no_piece, none_looked, looked_next, looked_same, looked_all, chunk_next, failed_next, next_piece, none_left}
use Rattle.chunk_fetches.proofs.AnswerLaws.{err_and}
use Rattle.chunk_fetches.proofs.looking.look_all.Goals as goal
use Rattle.chunk_fetches.proofs.looking.look_all.Goals.{then-is_new+in_ok-look+in_ok-push, else-is_new}

pub loop-k-init : goal.loop-k-init
loop-k-init c d = subst (AreLookedUpTo _ _ _ _ _ _) (sym d.new-looks.ensures.items) (none_looked _ d.args.state.now.log (new_pieces d.args.sources.now d.args.pieces.now))

pub look_at-requires-clause-agrees : goal.look_at-requires-clause-agrees
look_at-requires-clause-agrees c d = (d.requires.agrees.0, d.loop-k.invariant.kept d.requires.agrees.0 d.requires.agrees.1)

pub look_at-requires-clause-chunk : goal.look_at-requires-clause-chunk
look_at-requires-clause-chunk c d =
    let sources = d.args.sources.now in
    let pieces = d.args.pieces.now in
    let k = d.loop-k.k in
    let p = d.index-pieces-k.result in
    let count = d.requires.count in
    let next = next_piece Covered p sources pieces k d.loop-k-test.true (omega arith)
    ∙ ap (λ b. cond b (get_or pieces k p ∷ new_pieces (drop (k + 1) sources) (drop (k + 1) pieces)) (new_pieces (drop (k + 1) sources) (drop (k + 1) pieces))) (sym d.is_new.ensures ∙ d.if-is_new.true) in
    subst (λ id. IsChunkOf d.loop-k.state.log.events (chunk_at id)) (sym d.items.ensures)
    (chunk_next _ _ d.args.state.now.log d.loop-k.state.log _ (new_pieces sources pieces) d.loop-k.looks.items (get_or pieces k p) (looked_same _ _ _ _ _ _ _ _ next d.loop-k.invariant) d.requires.chunks)

pub returns-in_err-look-clause-failed : goal.returns-in_err-look-clause-failed
returns-in_err-look-clause-failed c d event is =
    let sources = d.args.sources.now in
    let pieces = d.args.pieces.now in
    let k = d.loop-k.k in
    let p = d.index-pieces-k.result in
    let next = next_piece Covered p sources pieces k d.loop-k-test.true (omega arith)
    ∙ ap (λ b. cond b (get_or pieces k p ∷ new_pieces (drop (k + 1) sources) (drop (k + 1) pieces)) (new_pieces (drop (k + 1) sources) (drop (k + 1) pieces))) (sym d.is_new.ensures ∙ d.if-is_new.true) in
    let same = err_and _ d.from_residual.result (StoreFailed event) is d.from_residual.ensures.1 in
    let was : d.look_at.result ≡ Err (StoreFailed event) = d.in_err-look.was ∙ ap Err (sym same) in
    let failed = d.look_at.ensures.failed event was in
    failed_next d.args.owner event _ _ d.args.state.now.log d.loop-k.state.log d.look_at.new.state.log.events _ (new_pieces sources pieces) d.loop-k.looks.items (get_or pieces k p) (looked_same _ _ _ _ _ _ _ _ next d.loop-k.invariant)
    (subst (λ id. HasFailedAt d.args.owner (chunk_at id) d.loop-k.state.log.events d.look_at.new.state.log.events event) d.items.ensures failed)

pub returns-in_err-look-clause-memory : goal.returns-in_err-look-clause-memory
returns-in_err-look-clause-memory c d is =
    let same = err_and _ d.from_residual.result Memory is d.from_residual.ensures.1 in
    let was : d.look_at.result ≡ Err Memory = d.in_err-look.was ∙ ap Err (sym same) in
    d.look_at.ensures.memory was ∙ d.loop-k.invariant.events

pub returns-in_err-look-clause-kept : goal.returns-in_err-look-clause-kept
returns-in_err-look-clause-kept c d opening agrees = d.look_at.ensures.kept opening (d.loop-k.invariant.kept opening agrees)

pub returns-in_err-push-clause-memory : goal.returns-in_err-push-clause-memory
returns-in_err-push-clause-memory c d is = d.in_ok-look.ensures.events ∙ d.loop-k.invariant.events

pub returns-in_err-push-clause-kept : goal.returns-in_err-push-clause-kept
returns-in_err-push-clause-kept c d opening agrees = d.look_at.ensures.kept opening (d.loop-k.invariant.kept opening agrees)

pub loop-k-preserved : goal.loop-k-preserved
loop-k-preserved c d = elim d.if-is_new.branch [
  | then-is_new+in_ok-look+in_ok-push w ↦
      let sources = d.args.sources.now in
      let pieces = d.args.pieces.now in
      let k = d.loop-k.k in
      let p = w.index-pieces-k.result in
      let next = next_piece Covered p sources pieces k d.loop-k-test.true (omega arith)
      ∙ ap (λ b. cond b (get_or pieces k p ∷ new_pieces (drop (k + 1) sources) (drop (k + 1) pieces)) (new_pieces (drop (k + 1) sources) (drop (k + 1) pieces))) (sym d.is_new.ensures ∙ w.if-is_new.true) in
      rw (w.state-is, w.looks-is, w.in_ok-push.ensures.items)
      (looked_next _ _ _ d.args.state.now.log d.loop-k.state.log w.look_at.new.state.log _ (new_pieces sources pieces) d.loop-k.looks.items (get_or pieces k p) w.in_ok-look.look (looked_same _ _ _ _ _ _ _ _ next d.loop-k.invariant)
      (λ opening agrees. subst (λ id. IsLookedAt opening d.loop-k.state.log.events (chunk_at id) w.in_ok-look.look) w.items.ensures (w.in_ok-look.ensures.looked opening agrees))
      w.in_ok-look.ensures.events w.look_at.ensures.kept)
  | else-is_new w ↦
      let sources = d.args.sources.now in
      let pieces = d.args.pieces.now in
      let k = d.loop-k.k in
      let next = next_piece Covered no_piece sources pieces k d.loop-k-test.true (omega arith)
      ∙ ap (λ b. cond b (get_or pieces k no_piece ∷ new_pieces (drop (k + 1) sources) (drop (k + 1) pieces)) (new_pieces (drop (k + 1) sources) (drop (k + 1) pieces))) (sym d.is_new.ensures ∙ w.if-is_new.false) in
      rw (w.state-is, w.looks-is) (looked_same _ _ _ _ _ _ _ _ next d.loop-k.invariant)
]

pub returns-clause-looked : goal.returns-clause-looked
returns-clause-looked c d opening agrees =
    looked_all _ _ d.args.state.now.log d.loop-k.state.log (new_pieces d.args.sources.now d.args.pieces.now) d.loop-k.looks.items
    (looked_same _ _ _ _ _ _ _ _ (none_left d.loop-k.k d.args.sources.now d.args.pieces.now (omega arith)) d.loop-k.invariant) opening agrees

pub returns-clause-events : goal.returns-clause-events
returns-clause-events c d = d.loop-k.invariant.events

pub returns-clause-kept : goal.returns-clause-kept
returns-clause-kept c d = d.loop-k.invariant.kept
