use Rattle.std.proofs.Common.{◌∙◌, ◌∷◌, ◌++◌, ◌+◌, [], List, sym, ap, drop, append_assoc, arith, length}
use Rattle.std.proofs.lemmas.List.{at_drop_more}
use Rattle.chunk_fetches.specs.declared.Piece.{Piece}
use Rattle.chunk_fetches.specs.Sources.{sources_of}
use Rattle.chunk_fetches.proofs.Laws.{no_piece}
use Rattle.transactions.proofs.txn.Txn.sources.Goals as goal

pub loop-piece-preserved : goal.loop-piece-preserved
loop-piece-preserved c =
    let staged = c.args.self.now.staged in
    let kept = c.args.self.now.kept in
    let pieces = c.args.cells.now.pieces in
    let k = c.loop-piece.piece in
    let rest = sources_of staged kept (drop (k + 1) pieces) in
    ap (λ xs. xs ++ rest) c.in_ok-push.ensures.items
    ∙ append_assoc c.loop-piece.sources.items (c.source.result ∷ []) rest
    ∙ ap (λ s. c.loop-piece.sources.items ++ s ∷ rest) (c.source.ensures no_piece)
    ∙ ap (λ xs. c.loop-piece.sources.items ++ xs) (sym (at_drop_more (λ (ps : List Piece). sources_of staged kept ps) pieces k no_piece (let long = ap (λ (ps : List Piece). length ps) c.items-piece-end.ensures in omega (arith, long))))
    ∙ c.loop-piece.invariant
