use Rattle.std.proofs.Common.{◌≡◌, ◌∙◌, ◌<◌, ℕ, List, [], Some, true, sym, ap, subst, get_or, unwrap_or}
use Rattle.std.specs.List.{AllByRecursion}
use Rattle.std.specs.Option.{option_map}
use Rattle.std.proofs.lemmas.List.{get_or_default}
use Rattle.cells.specs.Places.{cell_count}
use Rattle.cells.specs.declared.run.Run.{Run}
use Rattle.transaction_cells.specs.Found.{found}
use Rattle.transaction_cells.specs.Needs.{IsRunIn}
use Rattle.transaction_cells.specs.Outside.{IsInGrid, are_outside, index_in, is_place_inside, needs_outside}
use Rattle.transaction_cells.specs.Pieces.{IsPiece}
use Rattle.transaction_cells.specs.Sites.{sites_of}
use Rattle.transaction_cells.specs.Staging.{StagedChunk, staged_of}
use Rattle.transaction_cells.specs.declared.view_cells.Piece.{Piece}
use Rattle.transaction_cells.proofs.OutsideLaws.{none_outside, outside_of_view, piece_runs, piece_staged}
use Rattle.transaction_cells.proofs.StagingLaws.{staged_found}
use Rattle.transaction_cells.proofs.WrittenLaws.{piece_in}
use Rattle.transaction_cells.proofs.staging.Staging.needs_outside.Goals as goal

pub returns-then-is_within-clause-value : goal.returns-then-is_within-clause-value
returns-then-is_within-clause-value c d =
    let pieces = c.args.cells.now.pieces in
    let shape = c.args.shape.now in
    let chunk = c.args.chunk.now in
    let p = c.index-items-piece.result in
    let is : p ≡ get_or pieces c.args.piece p = c.index-items-piece.is ∙ ap (λ (ps : List Piece). get_or ps c.args.piece p) c.items.ensures in
    let piece : IsPiece c.requires.cells.sites p = subst (IsPiece c.requires.cells.sites) (sym is) (piece_in c.requires.cells.sites pieces c.args.piece p c.requires.cells.are.pieces.each c.requires.piece) in
    let grid : IsInGrid shape chunk p = subst (IsInGrid shape chunk) (sym is) (c.requires.grid p) in
    let index : c.index_in-index.result.now ≡ index_in p.id = c.index_in-index.ensures ∙ ap index_in c.items-2.ensures in
    let whole : (place : ℕ) → place < cell_count chunk → is_place_inside shape chunk (index_in p.id) place ≡ true = λ place below. subst (λ xs. is_place_inside shape chunk xs place ≡ true) index (c.is_within.ensures c.if-is_within.true place below) in
    sym (none_outside c.requires.cells.sites p shape chunk (index_in p.id) (unwrap_or (staged_of c.args.self.now p.id) []) piece c.requires.cells.inside grid.size whole)
    ∙ ap (needs_outside shape chunk c.args.self.now) (is ∙ get_or_default pieces c.args.piece p d c.requires.piece)

pub are_outside-requires-clause-staged : goal.are_outside-requires-clause-staged
are_outside-requires-clause-staged c x here =
    let pieces = c.args.cells.now.pieces in
    let p = c.index-items-piece.result in
    let is : p ≡ get_or pieces c.args.piece p = c.index-items-piece.is ∙ ap (λ (ps : List Piece). get_or ps c.args.piece p) c.items.ensures in
    let piece : IsPiece c.requires.cells.sites p = subst (IsPiece c.requires.cells.sites) (sym is) (piece_in c.requires.cells.sites pieces c.args.piece p c.requires.cells.are.pieces.each c.requires.piece) in
    let there : staged_of c.args.self.now p.id ≡ Some x.now =
    sym (ap (λ (ks : List StagedChunk). staged_of ks p.id) c.self.view_is) ∙ staged_found c.self.inside.table.entries p.id ∙ ap (λ xs. found c.self.inside.table.entries xs) (sym c.items-3.ensures)
    ∙ sym c.get-staged.ensures.value ∙ ap (option_map (λ s. s.now)) here in
    piece_staged c.requires.cells.sites c.args.self.now p x.now piece c.requires.cells.sized there

pub are_outside-requires-clause-runs : goal.are_outside-requires-clause-runs
are_outside-requires-clause-runs c =
    let pieces = c.args.cells.now.pieces in
    let p = c.index-items-piece.result in
    let is : p ≡ get_or pieces c.args.piece p = c.index-items-piece.is ∙ ap (λ (ps : List Piece). get_or ps c.args.piece p) c.items.ensures in
    let piece : IsPiece c.requires.cells.sites p = subst (IsPiece c.requires.cells.sites) (sym is) (piece_in c.requires.cells.sites pieces c.args.piece p c.requires.cells.are.pieces.each c.requires.piece) in
    subst (λ (rs : List Run). AllByRecursion (IsRunIn p.size) rs) (sym c.items-4.ensures) (piece_runs c.requires.cells.sites p piece c.requires.cells.inside)

pub returns-clause-value : goal.returns-clause-value
returns-clause-value c d =
    let pieces = c.args.cells.now.pieces in
    let shape = c.args.shape.now in
    let chunk = c.args.chunk.now in
    let p = c.index-items-piece.result in
    let is : p ≡ get_or pieces c.args.piece p = c.index-items-piece.is ∙ ap (λ (ps : List Piece). get_or ps c.args.piece p) c.items.ensures in
    let index : c.index_in-index.result.now ≡ index_in p.id = c.index_in-index.ensures ∙ ap index_in c.items-2.ensures in
    let there : option_map (λ s. s.now) c.get-staged.result ≡ staged_of c.args.self.now p.id =
    c.get-staged.ensures.value ∙ ap (λ xs. found c.self.inside.table.entries xs) c.items-3.ensures ∙ sym (staged_found c.self.inside.table.entries p.id) ∙ ap (λ (ks : List StagedChunk). staged_of ks p.id) c.self.view_is in
    c.are_outside.ensures
    ∙ (λ i. are_outside shape chunk (index i) (unwrap_or (there i) []) (c.items-4.ensures i))
    ∙ ap (needs_outside shape chunk c.args.self.now) (is ∙ get_or_default pieces c.args.piece p d c.requires.piece)

pub returns-then-is_within-clause-history : goal.returns-then-is_within-clause-history
returns-then-is_within-clause-history c d events v ops array index k leaves has are h id known chunk =
    returns-then-is_within-clause-value c d
    ∙ outside_of_view events v ops c.args.self.now (get_or c.args.cells.now.pieces c.args.piece d) array index k c.args.shape.now c.args.chunk.now leaves has (piece_in (sites_of v) c.args.cells.now.pieces c.args.piece d are.pieces.each c.requires.piece) h id known chunk

pub returns-clause-history : goal.returns-clause-history
returns-clause-history c d events v ops array index k leaves has are h id known chunk =
    returns-clause-value c d
    ∙ outside_of_view events v ops c.args.self.now (get_or c.args.cells.now.pieces c.args.piece d) array index k c.args.shape.now c.args.chunk.now leaves has (piece_in (sites_of v) c.args.cells.now.pieces c.args.piece d are.pieces.each c.requires.piece) h id known chunk
