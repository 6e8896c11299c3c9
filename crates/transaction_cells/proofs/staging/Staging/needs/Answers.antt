use Rattle.std.proofs.Common.{◌≡◌, ◌∙◌, List, Some, None, sym, ap, subst, length, get_or}
use Rattle.std.specs.List.{AllByRecursion}
use Rattle.std.proofs.lemmas.List.{get_or_default}
use Rattle.cells.specs.declared.run.Run.{Run}
use Rattle.transaction_cells.specs.Found.{found}
use Rattle.transaction_cells.specs.Needs.{IsRunIn, are_bare, needs}
use Rattle.transaction_cells.specs.Pieces.{IsPiece}
use Rattle.transaction_cells.specs.Staging.{StagedChunk, staged_of}
use Rattle.transaction_cells.specs.declared.view_cells.Piece.{Piece}
use Rattle.transaction_cells.proofs.NeedLaws.{staged_room, needs_none, needs_some}
use Rattle.transaction_cells.proofs.StagingLaws.{staged_found}
use Rattle.transaction_cells.proofs.WrittenLaws.{piece_in}
use Rattle.transaction_cells.specs.Sites.{sites_of}
use Rattle.transaction_cells.proofs.OperationLaws.{needs_unwritten}
use Rattle.transaction_cells.proofs.staging.Staging.needs.Goals as goal

pub are_bare-requires-clause-runs : goal.are_bare-requires-clause-runs
are_bare-requires-clause-runs c =
    let p = c.index-items-piece.result in
    let is : p ≡ get_or c.args.cells.now.pieces c.args.piece p = c.index-items-piece.is ∙ ap (λ (ps : List Piece). get_or ps c.args.piece p) c.items.ensures in
    let piece : IsPiece c.requires.cells.sites p = subst (IsPiece c.requires.cells.sites) (sym is) (piece_in c.requires.cells.sites c.args.cells.now.pieces c.args.piece p c.requires.cells.are.pieces.each c.requires.piece) in
    let there : staged_of c.args.self.now p.id ≡ Some c.in-Some.staged.now =
    sym (ap (λ (ks : List StagedChunk). staged_of ks p.id) c.self.view_is) ∙ staged_found c.self.inside.table.entries p.id ∙ ap (λ xs. found c.self.inside.table.entries xs) (sym c.items-2.ensures) ∙ sym c.in-Some.ensures.value in
    subst (λ (rs : List Run). AllByRecursion (IsRunIn (length c.in-Some.staged.now)) rs) (sym c.items-in-Some.ensures)
    (staged_room c.requires.cells.sites c.args.self.now p c.in-Some.staged.now piece c.requires.cells.sized c.requires.cells.inside c.requires.cells.small there).0

pub are_bare-requires-clause-small : goal.are_bare-requires-clause-small
are_bare-requires-clause-small c =
    let p = c.index-items-piece.result in
    let is : p ≡ get_or c.args.cells.now.pieces c.args.piece p = c.index-items-piece.is ∙ ap (λ (ps : List Piece). get_or ps c.args.piece p) c.items.ensures in
    let piece : IsPiece c.requires.cells.sites p = subst (IsPiece c.requires.cells.sites) (sym is) (piece_in c.requires.cells.sites c.args.cells.now.pieces c.args.piece p c.requires.cells.are.pieces.each c.requires.piece) in
    let there : staged_of c.args.self.now p.id ≡ Some c.in-Some.staged.now =
    sym (ap (λ (ks : List StagedChunk). staged_of ks p.id) c.self.view_is) ∙ staged_found c.self.inside.table.entries p.id ∙ ap (λ xs. found c.self.inside.table.entries xs) (sym c.items-2.ensures) ∙ sym c.in-Some.ensures.value in
    (staged_room c.requires.cells.sites c.args.self.now p c.in-Some.staged.now piece c.requires.cells.sized c.requires.cells.inside c.requires.cells.small there).1

pub returns-in-Some-clause-value : goal.returns-in-Some-clause-value
returns-in-Some-clause-value c d =
    let p = c.index-items-piece.result in
    let is : p ≡ get_or c.args.cells.now.pieces c.args.piece p = c.index-items-piece.is ∙ ap (λ (ps : List Piece). get_or ps c.args.piece p) c.items.ensures in
    let there : staged_of c.args.self.now p.id ≡ Some c.in-Some.staged.now =
    sym (ap (λ (ks : List StagedChunk). staged_of ks p.id) c.self.view_is) ∙ staged_found c.self.inside.table.entries p.id ∙ ap (λ xs. found c.self.inside.table.entries xs) (sym c.items-2.ensures) ∙ sym c.in-Some.ensures.value in
    c.are_bare.ensures ∙ ap (λ (rs : List Run). are_bare c.in-Some.staged.now rs) c.items-in-Some.ensures ∙ needs_some c.args.self.now p c.in-Some.staged.now there
    ∙ ap (needs c.args.self.now) (is ∙ get_or_default c.args.cells.now.pieces c.args.piece p d c.requires.piece)

pub returns-in-None-clause-value : goal.returns-in-None-clause-value
returns-in-None-clause-value c d =
    let p = c.index-items-piece.result in
    let is : p ≡ get_or c.args.cells.now.pieces c.args.piece p = c.index-items-piece.is ∙ ap (λ (ps : List Piece). get_or ps c.args.piece p) c.items.ensures in
    let piece : IsPiece c.requires.cells.sites p = subst (IsPiece c.requires.cells.sites) (sym is) (piece_in c.requires.cells.sites c.args.cells.now.pieces c.args.piece p c.requires.cells.are.pieces.each c.requires.piece) in
    let none : staged_of c.args.self.now p.id ≡ None =
    sym (ap (λ (ks : List StagedChunk). staged_of ks p.id) c.self.view_is) ∙ staged_found c.self.inside.table.entries p.id ∙ ap (λ xs. found c.self.inside.table.entries xs) (sym c.items-2.ensures) ∙ sym c.in-None.ensures.value in
    sym (needs_none c.requires.cells.sites c.args.self.now p piece none) ∙ ap (needs c.args.self.now) (is ∙ get_or_default c.args.cells.now.pieces c.args.piece p d c.requires.piece)

pub returns-in-Some-clause-history : goal.returns-in-Some-clause-history
returns-in-Some-clause-history c d events v ops leaves has are h =
    returns-in-Some-clause-value c d
    ∙ needs_unwritten events v ops c.args.self.now (get_or c.args.cells.now.pieces c.args.piece d) leaves has (piece_in (sites_of v) c.args.cells.now.pieces c.args.piece d are.pieces.each c.requires.piece) h

pub returns-in-None-clause-history : goal.returns-in-None-clause-history
returns-in-None-clause-history c d events v ops leaves has are h =
    returns-in-None-clause-value c d
    ∙ needs_unwritten events v ops c.args.self.now (get_or c.args.cells.now.pieces c.args.piece d) leaves has (piece_in (sites_of v) c.args.cells.now.pieces c.args.piece d are.pieces.each c.requires.piece) h
