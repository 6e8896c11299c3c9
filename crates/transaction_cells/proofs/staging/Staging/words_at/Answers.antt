use Rattle.std.proofs.Common.{◌≡◌, ◌∙◌, List, [], Option, ℕ, Some, None, sym, ap, subst, length, map, get_or, unwrap_or}
use Rattle.std.specs.List.{AllByRecursion, flat_map}
use Rattle.std.proofs.lemmas.List.{get_or_default}
use Rattle.std.proofs.lemmas.Result.{IfOk-weaker}
use Rattle.cells.specs.Runs.{pairs_of}
use Rattle.cells.specs.declared.run.Run.{Run}
use Rattle.transaction_cells.specs.Found.{found}
use Rattle.transaction_cells.specs.Needs.{IsRunIn}
use Rattle.transaction_cells.specs.Pieces.{IsPiece}
use Rattle.transaction_cells.specs.StagedWords.{word_of_pair, staged_words}
use Rattle.transaction_cells.specs.Staging.{StagedChunk, staged_of}
use Rattle.transaction_cells.specs.declared.view_cells.Piece.{Piece}
use Rattle.transaction_cells.proofs.NeedLaws.{staged_room}
use Rattle.transaction_cells.proofs.StagingLaws.{staged_found}
use Rattle.transaction_cells.proofs.WrittenLaws.{piece_in}
use Rattle.transaction_cells.proofs.staging.Staging.words_at.Goals as goal

pub words_along-requires-clause-runs : goal.words_along-requires-clause-runs
words_along-requires-clause-runs c =
    let p = c.index-items-piece.result in
    let is : p ≡ get_or c.args.cells.now.pieces c.args.piece p = c.index-items-piece.is ∙ ap (λ (ps : List Piece). get_or ps c.args.piece p) c.items.ensures in
    let piece : IsPiece c.requires.cells.sites p = subst (IsPiece c.requires.cells.sites) (sym is) (piece_in c.requires.cells.sites c.args.cells.now.pieces c.args.piece p c.requires.cells.are.pieces.each c.requires.piece) in
    let there : staged_of c.args.self.now p.id ≡ Some c.in-Some.staged.now =
    sym (ap (λ (ks : List StagedChunk). staged_of ks p.id) c.self.view_is) ∙ staged_found c.self.inside.table.entries p.id ∙ ap (λ xs. found c.self.inside.table.entries xs) (sym c.items-2.ensures) ∙ sym c.in-Some.ensures.value in
    subst (λ (rs : List Run). AllByRecursion (IsRunIn (length c.in-Some.staged.now)) rs) (sym c.items-in-Some.ensures)
    (staged_room c.requires.cells.sites c.args.self.now p c.in-Some.staged.now piece c.requires.cells.sized c.requires.cells.inside c.requires.cells.small there).0

pub words_along-requires-clause-small : goal.words_along-requires-clause-small
words_along-requires-clause-small c =
    let p = c.index-items-piece.result in
    let is : p ≡ get_or c.args.cells.now.pieces c.args.piece p = c.index-items-piece.is ∙ ap (λ (ps : List Piece). get_or ps c.args.piece p) c.items.ensures in
    let piece : IsPiece c.requires.cells.sites p = subst (IsPiece c.requires.cells.sites) (sym is) (piece_in c.requires.cells.sites c.args.cells.now.pieces c.args.piece p c.requires.cells.are.pieces.each c.requires.piece) in
    let there : staged_of c.args.self.now p.id ≡ Some c.in-Some.staged.now =
    sym (ap (λ (ks : List StagedChunk). staged_of ks p.id) c.self.view_is) ∙ staged_found c.self.inside.table.entries p.id ∙ ap (λ xs. found c.self.inside.table.entries xs) (sym c.items-2.ensures) ∙ sym c.in-Some.ensures.value in
    (staged_room c.requires.cells.sites c.args.self.now p c.in-Some.staged.now piece c.requires.cells.sized c.requires.cells.inside c.requires.cells.small there).1

pub returns-in-Some : goal.returns-in-Some
returns-in-Some c =
    let p = c.index-items-piece.result in
    let is : p ≡ get_or c.args.cells.now.pieces c.args.piece p = c.index-items-piece.is ∙ ap (λ (ps : List Piece). get_or ps c.args.piece p) c.items.ensures in
    let there : staged_of c.args.self.now p.id ≡ Some c.in-Some.staged.now =
    sym (ap (λ (ks : List StagedChunk). staged_of ks p.id) c.self.view_is) ∙ staged_found c.self.inside.table.entries p.id ∙ ap (λ xs. found c.self.inside.table.entries xs) (sym c.items-2.ensures) ∙ sym c.in-Some.ensures.value in
    IfOk-weaker c.words_along.result
    (λ words. words.items ≡ map (word_of_pair c.in-Some.staged.now) (flat_map pairs_of c.items-in-Some.result.now))
    (λ words. (d : Piece) → words.items ≡ staged_words c.args.self.now (get_or c.args.cells.now.pieces c.args.piece d))
    (λ words told. λ d.
    told
    ∙ ap (λ (rs : List Run). map (word_of_pair c.in-Some.staged.now) (flat_map pairs_of rs)) c.items-in-Some.ensures
    ∙ ap (λ (o : Option (List (Option ℕ))). map (word_of_pair (unwrap_or o [])) (flat_map pairs_of p.runs)) (sym there)
    ∙ ap (staged_words c.args.self.now) (is ∙ get_or_default c.args.cells.now.pieces c.args.piece p d c.requires.piece)) c.words_along.ensures

pub returns-in-None : goal.returns-in-None
returns-in-None c =
    let p = c.index-items-piece.result in
    let is : p ≡ get_or c.args.cells.now.pieces c.args.piece p = c.index-items-piece.is ∙ ap (λ (ps : List Piece). get_or ps c.args.piece p) c.items.ensures in
    let none : staged_of c.args.self.now p.id ≡ None =
    sym (ap (λ (ks : List StagedChunk). staged_of ks p.id) c.self.view_is) ∙ staged_found c.self.inside.table.entries p.id ∙ ap (λ xs. found c.self.inside.table.entries xs) (sym c.items-2.ensures) ∙ sym c.in-None.ensures.value in
    IfOk-weaker c.no_words.result
    (λ words. words.items ≡ map (word_of_pair []) (flat_map pairs_of c.items-in-None.result.now))
    (λ words. (d : Piece) → words.items ≡ staged_words c.args.self.now (get_or c.args.cells.now.pieces c.args.piece d))
    (λ words told. λ d.
    told
    ∙ ap (λ (rs : List Run). map (word_of_pair []) (flat_map pairs_of rs)) c.items-in-None.ensures
    ∙ ap (λ (o : Option (List (Option ℕ))). map (word_of_pair (unwrap_or o [])) (flat_map pairs_of p.runs)) (sym none)
    ∙ ap (staged_words c.args.self.now) (is ∙ get_or_default c.args.cells.now.pieces c.args.piece p d c.requires.piece)) c.no_words.ensures
