use Rattle.std.proofs.Common.{◌≡◌, ◌∙◌, ℕ, List, sym, ap, subst, arith, length}
use Rattle.cells.specs.Written.{words_seen}
use Rattle.transaction_cells.specs.Found.{found}
use Rattle.transaction_cells.specs.Staging.{StagedChunk, staged_of, written_at}
use Rattle.transaction_cells.specs.Tables.{prepared, pieces_written, MayWrite}
use Rattle.transaction_cells.specs.declared.view_cells.Piece.{Piece}
use Rattle.transaction_cells.proofs.StagingLaws.{staged_found}
use Rattle.transaction_cells.proofs.WrittenLaws.{staged_is, may_stage, kept_words, count_of, sized_cells, same_words, on_err_of}
use Rattle.transaction_cells.proofs.staging.Staging.stage_kept.Goals as goal

pub returns-in_err-prepare-clause-err : goal.returns-in_err-prepare-clause-err
returns-in_err-prepare-clause-err c =
    on_err_of c.from_residual.result (λ id place. same_words c.self.inside.table.entries c.prepare.new.table.entries c.args.self.now id place c.self.view_is (c.in_err-prepare.ensures.words id))

pub write-requires : goal.write-requires
write-requires c id =
    let pieces = c.args.cells.now.pieces in
    let sites = c.requires.sites in
    let old = c.self.inside.table.entries in
    let count = c.requires.counted in
    let held : found c.prepare.new.table.entries id ≡ prepared pieces id (found old id) = c.in_ok-prepare.ensures.ok id ∙ ap (λ (ps : List Piece). prepared ps id (found old id)) c.items-pieces.ensures in
    subst (λ (ws : List ℕ). MayWrite c.items-pieces.result.now id (length ws) (found c.prepare.new.table.entries id)) (sym c.looked_at.ensures)
    (subst (λ (ps : List Piece). MayWrite ps id (length (words_seen c.args.kept)) (found c.prepare.new.table.entries id)) (sym c.items-pieces.ensures)
    (subst (MayWrite pieces id (length (words_seen c.args.kept))) (sym held)
    (may_stage sites pieces pieces (length (words_seen c.args.kept)) id (found old id) c.requires.are.pieces.sorted (λ p h. h) c.requires.are.pieces.each (omega (arith, count)) c.requires.inside
    (sized_cells old c.args.self.now id sites c.self.view_is c.requires.sized))))

pub returns-clause-ok : goal.returns-clause-ok
returns-clause-ok c sites are words is long id =
    let pieces = c.args.cells.now.pieces in
    let old = c.self.inside.table.entries in
    let kept = is ∙ kept_words sites c.args.cells.now.lanes c.args.cells.now.leaves words are.casts in
    let one = count_of sites c.args.cells.now.lanes c.args.cells.now.leaves are.casts in
    let other = count_of c.requires.sites c.args.cells.now.lanes c.args.cells.now.leaves c.requires.are.casts in
    let words_count = c.requires.counted in
    staged_found c.write.new.table.entries id
    ∙ c.write.ensures id
    ∙ ap (λ (ws : List ℕ). pieces_written c.items-pieces.result.now id ws (found c.prepare.new.table.entries id)) c.looked_at.ensures
    ∙ ap (λ (ps : List Piece). pieces_written ps id (words_seen c.args.kept) (found c.prepare.new.table.entries id)) c.items-pieces.ensures
    ∙ ap (pieces_written pieces id (words_seen c.args.kept)) (c.in_ok-prepare.ensures.ok id ∙ ap (λ (ps : List Piece). prepared ps id (found old id)) c.items-pieces.ensures)
    ∙ staged_is sites pieces words (words_seen c.args.kept) id (found old id) are.pieces (omega (arith, one, other, words_count, long)) kept
    ∙ ap (written_at id sites words) (sym (staged_found old id) ∙ ap (λ (chunks : List StagedChunk). staged_of chunks id) c.self.view_is)
