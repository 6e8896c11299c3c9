use Rattle.std.proofs.Common.{◌≡◌, ◌∙◌, ℕ, List, sym, ap, subst, arith, length, map, replicate}
use Rattle.std.proofs.lemmas.List.{length-replicate}
use Rattle.transaction_cells.specs.Found.{found}
use Rattle.transaction_cells.specs.Gathered.{FitPieces, pieces_gathered, taken_out, kept_word}
use Rattle.transaction_cells.specs.Staging.{StagedChunk, staged_of}
use Rattle.transaction_cells.specs.declared.view_cells.Piece.{Piece}
use Rattle.transaction_cells.proofs.GatherLaws.{all_gathered, cell_gathered, each_site, kept_words_of, out_words}
use Rattle.transaction_cells.proofs.ShownLaws.{pieces_fit}
use Rattle.transaction_cells.proofs.StagingLaws.{staged_found}
use Rattle.transaction_cells.proofs.WrittenLaws.{count_of}
use Rattle.transaction_cells.proofs.gathering.show.Goals as goal

pub fill-requires : goal.fill-requires
fill-requires c =
    let sites = c.requires.cells.sites in
    let table = c.staging.inside.table.entries in
    let staged : (id : List ℕ) → staged_of c.args.staging.now id ≡ found table id = λ id. sym (ap (λ (ks : List StagedChunk). staged_of ks id) c.staging.view_is) ∙ staged_found table id in
    let long = ap (λ (xs : List ℕ). length xs) c.requires.zeros ∙ length-replicate (length c.args.cells.now.leaves) 0 in
    let count = c.requires.cells.counted in
    subst (λ (ps : List Piece). FitPieces (found table) (length c.args.out.now) ps c.args.chunks.now) (sym c.items.ensures)
    (pieces_fit sites c.args.staging.now (length c.args.out.now) (omega (arith, long, count)) c.requires.cells.sized c.requires.cells.inside (found table) c.args.cells.now.pieces c.args.chunks.now staged c.requires.cells.are.pieces.each c.requires.chunks)

pub returns : goal.returns
returns c sites are =
    let table = c.staging.inside.table.entries in
    let pieces = c.args.cells.now.pieces in
    let chunks = c.args.chunks.now in
    let staged : (id : List ℕ) → found table id ≡ staged_of c.args.staging.now id = λ id. sym (staged_found table id) ∙ ap (λ (ks : List StagedChunk). staged_of ks id) c.staging.view_is in
    let count = count_of sites c.args.cells.now.lanes c.args.cells.now.leaves are.casts in
    let zeros : c.args.out.now ≡ replicate (length sites) 0 = c.requires.zeros ∙ ap (λ n. replicate n 0) (sym count) in
    let long : length c.args.out.now ≡ length sites = ap (λ (xs : List ℕ). length xs) zeros ∙ length-replicate (length sites) 0 in
    let filled : c.fill.new.out ≡ map (kept_word c.args.staging.now pieces chunks) sites =
    c.fill.ensures ∙ ap (λ (ps : List Piece). pieces_gathered (found table) ps chunks c.args.out.now) c.items.ensures
    ∙ all_gathered (found table) sites pieces chunks c.args.out.now are.pieces.each long
    ∙ ap (each_site (cell_gathered (found table) pieces chunks) sites) zeros
    ∙ kept_words_of (found table) sites sites c.args.staging.now pieces chunks staged are.pieces.sorted c.requires.chunks are.pieces.all in
    c.out.ensures ∙ ap (taken_out c.args.cells.now.lanes c.args.cells.now.leaves) filled
    ∙ out_words c.args.staging.now pieces chunks sites c.args.cells.now.lanes c.args.cells.now.leaves are.casts
