use Rattle.std.proofs.Common.{◌≡◌, ◌∙◌, ℕ, List, [], get_or, ap}
use Rattle.history.specs.Arrays.{known_after}
use Rattle.transaction_cells.specs.declared.view_cells.Piece.{Piece}
use Rattle.read_fits.proofs.fetches.is_fetched_piece.Goals as goal

abbrev none : Piece
none = record { id = []; size = 0; runs = [] }

pub is_stored-requires-clause-known : goal.is_stored-requires-clause-known
is_stored-requires-clause-known c =
    let known = c.requires.known none in
    let number : c.array_in.result ≡ get_or (get_or c.args.cells.now.pieces c.args.at none).id 0 0 = c.array_in.ensures ∙ ap (λ (id : List ℕ). get_or id 0 0) (c.id_at-id.ensures none) in
    (known.0, ap (known_after c.args.openings.now.events) number ∙ known.1)
