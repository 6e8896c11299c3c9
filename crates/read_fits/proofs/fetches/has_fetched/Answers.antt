use Rattle.std.proofs.Common.{◌≡◌, List, length, true, false, ap, arith}
use Rattle.transaction_cells.specs.declared.view_cells.Piece.{Piece}
use Rattle.read_fits.proofs.FetchLaws.{no_piece}
use Rattle.read_fits.proofs.fetches.has_fetched.Goals as goal

pub returns : goal.returns
returns c = (
  λ so. absurd (let clash : false ≡ true = so in cc),
  λ found.
      let long = ap (λ (ps : List Piece). length ps) c.items-i-end.ensures in
      let past = c.loop-i-test.false in
      let low = found.1 in
      absurd (c.loop-i.invariant found.0 no_piece (omega (arith, long, past, low)) (found.2 no_piece)),
)
