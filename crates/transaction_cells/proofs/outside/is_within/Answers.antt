use Rattle.std.proofs.Common.{◌∙◌, sym, arith}
use Rattle.transaction_cells.proofs.OutsideLaws.{last_within, places_within}
use Rattle.transaction_cells.proofs.outside.is_within.Goals as goal

pub returns : goal.returns
returns c within place below =
    let shape = c.args.shape.now in
    let chunk = c.args.chunk.now in
    let index = c.args.index.now in
    places_within shape chunk index c.requires (sym c.loop-k.invariant ∙ last_within shape chunk index c.requires c.loop-k.k (let done = c.loop-k-test.false in omega (arith, done))) place below
