use Rattle.chunk_grid.proofs.BoxCells.{some-filled}
use Rattle.chunk_grid.proofs.ViewLaws.{ordered}
use Rattle.chunk_grid.proofs.rows.cut_rows.Goals as goal

pub cut_split-requires-clause-filled : goal.cut_split-requires-clause-filled
cut_split-requires-clause-filled c = some-filled c.args.t.now.domain.dims (ordered c.args.t.now.domain.dims c.maps.ensures.well_formed.bounds) c.requires.some
