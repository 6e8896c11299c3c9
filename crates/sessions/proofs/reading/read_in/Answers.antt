use Rattle.std.proofs.Common.{◌≡◌, length}
use Rattle.index_transform.specs.Cells.{cells_of}
use Rattle.sessions.proofs.reading.read_in.Goals as goal
use Rattle.stack_driver.specs.Views.{look_of}

pub values_body-requires-clause-words : goal.values_body-requires-clause-words
values_body-requires-clause-words g c =
    let count = c.in-Ok.ensures.read.count in
    let all = c.requires.count in
    let same : length c.in-Ok.words ≡ length (cells_of (look_of c.args.v.now).dims) = cc in
    same
