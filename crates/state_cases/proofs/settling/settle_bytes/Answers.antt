use Rattle.std.proofs.Common.{refl}
use Rattle.state_cases.proofs.settling.settle_bytes.Goals as goal

pub decoded-requires-clause-stored : goal.decoded-requires-clause-stored
decoded-requires-clause-stored g c = c.requires.ready.usable.stored

pub decoded-requires-clause-fill : goal.decoded-requires-clause-fill
decoded-requires-clause-fill g c = c.requires.ready.usable.fill

pub settle_cells-requires-clause-ready : goal.settle_cells-requires-clause-ready
settle_cells-requires-clause-ready g c =
    let r = c.requires.ready in
    record {
      ready = r.ready;
      may = r.usable.settles (record { generation = c.args.generation; cells = c.in-Ok.cells }) (record { same = refl; dtype = c.in-Ok.ensures.dtype; shape = c.in-Ok.ensures.shape; words = c.in-Ok.ensures.words });
    }

pub returns-in-Err : goal.returns-in-Err
returns-in-Err g c = c.requires.ready.ready
