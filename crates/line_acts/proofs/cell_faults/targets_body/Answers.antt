use Rattle.history.specs.Answers as body
use Rattle.line_acts.proofs.FaultLaws.{counted_view, out_of_range_fault, refused_by_cell, told_out_of_range, told_uncovered, uncovered_fault}
use Rattle.line_acts.proofs.cell_faults.targets_body.Goals as goal

pub cell_at-requires-clause-finite : goal.cell_at-requires-clause-finite
cell_at-requires-clause-finite c = (counted_view c.args.v.now c.requires.counted.0 c.requires.counted.1).0

pub cell_at-requires-clause-below : goal.cell_at-requires-clause-below
cell_at-requires-clause-below c =
    let arm = c.in-OutOfRange in
    (out_of_range_fault c.args.v.now arm.cell arm.dim (told_out_of_range c.args.v.now c.args.e arm.cell arm.dim arm.is c.requires.fault)).0

pub cell_at-requires-in-Uncovered-clause-finite : goal.cell_at-requires-in-Uncovered-clause-finite
cell_at-requires-in-Uncovered-clause-finite c = (counted_view c.args.v.now c.requires.counted.0 c.requires.counted.1).0

pub cell_at-requires-in-Uncovered-clause-below : goal.cell_at-requires-in-Uncovered-clause-below
cell_at-requires-in-Uncovered-clause-below c =
    let arm = c.in-Uncovered in
    (uncovered_fault c.args.v.now arm.cell (told_uncovered c.args.v.now c.args.e arm.cell arm.is c.requires.fault)).0

pub returns-in-Ok : goal.returns-in-Ok
returns-in-Ok c =
    let arm = c.in-OutOfRange in
    refused_by_cell c.args.v.now (body.out_of_range c.in-Ok.cell arm.dim)
    ((out_of_range_fault c.args.v.now arm.cell arm.dim (told_out_of_range c.args.v.now c.args.e arm.cell arm.dim arm.is c.requires.fault)).1 c.in-Ok.cell c.in-Ok.ensures)

pub returns-in-Ok-cell_at : goal.returns-in-Ok-cell_at
returns-in-Ok-cell_at c =
    let arm = c.in-Uncovered in
    refused_by_cell c.args.v.now (body.uncovered c.in-Ok-cell_at.cell) ((uncovered_fault c.args.v.now arm.cell (told_uncovered c.args.v.now c.args.e arm.cell arm.is c.requires.fault)).1 c.in-Ok-cell_at.cell c.in-Ok-cell_at.ensures)
