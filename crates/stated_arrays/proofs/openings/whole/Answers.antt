use Rattle.stated_arrays.proofs.Told.{openings_of_arrays}
use Rattle.stated_arrays.proofs.openings.whole.Goals as goal

pub returns-in-Ok : goal.returns-in-Ok
returns-in-Ok c = λ said first is.
    openings_of_arrays said first c.args.lines.now c.args.arrays c.in-Ok.openings is c.requires c.in-Ok.ensures.events c.in-Ok.ensures.opened c.in-Ok.ensures.places c.in-Ok.ensures.takings
