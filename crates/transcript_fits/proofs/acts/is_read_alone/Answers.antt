use Rattle.std.proofs.Common.{◌∙◌, Some, ap}
use Rattle.transcript_fits.proofs.acts.is_read_alone.Goals as goal

pub returns-in-Some : goal.returns-in-Some
returns-in-Some c = λ yes.
    let alone = c.is_alone.ensures yes in
    record { view = alone.0.0; read = c.in-Some.is ∙ ap Some alone.0.1; alone = alone.1 }
