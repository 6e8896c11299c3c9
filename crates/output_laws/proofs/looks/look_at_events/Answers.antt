use Rattle.std.proofs.Common.{sym, subst}
use Rattle.output_laws.specs.Plain.{AreSmall}
use Rattle.output_laws.proofs.looks.look_at_events.Goals as goal

pub returns-in-None : goal.returns-in-None
returns-in-None c = subst AreSmall (sym c.in-None.is) tt

pub returns-in-Some : goal.returns-in-Some
returns-in-Some c = subst AreSmall (sym c.in-Some.is) c.look_at_numbers.ensures.small
