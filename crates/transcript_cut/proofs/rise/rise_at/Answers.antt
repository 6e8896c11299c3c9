use Rattle.std.proofs.Common.{refl}
use Rattle.transcript_cut.proofs.rise.rise_at.Goals as goal

pub returns-in-Up : goal.returns-in-Up
returns-in-Up c = (c.in-Up.next, c.in-Up.ensures, refl)

pub returns-in-Down : goal.returns-in-Down
returns-in-Down c = c.in-Down.ensures
