use Rattle.std.proofs.Common.{IsUtf8, subst}
use Rattle.output_laws.proofs.looks.look_at_name.Goals as goal

pub returns : goal.returns
returns c = subst IsUtf8 c.items.ensures c.look_at_text.ensures
