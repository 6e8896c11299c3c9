use Rattle.std.proofs.Common.{IsUtf8, subst}
use Rattle.std.specs.List.{AllByRecursion}
use Rattle.output_laws.proofs.looks.look_at_labels.Goals as goal

pub returns : goal.returns
returns c = subst (AllByRecursion IsUtf8) c.items.ensures c.look_at_names.ensures
