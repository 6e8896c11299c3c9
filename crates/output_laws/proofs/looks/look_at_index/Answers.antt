use Rattle.std.proofs.Common.{subst}
use Rattle.std.specs.List.{AllByRecursion}
use Rattle.output_laws.specs.Plain.{IsWhole}
use Rattle.output_laws.proofs.Plain.{indices_plain}
use Rattle.output_laws.proofs.looks.look_at_index.Goals as goal

pub returns : goal.returns
returns c =
    let whole = subst (AllByRecursion IsWhole) c.items.ensures c.look_at_all_indices.ensures in
    record { whole = whole; plain = indices_plain c.args.index.now whole }
