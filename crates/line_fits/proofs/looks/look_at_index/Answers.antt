use Rattle.std.proofs.Common.{subst}
use Rattle.std.specs.List.{AllByRecursion}
use Rattle.line_fits.specs.Plain.{IsWhole}
use Rattle.line_fits.proofs.Plain.{indices_plain}
use Rattle.line_fits.proofs.looks.look_at_index.Goals as goal

pub returns : goal.returns
returns c =
    let whole = subst (AllByRecursion IsWhole) c.items.ensures c.look_at_all_indices.ensures in
    record { whole = whole; plain = indices_plain c.args.index.now whole }
