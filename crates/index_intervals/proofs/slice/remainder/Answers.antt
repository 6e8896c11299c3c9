use Rattle.std.proofs.Common.{◌∙◌}
use Rattle.std.proofs.lemmas.Int.{rem_is}
use Rattle.std.specs.Int.{w64}
use Rattle.index_intervals.proofs.SlicedLemmas.{int_rem-slice_lo}
use Rattle.index_intervals.proofs.slice.remainder.Goals as goal

pub returns : goal.returns
returns c =
    rem_is w64 c.args.from c.args.step c.ranges.from c.ranges.step
    ∙ int_rem-slice_lo c.args.step c.args.from
