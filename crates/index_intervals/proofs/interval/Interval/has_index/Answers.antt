use Rattle.std.proofs.Common.{◌∙◌, sym}
use Rattle.index_intervals.proofs.MemberLemmas.{has_index-some, has_index-only}
use Rattle.index_intervals.proofs.interval.Interval.has_index.Goals as goal

pub returns-clause-some : goal.returns-clause-some
returns-clause-some c = λ e. has_index-some c.args.self.now c.is_open_or_ordered.ensures.bounds (sym c.is_open_or_ordered.ensures.value ∙ e)

pub returns-clause-only : goal.returns-clause-only
returns-clause-only c = λ x m. c.is_open_or_ordered.ensures.value ∙ has_index-only c.args.self.now x m
