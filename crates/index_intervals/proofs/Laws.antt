-- The laws of intervals that other crates rest on.
pub use Rattle.index_intervals.proofs.MemberLemmas.{same_bounds, is_index-true, IsIndex-true, lo_infinite, hi_infinite, has_index-some, has_index-only, size-number, are_bounds-true, AreBounds-true}
pub use Rattle.index_intervals.proofs.MeetLemmas.{plain_met, met-plain, AreBounds-met, IsMember-met}
pub use Rattle.index_intervals.proofs.EndsLemmas.{IsAbove, IsBelow, IsAbove-greater, IsBelow-lesser, IsBetween-uncrossed, IsBetween-met_all, IsBetween-preimage, IsMember-interval_of, preimage-ordered, up_at, down_at, beyond_at, before_at}
pub use Rattle.index_intervals.proofs.AroundLemmas.{AreBounds-around, IsAround-fold, IsAround-around_all}
pub use Rattle.index_intervals.proofs.ShiftLemmas.{AreBounds-shifted}
pub use Rattle.index_intervals.proofs.QuotientLemmas.{IsQuotientDown-quotient_down, IsQuotientUp-quotient_up, quotient_up_least, quotient_down_greatest, add-*ℤ, neg-*ℤ, suc-*ℤ, mul_mono}
pub use Rattle.index_intervals.proofs.StrideLemmas.{AreBounds-contracted, IsMember-contracted, IsWithin-facing, IsIndex-up, IsIndex-down}
pub use Rattle.index_intervals.proofs.SlicingLemmas.{last_most, steps_up, first_at_one}
pub use Rattle.index_intervals.proofs.SlicedLemmas.{int_eq-false, int_eq-true, int_rem-slice_lo, unsigned_abs-int_div}
pub use Rattle.index_intervals.proofs.RangeLemmas.{not_negative}
pub use Rattle.index_intervals.proofs.KeepingLemmas.{slice_hi-down}
pub use Rattle.index_intervals.proofs.SliceLemmas.{AreNewBounds-sliced, KeepsPositions-sliced}
