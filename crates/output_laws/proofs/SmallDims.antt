-- Bounds stay near under what is done with one dimension.
use Rattle.std.proofs.Common.{◌≡◌, ◌≢◌, ℕ, zero, suc, ℤ, pos, negsuc, neg_ℤ, ◌+ℤ◌, ◌-ℤ◌, ◌≤ℤ◌, ◌<ℤ◌, Bool, true, false, cond, not, ◌&&◌, ◌||◌, List, [], ◌∷◌, fold, Option, Some, None, unwrap_or, Result, Ok, Err, refl, sym, subst, arith, unsigned_abs}
use Rattle.std.specs.Int.{is_negative}
use Rattle.std.specs.Int.RustNames.{int_lt}
use Rattle.std.specs.List.{AllByRecursion}
use Rattle.std.specs.Option.{ForSome}
use Rattle.std.specs.Ordering.{int_eq}
use Rattle.std.proofs.lemmas.Int.{ints, clamps}
use Rattle.index_intervals.specs.Around.{around, around_all}
use Rattle.index_intervals.specs.Bounds.{Bounds, IsIndex, is_index, minus_infinity, plus_infinity}
use Rattle.index_intervals.specs.Edges.{interval_of}
use Rattle.index_intervals.specs.Shift.{moved, shifted}
use Rattle.index_intervals.specs.Slice.{slice_start, slice_stop, slice_lo, slice_hi, is_open, is_backward, is_inside, kept_part, sliced}
use Rattle.index_intervals.specs.Stride.{quotient_down, quotient_up, mirrored, facing, strided}
use Rattle.index_intervals.specs.declared.edge.Edge.{Edge}
use Rattle.index_intervals.specs.declared.slice.Sliced.{Sliced}
use Rattle.index_intervals.specs.declared.slice.SliceError.{SliceError}
use Rattle.index_intervals.proofs.Laws.{is_index-true}
use Rattle.index_intervals.proofs.QuotientLemmas.{IsQuotientDown-quotient_down, IsQuotientUp-quotient_up}
use Rattle.index_intervals.proofs.StrideLemmas.{IsIndex-up, IsIndex-down}
use Rattle.index_intervals.proofs.RangeLemmas.{not_negative}
use Rattle.index_intervals.proofs.SlicedLemmas.{unsigned_abs-int_div, int_eq-true}
use Rattle.index_intervals.proofs.SlicingLemmas.{last_most}
use Rattle.index_intervals.proofs.KeepingLemmas.{slice_hi-down}
use Rattle.output_laws.specs.Small.{IsNear, IsSmallDim}

pub index_near : (x : ℤ) → IsIndex x → IsNear x
index_near x is = record { from_least = omega (arith, ints, is.above); to_greatest = omega (arith, ints, is.below) }

pub true_near : (x : ℤ) → is_index x ≡ true → IsNear x
true_near x is = index_near x (is_index-true x is)

-- ---- moved

can_stay : (a b : Bool) → (not a || b) ≡ true → a ≡ true → b ≡ true
can_stay true b e is = e
can_stay false b e is = absurd (cc)

moved_near : (by x : ℤ) → (not (is_index x) || is_index (x +ℤ by)) ≡ true → IsNear x → IsNear (moved by x)
moved_near by x can near = go (is_index x) refl
  where
    go : (t : Bool) → is_index x ≡ t → IsNear (cond t (x +ℤ by) x)
    go true is = true_near (x +ℤ by) (can_stay (is_index x) (is_index (x +ℤ by)) can is)
    go false is = near

pub shifted_small : (dim : Bounds) (by : ℤ) → IsSmallDim dim → (not (is_index dim.lo) || is_index (dim.lo +ℤ by)) ≡ true → (not (is_index dim.hi) || is_index (dim.hi +ℤ by)) ≡ true → IsSmallDim (shifted dim by)
shifted_small dim by small low high = record { lo = moved_near by dim.lo low small.lo; hi = moved_near by dim.hi high small.hi }

-- ---- strided

negated_near : (x : ℤ) → IsNear x → IsNear (neg_ℤ x)
negated_near x near = record { from_least = omega (arith, ints, near.to_greatest); to_greatest = omega (arith, ints, near.from_least) }

facing_small : (dim : Bounds) (s : ℤ) → IsSmallDim dim → IsSmallDim (facing dim s)
facing_small dim s small = go (is_negative s)
  where
    go : (t : Bool) → IsSmallDim (cond t (mirrored dim) dim)
    go true = record { lo = negated_near dim.hi small.hi; hi = negated_near dim.lo small.lo }
    go false = small

up_near : (x n : ℤ) → pos 0 <ℤ n → IsNear x → IsNear (cond (is_index x) (quotient_up x n) x)
up_near x n some near = go (is_index x) refl
  where
    go : (t : Bool) → is_index x ≡ t → IsNear (cond t (quotient_up x n) x)
    go true is = index_near (quotient_up x n) (IsIndex-up x n (quotient_up x n) some (IsQuotientUp-quotient_up x n some) (is_index-true x is))
    go false is = near

down_near : (x n : ℤ) → pos 0 <ℤ n → IsNear x → IsNear (cond (is_index x) (quotient_down x n) x)
down_near x n some near = go (is_index x) refl
  where
    go : (t : Bool) → is_index x ≡ t → IsNear (cond t (quotient_down x n) x)
    go true is = index_near (quotient_down x n) (IsIndex-down x n (quotient_down x n) some (IsQuotientDown-quotient_down x n some) (is_index-true x is))
    go false is = near

size_some : (s : ℤ) → s ≢ pos 0 → pos 0 <ℤ pos (unsigned_abs s)
size_some (pos zero) other = absurd (other refl)
size_some (pos (suc k)) other = omega (arith, ints)
size_some (negsuc k) other = omega (arith, ints)

pub strided_small : (dim : Bounds) (s : ℤ) → IsSmallDim dim → s ≢ pos 0 → IsSmallDim (strided dim s)
strided_small dim s small other =
    let b = facing_small dim s small in
    record { lo = up_near (facing dim s).lo (pos (unsigned_abs s)) (size_some s other) b.lo; hi = down_near (facing dim s).hi (pos (unsigned_abs s)) (size_some s other) b.hi }

-- ---- sliced

-- a number that a stop may be: at most 2^63 from 0
record IsPast (z : ℤ) : Type 0 where
  from_least : negsuc 9223372036854775807 ≤ℤ z
  to_greatest : z ≤ℤ pos 9223372036854775808

start_near : (dim : Bounds) (start : Option ℤ) (step : ℤ) → IsSmallDim dim → ForSome start IsIndex → IsNear (slice_start dim start step)
start_near dim (Some x) step small index = index_near x (index x refl)
start_near dim None step small index = go (is_negative step)
  where
    go : (t : Bool) → IsNear (cond t dim.hi dim.lo)
    go true = small.hi
    go false = small.lo

stop_past : (dim : Bounds) (stop : Option ℤ) (step : ℤ) → IsSmallDim dim → ForSome stop IsIndex → IsPast (slice_stop dim stop step)
stop_past dim (Some x) step small index = let is = index x refl in record { from_least = omega (arith, ints, is.above); to_greatest = omega (arith, ints, is.below) }
stop_past dim None step small index = go (is_negative step)
  where
    go : (t : Bool) → IsPast (cond t (dim.lo -ℤ pos 1) (dim.hi +ℤ pos 1))
    go true = record { from_least = omega (arith, ints, small.lo.from_least); to_greatest = omega (arith, ints, small.lo.to_greatest) }
    go false = record { from_least = omega (arith, ints, small.hi.from_least); to_greatest = omega (arith, ints, small.hi.to_greatest) }

quotient_near : (from step : ℤ) → IsNear from → IsNear (slice_lo step from)
quotient_near from step near =
    let less = unsigned_abs-int_div from step in
    record { from_least = omega (arith, ints, near.from_least, near.to_greatest, less); to_greatest = omega (arith, ints, near.from_least, near.to_greatest, less) }

abbrev Slices : Type 0
Slices = Result Sliced SliceError

past : (t : Bool) (e : SliceError) (r : Slices) (s : Sliced) → cond t (Err e) r ≡ Ok s → (t ≡ false) × (r ≡ Ok s)
past true e r s is = absurd (cc)
past false e r s is = (refl, is)

-- what there is where a slice is made
record IsMade (dim : Bounds) (start stop : Option ℤ) (step : ℤ) (s : Sliced) : Type 0 where
  nonzero : int_eq step (pos 0) ≡ false
  forward : is_backward step (slice_start dim start step) (slice_stop dim stop step) ≡ false
  above : int_lt minus_infinity (slice_hi step (slice_start dim start step) (slice_stop dim stop step)) ≡ true
  parts : kept_part dim start stop step ≡ s

made_of : (dim : Bounds) (start stop : Option ℤ) (step : ℤ) (s : Sliced) → sliced dim start stop step ≡ Ok s → IsMade dim start stop step s
made_of dim start stop step s is =
    let a = past (int_eq step (pos 0)) _ _ s is in
    let b = past (is_open dim start stop step) _ _ s a.1 in
    let c = past (is_backward step (slice_start dim start step) (slice_stop dim stop step)) _ _ s b.1 in
    let from = slice_start dim start step in
    let to = slice_stop dim stop step in
    let d = tested (is_inside dim step from to) (int_lt minus_infinity (slice_hi step from to)) _ (kept_part dim start stop step) c.1 in
    record { nonzero = a.0; forward = c.0; above = d.0; parts = d.1 }
  where
    tested : (p q : Bool) (e : SliceError) (made : Sliced) → cond (p && q) (Ok made) (Err e) ≡ Ok s → (q ≡ true) × (made ≡ s)
    tested true true e made given = (refl, cc)
    tested true false e made given = absurd (cc)
    tested false q e made given = absurd (cc)

hi_near : (z : ℤ) → int_lt minus_infinity z ≡ true → z ≤ℤ pos 9223372036854775807 → IsNear z
hi_near z above most = let low : minus_infinity <ℤ z = grind (arith, ints, above) in record { from_least = omega (arith, ints, low); to_greatest = most }

not_below : (a b : ℤ) → int_lt a b ≡ false → b ≤ℤ a
not_below a b is = grind (arith, ints, is)

is_below : (k : ℕ) → is_negative (negsuc k) ≡ true
is_below k = grind (arith, ints)

up_small : (dim : Bounds) (start stop : Option ℤ) (k : ℕ) → IsSmallDim dim → ForSome start IsIndex → ForSome stop IsIndex
    → is_backward (pos (suc k)) (slice_start dim start (pos (suc k))) (slice_stop dim stop (pos (suc k))) ≡ false
    → slice_hi (pos (suc k)) (slice_start dim start (pos (suc k))) (slice_stop dim stop (pos (suc k))) ≤ℤ pos 9223372036854775807
up_small dim start stop k small first last forward =
    let from = slice_start dim start (pos (suc k)) in
    let to = slice_stop dim stop (pos (suc k)) in
    let end = stop_past dim stop (pos (suc k)) small last in
    let ordered : from ≤ℤ to = not_below to from (ordered_of (int_lt from to) (int_lt to from) (is_negative (pos (suc k))) (not_negative (suc k)) forward) in
    last_most from to (pos 9223372036854775807) k ordered (omega (arith, ints, end.to_greatest)) (omega (arith, ints))
  where
    ordered_of : (a b t : Bool) → t ≡ false → cond t a b ≡ false → b ≡ false
    ordered_of a b true is e = absurd (cc)
    ordered_of a b false is e = e

down_small : (dim : Bounds) (start stop : Option ℤ) (k : ℕ) → IsSmallDim dim → ForSome start IsIndex → ForSome stop IsIndex
    → is_backward (negsuc k) (slice_start dim start (negsuc k)) (slice_stop dim stop (negsuc k)) ≡ false
    → slice_hi (negsuc k) (slice_start dim start (negsuc k)) (slice_stop dim stop (negsuc k)) ≤ℤ pos 9223372036854775807
down_small dim start stop k small first last forward =
    let from = slice_start dim start (negsuc k) in
    let to = slice_stop dim stop (negsuc k) in
    let end = stop_past dim stop (negsuc k) small last in
    let ordered : to ≤ℤ from = not_below from to (ordered_of (int_lt from to) (int_lt to from) (is_negative (negsuc k)) (is_below k) forward) in
    subst (λ z. z ≤ℤ pos 9223372036854775807) (sym (slice_hi-down k from to))
    (last_most (neg_ℤ from) (neg_ℤ to) (pos 9223372036854775807) k (omega (arith, ints, ordered)) (omega (arith, ints, end.from_least)) (omega (arith, ints)))
  where
    ordered_of : (a b t : Bool) → t ≡ true → cond t a b ≡ false → a ≡ false
    ordered_of a b true is e = e
    ordered_of a b false is e = absurd (cc)

pub sliced_small : (dim : Bounds) (start stop : Option ℤ) (step : ℤ) (s : Sliced) → IsSmallDim dim → ForSome start IsIndex → ForSome stop IsIndex → sliced dim start stop step ≡ Ok s → IsSmallDim s.interval
sliced_small dim start stop step s small first last is =
    let m = made_of dim start stop step s is in
    subst (λ (x : Sliced). IsSmallDim x.interval) m.parts (record {
      lo = quotient_near (slice_start dim start step) step (start_near dim start step small first);
      hi = hi_near _ m.above (most step m.nonzero m.forward);
    })
  where
    most : (st : ℤ) → int_eq st (pos 0) ≡ false → is_backward st (slice_start dim start st) (slice_stop dim stop st) ≡ false
        → slice_hi st (slice_start dim start st) (slice_stop dim stop st) ≤ℤ pos 9223372036854775807
    most (pos zero) nonzero forward = let zero_is = int_eq-true (pos 0) (pos 0) refl in absurd (cc)
    most (pos (suc k)) nonzero forward = up_small dim start stop k small first last forward
    most (negsuc k) nonzero forward = down_small dim start stop k small first last forward

-- ---- between two edges, and around several

pub between_small : (lower upper : Edge) → ForSome lower.at IsIndex → ForSome upper.at IsIndex → IsSmallDim (interval_of lower upper)
between_small lower upper first last =
    let low = edge_of lower.at minus_infinity first (omega (arith, ints)) (omega (arith, ints)) in
    let high = edge_of upper.at plus_infinity last (omega (arith, ints)) (omega (arith, ints)) in
    record { lo = wide (unwrap_or lower.at minus_infinity) low; hi = crossed (int_lt (unwrap_or upper.at plus_infinity +ℤ pos 1) (unwrap_or lower.at minus_infinity)) (unwrap_or lower.at minus_infinity) (unwrap_or upper.at plus_infinity) low high }
  where
    edge_of : (o : Option ℤ) (d : ℤ) → ForSome o IsIndex → minus_infinity ≤ℤ d → d ≤ℤ plus_infinity → (minus_infinity ≤ℤ unwrap_or o d) × (unwrap_or o d ≤ℤ plus_infinity)
    edge_of None d index low high = (low, high)
    edge_of (Some x) d index low high = let is = index x refl in (omega (arith, ints, is.above), omega (arith, ints, is.below))

    wide : (x : ℤ) → (minus_infinity ≤ℤ x) × (x ≤ℤ plus_infinity) → IsNear x
    wide x both = record { from_least = omega (arith, ints, both.0); to_greatest = omega (arith, ints, both.1) }

    crossed : (t : Bool) (x y : ℤ) → (minus_infinity ≤ℤ x) × (x ≤ℤ plus_infinity) → (minus_infinity ≤ℤ y) × (y ≤ℤ plus_infinity) → IsNear (cond t (x -ℤ pos 1) y)
    crossed true x y low high = record { from_least = omega (arith, ints, low.0); to_greatest = omega (arith, ints, low.1) }
    crossed false x y low high = wide y high

around_small : (a b : Bounds) → IsSmallDim a → IsSmallDim b → IsSmallDim (around a b)
around_small a b one two =
    let al = one.lo.from_least in
    let ah = one.lo.to_greatest in
    let bl = two.lo.from_least in
    let bh = two.lo.to_greatest in
    let cl = one.hi.from_least in
    let ch = one.hi.to_greatest in
    let dl = two.hi.from_least in
    let dh = two.hi.to_greatest in
    record {
      lo = record { from_least = omega (arith, ints, clamps); to_greatest = omega (arith, ints, clamps) };
      hi = record { from_least = omega (arith, ints, clamps); to_greatest = omega (arith, ints, clamps) };
    }

pub all_around_small : (dims : List Bounds) → AllByRecursion IsSmallDim dims → IsSmallDim (around_all dims)
all_around_small [] all = record { lo = record { from_least = omega (arith, ints); to_greatest = omega (arith, ints) }; hi = record { from_least = omega (arith, ints); to_greatest = omega (arith, ints) } }
all_around_small (dim ∷ dims) all = go dims dim all.0 all.1
  where
    go : (more : List Bounds) (b : Bounds) → IsSmallDim b → AllByRecursion IsSmallDim more → IsSmallDim (fold around b more)
    go [] b one rest = one
    go (d ∷ more) b one rest = go more (around b d) (around_small b d one rest.0) rest.1
