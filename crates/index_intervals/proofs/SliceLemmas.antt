-- The law of a slice whose first tests have passed.
use Rattle.std.proofs.Common.{◌≡◌, ◌≢◌, ◌≤ℤ◌, zero, suc, ℤ, pos, negsuc, ◌-ℤ◌, ◌*ℤ◌, Bool, true, false, ◌&&◌, Ok, Err, refl, arith, Option}
use Rattle.std.proofs.lemmas.Int.{ints, by_lt_z}
use Rattle.index_intervals.specs.Bounds.{Bounds, AreBounds, minus_infinity}
use Rattle.index_intervals.specs.Slice.{slice_start, slice_stop, slice_lo, slice_hi, keeps_flag, cut, sliced, is_open, is_backward, is_inside, IsNearIndex, IsInOrder, KeepsPositions, kept_part}
use Rattle.std.specs.Int.RustNames.{int_lt}
use Rattle.index_intervals.specs.Members.{effective_lo, effective_hi}
use Rattle.index_intervals.specs.declared.slice.Sliced.{Sliced}
use Rattle.index_intervals.specs.declared.slice.SliceError.TheVariants.{BadOrder, OutOfRange}
use Rattle.index_intervals.proofs.SlicedLemmas.{int_eq-false}
use Rattle.index_intervals.proofs.SlicingLemmas.{AreNewBounds, AreNewBounds-of}
use Rattle.index_intervals.proofs.RangeLemmas.{IsRange-up, IsRange-down}
use Rattle.index_intervals.proofs.KeepingLemmas.{KeepsPositions-up, KeepsPositions-down, slice_lo-down, slice_hi-down}

pub AreNewBounds-sliced : (b : Bounds) (start stop : Option ℤ) (step : ℤ) → AreBounds b → IsInOrder b start stop step
    → AreNewBounds (slice_lo step (slice_start b start step)) (slice_hi step (slice_start b start step) (slice_stop b stop step))
AreNewBounds-sliced b start stop (pos zero) a p = absurd (p.nonzero refl)
AreNewBounds-sliced b start stop (pos (suc k)) a p =
    AreNewBounds-of _ _ k (IsRange-up b start stop k a p.start_index p.stop_index p.closed p.forward)
AreNewBounds-sliced b start stop (negsuc k) a p =
    let n = AreNewBounds-of _ _ k (IsRange-down b start stop k a p.start_index p.stop_index p.closed p.forward) in
    let from = slice_start b start (negsuc k) in
    let to = slice_stop b stop (negsuc k) in
    let l = slice_lo-down k from in
    let h = slice_hi-down k from to in
    record {
      lo_from = omega (arith, ints, n.lo_from);
      lo_below = omega (arith, ints, n.lo_below);
      hi_from = omega (arith, ints, n.hi_from);
      hi_to = omega (arith, ints, n.hi_to);
      ordered = omega (arith, ints, n.ordered);
    }

pub KeepsPositions-sliced : (b : Bounds) (start stop : Option ℤ) (step : ℤ) → AreBounds b → IsInOrder b start stop step
    → is_inside b step (slice_start b start step) (slice_stop b stop step) ≡ true
    → KeepsPositions b start stop step (kept_part b start stop step)
KeepsPositions-sliced b start stop (pos zero) a p i = absurd (p.nonzero refl)
KeepsPositions-sliced b start stop (pos (suc k)) a p i =
    KeepsPositions-up b start stop k (IsRange-up b start stop k a p.start_index p.stop_index p.closed p.forward) i
KeepsPositions-sliced b start stop (negsuc k) a p i =
    KeepsPositions-down b start stop k (IsRange-down b start stop k a p.start_index p.stop_index p.closed p.forward) i

-- the start and the stop are at most one past an infinity
pub IsNearIndex-start : (b : Bounds) (start stop : Option ℤ) (step : ℤ) → AreBounds b → IsInOrder b start stop step
    → IsNearIndex (slice_start b start step)
IsNearIndex-start b start stop (pos zero) a p = absurd (p.nonzero refl)
IsNearIndex-start b start stop (pos (suc k)) a p =
    let r = IsRange-up b start stop k a p.start_index p.stop_index p.closed p.forward in
    record { above = omega (arith, ints, r.from_least); below = omega (arith, ints, r.from_below) }
IsNearIndex-start b start stop (negsuc k) a p =
    let r = IsRange-down b start stop k a p.start_index p.stop_index p.closed p.forward in
    record { above = omega (arith, ints, r.from_below); below = omega (arith, ints, r.from_least) }

pub IsNearIndex-stop : (b : Bounds) (start stop : Option ℤ) (step : ℤ) → AreBounds b → IsInOrder b start stop step
    → IsNearIndex (slice_stop b stop step)
IsNearIndex-stop b start stop (pos zero) a p = absurd (p.nonzero refl)
IsNearIndex-stop b start stop (pos (suc k)) a p =
    let r = IsRange-up b start stop k a p.start_index p.stop_index p.closed p.forward in
    record { above = omega (arith, ints, r.to_above); below = omega (arith, ints, r.to_most) }
IsNearIndex-stop b start stop (negsuc k) a p =
    let r = IsRange-down b start stop k a p.start_index p.stop_index p.closed p.forward in
    record { above = omega (arith, ints, r.to_most); below = omega (arith, ints, r.to_above) }

-- the same for a start and a stop that were computed before
pub AreNewBounds-cut : (b : Bounds) (start stop : Option ℤ) (step from to : ℤ) → AreBounds b → IsInOrder b start stop step
    → from ≡ slice_start b start step → to ≡ slice_stop b stop step
    → AreNewBounds (slice_lo step from) (slice_hi step from to)
AreNewBounds-cut b start stop step from to a p e k = rw (e, k) (AreNewBounds-sliced b start stop step a p)

pub IsNearIndex-from : (b : Bounds) (start stop : Option ℤ) (step from : ℤ) → AreBounds b → IsInOrder b start stop step
    → from ≡ slice_start b start step → IsNearIndex from
IsNearIndex-from b start stop step from a p e = rw e (IsNearIndex-start b start stop step a p)

pub IsNearIndex-to : (b : Bounds) (start stop : Option ℤ) (step to : ℤ) → AreBounds b → IsInOrder b start stop step
    → to ≡ slice_stop b stop step → IsNearIndex to
IsNearIndex-to b start stop step to a p e = rw e (IsNearIndex-stop b start stop step a p)

-- the parts of a slice make it
pub same_sliced : (b : Bounds) (start stop : Option ℤ) (step from to lo hi offset st : ℤ) (f g : Bool)
    → from ≡ slice_start b start step → to ≡ slice_stop b stop step
    → lo ≡ slice_lo step from → hi ≡ slice_hi step from to
    → f ≡ (keeps_flag start step && b.lo_implicit) → g ≡ (keeps_flag stop step && b.hi_implicit)
    → offset ≡ from -ℤ step *ℤ slice_lo step from → st ≡ step
    → (let r : Sliced = record { interval = record { lo = lo; hi = hi; lo_implicit = f; hi_implicit = g }; offset = offset; step = st } in r)
    ≡ kept_part b start stop step
same_sliced b start stop step from to lo hi offset st f g e k l h p q o s = rw (l, h, p, q, o, s, e, k) refl

-- the two answers of a cut
pub cut-kept : (b : Bounds) (start stop : Option ℤ) (step from to hi : ℤ)
    → from ≡ slice_start b start step → to ≡ slice_stop b stop step → hi ≡ slice_hi step from to
    → is_inside b step from to ≡ true → int_lt minus_infinity hi ≡ true
    → Ok (kept_part b start stop step) ≡ cut b start stop step
cut-kept b start stop step from to hi e k h i l =
    let i2 = (rw (e, k) at i) in
    let l2 = (rw (h, e, k) at l) in
    rw (i2, l2) refl

pub cut-outside : (b : Bounds) (start stop : Option ℤ) (step from to : ℤ)
    → from ≡ slice_start b start step → to ≡ slice_stop b stop step
    → is_inside b step from to ≡ false
    → Err (OutOfRange (effective_lo b) (effective_hi b)) ≡ cut b start stop step
cut-outside b start stop step from to e k i =
    let i2 = (rw (e, k) at i) in
    rw i2 refl

pub cut-below : (b : Bounds) (start stop : Option ℤ) (step from to hi : ℤ)
    → from ≡ slice_start b start step → to ≡ slice_stop b stop step → hi ≡ slice_hi step from to
    → is_inside b step from to ≡ true → hi ≡ minus_infinity
    → Err (OutOfRange (effective_lo b) (effective_hi b)) ≡ cut b start stop step
cut-below b start stop step from to hi e k h i l =
    let i2 = (rw (e, k) at i) in
    let m : int_lt minus_infinity hi ≡ false = rw l refl in
    let m2 = (rw (h, e, k) at m) in
    rw (i2, m2) refl

-- the bounds of a slice that isn't below every index
pub above-true : (hi : ℤ) → minus_infinity ≤ℤ hi → (hi ≡ minus_infinity → ⊥) → int_lt minus_infinity hi ≡ true
above-true hi l n = by_lt_z minus_infinity hi (λ p. grind (arith, ints, p)) (λ p. absurd (n (omega (arith, ints))))

pub AreBounds-cut : (lo hi : ℤ) (f g : Bool) → AreNewBounds lo hi → (hi ≡ minus_infinity → ⊥)
    → AreBounds (record { lo = lo; hi = hi; lo_implicit = f; hi_implicit = g })
AreBounds-cut lo hi f g n ne = record {
  lo_from = n.lo_from;
  lo_below = n.lo_below;
  hi_above = by_lt_z minus_infinity hi (λ p. p) (λ p. absurd (ne (omega (arith, ints, n.hi_from))));
  hi_to = n.hi_to;
  ordered = n.ordered;
}

pub inside-at : (b : Bounds) (start stop : Option ℤ) (step from to : ℤ)
    → from ≡ slice_start b start step → to ≡ slice_stop b stop step → is_inside b step from to ≡ true
    → is_inside b step (slice_start b start step) (slice_stop b stop step) ≡ true
inside-at b start stop step from to e k i = (rw (e, k) at i)

-- the first three tests of a slice
pub forward-at : (b : Bounds) (start stop : Option ℤ) (step from to : ℤ) (w : Bool)
    → from ≡ slice_start b start step → to ≡ slice_stop b stop step → is_backward step from to ≡ w
    → is_backward step (slice_start b start step) (slice_stop b stop step) ≡ w
forward-at b start stop step from to w e k i = (rw (e, k) at i)

pub sliced-backward : (b : Bounds) (start stop : Option ℤ) (step : ℤ) → step ≢ pos 0 → is_open b start stop step ≡ false
    → is_backward step (slice_start b start step) (slice_stop b stop step) ≡ true
    → Err BadOrder ≡ sliced b start stop step
sliced-backward b start stop step n o w = rw (int_eq-false step (pos 0) n, o, w) refl

pub sliced-forward : (b : Bounds) (start stop : Option ℤ) (step : ℤ) → step ≢ pos 0 → is_open b start stop step ≡ false
    → is_backward step (slice_start b start step) (slice_stop b stop step) ≡ false
    → cut b start stop step ≡ sliced b start stop step
sliced-forward b start stop step n o w = rw (int_eq-false step (pos 0) n, o, w) refl
