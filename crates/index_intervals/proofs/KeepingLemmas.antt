-- A slice keeps the positions that it should.
use Rattle.std.proofs.Common.{◌≡◌, ◌∙◌, zero, suc, ℕ, ◌/◌, ℤ, pos, negsuc, neg_ℤ, ◌≤ℤ◌, ◌<ℤ◌, ◌+ℤ◌, ◌-ℤ◌, ◌*ℤ◌, ◌↔◌, Bool, true, false, ◌&&◌, refl, sym, ap, arith, Option, unsigned_abs}
use Rattle.std.proofs.lemmas.Int.{ints}
use Rattle.std.proofs.Math.IntN.{*ℤ_comm, *ℤ-negsuc}
use Rattle.std.specs.Int.{div_ceil}
use Rattle.std.specs.Int.RustNames.{int_le}
use Rattle.index_intervals.specs.Bounds.{Bounds, IsIndex}
use Rattle.index_intervals.specs.Members.{IsMember, IsEffectiveMember, effective_lo, effective_hi}
use Rattle.index_intervals.specs.Slice.{slice_start, slice_stop, slice_lo, slice_hi, slice_size, covers, is_inside, IsKept, IsBefore, KeepsPositions, kept_part}
use Rattle.index_intervals.proofs.SlicingLemmas.{IsRange, first_of, last_of, size_of, position, IsPosition, IsBetween, IsPosition-of, IsBetween-of, position-found, position-once}
use Rattle.index_intervals.proofs.RangeLemmas.{not_negative}
use Rattle.index_intervals.proofs.SlicedLemmas.{is_inside-far, is_inside-up}

-- what covered numbers are
pub IsEffectiveMember-covers : (b : Bounds) (least greatest p : ℤ) → covers b least greatest ≡ true → IsIndex p
    → least ≤ℤ p → p ≤ℤ greatest → IsEffectiveMember b p
IsEffectiveMember-covers b least greatest p c i l g = record {
  index = i;
  above_lo = λ e. let d = (rw e at (parts (int_le (effective_lo b) least) (int_le greatest (effective_hi b)) c).0) in grind (arith, ints, d, l);
  below_hi = λ e. let d = (rw e at (parts (int_le (effective_lo b) least) (int_le greatest (effective_hi b)) c).1) in grind (arith, ints, d, g);
}
  where
    parts : (s t : Bool) → (s && t) ≡ true → (s ≡ true) × (t ≡ true)
    parts true t e = (refl, e)
    parts false t e = cc

-- for a positive step
before_up : (k : ℕ) (p to : ℤ) → IsBefore (pos k) p to ↔ (p <ℤ to)
before_up k p to = rw (not_negative k) ((λ h. h), (λ h. h))

pub KeepsPositions-up : (b : Bounds) (start stop : Option ℤ) (k : ℕ)
    → IsRange (pos (suc k)) (slice_start b start (pos (suc k))) (slice_stop b stop (pos (suc k)))
    → is_inside b (pos (suc k)) (slice_start b start (pos (suc k))) (slice_stop b stop (pos (suc k))) ≡ true
    → KeepsPositions b start stop (pos (suc k)) (kept_part b start stop (pos (suc k)))
KeepsPositions-up b start stop k r c = record {
  first = omega (arith, ints);
  kept = λ x. (
    (λ m. let q = place x m in record { index = q.index; count = q.count; reached = q.reached; before = (before_up (suc k) (position k from x) to).1 q.before }),
    (λ q. let m = IsBetween-of k from to x r (record { index = q.index; count = q.count; reached = q.reached; before = (before_up (suc k) (position k from x) to).0 q.before }) in record { index = m.index; above_lo = m.above_lo; below_hi = m.below_hi }),
  );
  inside = λ x m.
      let q = place x m in
      IsEffectiveMember-covers b from (to -ℤ pos 1) (position k from x) covered q.index (least q) (omega (arith, ints, q.before));
  found = λ p q. (first_of k from +ℤ pos q.count, position-found k from q.count ∙ sym q.reached);
  once = λ x y e. position-once k from x y e;
}
  where
    from : ℤ
    from = slice_start b start (pos (suc k))

    to : ℤ
    to = slice_stop b stop (pos (suc k))

    covered : covers b from (to -ℤ pos 1) ≡ true
    covered = sym (is_inside-up b (pos (suc k)) from to (not_negative (suc k))) ∙ c

    place : (x : ℤ) → IsMember ((kept_part b start stop (pos (suc k))).interval) x → IsPosition k from to (position k from x)
    place x m = IsPosition-of k from to x r (record { index = m.index; above_lo = m.above_lo; below_hi = m.below_hi })

    least : {p : ℤ} → IsPosition k from to p → from ≤ℤ p
    least q = omega (arith, ints, q.reached)

-- for a negative step: the same numbers, negated
zero_over : (k : ℕ) → 0 / suc k ≡ 0
zero_over k = omega arith

pub slice_lo-down : (k : ℕ) (from : ℤ) → slice_lo (negsuc k) from ≡ first_of k (neg_ℤ from)
slice_lo-down k (pos zero) = rw (zero_over k) refl
slice_lo-down k (pos (suc a)) = refl
slice_lo-down k (negsuc a) = refl

unsigned_abs-neg : (z : ℤ) → unsigned_abs (neg_ℤ z) ≡ unsigned_abs z
unsigned_abs-neg (pos zero) = refl
unsigned_abs-neg (pos (suc a)) = refl
unsigned_abs-neg (negsuc a) = refl

pub slice_size-down : (k : ℕ) (from to : ℤ) → pos (slice_size (negsuc k) from to) ≡ size_of k (neg_ℤ from) (neg_ℤ to)
slice_size-down k from to =
    let e : neg_ℤ to -ℤ neg_ℤ from ≡ neg_ℤ (to -ℤ from) = omega (arith, ints) in
    ap (λ (d : ℕ). pos (div_ceil d (suc k))) (sym (ap unsigned_abs e ∙ unsigned_abs-neg (to -ℤ from)))

pub slice_hi-down : (k : ℕ) (from to : ℤ) → slice_hi (negsuc k) from to ≡ last_of k (neg_ℤ from) (neg_ℤ to)
slice_hi-down k from to = omega (arith, ints, slice_lo-down k from, slice_size-down k from to)

-- a product with a negative step
down_times : (k : ℕ) (x : ℤ) → negsuc k *ℤ x ≡ neg_ℤ (pos (suc k) *ℤ x)
down_times k x = *ℤ_comm (negsuc k) x ∙ *ℤ-negsuc x k ∙ ap neg_ℤ (*ℤ_comm x (pos (suc k)))

position_down : (k : ℕ) (from x : ℤ)
    → (from -ℤ negsuc k *ℤ slice_lo (negsuc k) from) +ℤ negsuc k *ℤ x ≡ neg_ℤ (position k (neg_ℤ from) x)
position_down k from x =
    let o = slice_lo (negsuc k) from in
    let e = ap (λ (z : ℤ). pos (suc k) *ℤ z) (slice_lo-down k from) in
    omega (arith, ints, down_times k o, down_times k x, e)

pub KeepsPositions-down : (b : Bounds) (start stop : Option ℤ) (k : ℕ)
    → IsRange (pos (suc k)) (neg_ℤ (slice_start b start (negsuc k))) (neg_ℤ (slice_stop b stop (negsuc k)))
    → is_inside b (negsuc k) (slice_start b start (negsuc k)) (slice_stop b stop (negsuc k)) ≡ true
    → KeepsPositions b start stop (negsuc k) (kept_part b start stop (negsuc k))
KeepsPositions-down b start stop k r c = record {
  first = omega (arith, ints);
  kept = λ x. (
    (λ m. let q = place x m in kept_at (at x) q (position_down k from x)),
    (λ q. within x (IsBetween-of k (neg_ℤ from) (neg_ℤ to) x r (negated (at x) q (position_down k from x)))),
  );
  inside = λ x m.
      let q = place x m in
      let e = position_down k from x in
      IsEffectiveMember-covers b (to +ℤ pos 1) from (at x) (covered (apart q))
      (record { above = omega (arith, ints, e, q.index.below); below = omega (arith, ints, e, q.index.above) })
      (omega (arith, ints, e, q.before)) (omega (arith, ints, e, q.reached));
  found = λ p q.
      let x = first_of k (neg_ℤ from) +ℤ pos q.count in
      (x, omega (arith, ints, position_down k from x, position-found k (neg_ℤ from) q.count, q.reached, down_times k (pos q.count)));
  once = λ x y e. position-once k (neg_ℤ from) x y (omega (arith, ints, e, position_down k from x, position_down k from y));
}
  where
    from : ℤ
    from = slice_start b start (negsuc k)

    to : ℤ
    to = slice_stop b stop (negsuc k)

    at : ℤ → ℤ
    at x = (from -ℤ negsuc k *ℤ slice_lo (negsuc k) from) +ℤ negsuc k *ℤ x

    covered : (from ≡ to → ⊥) → covers b (to +ℤ pos 1) from ≡ true
    covered n = sym (is_inside-far b (negsuc k) from to refl n) ∙ c

    place : (x : ℤ) → IsMember ((kept_part b start stop (negsuc k)).interval) x → IsPosition k (neg_ℤ from) (neg_ℤ to) (position k (neg_ℤ from) x)
    place x m = IsPosition-of k (neg_ℤ from) (neg_ℤ to) x r (record {
      index = m.index;
      above_lo = omega (arith, ints, m.above_lo, slice_lo-down k from);
      below_hi = omega (arith, ints, m.below_hi, slice_hi-down k from to);
    })

    within : (x : ℤ) → IsBetween (first_of k (neg_ℤ from)) (last_of k (neg_ℤ from) (neg_ℤ to)) x
        → IsMember ((kept_part b start stop (negsuc k)).interval) x
    within x m = record {
      index = m.index;
      above_lo = omega (arith, ints, m.above_lo, slice_lo-down k from);
      below_hi = omega (arith, ints, m.below_hi, slice_hi-down k from to);
    }

    apart : {p : ℤ} → IsPosition k (neg_ℤ from) (neg_ℤ to) p → from ≡ to → ⊥
    apart q e = omega (arith, ints, e, q.before, q.reached)

    kept_at : (p : ℤ) {q : ℤ} → IsPosition k (neg_ℤ from) (neg_ℤ to) q → p ≡ neg_ℤ q → IsKept b start stop (negsuc k) p
    kept_at p q e = record {
      index = record { above = omega (arith, ints, e, q.index.below); below = omega (arith, ints, e, q.index.above) };
      count = q.count;
      reached = omega (arith, ints, e, q.reached, down_times k (pos q.count));
      before = omega (arith, ints, e, q.before);
    }

    negated : (p : ℤ) {q : ℤ} → IsKept b start stop (negsuc k) p → p ≡ neg_ℤ q → IsPosition k (neg_ℤ from) (neg_ℤ to) q
    negated p h e = record {
      index = record { above = omega (arith, ints, e, h.index.below); below = omega (arith, ints, e, h.index.above) };
      count = h.count;
      reached = omega (arith, ints, e, h.reached, down_times k (pos h.count));
      before = omega (arith, ints, e, h.before);
    }
