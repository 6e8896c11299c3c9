-- A slice by a positive step, in plain numbers: its bounds and its positions. A negative step is one of the negated numbers.
use Rattle.std.proofs.Common.{◌≡◌, ◌⊎◌, inl, inr, ◌∙◌, zero, suc, ℕ, ◌*◌, ◌/◌, ℤ, pos, negsuc, neg_ℤ, ◌≤ℤ◌, ◌<ℤ◌, ◌+ℤ◌, ◌-ℤ◌, ◌*ℤ◌, ◌↔◌, refl, sym, ap, subst, arith, unsigned_abs}
use Rattle.std.proofs.lemmas.Int.{ints, by_lt_z}
use Rattle.std.proofs.lemmas.Grind.{div_ceil_times}
use Rattle.std.proofs.lemmas.Nat.{div-add-mod', mod_below}
use Rattle.std.specs.Int.{div_ceil}
use Rattle.std.specs.Int.RustNames.{int_div}
use Rattle.index_intervals.specs.Bounds.{IsIndex, minus_infinity, plus_infinity}
use Rattle.index_intervals.specs.Stride.{IsQuotientUp}
use Rattle.index_intervals.proofs.QuotientLemmas.{quotient_up_least, mul_mono, mul_cancel, add-*ℤ, neg-*ℤ, suc-*ℤ}
use Rattle.std.proofs.Math.IntN.{*ℤ_comm, zero-*ℤ}
use Rattle.index_intervals.proofs.StrideLemmas.{mul_above, mul_below}

-- a product with 1
times_one : (x : ℤ) → x *ℤ pos 1 ≡ x
times_one (pos a) = omega (arith, ints)
times_one (negsuc a) = omega (arith, ints)

-- a quotient rounded towards zero, for a dividend of either sign
pub record IsTruncatedUp (x n o : ℤ) : Type 0 where
  pub negative : x <ℤ pos 0
  pub quotient : o ≤ℤ pos 0
  pub from : x ≤ℤ (o *ℤ n)
  pub near : (o *ℤ n) <ℤ (x +ℤ n)

pub record IsTruncatedDown (x n o : ℤ) : Type 0 where
  pub positive : pos 0 ≤ℤ x
  pub quotient : pos 0 ≤ℤ o
  pub to : (o *ℤ n) ≤ℤ x
  pub near : x <ℤ (o *ℤ n +ℤ n)

pub int_div_truncated : (x : ℤ) (k : ℕ)
    → IsTruncatedUp x (pos (suc k)) (int_div x (pos (suc k))) ⊎ IsTruncatedDown x (pos (suc k)) (int_div x (pos (suc k)))
int_div_truncated (pos a) k =
    let e = div-add-mod' a (suc k) in
    let l = mod_below a (suc k) (omega arith) in
    inr (record { positive = omega (arith, ints); quotient = omega (arith, ints); to = omega (arith, ints); near = omega (arith, ints) })
int_div_truncated (negsuc a) k =
    let e = div-add-mod' (suc a) (suc k) in
    let l = mod_below (suc a) (suc k) (omega arith) in
    let q = quotient_of (suc a / suc k) k in
    inl (record { negative = omega (arith, ints); quotient = q.0; from = omega (arith, ints, q.1); near = omega (arith, ints, q.1) })
  where
    quotient_of : (m k : ℕ) → (neg_ℤ (pos m) ≤ℤ pos 0) × (neg_ℤ (pos m) *ℤ pos (suc k) ≡ neg_ℤ (pos (m * suc k)))
    quotient_of zero k = (omega (arith, ints), omega (arith, ints))
    quotient_of (suc m) k = (omega (arith, ints), omega (arith, ints))

-- how many steps reach the stop
pub steps_up : (from to : ℤ) (k : ℕ) → from ≤ℤ to
    → IsQuotientUp (to -ℤ from) (pos (suc k)) (pos (div_ceil (unsigned_abs (to -ℤ from)) (suc k)))
steps_up from to k h = sized (to -ℤ from) (omega (arith, ints))
  where
    sized : (d : ℤ) → pos 0 ≤ℤ d → IsQuotientUp d (pos (suc k)) (pos (div_ceil (unsigned_abs d) (suc k)))
    sized (pos a) l =
        let e = div_ceil_times a (suc k) (omega arith) in
        record { at_least = omega (arith, ints, e.0); least = omega (arith, ints, e.1) }
    sized (negsuc a) l = absurd (omega (arith, ints))

-- what the first tests leave of a start and a stop, the step counted upwards
pub record IsRange (n from to : ℤ) : Type 0 where
  pub from_least : minus_infinity ≤ℤ from
  pub from_below : from <ℤ plus_infinity
  pub to_above : minus_infinity <ℤ to
  pub to_most : to ≤ℤ (plus_infinity +ℤ pos 1)
  pub ordered : from ≤ℤ to
  pub finite : (n ≡ pos 1) ⊎ ((minus_infinity <ℤ from) × (to ≤ℤ plus_infinity))

-- the new bounds, and the position of a number
abbrev pub first_of : ℕ → ℤ → ℤ
first_of k from = int_div from (pos (suc k))

abbrev pub size_of : ℕ → ℤ → ℤ → ℤ
size_of k from to = pos (div_ceil (unsigned_abs (to -ℤ from)) (suc k))

abbrev pub last_of : ℕ → ℤ → ℤ → ℤ
last_of k from to = first_of k from +ℤ size_of k from to -ℤ pos 1

-- the upper bound is at most the number before the stop, where that isn't negative
pub last_most : (from to m : ℤ) (k : ℕ) → from ≤ℤ to → to ≤ℤ (m +ℤ pos 1) → pos 0 ≤ℤ m → last_of k from to ≤ℤ m
last_most from to m k h l z = by_lt_z m (last_of k from to)
    (λ c.
    let n = pos (suc k) in
    let positive : pos 0 <ℤ n = omega (arith, ints) in
    let o = first_of k from in
    let s = size_of k from to in
    let up = steps_up from to k h in
    let grown = mul_mono ((m +ℤ pos 1) +ℤ pos 1) (o +ℤ s) n positive (omega (arith, ints)) in
    let e = suc-*ℤ (m +ℤ pos 1) n in
    let f = suc-*ℤ m n in
    let g = add-*ℤ o s n in
    let above = mul_above m n positive z in
    elim (int_div_truncated from k) [
      | inl t ↦ absurd (omega (arith, ints, up.least, t.near))
      | inr t ↦ absurd (omega (arith, ints, up.least, t.to))
    ])
    (λ c. c)

-- and no less than minus infinity
pub last_least : (from to : ℤ) (k : ℕ) → from ≤ℤ to → minus_infinity <ℤ to → minus_infinity ≤ℤ last_of k from to
last_least from to k h l = by_lt_z (last_of k from to) minus_infinity
    (λ c.
    let n = pos (suc k) in
    let positive : pos 0 <ℤ n = omega (arith, ints) in
    let o = first_of k from in
    let s = size_of k from to in
    let up = steps_up from to k h in
    let grown = mul_mono (o +ℤ s) minus_infinity n positive (omega (arith, ints)) in
    let g = add-*ℤ o s n in
    let below = mul_below minus_infinity n positive (omega (arith, ints)) in
    elim (int_div_truncated from k) [
      | inl t ↦ absurd (omega (arith, ints, up.at_least, t.from))
      | inr t ↦ absurd (omega (arith, ints, t.quotient))
    ])
    (λ c. c)

-- the lower bound lies between 0 and the start
pub first_least : (from m : ℤ) (k : ℕ) → m ≤ℤ from → m ≤ℤ pos 0 → m ≤ℤ first_of k from
first_least from m k h z =
    let n = pos (suc k) in
    let positive : pos 0 <ℤ n = omega (arith, ints) in
    elim (int_div_truncated from k) [
      | inl t ↦ let b = mul_below (first_of k from) n positive t.quotient in omega (arith, ints, t.from)
      | inr t ↦ omega (arith, ints, t.quotient)
    ]

pub first_most : (from m : ℤ) (k : ℕ) → from ≤ℤ m → pos 0 ≤ℤ m → first_of k from ≤ℤ m
first_most from m k h z =
    let n = pos (suc k) in
    let positive : pos 0 <ℤ n = omega (arith, ints) in
    elim (int_div_truncated from k) [
      | inl t ↦ omega (arith, ints, t.quotient)
      | inr t ↦ let b = mul_above (first_of k from) n positive t.quotient in omega (arith, ints, t.to)
    ]

-- at step 1 it is the start
pub first_at_one : (from : ℤ) (k : ℕ) → pos (suc k) ≡ pos 1 → first_of k from ≡ from
first_at_one from k e =
    let o = first_of k from in
    let f = ap (λ (n : ℤ). o *ℤ n) e in
    let g = times_one o in
    elim (int_div_truncated from k) [
      | inl t ↦ omega (arith, ints, e, t.from, t.near)
      | inr t ↦ omega (arith, ints, e, t.to, t.near)
    ]

-- the bounds of a slice are bounds, unless it is empty at the least index
pub record AreNewBounds (lo hi : ℤ) : Type 0 where
  pub lo_from : minus_infinity ≤ℤ lo
  pub lo_below : lo <ℤ plus_infinity
  pub hi_from : minus_infinity ≤ℤ hi
  pub hi_to : hi ≤ℤ plus_infinity
  pub ordered : lo ≤ℤ (hi +ℤ pos 1)

pub AreNewBounds-of : (from to : ℤ) (k : ℕ) → IsRange (pos (suc k)) from to → AreNewBounds (first_of k from) (last_of k from to)
AreNewBounds-of from to k r =
    let top = pos 4611686018427387902 in
    let l = first_most from top k (omega (arith, ints, r.from_below)) (omega (arith, ints)) in
    record {
      lo_from = first_least from minus_infinity k r.from_least (omega (arith, ints));
      lo_below = omega (arith, ints, l);
      hi_from = last_least from to k r.ordered r.to_above;
      hi_to = last_most from to plus_infinity k r.ordered r.to_most (omega (arith, ints));
      ordered = omega (arith, ints);
    }

-- where number x lay
abbrev pub position : ℕ → ℤ → ℤ → ℤ
position k from x = (from -ℤ pos (suc k) *ℤ first_of k from) +ℤ pos (suc k) *ℤ x

pub position_is : (k : ℕ) (from x : ℤ) → position k from x ≡ from +ℤ (x -ℤ first_of k from) *ℤ pos (suc k)
position_is k from x =
    let n = pos (suc k) in
    let o = first_of k from in
    omega (arith, ints, *ℤ_comm n o, *ℤ_comm n x, add-*ℤ x (neg_ℤ o) n, neg-*ℤ o n)

-- a position that the slice keeps
pub record IsPosition (k : ℕ) (from to p : ℤ) : Type 0 where
  pub index : IsIndex p
  pub count : ℕ
  pub reached : p ≡ from +ℤ pos (suc k) *ℤ pos count
  pub before : p <ℤ to

pub record IsBetween (lo hi x : ℤ) : Type 0 where
  pub index : IsIndex x
  pub above_lo : lo ≤ℤ x
  pub below_hi : x ≤ℤ hi

pos_abs : (z : ℤ) → pos 0 ≤ℤ z → pos (unsigned_abs z) ≡ z
pos_abs (pos a) h = refl
pos_abs (negsuc a) h = absurd (omega (arith, ints))

-- so many steps stay before the stop
pub steps_before : (k : ℕ) (from to j : ℤ) → from ≤ℤ to → (j <ℤ size_of k from to) ↔ ((from +ℤ j *ℤ pos (suc k)) <ℤ to)
steps_before k from to j h =
    let n = pos (suc k) in
    let s = size_of k from to in
    let law = quotient_up_least (to -ℤ from) n s j (omega (arith, ints)) (steps_up from to k h) in (
      (λ l. by_lt_z (from +ℤ j *ℤ n) to (λ p. p) (λ p. let q = law.1 (omega (arith, ints)) in absurd (omega (arith, ints)))),
      (λ l. by_lt_z j s (λ p. p) (λ p. let q = law.0 p in absurd (omega (arith, ints)))),
    )

pub IsPosition-of : (k : ℕ) (from to x : ℤ) → IsRange (pos (suc k)) from to
    → IsBetween (first_of k from) (last_of k from to) x → IsPosition k from to (position k from x)
IsPosition-of k from to x r m =
    let n = pos (suc k) in
    let o = first_of k from in
    let j = x -ℤ o in
    let e = position_is k from x in
    let c = pos_abs j (omega (arith, ints, m.above_lo)) in
    let b = (steps_before k from to j r.ordered).0 (omega (arith, ints, m.below_hi)) in
    let z = mul_mono (pos 0) j n (omega (arith, ints)) (omega (arith, ints, m.above_lo)) in
    record {
      index = elim r.finite [
        | inl one ↦ subst IsIndex (at_one one) m.index
        | inr f ↦ record { above = omega (arith, ints, f.0, zero-*ℤ n); below = omega (arith, ints, f.1) }
      ];
      count = unsigned_abs j;
      reached = e ∙ ap (λ (z : ℤ). from +ℤ z) (*ℤ_comm j n ∙ ap (λ (z : ℤ). n *ℤ z) (sym c));
      before = omega (arith, ints);
    }
  where
    at_one : pos (suc k) ≡ pos 1 → x ≡ position k from x
    at_one one =
        let o = first_of k from in
        omega (arith, ints, position_is k from x, first_at_one from k one, ap (λ (n : ℤ). (x -ℤ o) *ℤ n) one, times_one (x -ℤ o))

pub IsBetween-of : (k : ℕ) (from to x : ℤ) → IsRange (pos (suc k)) from to
    → IsPosition k from to (position k from x) → IsBetween (first_of k from) (last_of k from to) x
IsBetween-of k from to x r p =
    let n = pos (suc k) in
    let positive : pos 0 <ℤ n = omega (arith, ints) in
    let o = first_of k from in
    let j = x -ℤ o in
    let e = position_is k from x in
    let t = *ℤ_comm n (pos p.count) in
    let c : j ≡ pos p.count = mul_cancel j (pos p.count) n positive (omega (arith, ints, p.reached)) in
    let b = (steps_before k from to j r.ordered).1 (omega (arith, ints, p.before)) in
    record {
      index = elim r.finite [
        | inl one ↦ subst IsIndex (sym (at_one one)) p.index
        | inr f ↦
            let lo = first_least from (negsuc 4611686018427387901) k (omega (arith, ints, f.0)) (omega (arith, ints)) in
            let hi = last_most from to (pos 4611686018427387902) k r.ordered (omega (arith, ints, f.1)) (omega (arith, ints)) in
            record { above = omega (arith, ints); below = omega (arith, ints) }
      ];
      above_lo = omega (arith, ints);
      below_hi = omega (arith, ints);
    }
  where
    at_one : pos (suc k) ≡ pos 1 → x ≡ position k from x
    at_one one =
        let o = first_of k from in
        omega (arith, ints, position_is k from x, first_at_one from k one, ap (λ (n : ℤ). (x -ℤ o) *ℤ n) one, times_one (x -ℤ o))

-- a position has its number
pub position-found : (k : ℕ) (from : ℤ) (c : ℕ) → position k from (first_of k from +ℤ pos c) ≡ from +ℤ pos (suc k) *ℤ pos c
position-found k from c =
    let o = first_of k from in
    let e : (o +ℤ pos c) -ℤ o ≡ pos c = omega (arith, ints) in
    let n = pos (suc k) in
    omega (arith, ints, position_is k from (o +ℤ pos c), ap (λ (z : ℤ). z *ℤ n) e, *ℤ_comm n (pos c))

-- and only one
pub position-once : (k : ℕ) (from x y : ℤ) → position k from x ≡ position k from y → x ≡ y
position-once k from x y e =
    let n = pos (suc k) in
    mul_cancel x y n (omega (arith, ints)) (omega (arith, ints, e, *ℤ_comm n x, *ℤ_comm n y))
