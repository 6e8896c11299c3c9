-- The strided interval's bounds, members and rounding.
use Rattle.std.proofs.Common.{◌≡◌, zero, suc, ℤ, pos, negsuc, neg_ℤ, ◌≤ℤ◌, ◌<ℤ◌, ◌+ℤ◌, ◌*ℤ◌, ◌↔◌, Bool, true, false, cond, refl, sym, arith, unsigned_abs, ◌∙◌}
use Rattle.std.proofs.lemmas.Int.{ints, by_lt_z}
use Rattle.std.proofs.Math.IntN.{*ℤ-negsuc}
use Rattle.std.specs.Int.{is_negative}
use Rattle.index_intervals.specs.Bounds.{Bounds, AreBounds, IsIndex, is_index, minus_infinity, plus_infinity}
use Rattle.index_intervals.specs.Members.{IsMember, IsWithin}
use Rattle.index_intervals.specs.Stride.{quotient_down, quotient_up, IsQuotientDown, IsQuotientUp, contracted, mirrored, facing, RoundsInward}
use Rattle.index_intervals.proofs.MemberLemmas.{is_index-true, IsIndex-true, lo_infinite, hi_infinite}
use Rattle.index_intervals.proofs.QuotientLemmas.{IsQuotientDown-quotient_down, IsQuotientUp-quotient_up, quotient_up_least, quotient_down_greatest, mul_mono, suc-*ℤ}

-- a multiple lies no nearer to 0
pub mul_above : (x n : ℤ) → pos 0 <ℤ n → pos 0 ≤ℤ x → x ≤ℤ (x *ℤ n)
mul_above x (negsuc k) h l = absurd (omega (arith, ints))
mul_above x (pos zero) h l = absurd (omega (arith, ints))
mul_above (negsuc a) (pos (suc k)) h l = absurd (omega (arith, ints))
mul_above (pos a) (pos (suc k)) h l = omega (arith, ints)

pub mul_below : (x n : ℤ) → pos 0 <ℤ n → x ≤ℤ pos 0 → (x *ℤ n) ≤ℤ x
mul_below x (negsuc k) h l = absurd (omega (arith, ints))
mul_below x (pos zero) h l = absurd (omega (arith, ints))
mul_below (negsuc a) (pos (suc k)) h l = omega (arith, ints)
mul_below (pos zero) (pos (suc k)) h l = omega (arith, ints)
mul_below (pos (suc a)) (pos (suc k)) h l = absurd (omega (arith, ints))

-- the quotient of a finite index is one
pub IsIndex-up : (v n q : ℤ) → pos 0 <ℤ n → IsQuotientUp v n q → IsIndex v → IsIndex q
IsIndex-up v n q h u i = record {
  above = by_lt_z minus_infinity q (λ p. p) (λ p.
      let e = (quotient_up_least v n q minus_infinity h u).0 p in
      let m = mul_below minus_infinity n h (omega (arith, ints)) in
      absurd (omega (arith, ints, i.above)));
  below =
      let top = pos 4611686018427387902 in
      let m = mul_above top n h (omega (arith, ints)) in
      let e = (quotient_up_least v n q top h u).1 (omega (arith, ints, i.below)) in
      omega (arith, ints);
}

pub IsIndex-down : (v n q : ℤ) → pos 0 <ℤ n → IsQuotientDown v n q → IsIndex v → IsIndex q
IsIndex-down v n q h d i = record {
  below = by_lt_z q plus_infinity (λ p. p) (λ p.
      let e = (quotient_down_greatest v n q plus_infinity h d).0 p in
      let m = mul_above plus_infinity n h (omega (arith, ints)) in
      absurd (omega (arith, ints, i.below)));
  above =
      let bottom = negsuc 4611686018427387901 in
      let m = mul_below bottom n h (omega (arith, ints)) in
      let e = (quotient_down_greatest v n q bottom h d).1 (omega (arith, ints, i.above)) in
      omega (arith, ints);
}

-- two bounds that cross by one at most do so after rounding inward
pub quotients_ordered : (v w n p q : ℤ) → pos 0 <ℤ n → IsQuotientUp v n p → IsQuotientDown w n q
    → v ≤ℤ (w +ℤ pos 1) → p ≤ℤ (q +ℤ pos 1)
quotients_ordered v w n p q h u d l = by_lt_z (q +ℤ pos 1) p
    (λ c.
    let m = mul_mono ((q +ℤ pos 1) +ℤ pos 1) p n h (omega (arith, ints)) in
    let e = suc-*ℤ (q +ℤ pos 1) n in
    let f = suc-*ℤ q n in
    absurd (omega (arith, ints, u.least, d.greatest)))
    (λ c. c)

pub AreBounds-contracted : (b : Bounds) (n : ℤ) → AreBounds b → pos 0 <ℤ n → AreBounds (contracted b n)
AreBounds-contracted b n p h = shape (is_index b.lo) (is_index b.hi) refl refl
  where
    u : IsQuotientUp b.lo n (quotient_up b.lo n)
    u = IsQuotientUp-quotient_up b.lo n h

    d : IsQuotientDown b.hi n (quotient_down b.hi n)
    d = IsQuotientDown-quotient_down b.hi n h

    shape : (f g : Bool) → is_index b.lo ≡ f → is_index b.hi ≡ g
        → AreBounds (record b { lo = cond f (quotient_up b.lo n) b.lo; hi = cond g (quotient_down b.hi n) b.hi })
    shape true true e k =
        let i = IsIndex-up b.lo n (quotient_up b.lo n) h u (is_index-true b.lo e) in
        let j = IsIndex-down b.hi n (quotient_down b.hi n) h d (is_index-true b.hi k) in
        record {
          lo_from = omega (arith, ints, i.above);
          lo_below = i.below;
          hi_above = j.above;
          hi_to = omega (arith, ints, j.below);
          ordered = quotients_ordered b.lo b.hi n (quotient_up b.lo n) (quotient_down b.hi n) h u d p.ordered;
        }
    shape true false e k =
        let i = IsIndex-up b.lo n (quotient_up b.lo n) h u (is_index-true b.lo e) in
        let w = hi_infinite b p k in
        record {
          lo_from = omega (arith, ints, i.above);
          lo_below = i.below;
          hi_above = p.hi_above;
          hi_to = p.hi_to;
          ordered = omega (arith, ints, i.below);
        }
    shape false true e k =
        let j = IsIndex-down b.hi n (quotient_down b.hi n) h d (is_index-true b.hi k) in
        let v = lo_infinite b p e in
        record {
          lo_from = p.lo_from;
          lo_below = p.lo_below;
          hi_above = j.above;
          hi_to = omega (arith, ints, j.below);
          ordered = omega (arith, ints, j.above);
        }
    shape false false e k = p

pub IsMember-contracted : (b : Bounds) (n : ℤ) → AreBounds b → pos 0 <ℤ n → (x : ℤ) → IsIndex x
    → IsMember (contracted b n) x ↔ IsWithin b (x *ℤ n)
IsMember-contracted b n p h x i = shape (is_index b.lo) (is_index b.hi) refl refl
  where
    u : IsQuotientUp b.lo n (quotient_up b.lo n)
    u = IsQuotientUp-quotient_up b.lo n h

    d : IsQuotientDown b.hi n (quotient_down b.hi n)
    d = IsQuotientDown-quotient_down b.hi n h

    lo_law : (f : Bool) → is_index b.lo ≡ f → ((cond f (quotient_up b.lo n) b.lo) ≤ℤ x) ↔ (IsIndex b.lo → b.lo ≤ℤ (x *ℤ n))
    lo_law true e =
        let l = quotient_up_least b.lo n (quotient_up b.lo n) x h u in
        ((λ q. λ _. l.0 q), (λ q. l.1 (q (is_index-true b.lo e))))
    lo_law false e =
        let v = lo_infinite b p e in
        ((λ q. λ j. let t = IsIndex-true b.lo j in let z = sym e ∙ t in cc), (λ q. omega (arith, ints, i.above)))

    hi_law : (g : Bool) → is_index b.hi ≡ g → (x ≤ℤ (cond g (quotient_down b.hi n) b.hi)) ↔ (IsIndex b.hi → (x *ℤ n) ≤ℤ b.hi)
    hi_law true e =
        let l = quotient_down_greatest b.hi n (quotient_down b.hi n) x h d in
        ((λ q. λ _. l.0 q), (λ q. l.1 (q (is_index-true b.hi e))))
    hi_law false e =
        let v = hi_infinite b p e in
        ((λ q. λ j. let t = IsIndex-true b.hi j in let z = sym e ∙ t in cc), (λ q. omega (arith, ints, i.below)))

    shape : (f g : Bool) → is_index b.lo ≡ f → is_index b.hi ≡ g
        → IsMember (record b { lo = cond f (quotient_up b.lo n) b.lo; hi = cond g (quotient_down b.hi n) b.hi }) x ↔ IsWithin b (x *ℤ n)
    shape f g e k = (
      (λ m. record { above_lo = (lo_law f e).0 m.above_lo; below_hi = (hi_law g k).0 m.below_hi }),
      (λ w. record { index = i; above_lo = (lo_law f e).1 w.above_lo; below_hi = (hi_law g k).1 w.below_hi }),
    )

pub RoundsInward-contracted : (b : Bounds) (n : ℤ) → pos 0 <ℤ n → RoundsInward b n (contracted b n)
RoundsInward-contracted b n h = record {
  lo = λ i. rw (IsIndex-true b.lo i) (IsQuotientUp-quotient_up b.lo n h);
  hi = λ i. rw (IsIndex-true b.hi i) (IsQuotientDown-quotient_down b.hi n h);
}

-- a number lies within the mirrored interval where its negation lies within the interval
pub IsWithin-mirrored : (b : Bounds) (y : ℤ) → IsWithin (mirrored b) y ↔ IsWithin b (neg_ℤ y)
IsWithin-mirrored b y = (
  (λ w. record {
    above_lo = λ i. let l = w.below_hi (record { above = omega (arith, ints, i.below); below = omega (arith, ints, i.above) }) in omega (arith, ints);
    below_hi = λ i. let l = w.above_lo (record { above = omega (arith, ints, i.below); below = omega (arith, ints, i.above) }) in omega (arith, ints);
  }),
  (λ w. record {
    above_lo = λ i. let l = w.below_hi (record { above = omega (arith, ints, i.below); below = omega (arith, ints, i.above) }) in omega (arith, ints);
    below_hi = λ i. let l = w.above_lo (record { above = omega (arith, ints, i.below); below = omega (arith, ints, i.above) }) in omega (arith, ints);
  }),
)

-- within the interval that a stride faces, the multiple by the stride's size stands for that by the stride
pub IsWithin-facing : (b : Bounds) (s x : ℤ) → IsWithin (facing b s) (x *ℤ pos (unsigned_abs s)) ↔ IsWithin b (x *ℤ s)
IsWithin-facing b (pos k) x =
    let e : is_negative (pos k) ≡ false = grind (arith, ints) in
    rw e ((λ w. w), (λ w. w))
IsWithin-facing b (negsuc k) x =
    let e : neg_ℤ (x *ℤ pos (suc k)) ≡ x *ℤ negsuc k = sym (*ℤ-negsuc x k) in
    rw (← e) (IsWithin-mirrored b (x *ℤ pos (suc k)))

-- the same with names for the interval faced and the size
pub IsWithin-faced : (b f : Bounds) (s a x : ℤ) → f ≡ facing b s → a ≡ pos (unsigned_abs s)
    → IsWithin f (x *ℤ a) ↔ IsWithin b (x *ℤ s)
IsWithin-faced b f s a x e k = rw (e, k) (IsWithin-facing b s x)
