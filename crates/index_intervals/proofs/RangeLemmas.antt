-- What the first tests of a slice leave of its start and stop.
use Rattle.std.proofs.Common.{◌≡◌, ◌⊎◌, inl, inr, suc, ℕ, ℤ, pos, negsuc, neg_ℤ, ◌≤ℤ◌, ◌+ℤ◌, ◌-ℤ◌, Bool, true, false, not, ◌&&◌, ◌||◌, refl, arith, Option, Some, None, is_none, unwrap_or}
use Rattle.std.proofs.lemmas.Int.{ints}
use Rattle.std.proofs.lemmas.Bool.Decides.{Decides-int_eq}
use Rattle.std.specs.Int.{is_negative}
use Rattle.std.specs.Option.{ForSome}
use Rattle.std.specs.Ordering.{int_eq}
use Rattle.index_intervals.specs.Bounds.{Bounds, AreBounds, IsIndex, is_index, minus_infinity, plus_infinity}
use Rattle.index_intervals.specs.Slice.{slice_start, slice_stop, is_open, is_backward}
use Rattle.index_intervals.proofs.MemberLemmas.{is_index-true}
use Rattle.index_intervals.proofs.SlicingLemmas.{IsRange}

pub not_negative : (k : ℕ) → is_negative (pos k) ≡ false
not_negative k = grind (arith, ints)

-- neither part is open, or the step is 1
closed_parts : (t p q : Bool) → (not t && (p || q)) ≡ false → (t ≡ true) ⊎ ((p ≡ false) × (q ≡ false))
closed_parts true p q e = inl refl
closed_parts false true q e = cc
closed_parts false false q e = inr (refl, e)

-- a part that is closed is a finite index: the one given or, where it is left out, the bound
closed_index : (o : Option ℤ) (d : ℤ) → ForSome o IsIndex → (is_none o && not (is_index d)) ≡ false → IsIndex (unwrap_or o d)
closed_index None d f e = is_index-true d (told (is_index d) e)
  where
    told : (b : Bool) → not b ≡ false → b ≡ true
    told true h = refl
    told false h = cc
closed_index (Some x) d f e = f x refl

-- a part that is given is a finite index
lies : (o : Option ℤ) (d least most : ℤ) → ForSome o IsIndex → least ≤ℤ d → d ≤ℤ most
    → least ≤ℤ (minus_infinity +ℤ pos 1) → (plus_infinity -ℤ pos 1) ≤ℤ most
    → (least ≤ℤ unwrap_or o d) × (unwrap_or o d ≤ℤ most)
lies None d least most f p q r s = (p, q)
lies (Some x) d least most f p q r s =
    let i = f x refl in
    (omega (arith, ints, i.above), omega (arith, ints, i.below))

-- one past a bound that is closed
closed_past : (o : Option ℤ) (d e : ℤ) → ForSome o IsIndex → (is_none o && not (is_index d)) ≡ false → e ≡ d +ℤ pos 1
    → unwrap_or o e ≤ℤ plus_infinity
closed_past None d e f h k =
    let i = closed_index None d f h in
    omega (arith, ints, i.below)
closed_past (Some x) d e f h k =
    let i = f x refl in
    omega (arith, ints, i.below)

closed_before : (o : Option ℤ) (d e : ℤ) → ForSome o IsIndex → (is_none o && not (is_index d)) ≡ false → e ≡ d -ℤ pos 1
    → minus_infinity ≤ℤ unwrap_or o e
closed_before None d e f h k =
    let i = closed_index None d f h in
    omega (arith, ints, i.above)
closed_before (Some x) d e f h k =
    let i = f x refl in
    omega (arith, ints, i.above)

-- for a positive step
pub IsRange-up : (b : Bounds) (start stop : Option ℤ) (k : ℕ) → AreBounds b → ForSome start IsIndex → ForSome stop IsIndex
    → is_open b start stop (pos (suc k)) ≡ false
    → is_backward (pos (suc k)) (slice_start b start (pos (suc k))) (slice_stop b stop (pos (suc k))) ≡ false
    → IsRange (pos (suc k)) (slice_start b start (pos (suc k))) (slice_stop b stop (pos (suc k)))
IsRange-up b start stop k p f g o w =
    let e = not_negative (suc k) in
    let o2 = (rw e at o) in
    let w2 = (rw e at w) in
    rw e (shape o2 w2)
  where
    shape : (not (int_eq (pos (suc k)) (pos 1)) && ((is_none start && not (is_index b.lo)) || (is_none stop && not (is_index b.hi)))) ≡ false
        → Rattle.std.specs.Int.RustNames.int_lt (unwrap_or stop (b.hi +ℤ pos 1)) (unwrap_or start b.lo) ≡ false
        → IsRange (pos (suc k)) (unwrap_or start b.lo) (unwrap_or stop (b.hi +ℤ pos 1))
    shape o w =
        let a = lies start b.lo minus_infinity (plus_infinity -ℤ pos 1) f p.lo_from (omega (arith, ints, p.lo_below)) (omega (arith, ints)) (omega (arith, ints)) in
        let z = lies stop (b.hi +ℤ pos 1) (minus_infinity +ℤ pos 1) (plus_infinity +ℤ pos 1) g (omega (arith, ints, p.hi_above)) (omega (arith, ints, p.hi_to)) (omega (arith, ints)) (omega (arith, ints)) in
        record {
          from_least = a.0;
          from_below = omega (arith, ints, a.1);
          to_above = omega (arith, ints, z.0);
          to_most = z.1;
          ordered = grind (arith, ints, w);
          finite = elim (closed_parts (int_eq (pos (suc k)) (pos 1)) (is_none start && not (is_index b.lo)) (is_none stop && not (is_index b.hi)) o) [
            | inl one ↦ inl ((Decides-int_eq (pos (suc k)) (pos 1)).0 one)
            | inr both ↦ inr ((closed_index start b.lo f both.0).above, closed_past stop b.hi (b.hi +ℤ pos 1) g both.1 refl)
          ];
        }

-- for a negative step, of the negated numbers
pub IsRange-down : (b : Bounds) (start stop : Option ℤ) (k : ℕ) → AreBounds b → ForSome start IsIndex → ForSome stop IsIndex
    → is_open b start stop (negsuc k) ≡ false
    → is_backward (negsuc k) (slice_start b start (negsuc k)) (slice_stop b stop (negsuc k)) ≡ false
    → IsRange (pos (suc k)) (neg_ℤ (slice_start b start (negsuc k))) (neg_ℤ (slice_stop b stop (negsuc k)))
IsRange-down b start stop k p f g o w = elim (closed_parts false (is_none stop && not (is_index b.lo)) (is_none start && not (is_index b.hi)) o) [
  | inl one ↦ cc
  | inr both ↦
      let a = closed_index start b.hi f both.1 in
      let z = lies stop (b.lo -ℤ pos 1) (minus_infinity -ℤ pos 1) (plus_infinity -ℤ pos 1) g (omega (arith, ints, p.lo_from)) (omega (arith, ints, p.lo_below)) (omega (arith, ints)) (omega (arith, ints)) in
      let y = closed_before stop b.lo (b.lo -ℤ pos 1) g both.0 refl in
      record {
        from_least = omega (arith, ints, a.below);
        from_below = omega (arith, ints, a.above);
        to_above = omega (arith, ints, z.1);
        to_most = omega (arith, ints, z.0);
        ordered = grind (arith, ints, w);
        finite = inr (omega (arith, ints, a.below), omega (arith, ints, y));
      }
]
