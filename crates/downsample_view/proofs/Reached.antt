-- Each new cell has a cell of the domain.
use Rattle.std.proofs.Common.{◌≡◌, ℕ, ℤ, pos, ◌+ℤ◌, ◌-ℤ◌, ◌*ℤ◌, ◌≤ℤ◌, ◌<ℤ◌, int_le, int_lt, unsigned_abs, Bool, true, false, cond, List, [], ◌∷◌, length, refl, arith}
use Rattle.std.proofs.lemmas.Int.{ints}
use Rattle.std.specs.List.{AllByRecursion}
use Rattle.cells.proofs.Laws.{both_true}
use Rattle.index_intervals.proofs.Laws.{IsQuotientDown-quotient_down, IsQuotientUp-quotient_up, quotient_up_least, mul_mono}
use Rattle.index_intervals.specs.Bounds.{Bounds}
use Rattle.index_intervals.specs.Stride.{quotient_down, quotient_up}
use Rattle.index_transform.specs.Walks.{IsCell}
use Rattle.downsample_view.specs.Groups.{IsFactor, comes_into, is_in_group, new_dims, new_size, origin_of, HasCell}
use Rattle.downsample_view.specs.declared.method.Method.{Method}
use Rattle.downsample_view.specs.declared.method.Method.TheVariants.{Stride, Min, Max}

-- an old index that comes into a new one
record Reaches (method : Method) (f : ℕ) (d : Bounds) (y : ℤ) : Type 0 where
  x : ℤ
  above : d.lo ≤ℤ x
  below : x ≤ℤ d.hi
  into : comes_into method f y x ≡ true

-- the upper end of a dimension with a cell: a new index below it has its multiple in front of the old end
multiple_below : (f : ℕ) (v y : ℤ) → IsFactor f → y <ℤ quotient_up v (pos f) → (y *ℤ pos f) <ℤ v
multiple_below f v y factor b = told (int_le v (y *ℤ pos f)) refl
  where
    told : (t : Bool) → int_le v (y *ℤ pos f) ≡ t → (y *ℤ pos f) <ℤ v
    told true e =
        let h : v ≤ℤ (y *ℤ pos f) = grind (arith, ints, e) in
        let some = factor.some in
        let p : pos 0 <ℤ pos f = omega (arith, ints, some) in
        let k = (quotient_up_least v (pos f) (quotient_up v (pos f)) y p (IsQuotientUp-quotient_up v (pos f) p)).1 h in
        absurd (omega (arith, ints, k, b))
    told false e = grind (arith, ints, e)

-- a new index lies between the origin and the end
ends : (o e : ℤ) (hi lo y : ℤ) (n : ℕ) → o ≤ℤ e → n ≡ cond (int_lt hi lo) 0 (unsigned_abs (e -ℤ o)) → o ≤ℤ y → y ≤ℤ (o +ℤ pos n -ℤ pos 1) → (lo ≤ℤ hi) × (y <ℤ e)
ends o e hi lo y n order is from to = told (int_lt hi lo) refl is
  where
    told : (t : Bool) → int_lt hi lo ≡ t → n ≡ cond t 0 (unsigned_abs (e -ℤ o)) → (lo ≤ℤ hi) × (y <ℤ e)
    told true f g = absurd (omega (arith, ints, g, from, to))
    told false f g = (grind (arith, ints, f), omega (arith, ints, g, from, to, order))

none_in : (o : ℤ) (hi lo y e : ℤ) (n : ℕ) → n ≡ cond (int_lt hi lo) 0 (unsigned_abs (e -ℤ o)) → o ≤ℤ y → y ≤ℤ (o +ℤ pos n -ℤ pos 1) → lo ≤ℤ hi
none_in o hi lo y e n is from to = told (int_lt hi lo) refl is
  where
    told : (t : Bool) → int_lt hi lo ≡ t → n ≡ cond t 0 (unsigned_abs (e -ℤ o)) → lo ≤ℤ hi
    told true f g = absurd (omega (arith, ints, g, from, to))
    told false f g = grind (arith, ints, f)

-- the end isn't before the origin, where the dimension has a cell
down_order : (f : ℕ) (lo hi : ℤ) → IsFactor f → lo ≤ℤ hi → quotient_down lo (pos f) ≤ℤ quotient_up (hi +ℤ pos 1) (pos f)
down_order f lo hi factor some = told (int_le (quotient_up (hi +ℤ pos 1) (pos f)) (quotient_down lo (pos f))) refl
  where
    told : (t : Bool) → int_le (quotient_up (hi +ℤ pos 1) (pos f)) (quotient_down lo (pos f)) ≡ t → quotient_down lo (pos f) ≤ℤ quotient_up (hi +ℤ pos 1) (pos f)
    told true e =
        let h : quotient_up (hi +ℤ pos 1) (pos f) ≤ℤ quotient_down lo (pos f) = grind (arith, ints, e) in
        let one = factor.some in
        let p : pos 0 <ℤ pos f = omega (arith, ints, one) in
        let q = (IsQuotientDown-quotient_down lo (pos f) p).at_most in
        let k = (quotient_up_least (hi +ℤ pos 1) (pos f) (quotient_up (hi +ℤ pos 1) (pos f)) (quotient_down lo (pos f)) p (IsQuotientUp-quotient_up (hi +ℤ pos 1) (pos f) p)).0 h in
        absurd (omega (arith, ints, k, q, some))
    told false e = grind (arith, ints, e)

up_order : (f : ℕ) (lo hi : ℤ) → IsFactor f → lo ≤ℤ hi → quotient_up lo (pos f) ≤ℤ quotient_up (hi +ℤ pos 1) (pos f)
up_order f lo hi factor some =
    let one = factor.some in
    let p : pos 0 <ℤ pos f = omega (arith, ints, one) in
    let e = quotient_up (hi +ℤ pos 1) (pos f) in
    let k = (quotient_up_least (hi +ℤ pos 1) (pos f) e e p (IsQuotientUp-quotient_up (hi +ℤ pos 1) (pos f) p)).0 (omega (arith, ints)) in
    (quotient_up_least lo (pos f) (quotient_up lo (pos f)) e p (IsQuotientUp-quotient_up lo (pos f) p)).1 (omega (arith, ints, k, some))

-- of a group that begins before the dimension the lower bound, else the group's first cell
group_reaches : (f : ℕ) (d : Bounds) (y : ℤ) → IsFactor f → d.lo ≤ℤ d.hi → quotient_down d.lo (pos f) ≤ℤ y → y <ℤ quotient_up (d.hi +ℤ pos 1) (pos f) → Reaches Min f d y
group_reaches f d y factor some from to = told (int_le d.lo (y *ℤ pos f)) refl
  where
    told : (t : Bool) → int_le d.lo (y *ℤ pos f) ≡ t → Reaches Min f d y
    told true e =
        let h : d.lo ≤ℤ (y *ℤ pos f) = grind (arith, ints, e) in
        let one = factor.some in
        let m = multiple_below f (d.hi +ℤ pos 1) y factor to in
        record {
          x = y *ℤ pos f;
          above = h;
          below = omega (arith, ints, m);
          into = both_true (int_le (y *ℤ pos f) (y *ℤ pos f)) (int_lt (y *ℤ pos f) (y *ℤ pos f +ℤ pos f)) (grind (arith, ints)) (let z : (y *ℤ pos f) <ℤ (y *ℤ pos f +ℤ pos f) = omega (arith, ints, one) in grind (arith, ints, z));
        }
    told false e =
        let h : (y *ℤ pos f) <ℤ d.lo = grind (arith, ints, e) in
        let one = factor.some in
        let p : pos 0 <ℤ pos f = omega (arith, ints, one) in
        let q = (IsQuotientDown-quotient_down d.lo (pos f) p).greatest in
        let m = mul_mono (quotient_down d.lo (pos f)) y (pos f) p from in
        record {
          x = d.lo;
          above = omega (arith, ints);
          below = some;
          into = both_true (int_le (y *ℤ pos f) d.lo) (int_lt d.lo (y *ℤ pos f +ℤ pos f)) (grind (arith, ints, h)) (let z : d.lo <ℤ (y *ℤ pos f +ℤ pos f) = omega (arith, ints, q, m) in grind (arith, ints, z));
        }

multiple_reaches : (f : ℕ) (d : Bounds) (y : ℤ) → IsFactor f → quotient_up d.lo (pos f) ≤ℤ y → y <ℤ quotient_up (d.hi +ℤ pos 1) (pos f) → Reaches Stride f d y
multiple_reaches f d y factor from to =
    let one = factor.some in
    let p : pos 0 <ℤ pos f = omega (arith, ints, one) in
    let m = multiple_below f (d.hi +ℤ pos 1) y factor to in
    record {
      x = y *ℤ pos f;
      above = (quotient_up_least d.lo (pos f) (quotient_up d.lo (pos f)) y p (IsQuotientUp-quotient_up d.lo (pos f) p)).0 from;
      below = omega (arith, ints, m);
      into = grind (arith, ints);
    }

dim_reaches : (method : Method) (f : ℕ) (d : Bounds) (y : ℤ) → IsFactor f → origin_of method f d ≤ℤ y → y ≤ℤ (origin_of method f d +ℤ pos (new_size method f d) -ℤ pos 1) → Reaches method f d y
dim_reaches Stride f d y factor from to =
    let e = quotient_up (d.hi +ℤ pos 1) (pos f) in
    let some = none_in (quotient_up d.lo (pos f)) d.hi d.lo y e (new_size Stride f d) refl from to in
    let p = ends (quotient_up d.lo (pos f)) e d.hi d.lo y (new_size Stride f d) (up_order f d.lo d.hi factor some) refl from to in
    multiple_reaches f d y factor from p.1
dim_reaches Min f d y factor from to =
    let e = quotient_up (d.hi +ℤ pos 1) (pos f) in
    let some = none_in (quotient_down d.lo (pos f)) d.hi d.lo y e (new_size Min f d) refl from to in
    let p = ends (quotient_down d.lo (pos f)) e d.hi d.lo y (new_size Min f d) (down_order f d.lo d.hi factor some) refl from to in
    group_reaches f d y factor some from p.1
dim_reaches Max f d y factor from to =
    let e = quotient_up (d.hi +ℤ pos 1) (pos f) in
    let some = none_in (quotient_down d.lo (pos f)) d.hi d.lo y e (new_size Max f d) refl from to in
    let p = ends (quotient_down d.lo (pos f)) e d.hi d.lo y (new_size Max f d) (down_order f d.lo d.hi factor some) refl from to in
    let r = group_reaches f d y factor some from p.1 in
    record { x = r.x; above = r.above; below = r.below; into = r.into }

pub reached : (method : Method) (fs : List ℕ) (dims : List Bounds) → AllByRecursion IsFactor fs → length fs ≡ length dims → (y : List ℤ) → IsCell (new_dims method fs dims) y → HasCell method fs dims y
reached method [] [] factors same [] cell = ([], (tt, refl))
reached method [] [] factors same (y ∷ ys) cell = absurd cell
reached method [] (d ∷ ds) factors same y cell = absurd (omega (arith, same))
reached method (f ∷ fs) [] factors same y cell = absurd (omega (arith, same))
reached method (f ∷ fs) (d ∷ ds) factors same [] cell = absurd cell
reached method (f ∷ fs) (d ∷ ds) factors same (y ∷ ys) cell =
    let here = dim_reaches method f d y factors.0 cell.0 cell.1 in
    let rest = reached method fs ds factors.1 (omega (arith, same)) ys cell.2 in
    (here.x ∷ rest.0, ((here.above, here.below, rest.1.0), both_true (comes_into method f y here.x) (is_in_group method fs ys rest.0) here.into rest.1.1))
