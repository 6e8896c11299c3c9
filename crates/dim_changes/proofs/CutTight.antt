-- Cuts that tightening leaves as they are: dimensions that are moved or kept.
use Rattle.std.proofs.Common.{◌≡◌, ◌≢◌, ◌∙◌, Bool, true, false, cond, ◌&&◌, ◌||◌, refl, ap, subst, arith, ℤ, pos, neg_ℤ, ◌≤ℤ◌, ◌+ℤ◌, ◌-ℤ◌, ◌*ℤ◌, int_le, Option, Some, None}
use Rattle.std.proofs.lemmas.Int.{ints}
use Rattle.std.proofs.Math.IntN.{*ℤ_comm, *ℤ-one, one}
use Rattle.std.specs.Option.{option_map}
use Rattle.std.specs.Int.RustNames.{int_lt}
use Rattle.index_intervals.specs.Bounds.{Bounds, AreBounds, IsIndex, is_index, minus_infinity, plus_infinity}
use Rattle.index_intervals.specs.Members.{IsEffectiveMember}
use Rattle.index_intervals.specs.Shift.{moved, shifted, CanShift}
use Rattle.index_intervals.proofs.Laws.{is_index-true, IsIndex-true, lo_infinite, hi_infinite, same_bounds, AreBounds-shifted}
use Rattle.index_intervals.specs.Edges.{finite_part, lower_edge, upper_edge, least_from, greatest_to, preimage_lower, preimage_upper}
use Rattle.transform_composition.specs.Inside.{goes_down, end_inside, are_ends_inside}
use Rattle.transform_composition.specs.Tightening.{is_open}
use Rattle.transform_composition.specs.Values.{is_effective}
use Rattle.dim_changes.specs.declared.cut.Cut.{Cut}
use Rattle.dim_changes.specs.Cuts.{kept}
use Rattle.dim_changes.specs.Emptied.{stays_infinite, empty_dim, emptied}
use Rattle.dim_changes.proofs.TightBounds.{Edge, quotient_up-one, quotient_down-one}
use Rattle.cells.proofs.Laws.{both_true}

-- a cut of a dimension: tightening finds each of its bounds again, and it lies inside the dimension
pub record IsTightCut (b : Bounds) (cut : Cut) : Type 0 where
  pub bounds : AreBounds cut.dim
  pub nonzero : cut.stride ≢ pos 0
  pub lower : is_open (lower_edge cut.dim) ≡ true → preimage_lower b cut.offset cut.stride ≡ lower_edge cut.dim
  pub upper : is_open (upper_edge cut.dim) ≡ true → preimage_upper b cut.offset cut.stride ≡ upper_edge cut.dim
  pub inside : are_ends_inside cut.dim b cut.offset cut.stride ≡ true

-- the test of an effective member
pub is_effective-member : (b : Bounds) (x : ℤ) → IsEffectiveMember b x → is_effective b x ≡ true
is_effective-member b x m =
    both_true (is_index x && (b.lo_implicit || int_le b.lo x)) (b.hi_implicit || int_le x b.hi)
    (both_true (is_index x) (b.lo_implicit || int_le b.lo x) (IsIndex-true x m.index) (low b.lo_implicit m.above_lo))
    (high b.hi_implicit m.below_hi)
  where
    low : (f : Bool) → (f ≡ false → b.lo ≤ℤ x) → (f || int_le b.lo x) ≡ true
    low true h = refl
    low false h = let l = h refl in grind (arith, ints)

    high : (f : Bool) → (f ≡ false → x ≤ℤ b.hi) → (f || int_le x b.hi) ≡ true
    high true h = refl
    high false h = let l = h refl in grind (arith, ints)

-- an interval lies inside by its ends
pub ends_inside : (d b : Bounds) (o s : ℤ) → (d.lo ≤ℤ d.hi → end_inside b o s d.lo ≡ true) → (d.lo ≤ℤ d.hi → end_inside b o s d.hi ≡ true)
    → are_ends_inside d b o s ≡ true
ends_inside d b o s l h = told (int_lt d.hi d.lo) refl
  where
    told : (t : Bool) → int_lt d.hi d.lo ≡ t → (t || (end_inside b o s d.lo && end_inside b o s d.hi)) ≡ true
    told true e = refl
    told false e =
        let ordered : d.lo ≤ℤ d.hi = grind (arith, ints) in
        both_true (end_inside b o s d.lo) (end_inside b o s d.hi) (l ordered) (h ordered)

pub end_inside-index : (b : Bounds) (o s x : ℤ) → is_index x ≡ true → IsEffectiveMember b (o +ℤ s *ℤ x) → end_inside b o s x ≡ true
end_inside-index b o s x i m = let e = is_effective-member b (o +ℤ s *ℤ x) m in rw i e

-- an infinite end goes to an infinity, where the interval has it
pub end_inside-down : (b : Bounds) (o s x : ℤ) → is_index x ≡ false → goes_down s x ≡ true → is_index b.lo ≡ false → end_inside b o s x ≡ true
end_inside-down b o s x i g e = let f = infinite b.lo_implicit in rw (i, g, f) refl
  where
    infinite : (t : Bool) → is_index (cond t minus_infinity b.lo) ≡ false
    infinite true = refl
    infinite false = e

pub end_inside-up : (b : Bounds) (o s x : ℤ) → is_index x ≡ false → goes_down s x ≡ false → is_index b.hi ≡ false → end_inside b o s x ≡ true
end_inside-up b o s x i g e = let f = infinite b.hi_implicit in rw (i, g, f) refl
  where
    infinite : (t : Bool) → is_index (cond t plus_infinity b.hi) ≡ false
    infinite true = refl
    infinite false = e

pub one_times : (q : ℤ) → pos 1 *ℤ q ≡ q
unfolding one
one_times q = *ℤ_comm (pos 1) q ∙ *ℤ-one q

-- an edge by its bound
pub edge_at : (f g : Bool) (x y : Option ℤ) → x ≡ y → f ≡ g
    → (let e : Edge = record { at = x; implicit = f } in e) ≡ (let e : Edge = record { at = y; implicit = g } in e)
edge_at f g x y p q = cc

-- Moved dimensions.

-- the pre-image of a bound that moves
part_moved : (f : ℤ → ℤ) (by x : ℤ) → ((y : ℤ) → f y ≡ y +ℤ by) → (IsIndex x → IsIndex (x +ℤ by)) → option_map f (finite_part x) ≡ finite_part (moved by x)
part_moved f by x h c = told (is_index x) refl
  where
    told : (t : Bool) → is_index x ≡ t → option_map f (cond t (Some x) None) ≡ finite_part (cond t (x +ℤ by) x)
    told true e = let i = IsIndex-true (x +ℤ by) (c (is_index-true x e)) in rw i (ap Some (h x))
    told false e = rw e refl

least_moved : (by y : ℤ) → least_from (neg_ℤ by) (pos 1) y ≡ y +ℤ by
least_moved by y = quotient_up-one (y -ℤ neg_ℤ by) ∙ omega (arith, ints)

greatest_moved : (by y : ℤ) → greatest_to (neg_ℤ by) (pos 1) y ≡ y +ℤ by
greatest_moved by y = quotient_down-one (y -ℤ neg_ℤ by) ∙ omega (arith, ints)

-- a moved bound goes back to where it was
goes_back : (by x : ℤ) → neg_ℤ by +ℤ pos 1 *ℤ (x +ℤ by) ≡ x
goes_back by x = let e = one_times (x +ℤ by) in omega (arith, ints, e)

moved-inside-lo : (b : Bounds) (by : ℤ) → AreBounds b → CanShift b by → moved by b.lo ≤ℤ moved by b.hi
    → end_inside b (neg_ℤ by) (pos 1) (moved by b.lo) ≡ true
moved-inside-lo b by p c l = told (is_index b.lo) (is_index b.hi) refl refl l
  where
    told : (s t : Bool) → is_index b.lo ≡ s → is_index b.hi ≡ t → (cond s (b.lo +ℤ by) b.lo) ≤ℤ (cond t (b.hi +ℤ by) b.hi)
        → end_inside b (neg_ℤ by) (pos 1) (cond s (b.lo +ℤ by) b.lo) ≡ true
    told false t e f l =
        let lo = lo_infinite b p e in
        let g : goes_down (pos 1) b.lo ≡ true = rw lo refl in
        end_inside-down b (neg_ℤ by) (pos 1) b.lo e g e
    told true true e f l =
        let i = is_index-true b.lo e in
        end_inside-index b (neg_ℤ by) (pos 1) (b.lo +ℤ by) (IsIndex-true (b.lo +ℤ by) (c.lo i))
        (rw goes_back (record { index = i; above_lo = λ _. omega (arith, ints); below_hi = λ _. omega (arith, ints) }))
    told true false e f l =
        let i = is_index-true b.lo e in
        let hi = hi_infinite b p f in
        end_inside-index b (neg_ℤ by) (pos 1) (b.lo +ℤ by) (IsIndex-true (b.lo +ℤ by) (c.lo i))
        (rw goes_back (record { index = i; above_lo = λ _. omega (arith, ints); below_hi = λ _. omega (arith, ints, i.below) }))

moved-inside-hi : (b : Bounds) (by : ℤ) → AreBounds b → CanShift b by → moved by b.lo ≤ℤ moved by b.hi
    → end_inside b (neg_ℤ by) (pos 1) (moved by b.hi) ≡ true
moved-inside-hi b by p c l = told (is_index b.lo) (is_index b.hi) refl refl l
  where
    told : (s t : Bool) → is_index b.lo ≡ s → is_index b.hi ≡ t → (cond s (b.lo +ℤ by) b.lo) ≤ℤ (cond t (b.hi +ℤ by) b.hi)
        → end_inside b (neg_ℤ by) (pos 1) (cond t (b.hi +ℤ by) b.hi) ≡ true
    told s false e f l =
        let hi = hi_infinite b p f in
        let g : goes_down (pos 1) b.hi ≡ false = rw hi refl in
        end_inside-up b (neg_ℤ by) (pos 1) b.hi f g f
    told true true e f l =
        let i = is_index-true b.hi f in
        end_inside-index b (neg_ℤ by) (pos 1) (b.hi +ℤ by) (IsIndex-true (b.hi +ℤ by) (c.hi i))
        (rw goes_back (record { index = i; above_lo = λ _. omega (arith, ints); below_hi = λ _. omega (arith, ints) }))
    told false true e f l =
        let i = is_index-true b.hi f in
        let lo = lo_infinite b p e in
        end_inside-index b (neg_ℤ by) (pos 1) (b.hi +ℤ by) (IsIndex-true (b.hi +ℤ by) (c.hi i))
        (rw goes_back (record { index = i; above_lo = λ _. omega (arith, ints, i.above); below_hi = λ _. omega (arith, ints) }))

pub IsTightCut-moved : (b : Bounds) (by : ℤ) → AreBounds b → CanShift b by → IsTightCut b (record { dim = shifted b by; offset = neg_ℤ by; stride = pos 1 })
IsTightCut-moved b by p c = record {
  bounds = AreBounds-shifted b by p c;
  nonzero = λ e. omega (arith, ints, e);
  lower = λ _. edge_at b.lo_implicit b.lo_implicit (option_map (least_from (neg_ℤ by) (pos 1)) (finite_part b.lo)) (finite_part (moved by b.lo))
      (part_moved (least_from (neg_ℤ by) (pos 1)) by b.lo (least_moved by) c.lo) refl;
  upper = λ _. edge_at b.hi_implicit b.hi_implicit (option_map (greatest_to (neg_ℤ by) (pos 1)) (finite_part b.hi)) (finite_part (moved by b.hi))
      (part_moved (greatest_to (neg_ℤ by) (pos 1)) by b.hi (greatest_moved by) c.hi) refl;
  inside = ends_inside (shifted b by) b (neg_ℤ by) (pos 1) (moved-inside-lo b by p c) (moved-inside-hi b by p c);
}

-- a dimension that is kept is moved by 0
moved-zero : (x : ℤ) → moved (pos 0) x ≡ x
moved-zero x = told (is_index x)
  where
    told : (t : Bool) → cond t (x +ℤ pos 0) x ≡ x
    told true = omega (arith, ints)
    told false = refl

pub IsTightCut-kept : (b : Bounds) → AreBounds b → IsTightCut b (kept b)
IsTightCut-kept b p =
    let still = IsTightCut-moved b (pos 0) p (record { lo = λ i. rw zero_more i; hi = λ i. rw zero_more i }) in
    let same : shifted b (pos 0) ≡ b = same_bounds (moved (pos 0) b.lo) (moved (pos 0) b.hi) b.lo b.hi b.lo_implicit b.hi_implicit b.lo_implicit b.hi_implicit
    (moved-zero b.lo) (moved-zero b.hi) refl refl in
    subst (λ (d : Bounds). IsTightCut b (record { dim = d; offset = pos 0; stride = pos 1 })) same still
  where
    zero_more : (x : ℤ) → x +ℤ pos 0 ≡ x
    zero_more x = omega (arith, ints)

-- an empty interval is tight by any map
pub IsTightCut-empty : (b : Bounds) (o s : ℤ) → s ≢ pos 0 → IsTightCut b (record { dim = empty_dim; offset = o; stride = s })
IsTightCut-empty b o s n = record {
  bounds = record { lo_from = omega (arith, ints); lo_below = omega (arith, ints); hi_above = omega (arith, ints); hi_to = omega (arith, ints); ordered = omega (arith, ints) };
  nonzero = n;
  lower = λ e. cc;
  upper = λ e. cc;
  inside = refl;
}

-- a cut with an empty interval in place of one that stays infinite
abbrev pub emptied_cut : Bounds → Cut → Cut
emptied_cut b cut = record { dim = emptied b cut.dim; offset = cut.offset; stride = cut.stride }

pub IsTightCut-emptied : (b : Bounds) (cut : Cut) → IsTightCut b cut → IsTightCut b (emptied_cut b cut)
IsTightCut-emptied b cut t = told (stays_infinite b cut.dim)
  where
    told : (e : Bool) → IsTightCut b (record { dim = cond e empty_dim cut.dim; offset = cut.offset; stride = cut.stride })
    told true = IsTightCut-empty b cut.offset cut.stride t.nonzero
    told false = t
