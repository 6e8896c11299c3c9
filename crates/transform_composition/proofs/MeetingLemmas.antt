-- What tightening makes of the bounds of one dimension.
use Rattle.std.proofs.Common.{◌≡◌, ◌∙◌, zero, suc, ℕ, ◌+◌, ◌<◌, Bool, true, false, cond, List, [], ◌∷◌, length, get_or, refl, sym, ap, subst, arith, ℤ, pos, ◌+ℤ◌, ◌-ℤ◌, ◌↔◌, ◌≤ℤ◌, Option, Some, None, unwrap_or, not, ◌==◌, Result, Ok, Err}
use Rattle.std.proofs.lemmas.Int.{ints}
use Rattle.std.proofs.lemmas.List.Elements.{All-from_recursion}
use Rattle.std.specs.Option.{option_map, ForSome}
use Rattle.std.specs.Int.RustNames.{int_lt}
use Rattle.std.specs.List.{All, AllByRecursion, list_all}
use Rattle.index_transform.specs.Bounds.{Bounds, AreBounds, IsIndex, is_index, are_bounds, minus_infinity, plus_infinity}
use Rattle.index_transform.specs.Edges.{finite_part, lower_edge, upper_edge, is_open, interval_of, preimage, IsBetween}
use Rattle.index_transform.specs.Meet.{cross_at, below, met_all}
use Rattle.index_transform.specs.declared.Edge.{Edge}
use Rattle.index_transform.specs.declared.Ends.{Ends}
use Rattle.index_transform.proofs.Laws.{IsIndex-true, AreBounds-true, IsMember-interval_of, IsBetween-met_all, lo_infinite, hi_infinite, same_bounds}
use Rattle.index_transform.specs.declared.map.OutMap.{OutMap}
use Rattle.index_transform.proofs.Laws.{all-at}
use Rattle.transform_composition.specs.Reading.{point}
use Rattle.transform_composition.specs.Tightening.{preimages, met, takes, tight_lower, tight_upper, tight_dims, tightened, on_dims, first_overflow_by, unless_overflow_by, unless_outside_by}
use Rattle.transform_composition.specs.Meeting.{beside, Follows, AreMet}
use Rattle.transform_composition.proofs.TightLemmas.{tight_lower-index, tight_upper-index}
use Rattle.transform_composition.proofs.AgreeLemmas.{IsTightened-of}
use Rattle.index_transform.specs.Transforms.{DomainAndMaps, IsTransform}
use Rattle.transform_composition.specs.Inside.{first_outside_by}
use Rattle.transform_composition.specs.declared.error.ComposeError.{ComposeError}
use Rattle.transform_composition.specs.declared.error.ComposeError.TheVariants.{Rank}

-- the edges of the interval between two edges
pub lower_edge-interval_of : (l u : Edge) → ForSome l.at IsIndex → lower_edge (interval_of l u) ≡ l
lower_edge-interval_of l u p = told l.at refl p
  where
    told : (o : Option ℤ) → l.at ≡ o → ForSome o IsIndex → lower_edge (interval_of l u) ≡ l
    told None e p = ap (λ (a : Option ℤ). let r : Edge = record { at = a; implicit = l.implicit } in r) (ap (λ (o : Option ℤ). finite_part (unwrap_or o minus_infinity)) e ∙ sym e)
    told (Some x) e p =
        let i : is_index x ≡ true = IsIndex-true x (p x refl) in
        let f : finite_part x ≡ Some x = rw i refl in
        ap (λ (a : Option ℤ). let r : Edge = record { at = a; implicit = l.implicit } in r) (ap (λ (o : Option ℤ). finite_part (unwrap_or o minus_infinity)) e ∙ f ∙ sym e)

top : (m n : Option ℤ) → ForSome m IsIndex → ForSome n IsIndex
    → finite_part (let lo = unwrap_or m minus_infinity in let hi = unwrap_or n plus_infinity in cond (int_lt (hi +ℤ pos 1) lo) (lo -ℤ pos 1) hi) ≡ cond (cross_at m n) (below m) n
top None None p q = refl
top None (Some y) p q =
    let j = q y refl in
    let i : is_index y ≡ true = IsIndex-true y j in
    let c : int_lt (y +ℤ pos 1) minus_infinity ≡ false = let a = j.above in grind (arith, ints, a) in
    rw (c, i) refl
top (Some x) None p q =
    let c : int_lt (plus_infinity +ℤ pos 1) x ≡ false = let a = (p x refl).below in grind (arith, ints, a) in
    rw c refl
top (Some x) (Some y) p q = told (int_lt (y +ℤ pos 1) x) refl
  where
    told : (b : Bool) → int_lt (y +ℤ pos 1) x ≡ b → finite_part (cond b (x -ℤ pos 1) y) ≡ cond b (Some (x -ℤ pos 1)) (Some y)
    told true c =
        let a = (p x refl).below in
        let d = (q y refl).above in
        let i : is_index (x -ℤ pos 1) ≡ true = grind (arith, ints, a, d, c) in
        rw i refl
    told false c = let i : is_index y ≡ true = IsIndex-true y (q y refl) in rw i refl

pub upper_edge-interval_of : (l u : Edge) → ForSome l.at IsIndex → ForSome u.at IsIndex → upper_edge (interval_of l u) ≡ beside l u
upper_edge-interval_of l u p q = ap (λ (a : Option ℤ). let r : Edge = record { at = a; implicit = u.implicit } in r) (top l.at u.at p q)

-- a bound that is implicit or infinite takes another, and every other bound stays
takes-open : (old e : Edge) → is_open old ≡ true → takes old (Some e) ≡ e
takes-open old e o = rw o refl

takes-kept : (old : Edge) (e : Option Edge) → is_open old ≡ false → takes old e ≡ old
takes-kept old e o = rw o refl

takes-none : (old : Edge) → takes old None ≡ old
takes-none old = told (is_open old)
  where
    told : (t : Bool) → cond t (unwrap_or None old) old ≡ old
    told true = refl
    told false = refl

-- a kept lower bound is found beside the old upper one
kept_lower : (b : Bounds) → AreBounds b → unwrap_or (finite_part b.lo) minus_infinity ≡ b.lo
kept_lower b p = told (is_index b.lo) refl
  where
    told : (t : Bool) → is_index b.lo ≡ t → unwrap_or (cond t (Some b.lo) None) minus_infinity ≡ b.lo
    told true e = refl
    told false e = sym (lo_infinite b p e)

kept_upper : (b : Bounds) → AreBounds b → unwrap_or (finite_part b.hi) plus_infinity ≡ b.hi
kept_upper b p = told (is_index b.hi) refl
  where
    told : (t : Bool) → is_index b.hi ≡ t → unwrap_or (cond t (Some b.hi) None) plus_infinity ≡ b.hi
    told true e = refl
    told false e = sym (hi_infinite b p e)

-- an interval is the one between its edges
pub interval_of-edges : (b : Bounds) → AreBounds b → interval_of (lower_edge b) (upper_edge b) ≡ b
interval_of-edges b p =
    let l = kept_lower b p in
    let h = kept_upper b p in
    rw (l, h) (same_bounds b.lo (cond (int_lt (b.hi +ℤ pos 1) b.lo) (b.lo -ℤ pos 1) b.hi) b.lo b.hi b.lo_implicit b.hi_implicit b.lo_implicit b.hi_implicit refl uncrossed_hi refl refl)
  where
    uncrossed_hi : cond (int_lt (b.hi +ℤ pos 1) b.lo) (b.lo -ℤ pos 1) b.hi ≡ b.hi
    uncrossed_hi = let o = p.ordered in let c : int_lt (b.hi +ℤ pos 1) b.lo ≡ false = grind (arith, ints, o) in rw c refl

-- one dimension
follows : (old : Bounds) (es : List Ends) → AreBounds old → ForSome ((takes (lower_edge old) (option_map (λ m. m.lower) (met es))).at) IsIndex
    → ForSome ((takes (upper_edge old) (option_map (λ m. m.upper) (met es))).at) IsIndex
    → Follows old (interval_of (takes (lower_edge old) (option_map (λ m. m.lower) (met es))) (takes (upper_edge old) (option_map (λ m. m.upper) (met es)))) es
follows old [] b p q =
    ap (λ (e : Edge). interval_of e (takes (upper_edge old) None)) (takes-none (lower_edge old))
    ∙ ap (λ (e : Edge). interval_of (lower_edge old) e) (takes-none (upper_edge old)) ∙ interval_of-edges old b
follows old (e ∷ es) b p q =
    let m = met_all e es in
    let l = takes (lower_edge old) (Some ((met_all e es).lower)) in
    let u = takes (upper_edge old) (Some ((met_all e es).upper)) in
    let low = lower_edge-interval_of l u p in
    let high = upper_edge-interval_of l u p q in
    record {
      lower_open = λ o. low ∙ takes-open (lower_edge old) ((met_all e es).lower) o;
      lower_kept = λ o. low ∙ takes-kept (lower_edge old) (Some ((met_all e es).lower)) o;
      upper_open = λ o. high ∙ ap (λ (x : Edge). beside x u) (sym low) ∙ ap (λ (x : Edge). beside (lower_edge (interval_of l u)) x) (takes-open (upper_edge old) ((met_all e es).upper) o);
      upper_kept = λ o. high ∙ ap (λ (x : Edge). beside x u) (sym low) ∙ ap (λ (x : Edge). beside (lower_edge (interval_of l u)) x) (takes-kept (upper_edge old) (Some ((met_all e es).upper)) o);
      members = λ o r x i.
          let a = takes-open (lower_edge old) ((met_all e es).lower) o in
          let c = takes-open (upper_edge old) ((met_all e es).upper) r in
          let s = IsMember-interval_of l u x p q i in
          let t = IsBetween-met_all e es x in
          let both : IsBetween (record { lower = l; upper = u }) x ↔ IsBetween (met_all e es) x = same_ends l u ((met_all e es).lower) ((met_all e es).upper) x a c in (
            (λ h. All-from_recursion (λ d. IsBetween d x) (e ∷ es) (t.0 (both.0 (s.0 h)))),
            (λ h. s.1 (both.1 (t.1 (recursive (e ∷ es) x h)))),
          );
    }
  where
    same_ends : (l u l' u' : Edge) (x : ℤ) → l ≡ l' → u ≡ u' → IsBetween (record { lower = l; upper = u }) x ↔ IsBetween (record { lower = l'; upper = u' }) x
    same_ends l u l' u' x p q = (
      (λ h. record { above = subst (λ (a : Edge). ForSome a.at (λ low. low ≤ℤ x)) p h.above; below = subst (λ (a : Edge). ForSome a.at (λ high. x ≤ℤ high)) q h.below }),
      (λ h. record { above = subst (λ (a : Edge). ForSome a.at (λ low. low ≤ℤ x)) (sym p) h.above; below = subst (λ (a : Edge). ForSome a.at (λ high. x ≤ℤ high)) (sym q) h.below }),
    )

    recursive : (ds : List Ends) (x : ℤ) → All (λ d. IsBetween d x) ds → AllByRecursion (λ d. IsBetween d x) ds
    recursive [] x h = tt
    recursive (d ∷ ds) x h = (h 0 d (omega arith), recursive ds x (λ k z less. h (suc k) z (omega (arith, less))))

-- each dimension
tight_dims-at : (n : ℕ) (ds outers : List Bounds) (maps : List OutMap) (k : ℕ) → k < length ds
    → get_or (tight_dims n ds outers maps) k point ≡ interval_of (tight_lower (n + k) (get_or ds k point) outers maps) (tight_upper (n + k) (get_or ds k point) outers maps)
tight_dims-at n [] outers maps k h = absurd (omega (arith, h))
tight_dims-at n (d ∷ ds) outers maps zero h = let z : n ≡ n + 0 = omega arith in ap (λ (i : ℕ). interval_of (tight_lower i d outers maps) (tight_upper i d outers maps)) z
tight_dims-at n (d ∷ ds) outers maps (suc k) h =
    let z : (n + 1) + k ≡ n + suc k = omega arith in
    tight_dims-at (n + 1) ds outers maps k (omega (arith, h)) ∙ ap (λ (i : ℕ). interval_of (tight_lower i (get_or ds k point) outers maps) (tight_upper i (get_or ds k point) outers maps)) z

bounds_at : (ds : List Bounds) (k : ℕ) → list_all are_bounds ds ≡ true → k < length ds → AreBounds (get_or ds k point)
bounds_at ds k b h = AreBounds-true (get_or ds k point) (all-at are_bounds ds k (get_or ds k point) b h (inside ds k h))
  where
    inside : (ds : List Bounds) (k : ℕ) → k < length ds → get_or ds k point ≡ get_or ds k (get_or ds k point)
    inside [] k h = absurd (omega (arith, h))
    inside (d ∷ ds) zero h = refl
    inside (d ∷ ds) (suc k) h = inside ds k (omega (arith, h))

pub AreMet-tight : (ds outers : List Bounds) (maps : List OutMap) → list_all are_bounds ds ≡ true → first_overflow_by ds outers maps ≡ None
    → AreMet ds (tight_dims 0 ds outers maps) outers maps
AreMet-tight ds outers maps b n = λ k h.
    let d = get_or ds k point in
    let z : 0 + k ≡ k = omega arith in
    let at = tight_dims-at 0 ds outers maps k h ∙ ap (λ (i : ℕ). interval_of (tight_lower i (get_or ds k point) outers maps) (tight_upper i (get_or ds k point) outers maps)) z in
    let same : get_or ds k point ≡ get_or ds k (get_or ds k point) = inside ds k h in
    subst (λ (new : Bounds). Follows (get_or ds k point) new (preimages preimage k outers maps)) (sym at)
    (follows (get_or ds k point) (preimages preimage k outers maps) (bounds_at ds k b h)
    (tight_lower-index ds outers maps k (get_or ds k point) h same n) (tight_upper-index ds outers maps k (get_or ds k point) h same n))
  where
    inside : (ds : List Bounds) (k : ℕ) → k < length ds → get_or ds k point ≡ get_or ds k (get_or ds k point)
    inside [] k h = absurd (omega (arith, h))
    inside (d ∷ ds) zero h = refl
    inside (d ∷ ds) (suc k) h = inside ds k (omega (arith, h))

-- what it says that tightening answers
none_overflowed : (is os : List Bounds) (gs : List OutMap) (ds : List Bounds) → tightened is os gs ≡ Ok ds → first_overflow_by is os gs ≡ None
none_overflowed is os gs ds e = told (length gs == length os) (first_overflow_by is os gs) (first_outside_by (tight_dims 0 is os gs) os gs) refl e
  where
    told : (b : Bool) (f g : Option ℕ) → first_overflow_by is os gs ≡ f
        → (let r : Result (List Bounds) ComposeError = cond (not b) (Err Rank) (unless_overflow_by f (unless_outside_by g (tight_dims 0 is os gs))) in r) ≡ Ok ds
        → first_overflow_by is os gs ≡ None
    told false f g u e = absurd (let no_such : ⊥ = cc in no_such)
    told true (Some k) g u e = absurd (let no_such : ⊥ = cc in no_such)
    told true None g u e = u

pub AreMet-tightened : (t new : DomainAndMaps) (os ds : List Bounds) → IsTransform t → tightened t.domain.dims os t.maps ≡ Ok ds → new ≡ on_dims t ds
    → AreMet t.domain.dims new.domain.dims os t.maps
AreMet-tightened t new os ds rules e f =
    let i = IsTightened-of t.domain.dims os t.maps ds e in
    let same : new.domain.dims ≡ tight_dims 0 t.domain.dims os t.maps = ap (λ (u : DomainAndMaps). u.domain.dims) f ∙ i.dims in
    subst (λ (news : List Bounds). AreMet t.domain.dims news os t.maps) (sym same)
    (AreMet-tight t.domain.dims os t.maps rules.bounds (none_overflowed t.domain.dims os t.maps ds e))
