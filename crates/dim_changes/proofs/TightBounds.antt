-- One dimension that tightening leaves as it is.
use Rattle.std.proofs.Common.{◌≡◌, ◌∙◌, ℕ, ◌==◌, Bool, true, false, cond, not, ◌&&◌, ◌||◌, map, List, [], ◌∷◌, refl, sym, ap, arith, ℤ, pos, ◌≤ℤ◌, ◌+ℤ◌, ◌-ℤ◌, Option, Some, None, unwrap_or}
use Rattle.std.proofs.lemmas.Int.{ints}
use Rattle.std.proofs.Math.IntN.{*ℤ-one, one}
use Rattle.std.specs.Option.{option_map, ForSome}
use Rattle.std.specs.Ordering.{int_eq}
use Rattle.std.specs.Int.RustNames.{int_lt}
use Rattle.index_intervals.specs.Bounds.{Bounds, AreBounds, IsIndex, is_index, minus_infinity, plus_infinity}
use Rattle.index_intervals.specs.Stride.{quotient_down, quotient_up}
use Rattle.index_intervals.proofs.Laws.{is_index-true, IsIndex-true, lo_infinite, hi_infinite, same_bounds, IsQuotientDown-quotient_down, IsQuotientUp-quotient_up}
use Rattle.transform_composition.specs.declared.OutMap.{OutMap}
use Rattle.index_intervals.specs.declared.edge.Ends.{Ends}
use Rattle.index_intervals.specs.Edges.{finite_part, lower_edge, upper_edge, ends_of, interval_of, is_open, least_from, greatest_to, preimage_lower, preimage_upper, preimage}
use Rattle.index_intervals.specs.Meet.{cross_at, cross, below, bounds_met, uncrossed, met_all}
use Rattle.transform_composition.specs.declared.OutMap.TheVariants.{Constant, Strided, Indexed}
use Rattle.transform_composition.specs.Tightening.{preimages, met, takes, tight_lower, tight_upper, gathered_from, passes_at, passes_below, upper_passes, overflows_at}

-- the type of edges, which has no name outside its crate
abbrev value_of : {E : Type 0} → (Bounds → E) → Type 0
value_of {E} f = E

abbrev pub Edge : Type 0
Edge = value_of lower_edge

-- the quotient by 1
pub quotient_up-one : (x : ℤ) → quotient_up x (pos 1) ≡ x
unfolding one
quotient_up-one x =
    let q = IsQuotientUp-quotient_up x (pos 1) (omega (arith, ints)) in
    let e = *ℤ-one (quotient_up x (pos 1)) in
    omega (arith, ints, q.at_least, q.least, e)

pub quotient_down-one : (x : ℤ) → quotient_down x (pos 1) ≡ x
unfolding one
quotient_down-one x =
    let q = IsQuotientDown-quotient_down x (pos 1) (omega (arith, ints)) in
    let e = *ℤ-one (quotient_down x (pos 1)) in
    omega (arith, ints, q.at_most, q.greatest, e)

-- what is left of an option whose value stays
option_map-same : (f : ℤ → ℤ) → ((x : ℤ) → f x ≡ x) → (o : Option ℤ) → option_map f o ≡ o
option_map-same f h None = refl
option_map-same f h (Some x) = ap Some (h x)

least_from-same : (x : ℤ) → least_from (pos 0) (pos 1) x ≡ x
least_from-same x = quotient_up-one (x -ℤ pos 0) ∙ omega (arith, ints)

greatest_to-same : (x : ℤ) → greatest_to (pos 0) (pos 1) x ≡ x
greatest_to-same x = quotient_down-one (x -ℤ pos 0) ∙ omega (arith, ints)

-- the pre-image of an interval under the identity is the interval
pub preimage_lower-same : (b : Bounds) → preimage_lower b (pos 0) (pos 1) ≡ lower_edge b
preimage_lower-same b =
    ap (λ (o : Option ℤ). let e : Edge = record { at = o; implicit = b.lo_implicit } in e)
    (option_map-same (least_from (pos 0) (pos 1)) least_from-same (finite_part b.lo))

pub preimage_upper-same : (b : Bounds) → preimage_upper b (pos 0) (pos 1) ≡ upper_edge b
preimage_upper-same b =
    ap (λ (o : Option ℤ). let e : Edge = record { at = o; implicit = b.hi_implicit } in e)
    (option_map-same (greatest_to (pos 0) (pos 1)) greatest_to-same (finite_part b.hi))

-- a finite part, or the infinity of its side, is the bound
finite_part-lo : (b : Bounds) → AreBounds b → unwrap_or (finite_part b.lo) minus_infinity ≡ b.lo
finite_part-lo b p = told (is_index b.lo) refl
  where
    told : (t : Bool) → is_index b.lo ≡ t → unwrap_or (cond t (Some b.lo) None) minus_infinity ≡ b.lo
    told true e = refl
    told false e = sym (lo_infinite b p e)

finite_part-hi : (b : Bounds) → AreBounds b → unwrap_or (finite_part b.hi) plus_infinity ≡ b.hi
finite_part-hi b p = told (is_index b.hi) refl
  where
    told : (t : Bool) → is_index b.hi ≡ t → unwrap_or (cond t (Some b.hi) None) plus_infinity ≡ b.hi
    told true e = refl
    told false e = sym (hi_infinite b p e)

crossed : (lo hi : ℤ) → lo ≤ℤ (hi +ℤ pos 1) → (cond (int_lt (hi +ℤ pos 1) lo) (lo -ℤ pos 1) hi) ≡ hi
crossed lo hi h = let e : int_lt (hi +ℤ pos 1) lo ≡ false = grind (arith, ints) in rw e refl

-- an interval is the one between its edges
pub interval_of-edges : (b : Bounds) → AreBounds b → interval_of (lower_edge b) (upper_edge b) ≡ b
interval_of-edges b p =
    let l = finite_part-lo b p in
    let h = finite_part-hi b p in
    rw (l, h) (same_bounds b.lo (cond (int_lt (b.hi +ℤ pos 1) b.lo) (b.lo -ℤ pos 1) b.hi) b.lo b.hi b.lo_implicit b.hi_implicit b.lo_implicit b.hi_implicit
    refl (crossed b.lo b.hi p.ordered) refl refl)

-- a finite bound is a finite index
pub finite_part-index : (x : ℤ) → ForSome (finite_part x) IsIndex
finite_part-index x = told (is_index x) refl
  where
    told : (t : Bool) → is_index x ≡ t → ForSome (cond t (Some x) None) IsIndex
    told true e = λ y q. let same : x ≡ y = cc in rw (← same) (is_index-true x e)
    told false e = λ y q. cc

-- the pre-image of an interval under the identity has its ends
pub preimage-same : (b : Bounds) → preimage b (pos 0) (pos 1) ≡ ends_of b
preimage-same b =
    ap (λ (e : Edge). let r : Ends = record { lower = e; upper = preimage_upper b (pos 0) (pos 1) } in r) (preimage_lower-same b)
    ∙ ap (λ (e : Edge). let r : Ends = record { lower = lower_edge b; upper = e } in r) (preimage_upper-same b)

-- the lower and the upper edges of pre-images
lowers-of : (dim : ℕ) (outers : List Bounds) (maps : List OutMap) → map (λ e. e.lower) (preimages preimage dim outers maps) ≡ preimages preimage_lower dim outers maps
lowers-of dim [] maps = refl
lowers-of dim (o ∷ outers) [] = refl
lowers-of dim (o ∷ outers) (Constant offset ∷ maps) = lowers-of dim outers maps
lowers-of dim (o ∷ outers) (Indexed offset stride sizes entries ∷ maps) = lowers-of dim outers maps
lowers-of dim (o ∷ outers) (Strided offset stride from ∷ maps) = told (from == dim) (lowers-of dim outers maps)
  where
    told : (b : Bool) → map (λ e. e.lower) (preimages preimage dim outers maps) ≡ preimages preimage_lower dim outers maps
        → map (λ e. e.lower) (cond b (preimage o offset stride ∷ preimages preimage dim outers maps) (preimages preimage dim outers maps))
        ≡ cond b (preimage_lower o offset stride ∷ preimages preimage_lower dim outers maps) (preimages preimage_lower dim outers maps)
    told true h = ap (λ (es : List Edge). preimage_lower o offset stride ∷ es) h
    told false h = h

uppers-of : (dim : ℕ) (outers : List Bounds) (maps : List OutMap) → map (λ e. e.upper) (preimages preimage dim outers maps) ≡ preimages preimage_upper dim outers maps
uppers-of dim [] maps = refl
uppers-of dim (o ∷ outers) [] = refl
uppers-of dim (o ∷ outers) (Constant offset ∷ maps) = uppers-of dim outers maps
uppers-of dim (o ∷ outers) (Indexed offset stride sizes entries ∷ maps) = uppers-of dim outers maps
uppers-of dim (o ∷ outers) (Strided offset stride from ∷ maps) = told (from == dim) (uppers-of dim outers maps)
  where
    told : (b : Bool) → map (λ e. e.upper) (preimages preimage dim outers maps) ≡ preimages preimage_upper dim outers maps
        → map (λ e. e.upper) (cond b (preimage o offset stride ∷ preimages preimage dim outers maps) (preimages preimage dim outers maps))
        ≡ cond b (preimage_upper o offset stride ∷ preimages preimage_upper dim outers maps) (preimages preimage_upper dim outers maps)
    told true h = ap (λ (es : List Edge). preimage_upper o offset stride ∷ es) h
    told false h = h

none_of : (es : List Ends) → map (λ e. e.lower) es ≡ [] → es ≡ []
none_of [] p = refl
none_of (e ∷ es) p = absurd (let no_such : ⊥ = cc in no_such)

one_of : (es : List Ends) (low high : Edge) → map (λ e. e.lower) es ≡ low ∷ [] → map (λ e. e.upper) es ≡ high ∷ []
    → es ≡ (let r : Ends = record { lower = low; upper = high } in r) ∷ []
one_of [] low high p q = absurd (let no_such : ⊥ = cc in no_such)
one_of (e ∷ d ∷ es) low high p q = absurd (let no_such : ⊥ = cc in no_such)
one_of (e ∷ []) low high p q =
    let l : e.lower ≡ low = cc in
    let h : e.upper ≡ high = cc in
    ap (λ (x : Edge). (let r : Ends = record { lower = x; upper = e.upper } in r) ∷ []) l
    ∙ ap (λ (x : Edge). (let r : Ends = record { lower = low; upper = x } in r) ∷ []) h

-- a bound that no map goes from stays
takes-none : (old : Edge) → takes old None ≡ old
takes-none old = told (is_open old)
  where
    told : (t : Bool) → cond t (unwrap_or None old) old ≡ old
    told true = refl
    told false = refl

-- a bound from which one map goes stays where it is fixed, or where the pre-image gives it again
takes-some : (old e : Edge) → (is_open old ≡ true → e ≡ old) → takes old (Some e) ≡ old
takes-some old e h = told (is_open old) refl
  where
    told : (t : Bool) → is_open old ≡ t → cond t e old ≡ old
    told true o = h o
    told false o = refl

-- tightening finds the bounds of this dimension again
pub record IsTight (k : ℕ) (dim : Bounds) (outers : List Bounds) (maps : List OutMap) : Type 0 where
  pub lower : tight_lower k dim outers maps ≡ lower_edge dim
  pub upper : tight_upper k dim outers maps ≡ upper_edge dim
  pub bounds : AreBounds dim

-- it does where no map goes from the dimension
pub IsTight-none : (k : ℕ) (dim : Bounds) (outers : List Bounds) (maps : List OutMap) → AreBounds dim
    → preimages preimage_lower k outers maps ≡ [] → preimages preimage_upper k outers maps ≡ [] → IsTight k dim outers maps
IsTight-none k dim outers maps p l u =
    let none = none_of (preimages preimage k outers maps) (lowers-of k outers maps ∙ l) in
    record {
      lower = ap (λ (es : List Ends). takes (lower_edge dim) (option_map (λ m. m.lower) (met es))) none ∙ takes-none (lower_edge dim);
      upper = ap (λ (es : List Ends). takes (upper_edge dim) (option_map (λ m. m.upper) (met es))) none ∙ takes-none (upper_edge dim);
      bounds = p;
    }

-- and where one does, whose pre-image gives each bound that isn't fixed
pub IsTight-one : (k : ℕ) (dim : Bounds) (outers : List Bounds) (maps : List OutMap) (low high : Edge) → AreBounds dim
    → preimages preimage_lower k outers maps ≡ low ∷ [] → preimages preimage_upper k outers maps ≡ high ∷ []
    → cross_at low.at high.at ≡ false
    → (is_open (lower_edge dim) ≡ true → low ≡ lower_edge dim) → (is_open (upper_edge dim) ≡ true → high ≡ upper_edge dim)
    → IsTight k dim outers maps
IsTight-one k dim outers maps low high p l u c g h =
    let one = one_of (preimages preimage k outers maps) low high (lowers-of k outers maps ∙ l) (uppers-of k outers maps ∙ u) in
    let same : (uncrossed (record { lower = low; upper = high })).upper ≡ high = rw c refl in
    record {
      lower = ap (λ (es : List Ends). takes (lower_edge dim) (option_map (λ m. m.lower) (met es))) one ∙ takes-some (lower_edge dim) low g;
      upper = ap (λ (es : List Ends). takes (upper_edge dim) (option_map (λ m. m.upper) (met es))) one
          ∙ takes-some (upper_edge dim) ((uncrossed (record { lower = low; upper = high })).upper) (λ o. same ∙ h o);
      bounds = p;
    }

-- a bound that is a finite index isn't passed
pub passes_at-index : (e tight : Option ℤ) → ForSome tight IsIndex → passes_at e tight ≡ false
passes_at-index None tight h = refl
passes_at-index (Some x) None h = refl
passes_at-index (Some x) (Some y) h = told (int_eq x y) refl
  where
    told : (t : Bool) → int_eq x y ≡ t → (t && not (is_index x)) ≡ false
    told false e = refl
    told true e =
        let same : x ≡ y = grind (arith, ints) in
        let i : is_index y ≡ true = IsIndex-true y (h y refl) in
        rw (same, i) refl

passes_below-index : (e tight : Option ℤ) → ForSome (below tight) IsIndex → passes_below e tight ≡ false
passes_below-index None tight h = refl
passes_below-index (Some x) None h = refl
passes_below-index (Some x) (Some y) h = told (int_eq x y) refl
  where
    told : (t : Bool) → int_eq x y ≡ t → (t && not (is_index (x -ℤ pos 1))) ≡ false
    told false e = refl
    told true e =
        let same : x ≡ y = grind (arith, ints) in
        let i : is_index (y -ℤ pos 1) ≡ true = IsIndex-true (y -ℤ pos 1) (h (y -ℤ pos 1) refl) in
        rw (same, i) refl

-- no pre-image makes a bound overflow where the tightened ones are finite indices or missing
pub overflows-none : (built : Bounds) (es : List Ends) (ends : Ends) → ForSome ((takes (lower_edge built) (option_map (λ m. m.lower) (met es))).at) IsIndex
    → ForSome ((takes (upper_edge built) (option_map (λ m. m.upper) (met es))).at) IsIndex → overflows_at built (gathered_from None es) ends ≡ false
overflows-none built [] ends l u = refl
overflows-none built (e ∷ es) ends l u =
    neither (is_open (lower_edge built) && passes_at ends.lower.at ((bounds_met e es).lower.at)) (is_open (upper_edge built) && upper_passes (bounds_met e es) ends)
    (low (is_open (lower_edge built)) l) (high (is_open (upper_edge built)) u)
  where
    neither : (a b : Bool) → a ≡ false → b ≡ false → (a || b) ≡ false
    neither a b p q = rw (p, q) refl

    low : (t : Bool) → ForSome ((cond t ((met_all e es).lower) (lower_edge built)).at) IsIndex → (t && passes_at ends.lower.at ((bounds_met e es).lower.at)) ≡ false
    low false i = refl
    low true i = passes_at-index ends.lower.at ((bounds_met e es).lower.at) i

    crossed : (c : Bool) → ForSome (cond c (below ((bounds_met e es).lower.at)) ((bounds_met e es).upper.at)) IsIndex
        → cond c (passes_below ends.lower.at ((bounds_met e es).lower.at)) (passes_at ends.upper.at ((bounds_met e es).upper.at)) ≡ false
    crossed true i = passes_below-index ends.lower.at ((bounds_met e es).lower.at) i
    crossed false i = passes_at-index ends.upper.at ((bounds_met e es).upper.at) i

    high : (t : Bool) → ForSome ((cond t ((met_all e es).upper) (upper_edge built)).at) IsIndex → (t && upper_passes (bounds_met e es) ends) ≡ false
    high false i = refl
    high true i = crossed (cross (bounds_met e es)) i
