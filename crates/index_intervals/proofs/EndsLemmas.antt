-- What lies between the ends of a meet, and what the pre-image of an interval is.
use Rattle.std.proofs.Common.{◌≡◌, ◌≢◌, ◌∙◌, ℤ, pos, ◌-ℤ◌, ◌+ℤ◌, ◌*ℤ◌, ◌≤ℤ◌, ◌<ℤ◌, neg_ℤ, ◌↔◌, Bool, true, false, cond, refl, sym, subst, arith, Option, Some, None, List, [], ◌∷◌, map, fold}
use Rattle.std.proofs.lemmas.Int.{ints, clamps}
use Rattle.std.specs.Int.{int_max, int_min, is_negative}
use Rattle.std.specs.Int.RustNames.{int_lt}
use Rattle.std.specs.Option.{option_map, ForSome}
use Rattle.std.specs.List.{AllByRecursion}
use Rattle.index_intervals.specs.Bounds.{Bounds, AreBounds, IsIndex, is_index, minus_infinity, plus_infinity}
use Rattle.index_intervals.specs.Members.{IsMember, IsWithin}
use Rattle.index_intervals.specs.Stride.{quotient_down, quotient_up}
use Rattle.index_intervals.specs.declared.edge.Edge.{Edge}
use Rattle.index_intervals.specs.declared.edge.Ends.{Ends}
use Rattle.index_intervals.specs.Edges.{interval_of, least_from, greatest_to, least_beyond, greatest_before, preimage, IsBetween}
use Rattle.index_intervals.specs.Meet.{greater_at, greater_edge, lesser_at, lesser_edge, cross_at, cross, below, bounds_met, uncrossed, met_all}
use Rattle.std.proofs.Math.IntN.{*ℤ_comm}
use Rattle.index_intervals.proofs.MemberLemmas.{is_index-true, IsIndex-true}
use Rattle.index_intervals.proofs.QuotientLemmas.{IsQuotientDown-quotient_down, IsQuotientUp-quotient_up, quotient_up_least, quotient_down_greatest, neg-*ℤ}
use Rattle.index_intervals.proofs.StrideLemmas.{quotients_ordered}

-- x passes no lower edge, and no upper one
abbrev pub IsAbove : Edge → ℤ → Type 0
IsAbove e x = ForSome e.at (λ low. low ≤ℤ x)

abbrev pub IsBelow : Edge → ℤ → Type 0
IsBelow e x = ForSome e.at (λ high. x ≤ℤ high)

-- the greater of two lower edges is passed where neither is
pub IsAbove-greater : (a b : Edge) (x : ℤ) → IsAbove (greater_edge a b) x ↔ (IsAbove a x × IsAbove b x)
IsAbove-greater a b x = told a.at b.at refl refl
  where
    told : (m n : Option ℤ) → a.at ≡ m → b.at ≡ n → ForSome ((greater_at a b m n).at) (λ low. low ≤ℤ x) ↔ (ForSome m (λ low. low ≤ℤ x) × ForSome n (λ low. low ≤ℤ x))
    told None None p q = ((λ h. (λ y e. cc, λ y e. cc)), (λ h. λ y e. cc))
    told None (Some n) p q = ((λ h. (λ y e. cc, λ y e. h y (q ∙ e))), (λ h. λ y e. h.1 y (sym q ∙ e)))
    told (Some m) None p q = ((λ h. (λ y e. h y (p ∙ e), λ y e. cc)), (λ h. λ y e. h.0 y (sym p ∙ e)))
    told (Some m) (Some n) p q = (
      (λ h. let l = h (int_max m n) refl in (
        (λ y e. let s : m ≡ y = cc in omega (arith, ints, clamps)),
        (λ y e. let s : n ≡ y = cc in omega (arith, ints, clamps)),
      )),
      (λ h. λ y e. let s : int_max m n ≡ y = cc in let k = h.0 m refl in let l = h.1 n refl in omega (arith, ints, clamps)),
    )

pub IsBelow-lesser : (a b : Edge) (x : ℤ) → IsBelow (lesser_edge a b) x ↔ (IsBelow a x × IsBelow b x)
IsBelow-lesser a b x = told a.at b.at refl refl
  where
    told : (m n : Option ℤ) → a.at ≡ m → b.at ≡ n → ForSome ((lesser_at a b m n).at) (λ high. x ≤ℤ high) ↔ (ForSome m (λ high. x ≤ℤ high) × ForSome n (λ high. x ≤ℤ high))
    told None None p q = ((λ h. (λ y e. cc, λ y e. cc)), (λ h. λ y e. cc))
    told None (Some n) p q = ((λ h. (λ y e. cc, λ y e. h y (q ∙ e))), (λ h. λ y e. h.1 y (sym q ∙ e)))
    told (Some m) None p q = ((λ h. (λ y e. h y (p ∙ e), λ y e. cc)), (λ h. λ y e. h.0 y (sym p ∙ e)))
    told (Some m) (Some n) p q = (
      (λ h. let l = h (int_min m n) refl in (
        (λ y e. let s : m ≡ y = cc in omega (arith, ints, clamps)),
        (λ y e. let s : n ≡ y = cc in omega (arith, ints, clamps)),
      )),
      (λ h. λ y e. let s : int_min m n ≡ y = cc in let k = h.0 m refl in let l = h.1 n refl in omega (arith, ints, clamps)),
    )

-- the bounds that are met are passed where none of them is
above_fold : (e : Edge) (es : List Edge) (x : ℤ) → IsAbove (fold greater_edge e es) x ↔ (IsAbove e x × AllByRecursion (λ d. IsAbove d x) es)
above_fold e [] x = ((λ h. (h, tt)), (λ h. h.0))
above_fold e (d ∷ es) x =
    let more = above_fold (greater_edge e d) es x in
    let two = IsAbove-greater e d x in (
      (λ h. let m = more.0 h in let t = two.0 m.0 in (t.0, (t.1, m.1))),
      (λ h. more.1 (two.1 (h.0, h.1.0), h.1.1)),
    )

below_fold : (e : Edge) (es : List Edge) (x : ℤ) → IsBelow (fold lesser_edge e es) x ↔ (IsBelow e x × AllByRecursion (λ d. IsBelow d x) es)
below_fold e [] x = ((λ h. (h, tt)), (λ h. h.0))
below_fold e (d ∷ es) x =
    let more = below_fold (lesser_edge e d) es x in
    let two = IsBelow-lesser e d x in (
      (λ h. let m = more.0 h in let t = two.0 m.0 in (t.0, (t.1, m.1))),
      (λ h. more.1 (two.1 (h.0, h.1.0), h.1.1)),
    )

-- both at once
together : (es : List Ends) (x : ℤ) → AllByRecursion (λ d. IsAbove d x) (map (λ e. e.lower) es) → AllByRecursion (λ d. IsBelow d x) (map (λ e. e.upper) es) → AllByRecursion (λ e. IsBetween e x) es
together [] x l u = tt
together (e ∷ es) x l u = (record { above = l.0; below = u.0 }, together es x l.1 u.1)

lowers : (es : List Ends) (x : ℤ) → AllByRecursion (λ e. IsBetween e x) es → AllByRecursion (λ d. IsAbove d x) (map (λ e. e.lower) es)
lowers [] x h = tt
lowers (e ∷ es) x h = (h.0.above, lowers es x h.1)

uppers : (es : List Ends) (x : ℤ) → AllByRecursion (λ e. IsBetween e x) es → AllByRecursion (λ d. IsBelow d x) (map (λ e. e.upper) es)
uppers [] x h = tt
uppers (e ∷ es) x h = (h.0.below, uppers es x h.1)

pub IsBetween-bounds_met : (e : Ends) (es : List Ends) (x : ℤ) → IsBetween (bounds_met e es) x ↔ (IsBetween e x × AllByRecursion (λ d. IsBetween d x) es)
IsBetween-bounds_met e es x =
    let a = above_fold e.lower (map (λ d. d.lower) es) x in
    let b = below_fold e.upper (map (λ d. d.upper) es) x in (
      (λ h. let l = a.0 h.above in let u = b.0 h.below in (record { above = l.0; below = u.0 }, together es x l.1 u.1)),
      (λ h. record { above = a.1 (h.0.above, lowers es x h.1); below = b.1 (h.0.below, uppers es x h.1) }),
    )

-- putting crossed ends right changes nothing of what lies between them
pub IsBetween-uncrossed : (e : Ends) (x : ℤ) → IsBetween (uncrossed e) x ↔ IsBetween e x
IsBetween-uncrossed e x = told e.lower.at e.upper.at refl refl
  where
    kept : (b : Bool) (m n : Option ℤ) → cross_at m n ≡ b → e.lower.at ≡ m → e.upper.at ≡ n
        → IsBetween (uncrossed e) x ↔ IsBetween e x
    kept false m n c p q =
        let same : cond (cross e) (below e.lower.at) e.upper.at ≡ e.upper.at = rw (p, q, c) refl in (
          (λ h. record { above = h.above; below = subst (λ (o : Option ℤ). ForSome o (λ high. x ≤ℤ high)) same h.below }),
          (λ h. record { above = h.above; below = subst (λ (o : Option ℤ). ForSome o (λ high. x ≤ℤ high)) (sym same) h.below }),
        )
    kept true None n c p q = absurd (let no_such : ⊥ = cc in no_such)
    kept true (Some m) None c p q = absurd (let no_such : ⊥ = cc in no_such)
    kept true (Some m) (Some n) c p q =
        let same : cond (cross e) (below e.lower.at) e.upper.at ≡ Some (m -ℤ pos 1) = rw (p, q, c) refl in (
          (λ h. absurd (let l = h.above m p in let u = h.below (m -ℤ pos 1) same in omega (arith, ints, l, u))),
          (λ h. absurd (let l = h.above m p in let u = h.below n q in let d : (n +ℤ pos 1) <ℤ m = grind (arith, ints, c) in omega (arith, ints, l, u, d))),
        )

    told : (m n : Option ℤ) → e.lower.at ≡ m → e.upper.at ≡ n → IsBetween (uncrossed e) x ↔ IsBetween e x
    told m n p q = kept (cross_at m n) m n refl p q

-- a number lies between the ends of a meet exactly where it lies between those of each
pub IsBetween-met_all : (e : Ends) (es : List Ends) (x : ℤ) → IsBetween (met_all e es) x ↔ (IsBetween e x × AllByRecursion (λ d. IsBetween d x) es)
IsBetween-met_all e es x =
    let u = IsBetween-uncrossed (bounds_met e es) x in
    let m = IsBetween-bounds_met e es x in
    ((λ h. m.0 (u.0 h)), (λ h. u.1 (m.1 h)))

-- a bound of the pre-image is passed exactly where the image passes the interval's bound
pub up_at : (b o s x : ℤ) (t : Bool) → is_index b ≡ t → pos 0 <ℤ s → ForSome (option_map (least_from o s) (cond t (Some b) None)) (λ low. low ≤ℤ x) ↔ (IsIndex b → b ≤ℤ (o +ℤ s *ℤ x))
up_at b o s x true e h =
    let q = quotient_up_least (b -ℤ o) s (quotient_up (b -ℤ o) s) x h (IsQuotientUp-quotient_up (b -ℤ o) s h) in
    let c = *ℤ_comm s x in (
      (λ f. λ i. let l = q.0 (f (quotient_up (b -ℤ o) s) refl) in omega (arith, ints, l, c)),
      (λ f. λ y z. let same : quotient_up (b -ℤ o) s ≡ y = cc in let l = f (is_index-true b e) in let g : (b -ℤ o) ≤ℤ (x *ℤ s) = omega (arith, ints, l, c) in subst (λ (n : ℤ). n ≤ℤ x) same (q.1 g)),
    )
up_at b o s x false e h = (
  (λ f. λ i. absurd (let t = IsIndex-true b i in let no_such : ⊥ = cc in no_such)),
  (λ f. λ y z. cc),
)

pub down_at : (b o s x : ℤ) (t : Bool) → is_index b ≡ t → pos 0 <ℤ s → ForSome (option_map (greatest_to o s) (cond t (Some b) None)) (λ high. x ≤ℤ high) ↔ (IsIndex b → (o +ℤ s *ℤ x) ≤ℤ b)
down_at b o s x true e h =
    let q = quotient_down_greatest (b -ℤ o) s (quotient_down (b -ℤ o) s) x h (IsQuotientDown-quotient_down (b -ℤ o) s h) in
    let c = *ℤ_comm s x in (
      (λ f. λ i. let l = q.0 (f (quotient_down (b -ℤ o) s) refl) in omega (arith, ints, l, c)),
      (λ f. λ y z. let same : quotient_down (b -ℤ o) s ≡ y = cc in let l = f (is_index-true b e) in let g : (x *ℤ s) ≤ℤ (b -ℤ o) = omega (arith, ints, l, c) in subst (λ (n : ℤ). x ≤ℤ n) same (q.1 g)),
    )
down_at b o s x false e h = (
  (λ f. λ i. absurd (let t = IsIndex-true b i in let no_such : ⊥ = cc in no_such)),
  (λ f. λ y z. cc),
)

-- the same for a negative stride
pub beyond_at : (b o s x : ℤ) (t : Bool) → is_index b ≡ t → s <ℤ pos 0 → ForSome (option_map (least_beyond o s) (cond t (Some b) None)) (λ low. low ≤ℤ x) ↔ (IsIndex b → (o +ℤ s *ℤ x) ≤ℤ b)
beyond_at b o s x true e h =
    let p : pos 0 <ℤ neg_ℤ s = omega (arith, ints) in
    let q = quotient_up_least (o -ℤ b) (neg_ℤ s) (quotient_up (o -ℤ b) (neg_ℤ s)) x p (IsQuotientUp-quotient_up (o -ℤ b) (neg_ℤ s) p) in
    let c = *ℤ_comm (neg_ℤ s) x in
    let d = neg-*ℤ s x in (
      (λ f. λ i. let l = q.0 (f (quotient_up (o -ℤ b) (neg_ℤ s)) refl) in omega (arith, ints, l, c, d)),
      (λ f. λ y z. let same : quotient_up (o -ℤ b) (neg_ℤ s) ≡ y = cc in let l = f (is_index-true b e) in let g : (o -ℤ b) ≤ℤ (x *ℤ neg_ℤ s) = omega (arith, ints, l, c, d) in subst (λ (n : ℤ). n ≤ℤ x) same (q.1 g)),
    )
beyond_at b o s x false e h = (
  (λ f. λ i. absurd (let t = IsIndex-true b i in let no_such : ⊥ = cc in no_such)),
  (λ f. λ y z. cc),
)

pub before_at : (b o s x : ℤ) (t : Bool) → is_index b ≡ t → s <ℤ pos 0 → ForSome (option_map (greatest_before o s) (cond t (Some b) None)) (λ high. x ≤ℤ high) ↔ (IsIndex b → b ≤ℤ (o +ℤ s *ℤ x))
before_at b o s x true e h =
    let p : pos 0 <ℤ neg_ℤ s = omega (arith, ints) in
    let q = quotient_down_greatest (o -ℤ b) (neg_ℤ s) (quotient_down (o -ℤ b) (neg_ℤ s)) x p (IsQuotientDown-quotient_down (o -ℤ b) (neg_ℤ s) p) in
    let c = *ℤ_comm (neg_ℤ s) x in
    let d = neg-*ℤ s x in (
      (λ f. λ i. let l = q.0 (f (quotient_down (o -ℤ b) (neg_ℤ s)) refl) in omega (arith, ints, l, c, d)),
      (λ f. λ y z. let same : quotient_down (o -ℤ b) (neg_ℤ s) ≡ y = cc in let l = f (is_index-true b e) in let g : (x *ℤ neg_ℤ s) ≤ℤ (o -ℤ b) = omega (arith, ints, l, c, d) in subst (λ (n : ℤ). x ≤ℤ n) same (q.1 g)),
    )
before_at b o s x false e h = (
  (λ f. λ i. absurd (let t = IsIndex-true b i in let no_such : ⊥ = cc in no_such)),
  (λ f. λ y z. cc),
)

-- a number lies between the ends of a pre-image exactly where its image passes no finite bound of the interval
pub IsBetween-preimage : (b : Bounds) (o s x : ℤ) → s ≢ pos 0 → IsBetween (preimage b o s) x ↔ IsWithin b (o +ℤ s *ℤ x)
IsBetween-preimage b o s x n = told (is_negative s) refl
  where
    told : (t : Bool) → is_negative s ≡ t → IsBetween (preimage b o s) x ↔ IsWithin b (o +ℤ s *ℤ x)
    told true e =
        let h : s <ℤ pos 0 = grind (arith, ints, e) in
        let l = beyond_at b.hi o s x (is_index b.hi) refl h in
        let u = before_at b.lo o s x (is_index b.lo) refl h in (
          (λ m. record { above_lo = u.0 (rw e at m.below); below_hi = l.0 (rw e at m.above) }),
          (λ w. record { above = rw e (l.1 w.below_hi); below = rw e (u.1 w.above_lo) }),
        )
    told false e =
        let h : pos 0 <ℤ s = grind (arith, ints, e, n) in
        let l = up_at b.lo o s x (is_index b.lo) refl h in
        let u = down_at b.hi o s x (is_index b.hi) refl h in (
          (λ m. record { above_lo = l.0 (rw e at m.above); below_hi = u.0 (rw e at m.below) }),
          (λ w. record { above = rw e (l.1 w.above_lo); below = rw e (u.1 w.below_hi) }),
        )

-- the members of the interval between two edges
pub IsMember-interval_of : (l u : Edge) (x : ℤ) → ForSome l.at IsIndex → ForSome u.at IsIndex → IsIndex x
    → IsMember (interval_of l u) x ↔ IsBetween (record { lower = l; upper = u }) x
IsMember-interval_of l u x p q i = told l.at u.at refl refl
  where
    told : (m n : Option ℤ) → l.at ≡ m → u.at ≡ n → IsMember (interval_of l u) x ↔ IsBetween (record { lower = l; upper = u }) x
    told None None e f = (
      (λ w. record { above = λ y z. cc; below = λ y z. cc }),
      (λ w. record { index = i; above_lo = rw e (let a = i.above in omega (arith, ints)); below_hi = rw (e, f) (let a = i.below in omega (arith, ints)) }),
    )
    told None (Some n) e f =
        let k = q n f in
        let c : int_lt (n +ℤ pos 1) minus_infinity ≡ false = let a = k.above in grind (arith, ints, a) in (
          (λ w. record { above = λ y z. cc; below = λ y z. let s : n ≡ y = cc in let b = (rw (e, f, c) at w.below_hi) in subst (λ (v : ℤ). x ≤ℤ v) s b }),
          (λ w. record { index = i; above_lo = rw e (let a = i.above in omega (arith, ints)); below_hi = rw (e, f, c) (w.below n f) }),
        )
    told (Some m) None e f =
        let k = p m e in
        let c : int_lt (plus_infinity +ℤ pos 1) m ≡ false = let a = k.below in grind (arith, ints, a) in (
          (λ w. record { above = λ y z. let s : m ≡ y = cc in let a = (rw e at w.above_lo) in subst (λ (v : ℤ). v ≤ℤ x) s a; below = λ y z. cc }),
          (λ w. record { index = i; above_lo = rw e (w.above m e); below_hi = rw (e, f, c) (let a = i.below in omega (arith, ints)) }),
        )
    told (Some m) (Some n) e f = crossed (int_lt (n +ℤ pos 1) m) refl
      where
        crossed : (b : Bool) → int_lt (n +ℤ pos 1) m ≡ b → IsMember (interval_of l u) x ↔ IsBetween (record { lower = l; upper = u }) x
        crossed true c = (
          (λ w. let a = (rw e at w.above_lo) in let b = (rw (e, f, c) at w.below_hi) in absurd (omega (arith, ints, a, b))),
          (λ w. let a = w.above m e in let b = w.below n f in let d : (n +ℤ pos 1) <ℤ m = grind (arith, ints, c) in absurd (omega (arith, ints, a, b, d))),
        )
        crossed false c = (
          (λ w. record {
            above = λ y z. let s : m ≡ y = cc in let a = (rw e at w.above_lo) in subst (λ (v : ℤ). v ≤ℤ x) s a;
            below = λ y z. let s : n ≡ y = cc in let b = (rw (e, f, c) at w.below_hi) in subst (λ (v : ℤ). x ≤ℤ v) s b;
          }),
          (λ w. record { index = i; above_lo = rw e (w.above m e); below_hi = rw (e, f, c) (w.below n f) }),
        )

not_less : (x y : ℤ) → y ≤ℤ x → int_lt x y ≡ false
not_less x y h = grind (arith, ints)

-- the edges of a pre-image cross by one at most
pub preimage-ordered : (b : Bounds) (o s : ℤ) → s ≢ pos 0 → AreBounds b → cross (preimage b o s) ≡ false
preimage-ordered b o s n p = told (is_negative s) refl
  where
    told : (t : Bool) → is_negative s ≡ t → cross (preimage b o s) ≡ false
    told true e =
        let h : s <ℤ pos 0 = grind (arith, ints, e) in
        rw e (down (is_index b.lo) (is_index b.hi) h)
      where
        down : (v w : Bool) → s <ℤ pos 0 → cross_at (option_map (least_beyond o s) (cond w (Some b.hi) None)) (option_map (greatest_before o s) (cond v (Some b.lo) None)) ≡ false
        down v false h = refl
        down false true h = refl
        down true true h =
            let k : pos 0 <ℤ neg_ℤ s = omega (arith, ints) in
            let a = p.ordered in
            let r : (o -ℤ b.hi) ≤ℤ ((o -ℤ b.lo) +ℤ pos 1) = omega (arith, ints, a) in
            let z = quotients_ordered (o -ℤ b.hi) (o -ℤ b.lo) (neg_ℤ s) (quotient_up (o -ℤ b.hi) (neg_ℤ s)) (quotient_down (o -ℤ b.lo) (neg_ℤ s)) k (IsQuotientUp-quotient_up (o -ℤ b.hi) (neg_ℤ s) k) (IsQuotientDown-quotient_down (o -ℤ b.lo) (neg_ℤ s) k) r in
            not_less (quotient_down (o -ℤ b.lo) (neg_ℤ s) +ℤ pos 1) (quotient_up (o -ℤ b.hi) (neg_ℤ s)) z
    told false e =
        let h : pos 0 <ℤ s = grind (arith, ints, e, n) in
        rw e (up (is_index b.lo) (is_index b.hi) h)
      where
        up : (v w : Bool) → pos 0 <ℤ s → cross_at (option_map (least_from o s) (cond v (Some b.lo) None)) (option_map (greatest_to o s) (cond w (Some b.hi) None)) ≡ false
        up false w h = refl
        up true false h = refl
        up true true h =
            let a = p.ordered in
            let r : (b.lo -ℤ o) ≤ℤ ((b.hi -ℤ o) +ℤ pos 1) = omega (arith, ints, a) in
            let z = quotients_ordered (b.lo -ℤ o) (b.hi -ℤ o) s (quotient_up (b.lo -ℤ o) s) (quotient_down (b.hi -ℤ o) s) h (IsQuotientUp-quotient_up (b.lo -ℤ o) s h) (IsQuotientDown-quotient_down (b.hi -ℤ o) s h) r in
            not_less (quotient_down (b.hi -ℤ o) s +ℤ pos 1) (quotient_up (b.lo -ℤ o) s) z
