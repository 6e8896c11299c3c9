-- Dimensions of which every so many indices are taken: tightening leaves them as they are.
use Rattle.std.proofs.Common.{◌≡◌, ◌≢◌, ◌∙◌, zero, suc, Bool, true, false, cond, not, ◌&&◌, ◌||◌, refl, ap, subst, arith, ℤ, pos, negsuc, neg_ℤ, ◌≤ℤ◌, ◌<ℤ◌, ◌+ℤ◌, ◌-ℤ◌, ◌*ℤ◌, Some, None}
use Rattle.std.proofs.lemmas.Int.{ints}
use Rattle.std.proofs.Math.IntN.{*ℤ_comm}
use Rattle.std.specs.Option.{option_map}
use Rattle.index_intervals.specs.Bounds.{Bounds, AreBounds, IsIndex, is_index, minus_infinity, plus_infinity}
use Rattle.index_intervals.specs.Members.{IsMember, IsEffectiveMember, IsWithin, is_finite}
use Rattle.index_intervals.specs.Stride.{quotient_up, quotient_down, mirrored, strided}
use Rattle.index_intervals.proofs.Laws.{is_index-true, IsIndex-true, lo_infinite, hi_infinite, IsQuotientUp-quotient_up, IsQuotientDown-quotient_down, not_negative, AreBounds-contracted, IsMember-contracted, IsWithin-facing, IsIndex-up, IsIndex-down}
use Rattle.index_intervals.specs.Edges.{finite_part, lower_edge, upper_edge, least_from, least_beyond, greatest_to, greatest_before, preimage_lower, preimage_upper}
use Rattle.transform_composition.specs.Inside.{goes_down, end_inside}
use Rattle.dim_changes.specs.Emptied.{stays_infinite}
use Rattle.dim_changes.proofs.CutTight.{IsTightCut, ends_inside, end_inside-index, end_inside-down, end_inside-up, edge_at}
use Rattle.cells.proofs.Laws.{both, both_true}

-- the pre-image of a bound that is divided
part_divided : (f : ℤ → ℤ) (x q : ℤ) → f x ≡ q → (IsIndex x → IsIndex q) → option_map f (finite_part x) ≡ finite_part (cond (is_index x) q x)
part_divided f x q h c = told (is_index x) refl
  where
    told : (t : Bool) → is_index x ≡ t → option_map f (cond t (Some x) None) ≡ finite_part (cond t q x)
    told true e = let i = IsIndex-true q (c (is_index-true x e)) in rw i (ap Some h)
    told false e = rw e refl

-- the same where the bound's negation is
part_negated : (f : ℤ → ℤ) (x q : ℤ) → f x ≡ q → (IsIndex (neg_ℤ x) → IsIndex q)
    → option_map f (finite_part x) ≡ finite_part (cond (is_index (neg_ℤ x)) q (neg_ℤ x))
part_negated f x q h c = told (is_index x) refl
  where
    negated : (t : Bool) → is_index x ≡ t → is_index (neg_ℤ x) ≡ t
    negated true e =
        let i = is_index-true x e in
        IsIndex-true (neg_ℤ x) (record { above = omega (arith, ints, i.below); below = omega (arith, ints, i.above) })
    negated false e = other (is_index (neg_ℤ x)) refl
      where
        other : (s : Bool) → is_index (neg_ℤ x) ≡ s → s ≡ false
        other true g =
            let i = is_index-true (neg_ℤ x) g in
            let j = IsIndex-true x (record { above = omega (arith, ints, i.below); below = omega (arith, ints, i.above) }) in
            cc
        other false g = refl

    told : (t : Bool) → is_index x ≡ t → option_map f (cond t (Some x) None) ≡ finite_part (cond (is_index (neg_ℤ x)) q (neg_ℤ x))
    told true e =
        let n = negated true e in
        let i = IsIndex-true q (c (is_index-true (neg_ℤ x) n)) in
        rw (n, i) (ap Some h)
    told false e = let n = negated false e in rw n (rw n refl)

AreBounds-mirrored : (b : Bounds) → AreBounds b → AreBounds (mirrored b)
AreBounds-mirrored b p = record {
  lo_from = omega (arith, ints, p.hi_to);
  lo_below = omega (arith, ints, p.hi_above);
  hi_above = omega (arith, ints, p.lo_below);
  hi_to = omega (arith, ints, p.lo_from);
  ordered = omega (arith, ints, p.ordered);
}

pub AreBounds-strided : (b : Bounds) (s : ℤ) → AreBounds b → s ≢ pos 0 → AreBounds (strided b s)
AreBounds-strided b (pos zero) p n = absurd (n refl)
AreBounds-strided b (pos (suc k)) p n = let e = not_negative (suc k) in rw e (AreBounds-contracted b (pos (suc k)) p (omega (arith, ints)))
AreBounds-strided b (negsuc k) p n = AreBounds-contracted (mirrored b) (pos (suc k)) (AreBounds-mirrored b p) (omega (arith, ints))

lower-strided : (b : Bounds) (s : ℤ) → AreBounds b → s ≢ pos 0 → preimage_lower b (pos 0) s ≡ lower_edge (strided b s)
lower-strided b (pos zero) p n = absurd (n refl)
lower-strided b (pos (suc k)) p n =
    let e = not_negative (suc k) in
    let h : pos 0 <ℤ pos (suc k) = omega (arith, ints) in
    let q = quotient_up b.lo (pos (suc k)) in
    let z : b.lo -ℤ pos 0 ≡ b.lo = omega (arith, ints) in
    rw e (edge_at b.lo_implicit b.lo_implicit (option_map (least_from (pos 0) (pos (suc k))) (finite_part b.lo)) (finite_part (cond (is_index b.lo) q b.lo))
    (part_divided (least_from (pos 0) (pos (suc k))) b.lo q (ap (λ (x : ℤ). quotient_up x (pos (suc k))) z)
    (IsIndex-up b.lo (pos (suc k)) q h (IsQuotientUp-quotient_up b.lo (pos (suc k)) h))) refl)
lower-strided b (negsuc k) p n =
    let h : pos 0 <ℤ pos (suc k) = omega (arith, ints) in
    let q = quotient_up (neg_ℤ b.hi) (pos (suc k)) in
    let z : pos 0 -ℤ b.hi ≡ neg_ℤ b.hi = omega (arith, ints) in
    edge_at b.hi_implicit b.hi_implicit (option_map (least_beyond (pos 0) (negsuc k)) (finite_part b.hi)) (finite_part (cond (is_index (neg_ℤ b.hi)) q (neg_ℤ b.hi)))
    (part_negated (least_beyond (pos 0) (negsuc k)) b.hi q (ap (λ (x : ℤ). quotient_up x (pos (suc k))) z)
    (IsIndex-up (neg_ℤ b.hi) (pos (suc k)) q h (IsQuotientUp-quotient_up (neg_ℤ b.hi) (pos (suc k)) h))) refl

upper-strided : (b : Bounds) (s : ℤ) → AreBounds b → s ≢ pos 0 → preimage_upper b (pos 0) s ≡ upper_edge (strided b s)
upper-strided b (pos zero) p n = absurd (n refl)
upper-strided b (pos (suc k)) p n =
    let e = not_negative (suc k) in
    let h : pos 0 <ℤ pos (suc k) = omega (arith, ints) in
    let q = quotient_down b.hi (pos (suc k)) in
    let z : b.hi -ℤ pos 0 ≡ b.hi = omega (arith, ints) in
    rw e (edge_at b.hi_implicit b.hi_implicit (option_map (greatest_to (pos 0) (pos (suc k))) (finite_part b.hi)) (finite_part (cond (is_index b.hi) q b.hi))
    (part_divided (greatest_to (pos 0) (pos (suc k))) b.hi q (ap (λ (x : ℤ). quotient_down x (pos (suc k))) z)
    (IsIndex-down b.hi (pos (suc k)) q h (IsQuotientDown-quotient_down b.hi (pos (suc k)) h))) refl)
upper-strided b (negsuc k) p n =
    let h : pos 0 <ℤ pos (suc k) = omega (arith, ints) in
    let q = quotient_down (neg_ℤ b.lo) (pos (suc k)) in
    let z : pos 0 -ℤ b.lo ≡ neg_ℤ b.lo = omega (arith, ints) in
    edge_at b.lo_implicit b.lo_implicit (option_map (greatest_before (pos 0) (negsuc k)) (finite_part b.lo)) (finite_part (cond (is_index (neg_ℤ b.lo)) q (neg_ℤ b.lo)))
    (part_negated (greatest_before (pos 0) (negsuc k)) b.lo q (ap (λ (x : ℤ). quotient_down x (pos (suc k))) z)
    (IsIndex-down (neg_ℤ b.lo) (pos (suc k)) q h (IsQuotientDown-quotient_down (neg_ℤ b.lo) (pos (suc k)) h))) refl

-- a member of the new interval passes no finite bound of the old one
IsWithin-strided : (b : Bounds) (s x : ℤ) → AreBounds b → s ≢ pos 0 → IsMember (strided b s) x → IsWithin b (x *ℤ s)
IsWithin-strided b (pos zero) x p n m = absurd (n refl)
IsWithin-strided b (pos (suc k)) x p n m =
    (IsWithin-facing b (pos (suc k)) x).0
    (let e = not_negative (suc k) in rw e ((IsMember-contracted b (pos (suc k)) p (omega (arith, ints)) x m.index).0 (rw e at m)))
IsWithin-strided b (negsuc k) x p n m =
    (IsWithin-facing b (negsuc k) x).0 ((IsMember-contracted (mirrored b) (pos (suc k)) (AreBounds-mirrored b p) (omega (arith, ints)) x m.index).0 m)

-- the old index of a member of the new interval is an effective member, or no finite index, as it may be where the old interval
-- is infinite on one side
pub IsEffectiveMember-strided : (b : Bounds) (s x : ℤ) → AreBounds b → s ≢ pos 0 → IsMember (strided b s) x → IsIndex (pos 0 +ℤ s *ℤ x)
    → IsEffectiveMember b (pos 0 +ℤ s *ℤ x)
IsEffectiveMember-strided b s x p n m i =
    let w = IsWithin-strided b s x p n m in
    let same : x *ℤ s ≡ pos 0 +ℤ s *ℤ x = *ℤ_comm x s ∙ omega (arith, ints) in
    record {
      index = i;
      above_lo = λ _. low (is_index b.lo) refl w same i;
      below_hi = λ _. high (is_index b.hi) refl w same i;
    }
  where
    low : (t : Bool) → is_index b.lo ≡ t → IsWithin b (x *ℤ s) → x *ℤ s ≡ pos 0 +ℤ s *ℤ x → IsIndex (pos 0 +ℤ s *ℤ x) → b.lo ≤ℤ (pos 0 +ℤ s *ℤ x)
    low true e w q j = let a = w.above_lo (is_index-true b.lo e) in subst (λ (y : ℤ). b.lo ≤ℤ y) q a
    low false e w q j = let a = lo_infinite b p e in omega (arith, ints, j.above)

    high : (t : Bool) → is_index b.hi ≡ t → IsWithin b (x *ℤ s) → x *ℤ s ≡ pos 0 +ℤ s *ℤ x → IsIndex (pos 0 +ℤ s *ℤ x) → (pos 0 +ℤ s *ℤ x) ≤ℤ b.hi
    high true e w q j = let a = w.below_hi (is_index-true b.hi e) in subst (λ (y : ℤ). y ≤ℤ b.hi) q a
    high false e w q j = let a = hi_infinite b p e in omega (arith, ints, j.below)

-- an end that is a finite index has a spot, where there is one
end_reached : (x y : ℤ) → (not (is_index x) || is_index y) ≡ true → is_index x ≡ true → IsIndex y
end_reached x y h e = is_index-true y (rw e at h)

inside-lo : (b : Bounds) (s : ℤ) → AreBounds b → s ≢ pos 0 → (not (is_index (strided b s).lo) || is_index (pos 0 +ℤ s *ℤ (strided b s).lo)) ≡ true
    → (strided b s).lo ≤ℤ (strided b s).hi → end_inside b (pos 0) s (strided b s).lo ≡ true
inside-lo b s p n h l = told (is_index (strided b s).lo) refl
  where
    q : AreBounds (strided b s)
    q = AreBounds-strided b s p n

    -- an infinite lower bound faces an infinite one
    far : (t : ℤ) → t ≢ pos 0 → is_index (strided b t).lo ≡ false → (strided b t).lo ≡ minus_infinity → end_inside b (pos 0) t (strided b t).lo ≡ true
    far (pos zero) m e v = absurd (m refl)
    far (pos (suc k)) m e v =
        let g : goes_down (pos (suc k)) (strided b (pos (suc k))).lo ≡ true = rw v (let f = not_negative (suc k) in rw f refl) in
        end_inside-down b (pos 0) (pos (suc k)) (strided b (pos (suc k))).lo e g (open_lo (is_index b.lo) refl e)
      where
        open_lo : (t : Bool) → is_index b.lo ≡ t → is_index (strided b (pos (suc k))).lo ≡ false → is_index b.lo ≡ false
        open_lo false f e = f
        open_lo true f e =
            let hh : pos 0 <ℤ pos (suc k) = omega (arith, ints) in
            let i = IsIndex-up b.lo (pos (suc k)) (quotient_up b.lo (pos (suc k))) hh (IsQuotientUp-quotient_up b.lo (pos (suc k)) hh) (is_index-true b.lo f) in
            let j = IsIndex-true (quotient_up b.lo (pos (suc k))) i in
            let ng = not_negative (suc k) in
            let z = rw (ng, f) at e in
            cc
    far (negsuc k) m e v =
        let g : goes_down (negsuc k) (strided b (negsuc k)).lo ≡ false = rw v refl in
        end_inside-up b (pos 0) (negsuc k) (strided b (negsuc k)).lo e g (open_hi (is_index b.hi) refl e)
      where
        open_hi : (t : Bool) → is_index b.hi ≡ t → is_index (strided b (negsuc k)).lo ≡ false → is_index b.hi ≡ false
        open_hi false f e = f
        open_hi true f e =
            let hh : pos 0 <ℤ pos (suc k) = omega (arith, ints) in
            let r = is_index-true b.hi f in
            let w : IsIndex (neg_ℤ b.hi) = record { above = omega (arith, ints, r.below); below = omega (arith, ints, r.above) } in
            let i = IsIndex-up (neg_ℤ b.hi) (pos (suc k)) (quotient_up (neg_ℤ b.hi) (pos (suc k))) hh (IsQuotientUp-quotient_up (neg_ℤ b.hi) (pos (suc k)) hh) w in
            let j = IsIndex-true (quotient_up (neg_ℤ b.hi) (pos (suc k))) i in
            let y = IsIndex-true (neg_ℤ b.hi) w in
            let z = rw y at e in
            cc

    told : (t : Bool) → is_index (strided b s).lo ≡ t → end_inside b (pos 0) s (strided b s).lo ≡ true
    told false e = far s n e (lo_infinite (strided b s) q e)
    told true e =
        end_inside-index b (pos 0) s (strided b s).lo e
        (IsEffectiveMember-strided b s (strided b s).lo p n
        (record { index = is_index-true (strided b s).lo e; above_lo = omega (arith, ints); below_hi = l })
        (end_reached (strided b s).lo (pos 0 +ℤ s *ℤ (strided b s).lo) h e))

inside-hi : (b : Bounds) (s : ℤ) → AreBounds b → s ≢ pos 0 → (not (is_index (strided b s).hi) || is_index (pos 0 +ℤ s *ℤ (strided b s).hi)) ≡ true
    → (strided b s).lo ≤ℤ (strided b s).hi → end_inside b (pos 0) s (strided b s).hi ≡ true
inside-hi b s p n h l = told (is_index (strided b s).hi) refl
  where
    q : AreBounds (strided b s)
    q = AreBounds-strided b s p n

    -- an infinite upper bound faces an infinite one
    far : (t : ℤ) → t ≢ pos 0 → is_index (strided b t).hi ≡ false → (strided b t).hi ≡ plus_infinity → end_inside b (pos 0) t (strided b t).hi ≡ true
    far (pos zero) m e v = absurd (m refl)
    far (pos (suc k)) m e v =
        let g : goes_down (pos (suc k)) (strided b (pos (suc k))).hi ≡ false = rw v (let f = not_negative (suc k) in rw f refl) in
        end_inside-up b (pos 0) (pos (suc k)) (strided b (pos (suc k))).hi e g (open_hi (is_index b.hi) refl e)
      where
        open_hi : (t : Bool) → is_index b.hi ≡ t → is_index (strided b (pos (suc k))).hi ≡ false → is_index b.hi ≡ false
        open_hi false f e = f
        open_hi true f e =
            let hh : pos 0 <ℤ pos (suc k) = omega (arith, ints) in
            let i = IsIndex-down b.hi (pos (suc k)) (quotient_down b.hi (pos (suc k))) hh (IsQuotientDown-quotient_down b.hi (pos (suc k)) hh) (is_index-true b.hi f) in
            let j = IsIndex-true (quotient_down b.hi (pos (suc k))) i in
            let ng = not_negative (suc k) in
            let z = rw (ng, f) at e in
            cc
    far (negsuc k) m e v =
        let g : goes_down (negsuc k) (strided b (negsuc k)).hi ≡ true = rw v refl in
        end_inside-down b (pos 0) (negsuc k) (strided b (negsuc k)).hi e g (open_lo (is_index b.lo) refl e)
      where
        open_lo : (t : Bool) → is_index b.lo ≡ t → is_index (strided b (negsuc k)).hi ≡ false → is_index b.lo ≡ false
        open_lo false f e = f
        open_lo true f e =
            let hh : pos 0 <ℤ pos (suc k) = omega (arith, ints) in
            let r = is_index-true b.lo f in
            let w : IsIndex (neg_ℤ b.lo) = record { above = omega (arith, ints, r.below); below = omega (arith, ints, r.above) } in
            let i = IsIndex-down (neg_ℤ b.lo) (pos (suc k)) (quotient_down (neg_ℤ b.lo) (pos (suc k))) hh (IsQuotientDown-quotient_down (neg_ℤ b.lo) (pos (suc k)) hh) w in
            let j = IsIndex-true (quotient_down (neg_ℤ b.lo) (pos (suc k))) i in
            let y = IsIndex-true (neg_ℤ b.lo) w in
            let z = rw y at e in
            cc

    told : (t : Bool) → is_index (strided b s).hi ≡ t → end_inside b (pos 0) s (strided b s).hi ≡ true
    told false e = far s n e (hi_infinite (strided b s) q e)
    told true e =
        end_inside-index b (pos 0) s (strided b s).hi e
        (IsEffectiveMember-strided b s (strided b s).hi p n
        (record { index = is_index-true (strided b s).hi e; above_lo = l; below_hi = omega (arith, ints) })
        (end_reached (strided b s).hi (pos 0 +ℤ s *ℤ (strided b s).hi) h e))

-- a bound that is divided to a finite index was one
index-before : (x q : ℤ) → is_index (cond (is_index x) q x) ≡ true → is_index x ≡ true
index-before x q h = told (is_index x) refl h
  where
    told : (t : Bool) → is_index x ≡ t → is_index (cond t q x) ≡ true → is_index x ≡ true
    told true e f = e
    told false e f = f

index-negated : (x : ℤ) → is_index (neg_ℤ x) ≡ true → is_index x ≡ true
index-negated x e = let i = is_index-true (neg_ℤ x) e in IsIndex-true x (record { above = omega (arith, ints, i.below); below = omega (arith, ints, i.above) })

-- what is finite under a stride was finite
finite-before : (b : Bounds) (s : ℤ) → s ≢ pos 0 → is_finite (strided b s) ≡ true → is_finite b ≡ true
finite-before b (pos zero) n e = absurd (n refl)
finite-before b (pos (suc k)) n e =
    let f = not_negative (suc k) in
    let p = both (is_index (cond (is_index b.lo) (quotient_up b.lo (pos (suc k))) b.lo)) (is_index (cond (is_index b.hi) (quotient_down b.hi (pos (suc k))) b.hi)) (rw f at e) in
    both_true (is_index b.lo) (is_index b.hi) (index-before b.lo (quotient_up b.lo (pos (suc k))) p.0) (index-before b.hi (quotient_down b.hi (pos (suc k))) p.1)
finite-before b (negsuc k) n e =
    let m = mirrored b in
    let p = both (is_index (cond (is_index m.lo) (quotient_up m.lo (pos (suc k))) m.lo)) (is_index (cond (is_index m.hi) (quotient_down m.hi (pos (suc k))) m.hi)) e in
    both_true (is_index b.lo) (is_index b.hi) (index-negated b.lo (index-before m.hi (quotient_down m.hi (pos (suc k))) p.1)) (index-negated b.hi (index-before m.lo (quotient_up m.lo (pos (suc k))) p.0))

-- the multiple of a member was a finite index in a finite interval
pub index-reached : (b : Bounds) (s x : ℤ) → AreBounds b → s ≢ pos 0 → is_finite b ≡ true → IsMember (strided b s) x → IsIndex (pos 0 +ℤ s *ℤ x)
index-reached b s x p n f m =
    let w = IsWithin-strided b s x p n m in
    let same : x *ℤ s ≡ pos 0 +ℤ s *ℤ x = *ℤ_comm x s ∙ omega (arith, ints) in
    let g = both (is_index b.lo) (is_index b.hi) f in
    let l = is_index-true b.lo g.0 in
    let h = is_index-true b.hi g.1 in
    let low = w.above_lo l in
    let high = w.below_hi h in
    subst IsIndex same (record { above = omega (arith, ints, l.above, low); below = omega (arith, ints, h.below, high) })

-- a strided dimension is tight, unless it stays infinite
pub IsTightCut-strided : (b : Bounds) (s : ℤ) → AreBounds b → s ≢ pos 0 → stays_infinite b (strided b s) ≡ false
    → IsTightCut b (record { dim = strided b s; offset = pos 0; stride = s })
IsTightCut-strided b s p n h = record {
  bounds = AreBounds-strided b s p n;
  nonzero = n;
  lower = λ _. lower-strided b s p n;
  upper = λ _. upper-strided b s p n;
  inside = ends_inside (strided b s) b (pos 0) s
      (λ l. inside-lo b s p n (reached (strided b s).lo (λ i. record { index = i; above_lo = omega (arith, ints); below_hi = l })) l)
      (λ l. inside-hi b s p n (reached (strided b s).hi (λ i. record { index = i; above_lo = l; below_hi = omega (arith, ints) })) l);
}
  where
    finite : is_finite b ≡ true
    finite = told (is_finite b) (is_finite (strided b s)) refl refl h
      where
        told : (f g : Bool) → is_finite b ≡ f → is_finite (strided b s) ≡ g → (not f && not g) ≡ false → is_finite b ≡ true
        told true g e d h = e
        told false true e d h = finite-before b s n d
        told false false e d h = cc

    reached : (x : ℤ) → (IsIndex x → IsMember (strided b s) x) → (not (is_index x) || is_index (pos 0 +ℤ s *ℤ x)) ≡ true
    reached x m = told (is_index x) refl
      where
        told : (t : Bool) → is_index x ≡ t → (not t || is_index (pos 0 +ℤ s *ℤ x)) ≡ true
        told false e = refl
        told true e = IsIndex-true (pos 0 +ℤ s *ℤ x) (index-reached b s x p n finite (m (is_index-true x e)))
