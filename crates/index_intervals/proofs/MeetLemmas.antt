-- The meet's bounds, members and flags.
use Rattle.std.proofs.Common.{◌≡◌, ◌∙◌, ℤ, pos, ◌-ℤ◌, ◌+ℤ◌, ◌<ℤ◌, ◌↔◌, Bool, true, false, cond, refl, arith, IsTrue, ◌&&◌, ◌||◌, Option, Some, None, unwrap_or, ap, subst, sym}
use Rattle.std.proofs.lemmas.Int.{ints, clamps}
use Rattle.std.specs.Int.{int_max, int_min}
use Rattle.std.specs.Int.RustNames.{int_lt}
use Rattle.index_intervals.specs.Bounds.{Bounds, AreBounds, is_index, minus_infinity, plus_infinity}
use Rattle.index_intervals.specs.Members.{IsMember}
use Rattle.index_intervals.specs.Edges.{lower_edge, upper_edge}
use Rattle.index_intervals.specs.Meet.{greater_at, greater_edge, lesser_at, lesser_edge, cross_at, below, met, IsTieFlag}
use Rattle.index_intervals.proofs.MemberLemmas.{same_bounds, lo_infinite, hi_infinite}

-- the meet of two intervals by their bounds as numbers
abbrev pub plain_met : Bounds → Bounds → Bounds
plain_met a b = record {
  lo = int_max a.lo b.lo;
  hi = int_max (int_min a.hi b.hi) (int_max a.lo b.lo -ℤ pos 1);
  lo_implicit = (int_lt a.lo b.lo || a.lo_implicit) && (int_lt b.lo a.lo || b.lo_implicit);
  hi_implicit = (int_lt b.hi a.hi || a.hi_implicit) && (int_lt a.hi b.hi || b.hi_implicit);
}

flag_first : (s t : Bool) (f g : Bool) → s ≡ false → t ≡ true → f ≡ ((s || f) && (t || g))
flag_first false true true g e h = refl
flag_first false true false g e h = refl
flag_first true t f g e h = absurd (let no_such : ⊥ = cc in no_such)
flag_first false false f g e h = absurd (let no_such : ⊥ = cc in no_such)

flag_second : (s t : Bool) (f g : Bool) → s ≡ true → t ≡ false → g ≡ ((s || f) && (t || g))
flag_second true false f g e h = refl
flag_second false t f g e h = absurd (let no_such : ⊥ = cc in no_such)
flag_second true true f g e h = absurd (let no_such : ⊥ = cc in no_such)

flag_tie : (s t : Bool) (f g : Bool) → s ≡ false → t ≡ false → (f && g) ≡ ((s || f) && (t || g))
flag_tie false false f g e h = refl
flag_tie true t f g e h = absurd (let no_such : ⊥ = cc in no_such)
flag_tie false true f g e h = absurd (let no_such : ⊥ = cc in no_such)

-- the lower edge of the meet
lower_met : (a b : Bounds) → AreBounds a → AreBounds b
    → (unwrap_or ((greater_edge (lower_edge a) (lower_edge b)).at) minus_infinity ≡ int_max a.lo b.lo)
    × ((greater_edge (lower_edge a) (lower_edge b)).implicit ≡ ((int_lt a.lo b.lo || a.lo_implicit) && (int_lt b.lo a.lo || b.lo_implicit)))
lower_met a b p q = told (is_index a.lo) (is_index b.lo) refl refl
  where
    told : (s t : Bool) → is_index a.lo ≡ s → is_index b.lo ≡ t
        → (unwrap_or ((greater_at (record { at = cond s (Some a.lo) None; implicit = a.lo_implicit }) (record { at = cond t (Some b.lo) None; implicit = b.lo_implicit }) (cond s (Some a.lo) None) (cond t (Some b.lo) None)).at) minus_infinity ≡ int_max a.lo b.lo)
        × ((greater_at (record { at = cond s (Some a.lo) None; implicit = a.lo_implicit }) (record { at = cond t (Some b.lo) None; implicit = b.lo_implicit }) (cond s (Some a.lo) None) (cond t (Some b.lo) None)).implicit ≡ ((int_lt a.lo b.lo || a.lo_implicit) && (int_lt b.lo a.lo || b.lo_implicit)))
    told true true e f = (refl, refl)
    told true false e f =
        let i = lo_infinite b q f in
        let m : a.lo ≡ int_max a.lo b.lo = grind (arith, ints, clamps, e, i) in
        let l : int_lt a.lo b.lo ≡ false = grind (arith, ints, e, i) in
        let g : int_lt b.lo a.lo ≡ true = grind (arith, ints, e, i) in
        (m, flag_first (int_lt a.lo b.lo) (int_lt b.lo a.lo) a.lo_implicit b.lo_implicit l g)
    told false true e f =
        let i = lo_infinite a p e in
        let m : b.lo ≡ int_max a.lo b.lo = grind (arith, ints, clamps, f, i) in
        let l : int_lt a.lo b.lo ≡ true = grind (arith, ints, f, i) in
        let g : int_lt b.lo a.lo ≡ false = grind (arith, ints, f, i) in
        (m, flag_second (int_lt a.lo b.lo) (int_lt b.lo a.lo) a.lo_implicit b.lo_implicit l g)
    told false false e f =
        let i = lo_infinite a p e in
        let j = lo_infinite b q f in
        let m : minus_infinity ≡ int_max a.lo b.lo = grind (arith, ints, clamps, i, j) in
        let l : int_lt a.lo b.lo ≡ false = grind (arith, ints, i, j) in
        let g : int_lt b.lo a.lo ≡ false = grind (arith, ints, i, j) in
        (m, flag_tie (int_lt a.lo b.lo) (int_lt b.lo a.lo) a.lo_implicit b.lo_implicit l g)

-- the least upper edge
upper_met : (a b : Bounds) → AreBounds a → AreBounds b
    → (unwrap_or ((lesser_edge (upper_edge a) (upper_edge b)).at) plus_infinity ≡ int_min a.hi b.hi)
    × ((lesser_edge (upper_edge a) (upper_edge b)).implicit ≡ ((int_lt b.hi a.hi || a.hi_implicit) && (int_lt a.hi b.hi || b.hi_implicit)))
upper_met a b p q = told (is_index a.hi) (is_index b.hi) refl refl
  where
    told : (s t : Bool) → is_index a.hi ≡ s → is_index b.hi ≡ t
        → (unwrap_or ((lesser_at (record { at = cond s (Some a.hi) None; implicit = a.hi_implicit }) (record { at = cond t (Some b.hi) None; implicit = b.hi_implicit }) (cond s (Some a.hi) None) (cond t (Some b.hi) None)).at) plus_infinity ≡ int_min a.hi b.hi)
        × ((lesser_at (record { at = cond s (Some a.hi) None; implicit = a.hi_implicit }) (record { at = cond t (Some b.hi) None; implicit = b.hi_implicit }) (cond s (Some a.hi) None) (cond t (Some b.hi) None)).implicit ≡ ((int_lt b.hi a.hi || a.hi_implicit) && (int_lt a.hi b.hi || b.hi_implicit)))
    told true true e f = (refl, refl)
    told true false e f =
        let i = hi_infinite b q f in
        let m : a.hi ≡ int_min a.hi b.hi = grind (arith, ints, clamps, e, i) in
        let l : int_lt b.hi a.hi ≡ false = grind (arith, ints, e, i) in
        let g : int_lt a.hi b.hi ≡ true = grind (arith, ints, e, i) in
        (m, flag_first (int_lt b.hi a.hi) (int_lt a.hi b.hi) a.hi_implicit b.hi_implicit l g)
    told false true e f =
        let i = hi_infinite a p e in
        let m : b.hi ≡ int_min a.hi b.hi = grind (arith, ints, clamps, f, i) in
        let l : int_lt b.hi a.hi ≡ true = grind (arith, ints, f, i) in
        let g : int_lt a.hi b.hi ≡ false = grind (arith, ints, f, i) in
        (m, flag_second (int_lt b.hi a.hi) (int_lt a.hi b.hi) a.hi_implicit b.hi_implicit l g)
    told false false e f =
        let i = hi_infinite a p e in
        let j = hi_infinite b q f in
        let m : plus_infinity ≡ int_min a.hi b.hi = grind (arith, ints, clamps, i, j) in
        let l : int_lt b.hi a.hi ≡ false = grind (arith, ints, i, j) in
        let g : int_lt a.hi b.hi ≡ false = grind (arith, ints, i, j) in
        (m, flag_tie (int_lt b.hi a.hi) (int_lt a.hi b.hi) a.hi_implicit b.hi_implicit l g)

-- where edges cross, the upper one is put right below the lower one, and else it is the greater of the two
upper_kept : (low high : Option ℤ) (lo hi : ℤ) → unwrap_or low minus_infinity ≡ lo → unwrap_or high plus_infinity ≡ hi → lo <ℤ plus_infinity → minus_infinity <ℤ hi
    → (let h = unwrap_or (cond (cross_at low high) (below low) high) plus_infinity in cond (int_lt (h +ℤ pos 1) lo) (lo -ℤ pos 1) h) ≡ int_max hi (lo -ℤ pos 1)
upper_kept None high lo hi e f l h = grind (arith, ints, clamps)
upper_kept (Some x) None lo hi e f l h = grind (arith, ints, clamps)
upper_kept (Some x) (Some y) lo hi e f l h = told (int_lt (y +ℤ pos 1) x) refl
  where
    told : (b : Bool) → int_lt (y +ℤ pos 1) x ≡ b
        → (let h = unwrap_or (cond b (Some (x -ℤ pos 1)) (Some y)) plus_infinity in cond (int_lt (h +ℤ pos 1) lo) (lo -ℤ pos 1) h) ≡ int_max hi (lo -ℤ pos 1)
    told true g = grind (arith, ints, clamps)
    told false g = grind (arith, ints, clamps)

-- the meet is the one by numbers
pub met-plain : (a b : Bounds) → AreBounds a → AreBounds b → met a b ≡ plain_met a b
met-plain a b p q =
    let l = lower_met a b p q in
    let u = upper_met a b p q in
    let below_top : int_max a.lo b.lo <ℤ plus_infinity = let x = p.lo_below in let y = q.lo_below in omega (arith, ints, clamps) in
    let above_bottom : minus_infinity <ℤ int_min a.hi b.hi = let x = p.hi_above in let y = q.hi_above in omega (arith, ints, clamps) in
    let low = (greater_edge (lower_edge a) (lower_edge b)).at in
    let high = (lesser_edge (upper_edge a) (upper_edge b)).at in
    let h = upper_kept low high (int_max a.lo b.lo) (int_min a.hi b.hi) l.0 u.0 below_top above_bottom in
    let same_lo = l.0 in
    same_bounds _ _ _ _ _ _ _ _ l.0 (ap (λ (n : ℤ). let g = unwrap_or (cond (cross_at low high) (below low) high) plus_infinity in cond (int_lt (g +ℤ pos 1) n) (n -ℤ pos 1) g) l.0 ∙ h) l.1 u.1

pub AreBounds-plain_met : (a b : Bounds) → AreBounds a → AreBounds b → AreBounds (plain_met a b)
AreBounds-plain_met a b p q = record {
  lo_from = omega (arith, ints, clamps);
  lo_below = omega (arith, ints, clamps);
  hi_above = omega (arith, ints, clamps);
  hi_to = omega (arith, ints, clamps);
  ordered = omega (arith, ints, clamps);
}

pub AreBounds-met : (a b : Bounds) → AreBounds a → AreBounds b → AreBounds (met a b)
AreBounds-met a b p q = subst AreBounds (sym (met-plain a b p q)) (AreBounds-plain_met a b p q)

pub IsMember-plain_met : (a b : Bounds) (x : ℤ) → IsMember (plain_met a b) x ↔ (IsMember a x × IsMember b x)
IsMember-plain_met a b x = (
  (λ m. (
    record { index = m.index; above_lo = omega (arith, ints, clamps); below_hi = omega (arith, ints, clamps) },
    record { index = m.index; above_lo = omega (arith, ints, clamps); below_hi = omega (arith, ints, clamps) },
  )),
  (λ m. record { index = m.0.index; above_lo = omega (arith, ints, clamps, m.0.above_lo, m.1.above_lo); below_hi = omega (arith, ints, clamps, m.0.below_hi, m.1.below_hi) }),
)

pub IsMember-met : (a b : Bounds) (x : ℤ) → AreBounds a → AreBounds b → IsMember (met a b) x ↔ (IsMember a x × IsMember b x)
IsMember-met a b x p q = subst (λ (v : Bounds). IsMember v x ↔ (IsMember a x × IsMember b x)) (sym (met-plain a b p q)) (IsMember-plain_met a b x)

-- the flag of the greater of two lower bounds, and of the lesser of two upper ones
pub IsTieFlag-greater : (x y : ℤ) (f g : Bool) → IsTieFlag x f y g (int_max x y) ((int_lt x y || f) && (int_lt y x || g))
IsTieFlag-greater x y f g = tie x y (int_max x y) f g refl
  where
    tie : (x y m : ℤ) (f g : Bool) → m ≡ int_max x y
        → IsTrue ((int_lt x y || f) && (int_lt y x || g)) ↔ ((x ≡ m → IsTrue f) × (y ≡ m → IsTrue g))
    tie x y m true true e = grind (arith, ints, clamps)
    tie x y m true false e = grind (arith, ints, clamps)
    tie x y m false true e = grind (arith, ints, clamps)
    tie x y m false false e = grind (arith, ints, clamps)

pub IsTieFlag-lesser : (x y : ℤ) (f g : Bool) → IsTieFlag x f y g (int_min x y) ((int_lt y x || f) && (int_lt x y || g))
IsTieFlag-lesser x y f g = tie x y (int_min x y) f g refl
  where
    tie : (x y m : ℤ) (f g : Bool) → m ≡ int_min x y
        → IsTrue ((int_lt y x || f) && (int_lt x y || g)) ↔ ((x ≡ m → IsTrue f) × (y ≡ m → IsTrue g))
    tie x y m true true e = grind (arith, ints, clamps)
    tie x y m true false e = grind (arith, ints, clamps)
    tie x y m false true e = grind (arith, ints, clamps)
    tie x y m false false e = grind (arith, ints, clamps)
