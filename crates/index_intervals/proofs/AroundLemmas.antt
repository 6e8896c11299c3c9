-- The least interval around several.
use Rattle.std.proofs.Common.{◌≡◌, ◌∙◌, ℤ, ℕ, ◌<◌, ◌≤ℤ◌, Bool, true, false, ap, arith, ◌&&◌, ◌||◌, int_le, List, [], ◌∷◌, ◌≤◌, length, drop, fold, subst}
use Rattle.std.proofs.lemmas.Int.{ints, clamps}
use Rattle.std.proofs.lemmas.List.{drop_all}
use Rattle.std.specs.Int.{int_max, int_min}
use Rattle.std.specs.List.{list_all, list_any}
use Rattle.std.specs.Ordering.{int_eq}
use Rattle.index_intervals.specs.Bounds.{Bounds, AreBounds}
use Rattle.index_intervals.specs.Around.{around, around_all, IsAround}

pub AreBounds-around : (a b : Bounds) → AreBounds a → AreBounds b → AreBounds (around a b)
AreBounds-around a b p q = record {
  lo_from = omega (arith, ints, clamps);
  lo_below = omega (arith, ints, clamps);
  hi_above = omega (arith, ints, clamps);
  hi_to = omega (arith, ints, clamps);
  ordered = omega (arith, ints, clamps);
}

two_least : (x y r : ℤ) (rest : Bool) → (int_le r (int_min x y) && rest) ≡ true → (int_le r x && (int_le r y && rest)) ≡ true
two_least x y r true e = grind (arith, ints, clamps)
two_least x y r false e = grind (arith, ints, clamps)

two_greatest : (x y r : ℤ) (rest : Bool) → (int_le (int_max x y) r && rest) ≡ true → (int_le x r && (int_le y r && rest)) ≡ true
two_greatest x y r true e = grind (arith, ints, clamps)
two_greatest x y r false e = grind (arith, ints, clamps)

-- of two numbers one is the lesser
two_lo : (x y r : ℤ) (rest : Bool) → (int_eq (int_min x y) r || rest) ≡ true → (int_eq x r || (int_eq y r || rest)) ≡ true
two_lo x y r true e = grind (arith, ints, clamps)
two_lo x y r false e = grind (arith, ints, clamps)

two_hi : (x y r : ℤ) (rest : Bool) → (int_eq (int_max x y) r || rest) ≡ true → (int_eq x r || (int_eq y r || rest)) ≡ true
two_hi x y r true e = grind (arith, ints, clamps)
two_hi x y r false e = grind (arith, ints, clamps)

lo_flag : (x y r : ℤ) (f g rest : Bool) → r ≤ℤ x → r ≤ℤ y
    → ((int_eq (int_min x y) r && ((int_le x y && f) || (int_le y x && g))) || rest) ≡ ((int_eq x r && f) || ((int_eq y r && g) || rest))
lo_flag x y r true true true h i = grind (arith, ints, clamps)
lo_flag x y r true false true h i = grind (arith, ints, clamps)
lo_flag x y r false true true h i = grind (arith, ints, clamps)
lo_flag x y r false false true h i = grind (arith, ints, clamps)
lo_flag x y r true true false h i = grind (arith, ints, clamps)
lo_flag x y r true false false h i = grind (arith, ints, clamps)
lo_flag x y r false true false h i = grind (arith, ints, clamps)
lo_flag x y r false false false h i = grind (arith, ints, clamps)

hi_flag : (x y r : ℤ) (f g rest : Bool) → x ≤ℤ r → y ≤ℤ r
    → ((int_eq (int_max x y) r && ((int_le y x && f) || (int_le x y && g))) || rest) ≡ ((int_eq x r && f) || ((int_eq y r && g) || rest))
hi_flag x y r true true true h i = grind (arith, ints, clamps)
hi_flag x y r true false true h i = grind (arith, ints, clamps)
hi_flag x y r false true true h i = grind (arith, ints, clamps)
hi_flag x y r false false true h i = grind (arith, ints, clamps)
hi_flag x y r true true false h i = grind (arith, ints, clamps)
hi_flag x y r true false false h i = grind (arith, ints, clamps)
hi_flag x y r false true false h i = grind (arith, ints, clamps)
hi_flag x y r false false false h i = grind (arith, ints, clamps)

first_le : (a b : ℤ) (rest : Bool) → (int_le a b && rest) ≡ true → a ≤ℤ b
first_le a b true e = grind (arith, ints)
first_le a b false e = grind (arith, ints)

second_le : (a b c d : ℤ) (rest : Bool) → (int_le a b && (int_le c d && rest)) ≡ true → c ≤ℤ d
second_le a b c d true e = grind (arith, ints)
second_le a b c d false e = grind (arith, ints)

-- one interval is the least around itself
one_le : (x : ℤ) → (int_le x x && true) ≡ true
one_le x = grind (arith, ints)

one_eq : (x : ℤ) → (int_eq x x || false) ≡ true
one_eq x = grind (arith, ints)

one_flag : (x : ℤ) (f : Bool) → f ≡ ((int_eq x x && f) || false)
one_flag x true = grind (arith, ints)
one_flag x false = grind (arith, ints)

pub IsAround-fold : (a : Bounds) (ds : List Bounds) → IsAround (a ∷ ds) (fold around a ds)
IsAround-fold a [] = record {
  lo_least = one_le a.lo;
  lo_attained = one_eq a.lo;
  lo_flag = one_flag a.lo a.lo_implicit;
  hi_greatest = one_le a.hi;
  hi_attained = one_eq a.hi;
  hi_flag = one_flag a.hi a.hi_implicit;
}
IsAround-fold a (d ∷ ds) =
    let h = IsAround-fold (around a d) ds in
    let r = fold around (around a d) ds in
    let ll = list_all (λ dim. int_le r.lo dim.lo) ds in
    let gg = list_all (λ dim. int_le dim.hi r.hi) ds in
    let lows = two_least a.lo d.lo r.lo ll h.lo_least in
    let highs = two_greatest a.hi d.hi r.hi gg h.hi_greatest in
    record {
      lo_least = lows;
      lo_attained = two_lo a.lo d.lo r.lo (list_any (λ dim. int_eq dim.lo r.lo) ds) h.lo_attained;
      lo_flag = h.lo_flag ∙ lo_flag a.lo d.lo r.lo a.lo_implicit d.lo_implicit (list_any (λ dim. int_eq dim.lo r.lo && dim.lo_implicit) ds)
          (first_le r.lo a.lo (int_le r.lo d.lo && ll) lows) (second_le r.lo a.lo r.lo d.lo ll lows);
      hi_greatest = highs;
      hi_attained = two_hi a.hi d.hi r.hi (list_any (λ dim. int_eq dim.hi r.hi) ds) h.hi_attained;
      hi_flag = h.hi_flag ∙ hi_flag a.hi d.hi r.hi a.hi_implicit d.hi_implicit (list_any (λ dim. int_eq dim.hi r.hi && dim.hi_implicit) ds)
          (first_le a.hi r.hi (int_le d.hi r.hi && gg) highs) (second_le a.hi r.hi d.hi r.hi gg highs);
    }

pub IsAround-around_all : (ds : List Bounds) → 0 < length ds → IsAround ds (around_all ds)
IsAround-around_all [] h = absurd (omega arith)
IsAround-around_all (d ∷ ds) h = IsAround-fold d ds

-- a fold that has come to the end of the list
pub around_done : (ds : List Bounds) (all : Bounds) (k : ℕ) → 0 < length ds → length ds ≤ k → around_all ds ≡ fold around all (drop k ds) → IsAround ds all
around_done ds all k some past e =
    subst (IsAround ds) (e ∙ ap (λ (xs : List Bounds). fold around all xs) (drop_all k ds past)) (IsAround-around_all ds some)
