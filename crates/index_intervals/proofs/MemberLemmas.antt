-- Intervals that are equal, and their members with infinite bounds.
use Rattle.std.proofs.Common.{◌≡◌, ◌∙◌, sym, ℤ, pos, ◌+ℤ◌, ◌-ℤ◌, ◌≤ℤ◌, ◌↔◌, Bool, true, false, ◌||◌, int_le, cond, refl, arith}
use Rattle.std.proofs.lemmas.Int.{ints}
use Rattle.index_intervals.specs.Bounds.{Bounds, AreBounds, IsIndex, is_index, are_bounds, minus_infinity, plus_infinity}
use Rattle.index_intervals.specs.Members.{IsMember, IsEffectiveMember, effective_bounds, size_of, has_index}

-- bounds are equal where their parts are
pub same_bounds : (lo hi lo' hi' : ℤ) (f g f' g' : Bool) → lo ≡ lo' → hi ≡ hi' → f ≡ f' → g ≡ g'
    → (let r : Bounds = record { lo = lo; hi = hi; lo_implicit = f; hi_implicit = g } in r)
    ≡ (let r : Bounds = record { lo = lo'; hi = hi'; lo_implicit = f'; hi_implicit = g' } in r)
same_bounds lo hi lo' hi' f g f' g' p q r s = cc

-- an effective member is a member with infinite bounds in place of implicit ones
pub IsMember-effective : (b : Bounds) (x : ℤ) → IsMember (effective_bounds b) x ↔ IsEffectiveMember b x
IsMember-effective b x = (
  (λ m. record { index = m.index; above_lo = λ e. (rw e at m.above_lo); below_hi = λ e. (rw e at m.below_hi) }),
  (λ m. record {
    index = m.index;
    above_lo = lo_passed b.lo_implicit m.above_lo m.index;
    below_hi = hi_passed b.hi_implicit m.below_hi m.index;
  }),
)
  where
    lo_passed : (f : Bool) → (f ≡ false → b.lo ≤ℤ x) → IsIndex x → (cond f minus_infinity b.lo) ≤ℤ x
    lo_passed true h i = grind (arith, ints)
    lo_passed false h i = h refl

    hi_passed : (f : Bool) → (f ≡ false → x ≤ℤ b.hi) → IsIndex x → x ≤ℤ (cond f plus_infinity b.hi)
    hi_passed true h i = grind (arith, ints)
    hi_passed false h i = h refl

-- what the test of a finite index means
pub is_index-true : (x : ℤ) → is_index x ≡ true → IsIndex x
is_index-true x e = record { above = grind (arith, ints); below = grind (arith, ints) }

pub IsIndex-true : (x : ℤ) → IsIndex x → is_index x ≡ true
IsIndex-true x i = let a = i.above in let b = i.below in grind (arith, ints)

-- a bound that is no finite index is infinite on its side
pub lo_infinite : (b : Bounds) → AreBounds b → is_index b.lo ≡ false → b.lo ≡ minus_infinity
lo_infinite b p e = let l = p.lo_from in let u = p.lo_below in grind (arith, ints)

pub hi_infinite : (b : Bounds) → AreBounds b → is_index b.hi ≡ false → b.hi ≡ plus_infinity
hi_infinite b p e = let l = p.hi_above in let u = p.hi_to in grind (arith, ints)

-- the effective interval has an index where the test says so
pub has_index-some : (b : Bounds) → AreBounds b → has_index b ≡ true → (x : ℤ) × IsEffectiveMember b x
has_index-some b p e = told (is_index b.lo) (is_index b.hi) refl refl
  where
    ordered : b.lo_implicit ≡ false → b.hi_implicit ≡ false → b.lo ≤ℤ b.hi
    ordered f g = grind (arith, ints, e, f, g)

    told : (s t : Bool) → is_index b.lo ≡ s → is_index b.hi ≡ t → (x : ℤ) × IsEffectiveMember b x
    told true t i j = elim_lo b.hi_implicit refl
      where
        elim_lo : (f : Bool) → b.hi_implicit ≡ f → (x : ℤ) × IsEffectiveMember b x
        elim_lo true h = elim_flag b.lo_implicit refl
          where
            elim_flag : (g : Bool) → b.lo_implicit ≡ g → (x : ℤ) × IsEffectiveMember b x
            elim_flag g k = (b.lo, record { index = is_index-true b.lo i; above_lo = λ q. omega (arith, ints); below_hi = λ q. absurd (let no_such : true ≡ false = sym h ∙ q in cc) })
        elim_lo false h = elim_flag b.lo_implicit refl
          where
            elim_flag : (g : Bool) → b.lo_implicit ≡ g → (x : ℤ) × IsEffectiveMember b x
            elim_flag false k = (b.lo, record { index = is_index-true b.lo i; above_lo = λ q. omega (arith, ints); below_hi = λ q. ordered k h })
            elim_flag true k = high t j
              where
                high : (t : Bool) → is_index b.hi ≡ t → (x : ℤ) × IsEffectiveMember b x
                high true j = (b.hi, record { index = is_index-true b.hi j; above_lo = λ q. absurd (let no_such : true ≡ false = sym k ∙ q in cc); below_hi = λ q. omega (arith, ints) })
                high false j = (b.lo, record { index = is_index-true b.lo i; above_lo = λ q. omega (arith, ints); below_hi = λ q. let z = hi_infinite b p j in let u = p.lo_below in omega (arith, ints) })
    told false true i j = (b.hi, record { index = is_index-true b.hi j; above_lo = λ q. let z = lo_infinite b p i in let u = p.hi_above in omega (arith, ints); below_hi = λ q. omega (arith, ints) })
    told false false i j =
        let z = lo_infinite b p i in
        let y = hi_infinite b p j in
        (pos 0, record { index = is_index-true (pos 0) refl; above_lo = λ q. omega (arith, ints, z); below_hi = λ q. omega (arith, ints, y) })

-- a finite interval's size
pub size-number : (b : Bounds) → AreBounds b → pos (size_of b) ≡ b.hi +ℤ pos 1 -ℤ b.lo
size-number b p = let o = p.ordered in omega (arith, ints)

-- and nowhere else
pub has_index-only : (b : Bounds) (x : ℤ) → IsEffectiveMember b x → has_index b ≡ true
has_index-only b x m = told b.lo_implicit b.hi_implicit refl refl
  where
    told : (f g : Bool) → b.lo_implicit ≡ f → b.hi_implicit ≡ g → (f || g || int_le b.lo b.hi) ≡ true
    told true g e h = refl
    told false true e h = refl
    told false false e h = let l = m.above_lo e in let u = m.below_hi h in grind (arith, ints)

-- the test of bounds
pub are_bounds-true : (b : Bounds) → AreBounds b → are_bounds b ≡ true
are_bounds-true b p =
    let l = p.lo_from in let m = p.lo_below in let n = p.hi_above in let o = p.hi_to in let q = p.ordered in
    grind (arith, ints, l, m, n, o, q)

pub AreBounds-true : (b : Bounds) → are_bounds b ≡ true → AreBounds b
AreBounds-true b e = record {
  lo_from = grind (arith, ints, e);
  lo_below = grind (arith, ints, e);
  hi_above = grind (arith, ints, e);
  hi_to = grind (arith, ints, e);
  ordered = grind (arith, ints, e);
}
