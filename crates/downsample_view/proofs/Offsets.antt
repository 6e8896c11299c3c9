-- Whether an index comes into a new one, by the quotient.
use Rattle.std.proofs.Common.{◌≡◌, ◌∙◌, ◌<◌, ◌≤◌, ℕ, nat_lt, ℤ, pos, negsuc, ◌+ℤ◌, ◌-ℤ◌, ◌*ℤ◌, ◌≤ℤ◌, ◌<ℤ◌, int_le, int_lt, int_eq, Bool, true, false, cond, ◌&&◌, Some, None, refl, sym, ap, subst, arith}
use Rattle.std.proofs.lemmas.Bool.Decides.{nat_tests}
use Rattle.std.proofs.lemmas.Int.{ints}
use Rattle.cells.proofs.Laws.{both, both_true, same_test}
use Rattle.index_intervals.proofs.Laws.{IsQuotientDown-quotient_down, quotient_down_greatest, suc-*ℤ}
use Rattle.index_intervals.specs.Stride.{quotient_down}
use Rattle.downsample_view.specs.Groups.{IsFactor, comes_into}
use Rattle.downsample_view.specs.Places.{has_group, within, offset_from, is_below, is_place}
use Rattle.downsample_view.specs.declared.method.Method.{Method}
use Rattle.downsample_view.specs.declared.method.Method.TheVariants.{Stride, Min, Max}

-- a group has the index exactly where it is the index's quotient
pub record IsGroup (f : ℕ) (x y : ℤ) : Type 0 where
  pub from : (y *ℤ pos f) ≤ℤ x
  pub to : x <ℤ (y *ℤ pos f +ℤ pos f)

group_is : (f : ℕ) (x y : ℤ) → IsFactor f → IsGroup f x y → y ≡ quotient_down x (pos f)
group_is f x y factor g =
    let some = factor.some in
    let p : pos 0 <ℤ pos f = omega (arith, ints, some) in
    let q = IsQuotientDown-quotient_down x (pos f) p in
    let below = (quotient_down_greatest x (pos f) (quotient_down x (pos f)) y p q).1 g.from in
    let next = suc-*ℤ y (pos f) in
    let to = g.to in
    let above : quotient_down x (pos f) <ℤ (y +ℤ pos 1) = reached next to (quotient_down_greatest x (pos f) (quotient_down x (pos f)) (y +ℤ pos 1) p q).0 in
    omega (arith, ints, below, above)
  where
    reached : (y +ℤ pos 1) *ℤ pos f ≡ y *ℤ pos f +ℤ pos f → x <ℤ (y *ℤ pos f +ℤ pos f) → ((y +ℤ pos 1) ≤ℤ quotient_down x (pos f) → ((y +ℤ pos 1) *ℤ pos f) ≤ℤ x) → quotient_down x (pos f) <ℤ (y +ℤ pos 1)
    reached next to up = told (int_le (y +ℤ pos 1) (quotient_down x (pos f))) refl
      where
        told : (b : Bool) → int_le (y +ℤ pos 1) (quotient_down x (pos f)) ≡ b → quotient_down x (pos f) <ℤ (y +ℤ pos 1)
        told true e = let h : (y +ℤ pos 1) ≤ℤ quotient_down x (pos f) = grind (arith, ints, e) in let k = up h in absurd (omega (arith, ints, next, to, k))
        told false e = grind (arith, ints, e)

is_group : (f : ℕ) (x : ℤ) → IsFactor f → IsGroup f x (quotient_down x (pos f))
is_group f x factor =
    let some = factor.some in
    let q = IsQuotientDown-quotient_down x (pos f) (omega (arith, ints, some)) in
    record { from = q.at_most; to = q.greatest }

-- a difference that is this place
within_is : (d : ℤ) (size k : ℕ) → k < size → d ≡ pos k → is_place k (within d size) ≡ true
within_is (pos j) size k b e = told (nat_lt j size) refl
  where
    told : (t : Bool) → nat_lt j size ≡ t → is_place k (cond t (Some j) None) ≡ true
    told true f = grind (arith, nat_tests, e)
    told false f = absurd (let s : j ≡ k = omega (arith, ints, e) in let h : size ≤ j = grind (arith, nat_tests, f) in omega (arith, s, h, b))
within_is (negsuc j) size k b e = absurd (omega (arith, ints, e))

is_within : (d : ℤ) (size k : ℕ) → is_place k (within d size) ≡ true → d ≡ pos k
is_within (pos j) size k e = told (nat_lt j size) e
  where
    told : (t : Bool) → is_place k (cond t (Some j) None) ≡ true → pos j ≡ pos k
    told true f = let s : j ≡ k = grind (arith, nat_tests, f) in ap pos s
    told false f = absurd (let no_such : ⊥ = cc in no_such)
is_within (negsuc j) size k e = absurd (let no_such : ⊥ = cc in no_such)

into_group : (f : ℕ) (origin : ℤ) (size k : ℕ) (x : ℤ) → IsFactor f → k < size
    → (int_le ((origin +ℤ pos k) *ℤ pos f) x && int_lt x ((origin +ℤ pos k) *ℤ pos f +ℤ pos f)) ≡ is_place k (within (quotient_down x (pos f) -ℤ origin) size)
into_group f origin size k x factor b =
    same_test _ _
    (λ e.
    let p = both (int_le ((origin +ℤ pos k) *ℤ pos f) x) (int_lt x ((origin +ℤ pos k) *ℤ pos f +ℤ pos f)) e in
    let g = group_is f x (origin +ℤ pos k) factor (record { from = grind (arith, ints, p.0); to = grind (arith, ints, p.1) }) in
    within_is (quotient_down x (pos f) -ℤ origin) size k b (omega (arith, ints, g)))
    (λ e.
    let d = is_within (quotient_down x (pos f) -ℤ origin) size k e in
    let y : origin +ℤ pos k ≡ quotient_down x (pos f) = omega (arith, ints, d) in
    let g : IsGroup f x (origin +ℤ pos k) = subst (IsGroup f x) (sym y) (is_group f x factor) in
    let from = g.from in
    let to = g.to in
    both_true (int_le ((origin +ℤ pos k) *ℤ pos f) x) (int_lt x ((origin +ℤ pos k) *ℤ pos f +ℤ pos f)) (grind (arith, ints, from)) (grind (arith, ints, to)))

multiple : (f : ℕ) (origin : ℤ) (size k : ℕ) (x : ℤ) → IsFactor f → k < size
    → int_eq x ((origin +ℤ pos k) *ℤ pos f) ≡ is_place k (cond (int_eq x (quotient_down x (pos f) *ℤ pos f)) (within (quotient_down x (pos f) -ℤ origin) size) None)
multiple f origin size k x factor b =
    same_test _ _
    (λ e.
    let at : x ≡ (origin +ℤ pos k) *ℤ pos f = grind (arith, ints, e) in
    let some = factor.some in
    let g = group_is f x (origin +ℤ pos k) factor (record { from = omega (arith, ints, at); to = omega (arith, ints, at, some) }) in
    let here : int_eq x (quotient_down x (pos f) *ℤ pos f) ≡ true = (let a : x ≡ quotient_down x (pos f) *ℤ pos f = at ∙ ap (λ z. z *ℤ pos f) g in grind (arith, ints, a)) in
    ap (λ t. is_place k (cond t (within (quotient_down x (pos f) -ℤ origin) size) None)) here
    ∙ within_is (quotient_down x (pos f) -ℤ origin) size k b (omega (arith, ints, g)))
    (λ e. told (int_eq x (quotient_down x (pos f) *ℤ pos f)) refl e)
  where
    told : (t : Bool) → int_eq x (quotient_down x (pos f) *ℤ pos f) ≡ t → is_place k (cond t (within (quotient_down x (pos f) -ℤ origin) size) None) ≡ true
        → int_eq x ((origin +ℤ pos k) *ℤ pos f) ≡ true
    told true h e =
        let d = is_within (quotient_down x (pos f) -ℤ origin) size k e in
        let y : quotient_down x (pos f) ≡ origin +ℤ pos k = omega (arith, ints, d) in
        subst (λ z. int_eq x (z *ℤ pos f) ≡ true) y h
    told false h e = absurd (let no_such : ⊥ = cc in no_such)

-- an index comes into a new one exactly where its offset is the new one's
pub comes-offset : (method : Method) (f : ℕ) (origin : ℤ) (size k : ℕ) (x : ℤ) → IsFactor f → k < size
    → comes_into method f (origin +ℤ pos k) x ≡ is_place k (offset_from method f origin size x)
comes-offset Stride f origin size k x factor b = multiple f origin size k x factor b
comes-offset Min f origin size k x factor b = into_group f origin size k x factor b
comes-offset Max f origin size k x factor b = into_group f origin size k x factor b

within-below : (d : ℤ) (size : ℕ) → is_below size (within d size) ≡ true
within-below (pos j) size = told (nat_lt j size) refl
  where
    told : (t : Bool) → nat_lt j size ≡ t → is_below size (cond t (Some j) None) ≡ true
    told true e = e
    told false e = refl
within-below (negsuc j) size = refl

pub offset-below : (method : Method) (f : ℕ) (origin : ℤ) (size : ℕ) (x : ℤ) → is_below size (offset_from method f origin size x) ≡ true
offset-below method f origin size x = told (has_group method f x (quotient_down x (pos f)))
  where
    told : (t : Bool) → is_below size (cond t (within (quotient_down x (pos f) -ℤ origin) size) None) ≡ true
    told true = within-below (quotient_down x (pos f) -ℤ origin) size
    told false = refl
