-- Index vectors of domains.
use Rattle.std.proofs.Common.{◌≡◌, ◌<◌, ◌∙◌, ◌+◌, ℕ, zero, suc, ℤ, Bool, true, false, not, ◌&&◌, ◌||◌, List, [], ◌∷◌, length, get_or, Some, None, refl, ap, arith}
use Rattle.std.specs.List.{position_from, zip}
use Rattle.std.specs.Prelude.{int_le}
use Rattle.index_intervals.specs.Bounds.{Bounds, is_index}
use Rattle.index_transform.specs.Values.{is_effective}
use Rattle.cells.proofs.Laws.{both, else_from}
use Rattle.stack_driver.specs.Targets.{is_member, has_index}

-- an index vector of a domain has its rank
pub length-has_index : (dims : List Bounds) (x : List ℤ) → has_index dims x ≡ true → length x ≡ length dims
length-has_index [] [] h = refl
length-has_index [] (x ∷ xs) h = absurd (cc)
length-has_index (d ∷ ds) [] h = absurd (cc)
length-has_index (d ∷ ds) (x ∷ xs) h = let rest = length-has_index ds xs (both (is_member d x) (has_index ds xs) h).1 in grind (arith, rest)

-- a member is an effective member
either_way : (a b c e f : Bool) → a ≡ true → c ≡ true → f ≡ true → ((a && (b || c)) && (e || f)) ≡ true
either_way true true c true f i j k = refl
either_way true true c false true i j k = refl
either_way true false true true f i j k = refl
either_way true false true false true i j k = refl
either_way false b c e f i j k = absurd (let no_such : ⊥ = cc in no_such)
either_way true false false e f i j k = absurd (let no_such : ⊥ = cc in no_such)
either_way true true c false false i j k = absurd (let no_such : ⊥ = cc in no_such)
either_way true false true false false i j k = absurd (let no_such : ⊥ = cc in no_such)

effective : (d : Bounds) (x : ℤ) → is_member d x ≡ true → is_effective d x ≡ true
effective d x h =
    let p = both (is_index x) (int_le d.lo x && int_le x d.hi) h in
    let q = both (int_le d.lo x) (int_le x d.hi) p.1 in
    either_way (is_index x) d.lo_implicit (int_le d.lo x) d.hi_implicit (int_le x d.hi) p.0 q.0 q.1

next_none : {X : Type 0} (p : X → Bool) (k : ℕ) (x : X) (xs : List X) → p x ≡ false → position_from p (k + 1) xs ≡ None → position_from p k (x ∷ xs) ≡ None
next_none p k x xs isnt rest = else_from (p x) (Some k) (position_from p (k + 1) xs) isnt ∙ rest

-- an index vector of a domain lies in the effective domain
pub inside-has_index : (dims : List Bounds) (x : List ℤ) (k : ℕ) → has_index dims x ≡ true → position_from (λ p. not (is_effective p.0 p.1)) k (zip dims x) ≡ None
inside-has_index [] [] k h = refl
inside-has_index [] (x ∷ xs) k h = refl
inside-has_index (d ∷ ds) [] k h = refl
inside-has_index (d ∷ ds) (x ∷ xs) k h =
    let p = both (is_member d x) (has_index ds xs) h in
    next_none (λ p. not (is_effective p.0 p.1)) k (d, x) (zip ds xs) (ap not (effective d x p.0)) (inside-has_index ds xs (k + 1) p.1)

pub second_false : (a b : Bool) → b ≡ false → (a && b) ≡ false
second_false true b isnt = isnt
second_false false b isnt = refl

-- where a number is no finite index, no domain has them
pub no_domain : (dims : List Bounds) (xs : List ℤ) (i : ℕ) (d : ℤ) → i < length xs → is_index (get_or xs i d) ≡ false → has_index dims xs ≡ false
no_domain dims [] i d h isnt = absurd (omega (arith, h))
no_domain [] (x ∷ xs) i d h isnt = refl
no_domain (b ∷ bs) (x ∷ xs) zero d h isnt = ap (λ t. (t && (int_le b.lo x && int_le x b.hi)) && has_index bs xs) isnt
no_domain (b ∷ bs) (x ∷ xs) (suc i) d h isnt = second_false (is_member b x) (has_index bs xs) (no_domain bs xs i d (omega (arith, h)) isnt)
