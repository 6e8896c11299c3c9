-- Index vectors of domains, and the last of some views that has one.
use Rattle.std.proofs.Common.{◌≡◌, ◌≢◌, ◌<◌, ◌∙◌, ◌+◌, ℕ, ℤ, Bool, true, false, not, cond, ◌&&◌, ◌||◌, List, [], ◌∷◌, ◌++◌, length, map, take, get_or, Option, Some, None, Result, Err, refl, sym, ap, arith}
use Rattle.std.proofs.lemmas.List.{map_more, get_or-take, get_or_default, length-take-le}
use Rattle.std.specs.List.{position_from, zip, list_all}
use Rattle.std.specs.Prelude.{int_le}
use Rattle.transform_composition.specs.Bounds.{Bounds, is_index}
use Rattle.transform_composition.specs.Transforms.{DomainAndMaps}
use Rattle.transform_composition.specs.Values.{is_effective, value_at, first_overflow, unless_overflow, unless_outside, numbers_of, at_answer}
use Rattle.transform_composition.specs.declared.AtError.TheVariants.{OutOfRange, Overflow}
use Rattle.cast_driver.proofs.Laws.{both, then_from, else_from}
use Rattle.stack_driver.specs.Targets.{Target, is_member, has_index}
use Rattle.stack_driver.specs.Views.{Look, look_of, last_target}
use Rattle.stack_driver.specs.Conditions.{IsLast}
use Rattle.stack_driver.specs.declared.view.View.{View}
use Rattle.stack_driver.specs.declared.error.TargetError.{TargetError}

-- an index vector of a domain has its rank
pub length-has_index : (dims : List Bounds) (x : List ℤ) → has_index dims x ≡ true → length x ≡ length dims
length-has_index [] [] h = refl
length-has_index [] (x ∷ xs) h = absurd (cc)
length-has_index (d ∷ ds) [] h = absurd (cc)
length-has_index (d ∷ ds) (x ∷ xs) h = let rest = length-has_index ds xs (both (is_member d x) (has_index ds xs) h).1 in grind (arith, rest)

-- no index vector of another length
pub has_index-length : (dims : List Bounds) (x : List ℤ) → length dims ≢ length x → has_index dims x ≡ false
has_index-length dims x differ = told (has_index dims x) refl
  where
    told : (b : Bool) → has_index dims x ≡ b → b ≡ false
    told true h = absurd (differ (sym (length-has_index dims x h)))
    told false h = refl

-- a member is an effective member
either_way : (a b c e f : Bool) → a ≡ true → c ≡ true → f ≡ true → ((a && (b || c)) && (e || f)) ≡ true
either_way true true c true f i j k = refl
either_way true true c false true i j k = refl
either_way true false true true f i j k = refl
either_way true false true false true i j k = refl
either_way false b c e f i j k = absurd (let no_such : ⊥ = cc in no_such)
either_way true false false e f i j k = absurd (let no_such : ⊥ = cc in no_such)
either_way true true c false false i j k = absurd (let no_such : ⊥ = cc in no_such)
either_way true false true false false i j k = absurd (let no_such : ⊥ = cc in no_such)

effective : (d : Bounds) (x : ℤ) → is_member d x ≡ true → is_effective d x ≡ true
effective d x h =
    let p = both (is_index x) (int_le d.lo x && int_le x d.hi) h in
    let q = both (int_le d.lo x) (int_le x d.hi) p.1 in
    either_way (is_index x) d.lo_implicit (int_le d.lo x) d.hi_implicit (int_le x d.hi) p.0 q.0 q.1

next_none : {X : Type 0} (p : X → Bool) (k : ℕ) (x : X) (xs : List X) → p x ≡ false → position_from p (k + 1) xs ≡ None → position_from p k (x ∷ xs) ≡ None
next_none p k x xs isnt rest = else_from (p x) (Some k) (position_from p (k + 1) xs) isnt ∙ rest

-- an index vector of a domain lies in the effective domain
pub inside-has_index : (dims : List Bounds) (x : List ℤ) (k : ℕ) → has_index dims x ≡ true → position_from (λ p. not (is_effective p.0 p.1)) k (zip dims x) ≡ None
inside-has_index [] [] k h = refl
inside-has_index [] (x ∷ xs) k h = refl
inside-has_index (d ∷ ds) [] k h = refl
inside-has_index (d ∷ ds) (x ∷ xs) k h =
    let p = both (is_member d x) (has_index ds xs) h in
    next_none (λ p. not (is_effective p.0 p.1)) k (d, x) (zip ds xs) (ap not (effective d x p.0)) (inside-has_index ds xs (k + 1) p.1)

second_false : (a b : Bool) → b ≡ false → (a && b) ≡ false
second_false true b isnt = isnt
second_false false b isnt = refl

-- where a number is no finite index, no domain has them
overflows : (dims : List Bounds) (xs : List ℤ) (k output : ℕ) → position_from (λ x. not (is_index x)) k xs ≡ Some output → has_index dims xs ≡ false
overflows dims [] k output e = absurd (let no_such : ⊥ = cc in no_such)
overflows [] (x ∷ xs) k output e = refl
overflows (d ∷ ds) (x ∷ xs) k output e = here (is_index x) refl (overflows ds xs (k + 1) output)
  where
    here : (b : Bool) → is_index x ≡ b → (position_from (λ x. not (is_index x)) (k + 1) xs ≡ Some output → has_index ds xs ≡ false) → (is_member d x && has_index ds xs) ≡ false
    here true is rest =
        let later = sym (else_from (not (is_index x)) (Some k) (position_from (λ x. not (is_index x)) (k + 1) xs) (ap not is)) ∙ e in
        second_false (is_member d x) (has_index ds xs) (rest later)
    here false isnt rest = ap (λ b. (b && (int_le d.lo x && int_le x d.hi)) && has_index ds xs) isnt

-- the numbers of a transform that overflows lie in no domain
pub overflow-has_index : (t : DomainAndMaps) (x : List ℤ) (output : ℕ) → has_index t.domain.dims x ≡ true → at_answer t x ≡ Err (Overflow output)
    → (dims : List Bounds) → has_index dims (value_at t x) ≡ false
overflow-has_index t x output h e dims = by_overflow (first_overflow (value_at t x)) refl (sym (ap (λ o. unless_outside o (numbers_of (value_at t x))) (inside-has_index t.domain.dims x 0 h)) ∙ e)
  where
    by_overflow : (o : Option ℕ) → first_overflow (value_at t x) ≡ o → unless_overflow o (value_at t x) ≡ Err (Overflow output) → has_index dims (value_at t x) ≡ false
    by_overflow None is err = absurd (let no_such : ⊥ = cc in no_such)
    by_overflow (Some k) is err = overflows dims (value_at t x) 0 k is

-- a transform has numbers at an index vector of its domain
pub never_outside : {P : Type 0} (t : DomainAndMaps) (x : List ℤ) (dim : ℕ) → has_index t.domain.dims x ≡ true → at_answer t x ≡ Err (OutOfRange dim) → P
never_outside {P} t x dim h e = by_overflow (first_overflow (value_at t x)) (sym (ap (λ o. unless_outside o (numbers_of (value_at t x))) (inside-has_index t.domain.dims x 0 h)) ∙ e)
  where
    by_overflow : (o : Option ℕ) → unless_overflow o (value_at t x) ≡ Err (OutOfRange dim) → P
    by_overflow None err = absurd (let no_such : ⊥ = cc in no_such)
    by_overflow (Some k) err = absurd (let no_such : ⊥ = cc in no_such)

-- one view more
last-append : (ls : List Look) (l : Look) (x : List ℤ) (found : Result Target TargetError) → last_target (ls ++ l ∷ []) x found ≡ cond (has_index l.dims x) (l.target x) (last_target ls x found)
last-append [] l x found = refl
last-append (k ∷ ks) l x found = last-append ks l x (cond (has_index k.dims x) (k.target x) found)

last-more : (views : List View) (k : ℕ) (v : View) (x : List ℤ) (found : Result Target TargetError) → k < length views
    → last_target (map look_of (take (k + 1) views)) x found
    ≡ cond (has_index (look_of (get_or views k v)).dims x) ((look_of (get_or views k v)).target x) (last_target (map look_of (take k views)) x found)
last-more views k v x found h = ap (λ ls. last_target ls x found) (map_more look_of views k v h) ∙ last-append (map look_of (take k views)) (look_of (get_or views k v)) x found

-- the same for each dimension and its index
pub has_index-zip : (dims : List Bounds) (x : List ℤ) → length dims ≡ length x → has_index dims x ≡ list_all (λ p. is_member p.0 p.1) (zip dims x)
has_index-zip [] [] same = refl
has_index-zip [] (x ∷ xs) same = absurd (omega (arith, same))
has_index-zip (d ∷ ds) [] same = absurd (omega (arith, same))
has_index-zip (d ∷ ds) (x ∷ xs) same = ap (λ b. is_member d x && b) (has_index-zip ds xs (omega (arith, same)))

-- one view more is the last, or stays behind the last
pub last-next : (views : List View) (k : ℕ) (v : View) (x : List ℤ) (o : Option ℕ) → k < length views → v ≡ get_or views k v → has_index (look_of v).dims x ≡ true → IsLast (take (k + 1) views) x (Some k)
last-next views k v x o h is has = (
  omega (arith, h, length-take-le (k + 1) views (omega (arith, h))),
  λ d. ap (λ w. has_index (look_of w).dims x) (sym (here d)) ∙ has,
  λ d found. last-more views k v x found h ∙ then_from (has_index (look_of (get_or views k v)).dims x) _ _ (ap (λ w. has_index (look_of w).dims x) (sym is) ∙ has) ∙ ap (λ w. (look_of w).target x) (sym is ∙ here d),
)
  where
    here : (d : View) → v ≡ get_or (take (k + 1) views) k d
    here d = is ∙ get_or_default views k v d h ∙ sym (get_or-take (k + 1) views k d (omega arith))

same_front : (views : List View) (k place : ℕ) (d : View) → place < k → get_or (take (k + 1) views) place d ≡ get_or (take k views) place d
same_front views k place d small = get_or-take (k + 1) views place d (omega (arith, small)) ∙ sym (get_or-take k views place d small)

passed : (views : List View) (k : ℕ) (v : View) (x : List ℤ) (found : Result Target TargetError) → k < length views → v ≡ get_or views k v → has_index (look_of v).dims x ≡ false
    → last_target (map look_of (take (k + 1) views)) x found ≡ last_target (map look_of (take k views)) x found
passed views k v x found h is hasnt = last-more views k v x found h ∙ else_from (has_index (look_of (get_or views k v)).dims x) _ _ (ap (λ w. has_index (look_of w).dims x) (sym is) ∙ hasnt)

pub last-stays : (views : List View) (k : ℕ) (v : View) (x : List ℤ) (o : Option ℕ) → k < length views → v ≡ get_or views k v → has_index (look_of v).dims x ≡ false → IsLast (take k views) x o
    → IsLast (take (k + 1) views) x o
last-stays views k v x None h is hasnt before = λ found. passed views k v x found h is hasnt ∙ before found
last-stays views k v x (Some place) h is hasnt before =
    let small : place < k = omega (arith, h, before.0, length-take-le k views (omega (arith, h))) in (
      omega (arith, small, h, length-take-le (k + 1) views (omega (arith, h))),
      λ d. ap (λ w. has_index (look_of w).dims x) (same_front views k place d small) ∙ before.1 d,
      λ d found. passed views k v x found h is hasnt ∙ before.2 d found ∙ ap (λ w. (look_of w).target x) (sym (same_front views k place d small)),
    )
