-- What is told by an answer that there is.
use Rattle.std.proofs.Common.{◌≡◌, ◌<◌, ◌≤◌, ℕ, zero, suc, ◌+◌, Bool, true, false, List, [], ◌∷◌, length, take, get_or, subst, Option, Some, None, Result, Ok, Err, refl, ap, ◌∙◌, arith, eqb, leb, cond, sym, inl, inr}
use Rattle.std.specs.Prelude.{option_and_then, option_map}
use Rattle.std.specs.List.{AllByRecursion, zip}
use Rattle.std.proofs.lemmas.Bool.Decides.{leb_tells, eqb_tells}
use Rattle.json_forms.specs.Lists.{all_of}
use Rattle.transform_json.specs.declared.error.JsonError.{JsonError}
use Rattle.transform_json.specs.Faults.{◌>>=◌, found_at}
use Rattle.transform_json.specs.Members.{where_so}

-- what is told by either branch is told by the choice
pub either : {R : Type 0} (P : Type 0) (b : Bool) (x y z : R) → (x ≡ z → P) → (y ≡ z → P) → cond b x y ≡ z → P
either P true x y z f g e = f e
either P false x y z f g e = g e

-- a branch that is no fault
pub no_err : {A : Type 0} (P : Type 0) (x : JsonError) (a : A) → Err x ≡ Ok a → P
no_err P x a e = absurd cc

pub step-of : {A B : Type 0} (f : A → Option B) (o : Option A) (b : B) → option_and_then f o ≡ Some b → (a : A) × ((o ≡ Some a) × (f a ≡ Some b))
step-of f None b e = absurd cc
step-of f (Some a) b e = (a, (refl, e))

pub mapped-of : {A B : Type 0} (f : A → B) (o : Option A) (b : B) → option_map f o ≡ Some b → (a : A) × ((o ≡ Some a) × (f a ≡ b))
mapped-of f None b e = absurd cc
mapped-of f (Some a) b e = (a, (refl, cc))

pub where-of : {A : Type 0} (test : Bool) (o : Option A) (a : A) → where_so test o ≡ Some a → (test ≡ true) × (o ≡ Some a)
where-of true o a e = (refl, e)
where-of false o a e = absurd cc

pub ok-of : {A B : Type 0} (r : Result A JsonError) (f : A → Result B JsonError) (b : B) → (r >>= f) ≡ Ok b → (a : A) × ((r ≡ Ok a) × (f a ≡ Ok b))
ok-of (Ok a) f b e = (a, (refl, e))
ok-of (Err x) f b e = absurd cc

pub found-of : {A : Type 0} (path : List ℕ) (o : Option A) (a : A) → found_at path o ≡ Ok a → o ≡ Some a
found-of path None a e = absurd cc
found-of path (Some x) a e = cc

pub leb-of : (a b : ℕ) → leb a b ≡ true → a ≤ b
leb-of a b e = elim (leb_tells a b) [ inl h ↦ h.1 | inr h ↦ absurd cc ]

pub leb-true : (a b : ℕ) → a ≤ b → leb a b ≡ true
leb-true a b h = elim (leb_tells a b) [ inl t ↦ t.0 | inr t ↦ absurd (omega (arith, t.1)) ]

pub eqb-of : (a b : ℕ) → eqb a b ≡ true → a ≡ b
eqb-of a b e = elim (eqb_tells a b) [ inl h ↦ h.1 | inr h ↦ absurd cc ]

pub eqb-true : (a b : ℕ) → a ≡ b → eqb a b ≡ true
eqb-true a b h = elim (eqb_tells a b) [ inl t ↦ t.0 | inr t ↦ absurd (t.1 h) ]

pub all_of-length : {A B : Type 0} (f : A → Option B) (xs : List A) (ys : List B) → all_of f xs ≡ Some ys → length ys ≡ length xs
all_of-length f [] ys e = let n : ys ≡ [] = cc in rw n refl
all_of-length f (x ∷ xs) ys e =
    let one = step-of (λ y. option_map (λ zs. y ∷ zs) (all_of f xs)) (f x) ys e in
    let more = mapped-of (λ zs. one.0 ∷ zs) (all_of f xs) ys one.1.1 in
    ap length (sym more.1.1) ∙ ap suc (all_of-length f xs more.0 more.1.0)

pub zip-length : {A B : Type 0} (xs : List A) (ys : List B) → length ys ≡ length xs → length (zip xs ys) ≡ length xs
zip-length [] ys e = refl
zip-length (x ∷ xs) [] e = absurd (omega arith)
zip-length (x ∷ xs) (y ∷ ys) e = ap suc (zip-length xs ys (omega arith))

-- what holds of each element so far, and of one more
pub each_more : {X : Type 0} (P : X → Type 0) (xs : List X) (i : ℕ) (x : X) → i < length xs → x ≡ get_or xs i x → P x → AllByRecursion P (take i xs) → AllByRecursion P (take (i + 1) xs)
each_more P [] i x less is here before = absurd (omega (arith, less))
each_more P (y ∷ xs) zero x less is here before = (subst P is here, tt)
each_more P (y ∷ xs) (suc i) x less is here before =
    let one : suc i + 1 ≡ suc (i + 1) = omega arith in
    rw one (before.0, each_more P xs i x (omega (arith, less)) is here before.1)

pub each_all : {X : Type 0} (P : X → Type 0) (xs : List X) (i : ℕ) → length xs ≤ i → AllByRecursion P (take i xs) → AllByRecursion P xs
each_all P [] i past so = tt
each_all P (x ∷ xs) zero past so = absurd (omega (arith, past))
each_all P (x ∷ xs) (suc i) past so = (so.0, each_all P xs i (omega (arith, past)) so.1)
