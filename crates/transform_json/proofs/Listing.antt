-- Written items of a list, as far as a loop has come.
use Rattle.std.proofs.Common.{◌≡◌, ◌∙◌, ℕ, ◌+◌, ◌<◌, ◌≤◌, suc, List, [], ◌∷◌, ◌++◌, map, take, length, get_or, sym, ap, subst, arith}
use Rattle.std.proofs.lemmas.List.{map-append, take_all}
use Rattle.std.specs.List.{AllByRecursion}
use Rattle.serde_json.specs.Data.{Data}
use Rattle.serde_json.specs.View.{view}
use Rattle.serde_json.specs.declared.value.Value.{Value}
use Rattle.json_forms.specs.Lists.{list_of}

-- one element more of the front of a list
front : {A : Type 0} (xs : List A) (i : ℕ) (x : A) → i < length xs → x ≡ get_or xs i x → take (i + 1) xs ≡ take i xs ++ x ∷ []
front [] i x less at = absurd (omega (arith, less))
front (y ∷ xs) ℕ.zero x less at = ap (λ z. z ∷ []) (sym at)
front (y ∷ xs) (suc i) x less at = let z : suc i + 1 ≡ suc (i + 1) = omega arith in rw z (ap (λ zs. y ∷ zs) (front xs i x (omega (arith, less)) at))

-- one written item more
pub written_more : {A : Type 0} (f : A → Data) (xs : List A) (i : ℕ) (items new : List Value) (x : A) (v : Value) → i < length xs → x ≡ get_or xs i x → view v ≡ f x
    → new ≡ items ++ v ∷ [] → map view items ≡ map f (take i xs) → map view new ≡ map f (take (i + 1) xs)
written_more f xs i items new x v less at is pushed so =
    ap (map view) pushed ∙ map-append view items (v ∷ []) ∙ ap (λ ds. ds ++ view v ∷ []) so ∙ ap (λ d. map f (take i xs) ++ d ∷ []) is
    ∙ sym (map-append f (take i xs) (x ∷ [])) ∙ ap (map f) (sym (front xs i x less at))

-- and all
pub written_all : {A : Type 0} (f : A → Data) (xs : List A) (i : ℕ) (items : List Value) → length xs ≤ i → map view items ≡ map f (take i xs) → list_of (map view items) ≡ list_of (map f xs)
written_all f xs i items past so = ap list_of (so ∙ ap (map f) (take_all i xs past))

-- what holds of one element more
pub all_more : {A : Type 0} (P : A → Type 0) (xs : List A) (i : ℕ) (x : A) → i < length xs → x ≡ get_or xs i x → P x → AllByRecursion P (take i xs) → AllByRecursion P (take (i + 1) xs)
all_more P [] i x less at p so = absurd (omega (arith, less))
all_more P (y ∷ xs) ℕ.zero x less at p so = (subst P at p, tt)
all_more P (y ∷ xs) (suc i) x less at p so = let z : suc i + 1 ≡ suc (i + 1) = omega arith in rw z (so.0, all_more P xs i x (omega (arith, less)) at p so.1)

pub all_of_all : {A : Type 0} (P : A → Type 0) (xs : List A) (i : ℕ) → length xs ≤ i → AllByRecursion P (take i xs) → AllByRecursion P xs
all_of_all P xs i past so = subst (AllByRecursion P) (take_all i xs past) so
