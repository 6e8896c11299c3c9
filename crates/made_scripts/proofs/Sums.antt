-- Sums and first numbers of lists, item by item.
use Rattle.std.proofs.Common.{◌≡◌, ◌<◌, ◌≤◌, ◌+◌, ◌++◌, ◌∷◌, [], ℕ, ℤ, List, length, take, drop, get_or, sym, ap, ◌∙◌, append-nil, arith}
use Rattle.std.specs.Prelude.{map, ◌+ℤ◌, sum_by}
use Rattle.std.specs.List.{flat_map}
use Rattle.std.proofs.lemmas.List.{take-append-drop, take_all, take_more, map-append, get_or_append_left}
use Rattle.std.proofs.lemmas.List.Sums.{fold-append, sum_by-append}
use Rattle.std.proofs.lemmas.Grind.{flat_map-append}
use Rattle.made_scripts.specs.Summary.{added}

-- the list of one item more
flat_more : {X A : Type 0} (f : X → List A) (xs : List X) (k : ℕ) (x d : X) → k < length xs → x ≡ get_or xs k d → flat_map f (take (k + 1) xs) ≡ flat_map f (take k xs) ++ f x
flat_more f xs k x d within is =
    ap (flat_map f) (take_more xs k d within)
    ∙ flat_map-append f (take k xs) (get_or xs k d ∷ [])
    ∙ ap (λ t. flat_map f (take k xs) ++ t) (append-nil (f (get_or xs k d)) ∙ ap f (sym is))

-- the numbers of one item more
pub flat_added : {X : Type 0} (f : X → List ℤ) (start : ℤ) (xs : List X) (k : ℕ) (x d : X) (sum : ℤ) → k < length xs → x ≡ get_or xs k d
    → sum ≡ added (added start (flat_map f (take k xs))) (f x) → sum ≡ added start (flat_map f (take (k + 1) xs))
flat_added f start xs k x d sum within is so =
    so ∙ sym (fold-append (λ total number. total +ℤ number) start (flat_map f (take k xs)) (f x)) ∙ sym (ap (added start) (flat_more f xs k x d within is))

-- one number more
pub number_added : {X : Type 0} (f : X → ℤ) (start : ℤ) (xs : List X) (k : ℕ) (x d : X) (sum : ℤ) → k < length xs → x ≡ get_or xs k d
    → sum ≡ added start (map f (take k xs)) +ℤ f x → sum ≡ added start (map f (take (k + 1) xs))
number_added f start xs k x d sum within is so =
    so
    ∙ ap (λ y. added start (map f (take k xs)) +ℤ f y) is
    ∙ sym (fold-append (λ total number. total +ℤ number) start (map f (take k xs)) (f (get_or xs k d) ∷ []))
    ∙ sym (ap (added start) (ap (map f) (take_more xs k d within) ∙ map-append f (take k xs) (get_or xs k d ∷ [])))

-- one count more
pub count_added : {X : Type 0} (f : X → ℕ) (xs : List X) (k : ℕ) (x d : X) (count : ℕ) → k < length xs → x ≡ get_or xs k d
    → count ≡ sum_by f (take k xs) + f x → count ≡ sum_by f (take (k + 1) xs)
count_added f xs k x d count within is so =
    so
    ∙ ap (λ y. sum_by f (take k xs) + f y) is
    ∙ omega (arith, sum_by-append f (take k xs) (get_or xs k d ∷ []))
    ∙ sym (ap (sum_by f) (take_more xs k d within))

-- no item so far has any
pub none_more : {X A : Type 0} (f : X → List A) (xs : List X) (k : ℕ) (x d : X) → k < length xs → x ≡ get_or xs k d → flat_map f (take k xs) ≡ [] → f x ≡ []
    → flat_map f (take (k + 1) xs) ≡ []
none_more f xs k x d within is none other = flat_more f xs k x d within is ∙ ap (λ t. t ++ f x) none ∙ other

-- the first that an item has, where none before has any
pub first_found : {X A : Type 0} (f : X → List A) (xs : List X) (k : ℕ) (x d : X) (e : A) → k < length xs → x ≡ get_or xs k d → flat_map f (take k xs) ≡ [] → 0 < length (f x)
    → get_or (flat_map f xs) 0 e ≡ get_or (f x) 0 e
first_found f xs k x d e within is none some =
    let behind = flat_map f (drop (k + 1) xs) in
    let parted : flat_map f xs ≡ f x ++ behind =
    ap (flat_map f) (sym (take-append-drop (k + 1) xs))
    ∙ flat_map-append f (take (k + 1) xs) (drop (k + 1) xs)
    ∙ ap (λ t. t ++ behind) (flat_more f xs k x d within is ∙ ap (λ t. t ++ f x) none) in
    ap (λ t. get_or t 0 e) parted ∙ get_or_append_left (f x) behind e 0 some

-- no item has any
pub none_at_all : {X A : Type 0} (f : X → List A) (xs : List X) (k : ℕ) → length xs ≤ k → flat_map f (take k xs) ≡ [] → flat_map f xs ≡ []
none_at_all f xs k past none = sym (ap (flat_map f) (take_all k xs past)) ∙ none
