-- Gathering what f gives for each element, as far as a loop has come.
use Rattle.std.proofs.Common.{◌≡◌, ℕ, suc, ◌+◌, ◌<◌, ◌≤◌, List, [], ◌∷◌, ◌++◌, map, length, get_or, drop, Option, Some, None, option_map, refl, sym, subst, ap, ◌∙◌, append_assoc, append-nil, add-one, drop-cons}
use Rattle.std.proofs.Math.ListN.{drop_of_length-le}
use Rattle.std.specs.List.{zip}
use Rattle.serde_json.specs.Data.{Data}
use Rattle.serde_json.specs.View.{view}
use Rattle.serde_json.specs.declared.value.Value.{Value}
use Rattle.json_forms.specs.Lists.{all_of}

-- what was gathered, followed by what the elements from i on give, is what all give
abbrev pub Gathered : {A B : Type 0} → (A → Option B) → List A → ℕ → List B → Type 0
Gathered f xs i done = all_of f xs ≡ option_map (λ ys. done ++ ys) (all_of f (drop i xs))

-- the same for pairs of an element and an item
abbrev pub Paired : {A B : Type 0} → (A × Data → Option B) → List A → List Value → ℕ → List B → Type 0
Paired f xs items i done = all_of f (zip xs (map view items)) ≡ option_map (λ ys. done ++ ys) (all_of f (zip (drop i xs) (map view (drop i items))))

same : {B : Type 0} (o : Option (List B)) → o ≡ option_map (λ ys. ys) o
same None = refl
same (Some x) = refl

later : {B : Type 0} (done : List B) (n : B) (o : Option (List B)) → option_map (λ ys. done ++ ys) (option_map (λ ys. n ∷ ys) o) ≡ option_map (λ ys. (done ++ n ∷ []) ++ ys) o
later done n None = refl
later done n (Some ys) = ap Some (sym (append_assoc done (n ∷ []) ys))

pub gathered_first : {A B : Type 0} (f : A → Option B) (xs : List A) → Gathered f xs 0 []
gathered_first f xs = same (all_of f xs)

pub gathered_more : {A B : Type 0} (f : A → Option B) (xs : List A) (i : ℕ) (done : List B) (d : A) (n : B) → i < length xs → f (get_or xs i d) ≡ Some n → Gathered f xs i done → Gathered f xs (i + 1) (done ++ n ∷ [])
gathered_more f xs i done d n less is before = before ∙ rw (drop-cons xs i d) (rw is (rw add-one (later done n (all_of f (drop (suc i) xs)))))

pub gathered_none : {A B : Type 0} (f : A → Option B) (xs : List A) (i : ℕ) (done : List B) (d : A) → i < length xs → f (get_or xs i d) ≡ None → Gathered f xs i done → None ≡ all_of f xs
gathered_none f xs i done d less is before = sym (before ∙ rw (drop-cons xs i d) (rw is refl))

pub gathered_all : {A B : Type 0} (f : A → Option B) (xs : List A) (i : ℕ) (done : List B) → length xs ≤ i → Gathered f xs i done → Some done ≡ all_of f xs
gathered_all f xs i done past before = sym (before ∙ rw (drop_of_length-le xs past) (ap Some (append-nil done)))

pub paired_first : {A B : Type 0} (f : A × Data → Option B) (xs : List A) (items : List Value) → Paired f xs items 0 []
paired_first f xs items = same (all_of f (zip xs (map view items)))

pub paired_more : {A B : Type 0} (f : A × Data → Option B) (xs : List A) (items : List Value) (i : ℕ) (done : List B) (a : A) (d : Value) (n : B) → i < length xs → i < length items
    → f (get_or xs i a, view (get_or items i d)) ≡ Some n → Paired f xs items i done → Paired f xs items (i + 1) (done ++ n ∷ [])
paired_more f xs items i done a d n in_xs in_items is before =
    before ∙ rw (drop-cons xs i a, drop-cons items i d) (rw is (rw add-one (later done n (all_of f (zip (drop (suc i) xs) (map view (drop (suc i) items)))))))

-- the same by the item itself
pub paired_next : {A B : Type 0} (f : A × Data → Option B) (xs : List A) (items : List Value) (i : ℕ) (done : List B) (a : A) (item : Value) (n : B) (new : List B) → i < length xs → i < length items
    → item ≡ get_or items i item → f (get_or xs i a, view item) ≡ Some n → new ≡ done ++ n ∷ [] → Paired f xs items i done → Paired f xs items (i + 1) new
paired_next f xs items i done a item n new in_xs in_items at is pushed before =
    subst (Paired f xs items (i + 1)) (sym pushed)
    (paired_more f xs items i done a item n in_xs in_items (ap (λ v. f (get_or xs i a, view v)) (sym at) ∙ is) before)

pub paired_none : {A B : Type 0} (f : A × Data → Option B) (xs : List A) (items : List Value) (i : ℕ) (done : List B) (a : A) (d : Value) → i < length xs → i < length items
    → f (get_or xs i a, view (get_or items i d)) ≡ None → Paired f xs items i done → None ≡ all_of f (zip xs (map view items))
paired_none f xs items i done a d in_xs in_items is before = sym (before ∙ rw (drop-cons xs i a, drop-cons items i d) (rw is refl))

pub paired_end : {A B : Type 0} (f : A × Data → Option B) (xs : List A) (items : List Value) (i : ℕ) (done : List B) (a : A) (item : Value) → i < length xs → i < length items
    → item ≡ get_or items i item → f (get_or xs i a, view item) ≡ None → Paired f xs items i done → None ≡ all_of f (zip xs (map view items))
paired_end f xs items i done a item in_xs in_items at is before =
    paired_none f xs items i done a item in_xs in_items (ap (λ v. f (get_or xs i a, view v)) (sym at) ∙ is) before

pub paired_all : {A B : Type 0} (f : A × Data → Option B) (xs : List A) (items : List Value) (i : ℕ) (done : List B) → length xs ≤ i → Paired f xs items i done → Some done ≡ all_of f (zip xs (map view items))
paired_all f xs items i done past before = sym (before ∙ rw (drop_of_length-le xs past) (ap Some (append-nil done)))
