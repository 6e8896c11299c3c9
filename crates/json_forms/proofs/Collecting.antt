-- Collecting what f gives for each item, as far as a loop has come.
use Rattle.std.proofs.Common.{◌≡◌, ℕ, suc, ◌+◌, ◌<◌, ◌≤◌, List, [], ◌∷◌, ◌++◌, map, length, get_or, drop, Option, Some, None, option_map, refl, sym, ap, ◌∙◌, append_assoc, append-nil, add-one, drop-cons}
use Rattle.std.proofs.Math.ListN.{drop_of_length-le}
use Rattle.serde_json.specs.Data.{Data}
use Rattle.serde_json.specs.View.{view}
use Rattle.serde_json.specs.declared.value.Value.{Value}
use Rattle.json_forms.specs.Lists.{all_of}

-- what was collected, followed by what the items from i on give, is what all give
abbrev pub Collected : {B : Type 0} → (Data → Option B) → List Value → ℕ → List B → Type 0
Collected f items i done = all_of f (map view items) ≡ option_map (λ ys. done ++ ys) (all_of f (map view (drop i items)))

same : {B : Type 0} (o : Option (List B)) → o ≡ option_map (λ ys. ys) o
same None = refl
same (Some x) = refl

pub collected_first : {B : Type 0} (f : Data → Option B) (items : List Value) → Collected f items 0 []
collected_first f items = same (all_of f (map view items))

later : {B : Type 0} (done : List B) (n : B) (o : Option (List B)) → option_map (λ ys. done ++ ys) (option_map (λ ys. n ∷ ys) o) ≡ option_map (λ ys. (done ++ n ∷ []) ++ ys) o
later done n None = refl
later done n (Some ys) = ap Some (sym (append_assoc done (n ∷ []) ys))

pub collected_more : {B : Type 0} (f : Data → Option B) (items : List Value) (i : ℕ) (done : List B) (d : Value) (n : B) → i < length items → f (view (get_or items i d)) ≡ Some n → Collected f items i done → Collected f items (i + 1) (done ++ n ∷ [])
collected_more f items i done d n less is before = before ∙ rw (drop-cons items i d) (rw is (rw add-one (later done n (all_of f (map view (drop (suc i) items))))))

pub collected_none : {B : Type 0} (f : Data → Option B) (items : List Value) (i : ℕ) (done : List B) (d : Value) → i < length items → f (view (get_or items i d)) ≡ None → Collected f items i done → None ≡ all_of f (map view items)
collected_none f items i done d less is before = sym (before ∙ rw (drop-cons items i d) (rw is refl))

pub collected_all : {B : Type 0} (f : Data → Option B) (items : List Value) (i : ℕ) (done : List B) → length items ≤ i → Collected f items i done → Some done ≡ all_of f (map view items)
collected_all f items i done past before = sym (before ∙ rw (drop_of_length-le items past) (ap Some (append-nil done)))
