-- Words of nested lists, as far as a loop over the items has come.
use Rattle.std.proofs.Common.{◌≡◌, ℕ, suc, ◌+◌, ◌<◌, ◌≤◌, List, ◌∷◌, ◌++◌, map, length, get_or, drop, Ok, Err, refl, sym, ap, ◌∙◌, append_assoc, append-nil, add-one, drop-cons}
use Rattle.std.proofs.Math.ListN.{drop_of_length-le}
use Rattle.serde_json.specs.Data.{Data}
use Rattle.serde_json.specs.View.{view}
use Rattle.serde_json.specs.declared.value.Value.{Value}
use Rattle.script_lines.specs.NestedWords.{Path, Given, onto, followed, from_items}

-- the words so far and what the items from k on give are what all give
abbrev pub GivenSo : (Data → Given) → List Value → List ℕ → ℕ → List ℕ → Type 0
GivenSo f items before k words = onto before (from_items f 0 (map view items)) ≡ onto words (from_items f k (map view (drop k items)))

onto-followed : (k : ℕ) (one rest : Given) (before after : List ℕ) → onto before one ≡ Ok after → onto before (followed k one rest) ≡ onto after rest
onto-followed k (Err path) rest before after e = cc
onto-followed k (Ok words) (Err path) before after e = refl
onto-followed k (Ok words) (Ok more) before after e =
    let same : before ++ words ≡ after = cc in
    ap Ok (sym (append_assoc before words more) ∙ ap (λ front. front ++ more) same)

pub given_more : (f : Data → Given) (items : List Value) (before : List ℕ) (k : ℕ) (words more : List ℕ) (d : Value)
    → k < length items → onto words (f (view (get_or items k d))) ≡ Ok more → GivenSo f items before k words → GivenSo f items before (k + 1) more
given_more f items before k words more d less is so =
    so ∙ rw (drop-cons items k d) (onto-followed k (f (view (get_or items k d))) (from_items f (k + 1) (map view (drop (suc k) items))) words more is ∙ rw add-one refl)

failed_at : (k : ℕ) (before words : List ℕ) (path : Path) (one all rest : Given) → one ≡ Err path → onto before all ≡ onto words (followed k one rest) → all ≡ Err (k ∷ path)
failed_at k before words path (Ok ws) all rest is e = cc
failed_at k before words path (Err inner) (Ok ws) rest is e = cc
failed_at k before words path (Err inner) (Err other) rest is e = cc

pub given_failed : (f : Data → Given) (items : List Value) (before : List ℕ) (k : ℕ) (words : List ℕ) (path : Path) (d : Value)
    → k < length items → f (view (get_or items k d)) ≡ Err path → GivenSo f items before k words → from_items f 0 (map view items) ≡ Err (k ∷ path)
given_failed f items before k words path d less is so =
    failed_at k before words path (f (view (get_or items k d))) (from_items f 0 (map view items)) (from_items f (k + 1) (map view (drop (suc k) items))) is (so ∙ rw (drop-cons items k d) refl)

pub given_all : (f : Data → Given) (items : List Value) (before : List ℕ) (k : ℕ) (words : List ℕ) → length items ≤ k → GivenSo f items before k words → onto before (from_items f 0 (map view items)) ≡ Ok words
given_all f items before k words past so = so ∙ rw (drop_of_length-le items past) (ap Ok (append-nil words))
