-- What is kept at each place once a word more has come.
use Rattle.std.proofs.Common.{◌≡◌, ◌≢◌, ◌∙◌, ◌<◌, ℕ, zero, suc, ◌+◌, ◌==◌, Bool, true, false, cond, List, [], ◌∷◌, ◌++◌, length, map, take, get_or, Option, Some, None, unwrap_or, refl, sym, ap, arith}
use Rattle.std.proofs.Math.ListN.{set}
use Rattle.std.proofs.lemmas.Bool.Decides.{nat_tests}
use Rattle.std.proofs.lemmas.List.{length-set, length-map, get_or-set_same, get_or-set_other}
use Rattle.std.proofs.lemmas.List.FromFn.{length-range_with_len, get_or-map-range_with_len, fill_by_all}
use Rattle.std.proofs.lemmas.List.Sums.{fold-append}
use Rattle.std.specs.List.{range_with_len}
use Rattle.cells.specs.declared.dtype.Dtype.{Dtype}
use Rattle.downsample_view.specs.Downsampled.{kept_of, kept_word}
use Rattle.downsample_view.specs.Places.{is_below, is_place, words_to, kept_slot, kept_with, put_at}
use Rattle.downsample_view.specs.declared.method.Method.{Method}

abbrev one_if : Bool → ℕ → List ℕ
one_if b w = cond b (w ∷ []) []

-- the words that come to a place, with one cell more
words_to-more : (q : ℕ) (places : List (Option ℕ)) (words : List ℕ) (k : ℕ) (p : Option ℕ) (w : ℕ) → k < length places → k < length words → p ≡ get_or places k p → w ≡ get_or words k w
    → words_to q (take (k + 1) places) (take (k + 1) words) ≡ words_to q (take k places) (take k words) ++ one_if (is_place q p) w
words_to-more q [] words k p w b c e f = absurd (omega (arith, b))
words_to-more q (a ∷ places) [] k p w b c e f = absurd (omega (arith, c))
words_to-more q (a ∷ places) (x ∷ words) zero p w b c e f =
    ap (λ n. words_to q (take n (a ∷ places)) (take n (x ∷ words))) (let z : zero + 1 ≡ suc zero = omega arith in z)
    ∙ told (is_place q a) ∙ ap (λ o. one_if (is_place q o) x) (sym e) ∙ ap (one_if (is_place q p)) (sym f)
  where
    told : (t : Bool) → cond t (x ∷ []) [] ≡ cond t (x ∷ []) []
    told t = refl
words_to-more q (a ∷ places) (x ∷ words) (suc k) p w b c e f =
    ap (λ n. words_to q (take n (a ∷ places)) (take n (x ∷ words))) (let z : suc k + 1 ≡ suc (k + 1) = omega arith in z)
    ∙ told (is_place q a) (words_to-more q places words k p w (omega (arith, b)) (omega (arith, c)) e f)
  where
    told : (t : Bool) → words_to q (take (k + 1) places) (take (k + 1) words) ≡ words_to q (take k places) (take k words) ++ one_if (is_place q p) w
        → cond t (x ∷ words_to q (take (k + 1) places) (take (k + 1) words)) (words_to q (take (k + 1) places) (take (k + 1) words))
        ≡ cond t (x ∷ words_to q (take k places) (take k words)) (words_to q (take k places) (take k words)) ++ one_if (is_place q p) w
    told true rest = ap (λ zs. x ∷ zs) rest
    told false rest = rest

kept_slot-more : (method : Method) (dtype : Dtype) (ws : List ℕ) (w : ℕ) → kept_slot method dtype (ws ++ w ∷ []) ≡ Some (kept_with method dtype (kept_slot method dtype ws) w)
kept_slot-more method dtype [] w = refl
kept_slot-more method dtype (x ∷ ws) w = ap Some (fold-append (kept_of method dtype) x ws (w ∷ []))

pub kept_word-slot : (method : Method) (dtype : Dtype) (ws : List ℕ) → unwrap_or (kept_slot method dtype ws) 0 ≡ kept_word method dtype ws
kept_word-slot method dtype [] = refl
kept_word-slot method dtype (w ∷ ws) = refl

append-none : (xs : List ℕ) → xs ++ [] ≡ xs
append-none [] = refl
append-none (x ∷ xs) = ap (λ zs. x ∷ zs) (append-none xs)

-- one word more is put to its place
pub fill-step : (method : Method) (dtype : Dtype) (slots : List (Option ℕ)) (places : List (Option ℕ)) (words : List ℕ) (k n : ℕ) (p : Option ℕ) (w : ℕ)
    → k < length places → k < length words → p ≡ get_or places k p → w ≡ get_or words k w → is_below n p ≡ true
    → slots ≡ map (λ q. kept_slot method dtype (words_to q (take k places) (take k words))) (range_with_len 0 n)
    → put_at method dtype slots p w ≡ map (λ q. kept_slot method dtype (words_to q (take (k + 1) places) (take (k + 1) words))) (range_with_len 0 n)
fill-step method dtype slots places words k n None w b c e f below so =
    so ∙ fill_by_all (λ q. kept_slot method dtype (words_to q (take (k + 1) places) (take (k + 1) words))) (map (λ q. kept_slot method dtype (words_to q (take k places) (take k words))) (range_with_len 0 n)) n None
    (length-map (range_with_len 0 n) _ ∙ length-range_with_len 0 n)
    (λ j inside.
    get_or-map-range_with_len (λ q. kept_slot method dtype (words_to q (take k places) (take k words))) 0 n j j None inside (omega arith)
    ∙ ap (kept_slot method dtype) (sym (append-none (words_to j (take k places) (take k words))) ∙ sym (words_to-more j places words k None w b c e f)))
fill-step method dtype slots places words k n (Some q) w b c e f below so =
    let old = λ (j : ℕ). kept_slot method dtype (words_to j (take k places) (take k words)) in
    let new = λ (j : ℕ). kept_slot method dtype (words_to j (take (k + 1) places) (take (k + 1) words)) in
    let count : length slots ≡ n = ap (λ (xs : List (Option ℕ)). length xs) so ∙ length-map (range_with_len 0 n) old ∙ length-range_with_len 0 n in
    let inside : q < n = grind (arith, nat_tests, below) in
    fill_by_all new (set slots q (Some (kept_with method dtype (get_or slots q None) w))) n None (length-set slots q _ ∙ count)
    (λ j small. told j small (j == q) refl)
  where
    was : (j : ℕ) → j < n → get_or slots j None ≡ kept_slot method dtype (words_to j (take k places) (take k words))
    was j small =
        ap (λ (xs : List (Option ℕ)). get_or xs j None) so
        ∙ get_or-map-range_with_len (λ q'. kept_slot method dtype (words_to q' (take k places) (take k words))) 0 n j j None small (omega arith)

    told : (j : ℕ) → j < n → (t : Bool) → (j == q) ≡ t
        → get_or (set slots q (Some (kept_with method dtype (get_or slots q None) w))) j None ≡ kept_slot method dtype (words_to j (take (k + 1) places) (take (k + 1) words))
    told j small true h =
        let same : j ≡ q = grind (arith, nat_tests, h) in
        let count : length slots ≡ n = ap (λ (xs : List (Option ℕ)). length xs) so ∙ length-map (range_with_len 0 n) _ ∙ length-range_with_len 0 n in
        let here : is_place j (Some q) ≡ true = (let s = sym same in grind (arith, nat_tests, s)) in
        ap (λ i. get_or (set slots q (Some (kept_with method dtype (get_or slots q None) w))) i None) same
        ∙ get_or-set_same slots q (Some (kept_with method dtype (get_or slots q None) w)) None (omega (arith, small, same, count))
        ∙ ap (λ i. Some (kept_with method dtype (get_or slots i None) w)) (sym same)
        ∙ ap (λ (o : Option ℕ). Some (kept_with method dtype o w)) (was j small)
        ∙ sym (kept_slot-more method dtype (words_to j (take k places) (take k words)) w)
        ∙ ap (λ t. kept_slot method dtype (words_to j (take k places) (take k words) ++ one_if t w)) (sym here)
        ∙ ap (kept_slot method dtype) (sym (words_to-more j places words k (Some q) w b c e f))
    told j small false h =
        let apart : j ≢ q = grind (arith, nat_tests, h) in
        let there : is_place j (Some q) ≡ false = (let s : q ≢ j = λ z. apart (sym z) in grind (arith, nat_tests, s)) in
        get_or-set_other slots q j (Some (kept_with method dtype (get_or slots q None) w)) None apart
        ∙ was j small
        ∙ ap (kept_slot method dtype) (sym (append-none (words_to j (take k places) (take k words))))
        ∙ ap (λ t. kept_slot method dtype (words_to j (take k places) (take k words) ++ one_if t w)) (sym there)
        ∙ ap (kept_slot method dtype) (sym (words_to-more j places words k (Some q) w b c e f))
