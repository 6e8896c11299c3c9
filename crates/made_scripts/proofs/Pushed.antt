-- Scripts that are made one after another.
use Rattle.std.proofs.Common.{◌≡◌, ℕ, ◌+◌, List, ◌++◌, [], ◌∷◌, sym, ap, ◌∙◌, arith}
use Rattle.std.specs.Prelude.{map, Vec}
use Rattle.std.specs.List.{range_with_len}
use Rattle.std.specs.declared.alloc.Global.{Global}
use Rattle.std.proofs.lemmas.List.{map_push}
use Rattle.std.proofs.lemmas.List.FromFn.{map-range_with_len_more}

-- one script more was made
pub script_pushed : (script : ℕ → List ℕ) (k : ℕ) (made grown : List (Vec ℕ Global)) (next : Vec ℕ Global) → grown ≡ made ++ next ∷ [] → next.items ≡ script k
    → map (λ v. v.items) made ≡ map script (range_with_len 0 k) → map (λ v. v.items) grown ≡ map script (range_with_len 0 (k + 1))
script_pushed script k made grown next is text so =
    ap (map (λ v. v.items)) is
    ∙ map_push (λ v. v.items) made next
    ∙ ap (λ ts. ts ++ next.items ∷ []) so
    ∙ ap (λ t. map script (range_with_len 0 k) ++ t ∷ []) text
    ∙ sym (map-range_with_len_more script 0 k k (omega arith))

-- all were made
pub all_pushed : (script : ℕ → List ℕ) (count k : ℕ) (made : List (Vec ℕ Global)) → k ≡ count → map (λ v. v.items) made ≡ map script (range_with_len 0 k)
    → map (λ v. v.items) made ≡ map script (range_with_len 0 count)
all_pushed script count k made all so = so ∙ ap (λ n. map script (range_with_len 0 n)) all
