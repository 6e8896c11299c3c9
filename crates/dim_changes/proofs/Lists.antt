-- Lists of what a function gives for each dimension of a rank.
use Rattle.std.proofs.Common.{◌≡◌, ◌∙◌, ℕ, ◌+◌, Bool, true, false, cond, List, [], ◌∷◌, ◌++◌, map, filter, if◌then◌else◌, ap, arith}
use Rattle.std.specs.Option.{is_none}
use Rattle.std.specs.List.{range_with_len}
use Rattle.std.proofs.lemmas.List.FromFn.{map-range_with_len_more}
use Rattle.dim_changes.specs.Dims.{spot_in, others}
use Rattle.step_forms.proofs.Laws.{positions_more}

-- one dimension more
pub listed_more : {X : Type 0} (f : ℕ → X) (n : ℕ) → map f (range_with_len 0 (n + 1)) ≡ map f (range_with_len 0 n) ++ f n ∷ []
listed_more f n = map-range_with_len_more f 0 n n (omega arith)

filter_last : (p : ℕ → Bool) (xs : List ℕ) (x : ℕ) (b : Bool) → p x ≡ b → filter p (xs ++ x ∷ []) ≡ (if b then filter p xs ++ x ∷ [] else filter p xs)
filter_last p [] x true e = ap (λ c. if c then x ∷ [] else []) e
filter_last p [] x false e = ap (λ c. if c then x ∷ [] else []) e
filter_last p (y ∷ xs) x b e = told (p y) b (filter_last p xs x b e)
  where
    told : (c b : Bool) → filter p (xs ++ x ∷ []) ≡ (if b then filter p xs ++ x ∷ [] else filter p xs)
        → cond c (y ∷ filter p (xs ++ x ∷ [])) (filter p (xs ++ x ∷ [])) ≡ (if b then cond c (y ∷ filter p xs) (filter p xs) ++ x ∷ [] else cond c (y ∷ filter p xs) (filter p xs))
    told true true f = ap (λ zs. y ∷ zs) f
    told true false f = ap (λ zs. y ∷ zs) f
    told false true f = f
    told false false f = f

pub others_more : (selected : List ℕ) (n : ℕ) (b : Bool) → is_none (spot_in selected n) ≡ b → others selected (n + 1) ≡ (if b then others selected n ++ n ∷ [] else others selected n)
others_more selected n b e =
    let z : 0 + n ≡ n = omega arith in
    ap (filter (λ dim. is_none (spot_in selected dim))) (positions_more 0 n ∙ ap (λ k. range_with_len 0 n ++ k ∷ []) z) ∙ filter_last (λ dim. is_none (spot_in selected dim)) (range_with_len 0 n) n b e
