-- Parts that are put one after another.
use Rattle.std.proofs.Common.{◌≡◌, ℕ, ◌+◌, List, ◌++◌, [], ◌∷◌, refl, sym, ap, ◌∙◌, append_assoc, append-nil, arith}
use Rattle.std.specs.Prelude.{codes}
use Rattle.std.specs.List.{flat_map, range_with_len}
use Rattle.std.proofs.lemmas.Grind.{flat_map-append}
use Rattle.std.proofs.lemmas.List.{map-id}
use Rattle.std.proofs.lemmas.List.FromFn.{map-range_with_len_more}
use Rattle.made_scripts.specs.Texts.{parts, comma_before, list_of}

-- the numbers before one, and this one
numbers_more : (k : ℕ) → range_with_len 0 (k + 1) ≡ range_with_len 0 k ++ k ∷ []
numbers_more k =
    sym (map-id (range_with_len 0 (k + 1))) ∙ map-range_with_len_more (λ n. n) 0 k k (omega arith) ∙ ap (λ ns. ns ++ k ∷ []) (map-id (range_with_len 0 k))

-- no parts
pub parts_none : (part : ℕ → List ℕ) → parts 0 part ≡ []
unfolding parts
parts_none part = refl

-- one part more
pub parts_more : (part : ℕ → List ℕ) (k : ℕ) → parts (k + 1) part ≡ parts k part ++ part k
unfolding parts
parts_more part k =
    ap (flat_map part) (numbers_more k)
    ∙ flat_map-append part (range_with_len 0 k) (k ∷ [])
    ∙ ap (λ t. flat_map part (range_with_len 0 k) ++ t) (append-nil (part k))

-- nothing was put yet
pub none_put : (part : ℕ → List ℕ) (start : List ℕ) → start ≡ start ++ parts 0 part
none_put part start = sym (append-nil start) ∙ ap (λ t. start ++ t) (sym (parts_none part))

-- a part was put behind those before it
pub part_put : (part : ℕ → List ℕ) (k : ℕ) (start out new : List ℕ) → new ≡ out ++ part k → out ≡ start ++ parts k part → new ≡ start ++ parts (k + 1) part
part_put part k start out new is so =
    is ∙ ap (λ t. t ++ part k) so ∙ append_assoc start (parts k part) (part k) ∙ ap (λ t. start ++ t) (sym (parts_more part k))

-- all parts were put
pub parts_put : (part : ℕ → List ℕ) (count k : ℕ) (start out : List ℕ) → k ≡ count → out ≡ start ++ parts k part → out ≡ start ++ parts count part
parts_put part count k start out all so = so ∙ ap (λ n. start ++ parts n part) all

-- the items of a list, each but the first behind a comma
abbrev pub items : ℕ → (ℕ → List ℕ) → List ℕ
items count part = parts count (λ place. comma_before place ++ part place)

-- the bracket before a list was put
pub opened : (part : ℕ → List ℕ) (start new : List ℕ) → new ≡ start ++ codes "[" → new ≡ (start ++ codes "[") ++ items 0 part
opened part start new is = is ∙ none_put (λ place. comma_before place ++ part place) (start ++ codes "[")

-- an item of a list was put, behind its comma
pub item_put : (part : ℕ → List ℕ) (k : ℕ) (start out comma new : List ℕ) → comma ≡ out ++ comma_before k → new ≡ comma ++ part k
    → out ≡ start ++ items k part → new ≡ start ++ items (k + 1) part
item_put part k start out comma new first then so =
    part_put (λ place. comma_before place ++ part place) k start out new
    (then ∙ ap (λ t. t ++ part k) first ∙ append_assoc out (comma_before k) (part k)) so

-- a whole list was put
pub list_put : (part : ℕ → List ℕ) (count k : ℕ) (start out new : List ℕ) → k ≡ count → new ≡ out ++ codes "]"
    → out ≡ (start ++ codes "[") ++ items k part → new ≡ start ++ list_of count part
list_put part count k start out new all is so =
    is
    ∙ ap (λ t. t ++ codes "]") (so ∙ ap (λ n. (start ++ codes "[") ++ items n part) all)
    ∙ append_assoc (start ++ codes "[") (items count part) (codes "]")
    ∙ append_assoc start (codes "[") (items count part ++ codes "]")

-- three pieces that are put one after another
pub three_put : (start a b c one two three : List ℕ) → one ≡ start ++ a → two ≡ one ++ b → three ≡ two ++ c → three ≡ start ++ (a ++ b ++ c)
three_put start a b c one two three first second third =
    third
    ∙ ap (λ t. t ++ c) (second ∙ ap (λ t. t ++ b) first ∙ append_assoc start a b)
    ∙ append_assoc start (a ++ b) c
