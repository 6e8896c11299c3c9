-- Which keys a name and a slash begin.
use Rattle.std.proofs.Common.{◌≡◌, ℕ, suc, ◌+◌, ◌<◌, List, [], ◌∷◌, ◌++◌, length, drop, get_or, Bool, true, false, ◌&&◌, nat_eq, refl, sym, ap, subst, ◌∙◌, arith, bytes_eq}
use Rattle.std.specs.List.{starts_with, list_all}
use Rattle.std.specs.Str.{IsCharBoundary, IsUtf8}
use Rattle.std.proofs.lemmas.Str.{IsCharBoundary-after_ascii, IsCharBoundary-from_rest, IsUtf8-drop}
use Rattle.std.proofs.lemmas.Bool.Decides.{nat_tests}
use Rattle.kv_mounts.specs.Parts.{below, begins, behind, is_plain}

both_assoc : (a b c : Bool) → (a && (b && c)) ≡ ((a && b) && c)
both_assoc true b c = refl
both_assoc false b c = refl

and_true : (a : Bool) → (a && true) ≡ a
and_true true = refl
and_true false = refl

-- both of two tests
pub both_parts : (a b : Bool) → (a && b) ≡ true → (a ≡ true) × (b ≡ true)
both_parts true b e = (refl, e)
both_parts false b e = cc

same : (m n : ℕ) → nat_eq m n ≡ true → m ≡ n
same m n e = grind (arith, nat_tests)

itself : (n : ℕ) → nat_eq n n ≡ true
itself n = grind (arith, nat_tests)

-- a text begins with two parts where it begins with the first, and what is behind that with the second
pub starts_with-append : (key a b : List ℕ) → starts_with nat_eq key (a ++ b) ≡ (starts_with nat_eq key a && starts_with nat_eq (drop (length a) key) b)
starts_with-append key [] b = refl
starts_with-append [] (x ∷ a) b = refl
starts_with-append (k ∷ key) (x ∷ a) b = ap (λ t. nat_eq x k && t) (starts_with-append key a b) ∙ both_assoc (nat_eq x k) _ _

-- a key below a name is the name, a slash, and what is behind
pub begins-is : (name key : List ℕ) → begins name key ≡ true → key ≡ below name (behind name key)
begins-is [] [] e = cc
begins-is [] (k ∷ key) e = ap (λ x. x ∷ key) (sym (same 47 k (both_parts _ _ e).0))
begins-is (n ∷ name) [] e = cc
begins-is (n ∷ name) (k ∷ key) e =
    let parts = both_parts _ _ e in
    ap (λ x. x ∷ key) (sym (same n k parts.0)) ∙ ap (λ xs. n ∷ xs) (begins-is name key parts.1)

pub begins-below : (name rest : List ℕ) → begins name (below name rest) ≡ true
begins-below [] rest = refl
begins-below (n ∷ name) rest = ap (λ t. t && begins name (below name rest)) (itself n) ∙ begins-below name rest

pub behind-below : (name rest : List ℕ) → behind name (below name rest) ≡ rest
behind-below [] rest = refl
behind-below (n ∷ name) rest = behind-below name rest

bytes_eq-below : (name a b : List ℕ) → bytes_eq (below name a) (below name b) ≡ bytes_eq a b
bytes_eq-below [] a b = refl
bytes_eq-below (n ∷ name) a b = ap (λ t. t && bytes_eq (below name a) (below name b)) (itself n) ∙ bytes_eq-below name a b

-- keys below a name are told apart by what is behind it
pub bytes_eq-behind : (name a b : List ℕ) → begins name a ≡ true → begins name b ≡ true → bytes_eq a b ≡ bytes_eq (behind name a) (behind name b)
bytes_eq-behind name a b p q =
    ap (λ x. bytes_eq x b) (begins-is name a p) ∙ ap (bytes_eq (below name (behind name a))) (begins-is name b q) ∙ bytes_eq-below name (behind name a) (behind name b)

no_slash : (n : ℕ) (name : List ℕ) → nat_eq n 47 ≡ true → list_all is_plain (n ∷ name) ≡ true → false ≡ true
no_slash n name e plain = sym (ap is_plain (same n 47 e)) ∙ (both_parts _ _ plain).0

-- of names without a slash one alone begins a key
pub one_name : (a b key : List ℕ) → list_all is_plain a ≡ true → list_all is_plain b ≡ true → begins a key ≡ true → begins b key ≡ true → a ≡ b
one_name [] [] key p q d e = refl
one_name a b [] p q d e = cc
one_name [] (n ∷ b) (k ∷ key) p q d e =
    let slash : 47 ≡ k = same 47 k (both_parts _ _ d).0 in
    let wrong : false ≡ true = no_slash n b (subst (λ x. nat_eq n x ≡ true) (sym slash) (both_parts _ _ e).0) q in
    cc wrong
one_name (n ∷ a) [] (k ∷ key) p q d e =
    let slash : 47 ≡ k = same 47 k (both_parts _ _ e).0 in
    let wrong : false ≡ true = no_slash n a (subst (λ x. nat_eq n x ≡ true) (sym slash) (both_parts _ _ d).0) p in
    cc wrong
one_name (n ∷ a) (m ∷ b) (k ∷ key) p q d e =
    let f = both_parts _ _ d in
    let g = both_parts _ _ e in
    let heads : n ≡ m = same n k f.0 ∙ sym (same m k g.0) in
    ap (λ x. x ∷ a) heads ∙ ap (λ xs. m ∷ xs) (one_name a b key (both_parts _ _ p).1 (both_parts _ _ q).1 f.1 g.1)

slash_at : (name key : List ℕ) → begins name key ≡ true → (length name < length key) × (get_or key (length name) 0 ≡ 47)
slash_at [] [] e = cc
slash_at [] (k ∷ key) e = (omega arith, sym (same 47 k (both_parts _ _ e).0))
slash_at (n ∷ name) [] e = cc
slash_at (n ∷ name) (k ∷ key) e = let less : length name < length key = (slash_at name key (both_parts _ _ e).1).0 in (omega (arith, less), (slash_at name key (both_parts _ _ e).1).1)

-- what is behind the slash is a text
pub cut : (name key : List ℕ) → IsUtf8 key → begins name key ≡ true → IsCharBoundary key (length name + 1)
cut name key utf8 e = let at = slash_at name key e in IsCharBoundary-after_ascii key (length name) utf8 at.0 (omega (arith, at.1))

pub behind-drop : (name key : List ℕ) → behind name key ≡ drop (length name + 1) key
behind-drop [] key = refl
behind-drop (n ∷ name) [] = let e : length (n ∷ name) + 1 ≡ suc (length name + 1) = omega arith in rw e refl
behind-drop (n ∷ name) (k ∷ key) = let e : length (n ∷ name) + 1 ≡ suc (length name + 1) = omega arith in rw e (behind-drop name key)

turned : (m n : ℕ) → nat_eq m n ≡ nat_eq n m
turned m n = grind (arith, nat_tests)

-- a key is one below the name where it lies below it and is the same behind
pub bytes_eq-any : (name q k : List ℕ) → bytes_eq q (below name k) ≡ (begins name q && bytes_eq (behind name q) k)
bytes_eq-any [] [] k = refl
bytes_eq-any [] (x ∷ q) k = ap (λ t. t && bytes_eq q k) (turned x 47 ∙ sym (and_true (nat_eq 47 x)))
bytes_eq-any (n ∷ name) [] k = refl
bytes_eq-any (n ∷ name) (x ∷ q) k =
    ap (λ t. t && bytes_eq q (below name k)) (turned x n) ∙ ap (λ t. nat_eq n x && t) (bytes_eq-any name q k) ∙ both_assoc (nat_eq n x) (begins name q) (bytes_eq (behind name q) k)

-- a key begins with a prefix below a name where it lies below it, and what is behind begins with the prefix
pub starts_with-below : (name p key : List ℕ) → starts_with nat_eq key (below name p) ≡ (begins name key && starts_with nat_eq (behind name key) p)
starts_with-below [] p [] = refl
starts_with-below [] p (k ∷ key) = ap (λ t. t && starts_with nat_eq key p) (sym (and_true (nat_eq 47 k)))
starts_with-below (n ∷ name) p [] = refl
starts_with-below (n ∷ name) p (k ∷ key) = ap (λ t. nat_eq n k && t) (starts_with-below name p key) ∙ both_assoc (nat_eq n k) (begins name key) (starts_with nat_eq (behind name key) p)

-- so is what is behind the slash of a rest
pub cut_from : (name key : List ℕ) (from : ℕ) → IsUtf8 key → IsCharBoundary key from → begins name (drop from key) ≡ true → IsCharBoundary key (from + (length name + 1))
cut_from name key from utf8 is e = IsCharBoundary-from_rest key from (length name + 1) is.0 (cut name (drop from key) (IsUtf8-drop key from utf8 is) e)
