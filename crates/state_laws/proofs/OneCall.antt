-- Changes that a store makes together, by their keys.
use Rattle.std.proofs.Common.{◌≡◌, ℕ, List, [], ◌∷◌, length, take, drop, get_or, Bool, ◌&&◌, ◌||◌, nat_eq, nat_le, ◌+◌, ◌<◌, refl, sym, ap, subst, ◌∙◌}
use Rattle.std.specs.Prelude.{All}
use Rattle.std.specs.List.{list_all, list_any, starts_with}
use Rattle.std.specs.Str.{IsCharBoundary}
use Rattle.std.proofs.lemmas.List.{length-map}
use Rattle.std.proofs.lemmas.List.Elements.{All-more}
use Rattle.kv_face.specs.Store.{are_together, keys_of}
use Rattle.kv_face.specs.declared.change.Change.{Change}
use Rattle.history.specs.Commit as keys

all_keys : (p : List ℕ) (cs : List Change) → list_all (λ (c : Change). starts_with nat_eq (drop 0 c.key) p) cs ≡ list_all (λ key. starts_with nat_eq key p) (keys_of cs)
all_keys p [] = refl
all_keys p (c ∷ cs) = ap (λ t. starts_with nat_eq c.key p && t) (all_keys p cs)

any_keys : (ps : List (List ℕ)) (cs : List Change)
    → list_any (λ p. list_all (λ (c : Change). starts_with nat_eq (drop 0 c.key) p) cs) ps ≡ list_any (λ p. list_all (λ key. starts_with nat_eq key p) (keys_of cs)) ps
any_keys [] cs = refl
any_keys (p ∷ ps) cs =
    ap (λ t. t || list_any (λ q. list_all (λ (c : Change). starts_with nat_eq (drop 0 c.key) q) cs) ps) (all_keys p cs)
    ∙ ap (λ t. list_all (λ key. starts_with nat_eq key p) (keys_of cs) || t) (any_keys ps cs)

-- changes go together where their keys do
pub together-keys : (prefixes : List (List ℕ)) (cs : List Change) → are_together prefixes cs 0 ≡ keys.are_together prefixes (keys_of cs)
together-keys prefixes cs =
    ap (λ t. nat_le (length cs) 1 || t) (any_keys prefixes cs)
    ∙ ap (λ n. nat_le n 1 || list_any (λ p. list_all (λ key. starts_with nat_eq key p) (keys_of cs)) prefixes) (sym (length-map cs (λ (c : Change). c.key)))

-- one text more
pub text_more : (cs : List Change) (i : ℕ) (c : Change) (key : List ℕ) → i < length cs → c ≡ get_or cs i c → key ≡ c.key → All (λ (c : Change). IsCharBoundary c.key 0) (take i cs) → IsCharBoundary key 0
    → All (λ (c : Change). IsCharBoundary c.key 0) (take (i + 1) cs)
text_more cs i c key less is same all more = All-more (λ (c : Change). IsCharBoundary c.key 0) cs i c less all (subst (λ (d : Change). IsCharBoundary d.key 0) is (subst (λ k. IsCharBoundary k 0) same more))
