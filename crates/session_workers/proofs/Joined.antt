-- A mount whose store makes all changes together.
use Rattle.std.proofs.Common.{◌≡◌, ◌⊎◌, inl, inr, ℕ, List, [], ◌∷◌, ◌++◌, length, drop, map, Bool, true, false, None, refl, sym, ap}
use Rattle.std.specs.Prelude.{◌&&◌, ◌||◌, nat_eq, nat_le}
use Rattle.std.specs.List.{list_any, list_all, starts_with}
use Rattle.history.specs.Commit.{Key, are_together}
use Rattle.kv_face.specs.Store as store
use Rattle.kv_face.specs.declared.change.Change.{Change}
use Rattle.kv_mounts.specs.Parts.{below}

or_left : (b c : Bool) → b ≡ true → (b || c) ≡ true
or_left true c e = refl
or_left false c e = absurd (cc)

or_right : (b c : Bool) → c ≡ true → (b || c) ≡ true
or_right true c e = refl
or_right false c e = e

or_either : (b c : Bool) → (b || c) ≡ true → (b ≡ true) ⊎ (c ≡ true)
or_either true c e = inl refl
or_either false c e = inr e

either : {A B C : Type 0} → A ⊎ B → (A → C) → (B → C) → C
either (inl a) f g = f a
either (inr b) f g = g b

and_left : (b c : Bool) → (b && c) ≡ true → b ≡ true
and_left true c e = refl
and_left false c e = absurd (cc)

and_right : (b c : Bool) → (b && c) ≡ true → c ≡ true
and_right true c e = e
and_right false c e = absurd (cc)

both : (b c : Bool) → b ≡ true → c ≡ true → (b && c) ≡ true
both true c p q = q
both false c p q = absurd (cc)

alike : (a b : Bool) → (a ≡ true → b ≡ true) → (b ≡ true → a ≡ true) → a ≡ b
alike true b there back = sym (there refl)
alike false true there back = back refl
alike false false there back = refl

-- what begins with more begins with less
starts : (name p key : List ℕ) → starts_with nat_eq key (name ++ 47 ∷ p) ≡ true → starts_with nat_eq key (name ++ 47 ∷ []) ≡ true
starts [] p [] e = absurd (cc)
starts [] p (k ∷ key) e = both (nat_eq 47 k) (starts_with nat_eq key []) (and_left (nat_eq 47 k) (starts_with nat_eq key p) e) refl
starts (n ∷ name) p [] e = absurd (cc)
starts (n ∷ name) p (k ∷ key) e =
    both (nat_eq n k) (starts_with nat_eq key (name ++ 47 ∷ [])) (and_left (nat_eq n k) (starts_with nat_eq key (name ++ 47 ∷ p)) e)
    (starts name p key (and_right (nat_eq n k) (starts_with nat_eq key (name ++ 47 ∷ p)) e))

abbrev begin_all : List Key → Key → Bool
begin_all keys p = list_all (λ (key : Key). starts_with nat_eq key p) keys

-- two changes whose key is empty
abbrev two : List Change
two = record { key = []; bytes = None } ∷ record { key = []; bytes = None } ∷ []

abbrev begin_two : Key → Bool
begin_two p = list_all (λ (c : Change). starts_with nat_eq (drop 0 c.key) p) two

module _ (name : List ℕ) where
  abbrev whole : Key
  whole = name ++ 47 ∷ []

  all_begin : (p : Key) (keys : List Key) → begin_all keys (below name p) ≡ true → begin_all keys whole ≡ true
  all_begin p [] e = refl
  all_begin p (k ∷ keys) e =
      both (starts_with nat_eq k whole) (begin_all keys whole) (starts name p k (and_left (starts_with nat_eq k (below name p)) (begin_all keys (below name p)) e))
      (all_begin p keys (and_right (starts_with nat_eq k (below name p)) (begin_all keys (below name p)) e))

  module _ (keys : List Key) where
    some_begins : (ps : List Key) → list_any (begin_all keys) (map (below name) ps ++ []) ≡ true → begin_all keys whole ≡ true
    some_begins [] e = absurd (cc)
    some_begins (p ∷ ps) e = either (or_either (begin_all keys (below name p)) (list_any (begin_all keys) (map (below name) ps ++ [])) e) (all_begin p keys) (some_begins ps)

    -- the store that makes even two such changes together has the empty prefix
    empty_begins : (ps : List Key) → list_any begin_two ps ≡ true → begin_all keys whole ≡ true → list_any (begin_all keys) (map (below name) ps ++ []) ≡ true
    empty_begins [] e here = absurd (cc)
    empty_begins ([] ∷ ps) e here = or_left (begin_all keys whole) (list_any (begin_all keys) (map (below name) ps ++ [])) here
    empty_begins ((x ∷ xs) ∷ ps) e here = or_right (begin_all keys (below name (x ∷ xs))) (list_any (begin_all keys) (map (below name) ps ++ [])) (empty_begins ps e here)

    -- so the mount's keys go together as if its name and a slash were the one prefix
    pub joined : (ps : List Key) → ((changes : List Change) → store.are_together ps changes 0 ≡ true) → are_together (map (below name) ps ++ []) keys ≡ are_together (whole ∷ []) keys
    joined ps all = ap (λ b. nat_le (length keys) 1 || b) (alike (list_any (begin_all keys) (map (below name) ps ++ [])) (list_any (begin_all keys) (whole ∷ [])) there back)
      where
        there : list_any (begin_all keys) (map (below name) ps ++ []) ≡ true → list_any (begin_all keys) (whole ∷ []) ≡ true
        there e = or_left (begin_all keys whole) false (some_begins ps e)

        one : (begin_all keys whole ≡ true) ⊎ (false ≡ true) → begin_all keys whole ≡ true
        one (inl here) = here
        one (inr never) = absurd (cc)

        back : list_any (begin_all keys) (whole ∷ []) ≡ true → list_any (begin_all keys) (map (below name) ps ++ []) ≡ true
        back e = empty_begins ps (all two) (one (or_either (begin_all keys whole) false e))
