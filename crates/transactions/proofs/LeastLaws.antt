-- The least metadata key of some arrays.
use Rattle.std.proofs.Common.{◌≡◌, ◌∙◌, ◌⊎◌, inl, inr, ℕ, zero, suc, ◌+◌, ◌<◌, ◌≤◌, true, false, List, [], ◌∷◌, ◌++◌, length, take, get_or, Some, refl, sym, ap, subst, arith}
use Rattle.std.specs.Prelude.{Contains}
use Rattle.std.proofs.lemmas.List.{take_more, take_all}
use Rattle.std.proofs.lemmas.List.{get_or_default}
use Rattle.history.specs.Arrays.{Known, known_after}
use Rattle.history.specs.Chunks.{metadata_key}
use Rattle.history.specs.Commit.{Key, is_before}
use Rattle.history.specs.History.{History}
use Rattle.history.proofs.Laws.{never_itself, not_under, other_way, some_inj}
use Rattle.transactions.specs.Strays.{HasLeastKey}
use Rattle.transactions.specs.declared.stray.Stray.{Stray}

-- the least of the first of these, and one of all
pub record IsLeastUpTo (events : History) (strays : List Stray) (n array : ℕ) (key : Key) : Type 0 where
  pub stray : Stray
  pub among : Contains strays stray
  pub of_array : stray.array ≡ array
  pub named : (k : Known) → known_after events array ≡ Some k → metadata_key k ≡ Some key
  pub least : (s : Stray) → Contains (take n strays) s → (k : Known) → known_after events s.array ≡ Some k → (other : Key) → metadata_key k ≡ Some other → is_before other key ≡ false

among_at : (strays : List Stray) (n : ℕ) (d : Stray) → n < length strays → Contains strays (get_or strays n d)
among_at strays n d lt = (n, lt, sym (get_or_default strays n d (get_or strays n d) lt))

last_or : (strays : List Stray) (x s : Stray) → Contains (strays ++ x ∷ []) s → Contains strays s ⊎ (x ≡ s)
last_or [] x s (zero, lt, is) = inr is
last_or [] x s (suc k, lt, is) = absurd (omega (arith, lt))
last_or (y ∷ strays) x s (zero, lt, is) = inl (0, omega arith, is)
last_or (y ∷ strays) x s (suc k, lt, is) = elim (last_or strays x s (k, omega (arith, lt), is)) [
  | inl there ↦ let below = there.1 in inl (suc there.0, omega (arith, below), there.2)
  | inr here ↦ inr here
]

module _ (events : History) (strays : List Stray) where
  pub least_first : (d : Stray) (key : Key) → 0 < length strays → ((k : Known) → known_after events (get_or strays 0 d).array ≡ Some k → metadata_key k ≡ Some key) → IsLeastUpTo events strays 0 (get_or strays 0 d).array key
  least_first d key some named = record {
    stray = get_or strays 0 d;
    among = among_at strays 0 d some;
    of_array = refl;
    named = named;
    least = λ s there. absurd (let lt = there.1 in omega (arith, lt));
  }

  module _ (n : ℕ) (d : Stray) (lt : n < length strays) (array : ℕ) (key new : Key) (h : IsLeastUpTo events strays n array key) (named : (k : Known) → known_after events (get_or strays n d).array ≡ Some k → metadata_key k ≡ Some new) where
    parted : (s : Stray) → Contains (take (n + 1) strays) s → Contains (take n strays) s ⊎ (get_or strays n d ≡ s)
    parted s there = last_or (take n strays) (get_or strays n d) s (subst (λ ss. Contains ss s) (take_more strays n d lt) there)

    same_key : (s : Stray) → get_or strays n d ≡ s → (k : Known) → known_after events s.array ≡ Some k → (other : Key) → metadata_key k ≡ Some other → new ≡ other
    same_key s here k known other is = some_inj new other (sym (named k (ap (λ (r : Stray). known_after events r.array) here ∙ known)) ∙ is)

    pub lower : is_before new key ≡ true → IsLeastUpTo events strays (n + 1) (get_or strays n d).array new
    lower before = record {
      stray = get_or strays n d;
      among = among_at strays n d lt;
      of_array = refl;
      named = named;
      least = λ s there k known other is. elim (parted s there) [
        | inl early ↦ not_under other new key (h.least s early k known other is) (other_way new key before)
        | inr here ↦ ap (λ o. is_before o new) (sym (same_key s here k known other is)) ∙ never_itself new
      ];
    }

    pub higher : is_before new key ≡ false → IsLeastUpTo events strays (n + 1) array key
    higher after = record {
      stray = h.stray;
      among = h.among;
      of_array = h.of_array;
      named = h.named;
      least = λ s there k known other is. elim (parted s there) [
        | inl early ↦ h.least s early k known other is
        | inr here ↦ ap (λ o. is_before o key) (sym (same_key s here k known other is)) ∙ after
      ];
    }

  pub least_all : (n array : ℕ) (key : Key) → length strays ≤ n → IsLeastUpTo events strays n array key → HasLeastKey events strays array key
  least_all n array key done h = record {
    stray = h.stray;
    among = h.among;
    of_array = h.of_array;
    named = h.named;
    least = λ s there. h.least s (subst (λ ss. Contains ss s) (sym (take_all n strays done)) there);
  }
