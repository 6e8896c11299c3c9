-- The keys of arrays on one mount are changed together.
use Rattle.std.proofs.Common.{◌≡◌, ℕ, List, [], ◌∷◌, ◌++◌, length, Bool, true, false, cond, Option, Some, None, refl, sym, ap, subst, ◌∙◌, append_assoc}
use Rattle.std.specs.Prelude.{◌||◌, ◌&&◌, not, nat_eq, nat_le, filter_map, option_map}
use Rattle.std.specs.Cmp.{nat_eq_equiv}
use Rattle.std.specs.Cmp.Lexicographic.{pointwise}
use Rattle.std.specs.List.{AllByRecursion, cons_option, list_all, starts_with}
use Rattle.std.specs.Str.{bytes_eq}
use Rattle.std.proofs.Math.Seq.{take-append_seam}
use Rattle.history.specs.declared.array.Home.{Home}
use Rattle.history.specs.declared.array.Home.TheVariants.{Zarr, N5, Zarr3, Local}
use Rattle.history.specs.declared.event.Op.{Op}
use Rattle.stack_driver.specs.Targets.{Cell}
use Rattle.history.specs.History.{History}
use Rattle.history.specs.Alone.{single_store, AreOnMount}
use Rattle.history.specs.Answers.{Text}
use Rattle.history.specs.Arrays.{Known, known_after, is_local}
use Rattle.history.specs.Chunks.{chunk_in, chunk_of, chunk_key, home_text, metadata_key, key_in, key_of}
use Rattle.history.specs.Commit.{Key, is_before, with_key, in_order, stored_keys, are_together, CommitTogether}
use Rattle.history.specs.Counting.{is_stored}
use Rattle.history.specs.ReadRows.{mount_of}
use Rattle.history.specs.Refusals.{resized_keys, all_resized_keys, IsNotAtomicResize}
use Rattle.history.specs.Resizes.{cut_chunks}
use Rattle.history.specs.Writes.{Put, puts_of}

-- the key is one of the mount
abbrev pub IsUnder : Text → Key → Type 0
IsUnder mount key = (rest : Key) × (key ≡ mount ++ 47 ∷ rest)

all_same : (us : List ℕ) → pointwise nat_eq us us ≡ true
all_same [] = refl
all_same (u ∷ us) = ap (λ b. b && pointwise nat_eq us us) (nat_eq_equiv.refl u) ∙ all_same us

starts_own : (us rs : List ℕ) → starts_with nat_eq (us ++ rs) us ≡ true
starts_own us rs = ap (pointwise nat_eq us) (take-append_seam us rs) ∙ all_same us

all_under : (mount : Text) (keys : List Key) → AllByRecursion (IsUnder mount) keys → list_all (λ key. starts_with nat_eq key (mount ++ 47 ∷ [])) keys ≡ true
all_under mount [] under = refl
all_under mount (key ∷ keys) under =
    let parts : key ≡ (mount ++ 47 ∷ []) ++ under.0.0 = under.0.1 ∙ sym (append_assoc mount (47 ∷ []) under.0.0) in
    ap (λ b. b && list_all (λ k. starts_with nat_eq k (mount ++ 47 ∷ [])) keys) (ap (λ k. starts_with nat_eq k (mount ++ 47 ∷ [])) parts ∙ starts_own (mount ++ 47 ∷ []) under.0.0) ∙ all_under mount keys under.1

or_first : (a b : Bool) → b ≡ true → (a || (b || false)) ≡ true
or_first true b is = refl
or_first false true is = refl
or_first false false is = absurd (cc)

-- keys of one mount are changed together
under_together : (mount : Text) (keys : List Key) → AllByRecursion (IsUnder mount) keys → are_together (single_store mount).prefixes keys ≡ true
under_together mount keys under = or_first (nat_le (length keys) 1) (list_all (λ key. starts_with nat_eq key (mount ++ 47 ∷ [])) keys) (all_under mount keys under)

-- what stands before the names of a stored array's keys
text_under : (mount : Text) (home : Home) (n : ℕ) (name : List ℕ) → is_local home ≡ false → mount_of home ≡ Some mount → IsUnder mount (home_text home n ++ name)
text_under mount (Zarr m path meta) n name stored on = let same : m ≡ mount = cc in (path ++ 47 ∷ name, append_assoc (m ++ 47 ∷ path) (47 ∷ []) name ∙ append_assoc m (47 ∷ path) (47 ∷ name) ∙ ap (λ u. u ++ 47 ∷ (path ++ 47 ∷ name)) same)
text_under mount (N5 m path meta) n name stored on = let same : m ≡ mount = cc in (path ++ 47 ∷ name, append_assoc (m ++ 47 ∷ path) (47 ∷ []) name ∙ append_assoc m (47 ∷ path) (47 ∷ name) ∙ ap (λ u. u ++ 47 ∷ (path ++ 47 ∷ name)) same)
text_under mount (Zarr3 m path meta) n name stored on = let same : m ≡ mount = cc in (path ++ 47 ∷ name, append_assoc (m ++ 47 ∷ path) (47 ∷ []) name ∙ append_assoc m (47 ∷ path) (47 ∷ name) ∙ ap (λ u. u ++ 47 ∷ (path ++ 47 ∷ name)) same)
text_under mount (Local start) n name stored on = absurd (cc)

key_under : (mount : Text) (k : Known) (index : List ℕ) → is_local k.info.home ≡ false → mount_of k.info.home ≡ Some mount → IsUnder mount (chunk_key k index)
key_under mount k index stored on = text_under mount k.info.home k.opened _ stored on

with_under : (mount : Text) (k : Key) (keys : List Key) → IsUnder mount k → AllByRecursion (IsUnder mount) keys → AllByRecursion (IsUnder mount) (with_key k keys)
with_under mount k [] here under = (here, tt)
with_under mount k (l ∷ ls) here under = by_tests (bytes_eq k l) (is_before k l) (with_under mount k ls here under.1)
  where
    by_tests : (same before : Bool) → AllByRecursion (IsUnder mount) (with_key k ls) → AllByRecursion (IsUnder mount) (cond same (l ∷ ls) (cond before (k ∷ l ∷ ls) (l ∷ with_key k ls)))
    by_tests true before rest = under
    by_tests false true rest = (here, under)
    by_tests false false rest = (under.0, rest)

order_under : (mount : Text) (keys : List Key) → AllByRecursion (IsUnder mount) keys → AllByRecursion (IsUnder mount) (in_order keys)
order_under mount [] under = tt
order_under mount (k ∷ ks) under = with_under mount k (in_order ks) under.0 (order_under mount ks under.1)

abbrev IsUnderOr : Text → Option Key → Type 0
IsUnderOr mount None = Unit {0}
IsUnderOr mount (Some key) = IsUnder mount key

cons_under : (mount : Text) (o : Option Key) (keys : List Key) → IsUnderOr mount o → AllByRecursion (IsUnder mount) keys → AllByRecursion (IsUnder mount) (cons_option o keys)
cons_under mount None keys here under = under
cons_under mount (Some key) keys here under = (here, under)

mapped_under : {A : Type 0} (mount : Text) (f : A → Option Key) (xs : List A) → ((x : A) → IsUnderOr mount (f x)) → AllByRecursion (IsUnder mount) (filter_map f xs)
mapped_under mount f [] each = tt
mapped_under mount f (x ∷ xs) each = cons_under mount (f x) (filter_map f xs) (each x) (mapped_under mount f xs each)

-- the key of a cell's chunk, where its array is stored
cell_under : (mount : Text) (events : History) (x : Cell) (o : Option Known) → AreOnMount mount events → known_after events x.array ≡ o → IsUnderOr mount (cond (is_stored o) (key_in (known_after events (chunk_in o x).array) (chunk_in o x)) None)
cell_under mount events x None on is = tt
cell_under mount events x (Some k) on is = by_home (is_local k.info.home) refl
  where
    by_home : (b : Bool) → is_local k.info.home ≡ b → IsUnderOr mount (cond (not b) (key_in (known_after events x.array) (chunk_in (Some k) x)) None)
    by_home true local = tt
    by_home false stored = subst (λ o. IsUnderOr mount (key_in o (chunk_in (Some k) x))) (sym is) (key_under mount k (chunk_in (Some k) x).index stored (on x.array k is stored))

-- what a commit changes on the mount is changed together
pub commit_together : (mount : Text) (events : History) (ops : List Op) → AreOnMount mount events → CommitTogether (single_store mount) events ops
commit_together mount events ops on =
    under_together mount (stored_keys events ops)
    (order_under mount _ (mapped_under mount (λ (p : Put). cond (is_stored (known_after events p.0.array)) (key_of events (chunk_of events p.0)) None) (puts_of ops) (λ p. cell_under mount events p.0 (known_after events p.0.array) on refl)))

named_under : (mount : Text) (home : Home) (n : ℕ) (name : Option (List ℕ)) → is_local home ≡ false → mount_of home ≡ Some mount → IsUnderOr mount (option_map (λ rest. home_text home n ++ rest) name)
named_under mount home n None stored on = tt
named_under mount home n (Some name) stored on = text_under mount home n name stored on

all_resized_under : (mount : Text) (key : Option Key) (keys : List Key) → IsUnderOr mount key → AllByRecursion (IsUnder mount) keys → AllByRecursion (IsUnder mount) (all_resized_keys key keys)
all_resized_under mount None keys here under = under
all_resized_under mount (Some key) keys here under = (here, under)

-- and what a new shape changes
pub resize_together : (mount : Text) (events : History) (array : ℕ) (shape : List ℕ) (keys : ℕ) → AreOnMount mount events → (split : IsNotAtomicResize (single_store mount) events array shape keys) → is_local split.known.info.home ≡ false → ⊥
resize_together mount events array shape keys on split stored =
    let k : Known = split.known in
    let there = on array k split.is_known stored in
    let together : are_together (single_store mount).prefixes (all_resized_keys (metadata_key k) (resized_keys k array shape)) ≡ true =
    under_together mount (all_resized_keys (metadata_key k) (resized_keys k array shape))
    (all_resized_under mount (metadata_key k) (resized_keys k array shape) (named_under mount k.info.home k.opened _ stored there)
    (mapped_under mount (λ index. key_in (Some k) (record { array = array; index = index })) (cut_chunks k shape) (λ index. key_under mount k index stored there))) in
    let apart = split.apart in
    cc
