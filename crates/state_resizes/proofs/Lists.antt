-- Lists of keys, of chunks and of changes.
use Rattle.std.proofs.Common.{◌≡◌, ◌≢◌, ℕ, zero, suc, ◌<◌, inl, inr, List, [], ◌∷◌, ◌++◌, length, map, take, drop, false, Option, refl, sym, ap, subst, ◌∙◌, arith}
use Rattle.std.specs.Prelude.{All, Bool, Contains, slice_index_or, filter, set}
use Rattle.std.specs.List.{AllByRecursion, IsDistinct, AllPairs}
use Rattle.std.specs.Str.{bytes_eq}
use Rattle.std.proofs.Math.Seq.{take-append_seam}
use Rattle.std.proofs.lemmas.List.Elements.{All-from_recursion}
use Rattle.std.proofs.lemmas.List.Kept.{AllPairs-filter}
use Rattle.std.proofs.lemmas.Slice.Eq.{bytes_eq-Decides}
use Rattle.cells.specs.Places.{cell_count, c_place, index_vectors}
use Rattle.cells.proofs.Laws.{true_or_false, c_place-c_index, length-index_vectors}
use Rattle.cells.proofs.IndexVectors.{slice_index_or-index_vectors}
use Rattle.kv_face.specs.Store.{keys_of}
use Rattle.kv_face.specs.declared.change.Change.{Change}
use Rattle.history.specs.Stored.{HasBytes}
use Rattle.chunk_plans.specs.Changing.{IsOneOf}
use Rattle.state_resizes.specs.Cuts.{bytes_at}

-- texts that differ are told apart
pub told_apart : (k l : List ℕ) → k ≢ l → bytes_eq k l ≡ false
told_apart k l other = elim (true_or_false (bytes_eq k l)) [ inl t ↦ absurd (other ((bytes_eq-Decides k l).0 t)) | inr f ↦ f ]

-- no index vector stands in the list twice
pub vectors_apart : (shape : List ℕ) → AllPairs (λ x y. x ≢ y) (index_vectors shape)
vectors_apart shape = λ i j d less within same.
    let high : j < cell_count shape = omega (arith, length-index_vectors shape, within) in
    let one = slice_index_or-index_vectors shape i d (omega arith) in
    let other = slice_index_or-index_vectors shape j d high in
    let places : i ≡ j = sym (c_place-c_index shape i (omega arith)) ∙ ap (c_place shape) (sym one ∙ same ∙ other) ∙ c_place-c_index shape j high in
    omega (arith, places)

pub filtered_apart : (p : List ℕ → Bool) (shape : List ℕ) → AllPairs (λ x y. x ≢ y) (filter p (index_vectors shape))
filtered_apart p shape = AllPairs-filter (λ x y. x ≢ y) p (index_vectors shape) (vectors_apart shape)

-- texts of vectors that differ, where each is told by its text
others_by : (V : List ℕ → Type 0) (f : List ℕ → List ℕ) → ((x y : List ℕ) → V x → V y → f x ≡ f y → x ≡ y) → (x : List ℕ) → V x → (ys : List (List ℕ)) → AllByRecursion V ys → ((k : ℕ) (d : List ℕ) → k < length ys → x ≢ slice_index_or ys k d)
    → AllByRecursion (λ t. bytes_eq (f x) t ≡ false) (map f ys)
others_by V f inj x v [] all other = tt
others_by V f inj x v (y ∷ ys) all other = (
  told_apart (f x) (f y) (λ same. other 0 y (omega arith) (inj x y v all.0 same)),
  others_by V f inj x v ys all.1 (λ k d low. other (suc k) d (omega arith)),
)

pub distinct_by : (V : List ℕ → Type 0) (f : List ℕ → List ℕ) → ((x y : List ℕ) → V x → V y → f x ≡ f y → x ≡ y) → (xs : List (List ℕ)) → AllByRecursion V xs → AllPairs (λ x y. x ≢ y) xs → IsDistinct bytes_eq (map f xs)
unfolding IsDistinct
distinct_by V f inj [] all pairs = tt
distinct_by V f inj (x ∷ xs) all pairs = (
  others_by V f inj x all.0 xs all.1 (λ k d low. pairs 0 (suc k) d (omega arith) (omega arith)),
  distinct_by V f inj xs all.1 (λ i j d less within. pairs (suc i) (suc j) d (omega arith) (omega arith)),
)

-- each text of a list of them is that of a member
pub one_mapped : (f : List ℕ → List ℕ) (xs : List (List ℕ)) (key : List ℕ) → IsOneOf (map f xs) key → (x : List ℕ) × Contains xs x × (f x ≡ key)
one_mapped f [] key one = absurd one
one_mapped f (x ∷ xs) key (inl same) = (x, (0, omega arith, refl), same)
one_mapped f (x ∷ xs) key (inr more) = let rest = one_mapped f xs key more in (rest.0, (suc rest.1.0, let low = rest.1.1 in omega arith, rest.1.2), rest.2)

pub mapped_one : (f : List ℕ → List ℕ) (xs : List (List ℕ)) (k : ℕ) (d : List ℕ) → k < length xs → IsOneOf (map f xs) (f (slice_index_or xs k d))
mapped_one f [] k d low = absurd (omega arith)
mapped_one f (x ∷ xs) zero d low = inl refl
mapped_one f (x ∷ xs) (suc k) d low = inr (mapped_one f xs k d (omega arith))

-- what holds of each member
pub each_by : (V : List ℕ → Type 0) (xs : List (List ℕ)) → ((x : List ℕ) → Contains xs x → V x) → AllByRecursion V xs
each_by V [] h = tt
each_by V (x ∷ xs) h = (h x (0, omega arith, refl), each_by V xs (λ y there. h y (suc there.0, let low = there.1 in omega arith, there.2)))

pub each_mapped : (V : List ℕ → Type 0) (f : List ℕ → List ℕ) (xs : List (List ℕ)) → ((x : List ℕ) → V (f x)) → AllByRecursion V (map f xs)
each_mapped V f [] h = tt
each_mapped V f (x ∷ xs) h = (h x, each_mapped V f xs h)

-- the change at a place has the key there and the bytes there
pub change_at : (changes : List Change) (keys : List (List ℕ)) (place : ℕ) (d : List ℕ) → keys_of changes ≡ keys → place < length keys → HasBytes changes (slice_index_or keys place d) (bytes_at changes place)
change_at [] [] place d same low = absurd (omega arith)
change_at [] (k ∷ keys) place d same low = absurd (cc)
change_at (c ∷ changes) [] place d same low = absurd (omega arith)
change_at (c ∷ changes) (k ∷ keys) zero d same low = let head : c.key ≡ k = cc in inl (head, refl)
change_at (c ∷ changes) (k ∷ keys) (suc place) d same low = let tail : keys_of changes ≡ keys = cc in inr (change_at changes keys place d tail (omega arith))

-- each change has one of the keys
pub key_changed : (changes : List Change) (key : List ℕ) (bytes : Option (List ℕ)) → HasBytes changes key bytes → IsOneOf (keys_of changes) key
key_changed [] key bytes has = absurd has
key_changed (c ∷ changes) key bytes (inl here) = inl here.0
key_changed (c ∷ changes) key bytes (inr more) = inr (key_changed changes key bytes more)

-- what holds of each key
by_key : (P : List ℕ → Type 0) (changes : List Change) → AllByRecursion P (keys_of changes) → AllByRecursion (λ (c : Change). P c.key) changes
by_key P [] all = tt
by_key P (c ∷ changes) all = (all.0, by_key P changes all.1)

pub each_key : (P : List ℕ → Type 0) (changes : List Change) → AllByRecursion P (keys_of changes) → All (λ (c : Change). P c.key) changes
each_key P changes all = All-from_recursion (λ (c : Change). P c.key) changes (by_key P changes all)

-- bytes put at a place
pub keys_put : (changes : List Change) (place : ℕ) (d : Change) (bytes : Option (List ℕ)) → place < length changes → keys_of (set changes place (record { key = (slice_index_or changes place d).key; bytes = bytes })) ≡ keys_of changes
keys_put [] place d bytes low = refl
keys_put (x ∷ changes) zero d bytes low = refl
keys_put (x ∷ changes) (suc place) d bytes low = ap (λ ks. x.key ∷ ks) (keys_put changes place d bytes (omega arith))

pub bytes_put : (changes : List Change) (place : ℕ) (c : Change) → place < length changes → bytes_at (set changes place c) place ≡ c.bytes
bytes_put [] place c low = absurd (omega arith)
bytes_put (x ∷ changes) zero c low = refl
bytes_put (x ∷ changes) (suc place) c low = bytes_put changes place c (omega arith)

pub bytes_left : (changes : List Change) (place : ℕ) (c : Change) (j : ℕ) → j ≢ place → bytes_at (set changes place c) j ≡ bytes_at changes j
bytes_left [] place c j other = refl
bytes_left (x ∷ changes) zero c zero other = absurd (other refl)
bytes_left (x ∷ changes) zero c (suc j) other = refl
bytes_left (x ∷ changes) (suc place) c zero other = refl
bytes_left (x ∷ changes) (suc place) c (suc j) other = bytes_left changes place c j (λ same. other (ap suc same))

-- whatever stands for what isn't there
pub any_at : (xs : List (List ℕ)) (j : ℕ) (d f : List ℕ) → j < length xs → slice_index_or xs j d ≡ slice_index_or xs j f
any_at [] j d f low = absurd (omega arith)
any_at (x ∷ xs) zero d f low = refl
any_at (x ∷ xs) (suc j) d f low = any_at xs j d f (omega arith)

-- a list that is written back over one of its length
pub written_back : {A : Type 0} (xs ys : List A) (n : ℕ) → length xs ≡ n → take n (xs ++ drop (length xs) ys) ≡ xs
written_back xs ys n is = subst (λ m. take m (xs ++ drop (length xs) ys) ≡ xs) is (take-append_seam xs (drop (length xs) ys))
