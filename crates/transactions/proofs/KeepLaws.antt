-- Places of chunks that are kept.
use Rattle.std.proofs.Common.{◌≡◌, ◌∙◌, ◌⊎◌, inl, inr, ℕ, zero, suc, ◌+◌, ◌<◌, ◌≤◌, Bool, true, false, cond, get_or, List, [], ◌∷◌, ◌++◌, length, Option, Some, None, refl, sym, ap, subst, arith, append_assoc, append-nil, length-append}
use Rattle.std.specs.List.{AllByRecursion, slice_get}
use Rattle.std.specs.Str.{bytes_eq}
use Rattle.std.proofs.lemmas.Slice.Eq.{bytes_eq-Decides}
use Rattle.transactions.specs.Keeping.{AreNewTo, IsUnkept, IsUnspoilt, placed}
use Rattle.transactions.specs.Txn.{counting, if_named}
use Rattle.chunk_fetches.specs.Kept.{place_from}
use Rattle.chunk_fetches.specs.declared.kept.Kept.{Kept}

pub flip : (xs ys : List ℕ) → bytes_eq xs ys ≡ bytes_eq ys xs
flip xs ys = by (bytes_eq xs ys) refl
  where
    by : (b : Bool) → bytes_eq xs ys ≡ b → b ≡ bytes_eq ys xs
    by true e = sym ((bytes_eq-Decides ys xs).1 (sym ((bytes_eq-Decides xs ys).0 e)))
    by false e = other (bytes_eq ys xs) refl
      where
        other : (b : Bool) → bytes_eq ys xs ≡ b → false ≡ b
        other false f = refl
        other true f = let clash : true ≡ false = sym ((bytes_eq-Decides xs ys).1 (sym ((bytes_eq-Decides ys xs).0 f))) ∙ e in absurd (let no_such : ⊥ = cc in no_such)

-- where no chunk in front has the id, it is looked for behind
pub place_behind : (n : ℕ) (kept more : List Kept) (id : List ℕ) → place_from n kept id ≡ None → place_from n (kept ++ more) id ≡ place_from (n + length kept) more id
place_behind n [] more id none = ap (λ m. place_from m more id) (zero_more n)
  where
    zero_more : (m : ℕ) → m ≡ m + 0
    zero_more m = omega arith
place_behind n (k ∷ kept) more id none = by (bytes_eq id k.id) none (λ h. place_behind (n + 1) kept more id h)
  where
    next : n + 1 + length kept ≡ n + suc (length kept)
    next = omega arith

    by : (b : Bool) → cond b (Some n) (place_from (n + 1) kept id) ≡ None → (place_from (n + 1) kept id ≡ None → place_from (n + 1) (kept ++ more) id ≡ place_from (n + 1 + length kept) more id)
        → cond b (Some n) (place_from (n + 1) (kept ++ more) id) ≡ place_from (n + suc (length kept)) more id
    by true is rest = absurd (let no_such : ⊥ = cc in no_such)
    by false is rest = rest is ∙ ap (λ m. place_from m more id) next

-- where one has, that counts
pub place_before : (n : ℕ) (kept more : List Kept) (id : List ℕ) (place : ℕ) → place_from n kept id ≡ Some place → place_from n (kept ++ more) id ≡ Some place
place_before n [] more id place is = absurd (let no_such : ⊥ = cc in no_such)
place_before n (k ∷ kept) more id place is = by (bytes_eq id k.id) is (λ h. place_before (n + 1) kept more id place h)
  where
    by : (b : Bool) → cond b (Some n) (place_from (n + 1) kept id) ≡ Some place → (place_from (n + 1) kept id ≡ Some place → place_from (n + 1) (kept ++ more) id ≡ Some place) → cond b (Some n) (place_from (n + 1) (kept ++ more) id) ≡ Some place
    by true e rest = e
    by false e rest = rest e

-- what no chunk has that is kept with others, none of the first has
pub unkept_front : (kept more : List Kept) (id : List ℕ) → place_from 0 (kept ++ more) id ≡ None → place_from 0 kept id ≡ None
unkept_front kept more id none = by (place_from 0 kept id) refl
  where
    by : (o : Option ℕ) → place_from 0 kept id ≡ o → o ≡ None
    by None e = refl
    by (Some place) e = sym (place_before 0 kept more id place e) ∙ none

pub all_unkept : (kept front more : List Kept) → AreNewTo (kept ++ front) more → AllByRecursion (IsUnkept kept) more
all_unkept kept front [] new = tt
all_unkept kept front (k ∷ more) new = (unkept_front kept front k.id new.0, all_unkept kept (front ++ k ∷ []) more (subst (λ ks. AreNewTo ks more) (append_assoc kept front (k ∷ [])) new.1))

-- the last of some chunks
get_last : (kept : List Kept) (k : Kept) → slice_get (kept ++ k ∷ []) (length kept) ≡ Some k
get_last [] k = refl
get_last (j ∷ kept) k = get_last kept k

-- another chunk more counts for no place of an id
named_more : (kept : List Kept) (k : Kept) (id : List ℕ) (n place : ℕ) → bytes_eq id k.id ≡ false → if_named (slice_get (kept ++ k ∷ []) n) id place ≡ if_named (slice_get kept n) id place
named_more [] k id zero place other = ap (λ b. cond b (Some place) None) other
named_more [] k id (suc n) place other = refl
named_more (j ∷ kept) k id zero place other = refl
named_more (j ∷ kept) k id (suc n) place other = named_more kept k id n place other

beyond : (kept : List Kept) (id : List ℕ) (n place : ℕ) → length kept ≤ n → if_named (slice_get kept n) id place ≡ None
beyond [] id zero place le = refl
beyond [] id (suc n) place le = refl
beyond (k ∷ kept) id zero place le = absurd (omega (arith, le))
beyond (k ∷ kept) id (suc n) place le = beyond kept id n place (omega (arith, le))

-- a table that is unspoilt tells the places as before
pub unspoilt_counts : (kept : List Kept) (id : List ℕ) (old new : Option ℕ) → IsUnspoilt kept id old new → counting kept id old ≡ place_from 0 kept id → counting kept id new ≡ place_from 0 kept id
unspoilt_counts kept id old new (inl same) is = ap (counting kept id) same ∙ is
unspoilt_counts kept id old new (inr far) is = ap (counting kept id) far.2 ∙ beyond kept id far.0 far.0 far.1 ∙ sym far.3

pub unspoilt_more : (kept : List Kept) (k : Kept) (id : List ℕ) (old new : Option ℕ) (place : ℕ) → length kept ≤ place → IsUnkept kept k → IsUnspoilt kept id old new → IsUnspoilt kept id old (cond (bytes_eq k.id id) (Some place) new)
unspoilt_more kept k id old new place le unkept is = by (bytes_eq k.id id) refl
  where
    by : (b : Bool) → bytes_eq k.id id ≡ b → IsUnspoilt kept id old (cond b (Some place) new)
    by false e = is
    by true e = inr (place, le, refl, subst (λ xs. place_from 0 kept xs ≡ None) ((bytes_eq-Decides k.id id).0 e) unkept)

-- one chunk more, with its place
one_placed : (kept : List Kept) (k : Kept) (id : List ℕ) (told : Option ℕ) → counting kept id told ≡ place_from 0 kept id → IsUnkept kept k
    → counting (kept ++ k ∷ []) id (cond (bytes_eq k.id id) (Some (length kept)) told) ≡ place_from 0 (kept ++ k ∷ []) id
one_placed kept k id told is unkept = by (bytes_eq k.id id) refl
  where
    from_zero : (n : ℕ) → 0 + n ≡ n
    from_zero n = omega arith

    behind : place_from 0 kept id ≡ None → (b : Bool) → bytes_eq id k.id ≡ b → place_from 0 (kept ++ k ∷ []) id ≡ cond b (Some (length kept)) None
    behind none b e = place_behind 0 kept (k ∷ []) id none ∙ ap (λ m. place_from m (k ∷ []) id) (from_zero (length kept)) ∙ ap (λ c. cond c (Some (length kept)) None) e

    same : bytes_eq id k.id ≡ false → (o : Option ℕ) → place_from 0 kept id ≡ o → place_from 0 (kept ++ k ∷ []) id ≡ o
    same other None e = behind e false other
    same other (Some place) e = place_before 0 kept (k ∷ []) id place e

    counts : bytes_eq id k.id ≡ false → (o : Option ℕ) → counting (kept ++ k ∷ []) id o ≡ counting kept id o
    counts other None = refl
    counts other (Some place) = named_more kept k id place place other

    by : (b : Bool) → bytes_eq k.id id ≡ b → counting (kept ++ k ∷ []) id (cond b (Some (length kept)) told) ≡ place_from 0 (kept ++ k ∷ []) id
    by true e =
        let here : bytes_eq id k.id ≡ true = flip id k.id ∙ e in
        ap (λ o. if_named o id (length kept)) (get_last kept k) ∙ ap (λ b. cond b (Some (length kept)) None) here
        ∙ sym (behind (subst (λ xs. place_from 0 kept xs ≡ None) ((bytes_eq-Decides k.id id).0 e) unkept) true here)
    by false e =
        let other : bytes_eq id k.id ≡ false = flip id k.id ∙ e in
        counts other told ∙ is ∙ sym (same other (place_from 0 kept id) refl)

-- all of them
pub all_placed : (kept more : List Kept) (id : List ℕ) (told : Option ℕ) → counting kept id told ≡ place_from 0 kept id → AreNewTo kept more → counting (kept ++ more) id (placed (length kept) more id told) ≡ place_from 0 (kept ++ more) id
all_placed kept [] id told is new = (λ i. counting (append-nil kept i) id told) ∙ is ∙ ap (λ ks. place_from 0 ks id) (sym (append-nil kept))
all_placed kept (k ∷ more) id told is new =
    let next = cond (bytes_eq k.id id) (Some (length kept)) told in
    let rest = all_placed (kept ++ k ∷ []) more id next (one_placed kept k id told is new.0) new.1 in
    let all = append_assoc kept (k ∷ []) more in
    let long : length (kept ++ k ∷ []) ≡ length kept + 1 = length-append kept (k ∷ []) in
    (λ i. counting (sym all i) id (placed (sym long i) more id next)) ∙ rest ∙ ap (λ ks. place_from 0 ks id) all

-- what holds of all holds of one
pub kept_at : (P : Kept → Type 0) (ks : List Kept) (n : ℕ) (d : Kept) → AllByRecursion P ks → n < length ks → P (get_or ks n d)
kept_at P [] n d all lt = absurd (omega (arith, lt))
kept_at P (k ∷ ks) zero d all lt = all.0
kept_at P (k ∷ ks) (suc n) d all lt = kept_at P ks n d all.1 (omega (arith, lt))

-- a table behind chunks that are kept or not
module _ (kept fetched : List Kept) (new : AreNewTo kept fetched) (id : List ℕ) (old told : Option ℕ) (is : counting kept id old ≡ place_from 0 kept id) where
  pub counts_unspoilt : ((ks : List Kept) → length ks ≡ length kept → AllByRecursion (IsUnkept ks) fetched → IsUnspoilt ks id old told) → counting kept id told ≡ place_from 0 kept id
  counts_unspoilt unspoilt = unspoilt_counts kept id old told (unspoilt kept refl (all_unkept kept [] fetched (subst (λ ks. AreNewTo ks fetched) (sym (append-nil kept)) new))) is
