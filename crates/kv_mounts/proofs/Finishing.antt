-- What finishing each mount leaves, and what it does to the mounts together.
use Rattle.std.proofs.Common.{◌≡◌, ℕ, zero, suc, ◌+◌, ◌<◌, ◌≤◌, ◌⊎◌, List, [], ◌∷◌, ◌++◌, length, take, drop, get_or, set, map, Bool, true, false, ◌||◌, None, refl, sym, ap, subst, ◌∙◌, arith, bytes_eq, inl, inr}
use Rattle.std.specs.Prelude.{option_map, option_and_then, All, if◌then◌else◌, Result, Ok, Err, OnOk, OnErr, IsErr, is_err}
use Rattle.std.specs.List.{list_any, IsDistinct, AllByRecursion}
use Rattle.std.proofs.Math.Seq.{take-append_seam}
use Rattle.std.proofs.lemmas.Grind.{drop_more_same}
use Rattle.std.proofs.lemmas.List.{take_more, take_more_set, drop-set-lt, length-take-le, get_or-drop}
use Rattle.std.proofs.lemmas.List.Elements.{AllZip-push, recursion_from_All, All-from_recursion}
use Rattle.std.proofs.lemmas.List.Folds.{list_any-append}
use Rattle.std.proofs.lemmas.List.Sums.{sum_by-cons}
use Rattle.kv_face.specs.Store.{Standing, opened, finished, failing, HasCause, NoneFell}
use Rattle.kv_mounts.specs.Parts.{Part, AreMounts, IsMountName, names_of, below}
use Rattle.kv_mounts.specs.Union.{entries_below, entries_of, union_of, faults_of, counts_of, prefixes_of, is_open, has_failed, standing_of, change_count_of}
use Rattle.kv_mounts.specs.Finish.{IsFinished, AreFinished, failed_from, failed_places}

-- a list that is put back whole
pub refill_same : (n : ℕ) (xs ys : List Part) → n ≡ length xs → length ys ≡ length xs → take n (ys ++ drop (length ys) xs) ≡ ys
refill_same n xs ys count long = ap (λ i. take i (ys ++ drop (length ys) xs)) (count ∙ sym long) ∙ take-append_seam ys (drop (length ys) xs)

same_place : (new old : List Part) (i : ℕ) (p : Part) → drop i new ≡ drop i old → p ≡ get_or new i p → p ≡ get_or old i p
same_place new old i p left is =
    let e : i + 0 ≡ i = omega arith in
    is ∙ ap (λ n. get_or new n p) (sym e) ∙ sym (get_or-drop i new 0 p) ∙ ap (λ xs. get_or xs 0 p) left ∙ get_or-drop i old 0 p ∙ ap (λ n. get_or old n p) e

-- one mount more was finished
pub finished_more : (old new : List Part) (i : ℕ) (p q : Part) → i < length new → length new ≡ length old → p ≡ get_or new i p → drop i new ≡ drop i old → AreFinished (take i old) (take i new) → IsFinished p q
    → AreFinished (take (i + 1) old) (take (i + 1) (set new i q))
finished_more old new i p q less long is left done more =
    let there : p ≡ get_or old i p = same_place new old i p left is in
    let front : take (i + 1) old ≡ take i old ++ p ∷ [] = take_more old i p (omega (arith, less, long)) ∙ ap (λ r. take i old ++ r ∷ []) (sym there) in
    subst (λ xs. AreFinished xs (take (i + 1) (set new i q))) (sym front)
    (subst (λ ys. AreFinished (take i old ++ p ∷ []) ys) (sym (take_more_set new i q less)) (AllZip-push IsFinished (take i old) (take i new) p q done more))

pub left_more : (old new : List Part) (i : ℕ) (q : Part) → drop i new ≡ drop i old → drop (i + 1) (set new i q) ≡ drop (i + 1) old
left_more old new i q left = drop-set-lt (i + 1) new i q (omega arith) ∙ drop_more_same new old i left

or_false : (a : Bool) → (a || false) ≡ a
or_false true = refl
or_false false = refl

pub any_failed_more : (new : List Part) (i : ℕ) (q : Part) → i < length new → list_any has_failed (take (i + 1) (set new i q)) ≡ (list_any has_failed (take i new) || has_failed q)
any_failed_more new i q less =
    ap (list_any has_failed) (take_more_set new i q less) ∙ list_any-append has_failed (take i new) (q ∷ []) ∙ ap (λ t. list_any has_failed (take i new) || t) (or_false (has_failed q))

pushed : (b : Bool) (f n : ℕ) (xs : List ℕ) (c : Bool) → (if b then f ∷ (if c then xs ++ n ∷ [] else xs) else (if c then xs ++ n ∷ [] else xs)) ≡ (if c then (if b then f ∷ xs else xs) ++ n ∷ [] else (if b then f ∷ xs else xs))
pushed true f n xs true = refl
pushed true f n xs false = refl
pushed false f n xs true = refl
pushed false f n xs false = refl

failed_from-push : (first : ℕ) (xs : List Part) (q : Part) → failed_from first (xs ++ q ∷ []) ≡ (if has_failed q then failed_from first xs ++ (first + length xs) ∷ [] else failed_from first xs)
failed_from-push first [] q = let e : first + 0 ≡ first = omega arith in ap (λ n. if has_failed q then n ∷ [] else []) (sym e)
failed_from-push first (x ∷ xs) q =
    let e : (first + 1) + length xs ≡ first + suc (length xs) = omega arith in
    ap (λ r. if has_failed x then first ∷ r else r) (failed_from-push (first + 1) xs q ∙ ap (λ n. if has_failed q then failed_from (first + 1) xs ++ n ∷ [] else failed_from (first + 1) xs) e)
    ∙ pushed (has_failed x) first (first + suc (length xs)) (failed_from (first + 1) xs) (has_failed q)

pub failed_places-more : (new : List Part) (i : ℕ) (q : Part) → i < length new → failed_places (take (i + 1) (set new i q)) ≡ (if has_failed q then failed_places (take i new) ++ i ∷ [] else failed_places (take i new))
failed_places-more new i q less =
    let count : 0 + length (take i new) ≡ i = omega (arith, length-take-le i new (omega arith)) in
    ap failed_places (take_more_set new i q less) ∙ failed_from-push 0 (take i new) q ∙ ap (λ n. if has_failed q then failed_places (take i new) ++ n ∷ [] else failed_places (take i new)) count

few_if : (b : Bool) (f n : ℕ) (xs : List ℕ) → length xs ≤ n → length (if b then f ∷ xs else xs) ≤ suc n
few_if true f n xs h = omega (arith, h)
few_if false f n xs h = omega (arith, h)

few_failed : (first : ℕ) (xs : List Part) → length (failed_from first xs) ≤ length xs
few_failed first [] = omega arith
few_failed first (x ∷ xs) = few_if (has_failed x) first (length xs) (failed_from (first + 1) xs) (few_failed (first + 1) xs)

-- there is room for one place more
pub room_more : (new : List Part) (i room : ℕ) → i < length new → length new ≤ room → length (failed_places (take i new)) < room
room_more new i room less fits = let few = few_failed 0 (take i new) in omega (arith, few, length-take-le i new (omega arith), less, fits)

pub long_of : (old new : List Part) → AreFinished old new → length new ≡ length old
long_of [] [] done = refl
long_of [] (q ∷ new) done = absurd done
long_of (p ∷ old) [] done = absurd done
long_of (p ∷ old) (q ∷ new) done = ap suc (long_of old new done.1)

pub same_names : (old new : List Part) → AreFinished old new → names_of new ≡ names_of old
same_names [] [] done = refl
same_names [] (q ∷ new) done = absurd done
same_names (p ∷ old) [] done = absurd done
same_names (p ∷ old) (q ∷ new) done = ap (λ (r : Part). r.name ∷ names_of new) done.0.kept ∙ ap (λ ns. p.name ∷ ns) (same_names old new done.1)

pub same_prefixes : (old new : List Part) → AreFinished old new → prefixes_of new ≡ prefixes_of old
same_prefixes [] [] done = refl
same_prefixes [] (q ∷ new) done = absurd done
same_prefixes (p ∷ old) [] done = absurd done
same_prefixes (p ∷ old) (q ∷ new) done = ap (λ (r : Part). map (below r.name) r.prefixes ++ prefixes_of new) done.0.kept ∙ ap (λ ps. map (below p.name) p.prefixes ++ ps) (same_prefixes old new done.1)

same_entries : (old new : List Part) → AreFinished old new → entries_of new ≡ entries_of old
same_entries [] [] done = refl
same_entries [] (q ∷ new) done = absurd done
same_entries (p ∷ old) [] done = absurd done
same_entries (p ∷ old) (q ∷ new) done =
    ap (λ (r : Part). option_and_then (λ m. option_map (λ es. entries_below r.name m ++ es) (entries_of new)) r.contents) done.0.kept
    ∙ ap (λ o. option_and_then (λ m. option_map (λ es. entries_below p.name m ++ es) o) p.contents) (same_entries old new done.1)

pub same_union : (old new : List Part) → AreFinished old new → union_of new ≡ union_of old
same_union old new done = ap (option_map _) (same_entries old new done)

pub same_count : (old new : List Part) → AreFinished old new → change_count_of new ≡ change_count_of old
same_count [] [] done = refl
same_count [] (q ∷ new) done = absurd done
same_count (p ∷ old) [] done = absurd done
same_count (p ∷ old) (q ∷ new) done =
    ap (λ (r : Part). option_and_then (λ a. option_map (λ b. a + b) (change_count_of new)) r.change_count) done.0.kept
    ∙ ap (λ o. option_and_then (λ a. option_map (λ b. a + b) o) p.change_count) (same_count old new done.1)

every_key : (old new : List Part) → AreFinished old new → AllByRecursion (λ (p : Part). p.names ≡ None) old → AllByRecursion (λ (p : Part). p.names ≡ None) new
every_key [] [] done all = tt
every_key [] (q ∷ new) done all = absurd done
every_key (p ∷ old) [] done all = absurd done
every_key (p ∷ old) (q ∷ new) done all = (ap (λ (r : Part). r.names) done.0.kept ∙ all.0, every_key old new done.1 all.1)

pub AreMounts-finished : (old new : List Part) → AreFinished old new → AreMounts old → AreMounts new
AreMounts-finished old new done are =
    let names = same_names old new done in
    let long = long_of old new done in
    record {
      some = omega (arith, are.some, long);
      few = omega (arith, are.few, long);
      named = subst (λ ns. All IsMountName ns) (sym names) are.named;
      distinct = subst (λ ns. IsDistinct bytes_eq ns) (sym names) are.distinct;
      every = All-from_recursion (λ (p : Part). p.names ≡ None) new (every_key old new done (recursion_from_All (λ (p : Part). p.names ≡ None) old are.every));
    }

not_open : (q : Part) → (q.standing ≡ finished) ⊎ (q.standing ≡ failing) → is_open q ≡ false
not_open q (inl e) = ap (λ (s : Standing). elim s [ opened ↦ true | finished ↦ false | failing ↦ false ]) e
not_open q (inr e) = ap (λ (s : Standing). elim s [ opened ↦ true | finished ↦ false | failing ↦ false ]) e

-- no store stands open
pub none_open : (old new : List Part) → AreFinished old new → list_any is_open new ≡ false
none_open [] [] done = refl
none_open [] (q ∷ new) done = absurd done
none_open (p ∷ old) [] done = absurd done
none_open (p ∷ old) (q ∷ new) done = ap (λ t. t || list_any is_open new) (not_open q done.0.closed) ∙ none_open old new done.1

-- the mounts stand failed where one does, and finished where none does
pub standing_finished : (old new : List Part) (t : Bool) → AreFinished old new → list_any has_failed new ≡ t → standing_of new ≡ (if t then failing else finished)
standing_finished old new t done e =
    ap (λ b. if b then opened else if list_any has_failed new then failing else finished) (none_open old new done) ∙ ap (λ b. if b then failing else finished) e

two_sums : (a b c d : ℕ) → a ≤ c → b ≤ d → a + b ≤ c + d
two_sums a b c d h k = omega arith

later_faults : (old new : List Part) → AreFinished old new → faults_of old ≤ faults_of new
later_faults [] [] done = omega arith
later_faults [] (q ∷ new) done = absurd done
later_faults (p ∷ old) [] done = absurd done
later_faults (p ∷ old) (q ∷ new) done =
    let e : faults_of (p ∷ old) ≡ p.faults + faults_of old = sum_by-cons (λ (r : Part). r.faults) p old in
    let f : faults_of (q ∷ new) ≡ q.faults + faults_of new = sum_by-cons (λ (r : Part). r.faults) q new in
    subst (λ n. n ≤ faults_of (q ∷ new)) (sym e) (subst (λ n. p.faults + faults_of old ≤ n) (sym f) (two_sums p.faults (faults_of old) q.faults (faults_of new) done.0.later (later_faults old new done.1)))

stands_failed : (q : Part) (s : Standing) → q.standing ≡ s → has_failed q ≡ true → q.standing ≡ failing
stands_failed q opened e h = let wrong : false ≡ true = sym (ap (λ (s : Standing). elim s [ opened ↦ false | finished ↦ false | failing ↦ true ]) e) ∙ h in cc wrong
stands_failed q finished e h = let wrong : false ≡ true = sym (ap (λ (s : Standing). elim s [ opened ↦ false | finished ↦ false | failing ↦ true ]) e) ∙ h in cc wrong
stands_failed q failing e h = e

more_by : (p q : Part) (old new : List Part) (t : Bool) → has_failed q ≡ t → IsFinished p q → AreFinished old new → (t || list_any has_failed new) ≡ true → (list_any has_failed new ≡ true → faults_of old < faults_of new) → p.faults + faults_of old < q.faults + faults_of new
more_by p q old new true e is done any rest = let rose = is.cause (stands_failed q q.standing refl e) in let later = later_faults old new done in omega (arith, rose, later)
more_by p q old new false e is done any rest = let rose = rest any in omega (arith, is.later, rose)

more_faults : (old new : List Part) → AreFinished old new → list_any has_failed new ≡ true → faults_of old < faults_of new
more_faults [] [] done e = cc
more_faults [] (q ∷ new) done e = absurd done
more_faults (p ∷ old) [] done e = absurd done
more_faults (p ∷ old) (q ∷ new) done any =
    let e : faults_of (p ∷ old) ≡ p.faults + faults_of old = sum_by-cons (λ (r : Part). r.faults) p old in
    let f : faults_of (q ∷ new) ≡ q.faults + faults_of new = sum_by-cons (λ (r : Part). r.faults) q new in
    subst (λ n. n < faults_of (q ∷ new)) (sym e) (subst (λ n. p.faults + faults_of old < n) (sym f) (more_by p q old new (has_failed q) refl done.0 done.1 any (more_faults old new done.1)))

-- the count of faults rises where one store failed
pub finished_cause : {F : Type 0} (old new : List Part) → AreFinished old new → (F → list_any has_failed new ≡ true) → HasCause (faults_of old) (faults_of new) F
finished_cause old new done failed = record { later = later_faults old new done; cause = λ f. more_faults old new done (failed f) }

counts_each : (old new : List Part) → AreFinished old new → (k : ℕ) → get_or (counts_of old) k 0 ≤ get_or (counts_of new) k 0
counts_each [] [] done k = omega arith
counts_each [] (q ∷ new) done k = absurd done
counts_each (p ∷ old) [] done k = absurd done
counts_each (p ∷ old) (q ∷ new) done zero = done.0.later
counts_each (p ∷ old) (q ∷ new) done (suc k) = counts_each old new done.1 k

-- and none of the stores' own falls
pub finished_counts : (old new : List Part) → AreFinished old new → NoneFell (counts_of old) (counts_of new)
finished_counts old new done = record { each = counts_each old new done }

-- what holds where a result is Ok, or is none
pub ok_by : {A E : Type 0} (P : Type 0) (r : Result A E) → (is_err r ≡ false → P) → OnOk r P
ok_by P (Ok x) f = f refl
ok_by P (Err e) f = tt

pub err_by : {A E : Type 0} (P : Type 0) (r : Result A E) → (is_err r ≡ true → P) → OnErr r P
err_by P (Ok x) f = tt
err_by P (Err e) f = f refl

pub err_true : {A E : Type 0} (r : Result A E) → IsErr r → is_err r ≡ true
err_true (Ok x) h = h
err_true (Err e) h = refl
