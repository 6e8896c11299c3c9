-- What finishing mounts leaves as it was.
use Rattle.std.proofs.Common.{◌≡◌, ◌≢◌, ◌∙◌, ℕ, ◌+◌, ◌≤◌, Bool, true, false, List, [], ◌∷◌, ◌++◌, length, get_or, map, suc, inl, inr, refl, sym, ap, arith}
use Rattle.std.specs.Prelude.{◌⊎◌, All, option_map, option_and_then, if◌then◌else◌}
use Rattle.std.specs.List.{AllByRecursion, AllZip, sum}
use Rattle.std.specs.FinMap as finmap
use Rattle.std.proofs.lemmas.List.Elements.{All-from_recursion}
use Rattle.std.proofs.lemmas.List.Sums.{sum_by-cons}
use Rattle.kv_face.specs.Store.{Standing, opened, finished, failing}
use Rattle.kv_mounts.specs.Finish.{IsFinished, AreFinished, failed_from}
use Rattle.kv_mounts.specs.Parts.{Part, below, names_of}
use Rattle.kv_mounts.specs.Union.{has_failed, entries_of, entries_below, faults_of, prefixes_of, union_of, sum_told, change_count_of, counts_of}
use Rattle.session_workers.specs.Finished.{HasRisen}

module _ (p q : Part) (is : IsFinished p q) where
  name_is : q.name ≡ p.name
  name_is = ap (λ (r : Part). r.name) is.kept

  contents_is : q.contents ≡ p.contents
  contents_is = ap (λ (r : Part). r.contents) is.kept

  prefixes_is : q.prefixes ≡ p.prefixes
  prefixes_is = ap (λ (r : Part). r.prefixes) is.kept

  count_is : q.change_count ≡ p.change_count
  count_is = ap (λ (r : Part). r.change_count) is.kept

  not_open : q.standing ≢ opened
  not_open e = by is.closed
    where
      by : ((q.standing ≡ finished) ⊎ (q.standing ≡ failing)) → ⊥
      by (inl one) = let t : opened ≡ finished = sym e ∙ one in let no_such : ⊥ = cc in no_such
      by (inr other) = let t : opened ≡ failing = sym e ∙ other in let no_such : ⊥ = cc in no_such

pub names_stay : (old new : List Part) → AreFinished old new → names_of new ≡ names_of old
names_stay [] [] are = refl
names_stay [] (q ∷ qs) are = absurd are
names_stay (p ∷ ps) [] are = absurd are
names_stay (p ∷ ps) (q ∷ qs) are = ap (λ n. n ∷ names_of qs) (name_is p q are.0) ∙ ap (λ ns. p.name ∷ ns) (names_stay ps qs are.1)

entries_stay : (old new : List Part) → AreFinished old new → entries_of new ≡ entries_of old
entries_stay [] [] are = refl
entries_stay [] (q ∷ qs) are = absurd are
entries_stay (p ∷ ps) [] are = absurd are
entries_stay (p ∷ ps) (q ∷ qs) are =
    ap (λ c. option_and_then (λ m. option_map (λ es. entries_below q.name m ++ es) (entries_of qs)) c) (contents_is p q are.0)
    ∙ ap (λ n. option_and_then (λ m. option_map (λ es. entries_below n m ++ es) (entries_of qs)) p.contents) (name_is p q are.0)
    ∙ ap (λ rest. option_and_then (λ m. option_map (λ es. entries_below p.name m ++ es) rest) p.contents) (entries_stay ps qs are.1)

-- the union of their contents
pub union_stays : (old new : List Part) → AreFinished old new → union_of new ≡ union_of old
union_stays old new are = ap (option_map (λ es. finmap.from_entries es)) (entries_stay old new are)

pub prefixes_stay : (old new : List Part) → AreFinished old new → prefixes_of new ≡ prefixes_of old
prefixes_stay [] [] are = refl
prefixes_stay [] (q ∷ qs) are = absurd are
prefixes_stay (p ∷ ps) [] are = absurd are
prefixes_stay (p ∷ ps) (q ∷ qs) are =
    ap (λ ks. map (below q.name) ks ++ prefixes_of qs) (prefixes_is p q are.0)
    ∙ ap (λ n. map (below n) p.prefixes ++ prefixes_of qs) (name_is p q are.0)
    ∙ ap (λ rest. map (below p.name) p.prefixes ++ rest) (prefixes_stay ps qs are.1)

counts_stay : (old new : List Part) → AreFinished old new → map (λ (p : Part). p.change_count) new ≡ map (λ (p : Part). p.change_count) old
counts_stay [] [] are = refl
counts_stay [] (q ∷ qs) are = absurd are
counts_stay (p ∷ ps) [] are = absurd are
counts_stay (p ∷ ps) (q ∷ qs) are = ap (λ c. c ∷ map (λ (r : Part). r.change_count) qs) (count_is p q are.0) ∙ ap (λ cs. p.change_count ∷ cs) (counts_stay ps qs are.1)

-- the number of their changes
pub count_stays : (old new : List Part) → AreFinished old new → change_count_of new ≡ change_count_of old
count_stays old new are = ap sum_told (counts_stay old new are)

-- of several mounts, the first one's and the others'
faults_parts : (p : Part) (ps : List Part) → faults_of (p ∷ ps) ≡ p.faults + faults_of ps
faults_parts p ps = sum_by-cons (λ (r : Part). r.faults) p ps

-- failed calls are no fewer
pub faults_rise : (old new : List Part) → AreFinished old new → faults_of old ≤ faults_of new
faults_rise [] [] are = omega arith
faults_rise [] (q ∷ qs) are = absurd are
faults_rise (p ∷ ps) [] are = absurd are
faults_rise (p ∷ ps) (q ∷ qs) are = let first = are.0.later in let rest = faults_rise ps qs are.1 in let was = faults_parts p ps in let is = faults_parts q qs in omega (arith, first, rest, was, is)

-- one that has failed stands failed
stands_failed : (q : Part) (s : Standing) → q.standing ≡ s → has_failed q ≡ true → q.standing ≡ failing
stands_failed q opened is has = let same : has_failed q ≡ false = ap (λ t. elim t [ opened ↦ false | finished ↦ false | failing ↦ true ]) is in let no_such : ⊥ = cc in absurd no_such
stands_failed q finished is has = let same : has_failed q ≡ false = ap (λ t. elim t [ opened ↦ false | finished ↦ false | failing ↦ true ]) is in let no_such : ⊥ = cc in absurd no_such
stands_failed q failing is has = is

-- a call more failed for each that stands failed
pub listed_rise : (n : ℕ) (old new : List Part) → AreFinished old new → faults_of old + length (failed_from n new) ≤ faults_of new
listed_rise n [] [] are = omega arith
listed_rise n [] (q ∷ qs) are = absurd are
listed_rise n (p ∷ ps) [] are = absurd are
listed_rise n (p ∷ ps) (q ∷ qs) are = by (listed_rise (n + 1) ps qs are.1) (has_failed q) refl
  where
    by : faults_of ps + length (failed_from (n + 1) qs) ≤ faults_of qs → (b : Bool) → has_failed q ≡ b → faults_of (p ∷ ps) + length (failed_from n (q ∷ qs)) ≤ faults_of (q ∷ qs)
    by later true has =
        let first = are.0.cause (stands_failed q q.standing refl has) in
        let listed : length (failed_from n (q ∷ qs)) ≡ length (n ∷ failed_from (n + 1) qs) = ap (λ b. length (if b then n ∷ failed_from (n + 1) qs else failed_from (n + 1) qs)) has in
        let was = faults_parts p ps in
        let is = faults_parts q qs in
        omega (arith, first, later, listed, was, is)
    by later false has =
        let first = are.0.later in
        let listed : length (failed_from n (q ∷ qs)) ≡ length (failed_from (n + 1) qs) = ap (λ b. length (if b then n ∷ failed_from (n + 1) qs else failed_from (n + 1) qs)) has in
        let was = faults_parts p ps in
        let is = faults_parts q qs in
        omega (arith, first, later, listed, was, is)

same_rest : (x y : List ℕ) (xs ys : List (List ℕ)) → x ∷ xs ≡ y ∷ ys → xs ≡ ys
same_rest x y xs ys e = cc

none_there : (x : List ℕ) (xs : List (List ℕ)) → x ∷ xs ≡ [] → ⊥
none_there x xs e = cc

-- of mounts with the same names whose counts are place by place no lower than they were, each has a count no lower than its own
pub own_counts : (old now : List Part) → names_of now ≡ names_of old → ((k : ℕ) → get_or (counts_of old) k 0 ≤ get_or (counts_of now) k 0) → AllZip (λ (p : Part) (count : ℕ). p.faults ≤ count) old (map (λ (p : Part). p.faults) now)
own_counts [] [] names each = tt
own_counts [] (q ∷ qs) names each = absurd (none_there q.name (names_of qs) names)
own_counts (p ∷ ps) [] names each = absurd (none_there p.name (names_of ps) (sym names))
own_counts (p ∷ ps) (q ∷ qs) names each = (each 0, own_counts ps qs (same_rest q.name p.name (names_of qs) (names_of ps) names) (λ k. each (suc k)))

-- a count of each before, and how it rose
pub counts_rise : (old new : List Part) → AreFinished old new → AllZip HasRisen (map (λ (p : Part). p.faults) old) new
counts_rise [] [] are = tt
counts_rise [] (q ∷ qs) are = absurd are
counts_rise (p ∷ ps) [] are = absurd are
counts_rise (p ∷ ps) (q ∷ qs) are = ((are.0.later, λ has. are.0.cause (stands_failed q q.standing refl has)), counts_rise ps qs are.1)

-- all of them together
pub counts_sum : (parts : List Part) → sum (map (λ (p : Part). p.faults) parts) ≡ faults_of parts
counts_sum [] = refl
counts_sum (p ∷ ps) = sum_by-cons (λ (n : ℕ). n) p.faults (map (λ (r : Part). r.faults) ps) ∙ ap (λ n. p.faults + n) (counts_sum ps) ∙ sym (faults_parts p ps)

closed_each : (old new : List Part) → AreFinished old new → AllByRecursion (λ (p : Part). p.standing ≢ opened) new
closed_each [] [] are = tt
closed_each [] (q ∷ qs) are = absurd are
closed_each (p ∷ ps) [] are = absurd are
closed_each (p ∷ ps) (q ∷ qs) are = (not_open p q are.0, closed_each ps qs are.1)

-- none stands open
pub all_closed : (old new : List Part) → AreFinished old new → All (λ (p : Part). p.standing ≢ opened) new
all_closed old new are = All-from_recursion (λ (p : Part). p.standing ≢ opened) new (closed_each old new are)
