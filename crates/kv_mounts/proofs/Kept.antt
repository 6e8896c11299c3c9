-- What stays, and what rises, where one mount is changed.
use Rattle.std.proofs.Common.{◌≡◌, ℕ, zero, suc, ◌+◌, ◌<◌, ◌≤◌, List, [], ◌∷◌, ◌++◌, length, get_or, set, map, Bool, true, false, ◌||◌, ◌⊎◌, inl, inr, Option, Some, None, refl, sym, ap, subst, ◌∙◌, arith, bytes_eq}
use Rattle.std.specs.Prelude.{option_map, option_and_then, All, if◌then◌else◌, Result, Ok, Err, OnErr}
use Rattle.std.specs.List.{list_any, IsDistinct, AllByRecursion}
use Rattle.std.proofs.Math.Seq.{map-set_same}
use Rattle.std.proofs.lemmas.List.Elements.{All-set, All-get_or, recursion_from_All}
use Rattle.std.proofs.lemmas.List.Sums.{sum_by-set}
use Rattle.kv_face.specs.Store.{Standing, opened, finished, failing, OneMore, IsToldExactly, NoneFell}
use Rattle.kv_mounts.specs.Parts.{Part, AreMounts, IsMountName, names_of, below}
use Rattle.kv_mounts.specs.Union.{entries_below, entries_of, union_of, faults_of, counts_of, prefixes_of, is_open, has_failed, standing_of, sum_told, change_count_of}
use Rattle.kv_mounts.proofs.UnionLaws.{length-set, names_of-set}

-- the changed mount stands where the old one stood, with its name
pub record Changes (parts : List Part) (i : ℕ) (p q : Part) : Type 0 where
  pub there : i < length parts
  pub is : p ≡ get_or parts i p
  pub name : q.name ≡ p.name
  pub names : q.names ≡ p.names
  pub prefixes : q.prefixes ≡ p.prefixes

entries_of-at : (parts : List Part) (i : ℕ) (p q : Part) → p ≡ get_or parts i p → q.name ≡ p.name → q.contents ≡ p.contents → entries_of (set parts i q) ≡ entries_of parts
entries_of-at [] i p q is name same = refl
entries_of-at (x ∷ ps) zero p q is name same =
    ap (λ n. option_and_then (λ m. option_map (λ es. entries_below n m ++ es) (entries_of ps)) q.contents) (name ∙ ap (λ (r : Part). r.name) is)
    ∙ ap (λ o. option_and_then (λ m. option_map (λ es. entries_below x.name m ++ es) (entries_of ps)) o) (same ∙ ap (λ (r : Part). r.contents) is)
entries_of-at (x ∷ ps) (suc i) p q is name same = ap (λ r. option_and_then (λ m. option_map (λ es. entries_below x.name m ++ es) r) x.contents) (entries_of-at ps i p q is name same)

pub union_of-set : (parts : List Part) (i : ℕ) (p q : Part) → Changes parts i p q → q.contents ≡ p.contents → union_of (set parts i q) ≡ union_of parts
union_of-set parts i p q c same = ap (option_map _) (entries_of-at parts i p q c.is c.name same)

prefixes_of-at : (parts : List Part) (i : ℕ) (p q : Part) → p ≡ get_or parts i p → q.name ≡ p.name → q.prefixes ≡ p.prefixes → prefixes_of (set parts i q) ≡ prefixes_of parts
prefixes_of-at [] i p q is name same = refl
prefixes_of-at (x ∷ ps) zero p q is name same =
    ap (λ n. map (below n) q.prefixes ++ prefixes_of ps) (name ∙ ap (λ (r : Part). r.name) is) ∙ ap (λ l. map (below x.name) l ++ prefixes_of ps) (same ∙ ap (λ (r : Part). r.prefixes) is)
prefixes_of-at (x ∷ ps) (suc i) p q is name same = ap (λ l. map (below x.name) x.prefixes ++ l) (prefixes_of-at ps i p q is name same)

pub prefixes_of-set : (parts : List Part) (i : ℕ) (p q : Part) → Changes parts i p q → prefixes_of (set parts i q) ≡ prefixes_of parts
prefixes_of-set parts i p q c = prefixes_of-at parts i p q c.is c.name c.prefixes

pub names_of-kept : (parts : List Part) (i : ℕ) (p q : Part) → Changes parts i p q → names_of (set parts i q) ≡ names_of parts
names_of-kept parts i p q c = names_of-set parts i q p c.is c.name

pub AreMounts-set : (parts : List Part) (i : ℕ) (p q : Part) → Changes parts i p q → AreMounts parts → AreMounts (set parts i q)
AreMounts-set parts i p q c are =
    let names = names_of-kept parts i p q c in
    let len = length-set parts i q in
    let every : p.names ≡ None = ap (λ (r : Part). r.names) c.is ∙ All-get_or (λ (r : Part). r.names ≡ None) parts i p c.there are.every in
    record {
      some = omega (arith, are.some, len);
      few = omega (arith, are.few, len);
      named = subst (λ ns. All IsMountName ns) (sym names) are.named;
      distinct = subst (λ ns. IsDistinct bytes_eq ns) (sym names) are.distinct;
      every = All-set (λ (r : Part). r.names ≡ None) parts i q (c.names ∙ every) are.every;
    }

any-at : (f : Part → Bool) (parts : List Part) (i : ℕ) (p q : Part) → p ≡ get_or parts i p → f q ≡ f p → list_any f (set parts i q) ≡ list_any f parts
any-at f [] i p q is same = refl
any-at f (x ∷ ps) zero p q is same = ap (λ t. t || list_any f ps) (same ∙ ap f is)
any-at f (x ∷ ps) (suc i) p q is same = ap (λ t. f x || t) (any-at f ps i p q is same)

-- the standing stays where that of the mount does
pub standing_of-set : (parts : List Part) (i : ℕ) (p q : Part) → Changes parts i p q → q.standing ≡ p.standing → standing_of (set parts i q) ≡ standing_of parts
standing_of-set parts i p q c same =
    ap (λ t. if t then opened else if list_any has_failed (set parts i q) then failing else finished) (any-at is_open parts i p q c.is (ap (λ (s : Standing). elim s [ opened ↦ true | finished ↦ false | failing ↦ false ]) same))
    ∙ ap (λ t. if list_any is_open parts then opened else if t then failing else finished) (any-at has_failed parts i p q c.is (ap (λ (s : Standing). elim s [ opened ↦ false | finished ↦ false | failing ↦ true ]) same))

or_true : (a : Bool) → (a || true) ≡ true
or_true true = refl
or_true false = refl

any_open : (parts : List Part) (i : ℕ) (q : Part) → i < length parts → is_open q ≡ true → list_any is_open (set parts i q) ≡ true
any_open [] i q less e = absurd (omega arith)
any_open (x ∷ ps) zero q less e = ap (λ t. t || list_any is_open ps) e
any_open (x ∷ ps) (suc i) q less e = ap (λ t. is_open x || t) (any_open ps i q (omega arith) e) ∙ or_true (is_open x)

-- the mounts are open where one is
pub standing_of-opened : (parts : List Part) (i : ℕ) (q : Part) → i < length parts → q.standing ≡ opened → standing_of (set parts i q) ≡ opened
standing_of-opened parts i q less e =
    ap (λ t. if t then opened else if list_any has_failed (set parts i q) then failing else finished) (any_open parts i q less (ap (λ (s : Standing). elim s [ opened ↦ true | finished ↦ false | failing ↦ false ]) e))

pub change_count_of-set : (parts : List Part) (i : ℕ) (p q : Part) → Changes parts i p q → q.change_count ≡ p.change_count → change_count_of (set parts i q) ≡ change_count_of parts
change_count_of-set parts i p q c same = ap sum_told (map-set_same (λ (r : Part). r.change_count) parts i q p (same ∙ ap (λ (r : Part). r.change_count) c.is))

one_more_first : (old new rest : Option ℕ) → OneMore old new → OneMore (option_and_then (λ a. option_map (λ b. a + b) rest) old) (option_and_then (λ a. option_map (λ b. a + b) rest) new)
one_more_first None None rest h = tt
one_more_first None (Some n) rest h = absurd h
one_more_first (Some m) None rest h = tt
one_more_first (Some m) (Some n) None h = tt
one_more_first (Some m) (Some n) (Some r) h = omega (arith, h)

one_more_rest : (first old new : Option ℕ) → OneMore old new → OneMore (option_and_then (λ a. option_map (λ b. a + b) old) first) (option_and_then (λ a. option_map (λ b. a + b) new) first)
one_more_rest None old new h = tt
one_more_rest (Some f) None None h = tt
one_more_rest (Some f) None (Some n) h = absurd h
one_more_rest (Some f) (Some m) None h = tt
one_more_rest (Some f) (Some m) (Some n) h = omega (arith, h)

one_more_at : (parts : List Part) (i : ℕ) (p q : Part) → i < length parts → p ≡ get_or parts i p → OneMore p.change_count q.change_count → OneMore (change_count_of parts) (change_count_of (set parts i q))
one_more_at [] i p q less is h = absurd (omega arith)
one_more_at (x ∷ ps) zero p q less is h = one_more_first x.change_count q.change_count (change_count_of ps) (subst (λ (r : Part). OneMore r.change_count q.change_count) is h)
one_more_at (x ∷ ps) (suc i) p q less is h = one_more_rest x.change_count (change_count_of ps) (change_count_of (set ps i q)) (one_more_at ps i p q (omega arith) is h)

-- the sum of the numbers of changes rises with one of them
pub one_more : (parts : List Part) (i : ℕ) (p q : Part) → Changes parts i p q → OneMore p.change_count q.change_count → OneMore (change_count_of parts) (change_count_of (set parts i q))
one_more parts i p q c h = one_more_at parts i p q c.there c.is h

-- the count of faults rises exactly with that of one mount
pub has_cause : {F : Type 0} (parts : List Part) (i : ℕ) (p q : Part) → Changes parts i p q → IsToldExactly p.faults q.faults F → IsToldExactly (faults_of parts) (faults_of (set parts i q)) F
has_cause parts i p q c h =
    let sums : faults_of (set parts i q) + p.faults ≡ faults_of parts + q.faults = ap (λ (r : Part). faults_of (set parts i q) + r.faults) c.is ∙ sum_by-set (λ (r : Part). r.faults) parts i q p c.there in
    record {
      later = omega (arith, sums, h.later);
      cause = λ f. omega (arith, sums, h.cause f);
      told = λ more. h.told (omega (arith, sums, more));
    }

counts_at : (parts : List Part) (i : ℕ) (p q : Part) → p ≡ get_or parts i p → p.faults ≤ q.faults → (k : ℕ) → get_or (counts_of parts) k 0 ≤ get_or (counts_of (set parts i q)) k 0
counts_at [] i p q is h k = omega arith
counts_at (x ∷ ps) zero p q is h zero = subst (λ (r : Part). r.faults ≤ q.faults) is h
counts_at (x ∷ ps) zero p q is h (suc k) = omega arith
counts_at (x ∷ ps) (suc i) p q is h zero = omega arith
counts_at (x ∷ ps) (suc i) p q is h (suc k) = counts_at ps i p q is h k

-- no count of a mount falls where that of the changed one doesn't
pub none_fell : (parts : List Part) (i : ℕ) (p q : Part) → Changes parts i p q → p.faults ≤ q.faults → NoneFell (counts_of parts) (counts_of (set parts i q))
none_fell parts i p q c h = record { each = counts_at parts i p q c.is h }

-- tests of names and tests of mounts by their names
pub any_names : (test : List ℕ → Bool) (parts : List Part) → list_any test (names_of parts) ≡ list_any (λ (p : Part). test p.name) parts
any_names test [] = refl
any_names test (p ∷ ps) = ap (λ t. test p.name || t) (any_names test ps)

pub name_at : (parts : List Part) (i : ℕ) (p : Part) → AllByRecursion IsMountName (names_of parts) → i < length parts → p ≡ get_or parts i p → IsMountName p.name
name_at [] i p all less is = absurd (omega arith)
name_at (x ∷ ps) zero p all less is = subst (λ (r : Part). IsMountName r.name) (sym is) all.0
name_at (x ∷ ps) (suc i) p all less is = name_at ps i p all.1 (omega arith) is

-- a mount's name is short
pub few_at : (parts : List Part) (i : ℕ) (p : Part) → AreMounts parts → i < length parts → p ≡ get_or parts i p → length p.name ≤ 64
few_at parts i p are less is = (name_at parts i p (recursion_from_All IsMountName (names_of parts) are.named) less is).few

-- a mount's store takes every key
pub every_at : (parts : List Part) (i : ℕ) (p : Part) → AreMounts parts → i < length parts → p ≡ get_or parts i p → p.names ≡ None
every_at parts i p are less is = ap (λ (r : Part). r.names) is ∙ All-get_or (λ (r : Part). r.names ≡ None) parts i p less are.every

pub standing_either : (parts : List Part) (i : ℕ) (p q : Part) → Changes parts i p q → (q.standing ≡ p.standing) ⊎ (q.standing ≡ opened) → (standing_of (set parts i q) ≡ standing_of parts) ⊎ (standing_of (set parts i q) ≡ opened)
standing_either parts i p q c (inl same) = inl (standing_of-set parts i p q c same)
standing_either parts i p q c (inr stands) = inr (standing_of-opened parts i q c.there stands)

pub err_weaker : {A E : Type 0} {P Q : Type 0} (r : Result A E) → (P → Q) → OnErr r P → OnErr r Q
err_weaker (Ok x) f h = tt
err_weaker (Err e) f h = f h
