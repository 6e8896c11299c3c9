-- Which changes the mounts make together.
use Rattle.std.proofs.Common.{◌≡◌, ℕ, zero, suc, ◌+◌, ◌<◌, List, [], ◌∷◌, length, take, drop, get_or, map, Bool, true, false, ◌&&◌, ◌||◌, nat_eq, nat_le, refl, sym, ap, subst, ◌∙◌, arith, bytes_eq}
use Rattle.std.specs.List.{list_all, list_any, AllByRecursion, IsDistinct, starts_with}
use Rattle.std.proofs.lemmas.Bool.Decides.{nat_tests}
use Rattle.std.proofs.lemmas.List.{drop-drop}
use Rattle.std.specs.Prelude.{All, ◌==◌}
use Rattle.std.specs.Str.{IsCharBoundary}
use Rattle.std.proofs.lemmas.List.Folds.{list_any-append, list_all_more}
use Rattle.std.proofs.lemmas.List.Elements.{All-more}
use Rattle.std.proofs.lemmas.Map.Keys.{IsDistinct-head, IsDistinct-tail, IsDistinct-cons}
use Rattle.kv_face.specs.Store.{are_together, keys_of}
use Rattle.kv_face.specs.declared.change.Change.{Change}
use Rattle.kv_mounts.specs.Parts.{Part, AreMounts, names_of, below, begins, behind, shortened, all_below, AreOneMounts}
use Rattle.kv_mounts.specs.Union.{prefixes_of}
use Rattle.kv_mounts.proofs.Begins.{starts_with-below, both_parts, bytes_eq-behind, behind-drop}
use Rattle.kv_mounts.proofs.UnionLaws.{AreNames, AreOthers, names_from, apart, head_apart}

-- all keys, each without its first bytes and without the name, begin with the prefix
abbrev pub all_behind : List ℕ → List Change → ℕ → List ℕ → Bool
all_behind name cs from p = list_all (λ (c : Change). starts_with nat_eq (behind name (drop from c.key)) p) cs

abbrev pub all_start : List Change → ℕ → List ℕ → Bool
all_start cs from p = list_all (λ (c : Change). starts_with nat_eq (drop from c.key) p) cs

both_four : (a b c d : Bool) → ((a && b) && (c && d)) ≡ ((a && c) && (b && d))
both_four true true c d = refl
both_four true false true d = refl
both_four true false false d = refl
both_four false b c d = refl

start-below : (name : List ℕ) (cs : List Change) (from : ℕ) (p : List ℕ) → all_start cs from (below name p) ≡ (all_below name cs from && all_behind name cs from p)
start-below name [] from p = refl
start-below name (c ∷ cs) from p =
    ap (λ t. t && all_start cs from (below name p)) (starts_with-below name p (drop from c.key)) ∙ ap (λ t. (begins name (drop from c.key) && starts_with nat_eq (behind name (drop from c.key)) p) && t) (start-below name cs from p)
    ∙ both_four (begins name (drop from c.key)) (starts_with nat_eq (behind name (drop from c.key)) p) (all_below name cs from) (all_behind name cs from p)

none_of : (a : Bool) → false ≡ (a && false)
none_of true = refl
none_of false = refl

either_of : (a b c : Bool) → ((a && b) || (a && c)) ≡ (a && (b || c))
either_of true b c = refl
either_of false b c = refl

any_below : (name : List ℕ) (cs : List Change) (from : ℕ) (ps : List (List ℕ)) → list_any (all_start cs from) (map (below name) ps) ≡ (all_below name cs from && list_any (all_behind name cs from) ps)
any_below name cs from [] = none_of (all_below name cs from)
any_below name cs from (p ∷ ps) =
    ap (λ t. t || list_any (all_start cs from) (map (below name) ps)) (start-below name cs from p) ∙ ap (λ t. (all_below name cs from && all_behind name cs from p) || t) (any_below name cs from ps)
    ∙ either_of (all_below name cs from) (all_behind name cs from p) (list_any (all_behind name cs from) ps)

any_cons : (x : Part) (ps : List Part) (cs : List Change) (from : ℕ) → list_any (all_start cs from) (prefixes_of (x ∷ ps)) ≡ ((all_below x.name cs from && list_any (all_behind x.name cs from) x.prefixes) || list_any (all_start cs from) (prefixes_of ps))
any_cons x ps cs from = list_any-append (all_start cs from) (map (below x.name) x.prefixes) (prefixes_of ps) ∙ ap (λ t. t || list_any (all_start cs from) (prefixes_of ps)) (any_below x.name cs from x.prefixes)

-- no mount's name begins the first key
pub no_prefix : (c : Change) (cs : List Change) (from : ℕ) (parts : List Part) → AllByRecursion (λ (p : Part). begins p.name (drop from c.key) ≡ false) parts → list_any (all_start (c ∷ cs) from) (prefixes_of parts) ≡ false
no_prefix c cs from [] none = refl
no_prefix c cs from (x ∷ ps) none =
    any_cons x ps (c ∷ cs) from ∙ ap (λ t. ((t && all_below x.name cs from) && list_any (all_behind x.name (c ∷ cs) from) x.prefixes) || list_any (all_start (c ∷ cs) from) (prefixes_of ps)) none.0
    ∙ no_prefix c cs from ps none.1

or_false : (a : Bool) → (a || false) ≡ a
or_false true = refl
or_false false = refl

-- one mount's name begins the first key: then the prefixes are its own
pub one_prefix : (c : Change) (cs : List Change) (from : ℕ) (parts : List Part) (i : ℕ) (p : Part) → AreNames parts → i < length parts → p ≡ get_or parts i p → begins p.name (drop from c.key) ≡ true
    → list_any (all_start (c ∷ cs) from) (prefixes_of parts) ≡ (all_below p.name (c ∷ cs) from && list_any (all_behind p.name (c ∷ cs) from) p.prefixes)
one_prefix c cs from [] i p names less is e = absurd (omega arith)
one_prefix c cs from (x ∷ ps) zero p names less is e =
    let begun : begins x.name (drop from c.key) ≡ true = ap (λ (r : Part). begins r.name (drop from c.key)) (sym is) ∙ e in
    let others : AreOthers x.name ps = record { plain = names.plain.1; others = IsDistinct-head bytes_eq x.name (names_of ps) names.distinct } in
    any_cons x ps (c ∷ cs) from ∙ ap (λ t. (all_below x.name (c ∷ cs) from && list_any (all_behind x.name (c ∷ cs) from) x.prefixes) || t) (no_prefix c cs from ps (apart x.name (drop from c.key) ps names.plain.0 others begun))
    ∙ or_false _ ∙ ap (λ (r : Part). all_below r.name (c ∷ cs) from && list_any (all_behind r.name (c ∷ cs) from) r.prefixes) (sym is)
one_prefix c cs from (x ∷ ps) (suc i) p names less is e =
    let others : AreOthers x.name ps = record { plain = names.plain.1; others = IsDistinct-head bytes_eq x.name (names_of ps) names.distinct } in
    let rest : AreNames ps = record { plain = names.plain.1; distinct = IsDistinct-tail bytes_eq x.name (names_of ps) names.distinct } in
    let not_x : begins x.name (drop from c.key) ≡ false = head_apart (drop from c.key) x ps i p _ refl names.plain.0 others (omega arith) is e in
    any_cons x ps (c ∷ cs) from ∙ ap (λ t. ((t && all_below x.name cs from) && list_any (all_behind x.name (c ∷ cs) from) x.prefixes) || list_any (all_start (c ∷ cs) from) (prefixes_of ps)) not_x
    ∙ one_prefix c cs from ps i p rest (omega arith) is e

-- the store's own key is what is behind the name
behind-sum : (name key : List ℕ) (from : ℕ) → behind name (drop from key) ≡ drop (from + (length name + 1)) key
behind-sum name key from = behind-drop name (drop from key) ∙ drop-drop (length name + 1) from key

pub all_behind-start : (name : List ℕ) (cs : List Change) (from : ℕ) (p : List ℕ) → all_behind name cs from p ≡ all_start cs (from + (length name + 1)) p
all_behind-start name [] from p = refl
all_behind-start name (c ∷ cs) from p = ap (λ k. starts_with nat_eq k p && all_behind name cs from p) (behind-sum name c.key from) ∙ ap (λ t. starts_with nat_eq (drop (from + (length name + 1)) c.key) p && t) (all_behind-start name cs from p)

pub any_behind-start : (name : List ℕ) (cs : List Change) (from : ℕ) (ps : List (List ℕ)) → list_any (all_behind name cs from) ps ≡ list_any (all_start cs (from + (length name + 1))) ps
any_behind-start name cs from [] = refl
any_behind-start name cs from (p ∷ ps) =
    ap (λ t. t || list_any (all_behind name cs from) ps) (all_behind-start name cs from p) ∙ ap (λ t. all_start cs (from + (length name + 1)) p || t) (any_behind-start name cs from ps)

le_no : (n : ℕ) → 1 < n → nat_le n 1 ≡ false
le_no n h = grind (arith, nat_tests)

-- more than one change go together where one of the prefixes begins all keys
many : (b : Bool) (cs : List Change) → 1 < length cs → (nat_le (length cs) 1 || b) ≡ b
many b cs h = ap (λ t. t || b) (le_no (length cs) h)

-- whether the mounts make changes together, by the mount of the first key
pub together_one : (c : Change) (cs : List Change) (from : ℕ) (parts : List Part) (i : ℕ) (p : Part) → AreMounts parts → 1 < length (c ∷ cs) → i < length parts → p ≡ get_or parts i p → begins p.name (drop from c.key) ≡ true
    → are_together (prefixes_of parts) (c ∷ cs) from ≡ (all_below p.name (c ∷ cs) from && are_together p.prefixes (c ∷ cs) (from + (length p.name + 1)))
together_one c cs from parts i p are h less is e =
    many _ (c ∷ cs) h ∙ one_prefix c cs from parts i p (names_from parts are) less is e ∙ ap (λ t. all_below p.name (c ∷ cs) from && t) (any_behind-start p.name (c ∷ cs) from p.prefixes ∙ sym (many _ (c ∷ cs) h))

neither : (a b : Bool) → (a || b) ≡ false → (a ≡ false) × (b ≡ false)
neither true b e = cc
neither false b e = (refl, e)

pub none_of_all : (key : List ℕ) (parts : List Part) → list_any (λ (p : Part). begins p.name key) parts ≡ false → AllByRecursion (λ (p : Part). begins p.name key ≡ false) parts
none_of_all key [] e = tt
none_of_all key (p ∷ ps) e = let s = neither (begins p.name key) (list_any (λ (p : Part). begins p.name key) ps) e in (s.0, none_of_all key ps s.1)

-- no mount has the first key
pub together_none : (c : Change) (cs : List Change) (from : ℕ) (parts : List Part) → 1 < length (c ∷ cs) → list_any (λ (p : Part). begins p.name (drop from c.key)) parts ≡ false → are_together (prefixes_of parts) (c ∷ cs) from ≡ false
together_none c cs from parts h none = many _ (c ∷ cs) h ∙ no_prefix c cs from parts (none_of_all (drop from c.key) parts none)

-- a shortened change has the key behind the name
shortened_start : (name : List ℕ) (cs : List Change) (p : List ℕ) → all_start (shortened name cs) 0 p ≡ all_behind name cs 0 p
shortened_start name [] p = refl
shortened_start name (c ∷ cs) p = ap (λ t. starts_with nat_eq (behind name c.key) p && t) (shortened_start name cs p)

shortened_any : (name : List ℕ) (cs : List Change) (ps : List (List ℕ)) → list_any (all_start (shortened name cs) 0) ps ≡ list_any (all_behind name cs 0) ps
shortened_any name cs [] = refl
shortened_any name cs (p ∷ ps) = ap (λ t. t || list_any (all_start (shortened name cs) 0) ps) (shortened_start name cs p) ∙ ap (λ t. all_behind name cs 0 p || t) (shortened_any name cs ps)

shortened_len : (name : List ℕ) (cs : List Change) → length (shortened name cs) ≡ length cs
shortened_len name [] = refl
shortened_len name (c ∷ cs) = ap suc (shortened_len name cs)

two : (n : ℕ) → nat_le (suc (suc n)) 1 ≡ true → ⊥
two n h = grind (arith, nat_tests)

more : (n : ℕ) → nat_le n 1 ≡ false → 1 < n
more n h = grind (arith, nat_tests)

first_alone : (p : Part) (c : Change) (cs : List Change) → begins p.name c.key ≡ true → nat_le (length (c ∷ cs)) 1 ≡ true → AreOneMounts p (c ∷ cs)
first_alone p c [] e h = record { below = ap (λ t. t && true) e; together = refl }
first_alone p c (d ∷ cs) e h = absurd (two (length cs) h)

by_count : (parts : List Part) (i : ℕ) (p : Part) (c : Change) (cs : List Change) (few : Bool) → nat_le (length (c ∷ cs)) 1 ≡ few → AreMounts parts → i < length parts → p ≡ get_or parts i p → begins p.name c.key ≡ true
    → are_together (prefixes_of parts) (c ∷ cs) 0 ≡ true → AreOneMounts p (c ∷ cs)
by_count parts i p c cs true h are less is e all = first_alone p c cs e h
by_count parts i p c cs false h are less is e all =
    let many : 1 < length (c ∷ cs) = more (length (c ∷ cs)) h in
    let any : list_any (all_start (c ∷ cs) 0) (prefixes_of parts) ≡ true = ap (λ t. t || list_any (all_start (c ∷ cs) 0) (prefixes_of parts)) (sym h) ∙ all in
    let s = both_parts _ _ (sym (one_prefix c cs 0 parts i p (names_from parts are) less is e) ∙ any) in
    record {
      below = s.0;
      together = ap (λ t. t || list_any (all_start (shortened p.name (c ∷ cs)) 0) p.prefixes) (ap (λ n. nat_le n 1) (shortened_len p.name (c ∷ cs)) ∙ h) ∙ shortened_any p.name (c ∷ cs) p.prefixes ∙ s.1;
    }

-- changes that the mounts make together are below the mount of the first, whose store makes them together
pub one_mount : (parts : List Part) (i : ℕ) (p : Part) (c : Change) (cs : List Change) → AreMounts parts → i < length parts → p ≡ get_or parts i p → begins p.name c.key ≡ true → are_together (prefixes_of parts) (c ∷ cs) 0 ≡ true → AreOneMounts p (c ∷ cs)
one_mount parts i p c cs are less is e all = by_count parts i p c cs _ refl are less is e all

distinct_keys : (name : List ℕ) (c : Change) (cs : List Change) → begins name c.key ≡ true → list_all (λ (c : Change). begins name c.key) cs ≡ true → AllByRecursion (λ y. bytes_eq c.key y ≡ false) (keys_of cs)
    → AllByRecursion (λ y. bytes_eq (behind name c.key) y ≡ false) (keys_of (shortened name cs))
distinct_keys name c [] e all other = tt
distinct_keys name c (d ∷ cs) e all other = let s = both_parts _ _ all in (sym (bytes_eq-behind name c.key d.key e s.0) ∙ other.0, distinct_keys name c cs e s.1 other.1)

-- keys below a name that are distinct are so behind it
pub distinct_behind : (name : List ℕ) (cs : List Change) → list_all (λ (c : Change). begins name c.key) cs ≡ true → IsDistinct bytes_eq (keys_of cs) → IsDistinct bytes_eq (keys_of (shortened name cs))
distinct_behind name [] all other = other
distinct_behind name (c ∷ cs) all other =
    let s = both_parts _ _ all in
    IsDistinct-cons bytes_eq (behind name c.key) (keys_of (shortened name cs)) (distinct_keys name c cs s.0 s.1 (IsDistinct-head bytes_eq c.key (keys_of cs) other)) (distinct_behind name cs s.1 (IsDistinct-tail bytes_eq c.key (keys_of cs) other))

-- one key more lies below the name
pub below_more : (name : List ℕ) (cs : List Change) (from i : ℕ) (c : Change) (key : List ℕ) → i < length cs → c ≡ get_or cs i c → key ≡ c.key → all_below name (take i cs) from ≡ true → begins name (drop from key) ≡ true
    → all_below name (take (i + 1) cs) from ≡ true
below_more name cs from i c key less is same all more =
    list_all_more (λ (c : Change). begins name (drop from c.key)) cs i c less ∙ ap (λ t. t && begins name (drop from (get_or cs i c).key)) all
    ∙ ap (λ (d : Change). begins name (drop from d.key)) (sym is) ∙ ap (λ k. begins name (drop from k)) (sym same) ∙ more

pub cut_more : (at : ℕ) (cs : List Change) (i : ℕ) (c : Change) (key : List ℕ) → i < length cs → c ≡ get_or cs i c → key ≡ c.key → All (λ (c : Change). IsCharBoundary c.key at) (take i cs) → IsCharBoundary key at
    → All (λ (c : Change). IsCharBoundary c.key at) (take (i + 1) cs)
cut_more at cs i c key less is same all more = All-more (λ (c : Change). IsCharBoundary c.key at) cs i c less all (subst (λ (d : Change). IsCharBoundary d.key at) is (subst (λ k. IsCharBoundary k at) same more))

pub together_one_at : (c : Change) (cs : List Change) (from : ℕ) (parts : List Part) (i : ℕ) (p : Part) → AreMounts parts → 1 < length cs → c ≡ get_or cs 0 c → i < length parts → p ≡ get_or parts i p → begins p.name (drop from c.key) ≡ true
    → are_together (prefixes_of parts) cs from ≡ (all_below p.name cs from && are_together p.prefixes cs (from + (length p.name + 1)))
together_one_at c [] from parts i p are h first less is e = absurd (omega arith)
together_one_at c (d ∷ ds) from parts i p are h first less is e = together_one d ds from parts i p are h less is (ap (λ (r : Change). begins p.name (drop from r.key)) (sym first) ∙ e)

pub together_none_at : (c : Change) (cs : List Change) (from : ℕ) (parts : List Part) → 1 < length cs → c ≡ get_or cs 0 c → list_any (λ (p : Part). begins p.name (drop from c.key)) parts ≡ false → are_together (prefixes_of parts) cs from ≡ false
together_none_at c [] from parts h first none = absurd (omega arith)
together_none_at c (d ∷ ds) from parts h first none = together_none d ds from parts h (ap (λ (r : Change). list_any (λ (p : Part). begins p.name (drop from r.key)) parts) (sym first) ∙ none)

pub one_mount_at : (parts : List Part) (i : ℕ) (p : Part) (c : Change) (cs : List Change) → AreMounts parts → i < length parts → p ≡ get_or parts i p → 0 < length cs → c ≡ get_or cs 0 c → begins p.name c.key ≡ true → are_together (prefixes_of parts) cs 0 ≡ true
    → AreOneMounts p cs
one_mount_at parts i p c [] are less is some first e all = absurd (omega arith)
one_mount_at parts i p c (d ∷ ds) are less is some first e all = one_mount parts i p d ds are less is (ap (λ (r : Change). begins p.name r.key) (sym first) ∙ e) all

pub more_than_none : (n : ℕ) → (n == 0) ≡ false → 0 < n
more_than_none n e = grind (arith, nat_tests)
