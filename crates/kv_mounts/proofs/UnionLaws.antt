-- What the union of the stores' maps has at a key, and after changes.
use Rattle.std.proofs.Common.{◌≡◌, ◌≢◌, ℕ, zero, suc, ◌<◌, List, [], ◌∷◌, ◌++◌, length, get_or, set, map, Bool, true, false, cond, ◌&&◌, Option, Some, None, refl, sym, ap, subst, ◌∙◌, arith, bytes_eq, nat_cmp, is_eq}
use Rattle.std.specs.Prelude.{option_map, option_and_then, IfSome}
use Rattle.std.specs.Option.{option_or}
use Rattle.std.specs.List.{list_all, AllByRecursion, IsDistinct}
use Rattle.std.specs.Cmp.Lexicographic.{slice_cmp}
use Rattle.std.specs.FinMap as finmap
use Rattle.std.specs.FinMap.{find, get-entries, get-from_entries, same_map, nat_cmp-IsAntisymmetric, slice_cmp-IsAntisymmetric}
use Rattle.std.proofs.Math.Seq.{map-set_same}
use Rattle.std.proofs.lemmas.Cmp.{nat_list_cmp_total}
use Rattle.std.proofs.lemmas.Map.Text.{is_eq-slice_cmp}
use Rattle.std.proofs.lemmas.Map.Keys.{IsDistinct-head, IsDistinct-tail}
use Rattle.std.proofs.lemmas.Slice.Eq.{bytes_eq-Decides}
use Rattle.std.proofs.lemmas.List.Elements.{recursion_from_All}
use Rattle.kv_face.specs.Store.{Contents, put_bytes, changed, after}
use Rattle.kv_face.specs.declared.change.Change.{Change}
use Rattle.kv_face.proofs.Laws.{get-put_bytes}
use Rattle.kv_mounts.specs.Parts.{Part, AreMounts, IsMountName, names_of, is_plain, below, begins, behind, shortened}
use Rattle.kv_mounts.specs.Union.{Entries, entries_below, entries_of, union_of}
use Rattle.kv_mounts.proofs.Begins.{begins-is, bytes_eq-any, both_parts, one_name}

-- the bytes that a store has under a key, where it tells its map
abbrev pub own : Option Contents → List ℕ → Option (List ℕ)
own None key = None
own (Some m) key = finmap.get m key

-- what a mount has under a key of all mounts
abbrev pub mine : Part → List ℕ → Option (List ℕ)
mine p key = cond (begins p.name key) (own p.contents (behind p.name key)) None

-- what the mounts have under a key
abbrev pub lookup : List Part → List ℕ → Option (List ℕ)
lookup [] key = None
lookup (p ∷ ps) key = option_or (mine p key) (lookup ps key)

pull : (b : Bool) (v : List ℕ) (a c : Option (List ℕ)) → cond b (Some v) (option_or a c) ≡ option_or (cond b (Some v) a) c
pull true v a c = refl
pull false v a c = refl

find_both : (q : List ℕ) (xs ys : Entries) → find (slice_cmp nat_cmp) q (xs ++ ys) ≡ option_or (find (slice_cmp nat_cmp) q xs) (find (slice_cmp nat_cmp) q ys)
find_both q [] ys = refl
find_both q (x ∷ xs) ys = ap (cond (is_eq (slice_cmp nat_cmp q x.0)) (Some x.1)) (find_both q xs ys) ∙ pull (is_eq (slice_cmp nat_cmp q x.0)) x.1 _ _

either_way : (b : Bool) (o : Option (List ℕ)) → o ≡ cond b o o
either_way true o = refl
either_way false o = refl

nested : (a b : Bool) (v x r : Option (List ℕ)) → cond (a && b) v (cond a x r) ≡ cond a (cond b v x) r
nested true b v x r = refl
nested false b v x r = refl

find_below : (name q : List ℕ) (es : Entries) → find (slice_cmp nat_cmp) q (map (λ (e : List ℕ × List ℕ). (below name e.0, e.1)) es) ≡ cond (begins name q) (find (slice_cmp nat_cmp) (behind name q) es) None
find_below name q [] = either_way (begins name q) None
find_below name q (e ∷ es) =
    let rest = find_below name q es in
    ap (λ t. cond t (Some e.1) (find (slice_cmp nat_cmp) q (map (λ (e : List ℕ × List ℕ). (below name e.0, e.1)) es))) (is_eq-slice_cmp q (below name e.0) ∙ bytes_eq-any name q e.0)
    ∙ ap (cond (begins name q && bytes_eq (behind name q) e.0) (Some e.1)) rest
    ∙ nested (begins name q) (bytes_eq (behind name q) e.0) (Some e.1) (find (slice_cmp nat_cmp) (behind name q) es) None
    ∙ ap (λ t. cond (begins name q) (cond t (Some e.1) (find (slice_cmp nat_cmp) (behind name q) es)) None) (sym (is_eq-slice_cmp (behind name q) e.0))

-- the entries of mounts of which the first has a map, and the others have entries
split : (name : List ℕ) (o : Option Contents) (r : Option Entries) (es : Entries) → option_and_then (λ m. option_map (λ fs. entries_below name m ++ fs) r) o ≡ Some es
    → (m : Contents) × (fs : Entries) × (o ≡ Some m) × (r ≡ Some fs) × (es ≡ entries_below name m ++ fs)
split name None r es e = cc
split name (Some m) None es e = cc
split name (Some m) (Some fs) es e = (m, fs, refl, refl, cc)

find-lookup : (parts : List Part) (es : Entries) → entries_of parts ≡ Some es → (q : List ℕ) → find (slice_cmp nat_cmp) q es ≡ lookup parts q
find-lookup [] es e q = let none : es ≡ [] = cc in ap (find (slice_cmp nat_cmp) q) none
find-lookup (p ∷ ps) es e q =
    let s = split p.name p.contents (entries_of ps) es e in
    ap (find (slice_cmp nat_cmp) q) s.4 ∙ find_both q (entries_below p.name s.0) s.1
    ∙ ap (λ o. option_or o (find (slice_cmp nat_cmp) q s.1)) (find_below p.name q (finmap.entries s.0) ∙ ap (λ o. cond (begins p.name q) o None) (sym (get-entries s.0 (behind p.name q)) ∙ ap (λ o. own o (behind p.name q)) (sym s.2)))
    ∙ ap (option_or (mine p q)) (find-lookup ps s.1 s.3 q)

-- the entries of which a union is made
entries_in : (o : Option Entries) (m : Contents) → option_map (λ es. finmap.from_entries es) o ≡ Some m → (es : Entries) × (o ≡ Some es) × (m ≡ finmap.from_entries es)
entries_in None m e = cc
entries_in (Some es) m e = (es, refl, cc)

-- the union has at a key what the mounts have there
pub get-union_of : (parts : List Part) (m : Contents) → union_of parts ≡ Some m → (q : List ℕ) → finmap.get m q ≡ lookup parts q
get-union_of parts m e q =
    let s = entries_in (entries_of parts) m e in
    ap (λ n. finmap.get n q) s.2 ∙ get-from_entries nat_list_cmp_total s.0 q ∙ find-lookup parts s.0 s.1 q

-- no name of these is equal to this one, and all are plain
pub record AreOthers (name : List ℕ) (parts : List Part) : Type 0 where
  pub plain : AllByRecursion IsMountName (names_of parts)
  pub others : AllByRecursion (λ n. bytes_eq name n ≡ false) (names_of parts)

-- where two texts differ, they aren't equal
unequal : (a b : List ℕ) → bytes_eq a b ≡ false → a ≢ b
unequal a b e is = let wrong : true ≡ false = sym ((bytes_eq-Decides a b).1 is) ∙ e in cc wrong

not_both : (a b key : List ℕ) (t : Bool) → begins b key ≡ t → (list_all is_plain a ≡ true) × (list_all is_plain b ≡ true) → bytes_eq a b ≡ false → begins a key ≡ true → begins b key ≡ false
not_both a b key true e plain other is = absurd (unequal a b other (one_name a b key plain.0 plain.1 is e))
not_both a b key false e plain other is = e

-- where one name begins a key, no other does
pub apart : (name key : List ℕ) (parts : List Part) → IsMountName name → AreOthers name parts → begins name key ≡ true → AllByRecursion (λ (p : Part). begins p.name key ≡ false) parts
apart name key [] is others e = tt
apart name key (p ∷ ps) is others e = (
  not_both name p.name key _ refl (is.plain, others.plain.0.plain) others.others.0 e,
  apart name key ps is (record { plain = others.plain.1; others = others.others.1 }) e,
)

nothing_mine : (p : Part) (key : List ℕ) → begins p.name key ≡ false → mine p key ≡ None
nothing_mine p key e = ap (λ t. cond t (own p.contents (behind p.name key)) None) e

all_mine : (p : Part) (key : List ℕ) → begins p.name key ≡ true → mine p key ≡ own p.contents (behind p.name key)
all_mine p key e = ap (λ t. cond t (own p.contents (behind p.name key)) None) e

pub nothing : (key : List ℕ) (parts : List Part) → AllByRecursion (λ (p : Part). begins p.name key ≡ false) parts → lookup parts key ≡ None
nothing key [] none = refl
nothing key (p ∷ ps) none = ap (λ o. option_or o (lookup ps key)) (nothing_mine p key none.0) ∙ nothing key ps none.1

or_none : (o : Option (List ℕ)) → option_or o None ≡ o
or_none None = refl
or_none (Some v) = refl

-- one of them, and none of the others, begins the key
pub begins_at : (key : List ℕ) (parts : List Part) (i : ℕ) (p : Part) → i < length parts → p ≡ get_or parts i p → AllByRecursion (λ (p : Part). begins p.name key ≡ false) parts → begins p.name key ≡ false
begins_at key [] i p less is none = absurd (omega arith)
begins_at key (x ∷ ps) zero p less is none = ap (λ (r : Part). begins r.name key) is ∙ none.0
begins_at key (x ∷ ps) (suc i) p less is none = begins_at key ps i p (omega arith) is none.1

pub head_apart : (key : List ℕ) (x : Part) (ps : List Part) (i : ℕ) (p : Part) (t : Bool) → begins x.name key ≡ t → IsMountName x.name → AreOthers x.name ps → i < length ps → p ≡ get_or ps i p → begins p.name key ≡ true → begins x.name key ≡ false
head_apart key x ps i p true e is others less at begun = let wrong : true ≡ false = sym begun ∙ begins_at key ps i p less at (apart x.name key ps is others e) in cc wrong
head_apart key x ps i p false e is others less at begun = e

-- names that are plain and distinct
pub record AreNames (parts : List Part) : Type 0 where
  pub plain : AllByRecursion IsMountName (names_of parts)
  pub distinct : IsDistinct bytes_eq (names_of parts)

-- a key is looked up in the one mount whose name begins it
pub lookup-at : (key : List ℕ) (parts : List Part) (i : ℕ) (p : Part) → AreNames parts → i < length parts → p ≡ get_or parts i p → begins p.name key ≡ true → lookup parts key ≡ own p.contents (behind p.name key)
lookup-at key [] i p names less is e = absurd (omega arith)
lookup-at key (x ∷ ps) zero p names less is e =
    let begun : begins x.name key ≡ true = ap (λ (r : Part). begins r.name key) (sym is) ∙ e in
    let others : AreOthers x.name ps = record { plain = names.plain.1; others = IsDistinct-head bytes_eq x.name (names_of ps) names.distinct } in
    ap (option_or (mine x key)) (nothing key ps (apart x.name key ps names.plain.0 others begun)) ∙ or_none (mine x key) ∙ ap (λ r. mine r key) (sym is) ∙ all_mine p key e
lookup-at key (x ∷ ps) (suc i) p names less is e =
    let others : AreOthers x.name ps = record { plain = names.plain.1; others = IsDistinct-head bytes_eq x.name (names_of ps) names.distinct } in
    let rest : AreNames ps = record { plain = names.plain.1; distinct = IsDistinct-tail bytes_eq x.name (names_of ps) names.distinct } in
    ap (λ o. option_or o (lookup ps key)) (nothing_mine x key (head_apart key x ps i p _ refl names.plain.0 others (omega arith) is e)) ∙ lookup-at key ps i p rest (omega arith) is e

-- another key is looked up as before where one mount is changed
lookup-other : (key : List ℕ) (parts : List Part) (i : ℕ) (p : Part) → p.name ≡ (get_or parts i p).name → begins p.name key ≡ false → lookup (set parts i p) key ≡ lookup parts key
lookup-other key [] i p same e = refl
lookup-other key (x ∷ ps) zero p same e =
    ap (λ o. option_or o (lookup ps key)) (nothing_mine p key e ∙ sym (nothing_mine x key (ap (λ n. begins n key) (sym same) ∙ e)))
lookup-other key (x ∷ ps) (suc i) p same e = ap (option_or (mine x key)) (lookup-other key ps i p same e)

-- the mounts of a union tell their maps
told : (parts : List Part) (i : ℕ) (p : Part) (es : Entries) → entries_of parts ≡ Some es → i < length parts → p ≡ get_or parts i p → (m : Contents) × (p.contents ≡ Some m)
told [] i p es e less is = absurd (omega arith)
told (x ∷ ps) zero p es e less is = let s = split x.name x.contents (entries_of ps) es e in (s.0, ap (λ (r : Part). r.contents) is ∙ s.2)
told (x ∷ ps) (suc i) p es e less is = let s = split x.name x.contents (entries_of ps) es e in told ps i p s.1 s.3 (omega arith) is

joined : (name : List ℕ) (o : Option Contents) (r : Option Entries) (m : Contents) (fs : Entries) → o ≡ Some m → r ≡ Some fs → option_and_then (λ m. option_map (λ fs. entries_below name m ++ fs) r) o ≡ Some (entries_below name m ++ fs)
joined name o r m fs e f = ap (option_and_then (λ m. option_map (λ fs. entries_below name m ++ fs) r)) e ∙ ap (option_map (λ fs. entries_below name m ++ fs)) f

-- they still tell them where one is changed
told_after : (parts : List Part) (i : ℕ) (p : Part) (es : Entries) (m : Contents) → entries_of parts ≡ Some es → p.contents ≡ Some m → (fs : Entries) × (entries_of (set parts i p) ≡ Some fs)
told_after [] i p es m e is = (es, e)
told_after (x ∷ ps) zero p es m e is = let s = split x.name x.contents (entries_of ps) es e in (entries_below p.name m ++ s.1, joined p.name p.contents (entries_of ps) m s.1 is s.3)
told_after (x ∷ ps) (suc i) p es m e is =
    let s = split x.name x.contents (entries_of ps) es e in
    let rest = told_after ps i p s.1 m s.3 is in
    (entries_below x.name s.0 ++ rest.0, joined x.name x.contents (entries_of (set ps i p)) s.0 rest.0 s.2 rest.1)

-- changes below a name change what is behind it, and nothing else
after-below : (name q : List ℕ) (cs : List Change) (m n : Contents) (r : Option (List ℕ)) → list_all (λ (c : Change). begins name c.key) cs ≡ true → finmap.get m q ≡ cond (begins name q) (finmap.get n (behind name q)) r
    → finmap.get (after m cs) q ≡ cond (begins name q) (finmap.get (after n (shortened name cs)) (behind name q)) r
after-below name q [] m n r all e = e
after-below name q (c ∷ cs) m n r all e =
    let parts = both_parts _ _ all in
    let tests : bytes_eq q c.key ≡ (begins name q && bytes_eq (behind name q) (behind name c.key)) = ap (bytes_eq q) (begins-is name c.key parts.0) ∙ bytes_eq-any name q (behind name c.key) in
    after-below name q cs (changed m c) (put_bytes n (behind name c.key) c.bytes) r parts.1
    (get-put_bytes m c.key c.bytes q ∙ ap (λ t. cond t c.bytes (finmap.get m q)) tests ∙ ap (cond (begins name q && bytes_eq (behind name q) (behind name c.key)) c.bytes) e
    ∙ nested (begins name q) (bytes_eq (behind name q) (behind name c.key)) c.bytes (finmap.get n (behind name q)) r
    ∙ ap (λ o. cond (begins name q) o r) (sym (get-put_bytes n (behind name c.key) c.bytes (behind name q))))

same_contents : (m n : Contents) → ((q : List ℕ) → finmap.get m q ≡ finmap.get n q) → m ≡ n
same_contents m n is = same_map nat_list_cmp_total (slice_cmp-IsAntisymmetric nat_cmp-IsAntisymmetric) m n is

pub names_from : (parts : List Part) → AreMounts parts → AreNames parts
names_from parts are = record { plain = recursion_from_All IsMountName (names_of parts) are.named; distinct = are.distinct }

own_of : (o : Option Contents) (m : Contents) (key : List ℕ) → o ≡ Some m → own o key ≡ finmap.get m key
own_of o m key e = ap (λ o. own o key) e

-- what a mount's store answers is what the union has
got_told : (parts : List Part) (i : ℕ) (p : Part) (key : List ℕ) (x : Option (List ℕ)) (u : Option Contents) → union_of parts ≡ u → AreMounts parts → i < length parts → p ≡ get_or parts i p → begins p.name key ≡ true
    → IfSome p.contents (λ m. x ≡ finmap.get m (behind p.name key)) → IfSome u (λ m. x ≡ finmap.get m key)
got_told parts i p key x None e are less is begun got = tt
got_told parts i p key x (Some m) e are less is begun got =
    let s = entries_in (entries_of parts) m e in
    let t = told parts i p s.0 s.1 less is in
    let at : x ≡ finmap.get t.0 (behind p.name key) = subst (λ (o : Option Contents). IfSome o (λ m. x ≡ finmap.get m (behind p.name key))) t.1 got in
    at ∙ sym (get-union_of parts m e key ∙ lookup-at key parts i p (names_from parts are) less is begun ∙ own_of p.contents t.0 (behind p.name key) t.1)

pub got : (parts : List Part) (i : ℕ) (p : Part) (key : List ℕ) (x : Option (List ℕ)) → AreMounts parts → i < length parts → p ≡ get_or parts i p → begins p.name key ≡ true
    → IfSome p.contents (λ m. x ≡ finmap.get m (behind p.name key)) → IfSome (union_of parts) (λ m. x ≡ finmap.get m key)
got parts i p key x are less is begun h = got_told parts i p key x (union_of parts) refl are less is begun h

pub length-set : (parts : List Part) (i : ℕ) (p : Part) → length (set parts i p) ≡ length parts
length-set [] i p = refl
length-set (x ∷ ps) zero p = refl
length-set (x ∷ ps) (suc i) p = ap suc (length-set ps i p)

get_or-set : (parts : List Part) (i : ℕ) (p : Part) → i < length parts → p ≡ get_or (set parts i p) i p
get_or-set [] i p less = absurd (omega arith)
get_or-set (x ∷ ps) zero p less = refl
get_or-set (x ∷ ps) (suc i) p less = get_or-set ps i p (omega arith)

-- the names stay where one mount is changed and keeps its own
pub names_of-set : (parts : List Part) (i : ℕ) (p q : Part) → q ≡ get_or parts i q → p.name ≡ q.name → names_of (set parts i p) ≡ names_of parts
names_of-set parts i p q is same = map-set_same (λ (r : Part). r.name) parts i p q (same ∙ ap (λ (r : Part). r.name) is)

-- a place has the same whatever stands for it past the end
is_at : (parts : List Part) (i : ℕ) (p q : Part) → p ≡ get_or parts i p → i < length parts → p ≡ get_or parts i q
is_at [] i p q is less = absurd (omega arith)
is_at (x ∷ ps) zero p q is less = is
is_at (x ∷ ps) (suc i) p q is less = is_at ps i p q is (omega arith)

-- what the changed union has at a key
by_name : (parts : List Part) (i : ℕ) (p q : Part) (cs : List Change) (m n : Contents) (key : List ℕ) (u : Contents) (b : Bool) → begins p.name key ≡ b → AreMounts parts → i < length parts → p ≡ get_or parts i p → q.name ≡ p.name
    → list_all (λ (c : Change). begins p.name c.key) cs ≡ true → q.contents ≡ Some (after n (shortened p.name cs)) → union_of parts ≡ Some m → p.contents ≡ Some n → union_of (set parts i q) ≡ Some u → AreNames (set parts i q) → i < length (set parts i q)
    → finmap.get u key ≡ finmap.get (after m cs) key
by_name parts i p q cs m n key u true b are less is same all new e tells union names there =
    let mine_begins : begins q.name key ≡ true = ap (λ x. begins x key) same ∙ b in
    let old : finmap.get m key ≡ cond (begins p.name key) (finmap.get n (behind p.name key)) (finmap.get m key) =
    get-union_of parts m e key ∙ lookup-at key parts i p (names_from parts are) less is b ∙ own_of p.contents n (behind p.name key) tells ∙ ap (λ t. cond t (finmap.get n (behind p.name key)) (finmap.get m key)) (sym b) in
    get-union_of (set parts i q) u union key ∙ lookup-at key (set parts i q) i q names there (get_or-set parts i q less) mine_begins
    ∙ own_of q.contents (after n (shortened p.name cs)) (behind q.name key) new ∙ ap (λ x. finmap.get (after n (shortened p.name cs)) (behind x key)) same
    ∙ sym (after-below p.name key cs m n (finmap.get m key) all old ∙ ap (λ t. cond t (finmap.get (after n (shortened p.name cs)) (behind p.name key)) (finmap.get m key)) b)
by_name parts i p q cs m n key u false b are less is same all new e tells union names there =
    let old : finmap.get m key ≡ cond (begins p.name key) (finmap.get n (behind p.name key)) (finmap.get m key) = ap (λ t. cond t (finmap.get n (behind p.name key)) (finmap.get m key)) (sym b) in
    get-union_of (set parts i q) u union key ∙ lookup-other key parts i q (same ∙ ap (λ (r : Part). r.name) (is_at parts i p q is less)) (ap (λ x. begins x key) same ∙ b)
    ∙ sym (get-union_of parts m e key)
    ∙ sym (after-below p.name key cs m n (finmap.get m key) all old ∙ ap (λ t. cond t (finmap.get (after n (shortened p.name cs)) (behind p.name key)) (finmap.get m key)) b)

-- a union after changes below one mount's name
after_told : (parts : List Part) (i : ℕ) (p q : Part) (cs : List Change) (u : Option Contents) → union_of parts ≡ u → AreMounts parts → i < length parts → p ≡ get_or parts i p → q.name ≡ p.name
    → list_all (λ (c : Change). begins p.name c.key) cs ≡ true → IfSome p.contents (λ m. q.contents ≡ Some (after m (shortened p.name cs)))
    → IfSome u (λ m. union_of (set parts i q) ≡ Some (after m cs))
after_told parts i p q cs None e are less is same all done = tt
after_told parts i p q cs (Some m) e are less is same all done =
    let s = entries_in (entries_of parts) m e in
    let t = told parts i p s.0 s.1 less is in
    let new : q.contents ≡ Some (after t.0 (shortened p.name cs)) = subst (λ (o : Option Contents). IfSome o (λ m. q.contents ≡ Some (after m (shortened p.name cs)))) t.1 done in
    let f = told_after parts i q s.0 (after t.0 (shortened p.name cs)) s.1 new in
    let union : union_of (set parts i q) ≡ Some (finmap.from_entries f.0) = ap (option_map (λ es. finmap.from_entries es)) f.1 in
    let kept = names_of-set parts i q p is same in
    let old_names = names_from parts are in
    let names : AreNames (set parts i q) = record { plain = subst (λ ns. AllByRecursion IsMountName ns) (sym kept) old_names.plain; distinct = subst (λ ns. IsDistinct bytes_eq ns) (sym kept) old_names.distinct } in
    let there : i < length (set parts i q) = omega (arith, length-set parts i q) in
    union ∙ ap Some (same_contents (finmap.from_entries f.0) (after m cs)
    (λ key. by_name parts i p q cs m t.0 key (finmap.from_entries f.0) _ refl are less is same all new e t.1 union names there))

pub after_changes : (parts : List Part) (i : ℕ) (p q : Part) (cs : List Change) → AreMounts parts → i < length parts → p ≡ get_or parts i p → q.name ≡ p.name
    → list_all (λ (c : Change). begins p.name c.key) cs ≡ true → IfSome p.contents (λ m. q.contents ≡ Some (after m (shortened p.name cs)))
    → IfSome (union_of parts) (λ m. union_of (set parts i q) ≡ Some (after m cs))
after_changes parts i p q cs are less is same all done = after_told parts i p q cs (union_of parts) refl are less is same all done
