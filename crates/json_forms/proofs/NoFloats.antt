-- What is built of parts with no float has none, so that it may be written.
use Rattle.std.proofs.Common.{◌≡◌, ℕ, ℤ, pos, negsuc, List, [], ◌∷◌, ◌||◌, map, Bool, true, false, true≢false, Ordering, Less, Equal, Greater, refl}
use Rattle.std.specs.List.{AllByRecursion}
use Rattle.std.specs.Ordering.{match_ordering, nat_cmp}
use Rattle.std.specs.Cmp.Lexicographic.{slice_cmp}
use Rattle.serde_json.specs.Data.{Data, Members, no_members, member, put}
use Rattle.serde_json.specs.Written.{has_float, members_have_float}
use Rattle.json_forms.specs.Numbers.{natural, integer}
use Rattle.json_forms.specs.Lists.{list_of}
use Rattle.json_forms.specs.Members.{members_from, object_of}

pub has_float-integer : (z : ℤ) → has_float (integer z) ≡ false
has_float-integer (pos n) = refl
has_float-integer (negsuc n) = refl

-- a list of parts that f makes
pub has_float-list_of : {A : Type 0} (f : A → Data) → ((x : A) → has_float (f x) ≡ false) → (xs : List A) → has_float (list_of (map f xs)) ≡ false
has_float-list_of f none [] = refl
has_float-list_of f none (x ∷ xs) = rw (none x) (has_float-list_of f none xs)

pub has_float-naturals : (ns : List ℕ) → has_float (list_of (map natural ns)) ≡ false
has_float-naturals ns = has_float-list_of natural (λ n. refl) ns

pub has_float-integers : (zs : List ℤ) → has_float (list_of (map integer zs)) ≡ false
has_float-integers zs = has_float-list_of integer has_float-integer zs

by_order : (o : Ordering) (a b c : Members) → members_have_float a ≡ false → members_have_float b ≡ false → members_have_float c ≡ false → members_have_float (match_ordering o a b c) ≡ false
by_order Less a b c x y z = x
by_order Equal a b c x y z = y
by_order Greater a b c x y z = z

neither : (a b : Bool) → (a || b) ≡ false → (a ≡ false) × (b ≡ false)
neither true b e = absurd (true≢false e)
neither false b e = (refl, e)

-- one member more
pub members_have_float-put : (k : List ℕ) (d : Data) (ms : Members) → has_float d ≡ false → members_have_float ms ≡ false → members_have_float (put k d ms) ≡ false
members_have_float-put k d no_members none nones = rw none refl
members_have_float-put k d (member l e ms) none nones =
    let parts = neither (has_float e) (members_have_float ms) nones in
    by_order (slice_cmp nat_cmp k l) (member k d (member l e ms)) (member l d ms) (member l e (put k d ms))
    (rw (none, nones) refl) (rw (none, parts.1) refl) (rw (parts.0, members_have_float-put k d ms none parts.1) refl)

-- an object of members with no float
pub has_float-object_of : (ms : List (List ℕ × Data)) → AllByRecursion (λ m. has_float m.1 ≡ false) ms → has_float (object_of ms) ≡ false
has_float-object_of [] none = refl
has_float-object_of (m ∷ ms) none = members_have_float-put m.0 m.1 (members_from ms) none.0 (has_float-object_of ms none.1)
