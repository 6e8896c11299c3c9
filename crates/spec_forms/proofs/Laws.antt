-- What crates above rest on: a result that is right tells its parts, and a leaf is sound.
use Rattle.std.proofs.Common.{◌≡◌, ◌∙◌, ℕ, Bool, true, false, cond, List, Option, Some, None, Result, Ok, Err, refl, sym, ap, subst}
use Rattle.std.specs.Prelude.{codes, not, ◌||◌, option_and_then, unwrap_or, is_some}
use Rattle.serde_json.specs.Data.{Data}
use Rattle.serde_json.specs.Find.{get, as_object, as_str}
use Rattle.cells.proofs.Laws.{some_from_then}
use Rattle.want_forms.specs.declared.Want.{Want}
use Rattle.want_forms.specs.declared.Want.TheVariants as want
use Rattle.json_forms.specs.Members.{is_among, least_unknown}
use Rattle.meta_forms.specs.Judged.{text_in}
use Rattle.meta_forms.specs.declared.error.Fault.{Fault}
use Rattle.want_forms.specs.Wants.{want_of}
use Rattle.want_forms.specs.declared.format.Format.{Format}
use Rattle.spec_forms.specs.declared.error.SpecError.{SpecError}
use Rattle.spec_forms.specs.declared.error.SpecError.TheVariants as spec
use Rattle.spec_forms.specs.declared.kvstore.Location.{Location}
use Rattle.spec_forms.specs.declared.leaf.SpecLeaf.{SpecLeaf}
use Rattle.spec_forms.specs.Faults.{◌>>=◌, none_left, none_before, in_turn, judged_in_turn, at_path, joined}
use Rattle.spec_forms.specs.Kvstores.{judged_mount, judged_path, right_path, kvstore_members, below_in, location_in, location_at}
use Rattle.spec_forms.specs.Leaves.{IsSoundLeaf}
use Rattle.spec_forms.specs.Members.{judged_dtype, judged_flag, required, false_at}
use Rattle.spec_forms.specs.Numbers.{numbers_in, right, right_dtype, given_leaf, given_at}
use Rattle.spec_forms.specs.Paths.{is_path, path_of, without_slash}
use Rattle.spec_forms.specs.Stored.{may_create, judged_open, asked_at, stored_leaf, own_dtype, asked_in, stored_at}
use Rattle.spec_forms.proofs.GivenLaws.{given_dense_at, given_small_at}

abbrev ok_as : {A : Type 0} → A → Result A SpecError
ok_as a = Ok a

-- the step before a right result was right
pub ok-of : {A B : Type 0} (r : Result A SpecError) (f : A → Result B SpecError) (b : B) → (r >>= f) ≡ Ok b → (a : A) × ((r ≡ Ok a) × (f a ≡ Ok b))
ok-of (Ok a) f b e = (a, (refl, e))
ok-of (Err x) f b e = absurd cc

only : {A : Type 0} (a b : A) → ok_as a ≡ Ok b → a ≡ b
only a b e = cc

some-only : {A : Type 0} (a b : A) → Some a ≡ Some b → a ≡ b
some-only a b e = cc

-- what was read of a member in its turn
pub turn-of : {A : Type 0} (path : List ℕ) (unknown : Option (List ℕ)) (name : List ℕ) (given : Result A SpecError) (a : A) → in_turn path unknown name given ≡ Ok a → given ≡ Ok a
unfolding in_turn
turn-of path unknown name given a e = (ok-of (none_before path unknown name) (λ _. given) a e).1.1

right-of : {A : Type 0} (path : List ℕ) (judged : Result A Fault) (a : A) → at_path path judged ≡ Ok a → judged ≡ Ok a
unfolding at_path
right-of path (Ok x) a e = let same : x ≡ a = cc in ap Ok same
right-of path (Err fault) a e = absurd cc

-- what was judged of a member in its turn
pub judged-of : {A : Type 0} (path : List ℕ) (unknown : Option (List ℕ)) (name : List ℕ) (judged : Result A Fault) (a : A) → judged_in_turn path unknown name judged ≡ Ok a → judged ≡ Ok a
unfolding judged_in_turn
judged-of path unknown name judged a e = right-of (joined path name) judged a (turn-of path unknown name (at_path (joined path name) judged) a e)

-- a right result comes where the test holds
if-ok : {A : Type 0} {E : Type 0} (test : Bool) (a b : A) (fault : E) → cond test (Ok a) (Err fault) ≡ Ok b → (test ≡ true) × (a ≡ b)
if-ok true a b fault e = (refl, (let same : a ≡ b = cc in same))
if-ok false a b fault e = absurd cc

mount-among : (names : List (List ℕ)) (o : Option (List ℕ)) (mount : List ℕ) → judged_mount names o ≡ Ok mount → is_among mount names ≡ true
mount-among names None mount e = absurd cc
mount-among names (Some text) mount e =
    let p = if-ok (is_among text names) text mount _ e in subst (λ m. is_among m names ≡ true) p.1 p.0

path-kept : (text path : List ℕ) → path_of text ≡ Some path → is_path path ≡ true
path-kept text path e =
    let p = some_from_then (is_path (without_slash text)) (Some (without_slash text)) path e in
    subst (λ t. is_path t ≡ true) (some-only (without_slash text) path p.1) p.0

path-right : (o : Option (List ℕ)) (path : List ℕ) → right_path (option_and_then path_of o) ≡ Ok path → is_path path ≡ true
path-right None path e = absurd cc
path-right (Some text) path e = by (path_of text) refl e
  where
    by : (p : Option (List ℕ)) → path_of text ≡ p → right_path p ≡ Ok path → is_path path ≡ true
    by None is r = absurd cc
    by (Some q) is r = let same : q ≡ path = cc in path-kept text path (is ∙ ap Some same)

-- the mount and the path of a location keep the rules
abbrev IsPlaced : List (List ℕ) → Location → Type 0
IsPlaced names l = (is_among l.mount names ≡ true) × (is_path l.path ≡ true)

placed-in : (names : List (List ℕ)) (path : List ℕ) (d : Data) (l : Location) → location_in names path d ≡ Ok l → IsPlaced names l
unfolding location_in below_in
placed-in names path d l e =
    let one = ok-of (at_path (joined path (codes "driver")) (judged_mount names (text_in (codes "driver") d))) _ l e in
    let two = ok-of (below_in path (least_unknown kvstore_members d) d) _ l one.1.1 in
    let three = ok-of (judged_in_turn path (least_unknown kvstore_members d) (codes "path") (judged_path (text_in (codes "path") d))) _ two.0 two.1.0 in
    let four = ok-of (none_left path (least_unknown kvstore_members d)) _ two.0 three.1.1 in
    let mount = mount-among names (text_in (codes "driver") d) one.0 (right-of (joined path (codes "driver")) _ one.0 one.1.0) in
    let below = only three.0 two.0 four.1.1 in
    let path_is = path-right (text_in (codes "path") d) three.0 (judged-of path (least_unknown kvstore_members d) (codes "path") _ three.0 three.1.0) in
    subst (IsPlaced names) (only (record { mount = one.0; path = two.0 }) l two.1.1) (mount, subst (λ p. is_path p ≡ true) below path_is)

by-kind : (names : List (List ℕ)) (path : List ℕ) (d : Data) (l : Location) (object text : Bool)
    → cond object (location_in names path d) (cond text (Err (spec.Unsupported path)) (Err (spec.BadSpec path))) ≡ Ok l → IsPlaced names l
by-kind names path d l true text e = placed-in names path d l e
by-kind names path d l false true e = absurd cc
by-kind names path d l false false e = absurd cc

placed : (names : List (List ℕ)) (path : List ℕ) (o : Option Data) (l : Location) → location_at names path o ≡ Ok l → IsPlaced names l
unfolding location_at
placed names path None l e = absurd cc
placed names path (Some d) l e = by-kind names path d l (is_some (as_object d)) (is_some (as_str d)) e

-- it may be opened or made
may-one : (create : Option Bool) (r : Result (Option Bool) Fault) (may : Bool) → judged_open create r ≡ Ok may → (may || may_create create) ≡ true
may-one create (Err fault) may e = absurd cc
may-one create (Ok said) may e =
    let p = if-ok (unwrap_or said (not (may_create create)) || may_create create) (unwrap_or said (not (may_create create))) may _ e in
    subst (λ m. (m || may_create create) ≡ true) p.1 p.0

stored-is : (names : List (List ℕ)) (l : Location) (w : Want) (may made : Bool) → IsPlaced names l → (may || made) ≡ true → IsSoundLeaf names (stored_leaf l w may made)
stored-is names l (want.Zarr w) may made p one = record { mounted = p.0; placed = p.1; allowed = one }
stored-is names l (want.N5 w) may made p one = record { mounted = p.0; placed = p.1; allowed = one }
stored-is names l (want.Zarr3 w) may made p one = record { mounted = p.0; placed = p.1; allowed = one }

-- the leaf of a stored array is sound
pub stored_sound : (names : List (List ℕ)) (format : Format) (path : List ℕ) (unknown : Option (List ℕ)) (d : Data) (leaf : SpecLeaf)
    → stored_at names format path unknown d ≡ Ok leaf → IsSoundLeaf names leaf
unfolding stored_at asked_in
stored_sound names format path unknown d leaf e =
    let one = ok-of (false_at (codes "assume_metadata") path unknown d) _ leaf e in
    let two = ok-of (judged_in_turn path unknown (codes "create") (judged_flag (get (codes "create") d))) _ leaf one.1.1 in
    let three = ok-of (false_at (codes "delete_existing") path unknown d) _ leaf two.1.1 in
    let four = ok-of (judged_in_turn path unknown (codes "dtype") (own_dtype format d)) _ leaf three.1.1 in
    let five = ok-of (in_turn path unknown (codes "kvstore") (location_at names (joined path (codes "kvstore")) (get (codes "kvstore") d))) _ leaf four.1.1 in
    let six = ok-of (asked_in format path unknown d two.0 four.0) _ leaf five.1.1 in
    let asks = ok-of (in_turn path unknown (codes "metadata") (asked_at (joined path (codes "metadata")) (want_of format four.0 (get (codes "metadata") d)))) _ six.0 six.1.0 in
    let may = ok-of (judged_in_turn path unknown (codes "open") (judged_open two.0 (judged_flag (get (codes "open") d)))) _ six.0 asks.1.1 in
    let opened = may-one two.0 (judged_flag (get (codes "open") d)) may.0 (judged-of path unknown (codes "open") _ may.0 may.1.0) in
    let at = placed names (joined path (codes "kvstore")) (get (codes "kvstore") d) five.0 (turn-of path unknown (codes "kvstore") _ five.0 five.1.0) in
    let asked = only (record { want = asks.0; may_open = may.0 }) six.0 may.1.1 in
    subst (IsSoundLeaf names) (only (stored_leaf five.0 six.0.want six.0.may_open (may_create two.0)) leaf six.1.1)
    (stored-is names five.0 six.0.want six.0.may_open (may_create two.0) at (ap (λ a. a.may_open || may_create two.0) (sym asked) ∙ opened))

some-right : {A : Type 0} (o : Option A) (x : A) → right o ≡ Ok x → o ≡ Some x
some-right None x e = absurd cc
some-right (Some y) x e = let same : y ≡ x = cc in ap Some same

-- the leaf of numbers that are given is sound
pub given_sound : (names : List (List ℕ)) (path : List ℕ) (unknown : Option (List ℕ)) (d : Data) (leaf : SpecLeaf) → given_at path unknown d ≡ Ok leaf → IsSoundLeaf names leaf
unfolding given_at
given_sound names path unknown d leaf e =
    let one = ok-of (judged_in_turn path unknown (codes "array") (right (option_and_then (numbers_in (right_dtype (judged_dtype (get (codes "dtype") d)))) (get (codes "array") d)))) _ leaf e in
    let two = ok-of (false_at (codes "assume_metadata") path unknown d) _ leaf one.1.1 in
    let three = ok-of (false_at (codes "delete_existing") path unknown d) _ leaf two.1.1 in
    let four = ok-of (judged_in_turn path unknown (codes "dtype") (required (judged_dtype (get (codes "dtype") d)))) _ leaf three.1.1 in
    let numbers = some-right _ one.0 (judged-of path unknown (codes "array") _ one.0 one.1.0) in
    let dtype = judged-of path unknown (codes "dtype") _ four.0 four.1.0 in
    subst (IsSoundLeaf names) (only (given_leaf one.0 four.0) leaf four.1.1) (record {
      dense = given_dense_at (judged_dtype (get (codes "dtype") d)) (get (codes "array") d) four.0 one.0 dtype numbers;
      small = given_small_at (judged_dtype (get (codes "dtype") d)) (get (codes "array") d) one.0 numbers;
    })
