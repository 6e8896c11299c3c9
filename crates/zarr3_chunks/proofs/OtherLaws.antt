-- Whether further members need not be understood.
use Rattle.std.proofs.Common.{◌≡◌, ℕ, List, [], ◌∷◌, codes, Bool, true, false, ◌&&◌, cond, Option, Some, None, Ordering, Less, Equal, Greater, refl, sym, ap, ◌∙◌}
use Rattle.std.specs.Prelude.{filter, not, option_and_then}
use Rattle.std.specs.Ordering.{nat_cmp, match_ordering}
use Rattle.std.specs.Cmp.Lexicographic.{slice_cmp}
use Rattle.std.proofs.lemmas.Cmp.{nat_list_cmp_total, tied_itself}
use Rattle.std.proofs.lemmas.Map.Lookups.{exact_bytes}
use Rattle.serde_json.specs.Data.{Data, Members, null, boolean, number, string, array, object, no_members, member}
use Rattle.serde_json.specs.Find.{get, get_member, as_bool}
use Rattle.meta_forms.specs.Members.{names_of, is_among, least_name}
use Rattle.zarr3_chunks.specs.Described.{known_members, NeedNotBeUnderstood}
use Rattle.zarr3_chunks.specs.Read.{says_no, is_passed, unread_member}

-- the least of no name is none
pub nothing_left : (names : List (List ℕ)) → least_name names ≡ None → names ≡ []
nothing_left [] is = refl
nothing_left (k ∷ ks) is = absurd (let no_such : ⊥ = cc in no_such)

head_fails : {A : Type 0} (b : Bool) (x : A) (xs : List A) → cond b (x ∷ xs) xs ≡ [] → (b ≡ false) × (xs ≡ [])
head_fails true x xs is = absurd (let no_such : ⊥ = cc in no_such)
head_fails false x xs is = (refl, is)

here_or_later : (test : List ℕ → Bool) (k l : List ℕ) (e f : Data) (o : Ordering) (later : Option Data) → slice_cmp nat_cmp k l ≡ o → test l ≡ false
    → (later ≡ Some f → test k ≡ false) → match_ordering o later (Some e) later ≡ Some f → test k ≡ false
here_or_later test k l e f Less later same head rest is = rest is
here_or_later test k l e f Equal later same head rest is = ap test (exact_bytes k l same) ∙ head
here_or_later test k l e f Greater later same head rest is = rest is

-- where no name passes the test, no member's name does
none_passes : (test : List ℕ → Bool) (ms : Members) (k : List ℕ) (f : Data) → filter test (names_of ms) ≡ [] → get_member k ms ≡ Some f → test k ≡ false
none_passes test no_members k f none found = absurd (let no_such : ⊥ = cc in no_such)
none_passes test (member l e ms) k f none found =
    let head = head_fails (test l) l (filter test (names_of ms)) none in
    here_or_later test k l e f (slice_cmp nat_cmp k l) (get_member k ms) refl head.0 (none_passes test ms k f head.1) found

found_at_least : (k : List ℕ) (e f : Data) (o : Ordering) (later : Option Data) → later ≡ Some f → (g : Data) × (match_ordering o later (Some e) later ≡ Some g)
found_at_least k e f Less later is = (f, is)
found_at_least k e f Equal later is = (e, refl)
found_at_least k e f Greater later is = (f, is)

empty_from : {A : Type 0} (b : Bool) (x : A) (xs : List A) → b ≡ false → xs ≡ [] → cond b (x ∷ xs) xs ≡ []
empty_from true x xs is none = absurd (let no_such : ⊥ = cc in no_such)
empty_from false x xs is none = none

-- and the other way
no_name_passes : (test : List ℕ → Bool) (ms : Members) → ((k : List ℕ) (f : Data) → get_member k ms ≡ Some f → test k ≡ false) → filter test (names_of ms) ≡ []
no_name_passes test no_members each = refl
no_name_passes test (member l e ms) each =
    empty_from (test l) l (filter test (names_of ms))
    (each l e (ap (λ o. match_ordering o (get_member l ms) (Some e) (get_member l ms)) (tied_itself nat_list_cmp_total l)))
    (no_name_passes test ms (λ k f is. let more = found_at_least k e f (slice_cmp nat_cmp k l) (get_member k ms) is in each k more.0 more.1))

-- a member would have to be understood
abbrev is_unread : Data → List ℕ → Bool
is_unread d name = not (is_among name known_members) && not (is_passed name d)

passed_from : (known passed : Bool) → (not known && not passed) ≡ false → known ≡ false → passed ≡ true
passed_from known true is other = refl
passed_from true false is other = absurd (let no_such : ⊥ = cc in no_such)
passed_from false false is other = absurd (let no_such : ⊥ = cc in no_such)

flag_found : (o : Option Data) → says_no (option_and_then as_bool o) ≡ true → o ≡ Some (boolean false)
flag_found None is = absurd (let no_such : ⊥ = cc in no_such)
flag_found (Some null) is = absurd (let no_such : ⊥ = cc in no_such)
flag_found (Some (boolean true)) is = absurd (let no_such : ⊥ = cc in no_such)
flag_found (Some (boolean false)) is = refl
flag_found (Some (number n)) is = absurd (let no_such : ⊥ = cc in no_such)
flag_found (Some (string s)) is = absurd (let no_such : ⊥ = cc in no_such)
flag_found (Some (array ds)) is = absurd (let no_such : ⊥ = cc in no_such)
flag_found (Some (object ms)) is = absurd (let no_such : ⊥ = cc in no_such)

-- each further member need not be understood
abbrev pub Others : Data → Type 0
Others d = (name : List ℕ) (value : Data) → get name d ≡ Some value → is_among name known_members ≡ false → NeedNotBeUnderstood value

pub others_from_none : (d : Data) → unread_member d ≡ None → Others d
others_from_none null none name value found other = absurd (let no_such : ⊥ = cc in no_such)
others_from_none (boolean b) none name value found other = absurd (let no_such : ⊥ = cc in no_such)
others_from_none (number n) none name value found other = absurd (let no_such : ⊥ = cc in no_such)
others_from_none (string s) none name value found other = absurd (let no_such : ⊥ = cc in no_such)
others_from_none (array ds) none name value found other = absurd (let no_such : ⊥ = cc in no_such)
others_from_none (object ms) none name value found other =
    let fails = none_passes (is_unread (object ms)) ms name value (nothing_left (filter (is_unread (object ms)) (names_of ms)) none) found in
    let passes = passed_from (is_among name known_members) (is_passed name (object ms)) fails other in
    flag_found (get (codes "must_understand") value)
    (ap (λ o. says_no (option_and_then as_bool (option_and_then (get (codes "must_understand")) o))) (sym found) ∙ passes)

fails_from : (known passed : Bool) → (known ≡ false → passed ≡ true) → (not known && not passed) ≡ false
fails_from true passed rule = refl
fails_from false true rule = refl
fails_from false false rule = absurd (let clash : false ≡ true = rule refl in let no_such : ⊥ = cc in no_such)

pub none_from_others : (d : Data) → Others d → unread_member d ≡ None
none_from_others null others = refl
none_from_others (boolean b) others = refl
none_from_others (number n) others = refl
none_from_others (string s) others = refl
none_from_others (array ds) others = refl
none_from_others (object ms) others =
    ap least_name (no_name_passes (is_unread (object ms)) ms
    (λ k f found. fails_from (is_among k known_members) (is_passed k (object ms))
    (λ other. ap (λ o. says_no (option_and_then as_bool (option_and_then (get (codes "must_understand")) o))) found
    ∙ ap (λ o. says_no (option_and_then as_bool o)) (others k f found other))))
