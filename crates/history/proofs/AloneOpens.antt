-- The leaves of a session alone are opened one right behind the other.
use Rattle.std.proofs.Common.{◌≡◌, ◌≢◌, ℕ, ◌+◌, ◌≤◌, List, [], ◌∷◌, ◌++◌, length, take, drop, Bool, true, false, cond, Option, Some, None, Result, Ok, Err, refl, sym, ap, subst, ◌∙◌, append-nil, arith}
use Rattle.std.specs.FinMap as finmap
use Rattle.std.proofs.Math.Decide.{dec_le}
use Rattle.std.proofs.Math.Nat.{lt_of_not-le}
use Rattle.std.proofs.lemmas.List.{take-append-drop, length-take-le, drop_all}
use Rattle.chunk_forms.specs.Made.{form_made}
use Rattle.chunk_forms.specs.Wants.{mismatch_of}
use Rattle.chunk_forms.specs.declared.form.Form.{Form}
use Rattle.kv_face.specs.Store.{Contents}
use Rattle.stack_driver.specs.References.{Reference}
use Rattle.history.specs.declared.array.ArrayInfo.{ArrayInfo}
use Rattle.history.specs.declared.event.Event.{Event}
use Rattle.history.specs.History.{History}
use Rattle.history.specs.Answers.{Text, Body}
use Rattle.history.specs.Arrays.{Known, form_of}
use Rattle.history.specs.Leaves.{Leaf, Stored, nothing, unreadable, readable, IsStoredAs, location_of_leaf, metadata_key_asked}
use Rattle.history.specs.Lines.{SpecLeaf, given, stored}
use Rattle.history.specs.OpenRows.{AreOpened, no_leaf, known_leaf, new_leaf, given_leaf, IsNew, read_there, made_here, IsRefusal, next_array, new_ref, given_info}
use Rattle.history.specs.Outcomes.{Outcome, path_taken, bad_metadata, exists, mismatch, there, found, not_found, bad_want, made, IsOutcome, unless_differs, making_outcome, outcome_at, unless_taken, opening_outcome, new_info}
use Rattle.history.specs.Own.{Numbered, numbered, opened_event}
use Rattle.history.specs.Places.{array_at, taken}
use Rattle.history.specs.SingleOpen.{Begun, with_known, with_new, opened_then, by_outcome, leaves_from, refused_from, outcome_alone, refusal_of}
use Rattle.history.proofs.Alone.{number_first, number_rest, drop_next, no_more}

abbrev pub none_stored : Contents
none_stored = finmap.empty

pub no_bytes : (key bytes : List ℕ) → finmap.get none_stored key ≡ Some bytes → ⊥
no_bytes key bytes held = let empty : finmap.get none_stored key ≡ None = finmap.get-empty _ key in cc

-- over a store that starts empty nothing is stored, where the history hasn't the array
stored_nothing : (leaf : Leaf) (s : Stored) → IsStoredAs leaf.want (finmap.get none_stored (metadata_key_asked leaf)) s → s ≡ nothing
stored_nothing leaf nothing is = refl
stored_nothing leaf (unreadable text) is = absurd (no_bytes (metadata_key_asked leaf) text is.0)
stored_nothing leaf (readable meta) (text, held, asked, spells) = absurd (no_bytes (metadata_key_asked leaf) text held)

-- so what comes of a leaf is what comes of it alone
pub outcome_is : (start : Contents) (events : History) (leaf : Leaf) (outcome : Outcome) → start ≡ finmap.empty → IsOutcome start events leaf outcome → outcome_alone events leaf ≡ outcome
outcome_is start events leaf outcome empty is = by_array (array_at events (location_of_leaf leaf)) refl
  where
    by_array : (o : Option Known) → array_at events (location_of_leaf leaf) ≡ o → outcome_alone events leaf ≡ outcome
    by_array None e =
        ap (opening_outcome events leaf) (sym (stored_nothing leaf is.stored (subst (λ s. IsStoredAs leaf.want (finmap.get s (metadata_key_asked leaf)) is.stored) empty (is.read e)))) ∙ sym is.same
    by_array (Some k) e =
        ap (λ o. unless_taken (taken events (location_of_leaf leaf)) (outcome_at leaf nothing o)) e ∙ sym (ap (λ o. unless_taken (taken events (location_of_leaf leaf)) (outcome_at leaf is.stored o)) e) ∙ sym is.same

-- what was added lies behind the moment of the first leaf
pub first_after : {start : Contents} {owner : ℕ} {now : History} {at fin : ℕ} {leaves rest : List SpecLeaf} {refs : List Reference} {own : List Numbered} (cur : ℕ) → AreOpened start owner now at leaves refs own fin rest → cur ≤ at → at ≤ length now
    → own ≡ numbered (cur + 1) (drop cur now) → at ≡ cur
first_after {now = now} {at = at} cur no_leaf low high is = let end : cur ≡ length now = no_more cur now (none (drop cur now) is) (omega (arith, low, high)) in omega arith
  where
    none : (es : List Event) → [] ≡ numbered (cur + 1) es → es ≡ []
    none [] same = refl
    none (e ∷ es) same = absurd (cc)
first_after cur (known_leaf later k up within is_found rest) low high is = let same : later ≡ cur = first_after cur rest (omega (arith, low, up)) within is in omega (arith, up, low)
first_after {now = now} cur (new_leaf later meta up within is_new rest) low high is = let same : later + 1 ≡ cur + 1 = number_first _ _ (cur + 1) (drop cur now) is in omega (arith, up, low)
first_after {now = now} cur (given_leaf later up within rest) low high is = let same : later + 1 ≡ cur + 1 = number_first _ _ (cur + 1) (drop cur now) is in omega (arith, up, low)

-- the leaf that is left first, if there is one, is refused
abbrev pub IsStopped : History → List SpecLeaf → Type 0
IsStopped events [] = Unit {0}
IsStopped events (leaf ∷ rest) = (owner : ℕ) → leaves_from owner (leaf ∷ rest) events ≡ refused_from (leaf ∷ rest)

pub refused_stops : (owner at : ℕ) (events : History) (node : Text) (leaf : Leaf) (leaves : List SpecLeaf) (numbers : List ℕ) (answer : Body) (next : History → Begun) (outcome : Outcome) → IsRefusal node leaf at numbers outcome answer → by_outcome owner events leaf leaves next outcome ≡ refused_from leaves
refused_stops owner at events node leaf leaves numbers answer next (path_taken other) is = refl
refused_stops owner at events node leaf leaves numbers answer next (bad_metadata bytes) is = refl
refused_stops owner at events node leaf leaves numbers answer next exists is = refl
refused_stops owner at events node leaf leaves numbers answer next (mismatch member) is = refl
refused_stops owner at events node leaf leaves numbers answer next (there k) is = absurd is
refused_stops owner at events node leaf leaves numbers answer next (found meta) is = absurd is
refused_stops owner at events node leaf leaves numbers answer next not_found is = refl
refused_stops owner at events node leaf leaves numbers answer next (bad_want member) is = refl
refused_stops owner at events node leaf leaves numbers answer next (made meta) is = absurd is

stopped : (owner : ℕ) (now : History) (cur : ℕ) (rest : List SpecLeaf) → IsStopped now rest → take cur now ≡ now → leaves_from owner rest (take cur now) ≡ refused_from rest
stopped owner now cur [] stops all = refl
stopped owner now cur (leaf ∷ rest) stops all = ap (leaves_from owner (leaf ∷ rest)) all ∙ stops owner

pub take_to_end : (cur : ℕ) (now : History) → drop cur now ≡ [] → take cur now ≡ now
take_to_end cur now none = sym (append-nil (take cur now)) ∙ ap (λ es. take cur now ++ es) (sym none) ∙ take-append-drop cur now

pub nothing_left : (k : ℕ) (es : List Event) → [] ≡ numbered k es → es ≡ []
nothing_left k [] same = refl
nothing_left k (e ∷ es) same = absurd (cc)

pub room_for : {o : Numbered} {os : List Numbered} (at : ℕ) (now : History) → o ∷ os ≡ numbered (at + 1) (drop at now) → at ≤ length now → at + 1 ≤ length now
room_for {o} {os} at now is within = room (drop at now) refl is
  where
    room : (es : List Event) → drop at now ≡ es → o ∷ os ≡ numbered (at + 1) es → at + 1 ≤ length now
    room [] none same = absurd (cc)
    room (e ∷ es) some same = elim (dec_le (length now) at) [ yes low ↦ (let none : drop at now ≡ [] = drop_all at now low in absurd (cc)) | no high ↦ (let above = lt_of_not-le high in omega arith) ]

new_at : (owner : ℕ) (now : History) (at : ℕ) (leaf : SpecLeaf) (leaves rest : List SpecLeaf) (refs : List Reference) (own : List Numbered) (info : ArrayInfo) (es : List Event) → drop at now ≡ es → at ≤ length now
    → leaves_from owner (leaf ∷ leaves) (take at now) ≡ opened_then owner (take at now) info (leaves_from owner leaves)
    → record { number = at + 1; event = opened_event owner info } ∷ own ≡ numbered (at + 1) es
    → (own ≡ numbered (at + 1 + 1) (drop (at + 1) now) → leaves_from owner leaves (take (at + 1) now) ≡ record { refs = refs; own = own; rest = rest })
    → leaves_from owner (leaf ∷ leaves) (take at now) ≡ record { refs = new_ref (take at now) info ∷ refs; own = record { number = at + 1; event = opened_event owner info } ∷ own; rest = rest }
new_at owner now at leaf leaves rest refs own info [] left within opens is more = absurd (cc)
new_at owner now at leaf leaves rest refs own info (y ∷ ys) left within opens is more =
    let h : History = take at now in
    let e : Event = opened_event owner info in
    let parts = number_rest (record { number = at + 1; event = e }) own (at + 1) y ys is in
    let next = drop_next at now y ys left in
    let grown : h ++ e ∷ [] ≡ take (at + 1) now = ap (λ x. h ++ x ∷ []) parts.0 ∙ sym next.1 in
    let size : length h ≡ at = length-take-le at now within in
    let inner : leaves_from owner leaves (h ++ e ∷ []) ≡ record { refs = refs; own = own; rest = rest } = ap (leaves_from owner leaves) grown ∙ more (parts.1 ∙ ap (numbered (at + 1 + 1)) (sym next.0)) in
    opens ∙ ap (with_new owner h info) inner ∙ ap (λ n. record { refs = new_ref h info ∷ refs; own = record { number = n + 1; event = e } ∷ own; rest = rest }) size

-- the first leaf gives a new array
pub opens_new : (start : Contents) (owner : ℕ) (events : History) (node : Text) (leaf : Leaf) (leaves : List SpecLeaf) (meta : Form) → start ≡ finmap.empty → IsNew start events leaf meta
    → leaves_from owner (stored node leaf ∷ leaves) events ≡ opened_then owner events (new_info (next_array events) leaf meta) (leaves_from owner leaves)
opens_new start owner events node leaf leaves meta empty (read_there is) = ap (by_outcome owner events leaf (stored node leaf ∷ leaves) (leaves_from owner leaves)) (outcome_is start events leaf (found meta) empty is)
opens_new start owner events node leaf leaves meta empty (made_here is) = ap (by_outcome owner events leaf (stored node leaf ∷ leaves) (leaves_from owner leaves)) (outcome_is start events leaf (made meta) empty is)

-- the leaves are those that the session alone opens
pub leaves_same : {start : Contents} {owner : ℕ} {now : History} {cur fin : ℕ} {leaves rest : List SpecLeaf} {refs : List Reference} {own : List Numbered} → start ≡ finmap.empty → AreOpened start owner now cur leaves refs own fin rest → cur ≤ length now
    → own ≡ numbered (cur + 1) (drop cur now) → IsStopped now rest → leaves_from owner leaves (take cur now) ≡ record { refs = refs; own = own; rest = rest }
leaves_same {owner = owner} {now = now} {cur = cur} {leaves = leaves} empty no_leaf low is stops = stopped owner now cur leaves stops (take_to_end cur now (nothing_left (cur + 1) (drop cur now) is))
leaves_same {start = start} {owner = owner} {now = now} {cur = cur} {own = own} empty (known_leaf {node = node} {leaf = leaf} {leaves = leaves} at k up within is_found rest) low is stops =
    let here : at ≡ cur = first_after cur rest up within is in
    let h : History = take at now in
    let inner = leaves_same empty rest within (subst (λ n. own ≡ numbered (n + 1) (drop n now)) (sym here) is) stops in
    ap (λ n. leaves_from owner (stored node leaf ∷ leaves) (take n now)) (sym here) ∙ ap (by_outcome owner h leaf (stored node leaf ∷ leaves) (leaves_from owner leaves)) (outcome_is start h leaf (there k) empty is_found) ∙ ap (with_known k) inner
leaves_same {start = start} {owner = owner} {now = now} {cur = cur} {rest = last} {own = own} empty (new_leaf {node = node} {leaf = leaf} {leaves = leaves} {refs = refs} {own = others} at meta up within is_new rest) low is stops =
    let next : at + 1 ≡ cur + 1 = number_first _ _ (cur + 1) (drop cur now) is in
    let here : at ≡ cur = omega arith in
    let is_at = subst (λ n. own ≡ numbered (n + 1) (drop n now)) (sym here) is in
    let room : at + 1 ≤ length now = room_for at now is_at within in
    ap (λ n. leaves_from owner (stored node leaf ∷ leaves) (take n now)) (sym here)
    ∙ new_at owner now at (stored node leaf) leaves last refs others (new_info (next_array (take at now)) leaf meta) (drop at now) refl within (opens_new start owner (take at now) node leaf leaves meta empty is_new) is_at (λ more. leaves_same empty rest room more stops)
leaves_same {owner = owner} {now = now} {cur = cur} {rest = last} {own = own} empty (given_leaf {numbers = numbers} {leaves = leaves} {refs = refs} {own = others} at up within rest) low is stops =
    let next : at + 1 ≡ cur + 1 = number_first _ _ (cur + 1) (drop cur now) is in
    let here : at ≡ cur = omega arith in
    let is_at = subst (λ n. own ≡ numbered (n + 1) (drop n now)) (sym here) is in
    let room : at + 1 ≤ length now = room_for at now is_at within in
    ap (λ n. leaves_from owner (given numbers ∷ leaves) (take n now)) (sym here)
    ∙ new_at owner now at (given numbers) leaves last refs others (given_info (next_array (take at now)) numbers) (drop at now) refl within refl is_at (λ more. leaves_same empty rest room more stops)

pub rest_at : {o : Numbered} {os : List Numbered} (at : ℕ) (now : History) → o ∷ os ≡ numbered (at + 1) (drop at now) → os ≡ numbered (at + 1 + 1) (drop (at + 1) now)
rest_at {o} {os} at now is = rest (drop at now) refl is
  where
    rest : (es : List Event) → drop at now ≡ es → o ∷ os ≡ numbered (at + 1) es → os ≡ numbered (at + 1 + 1) (drop (at + 1) now)
    rest [] none same = absurd (cc)
    rest (e ∷ es) some same = (number_rest o os (at + 1) e es same).1 ∙ ap (numbered (at + 1 + 1)) (sym (drop_next at now e es some).0)

-- once they are opened, all that happened was seen
pub last_is : {start : Contents} {owner : ℕ} {now : History} {cur fin : ℕ} {leaves rest : List SpecLeaf} {refs : List Reference} {own : List Numbered} → AreOpened start owner now cur leaves refs own fin rest → cur ≤ length now → own ≡ numbered (cur + 1) (drop cur now)
    → fin ≡ length now
last_is {now = now} {cur = cur} no_leaf low is = no_more cur now (nothing_left (cur + 1) (drop cur now) is) low
last_is {now = now} {cur = cur} {own = own} (known_leaf at k up within is_found rest) low is = last_is rest within (subst (λ n. own ≡ numbered (n + 1) (drop n now)) (sym (first_after cur rest up within is)) is)
last_is {now = now} {cur = cur} {own = own} (new_leaf at meta up within is_new rest) low is =
    let next : at + 1 ≡ cur + 1 = number_first _ _ (cur + 1) (drop cur now) is in
    let here : at ≡ cur = omega arith in
    let is_at = subst (λ n. own ≡ numbered (n + 1) (drop n now)) (sym here) is in
    last_is rest (room_for at now is_at within) (rest_at at now is_at)
last_is {now = now} {cur = cur} {own = own} (given_leaf at up within rest) low is =
    let next : at + 1 ≡ cur + 1 = number_first _ _ (cur + 1) (drop cur now) is in
    let here : at ≡ cur = omega arith in
    let is_at = subst (λ n. own ≡ numbered (n + 1) (drop n now)) (sym here) is in
    last_is rest (room_for at now is_at within) (rest_at at now is_at)

-- the answer to a leaf that is refused is its answer alone
pub refusal_is : (node : Text) (leaf : Leaf) (at : ℕ) (numbers : List ℕ) (outcome : Outcome) (answer : Body) → ((bytes : List ℕ) → outcome ≢ bad_metadata bytes) → IsRefusal node leaf at numbers outcome answer → refusal_of node leaf at numbers outcome ≡ Some answer
refusal_is node leaf at numbers (path_taken other) answer good is = ap Some (sym is)
refusal_is node leaf at numbers (bad_metadata bytes) answer good is = absurd (good bytes refl)
refusal_is node leaf at numbers exists answer good is = ap Some (sym is)
refusal_is node leaf at numbers (mismatch member) answer good is = ap Some (sym is)
refusal_is node leaf at numbers (there k) answer good is = absurd is
refusal_is node leaf at numbers (found meta) answer good is = absurd is
refusal_is node leaf at numbers not_found answer good is = ap Some (sym is)
refusal_is node leaf at numbers (bad_want member) answer good is = ap Some (sym is)
refusal_is node leaf at numbers (made meta) answer good is = absurd is

-- no bytes are bad where the store starts empty
pub never_bad : (events : History) (leaf : Leaf) (bytes : List ℕ) → outcome_alone events leaf ≢ bad_metadata bytes
never_bad events leaf bytes = by (taken events (location_of_leaf leaf)) (array_at events (location_of_leaf leaf))
  where
    making : (r : Result Form (List ℕ)) → making_outcome r ≢ bad_metadata bytes
    making (Ok meta) = λ is. absurd (cc)
    making (Err member) = λ is. absurd (cc)

    there_or : (o : Option (List ℕ)) (k : Known) → unless_differs o (there k) ≢ bad_metadata bytes
    there_or None k = λ is. absurd (cc)
    there_or (Some member) k = λ is. absurd (cc)

    either : (b : Bool) (x y : Outcome) → x ≢ bad_metadata bytes → y ≢ bad_metadata bytes → cond b x y ≢ bad_metadata bytes
    either true x y p q = p
    either false x y p q = q

    by : (t : Option (List ℕ)) (o : Option Known) → unless_taken t (outcome_at leaf nothing o) ≢ bad_metadata bytes
    by (Some other) o = λ is. absurd (cc)
    by None None = either leaf.may_create (making_outcome (form_made leaf.want)) not_found (making (form_made leaf.want)) (λ is. absurd (cc))
    by None (Some k) = either leaf.may_open (unless_differs (mismatch_of leaf.want (form_of k.info.home) k.shape) (there k)) exists (there_or (mismatch_of leaf.want (form_of k.info.home) k.shape) k) (λ is. absurd (cc))
