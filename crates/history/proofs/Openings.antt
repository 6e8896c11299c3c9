-- Which openings and resizes keep a history legal.
use Rattle.std.proofs.Common.{◌≡◌, ◌≢◌, ℕ, ◌+◌, ◌<◌, ◌^◌, List, [], ◌∷◌, ◌++◌, length, Bool, true, false, cond, Option, Some, None, ◌⊎◌, inl, inr, refl, sym, ap, subst, ◌∙◌, arith, append_assoc, append-nil, eqb-true, eq-eqb, codes, Result, Ok, Err}
use Rattle.std.specs.Prelude.{◌==◌, ◌&&◌, count_by, decimal, filter, filter_map}
use Rattle.std.specs.List.{AllByRecursion, cons_option}
use Rattle.std.proofs.lemmas.Slice.Eq.{bytes_eq-Decides}
use Rattle.std.proofs.lemmas.Grind.{flat_map-append}
use Rattle.std.proofs.lemmas.Fmt.{decimal_injective}
use Rattle.cells.specs.Dense.{DenseCells}
use Rattle.kv_face.specs.Store.{Contents}
use Rattle.chunk_forms.specs.declared.form.Form.{Form}
use Rattle.chunk_forms.specs.declared.form.Form.TheVariants as form
use Rattle.chunk_forms.specs.Metadata.{IsMetadata, shape_of}
use Rattle.history.specs.declared.array.ArrayInfo.{ArrayInfo}
use Rattle.history.specs.declared.array.Home.{Home}
use Rattle.history.specs.declared.array.Home.TheVariants.{Zarr, N5, Zarr3, Local}
use Rattle.history.specs.declared.event.Kind.{Kind}
use Rattle.history.specs.declared.event.Kind.TheVariants.{Opened, Done, Resized, Fault}
use Rattle.history.specs.declared.event.Event.{Event}
use Rattle.history.specs.History.{History}
use Rattle.history.specs.Arrays.{Known, known_after, known_step, known_reshaped, form_of}
use Rattle.history.specs.Chunks.{home_text, keys_text}
use Rattle.history.specs.Touch.{is_key}
use Rattle.history.specs.Legal.{IsLegal, IsLegalKind, IsLegalOpening, IsLegalResize, MayTake, IsApartFrom, AreApart, IsPlaced, IsMount, IsAsKept, begins, is_opening}
use Rattle.history.specs.Places.{location, location_of, opened_array, arrays_of, locations, is_below, clashes, taken, array_at, at_step, reshaped_at}
use Rattle.history.specs.Outcomes.{Outcome, path_taken, mismatch, there, exists, found, not_found, made, making_outcome, home_of, new_info, unless_taken, unless_differs, outcome_at, opening_outcome}
use Rattle.chunk_forms.specs.Made.{form_made}
use Rattle.chunk_forms.specs.Wants.{mismatch_of}
use Rattle.history.specs.Leaves.{Leaf, Stored, nothing, unreadable, readable, location_of_leaf}
use Rattle.history.proofs.Tests.{true_or_false}
use Rattle.history.proofs.Histories.{after-more, each_history, known_after-more, legal_step, legal_more}
use Rattle.history.proofs.Known.{known_split, opened_as, opening_of, fresh_number, some_inj, none_is_none, no_array, opened_le}
use Rattle.history.proofs.Apart.{turned}
use Rattle.history.proofs.Names.{before_separator, no_separator, all_digits, behind}
use Rattle.history.proofs.Ordering.{IsAmong, among_first, among_left, among_right, least_none, kept, filter_map-append, begins_split}
use Rattle.history.proofs.Written.{or_parts}
use Rattle.cells.proofs.Laws.{both}
use Rattle.history.specs.Places.{IsFree}

pub array_at-more : (events : History) (e : Event) (here : List ℕ) → array_at (events ++ e ∷ []) here ≡ at_step here events e.kind (array_at events here)
array_at-more events e here = after-more (λ before f found. at_step here before f.kind found) None events e

not_opened : (b : Bool) (k : Known) (o : Option Known) → cond b (Some k) o ≡ None → (b ≡ false) × (o ≡ None)
not_opened true k o e = absurd (none_is_none k (sym e))
not_opened false k o e = (refl, e)

not_reshaped : (b : Bool) (k l : Known) → cond b (Some k) (Some l) ≡ None → ⊥
not_reshaped true k l e = none_is_none k (sym e)
not_reshaped false k l e = none_is_none l (sym e)

still_none : (b : ℕ) (shape : List ℕ) (o : Option Known) → reshaped_at b shape o ≡ None → o ≡ None
still_none b shape None e = refl
still_none b shape (Some k) e = absurd (not_reshaped (b == k.info.number) _ k e)

-- where no array lies at the location now, none lay there before
none_before : (here : List ℕ) (h : History) (kind : Kind) (o : Option Known) → at_step here h kind o ≡ None → o ≡ None
none_before here h (Opened info) o e = (not_opened (is_key here (location info.home)) _ o e).1
none_before here h (Done line mode ops key) o e = e
none_before here h (Resized b shape) o e = still_none b shape o e
none_before here h (Fault mount) o e = e

key_itself : (text : List ℕ) (o : Option (List ℕ)) → o ≡ Some text → is_key text o ≡ true
key_itself text o e = ap (is_key text) e ∙ (bytes_eq-Decides text text).1 refl

-- a location at which the history has no array is that of none
pub none_there : (here : List ℕ) (events : History) → array_at events here ≡ None → (a : ℕ) (k : Known) → known_after events a ≡ Some k → location k.info.home ≢ Some here
none_there here =
    each_history (λ h. array_at h here ≡ None → (a : ℕ) (k : Known) → known_after h a ≡ Some k → location k.info.home ≢ Some here) (λ none a k is. absurd (no_array a k is))
    (λ h e before none a k is at.
    let now : at_step here h e.kind (array_at h here) ≡ None = sym (array_at-more h e here) ∙ none in
    let old = before (none_before here h e.kind (array_at h here) now) in
    elim (known_split h e a k is) [
      | inl new ↦
          let opened : at_step here h (Opened new.0) (array_at h here) ≡ None = ap (λ kind. at_step here h kind (array_at h here)) (sym new.1) ∙ now in
          let same : location new.0.home ≡ Some here = ap (λ (l : Known). location l.info.home) (sym new.3) ∙ at in
          let clash : true ≡ false = sym (key_itself here (location new.0.home) same) ∙ (not_opened (is_key here (location new.0.home)) _ (array_at h here) opened).0 in
          absurd (cc)
      | inr (inl cut) ↦ old a cut.0 cut.3 (ap (λ (l : Known). location l.info.home) (sym cut.4) ∙ at)
      | inr (inr was) ↦ old a k was at
    ])

-- the array at a location is the one of its number
module _ (start : Contents) (here : List ℕ) where
  opened_there : (h : History) (e : Event) (info : ArrayInfo) (k : Known) (b : Bool) → e.kind ≡ Opened info → IsLegal start h → IsLegalOpening h info → (array_at h here ≡ Some k → known_after h k.info.number ≡ Some k)
      → cond b (Some (opened_as h info)) (array_at h here) ≡ Some k → known_after (h ++ e ∷ []) k.info.number ≡ Some k
  opened_there h e info k true is legal opening before at =
      let same : opened_as h info ≡ k = some_inj (opened_as h info) k at in
      subst (λ (l : Known). known_after (h ++ e ∷ []) l.info.number ≡ Some l) same
      (known_after-more h e info.number ∙ ap (λ kind. known_step info.number h kind (known_after h info.number)) is ∙ ap (λ t. cond t (Some (opened_as h info)) (known_after h info.number)) (eq-eqb info.number info.number refl))
  opened_there h e info k false is legal opening before at =
      let old = before at in
      known_after-more h e k.info.number ∙ ap (λ kind. known_step k.info.number h kind (known_after h k.info.number)) is
      ∙ ap (λ t. cond t (Some (opened_as h info)) (known_after h k.info.number)) (fresh_number start h info k.info.number k legal opening old) ∙ old

  reshaped_known : (b n : ℕ) (t : Bool) (shape : List ℕ) (l k : Known) → cond t (Some (record l { shape = shape })) (Some l) ≡ Some k → (k.info.number ≡ l.info.number) × (cond t (known_reshaped shape (Some l)) (Some l) ≡ Some k)
  reshaped_known b n true shape l k e = (ap (λ (m : Known). m.info.number) (sym (some_inj (record l { shape = shape }) k e)), e)
  reshaped_known b n false shape l k e = (ap (λ (m : Known). m.info.number) (sym (some_inj l k e)), e)

  resized_there : (h : History) (e : Event) (b : ℕ) (shape : List ℕ) (k : Known) (o : Option Known) → e.kind ≡ Resized b shape → ((l : Known) → o ≡ Some l → known_after h l.info.number ≡ Some l) → reshaped_at b shape o ≡ Some k → known_after (h ++ e ∷ []) k.info.number ≡ Some k
  resized_there h e b shape k None is before at = absurd (none_is_none k at)
  resized_there h e b shape k (Some l) is before at =
      let old = before l refl in
      let parts = reshaped_known b l.info.number (b == l.info.number) shape l k at in
      ap (known_after (h ++ e ∷ [])) parts.0 ∙ known_after-more h e l.info.number ∙ ap (λ kind. known_step l.info.number h kind (known_after h l.info.number)) is
      ∙ ap (λ o. cond (b == l.info.number) (known_reshaped shape o) o) old ∙ parts.1

  kept_there : (h : History) (e : Event) (kind : Kind) (k : Known) → e.kind ≡ kind → IsLegal start h → IsLegalKind start h kind → ((l : Known) → array_at h here ≡ Some l → known_after h l.info.number ≡ Some l) → at_step here h kind (array_at h here) ≡ Some k
      → known_after (h ++ e ∷ []) k.info.number ≡ Some k
  kept_there h e (Opened info) k is legal next before at = opened_there h e info k (is_key here (location info.home)) is legal next (before k) at
  kept_there h e (Done line mode ops key) k is legal next before at = known_after-more h e k.info.number ∙ ap (λ kind. known_step k.info.number h kind (known_after h k.info.number)) is ∙ before k at
  kept_there h e (Resized b shape) k is legal next before at = resized_there h e b shape k (array_at h here) is before at
  kept_there h e (Fault mount) k is legal next before at = known_after-more h e k.info.number ∙ ap (λ kind. known_step k.info.number h kind (known_after h k.info.number)) is ∙ before k at

  pub array_at-known : (events : History) → IsLegal start events → (k : Known) → array_at events here ≡ Some k → known_after events k.info.number ≡ Some k
  array_at-known =
      each_history (λ h. IsLegal start h → (k : Known) → array_at h here ≡ Some k → known_after h k.info.number ≡ Some k) (λ legal k at. absurd (none_is_none k at))
      (λ h e before legal k at.
      let parts = legal_step start h e legal in
      kept_there h e e.kind k refl parts.0 parts.1 (before parts.0) (sym (array_at-more h e here) ∙ at))

abbrev opened_of : Event → List ArrayInfo
opened_of e = opened_array e.kind

pub locations-more : (events : History) (e : Event) → locations (events ++ e ∷ []) ≡ locations events ++ filter_map location_of (opened_of e)
locations-more events e =
    ap (filter_map location_of) (flat_map-append opened_of events (e ∷ []) ∙ ap (λ is. arrays_of events ++ is) (append-nil (opened_of e)))
    ∙ filter_map-append location_of (arrays_of events) (opened_of e)

listed_now : (h : History) (e : Event) (t : List ℕ) → IsAmong t (locations h) → IsAmong t (locations (h ++ e ∷ []))
listed_now h e t old = subst (IsAmong t) (sym (locations-more h e)) (among_left t (locations h) (filter_map location_of (opened_of e)) old)

-- an array that is known is listed
pub known_listed : (a : ℕ) (events : History) (k : Known) → known_after events a ≡ Some k → (t : List ℕ) → location k.info.home ≡ Some t → IsAmong t (locations events)
known_listed a =
    each_history (λ h. (k : Known) → known_after h a ≡ Some k → (t : List ℕ) → location k.info.home ≡ Some t → IsAmong t (locations h)) (λ k is. absurd (no_array a k is))
    (λ h e before k is t at.
    elim (known_split h e a k is) [
      | inl new ↦
          let same : location new.0.home ≡ Some t = ap (λ (l : Known). location l.info.home) (sym new.3) ∙ at in
          let here : filter_map location_of (opened_of e) ≡ t ∷ [] = ap (λ kind. filter_map location_of (opened_array kind)) new.1 ∙ ap (λ o. cons_option o []) same in
          subst (IsAmong t) (sym (locations-more h e)) (among_right t (locations h) (filter_map location_of (opened_of e)) (subst (IsAmong t) (sym here) (among_first t [])))
      | inr (inl cut) ↦ listed_now h e t (before cut.0 cut.3 t (ap (λ (l : Known). location l.info.home) (sym cut.4) ∙ at))
      | inr (inr old) ↦ listed_now h e t (before k old t at)
    ])

-- of two texts that a "/" ends, one begins the other where they are the same or it lies above
above_or_same : (us vs : List ℕ) → begins (us ++ 47 ∷ []) (vs ++ 47 ∷ []) ≡ true → (us ≡ vs) ⊎ (begins (us ++ 47 ∷ []) vs ≡ true)
above_or_same [] [] e = inl refl
above_or_same [] (v ∷ vs) e = inr (ap (λ b. b && true) (both (47 == v) true e).0)
above_or_same (u ∷ []) [] e = let parts = both (u == 47) false e in absurd (cc)
above_or_same (u ∷ w ∷ us) [] e = let parts = both (u == 47) false e in absurd (cc)
above_or_same (u ∷ us) (v ∷ vs) e =
    let parts = both (u == v) (begins (us ++ 47 ∷ []) (vs ++ 47 ∷ [])) e in
    elim (above_or_same us vs parts.1) [
      | inl same ↦ let head : u ≡ v = eqb-true u v parts.0 in inl (λ i. head i ∷ same i)
      | inr above ↦ inr (ap (λ b. b && begins (us ++ 47 ∷ []) vs) parts.0 ∙ above)
    ]

not_begun : (us vs : List ℕ) → us ≢ vs → begins (us ++ 47 ∷ []) vs ≡ false → begins (us ++ 47 ∷ []) (vs ++ 47 ∷ []) ≡ false
not_begun us vs ne below =
    elim (true_or_false (begins (us ++ 47 ∷ []) (vs ++ 47 ∷ []))) [
      | inl t ↦ elim (above_or_same us vs t) [ inl same ↦ absurd (ne same) | inr above ↦ (let clash : true ≡ false = sym above ∙ below in absurd (cc)) ]
      | inr f ↦ f
    ]

slash_last : (m p : List ℕ) → (m ++ 47 ∷ p) ++ 47 ∷ [] ≡ m ++ 47 ∷ p ++ 47 ∷ []
slash_last [] p = refl
slash_last (x ∷ m) p = ap (λ ys. x ∷ ys) (slash_last m p)

stored_text : (home : Home) (t : List ℕ) (n : ℕ) → location home ≡ Some t → t ++ 47 ∷ [] ≡ home_text home n
stored_text (Zarr mount path meta) t n is = ap (λ u. u ++ 47 ∷ []) (sym (some_inj (mount ++ 47 ∷ path) t is)) ∙ slash_last mount path
stored_text (N5 mount path meta) t n is = ap (λ u. u ++ 47 ∷ []) (sym (some_inj (mount ++ 47 ∷ path) t is)) ∙ slash_last mount path
stored_text (Zarr3 mount path meta) t n is = ap (λ u. u ++ 47 ∷ []) (sym (some_inj (mount ++ 47 ∷ path) t is)) ∙ slash_last mount path
stored_text (Local start) t n is = absurd (none_is_none t is)

-- a free location lies apart from that of each array
apart_of_free : (events : History) (here place : List ℕ) (a : ℕ) (k : Known) → IsFree events here → known_after events a ≡ Some k → location k.info.home ≡ Some place → AreApart (here ++ 47 ∷ []) (place ++ 47 ∷ [])
apart_of_free events here place a k free is at =
    let listed = known_listed a events k is place at in
    let ne : here ≢ place = λ same. none_there here events free.empty a k is (at ∙ ap Some (sym same)) in
    let apart : clashes here place ≡ false = elim (true_or_false (clashes here place)) [
      | inl t ↦ absurd (least_none (filter (clashes here) (locations events)) place free.alone (kept (clashes here) (locations events) place listed t))
      | inr f ↦ f
    ] in
    let parts = or_parts (is_below here place) (is_below place here) apart in
    record { first = not_begun here place ne parts.0; second = not_begun place here (λ same. ne (sym same)) parts.1 }

joined_rest : (us ws more : List ℕ) → (us ++ 47 ∷ ws) ++ more ≡ us ++ 47 ∷ (ws ++ more)
joined_rest us ws more = append_assoc us (47 ∷ ws) more

-- texts whose parts before the first "/" differ lie apart
apart_first : (us vs rs ss : List ℕ) → AllByRecursion (λ b. b ≢ 47) us → AllByRecursion (λ b. b ≢ 47) vs → us ≢ vs → begins (us ++ 47 ∷ rs) (vs ++ 47 ∷ ss) ≡ false
apart_first us vs rs ss p q ne =
    elim (true_or_false (begins (us ++ 47 ∷ rs) (vs ++ 47 ∷ ss))) [
      | inl t ↦
          let more = begins_split (us ++ 47 ∷ rs) (vs ++ 47 ∷ ss) t in
          absurd (ne (before_separator 47 us vs (rs ++ more.0) ss p q (sym (joined_rest us rs more.0) ∙ sym more.1)).0)
      | inr f ↦ f
    ]

clear : (b : ℕ) → (b == 47) ≡ false → b ≢ 47
clear b e is = let clash : true ≡ false = sym (eq-eqb b 47 is) ∙ e in absurd (cc)

array_text : AllByRecursion (λ b. b ≢ 47) (codes "array")
array_text = (clear 97 refl, (clear 114 refl, (clear 114 refl, (clear 97 refl, (clear 121 refl, tt)))))

-- a stored array's text before the first "/" is its mount
stored_parts : (home : Home) (t : List ℕ) (n : ℕ) → location home ≡ Some t → IsPlaced home → (mount rest : List ℕ) × IsMount mount × (home_text home n ≡ mount ++ 47 ∷ rest)
stored_parts (Zarr mount path meta) t n is placed = (mount, path ++ 47 ∷ [], placed, append_assoc mount (47 ∷ path) (47 ∷ []))
stored_parts (N5 mount path meta) t n is placed = (mount, path ++ 47 ∷ [], placed, append_assoc mount (47 ∷ path) (47 ∷ []))
stored_parts (Zarr3 mount path meta) t n is placed = (mount, path ++ 47 ∷ [], placed, append_assoc mount (47 ∷ path) (47 ∷ []))
stored_parts (Local start) t n is placed = absurd (none_is_none t is)

stored_local : (home : Home) (t : List ℕ) (n m : ℕ) (cells : DenseCells) → location home ≡ Some t → IsPlaced home → AreApart (home_text home n) (home_text (Local cells) m)
stored_local home t n m cells is placed =
    let parts = stored_parts home t n is placed in
    let mount = parts.0 in
    let named = parts.2 in
    let local = decimal m ++ 47 ∷ [] in
    record {
      first = ap (λ u. begins u (home_text (Local cells) m)) parts.3 ∙ apart_first mount (codes "array") parts.1 local named.one_part array_text named.not_local;
      second = ap (begins (home_text (Local cells) m)) parts.3 ∙ apart_first (codes "array") mount local parts.1 array_text named.one_part (λ same. named.not_local (sym same));
    }

local_first : (n m : ℕ) (one other : DenseCells) → n < 2 ^ 64 → m < 2 ^ 64 → n ≢ m → begins (home_text (Local one) n) (home_text (Local other) m) ≡ false
local_first n m one other p q ne =
    elim (true_or_false (begins (home_text (Local one) n) (home_text (Local other) m))) [
      | inl t ↦
          let more = begins_split (home_text (Local one) n) (home_text (Local other) m) t in
          let tail : decimal m ++ 47 ∷ [] ≡ (decimal n ++ 47 ∷ []) ++ more.0 = behind (codes "array/") (decimal m ++ 47 ∷ []) ((decimal n ++ 47 ∷ []) ++ more.0) more.1 in
          let parts = before_separator 47 (decimal m) (decimal n) [] more.0 (no_separator 47 (omega arith) (decimal m) (all_digits m q)) (no_separator 47 (omega arith) (decimal n) (all_digits n p)) (tail ∙ joined_rest (decimal n) [] more.0) in
          absurd (ne (sym (decimal_injective m n q p parts.0)))
      | inr f ↦ f
    ]

-- a home is in a store, or local
home_kind : (home : Home) → ((t : List ℕ) × (location home ≡ Some t)) ⊎ ((cells : DenseCells) × (home ≡ Local cells))
home_kind (Zarr mount path meta) = inl (mount ++ 47 ∷ path, refl)
home_kind (N5 mount path meta) = inl (mount ++ 47 ∷ path, refl)
home_kind (Zarr3 mount path meta) = inl (mount ++ 47 ∷ path, refl)
home_kind (Local cells) = inr (cells, refl)

-- an array's mount may be one
known_placed : (start : Contents) (a : ℕ) (events : History) → IsLegal start events → (k : Known) → known_after events a ≡ Some k → IsPlaced k.info.home
known_placed start a =
    each_history (λ h. IsLegal start h → (k : Known) → known_after h a ≡ Some k → IsPlaced k.info.home) (λ legal k is. absurd (no_array a k is))
    (λ h e before legal k is.
    let parts = legal_step start h e legal in
    elim (known_split h e a k is) [
      | inl new ↦ let opening = opening_of start h e.kind new.0 new.1 parts.1 in subst (λ (l : Known). IsPlaced l.info.home) (sym new.3) opening.placed
      | inr (inl cut) ↦ subst (λ (l : Known). IsPlaced l.info.home) (sym cut.4) (before parts.0 cut.0 cut.3)
      | inr (inr old) ↦ before parts.0 k old
    ])

apart_if_known : (text : List ℕ) (o : Option Known) → ((k : Known) → o ≡ Some k → AreApart text (keys_text k)) → IsApartFrom text o
apart_if_known text None h = tt
apart_if_known text (Some k) h = h k refl

-- a stored array may be opened at a free location
pub stored_opening : (start : Contents) (events : History) (info : ArrayInfo) (here : List ℕ) → IsLegal start events → info.number ≡ count_by is_opening events → location info.home ≡ Some here → IsFree events here → IsPlaced info.home → IsAsKept info info.home → IsLegalOpening events info
stored_opening start events info here legal number at free placed kept = record {
  number = number;
  alone = λ a. apart_if_known (home_text info.home n) (known_after events a) (λ k is.
      elim (home_kind k.info.home) [
        | inl stored ↦
            let apart = apart_of_free events here stored.0 a k free is stored.1 in
            subst (λ u. AreApart u (keys_text k)) (stored_text info.home here n at) (subst (AreApart (here ++ 47 ∷ [])) (stored_text k.info.home stored.0 k.opened stored.1) apart)
        | inr local ↦ subst (λ home. AreApart (home_text info.home n) (home_text home k.opened)) (sym local.1) (stored_local info.home here n k.opened local.0 at placed)
      ]);
  placed = placed;
  kept = kept;
} where
  n : ℕ
  n = length events + 1

-- a local array may be opened, while the numbers of events have 64 bits
pub local_opening : (start : Contents) (events : History) (info : ArrayInfo) (cells : DenseCells) → IsLegal start events → length events + 1 < 2 ^ 64 → info.number ≡ count_by is_opening events → info.home ≡ Local cells → IsAsKept info (Local cells) → IsLegalOpening events info
local_opening start events info cells legal small number is kept = record {
  number = number;
  alone = λ a. apart_if_known (home_text info.home n) (known_after events a) (λ k known.
      subst (λ home. AreApart (home_text home n) (keys_text k)) (sym is)
      (elim (home_kind k.info.home) [
        | inl stored ↦ turned (keys_text k) (home_text (Local cells) n) (stored_local k.info.home stored.0 k.opened n cells stored.1 (known_placed start a events legal k known))
        | inr local ↦
            let low = opened_le a events k known in
            subst (λ home. AreApart (home_text (Local cells) n) (home_text home k.opened)) (sym local.1) (record {
              first = local_first n k.opened cells local.0 small (omega arith) (λ e. absurd (omega arith));
              second = local_first k.opened n local.0 cells (omega arith) small (λ e. absurd (omega arith));
            })
      ]));
  placed = subst IsPlaced (sym is) tt;
  kept = subst (IsAsKept info) (sym is) kept;
} where
  n : ℕ
  n = length events + 1

kept_form : (number : ℕ) (leaf : Leaf) (meta : Form) → IsMetadata meta → (here : List ℕ) → location (home_of leaf.mount leaf.path meta) ≡ Some here → IsAsKept (new_info number leaf meta) (home_of leaf.mount leaf.path meta)
kept_form number leaf (form.Zarr meta) valid here at = record { valid = valid; shape = refl; dtype = refl; fill = refl }
kept_form number leaf (form.N5 meta) valid here at = record { valid = valid; shape = refl; dtype = refl; fill = refl }
kept_form number leaf (form.Zarr3 meta) valid here at = record { valid = valid; shape = refl; dtype = refl; fill = refl }
kept_form number leaf form.Local valid here at = absurd (none_is_none here at)

placed_form : (leaf : Leaf) (meta : Form) → IsMount leaf.mount → IsPlaced (home_of leaf.mount leaf.path meta)
placed_form leaf (form.Zarr meta) mount = mount
placed_form leaf (form.N5 meta) mount = mount
placed_form leaf (form.Zarr3 meta) mount = mount
placed_form leaf form.Local mount = tt

taken_free : (o : Option (List ℕ)) (outcome wanted : Outcome) → ((other : List ℕ) → path_taken other ≢ wanted) → unless_taken o outcome ≡ wanted → (o ≡ None) × (outcome ≡ wanted)
taken_free None outcome wanted ne e = (refl, e)
taken_free (Some other) outcome wanted ne e = absurd (ne other e)

differs_there : (o : Option (List ℕ)) (k : Known) (wanted : Outcome) → ((member : List ℕ) → mismatch member ≢ wanted) → there k ≢ wanted → unless_differs o (there k) ≡ wanted → ⊥
differs_there None k wanted m t e = t e
differs_there (Some member) k wanted m t e = m member e

opened_if : (b : Bool) (one other wanted : Outcome) → (one ≡ wanted → ⊥) → other ≢ wanted → cond b one other ≡ wanted → ⊥
opened_if true one other wanted p q e = p e
opened_if false one other wanted p q e = q e

at_free : (leaf : Leaf) (stored : Stored) (o : Option Known) (wanted : Outcome) → ((member : List ℕ) → mismatch member ≢ wanted) → ((k : Known) → there k ≢ wanted) → exists ≢ wanted → outcome_at leaf stored o ≡ wanted → o ≡ None
at_free leaf stored None wanted m t x e = refl
at_free leaf stored (Some k) wanted m t x e =
    absurd (opened_if leaf.may_open (unless_differs (mismatch_of leaf.want (form_of k.info.home) k.shape) (there k)) exists wanted (differs_there (mismatch_of leaf.want (form_of k.info.home) k.shape) k wanted m (t k)) x e)

-- where an array is to be made, the location is free
pub free_of_made : (events : History) (leaf : Leaf) (stored : Stored) (meta : Form) → opening_outcome events leaf stored ≡ made meta → IsFree events (location_of_leaf leaf)
free_of_made events leaf stored meta e =
    let parts = taken_free (taken events (location_of_leaf leaf)) (outcome_at leaf stored (array_at events (location_of_leaf leaf))) (made meta) (λ other h. cc) e in
    record { alone = parts.0; empty = at_free leaf stored (array_at events (location_of_leaf leaf)) (made meta) (λ member h. cc) (λ k h. cc) (λ h. cc) parts.1 }

-- and so it is where an array of the store is found
pub free_of_found : (events : History) (leaf : Leaf) (stored : Stored) (meta : Form) → opening_outcome events leaf stored ≡ found meta → IsFree events (location_of_leaf leaf)
free_of_found events leaf stored meta e =
    let parts = taken_free (taken events (location_of_leaf leaf)) (outcome_at leaf stored (array_at events (location_of_leaf leaf))) (found meta) (λ other h. cc) e in
    record { alone = parts.0; empty = at_free leaf stored (array_at events (location_of_leaf leaf)) (found meta) (λ member h. cc) (λ k h. cc) (λ h. cc) parts.1 }

making_not : (r : Result Form (List ℕ)) (k : Known) → making_outcome r ≡ there k → ⊥
making_not (Ok meta) k e = absurd (cc)
making_not (Err member) k e = absurd (cc)

differs_not : (o : Option (List ℕ)) (outcome : Outcome) (k : Known) → unless_differs o outcome ≡ there k → outcome ≡ there k
differs_not None outcome k e = e
differs_not (Some member) outcome k e = absurd (cc)

at_there : (leaf : Leaf) (stored : Stored) (o : Option Known) (k : Known) → outcome_at leaf stored o ≡ there k → o ≡ Some k
at_there leaf nothing None k e = absurd (opened_if leaf.may_create (making_outcome (form_made leaf.want)) not_found (there k) (making_not (form_made leaf.want) k) (λ h. cc) e)
at_there leaf (unreadable bytes) None k e = absurd (cc)
at_there leaf (readable meta) None k e =
    absurd (opened_if leaf.may_open (unless_differs (mismatch_of leaf.want meta (shape_of meta)) (found meta)) exists (there k)
    (λ h. let same = differs_not (mismatch_of leaf.want meta (shape_of meta)) (found meta) k h in absurd (cc)) (λ h. cc) e)
at_there leaf stored (Some l) k e = told leaf.may_open e
  where
    told : (b : Bool) → cond b (unless_differs (mismatch_of leaf.want (form_of l.info.home) l.shape) (there l)) exists ≡ there k → Some l ≡ Some k
    told true h = let same = differs_not (mismatch_of leaf.want (form_of l.info.home) l.shape) (there l) k h in cc
    told false h = absurd (cc)

-- an array that is found in the history is one of it
pub known_there : (start : Contents) (events : History) (leaf : Leaf) (stored : Stored) (k : Known) → IsLegal start events → opening_outcome events leaf stored ≡ there k → known_after events k.info.number ≡ Some k
known_there start events leaf stored k legal e =
    let parts = taken_free (taken events (location_of_leaf leaf)) (outcome_at leaf stored (array_at events (location_of_leaf leaf))) (there k) (λ other h. cc) e in
    array_at-known start (location_of_leaf leaf) events legal k (at_there leaf stored (array_at events (location_of_leaf leaf)) k parts.1)

-- the opening of a leaf at a free location keeps the history legal
pub opening_legal : (start : Contents) (events : History) (owner : ℕ) (leaf : Leaf) (meta : Form) → IsLegal start events → IsFree events (location_of_leaf leaf) → IsMount leaf.mount → IsMetadata meta → location (home_of leaf.mount leaf.path meta) ≡ Some (location_of_leaf leaf)
    → IsLegal start (events ++ record { owner = owner; kind = Opened (new_info (count_by is_opening events) leaf meta) } ∷ [])
opening_legal start events owner leaf meta legal free mount valid at =
    legal_more start events (record { owner = owner; kind = Opened (new_info (count_by is_opening events) leaf meta) }) legal
    (stored_opening start events (new_info (count_by is_opening events) leaf meta) (location_of_leaf leaf) legal refl at free (placed_form leaf meta mount) (kept_form (count_by is_opening events) leaf meta valid (location_of_leaf leaf) at))

-- a new shape of a stored array keeps the history legal
pub resize_legal : (start : Contents) (events : History) (owner a : ℕ) (shape : List ℕ) (k : Known) → IsLegal start events → known_after events a ≡ Some k → MayTake k shape → IsLegal start (events ++ record { owner = owner; kind = Resized a shape } ∷ [])
resize_legal start events owner a shape k legal is new = legal_more start events (record { owner = owner; kind = Resized a shape }) legal (subst (λ o. IsLegalResize o shape) (sym is) new)
