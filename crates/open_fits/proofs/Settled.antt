-- Which leaves of an open line were opened, by the outline of the history.
use Rattle.std.proofs.Common.{◌≡◌, ℕ, zero, suc, ◌-◌, List, [], ◌∷◌, ◌++◌, length, take, Bool, true, false, cond, Option, Some, None, Result, Ok, Err, refl, sym, ap, subst, ◌∙◌, arith}
use Rattle.std.specs.Prelude.{option_map, map, max}
use Rattle.std.specs.List.{AllByRecursion, slice_get}
use Rattle.std.specs.FinMap as finmap
use Rattle.read_fits.specs.Homes.{reference_of}
use Rattle.read_fits.proofs.Laws.{known_reference}
use Rattle.cells.specs.Shapes.{IsShape, IsChunkShape}
use Rattle.chunk_forms.specs.Made.{form_made}
use Rattle.chunk_forms.specs.declared.form.Form.{Form}
use Rattle.stack_driver.specs.References.{Reference, IsReference}
use Rattle.history.specs.declared.array.ArrayInfo.{ArrayInfo}
use Rattle.history.specs.declared.array.Home.{Home}
use Rattle.history.specs.declared.array.Home.TheVariants.{Zarr, N5, Zarr3, Local}
use Rattle.history.specs.declared.event.Event.{Event}
use Rattle.history.specs.declared.event.Kind.{Kind}
use Rattle.history.specs.declared.event.Kind.TheVariants.{Opened, Done, Resized, Fault}
use Rattle.history.specs.Answers.{Text}
use Rattle.history.specs.Arrays.{Known, is_local, ref_of}
use Rattle.history.specs.History.{History}
use Rattle.history.specs.Leaves.{Leaf, location_of_leaf}
use Rattle.history.specs.Legal.{IsLegal}
use Rattle.history.specs.Lines.{given, stored}
use Rattle.history.specs.OpenRows.{next_array, given_info}
use Rattle.history.specs.Outcomes.{there, not_found, made, making_outcome, new_info}
use Rattle.history.specs.Places.{location, at_step, array_at, IsFree}
use Rattle.history.specs.SingleOpen.{outcome_alone}
use Rattle.history.specs.Touch.{is_key}
use Rattle.history.proofs.Laws.{each_history, array_at-more, legal_take, opened_then, opened_as, some_inj, none_is_none}
use Rattle.read_fits.specs.Outline.{outline}
use Rattle.read_fits.proofs.Laws.{location_new}
use Rattle.read_fits.proofs.Laws.{array_at-outline, count-outline}
use Rattle.read_fits.proofs.Laws.{there_at}
use Rattle.read_fits.proofs.Laws.{lies_here}
use Rattle.read_fits.specs.Takings.{before, taking, made_info, opened_info, ref_of_leaf}
use Rattle.read_fits.specs.Windows.{Window}
use Rattle.read_fits.specs.Asked.{leaf_asked}
use Rattle.read_fits.specs.Still.{IsStill, AreStill}
use Rattle.read_fits.specs.Outcomes.{IsOpenedAt}
use Rattle.read_fits.specs.declared.Asked.{Asked}
use Rattle.read_fits.proofs.Laws.{made_stored}
use Rattle.read_fits.specs.OpenedViews.{IsGivenAt}
use Rattle.open_fits.specs.Settling.{IsSettledAs, IsFoundAs}
use Rattle.open_fits.proofs.Outcomes.{front, as_outcome, of_outcome, outcome_by_outline, outcome_of_free, finds_later, finds_earlier, free_before, take_front}

-- an array that lies at a location was opened by one of the events, and has the shape that it had then
item_last : {A : Type 0} (xs : List A) (x : A) → slice_get (xs ++ x ∷ []) (length xs) ≡ Some x
item_last [] x = refl
item_last (y ∷ xs) x = item_last xs x

item_front : {A : Type 0} (xs ys : List A) (n : ℕ) (x : A) → slice_get xs n ≡ Some x → slice_get (xs ++ ys) n ≡ Some x
item_front [] ys n x is = let no : ⊥ = cc in absurd no
item_front (y ∷ xs) ys zero x is = is
item_front (y ∷ xs) ys (suc n) x is = item_front xs ys n x is

last_part : {A : Type 0} (P : A → Type 0) (xs : List A) (x : A) → AllByRecursion P (xs ++ x ∷ []) → AllByRecursion P xs × P x
last_part P [] x all = (tt, all.0)
last_part P (y ∷ xs) x all = let rest = last_part P xs x all.1 in ((all.0, rest.0), rest.1)

pub record IsOpenedSo (h : History) (k : Known) : Type 0 where
  pub at : IsOpenedAt h k.opened k.info
  pub shape : k.shape ≡ k.info.shape

pub opened_so : (here : List ℕ) (h : History) → AreStill h → (k : Known) → array_at h here ≡ Some k → IsOpenedSo h k
opened_so here =
    each_history (λ h. AreStill h → (k : Known) → array_at h here ≡ Some k → IsOpenedSo h k) (λ still k at. absurd (none_is_none k at))
    (λ h e before still k at.
    let parts = last_part (λ (e : Event). IsStill e.kind) h e still in
    by h e e.kind refl k (λ was. later h e k (before parts.0 k was)) parts.1 (sym (array_at-more h e here) ∙ at))
  where
    later : (h : History) (e : Event) (k : Known) → IsOpenedSo h k → IsOpenedSo (h ++ e ∷ []) k
    later h e k old = record {
      at = record { at = old.at.at; event = old.at.event; place = old.at.place; there = item_front h (e ∷ []) old.at.at old.at.event old.at.there; kind = old.at.kind };
      shape = old.shape;
    }

    opening : (h : History) (e : Event) (info : ArrayInfo) (b : Bool) (k : Known) (o : Option Known) → e.kind ≡ Opened info → (o ≡ Some k → IsOpenedSo (h ++ e ∷ []) k) → cond b (Some (opened_as h info)) o ≡ Some k → IsOpenedSo (h ++ e ∷ []) k
    opening h e info true k o kind old at =
        let same : opened_as h info ≡ k = some_inj (opened_as h info) k at in
        subst (IsOpenedSo (h ++ e ∷ [])) same (record { at = record { at = length h; event = e; place = refl; there = item_last h e; kind = kind }; shape = refl })
    opening h e info false k o kind old at = old at

    by : (h : History) (e : Event) (kind : Kind) → e.kind ≡ kind → (k : Known) → (array_at h here ≡ Some k → IsOpenedSo (h ++ e ∷ []) k) → IsStill e.kind → at_step here h e.kind (array_at h here) ≡ Some k → IsOpenedSo (h ++ e ∷ []) k
    by h e (Opened info) is k old still at = opening h e info (is_key here (location info.home)) k (array_at h here) is old (ap (λ kd. at_step here h kd (array_at h here)) (sym is) ∙ at)
    by h e (Done line mode ops key) is k old still at = old (ap (λ kd. at_step here h kd (array_at h here)) (sym is) ∙ at)
    by h e (Resized b shape) is k old still at = let no : ⊥ = subst IsStill is still in absurd no
    by h e (Fault mount) is k old still at = old (ap (λ kd. at_step here h kd (array_at h here)) (sym is) ∙ at)

-- names of arrays keep the rules
stored_by : (home : Home) (here : List ℕ) → location home ≡ Some here → is_local home ≡ true → ⊥
stored_by (Zarr mount path meta) here is local = absurd (cc)
stored_by (N5 mount path meta) here is local = absurd (cc)
stored_by (Zarr3 mount path meta) here is local = absurd (cc)
stored_by (Local start) here is local = none_is_none here is

reference_at : (h : History) → IsLegal finmap.empty h → (number : ℕ) (info : ArrayInfo) → IsOpenedAt h number info → (is_local info.home ≡ true → IsShape info.shape × IsChunkShape (map (max 1) info.shape))
    → IsReference (reference_of info info.shape)
reference_at h legal number info is small =
    let first = subst (IsLegal finmap.empty) (take_front h is.at is.event is.there) (legal_take finmap.empty h (suc is.at) legal) in
    known_reference finmap.empty info.number (take is.at h ++ is.event ∷ []) first (opened_as (take is.at h) info) (opened_then (take is.at h) is.event info info.number is.kind refl) small

-- a leaf that is made as it is asked lies at its place
made_at : (n : ℕ) (leaf : Leaf) (info : ArrayInfo) → opened_info n (stored [] leaf) ≡ Some info → (meta : Form) × (form_made leaf.want ≡ Ok meta) × (location info.home ≡ Some (location_of_leaf leaf))
made_at n leaf info is = by (form_made leaf.want) refl is
  where
    by : (r : Result Form (List ℕ)) → form_made leaf.want ≡ r → made_info n leaf r ≡ Some info → (meta : Form) × (form_made leaf.want ≡ Ok meta) × (location info.home ≡ Some (location_of_leaf leaf))
    by (Ok meta) asks told =
        let same : new_info n leaf meta ≡ info = some_inj (new_info n leaf meta) info told in
        (meta, asks, subst (λ (i : ArrayInfo). location i.home ≡ Some (location_of_leaf leaf)) same (location_new leaf.mount leaf.path meta (made_stored leaf.want meta asks)))
    by (Err member) asks told = absurd (none_is_none info told)

module _ (events : History) (legal : IsLegal finmap.empty events) (still : AreStill events) where
  -- a stored array that was opened, and one with numbers of its own
  pub reference_made : (leaf : Leaf) (number : ℕ) → (gives : IsGivenAt events (stored [] leaf) (Some number)) → IsReference (reference_of gives.0 gives.0.shape)
  reference_made leaf number gives =
      let lies = made_at (next_array (before events number)) leaf gives.0 gives.1 in
      reference_at events legal number gives.0 gives.2 (λ local. absurd (stored_by gives.0.home (location_of_leaf leaf) lies.2 local))

  pub reference_found : (here : List ℕ) (k : Known) → array_at events here ≡ Some k → IsReference (reference_of k.info k.info.shape)
  reference_found here k at = reference_at events legal k.opened k.info (opened_so here events still k at).at (λ local. absurd (stored_by k.info.home here (lies_here here events k at) local))

  module _ (h : History) (is : outline h ≡ events) (w : Window) where
    -- a leaf that takes no number
    pub settled_found : (node : Text) (asked : Asked) (r : Option Reference) → IsFoundAs events asked w.upto r → IsSettledAs h w (taking (stored node (leaf_asked asked)) None) r
    settled_found node asked None told = λ settled.
        let leaf = leaf_asked asked in
        let now : outcome_alone (take w.upto events) leaf ≡ there settled.0 = sym (outcome_by_outline h events is w.upto leaf) ∙ of_outcome (take w.upto h) leaf (there settled.0) settled.1 in
        let end = finds_later events legal still w.upto leaf settled.0 now in
        told settled.0 end.0 end.1
    settled_found node asked (Some ref) told =
        let leaf = leaf_asked asked in
        let now : outcome_alone (take w.upto h) leaf ≡ there told.0 = outcome_by_outline h events is w.upto leaf ∙ finds_earlier events legal still w.upto leaf told.0 told.1 told.2 in
        let lies : array_at h (location_of_leaf leaf) ≡ Some told.0 =
        sym (array_at-outline (location_of_leaf leaf) h) ∙ ap (λ (g : History). array_at g (location_of_leaf leaf)) is ∙ there_at events leaf told.0 (as_outcome events leaf (there told.0) told.1) in
        ((told.0, as_outcome (take w.upto h) leaf (there told.0) now), ap (option_map ref_of) lies ∙ ap Some (sym told.3))

    -- how a leaf that takes a number is named
    count_outlined : (m : ℕ) → next_array (take m h) ≡ next_array (take m events)
    count_outlined m = sym (count-outline (take m h)) ∙ ap next_array (front h events is m)

    named_stored : (node : Text) (leaf : Leaf) (n : ℕ) (info : ArrayInfo) → opened_info (next_array (before events n)) (stored [] leaf) ≡ Some info → ref_of_leaf h (taking (stored node leaf) (Some n)) ≡ Some (reference_of info info.shape)
    named_stored node leaf n info opens =
        ap (λ o. option_map ref_of (option_map (λ (i : ArrayInfo). record { info = i; opened = n; shape = i.shape }) o)) (ap (λ a. made_info a leaf (form_made leaf.want)) (count_outlined (n - 1)) ∙ opens)

    free_then : (leaf : Leaf) (n : ℕ) (info : ArrayInfo) → opened_info (next_array (before events n)) (stored [] leaf) ≡ Some info → IsOpenedAt events n info → IsFree (take (n - 1) events) (location_of_leaf leaf)
    free_then leaf n info opens at =
        let lies = made_at (next_array (before events n)) leaf info opens in
        let place = at.place in
        let same : at.at ≡ n - 1 = omega (arith, place) in
        subst (λ m. IsFree (take m events) (location_of_leaf leaf)) same (free_before events legal still at.at at.event info (location_of_leaf leaf) at.there at.kind lies.2)

    -- a leaf that takes a number was made, where it may be
    pub settled_made : (node : Text) (asked : Asked) (n : ℕ) (gives : IsGivenAt events (stored [] (leaf_asked asked)) (Some n)) → asked.may_create ≡ true
        → IsSettledAs h w (taking (stored node (leaf_asked asked)) (Some n)) (Some (reference_of gives.0 gives.0.shape))
    settled_made node asked n gives may =
        let leaf = leaf_asked asked in
        let lies = made_at (next_array (before events n)) leaf gives.0 gives.1 in
        let free = free_then leaf n gives.0 gives.1 gives.2 in
        let now : outcome_alone (take (n - 1) events) leaf ≡ made lies.0 =
        outcome_of_free (take (n - 1) events) leaf free ∙ ap (λ b. cond b (making_outcome (form_made leaf.want)) not_found) may ∙ ap making_outcome lies.1 in
        ((lies.0, as_outcome (take (n - 1) h) leaf (made lies.0) (outcome_by_outline h events is (n - 1) leaf ∙ now)), named_stored node leaf n gives.0 gives.1)

    pub settled_unmade : (node : Text) (asked : Asked) (n : ℕ) (gives : IsGivenAt events (stored [] (leaf_asked asked)) (Some n)) → asked.may_create ≡ false
        → IsSettledAs h w (taking (stored node (leaf_asked asked)) (Some n)) None
    settled_unmade node asked n gives may = λ settled.
        let leaf = leaf_asked asked in
        let free = free_then leaf n gives.0 gives.1 gives.2 in
        let now : outcome_alone (take (n - 1) events) leaf ≡ made settled.0 = sym (outcome_by_outline h events is (n - 1) leaf) ∙ of_outcome (take (n - 1) h) leaf (made settled.0) settled.1 in
        let none : not_found ≡ made settled.0 = sym (outcome_of_free (take (n - 1) events) leaf free ∙ ap (λ b. cond b (making_outcome (form_made leaf.want)) not_found) may) ∙ now in
        absurd (cc)

    -- one with numbers of its own
    pub settled_given : (start : _) (n : ℕ) (info : ArrayInfo) → opened_info (next_array (before events n)) (given start) ≡ Some info → IsSettledAs h w (taking (given start) (Some n)) (Some (reference_of info info.shape))
    settled_given start n info opens =
        (tt, ap (λ o. option_map ref_of (option_map (λ (i : ArrayInfo). record { info = i; opened = n; shape = i.shape }) o)) (ap (λ a. Some (given_info a start)) (count_outlined (n - 1)) ∙ opens))
