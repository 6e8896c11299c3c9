-- What opening a leaf gives at different moments, where no array gets another shape.
use Rattle.std.proofs.Common.{◌≡◌, ℕ, zero, suc, ◌+◌, ◌<◌, ◌≤◌, inl, inr, List, [], ◌∷◌, ◌++◌, length, take, drop, Bool, true, false, cond, Option, Some, None, Result, Ok, Err, refl, sym, ap, subst, ◌∙◌, append_assoc, append-nil, length-append, length-take, arith}
use Rattle.std.specs.Prelude.{filter, filter_map, option_map}
use Rattle.std.specs.List.{take-map, slice_get}
use Rattle.std.specs.FinMap as finmap
use Rattle.std.proofs.lemmas.List.{take-append-drop}
use Rattle.std.proofs.lemmas.Slice.Eq.{bytes_eq-Decides}
use Rattle.chunk_forms.specs.Made.{form_made}
use Rattle.chunk_forms.specs.Wants.{mismatch_of}
use Rattle.chunk_forms.specs.declared.form.Form.{Form}
use Rattle.locations.specs.Paths.{Located, clashes}
use Rattle.history.specs.declared.array.ArrayInfo.{ArrayInfo}
use Rattle.history.specs.declared.event.Event.{Event}
use Rattle.history.specs.declared.event.Kind.{Kind}
use Rattle.history.specs.declared.event.Kind.TheVariants.{Opened, Done, Resized, Fault}
use Rattle.history.specs.Arrays.{Known, form_of}
use Rattle.history.specs.History.{History}
use Rattle.history.specs.Leaves.{Leaf, nothing, location_of_leaf, metadata_key_asked}
use Rattle.history.specs.Legal.{IsLegal, IsLegalKind, IsLegalResize}
use Rattle.history.specs.Outcomes.{Outcome, path_taken, bad_metadata, exists, mismatch, there, found, not_found, bad_want, made, IsOutcome, unless_differs, making_outcome, outcome_in_store, outcome_at, unless_taken}
use Rattle.history.specs.Places.{location, location_of, opened_array, locations, least, taken, at_step, array_at, IsTable, IsFree}
use Rattle.history.specs.SingleOpen.{outcome_alone}
use Rattle.history.specs.Touch.{is_key}
use Rattle.history.proofs.AloneOpens.{outcome_is}
use Rattle.history.proofs.Laws.{each_history, legal_step, legal_take, legal_more, array_at-more, array_at-known, locations-more, opened_le, opened_as, some_inj, none_is_none, table_none, table_opened, table_same}
use Rattle.history.proofs.Ordering.{IsAmong, kept, none_kept, least_none}
use Rattle.history.proofs.Tabled.{listed_there, there_listed}
use Rattle.history.proofs.Tests.{true_or_false}
use Rattle.read_fits.specs.Outline.{outline, outlined, outlined_event}
use Rattle.read_fits.proofs.Laws.{places_apart}
use Rattle.read_fits.proofs.Laws.{array_at-outline, known-outline, outline-more, outline_opening}
use Rattle.read_fits.specs.Still.{IsStill, AreStill}
use Rattle.read_fits.proofs.Laws.{there_at}
use Rattle.read_fits.proofs.Laws.{IsUnresized, AreUnresized, unresized_back, stays, stays_step, stays_more, stays_until}

-- the same in the words of the crates below
one_unresized : (kind : Kind) → IsStill kind → IsUnresized kind
one_unresized (Opened info) still = tt
one_unresized (Done line mode ops key) still = tt
one_unresized (Resized a shape) still = absurd still
one_unresized (Fault mount) still = tt

pub unresized : (h : History) → AreStill h → AreUnresized h
unresized [] still = tt
unresized (e ∷ h) still = (one_unresized e.kind still.0, unresized h still.1)

-- each history has a table of where its arrays lie
nowhere : (h : History) (e : Event) (kind : Kind) (places : Located) → e.kind ≡ kind → IsTable h places → ((info : ArrayInfo) → kind ≡ Opened info → location info.home ≡ None) → IsTable (h ++ e ∷ []) places
nowhere h e (Opened info) places is table none = subst (λ (f : Event). IsTable (h ++ f ∷ []) places) (ap (λ (k : Kind). record { owner = e.owner; kind = k }) (sym is)) (table_same h (record { owner = e.owner; kind = Opened info }) places (none info refl) table)
nowhere h e (Done line mode ops key) places is table none =
    subst (λ (f : Event). IsTable (h ++ f ∷ []) places) (ap (λ (k : Kind). record { owner = e.owner; kind = k }) (sym is)) (table_same h (record { owner = e.owner; kind = Done line mode ops key }) places tt table)
nowhere h e (Resized a shape) places is table none =
    subst (λ (f : Event). IsTable (h ++ f ∷ []) places) (ap (λ (k : Kind). record { owner = e.owner; kind = k }) (sym is)) (table_same h (record { owner = e.owner; kind = Resized a shape }) places tt table)
nowhere h e (Fault mount) places is table none = subst (λ (f : Event). IsTable (h ++ f ∷ []) places) (ap (λ (k : Kind). record { owner = e.owner; kind = k }) (sym is)) (table_same h (record { owner = e.owner; kind = Fault mount }) places tt table)

opened_kind : (info other : ArrayInfo) → Opened info ≡ Opened other → info ≡ other
opened_kind info other is = cc

tabled : (h : History) → (places : Located) × IsTable h places
tabled =
    each_history (λ h. (places : Located) × IsTable h places) (finmap.empty, table_none)
    (λ h e before. by h e e.kind refl before.0 before.1)
  where
    opening : (h : History) (e : Event) (info : ArrayInfo) (l : Option (List ℕ)) → e.kind ≡ Opened info → location info.home ≡ l → (old : Located) → IsTable h old → (places : Located) × IsTable (h ++ e ∷ []) places
    opening h e info None is at old table = (old, nowhere h e (Opened info) old is table (λ other same. ap (λ (i : ArrayInfo). location i.home) (sym (opened_kind info other same)) ∙ at))
    opening h e info (Some here) is at old table = (finmap.insert old here info.number, table_opened h e info here old is at table)

    by : (h : History) (e : Event) (kind : Kind) → e.kind ≡ kind → (old : Located) → IsTable h old → (places : Located) × IsTable (h ++ e ∷ []) places
    by h e (Opened info) is old table = opening h e info (location info.home) is refl old table
    by h e (Done line mode ops key) is old table = (old, nowhere h e (Done line mode ops key) old is table (λ info never. absurd (cc)))
    by h e (Resized a shape) is old table = (old, nowhere h e (Resized a shape) old is table (λ info never. absurd (cc)))
    by h e (Fault mount) is old table = (old, nowhere h e (Fault mount) old is table (λ info never. absurd (cc)))

-- the outline of a legal history is legal
outline_legal : (h : History) → IsLegal finmap.empty h → IsLegal finmap.empty (outline h)
outline_legal =
    each_history (λ h. IsLegal finmap.empty h → IsLegal finmap.empty (outline h)) (λ legal. legal)
    (λ h e before legal.
    let parts = legal_step finmap.empty h e legal in
    subst (IsLegal finmap.empty) (sym (outline-more h e)) (legal_more finmap.empty (outline h) _ (before parts.0) (by h e.kind parts.1)))
  where
    by : (h : History) (kind : Kind) → IsLegalKind finmap.empty h kind → IsLegalKind finmap.empty (outline h) (outlined kind)
    by h (Opened info) is = outline_opening h info is
    by h (Done line mode ops key) is = tt
    by h (Resized a shape) is = subst (λ known. IsLegalResize known shape) (sym (known-outline a h)) is
    by h (Fault mount) is = tt

-- no two arrays of a legal history lie one above the other
apart_in : (h : History) → IsLegal finmap.empty h → (one other : List ℕ) (k l : Known) → array_at h one ≡ Some k → array_at h other ≡ Some l → clashes one other ≡ false
apart_in h legal one other k l at lies =
    let table = tabled h in
    places_apart h table.0 table.1 (outline_legal h legal) one other k.info.number l.info.number (table.1 one ∙ ap (option_map (λ (m : Known). m.info.number)) at) (table.1 other ∙ ap (option_map (λ (m : Known). m.info.number)) lies)

-- so where an array lies, none lies above or below
alone_at : (h : History) → IsLegal finmap.empty h → (here : List ℕ) (k : Known) → array_at h here ≡ Some k → taken h here ≡ None
alone_at h legal here k at = ap least (none_kept (clashes here) (locations h) (λ t among. let other = listed_there t h among in apart_in h legal here t k other.0 at other.1))

pub outcome_lying : (h : History) → IsLegal finmap.empty h → (leaf : Leaf) (k : Known) → array_at h (location_of_leaf leaf) ≡ Some k → outcome_alone h leaf ≡ outcome_at leaf nothing (Some k)
outcome_lying h legal leaf k at = ap (λ t. unless_taken t (outcome_at leaf nothing (array_at h (location_of_leaf leaf)))) (alone_at h legal (location_of_leaf leaf) k at) ∙ ap (outcome_at leaf nothing) at

-- over a store that starts empty, outcomes are those of a leaf alone
pub as_outcome : (h : History) (leaf : Leaf) (outcome : Outcome) → outcome_alone h leaf ≡ outcome → IsOutcome finmap.empty h leaf outcome
as_outcome h leaf outcome is = record { stored = nothing; read = λ none. finmap.get-empty _ (metadata_key_asked leaf); same = sym is }

pub of_outcome : (h : History) (leaf : Leaf) (outcome : Outcome) → IsOutcome finmap.empty h leaf outcome → outcome_alone h leaf ≡ outcome
of_outcome h leaf outcome is = outcome_is finmap.empty h leaf outcome refl is

-- they are those of the outline
locations_outlined : (h : History) → locations (outline h) ≡ locations h
locations_outlined =
    each_history (λ h. locations (outline h) ≡ locations h) refl
    (λ h e before. ap locations (outline-more h e) ∙ locations-more (outline h) (outlined_event e) ∙ ap (λ ls. ls ++ filter_map location_of (opened_array (outlined e.kind))) before ∙ ap (λ is. locations h ++ filter_map location_of is) (by e.kind) ∙ sym (locations-more h e))
  where
    by : (kind : Kind) → opened_array (outlined kind) ≡ opened_array kind
    by (Opened info) = refl
    by (Done line mode ops key) = refl
    by (Resized b shape) = refl
    by (Fault mount) = refl

taken_outlined : (h : History) (here : List ℕ) → taken (outline h) here ≡ taken h here
taken_outlined h here = ap (λ ls. least (filter (clashes here) ls)) (locations_outlined h)

outcome_outlined : (h : History) (leaf : Leaf) → outcome_alone (outline h) leaf ≡ outcome_alone h leaf
outcome_outlined h leaf =
    ap (λ t. unless_taken t (outcome_at leaf nothing (array_at (outline h) (location_of_leaf leaf)))) (taken_outlined h (location_of_leaf leaf))
    ∙ ap (λ o. unless_taken (taken h (location_of_leaf leaf)) (outcome_at leaf nothing o)) (array_at-outline (location_of_leaf leaf) h)

module _ (h events : History) (is : outline h ≡ events) where
  pub front : (m : ℕ) → outline (take m h) ≡ take m events
  front m = sym (take-map outlined_event m h) ∙ ap (take m) is

  pub outcome_by_outline : (m : ℕ) (leaf : Leaf) → outcome_alone (take m h) leaf ≡ outcome_alone (take m events) leaf
  outcome_by_outline m leaf = sym (outcome_outlined (take m h) leaf) ∙ ap (λ g. outcome_alone g leaf) (front m)

  pub free_by_outline : (m : ℕ) (here : List ℕ) → IsFree (take m events) here → IsFree (take m h) here
  free_by_outline m here free = record {
    alone = sym (taken_outlined (take m h) here) ∙ ap (λ g. taken g here) (front m) ∙ free.alone;
    empty = sym (array_at-outline here (take m h)) ∙ ap (λ g. array_at g here) (front m) ∙ free.empty;
  }

  pub free_in_outline : (m : ℕ) (here : List ℕ) → IsFree (take m h) here → IsFree (take m events) here
  free_in_outline m here free = record {
    alone = ap (λ g. taken g here) (sym (front m)) ∙ taken_outlined (take m h) here ∙ free.alone;
    empty = ap (λ g. array_at g here) (sym (front m)) ∙ array_at-outline here (take m h) ∙ free.empty;
  }

-- outcomes where nothing lies at the place, above or below
abbrev pub is_free_outcome : Outcome → Bool
is_free_outcome (path_taken other) = false
is_free_outcome (bad_metadata bytes) = false
is_free_outcome exists = false
is_free_outcome (mismatch member) = false
is_free_outcome (there k) = false
is_free_outcome (found meta) = false
is_free_outcome not_found = true
is_free_outcome (bad_want member) = true
is_free_outcome (made meta) = true

module _ (h : History) (leaf : Leaf) where
  abbrev site : List ℕ
  site = location_of_leaf leaf

  pub outcome_of_free : IsFree h site → outcome_alone h leaf ≡ outcome_in_store leaf nothing
  outcome_of_free free = ap (λ t. unless_taken t (outcome_at leaf nothing (array_at h site))) free.alone ∙ ap (outcome_at leaf nothing) free.empty

  pub free_of_outcome : is_free_outcome (outcome_alone h leaf) ≡ true → IsFree h site
  free_of_outcome is = by (taken h site) (array_at h site) refl refl is
    where
      differs : (o : Option (List ℕ)) (k : Known) → is_free_outcome (unless_differs o (there k)) ≡ true → ⊥
      differs None k is = cc
      differs (Some member) k is = cc

      lying : (b : Bool) (k : Known) → is_free_outcome (cond b (unless_differs (mismatch_of leaf.want (form_of k.info.home) k.shape) (there k)) exists) ≡ true → ⊥
      lying true k is = differs (mismatch_of leaf.want (form_of k.info.home) k.shape) k is
      lying false k is = cc

      by : (t : Option (List ℕ)) (o : Option Known) → taken h site ≡ t → array_at h site ≡ o → is_free_outcome (unless_taken t (outcome_at leaf nothing o)) ≡ true → IsFree h site
      by (Some other) o alone empty is = absurd (cc)
      by None (Some k) alone empty is = absurd (lying leaf.may_open k is)
      by None None alone empty is = record { alone = alone; empty = empty }

  pub free_told : IsFree h site → is_free_outcome (outcome_alone h leaf) ≡ true
  free_told free = ap is_free_outcome (outcome_of_free free) ∙ by leaf.may_create (form_made leaf.want)
    where
      by : (b : Bool) (r : Result Form (List ℕ)) → is_free_outcome (cond b (making_outcome r) not_found) ≡ true
      by false r = refl
      by true (Ok meta) = refl
      by true (Err member) = refl

-- the events up to one and that one
pub take_front : (g : History) (at : ℕ) (e : Event) → slice_get g at ≡ Some e → take (suc at) g ≡ take at g ++ e ∷ []
take_front [] at e is = let no : ⊥ = cc in absurd no
take_front (f ∷ g) zero e is = let same : f ≡ e = cc in ap (λ x. x ∷ []) same
take_front (f ∷ g) (suc at) e is = ap (λ xs. f ∷ xs) (take_front g at e is)

module _ (h : History) (legal : IsLegal finmap.empty h) (still : AreStill h) where
  -- a place that is free was free before
  pub free_earlier : (m n : ℕ) (here : List ℕ) → m ≤ n → IsFree (take n h) here → IsFree (take m h) here
  free_earlier m n here low free = record { alone = ap least (none_kept (clashes here) (locations (take m h)) apart); empty = absent (array_at (take m h) here) refl }
    where
      absent : (o : Option Known) → array_at (take m h) here ≡ o → array_at (take m h) here ≡ None
      absent None at = at
      absent (Some k) at = absurd (none_is_none k (sym free.empty ∙ stays_until here finmap.empty h m n k low legal (unresized h still) at))

      apart : (t : List ℕ) → IsAmong t (locations (take m h)) → clashes here t ≡ false
      apart t among = elim (true_or_false (clashes here t)) [
        | inr apart_so ↦ apart_so
        | inl clash ↦
            let early = listed_there t (take m h) among in
            let late = stays_until t finmap.empty h m n early.0 low legal (unresized h still) early.1 in
            absurd (least_none (filter (clashes here) (locations (take n h))) t free.alone (kept (clashes here) (locations (take n h)) t (there_listed t (take n h) (early.0, late)) clash))
      ]

  -- so a leaf that is undetermined was so before
  pub undetermined_earlier : (m n : ℕ) (leaf : Leaf) (member : List ℕ) → m ≤ n → outcome_alone (take n h) leaf ≡ bad_want member → outcome_alone (take m h) leaf ≡ bad_want member
  undetermined_earlier m n leaf member low is =
      let free = free_of_outcome (take n h) leaf (ap is_free_outcome is) in
      outcome_of_free (take m h) leaf (free_earlier m n (location_of_leaf leaf) low free) ∙ sym (outcome_of_free (take n h) leaf free) ∙ is

  -- an array that lies somewhere was opened by one of the events
  pub opened_within : (m : ℕ) (here : List ℕ) (k : Known) → array_at (take m h) here ≡ Some k → k.opened ≤ m
  opened_within m here k at =
      let low = opened_le k.info.number (take m h) k (array_at-known finmap.empty here (take m h) (legal_take finmap.empty h m legal) k at) in
      omega (arith, low, length-take m h)

  opened_now : (here : List ℕ) (g : History) (kind : Kind) (l : Known) → at_step here g kind None ≡ Some l → l.opened ≡ length g + 1
  opened_now here g (Opened info) l is = by (is_key here (location info.home)) is
    where
      by : (b : Bool) → cond b (Some (opened_as g info)) None ≡ Some l → l.opened ≡ length g + 1
      by true is = ap (λ (k : Known). k.opened) (sym (some_inj (opened_as g info) l is))
      by false is = absurd (none_is_none l is)
  opened_now here g (Done line mode ops key) l is = absurd (none_is_none l is)
  opened_now here g (Resized b shape) l is = absurd (none_is_none l is)
  opened_now here g (Fault mount) l is = absurd (none_is_none l is)

  -- one that isn't there yet is opened by a later event
  opened_late : (here : List ℕ) (more g : History) (k : Known) → IsLegal finmap.empty (g ++ more) → AreUnresized more → array_at g here ≡ None → array_at (g ++ more) here ≡ Some k → length g < k.opened
  opened_late here [] g k whole rest none at = absurd (none_is_none k (sym none ∙ sym (ap (λ f. array_at f here) (append-nil g)) ∙ at))
  opened_late here (e ∷ more) g k whole rest none at = by (array_at (g ++ e ∷ []) here) refl (λ now. opened_late here more (g ++ e ∷ []) k longer rest.1 now end)
    where
      parts : (g ++ e ∷ []) ++ more ≡ g ++ e ∷ more
      parts = append_assoc g (e ∷ []) more

      longer : IsLegal finmap.empty ((g ++ e ∷ []) ++ more)
      longer = subst (IsLegal finmap.empty) (sym parts) whole

      end : array_at ((g ++ e ∷ []) ++ more) here ≡ Some k
      end = ap (λ f. array_at f here) parts ∙ at

      by : (o : Option Known) → array_at (g ++ e ∷ []) here ≡ o → (array_at (g ++ e ∷ []) here ≡ None → length (g ++ e ∷ []) < k.opened) → length g < k.opened
      by None now next = let low = next now in omega (arith, low, length-append g (e ∷ []))
      by (Some l) now next =
          let same : l ≡ k = some_inj l k (sym (stays_more here finmap.empty more (g ++ e ∷ []) l longer rest.1 now) ∙ end) in
          let first : l.opened ≡ length g + 1 = opened_now here g e.kind l (ap (at_step here g e.kind) (sym none) ∙ sym (array_at-more g e here) ∙ now) in
          let count : k.opened ≡ length g + 1 = ap (λ (x : Known). x.opened) (sym same) ∙ first in
          omega (arith, count)

  pub was_there : (m : ℕ) (here : List ℕ) (k : Known) → array_at h here ≡ Some k → k.opened ≤ m → array_at (take m h) here ≡ Some k
  was_there m here k at low = by (array_at (take m h) here) refl
    where
      parts : take m h ++ drop m h ≡ h
      parts = take-append-drop m h

      by : (o : Option Known) → array_at (take m h) here ≡ o → array_at (take m h) here ≡ Some k
      by (Some l) now = now ∙ sym (stays here finmap.empty h m l legal (unresized h still) now) ∙ at
      by None now =
          let late = opened_late here (drop m h) (take m h) k (subst (IsLegal finmap.empty) (sym parts) legal) (unresized_back (take m h) (drop m h) (subst AreUnresized (sym parts) (unresized h still))) now (ap (λ f. array_at f here) parts ∙ at) in
          let within = opened_le k.info.number h k (array_at-known finmap.empty here h legal k at) in
          absurd (omega (arith, late, within, low, length-take m h))

  -- a leaf finds an array from the array's opening on
  pub finds_later : (m : ℕ) (leaf : Leaf) (k : Known) → outcome_alone (take m h) leaf ≡ there k → (outcome_alone h leaf ≡ there k) × (k.opened ≤ m)
  finds_later m leaf k is =
      let at = there_at (take m h) leaf k (as_outcome (take m h) leaf (there k) is) in
      let end = stays (location_of_leaf leaf) finmap.empty h m k legal (unresized h still) at in
      (outcome_lying h legal leaf k end ∙ sym (outcome_lying (take m h) (legal_take finmap.empty h m legal) leaf k at) ∙ is, opened_within m (location_of_leaf leaf) k at)

  pub finds_earlier : (m : ℕ) (leaf : Leaf) (k : Known) → outcome_alone h leaf ≡ there k → k.opened ≤ m → outcome_alone (take m h) leaf ≡ there k
  finds_earlier m leaf k is low =
      let end = there_at h leaf k (as_outcome h leaf (there k) is) in
      let at = was_there m (location_of_leaf leaf) k end low in
      outcome_lying (take m h) (legal_take finmap.empty h m legal) leaf k at ∙ sym (outcome_lying h legal leaf k end) ∙ is

  -- the place of an array that an event opens was free before
  module _ (at : ℕ) (e : Event) (info : ArrayInfo) (here : List ℕ) (is_there : slice_get h at ≡ Some e) (kind : e.kind ≡ Opened info) (lies : location info.home ≡ Some here) where
    abbrev early : History
    early = take at h

    next_legal : IsLegal finmap.empty (early ++ e ∷ [])
    next_legal = subst (IsLegal finmap.empty) (take_front h at e is_there) (legal_take finmap.empty h (suc at) legal)

    step_legal : IsLegal finmap.empty early × IsLegalKind finmap.empty early e.kind
    step_legal = legal_step finmap.empty early e next_legal

    step_still : IsUnresized e.kind
    step_still = subst IsUnresized (sym kind) tt

    opened_here : array_at (early ++ e ∷ []) here ≡ Some (opened_as early info)
    opened_here =
        array_at-more early e here ∙ ap (λ kd. at_step here early kd (array_at early here)) kind
        ∙ ap (λ b. cond b (Some (opened_as early info)) (array_at early here)) (ap (is_key here) lies ∙ (bytes_eq-Decides here here).1 refl)

    pub free_before : IsFree early here
    free_before = record { alone = ap least (none_kept (clashes here) (locations early) apart); empty = absent (array_at early here) refl }
      where
        absent : (o : Option Known) → array_at early here ≡ o → array_at early here ≡ None
        absent None at_none = at_none
        absent (Some k) at_some =
            let same : k ≡ opened_as early info = some_inj k (opened_as early info) (sym (stays_step here finmap.empty early e k step_legal.0 step_legal.1 step_still at_some) ∙ opened_here) in
            let low = opened_le k.info.number early k (array_at-known finmap.empty here early step_legal.0 k at_some) in
            let now : k.opened ≡ length early + 1 = ap (λ (x : Known). x.opened) same in
            absurd (omega (arith, low, now))

        apart : (t : List ℕ) → IsAmong t (locations early) → clashes here t ≡ false
        apart t among =
            let other = listed_there t early among in
            apart_in (early ++ e ∷ []) next_legal here t (opened_as early info) other.0 opened_here (stays_step t finmap.empty early e other.0 step_legal.0 step_legal.1 step_still other.1)
