-- How views name the arrays of an open line's leaves.
use Rattle.std.proofs.Common.{◌≡◌, ◌∙◌, ℕ, zero, suc, List, [], ◌∷◌, ◌++◌, true, false, Option, Some, None, Result, Ok, Err, take, refl, sym, ap, subst, map}
use Rattle.std.specs.Prelude.{option_map, max}
use Rattle.std.specs.List.{slice_get}
use Rattle.std.specs.FinMap as finmap
use Rattle.cells.specs.Shapes.{IsShape, IsChunkShape}
use Rattle.locations.specs.Paths.{Located}
use Rattle.stated_arrays.specs.Homes.{reference_of}
use Rattle.stated_arrays.proofs.Laws.{reference_given, there_of}
use Rattle.history.specs.declared.array.ArrayInfo.{ArrayInfo}
use Rattle.history.specs.declared.event.Event.{Event}
use Rattle.history.specs.declared.Form.{Form}
use Rattle.history.specs.declared.Form.TheVariants as form
use Rattle.history.specs.declared.Want.TheVariants as want
use Rattle.history.specs.Arrays.{Known, ref_of, is_local}
use Rattle.history.specs.History.{History}
use Rattle.history.specs.Leaves.{Leaf}
use Rattle.history.specs.Legal.{IsLegal}
use Rattle.history.specs.Made.{form_made}
use Rattle.history.specs.Metadata.{is_local as is_local_form}
use Rattle.history.specs.OpenRows.{next_array, given_info}
use Rattle.history.specs.Outcomes.{home_of, new_info}
use Rattle.history.specs.Places.{array_at}
use Rattle.history.proofs.Laws.{legal_take, opened_then, opened_as, some_inj}
use Rattle.line_acts.specs.Openings.{leaf_of}
use Rattle.stated_arrays.specs.Leaves.{IsSoundLeaf}
use Rattle.stated_arrays.specs.declared.SpecLeaf as spec
use Rattle.stated_arrays.specs.declared.SpecLeaf.TheVariants.{Zarr, N5, Zarr3, Given}
use Rattle.stack_driver.specs.References.{IsReference}
use Rattle.stated_arrays.specs.Outcomes.{AreKeptOf, IsOpenedAt, IsArrayAt}
use Rattle.stated_arrays.specs.Takings.{before, taking, made_info, ref_of_leaf}
use Rattle.stated_arrays.specs.Transcript.{mount}
use Rattle.stated_arrays.proofs.Laws.{known_reference, made_stored, outline_legal}
use Rattle.stated_arrays.specs.OpenedViews.{IsGivenAt}

take_front : (h : History) (at : ℕ) (e : Event) → slice_get h at ≡ Some e → take (suc at) h ≡ take at h ++ e ∷ []
take_front [] at e is = let no : ⊥ = cc in absurd no
take_front (f ∷ h) zero e is = let same : f ≡ e = cc in ap (λ x. x ∷ []) same
take_front (f ∷ h) (suc at) e is = ap (λ xs. f ∷ xs) (take_front h at e is)

-- an array that an event opens
reference_at : (h : History) → IsLegal finmap.empty h → (number : ℕ) (info : ArrayInfo) → IsOpenedAt h number info → (is_local info.home ≡ true → IsShape info.shape × IsChunkShape (map (max 1) info.shape))
    → IsReference (reference_of info info.shape)
reference_at h legal number info is small =
    let front = subst (IsLegal finmap.empty) (take_front h is.at is.event is.there) (legal_take finmap.empty h (suc is.at) legal) in
    known_reference finmap.empty info.number (take is.at h ++ is.event ∷ []) front (opened_as (take is.at h) info) (opened_then (take is.at h) is.event info info.number is.kind refl) small

-- one that is stored isn't local
stored_home : (on at : List ℕ) (meta : Form) → is_local_form meta ≡ false → is_local (home_of on at meta) ≡ false
stored_home on at (form.Zarr m) stored = refl
stored_home on at (form.N5 m) stored = refl
stored_home on at (form.Zarr3 m) stored = refl
stored_home on at form.Local stored = let no : ⊥ = cc in absurd no

stored_info : (n : ℕ) (leaf : Leaf) (info : ArrayInfo) → made_info n leaf (form_made leaf.want) ≡ Some info → is_local info.home ≡ false
stored_info n leaf info is = by (form_made leaf.want) refl is
  where
    by : (r : Result Form (List ℕ)) → form_made leaf.want ≡ r → made_info n leaf r ≡ Some info → is_local info.home ≡ false
    by (Ok meta) made told =
        let same : new_info n leaf meta ≡ info = some_inj (new_info n leaf meta) info told in
        subst (λ (i : ArrayInfo). is_local i.home ≡ false) same (stored_home leaf.mount leaf.path meta (made_stored leaf.want meta made))
    by (Err member) made told = let no : ⊥ = cc in absurd no

reference_stored : (h : History) → IsLegal finmap.empty h → (n number : ℕ) (leaf : Leaf) (info : ArrayInfo) → made_info n leaf (form_made leaf.want) ≡ Some info → IsOpenedAt h number info → IsReference (reference_of info info.shape)
reference_stored h legal n number leaf info made is =
    reference_at h legal number info is (λ local. let no : true ≡ false = sym local ∙ stored_info n leaf info made in absurd (let never : ⊥ = cc in never))

-- the array of a leaf that takes a number
pub reference_taken : (h : History) → IsLegal finmap.empty h → (leaf : spec.SpecLeaf) → IsSoundLeaf (mount ∷ []) leaf → (number : ℕ) (given : IsGivenAt h (leaf_of [] leaf) (Some number)) → IsReference (reference_of given.0 given.0.shape)
reference_taken h legal (Zarr on at asked may_open may_create) sound number given =
    reference_stored h legal (next_array (before h number)) number (record { mount = on; path = at; want = want.Zarr asked; may_open = may_open; may_create = may_create }) given.0 given.1 given.2
reference_taken h legal (N5 on at asked may_open may_create) sound number given =
    reference_stored h legal (next_array (before h number)) number (record { mount = on; path = at; want = want.N5 asked; may_open = may_open; may_create = may_create }) given.0 given.1 given.2
reference_taken h legal (Zarr3 on at asked may_open may_create) sound number given =
    reference_stored h legal (next_array (before h number)) number (record { mount = on; path = at; want = want.Zarr3 asked; may_open = may_open; may_create = may_create }) given.0 given.1 given.2
reference_taken h legal (Given start) sound number given =
    let same : given_info (next_array (before h number)) start ≡ given.0 = some_inj _ given.0 given.1 in
    subst (λ (i : ArrayInfo). IsReference (reference_of i i.shape)) same (reference_given (next_array (before h number)) start sound.dense.rank sound.small)

-- and how it is named
pub taken_named : (h : History) (leaf : spec.SpecLeaf) (number : ℕ) (given : IsGivenAt h (leaf_of [] leaf) (Some number)) → ref_of_leaf h (taking (leaf_of [] leaf) (Some number)) ≡ Some (reference_of given.0 given.0.shape)
taken_named h leaf number given = ap (λ o. option_map ref_of (option_map (λ (info : ArrayInfo). record { info = info; opened = number; shape = info.shape }) o)) given.1

-- the array that lies at a place
module _ (h : History) (opened : List ℕ) (places : Located) (is : AreKeptOf h opened places) (here : List ℕ) where
  pub reference_lying : (info : ArrayInfo) → IsArrayAt (array_at h here) (Some info) → IsReference (reference_of info info.shape)
  reference_lying info lies = by (array_at h here) refl lies
    where
      by : (o : Option Known) → array_at h here ≡ o → IsArrayAt o (Some info) → IsReference (reference_of info info.shape)
      by None e told = absurd told
      by (Some k) e told =
          let there = there_of h places is.table here (outline_legal h is.legal) k.info.number (is.table here ∙ ap (option_map (λ (k : Known). k.info.number)) e) in
          let same = some_inj there.array k (sym there.at ∙ e) in
          let at_k : IsReference (reference_of k.info k.shape) = subst (λ (k : Known). IsReference (ref_of k)) same there.reference in
          subst (λ (i : ArrayInfo). IsReference (reference_of i info.shape)) told.0 (subst (λ s. IsReference (reference_of k.info s)) told.1 at_k)

  pub lying_named : (info : ArrayInfo) → IsArrayAt (array_at h here) (Some info) → option_map ref_of (array_at h here) ≡ Some (reference_of info info.shape)
  lying_named info lies = by (array_at h here) lies
    where
      by : (o : Option Known) → IsArrayAt o (Some info) → option_map ref_of o ≡ Some (reference_of info info.shape)
      by None told = absurd told
      by (Some k) told = ap (λ s. Some (reference_of k.info s)) told.1 ∙ ap (λ (i : ArrayInfo). Some (reference_of i info.shape)) told.0

  pub none_lying : IsArrayAt (array_at h here) None → option_map ref_of (array_at h here) ≡ None
  none_lying lies = by (array_at h here) lies
    where
      by : (o : Option Known) → IsArrayAt o None → option_map ref_of o ≡ None
      by None told = refl
      by (Some k) told = absurd told

-- where the array of a leaf lies that takes no number
pub lying_of : (h : History) (leaf : spec.SpecLeaf) (other : spec.SpecLeaf) → leaf ≡ other → ref_of_leaf h (taking (leaf_of [] leaf) None) ≡ ref_of_leaf h (taking (leaf_of [] other) None)
lying_of h leaf other is = ap (λ l. ref_of_leaf h (taking (leaf_of [] l) None)) is
