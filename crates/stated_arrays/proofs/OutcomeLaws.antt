-- What opening a leaf gives, by the tables.
use Rattle.std.proofs.Common.{◌≡◌, ℕ, ◌+◌, inl, inr, zero, suc, true, false, cond, List, [], ◌∷◌, ◌++◌, Option, Some, None, Result, Ok, Err, length, refl, sym, ap, subst, ◌∙◌, arith}
use Rattle.std.specs.Prelude.{option_map, OnOk}
use Rattle.std.specs.List.{AllByRecursion, slice_get}
use Rattle.std.specs.FinMap as finmap
use Rattle.locations.specs.Paths.{Located, IsLeastClash, HasNoClash}
use Rattle.history.specs.declared.array.ArrayInfo.{ArrayInfo}
use Rattle.history.specs.declared.event.Event.{Event}
use Rattle.history.specs.declared.event.Kind.{Kind}
use Rattle.history.specs.declared.event.Kind.TheVariants.{Opened, Done, Resized, Fault}
use Rattle.history.specs.Arrays.{Known, known_after}
use Rattle.history.specs.History.{History}
use Rattle.history.specs.Leaves.{Leaf, location_of_leaf, nothing}
use Rattle.history.specs.Legal.{IsLegal}
use Rattle.history.specs.Outcomes.{opening_outcome, outcome_at, outcome_in_store, unless_taken, path_taken}
use Rattle.history.specs.Own.{opened_event}
use Rattle.history.specs.Places.{array_at, location, IsTable}
use Rattle.history.proofs.Laws.{each_history, known_split, no_array, array_at-known, array_by_table, taken_by_table, not_taken_by_table, table_opened, table_same}
use Rattle.transcript_cut.proofs.Laws.{free_of, places_apart}
use Rattle.stated_arrays.specs.Outcomes.{IsStill, AreStill, AreKeptOf, IsOpenedAt, IsOpenedAs, IsArrayAt, IsToldAs, placed_by}
use Rattle.stated_arrays.specs.declared.outcomes.LeafOutcome.{LeafOutcome}
use Rattle.stated_arrays.proofs.TableLaws.{outline_legal}
use Rattle.transcript_cut.specs.Homes.{MayHaveShape}
use Rattle.transcript_cut.proofs.Laws.{known_shaped}
use Rattle.chunk_forms.specs.Metadata.{with_shape}
use Rattle.chunk_forms.specs.Wants.{mismatch_of}
use Rattle.chunk_forms.specs.declared.form.Form.{Form}
use Rattle.chunk_forms.specs.declared.form.Form.TheVariants as form
use Rattle.chunk_forms.specs.declared.form.Want.{Want}
use Rattle.chunk_forms.specs.declared.form.Want.TheVariants as want
use Rattle.history.specs.Arrays.{form_of}
use Rattle.history.specs.Outcomes.{Outcome, unless_differs, exists, there}
use Rattle.stated_arrays.specs.Asked.{leaf_asked}
use Rattle.stated_arrays.specs.declared.asked.Asked.{Asked}

-- what follows where a call went well
pub on_ok : {T E P Q : Type 0} (r : Result T E) → (P → Q) → OnOk r P → OnOk r Q
on_ok (Ok x) f p = f p
on_ok (Err e) f p = tt

-- one item more
all_parts : {A : Type 0} (P : A → Type 0) (xs : List A) (x : A) → AllByRecursion P (xs ++ x ∷ []) → AllByRecursion P xs × P x
all_parts P [] x all = (tt, all.0)
all_parts P (y ∷ xs) x all = let rest = all_parts P xs x all.1 in ((all.0, rest.0), rest.1)

item_last : {A : Type 0} (xs : List A) (x : A) → slice_get (xs ++ x ∷ []) (length xs) ≡ Some x
item_last [] x = refl
item_last (y ∷ xs) x = item_last xs x

item_front : {A : Type 0} (xs ys : List A) (n : ℕ) (x : A) → slice_get xs n ≡ Some x → slice_get (xs ++ ys) n ≡ Some x
item_front [] ys n x is = let no : ⊥ = cc in absurd no
item_front (y ∷ xs) ys zero x is = is
item_front (y ∷ xs) ys (suc n) x is = item_front xs ys n x is

-- an array was opened by an event, and has the shape that it had then
pub record IsKnownBy (h : History) (k : Known) : Type 0 where
  pub at : ℕ
  pub event : Event
  pub number : k.opened ≡ at + 1
  pub there : slice_get h at ≡ Some event
  pub kind : event.kind ≡ Opened k.info
  pub shape : k.shape ≡ k.info.shape

pub known_by : (a : ℕ) (h : History) → AreStill h → (k : Known) → known_after h a ≡ Some k → IsKnownBy h k
known_by a =
    each_history (λ h. AreStill h → (k : Known) → known_after h a ≡ Some k → IsKnownBy h k) (λ still k is. absurd (no_array a k is))
    (λ h e before still k is.
    let parts = all_parts (λ (e : Event). IsStill e.kind) h e still in
    elim (known_split h e a k is) [
      | inl new ↦ record {
        at = length h;
        event = e;
        number = ap (λ (l : Known). l.opened) new.3;
        there = item_last h e;
        kind = new.1 ∙ ap (λ (l : Known). Opened l.info) (sym new.3);
        shape = ap (λ (l : Known). l.shape) new.3 ∙ ap (λ (l : Known). l.info.shape) (sym new.3);
      }
      | inr (inl cut) ↦ let never : ⊥ = subst IsStill cut.2 parts.1 in absurd never
      | inr (inr was) ↦ let old = before parts.0 k was in record {
        at = old.at;
        event = old.event;
        number = old.number;
        there = item_front h (e ∷ []) old.at old.event old.there;
        kind = old.kind;
        shape = old.shape;
      }
    ])

module _ (h : History) (opened : List ℕ) (places : Located) (is : AreKeptOf h opened places) (here : List ℕ) where
  -- no array lies there
  pub array_free : finmap.get places here ≡ None → IsArrayAt (array_at h here) None
  array_free none = by (array_at h here) (sym (is.table here) ∙ none)
    where
      by : (o : Option Known) → option_map (λ (k : Known). k.info.number) o ≡ None → IsArrayAt o None
      by None e = tt
      by (Some k) e = let no : ⊥ = cc in absurd no

  -- nor where one lies above or below
  pub array_clash : (other : List ℕ) → IsLeastClash places here other → IsArrayAt (array_at h here) None
  array_clash other clash = by (array_at h here) refl
    where
      by : (o : Option Known) → array_at h here ≡ o → IsArrayAt o None
      by None e = tt
      by (Some k) e =
          let apart = places_apart h places is.table (outline_legal h is.legal) here other k.info.number clash.number (is.table here ∙ ap (option_map (λ (k : Known). k.info.number)) e) clash.there in
          let no : true ≡ false = sym clash.clash ∙ apart in
          absurd (let never : ⊥ = cc in never)

  -- the array that lies there
  module _ (number : ℕ) (there : finmap.get places here ≡ Some number) where
    record IsThere : Type 0 where
      pub array : Known
      pub lies : array_at h here ≡ Some array
      pub own : known_after h array.info.number ≡ Some array
      pub known : known_after h number ≡ Some array

    is_there : IsThere
    is_there =
        let found = array_by_table h places is.table here number there in
        let own = array_at-known finmap.empty here h is.legal found.0 found.1 in
        record { array = found.0; lies = found.1; own = own; known = ap (known_after h) (sym found.2) ∙ own }

    by_event : IsKnownBy h is_there.array
    by_event = known_by number h is.still is_there.array is_there.known

    opened_so : IsOpenedAs h opened number is_there.array.info
    opened_so = (
      is_there.array.opened,
      is.numbered number is_there.array is_there.known,
      record { at = by_event.at; event = by_event.event; place = by_event.number; there = by_event.there; kind = by_event.kind },
    )

    pub opened_there : (info : ArrayInfo) × IsOpenedAs h opened number info
    opened_there = (is_there.array.info, opened_so)

    -- whatever is told of it
    module _ (info : ArrayInfo) (same : (i : ArrayInfo) → IsOpenedAs h opened number i → info ≡ i) where
      its_info : info ≡ is_there.array.info
      its_info = same is_there.array.info opened_so

      its_shape : is_there.array.shape ≡ info.shape
      its_shape = by_event.shape ∙ ap (λ (i : ArrayInfo). i.shape) (sym its_info)

      pub may_shape : MayHaveShape info.home info.shape
      may_shape =
          subst (λ (i : ArrayInfo). MayHaveShape i.home info.shape) (sym its_info)
          (subst (MayHaveShape is_there.array.info.home) its_shape (known_shaped finmap.empty number h is.legal is_there.array is_there.known).stored)

      pub array_there : IsArrayAt (array_at h here) (Some info)
      array_there = subst (λ o. IsArrayAt o (Some info)) (sym is_there.lies) (sym its_info, its_shape)

module _ (h : History) (opened : List ℕ) (places : Located) (is : AreKeptOf h opened places) (leaf : Leaf) where
  abbrev place : List ℕ
  place = location_of_leaf leaf

  abbrev otherwise : Option (List ℕ) → Outcome
  otherwise t = unless_taken t (outcome_at leaf nothing (array_at h place))

  pub outcome_taken : (other : List ℕ) → IsLeastClash places place other → opening_outcome h leaf nothing ≡ path_taken other
  outcome_taken other clash = ap otherwise (taken_by_table h places is.table place other clash)

  pub outcome_free : finmap.get places place ≡ None → HasNoClash places place → opening_outcome h leaf nothing ≡ outcome_in_store leaf nothing
  outcome_free none clear =
      let free = free_of h places is.table place (outline_legal h is.legal) none clear in
      ap otherwise free.alone ∙ ap (outcome_at leaf nothing) free.empty

  module _ (number : ℕ) (there : finmap.get places place ≡ Some number) (clear : HasNoClash places place) (info : ArrayInfo) (same : (i : ArrayInfo) → IsOpenedAs h opened number i → info ≡ i) where
    outcome_there : opening_outcome h leaf nothing ≡ outcome_at leaf nothing (Some (is_there h opened places is place number there).array)
    outcome_there = ap otherwise (not_taken_by_table h places is.table place clear) ∙ ap (outcome_at leaf nothing) (is_there h opened places is place number there).lies

    pub told_there : (told : LeafOutcome) → ((events : History) (k : Known) → known_after events info.number ≡ Some k → k.info ≡ info → k.shape ≡ info.shape → IsToldAs events told (outcome_at leaf nothing (Some k)))
        → IsToldAs h told (opening_outcome h leaf nothing)
    told_there told each =
        let it = is_there h opened places is place number there in
        let same_info = its_info h opened places is place number there info same in
        subst (IsToldAs h told) (sym outcome_there)
        (each h it.array (ap (λ (i : ArrayInfo). known_after h i.number) same_info ∙ it.own) (sym same_info) (its_shape h opened places is place number there info same))

-- the shape that metadata was opened with doesn't count beside the present one
mismatch_shaped : (w : Want) (f : Form) (shape : List ℕ) → mismatch_of w (with_shape f shape) shape ≡ mismatch_of w f shape
mismatch_shaped (want.Zarr w) (form.Zarr m) shape = refl
mismatch_shaped (want.Zarr w) (form.N5 m) shape = refl
mismatch_shaped (want.Zarr w) (form.Zarr3 m) shape = refl
mismatch_shaped (want.Zarr w) form.Local shape = refl
mismatch_shaped (want.N5 w) (form.Zarr m) shape = refl
mismatch_shaped (want.N5 w) (form.N5 m) shape = refl
mismatch_shaped (want.N5 w) (form.Zarr3 m) shape = refl
mismatch_shaped (want.N5 w) form.Local shape = refl
mismatch_shaped (want.Zarr3 w) (form.Zarr m) shape = refl
mismatch_shaped (want.Zarr3 w) (form.N5 m) shape = refl
mismatch_shaped (want.Zarr3 w) (form.Zarr3 m) shape = refl
mismatch_shaped (want.Zarr3 w) form.Local shape = refl

-- an array that may be opened, by its metadata with its first shape
pub checked_by : (asked : Asked) (info : ArrayInfo) (f : Form) (k : Known) → asked.may_open ≡ true → f ≡ with_shape (form_of info.home) info.shape → k.info ≡ info → k.shape ≡ info.shape
    → outcome_at (leaf_asked asked) nothing (Some k) ≡ unless_differs (mismatch_of asked.want f info.shape) (there k)
checked_by asked info f k may is same shape =
    ap (λ b. cond b (unless_differs (mismatch_of asked.want (form_of k.info.home) k.shape) (there k)) exists) may
    ∙ ap (λ s. unless_differs (mismatch_of asked.want (form_of k.info.home) s) (there k)) shape
    ∙ ap (λ (i : ArrayInfo). unless_differs (mismatch_of asked.want (form_of i.home) info.shape) (there k)) same
    ∙ ap (λ m. unless_differs m (there k)) (sym (mismatch_shaped asked.want (form_of info.home) info.shape))
    ∙ ap (λ g. unless_differs (mismatch_of asked.want g info.shape) (there k)) (sym is)

-- one that may not be opened
pub closed_by : (asked : Asked) (k : Known) → asked.may_open ≡ false → outcome_at (leaf_asked asked) nothing (Some k) ≡ exists
closed_by asked k closed = ap (λ b. cond b (unless_differs (mismatch_of asked.want (form_of k.info.home) k.shape) (there k)) exists) closed

-- the places behind one event more
pub next_placed : (e : Event) (info : ArrayInfo) (old new : Located) → e.kind ≡ Opened info → new ≡ placed_by (location info.home) info.number old → (h : History) → IsTable h old → IsTable (h ++ e ∷ []) new
next_placed e info old new opens placed h table = by (location info.home) refl placed
  where
    same : opened_event e.owner info ≡ e
    same = ap (λ (k : Kind). record { owner = e.owner; kind = k }) (sym opens)

    by : (l : Option (List ℕ)) → location info.home ≡ l → new ≡ placed_by l info.number old → IsTable (h ++ e ∷ []) new
    by None lies is = subst (IsTable (h ++ e ∷ [])) (sym is) (subst (λ (f : Event). IsTable (h ++ f ∷ []) old) same (table_same h (opened_event e.owner info) old lies table))
    by (Some here) lies is = subst (IsTable (h ++ e ∷ [])) (sym is) (table_opened h e info here old opens lies table)

pub next_same : (e : Event) (old new : Located) → ((info : ArrayInfo) → e.kind ≡ Opened info → ⊥) → new ≡ old → (h : History) → IsTable h old → IsTable (h ++ e ∷ []) new
next_same e old new never is h table = subst (IsTable (h ++ e ∷ [])) (sym is) (by e.kind refl)
  where
    by : (kind : Kind) → e.kind ≡ kind → IsTable (h ++ e ∷ []) old
    by (Opened info) opens = absurd (never info opens)
    by (Done line mode ops key) kind = subst (λ (f : Event). IsTable (h ++ f ∷ []) old) (ap (λ (k : Kind). record { owner = e.owner; kind = k }) (sym kind)) (table_same h (record { owner = e.owner; kind = Done line mode ops key }) old tt table)
    by (Resized a shape) kind = subst (λ (f : Event). IsTable (h ++ f ∷ []) old) (ap (λ (k : Kind). record { owner = e.owner; kind = k }) (sym kind)) (table_same h (record { owner = e.owner; kind = Resized a shape }) old tt table)
    by (Fault mount) kind = subst (λ (f : Event). IsTable (h ++ f ∷ []) old) (ap (λ (k : Kind). record { owner = e.owner; kind = k }) (sym kind)) (table_same h (record { owner = e.owner; kind = Fault mount }) old tt table)
