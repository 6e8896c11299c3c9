-- Arrays that are opened one after another, with the tables that are kept of them.
use Rattle.std.proofs.Common.{◌≡◌, ℕ, ◌+◌, ◌<◌, ◌^◌, inl, inr, zero, suc, List, [], ◌∷◌, ◌++◌, Bool, true, false, cond, Option, Some, None, Result, Ok, Err, length, refl, sym, ap, subst, ◌∙◌, arith}
use Rattle.std.proofs.lemmas.Grind.{fold-append}
use Rattle.std.proofs.lemmas.List.{length-append}
use Rattle.std.proofs.lemmas.Map.Text.{is_eq-slice_cmp}
use Rattle.std.proofs.lemmas.Slice.Eq.{bytes_eq-Decides}
use Rattle.std.specs.Prelude.{count_by, is_some, option_map, OnOk}
use Rattle.std.specs.List.{slice_get}
use Rattle.std.specs.FinMap as finmap
use Rattle.std.specs.FinMap.{get-insert}
use Rattle.std.specs.Ordering.{nat_cmp, is_eq}
use Rattle.std.specs.Cmp.Lexicographic.{slice_cmp, nat_list_cmp_total}
use Rattle.cells.specs.Dense.{DenseCells, IsDense}
use Rattle.chunk_forms.specs.Made.{form_made, with_chunks, zarr_made, n5_made, zarr3_made}
use Rattle.chunk_forms.specs.Metadata.{IsMetadata, is_local}
use Rattle.chunk_forms.specs.declared.form.Form.{Form}
use Rattle.chunk_forms.specs.declared.form.Want.{Want}
use Rattle.chunk_forms.specs.declared.form.Want.TheVariants as want
use Rattle.locations.specs.Paths.{Located, IsLeastClash, HasNoClash, clashes}
use Rattle.history.specs.declared.array.ArrayInfo.{ArrayInfo}
use Rattle.history.specs.declared.event.Event.{Event}
use Rattle.history.specs.declared.event.Kind.{Kind}
use Rattle.history.specs.declared.event.Kind.TheVariants.{Opened, Done, Resized, Fault}
use Rattle.history.specs.Arrays.{Known}
use Rattle.history.specs.History.{History}
use Rattle.history.specs.Leaves.{Leaf, location_of_leaf}
use Rattle.history.specs.Legal.{IsLegal, IsLegalOpening, IsLegalResize, IsLegalKind, IsMount, is_opening}
use Rattle.history.specs.Lines.{given, stored}
use Rattle.history.specs.OpenRows.{next_array, given_info}
use Rattle.history.specs.Outcomes.{new_info}
use Rattle.history.specs.Own.{opened_event, fault}
use Rattle.history.specs.Places.{array_at, location, IsTable, IsFree}
use Rattle.history.specs.Answers.{Text}
use Rattle.history.proofs.Laws.{each_history, legal_step, legal_more, known_split, known_after-more, no_array, none_is_none, some_inj, table_none, table_opened, table_same, array_by_table, local_opening}
use Rattle.transcript_cut.specs.Outline.{outline, outlined, outlined_event}
use Rattle.transcript_cut.proofs.Laws.{opening_new, location_new}
use Rattle.transcript_cut.proofs.Laws.{places_apart}
use Rattle.transcript_cut.proofs.Laws.{free_of}
use Rattle.transcript_cut.proofs.Laws.{outline-more, outline_opening, known-outline}
use Rattle.transcript_cut.specs.Takings.{made_info}
use Rattle.stated_arrays.specs.Served.{AreOpenedAt, AreArraysOf, was_there, IsNewBy, IsNeverBy}
use Rattle.stated_arrays.specs.Still.{IsStill, AreStill}
use Rattle.stated_arrays.specs.declared.arrays.StatedArrays.{StatedArrays}

-- the outline of a legal history is legal
pub outline_legal : (h : History) → IsLegal finmap.empty h → IsLegal finmap.empty (outline h)
outline_legal =
    each_history (λ h. IsLegal finmap.empty h → IsLegal finmap.empty (outline h)) (λ legal. legal)
    (λ h e before legal.
    let parts = legal_step finmap.empty h e legal in
    subst (IsLegal finmap.empty) (sym (outline-more h e)) (legal_more finmap.empty (outline h) _ (before parts.0) (by h e.kind parts.1)))
  where
    by : (h : History) (kind : Kind) → IsLegalKind finmap.empty h kind → IsLegalKind finmap.empty (outline h) (outlined kind)
    by h (Opened info) is = outline_opening h info is
    by h (Done line mode ops key) is = tt
    by h (Resized a shape) is = subst (λ known. IsLegalResize known shape) (sym (known-outline a h)) is
    by h (Fault mount) is = tt

-- what is made of what is asked is stored
with_stored : (make : List ℕ → Form) (r : Result (List ℕ) (List ℕ)) (meta : Form) → with_chunks make r ≡ Ok meta → ((chunks : List ℕ) → is_local (make chunks) ≡ false) → is_local meta ≡ false
with_stored make (Ok chunks) meta is each = let same : make chunks ≡ meta = cc in subst (λ m. is_local m ≡ false) same (each chunks)
with_stored make (Err member) meta is each = let no : ⊥ = cc in absurd no

pub made_stored : (w : Want) (meta : Form) → form_made w ≡ Ok meta → is_local meta ≡ false
made_stored (want.Zarr w) meta is = by w.shape w.dtype is
  where
    by : (s : Option (List ℕ)) (d : _) → zarr_made w s d ≡ Ok meta → is_local meta ≡ false
    by None d is = let no : ⊥ = cc in absurd no
    by (Some s) None is = let no : ⊥ = cc in absurd no
    by (Some s) (Some d) is = with_stored _ _ meta is (λ chunks. refl)
made_stored (want.N5 w) meta is = by w.dimensions w.dtype is
  where
    by : (s : Option (List ℕ)) (d : _) → n5_made w s d ≡ Ok meta → is_local meta ≡ false
    by None d is = let no : ⊥ = cc in absurd no
    by (Some s) None is = let no : ⊥ = cc in absurd no
    by (Some s) (Some d) is = with_stored _ _ meta is (λ chunks. refl)
made_stored (want.Zarr3 w) meta is = by w.shape w.dtype is
  where
    by : (s : Option (List ℕ)) (d : _) → zarr3_made w s d ≡ Ok meta → is_local meta ≡ false
    by None d is = let no : ⊥ = cc in absurd no
    by (Some s) None is = let no : ⊥ = cc in absurd no
    by (Some s) (Some d) is = with_stored _ _ meta is (λ chunks. refl)

-- no event
none_opened : AreOpenedAt [] []
none_opened = record { count = refl; each = λ a k is. absurd (no_array a k is) }

still_more : (h : History) (e : Event) → AreStill h → IsStill e.kind → AreStill (h ++ e ∷ [])
still_more [] e all is = (is, tt)
still_more (f ∷ h) e all is = (all.0, still_more h e all.1 is)

flat_more : (h : History) (e : Event) → outlined_event e ≡ e → outline h ≡ h → outline (h ++ e ∷ []) ≡ h ++ e ∷ []
flat_more h e is flat = outline-more h e ∙ ap (λ g. g ++ outlined_event e ∷ []) flat ∙ ap (λ f. h ++ f ∷ []) is

pub no_arrays : (arrays : StatedArrays) → arrays.events.items ≡ [] → arrays.opened.items ≡ [] → arrays.places ≡ finmap.empty → AreArraysOf arrays
no_arrays arrays events opened places = record {
  legal = subst (IsLegal finmap.empty) (sym events) tt;
  flat = subst (λ h. outline h ≡ h) (sym events) refl;
  still = subst AreStill (sym events) tt;
  opened = subst (λ h. AreOpenedAt h arrays.opened.items) (sym events) (subst (AreOpenedAt []) (sym opened) none_opened);
  places = subst (λ h. IsTable h arrays.places) (sym events) (subst (IsTable []) (sym places) table_none);
}

count_more : (h : History) (e : Event) → count_by is_opening (h ++ e ∷ []) ≡ count_by is_opening h + cond (is_opening e) 1 0
count_more h e = fold-append (λ a x. a + cond {A = ℕ} (is_opening x) 1 0) 0 h (e ∷ [])

none_more : (a b c : ℕ) → a ≡ b → c ≡ b + 0 → a ≡ c
none_more a b c same more = omega (arith, same, more)

one_more : (a b c d : ℕ) → a ≡ b → c ≡ b + 1 → d ≡ a + 1 → d ≡ c
one_more a b c d same more size = omega (arith, same, more, size)

-- an event that counts as nothing
fault_opened : (h : History) (owner : ℕ) (mount : Text) (opened : List ℕ) → AreOpenedAt h opened → AreOpenedAt (h ++ fault owner mount ∷ []) opened
fault_opened h owner mount opened are =
    let e = fault owner mount in
    let more : count_by is_opening (h ++ e ∷ []) ≡ count_by is_opening h + 0 = count_more h e in
    record {
      count = none_more (length opened) (count_by is_opening h) (count_by is_opening (h ++ e ∷ [])) are.count more;
      each = λ a k is. are.each a k (sym (known_after-more h e a) ∙ is);
    }

pub fault_arrays : (old new : StatedArrays) (owner : ℕ) (mount : Text) → AreArraysOf old → new.events.items ≡ old.events.items ++ fault owner mount ∷ [] → new.opened.items ≡ old.opened.items → new.places ≡ old.places → AreArraysOf new
fault_arrays old new owner mount are events opened places =
    let h = old.events.items in
    let e = fault owner mount in
    record {
      legal = subst (IsLegal finmap.empty) (sym events) (legal_more finmap.empty h e are.legal tt);
      flat = subst (λ g. outline g ≡ g) (sym events) (flat_more h e refl are.flat);
      still = subst AreStill (sym events) (still_more h e are.still tt);
      opened = subst (λ g. AreOpenedAt g new.opened.items) (sym events) (subst (AreOpenedAt (h ++ e ∷ [])) (sym opened) (fault_opened h owner mount old.opened.items are.opened));
      places = subst (λ g. IsTable g new.places) (sym events) (subst (IsTable (h ++ e ∷ [])) (sym places) (table_same h e old.places tt are.places));
    }

-- an opening
get_last : (xs : List ℕ) (x n : ℕ) → n ≡ length xs → slice_get (xs ++ x ∷ []) n ≡ Some x
get_last [] x zero is = refl
get_last [] x (suc n) is = absurd (omega (arith, is))
get_last (y ∷ xs) x zero is = absurd (omega (arith, is))
get_last (y ∷ xs) x (suc n) is = get_last xs x n (omega (arith, is))

get_front : (xs ys : List ℕ) (n x : ℕ) → slice_get xs n ≡ Some x → slice_get (xs ++ ys) n ≡ Some x
get_front [] ys n x is = let no : ⊥ = cc in absurd no
get_front (y ∷ xs) ys zero x is = is
get_front (y ∷ xs) ys (suc n) x is = get_front xs ys n x is

opened_kind : (info other : ArrayInfo) → Opened info ≡ Opened other → info ≡ other
opened_kind info other is = cc

not_resized : (info : ArrayInfo) (a : ℕ) (shape : List ℕ) → Opened info ≡ Resized a shape → ⊥
not_resized info a shape is = cc

opening_opened : (h : History) (owner : ℕ) (info : ArrayInfo) (opened : List ℕ) → IsLegalOpening h info → AreOpenedAt h opened → AreOpenedAt (h ++ opened_event owner info ∷ []) (opened ++ (length h + 1) ∷ [])
opening_opened h owner info opened legal are =
    let e = opened_event owner info in
    let more : count_by is_opening (h ++ e ∷ []) ≡ count_by is_opening h + 1 = count_more h e in
    let size : length (opened ++ (length h + 1) ∷ []) ≡ length opened + 1 = length-append opened ((length h + 1) ∷ []) in
    record {
      count = one_more (length opened) (count_by is_opening h) (count_by is_opening (h ++ e ∷ [])) (length (opened ++ (length h + 1) ∷ [])) are.count more size;
      each = λ a k is. elim (known_split h e a k is) [
        | inl new ↦
            let same : info ≡ new.0 = opened_kind info new.0 new.1 in
            let at : a ≡ length opened = sym new.2 ∙ ap (λ (i : ArrayInfo). i.number) (sym same) ∙ legal.number ∙ sym are.count in
            get_last opened (length h + 1) a at ∙ ap Some (ap (λ (l : Known). l.opened) (sym new.3))
        | inr (inl cut) ↦ absurd (not_resized info a cut.1 cut.2)
        | inr (inr was) ↦ get_front opened ((length h + 1) ∷ []) a k.opened (are.each a k was)
      ];
    }

pub opening_arrays : (old new : StatedArrays) (owner : ℕ) (info : ArrayInfo) → AreArraysOf old → IsLegalOpening old.events.items info → new.events.items ≡ old.events.items ++ opened_event owner info ∷ []
    → new.opened.items ≡ old.opened.items ++ (length old.events.items + 1) ∷ [] → IsTable (old.events.items ++ opened_event owner info ∷ []) new.places → AreArraysOf new
opening_arrays old new owner info are legal events opened places =
    let h = old.events.items in
    let e = opened_event owner info in
    record {
      legal = subst (IsLegal finmap.empty) (sym events) (legal_more finmap.empty h e are.legal legal);
      flat = subst (λ g. outline g ≡ g) (sym events) (flat_more h e refl are.flat);
      still = subst AreStill (sym events) (still_more h e are.still tt);
      opened = subst (λ g. AreOpenedAt g new.opened.items) (sym events) (subst (AreOpenedAt (h ++ e ∷ [])) (sym opened) (opening_opened h owner info old.opened.items legal are.opened));
      places = subst (λ g. IsTable g new.places) (sym events) places;
    }

-- of an array that lies nowhere, and at a location
pub nowhere : (old new : StatedArrays) (owner : ℕ) (info : ArrayInfo) → AreArraysOf old → location info.home ≡ None → new.places ≡ old.places → IsTable (old.events.items ++ opened_event owner info ∷ []) new.places
nowhere old new owner info are none places =
    subst (IsTable (old.events.items ++ opened_event owner info ∷ [])) (sym places) (table_same old.events.items (opened_event owner info) old.places none are.places)

pub somewhere : (old new : StatedArrays) (owner : ℕ) (info : ArrayInfo) (here : List ℕ) → AreArraysOf old → location info.home ≡ Some here → new.places ≡ finmap.insert old.places here info.number → IsTable (old.events.items ++ opened_event owner info ∷ []) new.places
somewhere old new owner info here are at places =
    subst (IsTable (old.events.items ++ opened_event owner info ∷ [])) (sym places) (table_opened old.events.items (opened_event owner info) info here old.places refl at are.places)

-- a local array may be opened
pub given_legal : (h : History) (cells : DenseCells) (number : ℕ) → IsLegal finmap.empty h → length h + 1 < 2 ^ 64 → number ≡ next_array h → IsDense cells → IsLegalOpening h (given_info number cells)
given_legal h cells number legal small count dense = local_opening finmap.empty h (given_info number cells) cells legal small count refl (record { valid = dense; shape = refl; dtype = refl; fill = refl })

pub given_new : (old new : History) (owner number : ℕ) (cells : DenseCells) → number ≡ next_array old → IsLegalOpening old (given_info number cells) → new ≡ old ++ opened_event owner (given_info number cells) ∷ [] → IsNewBy old new owner (given cells)
given_new old new owner number cells count legal events = record {
  fresh = refl;
  info = given_info number cells;
  opened = ap (λ n. Some (given_info n cells)) (sym count);
  legal = legal;
  events = events;
}

-- a stored one may be opened at a free location
module _ (h : History) (leaf : Leaf) where
  pub made_legal : (meta : Form) (number : ℕ) → IsLegal finmap.empty h → IsFree h (location_of_leaf leaf) → IsMount leaf.mount → IsMetadata meta → is_local meta ≡ false → number ≡ next_array h → IsLegalOpening h (new_info number leaf meta)
  made_legal meta number legal free mount valid stored_ count =
      subst (λ n. IsLegalOpening h (new_info n leaf meta)) (sym count) (opening_new h leaf meta (outline_legal h legal) free mount valid stored_)

  free_fresh : (node : Text) → IsFree h (location_of_leaf leaf) → was_there h (stored node leaf) ≡ false
  free_fresh node free = ap is_some free.empty

  pub made_new : (new : History) (node : Text) (owner number : ℕ) (meta : Form) → number ≡ next_array h → IsFree h (location_of_leaf leaf) → form_made leaf.want ≡ Ok meta → IsLegalOpening h (new_info number leaf meta)
      → new ≡ h ++ opened_event owner (new_info number leaf meta) ∷ [] → IsNewBy h new owner (stored node leaf)
  made_new new node owner number meta count free made legal events = record {
    fresh = free_fresh node free;
    info = new_info number leaf meta;
    opened = ap (made_info (next_array h) leaf) made ∙ ap (λ n. Some (new_info n leaf meta)) (sym count);
    legal = legal;
    events = events;
  }

  pub unmade : (node : Text) (member : List ℕ) → IsFree h (location_of_leaf leaf) → form_made leaf.want ≡ Err member → IsNeverBy h (stored node leaf)
  unmade node member free undetermined = record {
    fresh = free_fresh node free;
    never = λ info is. absurd (let none : None ≡ Some info = sym (ap (made_info (next_array h) leaf) undetermined) ∙ is in none_is_none info none);
  }

  module _ (places : Located) (table : IsTable h places) where
    pub found_there : (node : Text) (number : ℕ) → finmap.get places (location_of_leaf leaf) ≡ Some number → was_there h (stored node leaf) ≡ true
    found_there node number is = let there = array_by_table h places table (location_of_leaf leaf) number is in ap is_some there.1

    pub found_free : IsLegal finmap.empty h → finmap.get places (location_of_leaf leaf) ≡ None → HasNoClash places (location_of_leaf leaf) → IsFree h (location_of_leaf leaf)
    found_free legal none clear = free_of h places table (location_of_leaf leaf) (outline_legal h legal) none clear

    -- another array lies above or below
    module _ (legal : IsLegal finmap.empty h) (other : List ℕ) (clash : IsLeastClash places (location_of_leaf leaf) other) where
      abbrev here : List ℕ
      here = location_of_leaf leaf

      taken_fresh : (node : Text) → was_there h (stored node leaf) ≡ false
      taken_fresh node = by (finmap.get places here) refl
        where
          by : (o : Option ℕ) → finmap.get places here ≡ o → was_there h (stored node leaf) ≡ false
          by None none = absent (array_at h here) refl (sym (table here) ∙ none)
            where
              absent : (o : Option Known) → array_at h here ≡ o → option_map (λ (k : Known). k.info.number) o ≡ None → was_there h (stored node leaf) ≡ false
              absent None at none = ap is_some at
              absent (Some k) at none = let no : ⊥ = cc in absurd no
          by (Some n) there =
              let apart : clashes here other ≡ false = places_apart h places table (outline_legal h legal) here other n clash.number there clash.there in
              let no : true ≡ false = sym clash.clash ∙ apart in absurd (cc)

      taken_illegal : (info : ArrayInfo) → location info.home ≡ Some here → IsLegalOpening h info → ⊥
      taken_illegal info at opening =
          let e = opened_event 0 info in
          let longer = outline_legal (h ++ e ∷ []) (legal_more finmap.empty h e legal opening) in
          let more = table_opened h e info here places refl at table in
          let itself : is_eq (slice_cmp nat_cmp here here) ≡ true = is_eq-slice_cmp here here ∙ (bytes_eq-Decides here here).1 refl in
          let one : finmap.get (finmap.insert places here info.number) here ≡ Some info.number =
          get-insert nat_list_cmp_total places here info.number here ∙ ap (λ b. cond b (Some info.number) (finmap.get places here)) itself in
          let two = either (is_eq (slice_cmp nat_cmp other here)) (Some info.number) (finmap.get places other) info.number clash.number refl clash.there in
          let apart : clashes here other ≡ false = places_apart (h ++ e ∷ []) (finmap.insert places here info.number) more longer here other info.number two.0 one
          (get-insert nat_list_cmp_total places here info.number other ∙ two.1) in
          let no : true ≡ false = sym clash.clash ∙ apart in cc
        where
          either : (b : Bool) (x y : Option ℕ) (n m : ℕ) → x ≡ Some n → y ≡ Some m → (k : ℕ) × (cond b x y ≡ Some k)
          either true x y n m is are = (n, is)
          either false x y n m is are = (m, are)

      pub taken_never : (node : Text) → IsNeverBy h (stored node leaf)
      taken_never node = record {
        fresh = taken_fresh node;
        never = λ info is opening. taken_illegal info (new_at (form_made leaf.want) info refl is) opening;
      }
        where
          new_at : (r : Result Form (List ℕ)) (info : ArrayInfo) → form_made leaf.want ≡ r → made_info (next_array h) leaf r ≡ Some info → location info.home ≡ Some here
          new_at (Ok meta) info made is =
              let same : new_info (next_array h) leaf meta ≡ info = some_inj (new_info (next_array h) leaf meta) info is in
              subst (λ (i : ArrayInfo). location i.home ≡ Some here) same (location_new leaf.mount leaf.path meta (made_stored leaf.want meta made))
          new_at (Err member) info made is = absurd (none_is_none info is)

-- what holds where two things do
pub with_both : {T E P Q R : Type 0} (r : Result T E) → (P → Q → R) → OnOk r P → OnOk r Q → OnOk r R
with_both (Ok x) f p q = f p q
with_both (Err e) f p q = tt
