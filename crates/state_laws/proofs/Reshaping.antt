-- The arrays by their numbers after a new shape.
use Rattle.std.proofs.Common.{◌≡◌, ◌≢◌, ℕ, zero, suc, ◌+◌, ◌<◌, List, [], ◌∷◌, ◌++◌, length, Bool, true, false, cond, Option, Some, None, inl, inr, refl, sym, ap, subst, ◌∙◌, arith, eq-eqb}
use Rattle.std.specs.Prelude.{◌==◌, count_by, map, set, slice_index_or, take, drop}
use Rattle.std.specs.List.{slice_get, AllByRecursion}
use Rattle.history.specs.declared.Form.{Form}
use Rattle.history.specs.Metadata.{shape_of, with_shape}
use Rattle.cells.proofs.Laws.{equal_or_not}
use Rattle.history.specs.declared.array.Home.{Home}
use Rattle.history.specs.declared.array.Home.TheVariants.{Zarr, N5, Zarr3, Local}
use Rattle.history.specs.declared.event.Kind.{Kind}
use Rattle.history.specs.declared.event.Kind.TheVariants.{Opened, Done, Resized, Fault}
use Rattle.history.specs.declared.event.Event.{Event}
use Rattle.history.specs.History.{History}
use Rattle.history.specs.Arrays.{Known, known_after, known_reshaped, form_of, is_local}
use Rattle.history.specs.Legal.{is_opening}
use Rattle.history.specs.Own.{resized_event}
use Rattle.history.specs.Places.{array_at, reshaped_at}
use Rattle.history.specs.Store.{resized_after}
use Rattle.history.proofs.Laws.{known_after-more, resized_after-more, some_inj, length-more, array_at-more}
use Rattle.state_laws.specs.declared.arrays.Entry.{Entry}
use Rattle.state_laws.specs.Indexed.{shape_now, known_of, opened_by, opened_at_event, resized_of, IsFormOf, AreArrays}
use Rattle.state_laws.proofs.Indexing.{count_more, differs, get_front, known_more, place_below, within_more}

pub get_set_here : {A : Type 0} (xs : List A) (n : ℕ) (y : A) → n < length xs → slice_get (set xs n y) n ≡ Some y
get_set_here [] n y lt = absurd (omega arith)
get_set_here (x ∷ xs) zero y lt = refl
get_set_here (x ∷ xs) (suc n) y lt = get_set_here xs n y (omega arith)

get_set_other : {A : Type 0} (xs : List A) (n a : ℕ) (y : A) → n ≢ a → slice_get (set xs n y) a ≡ slice_get xs a
get_set_other [] n a y other = refl
get_set_other (x ∷ xs) zero zero y other = absurd (other refl)
get_set_other (x ∷ xs) zero (suc a) y other = refl
get_set_other (x ∷ xs) (suc n) zero y other = refl
get_set_other (x ∷ xs) (suc n) (suc a) y other = get_set_other xs n a y (λ same. other (ap suc same))

pub below : {A : Type 0} (xs : List A) (n : ℕ) (x : A) → slice_get xs n ≡ Some x → n < length xs
below [] n x is = absurd (cc)
below (y ∷ xs) zero x is = omega arith
below (y ∷ xs) (suc n) x is = let low = below xs n x is in omega arith

-- an entry by another shape
abbrev pub reshaped : Entry → Form → ℕ → Entry
reshaped e form n = record e { form = form; resized = n }

length_set : {A : Type 0} (xs : List A) (n : ℕ) (x : A) → length (set xs n x) ≡ length xs
length_set [] n x = refl
length_set (y ∷ xs) zero x = refl
length_set (y ∷ xs) (suc n) x = ap suc (length_set xs n x)

pub count_set : (es : List Entry) (n : ℕ) (e : Entry) → length (set es n e) ≡ length es
count_set es n e = length_set es n e

pub locals_same : (es : List Entry) (n : ℕ) (e : Entry) (form : Form) (number : ℕ) → slice_get es n ≡ Some e → map (λ (f : Entry). f.local) (set es n (reshaped e form number)) ≡ map (λ (f : Entry). f.local) es
locals_same [] n e form number is = absurd (cc)
locals_same (f ∷ es) zero e form number is = ap (λ (g : Entry). g.local ∷ map (λ (f : Entry). f.local) es) (sym (some_inj f e is))
locals_same (f ∷ es) (suc n) e form number is = ap (λ ls. f.local ∷ ls) (locals_same es n e form number is)

within_set : (m : ℕ) (es : List Entry) (n : ℕ) (e : Entry) → e.place < m → AllByRecursion (λ (f : Entry). f.place < m) es → AllByRecursion (λ (f : Entry). f.place < m) (set es n e)
within_set m [] n e low all = tt
within_set m (f ∷ es) zero e low all = (low, all.1)
within_set m (f ∷ es) (suc n) e low all = (all.0, within_set m es n e low all.1)

shape_with : (home : Home) (shape : List ℕ) → is_local home ≡ false → shape_of (with_shape (form_of home) shape) ≡ shape
shape_with (Zarr mount path meta) shape stored = refl
shape_with (N5 mount path meta) shape stored = refl
shape_with (Zarr3 mount path meta) shape stored = refl
shape_with (Local start) shape stored = absurd (cc)

-- what an entry tells once it has another shape
reshaped_kind : (e : Entry) (kind : Kind) (k : Known) (form : Form) (n : ℕ) (shape : List ℕ) → opened_by e kind ≡ Some k → is_local k.info.home ≡ false → shape_of form ≡ shape → opened_by (reshaped e form n) kind ≡ Some (record k { shape = shape })
reshaped_kind e (Opened info) k form n shape is stored size =
    let same : record { info = info; opened = e.place + 1; shape = shape_now info e.form } ≡ k = some_inj _ k is in
    let here : is_local info.home ≡ false = ap (λ (j : Known). is_local j.info.home) same ∙ stored in
    ap (λ s. Some (record { info = info; opened = e.place + 1; shape = s })) (ap (λ b. cond b info.shape (shape_of form)) here ∙ size)
    ∙ ap (λ (j : Known). Some (record j { shape = shape })) same
reshaped_kind e (Done line mode ops key) k form n shape is stored size = absurd (cc)
reshaped_kind e (Resized b s) k form n shape is stored size = absurd (cc)
reshaped_kind e (Fault mount) k form n shape is stored size = absurd (cc)

reshaped_event : (e : Entry) (o : Option Event) (k : Known) (form : Form) (n : ℕ) (shape : List ℕ) → opened_at_event e o ≡ Some k → is_local k.info.home ≡ false → shape_of form ≡ shape → opened_at_event (reshaped e form n) o ≡ Some (record k { shape = shape })
reshaped_event e None k form n shape is stored size = absurd (cc)
reshaped_event e (Some event) k form n shape is stored size = reshaped_kind e event.kind k form n shape is stored size

module _ (h : History) (es : List Entry) (owner b : ℕ) (shape : List ℕ) (form : Form) (k : Known) (e : Entry) (old : AreArrays h es) (known : known_after h b ≡ Some k) (entry : slice_get es b ≡ Some e) (stored : is_local k.info.home ≡ false)
    (form_is : form ≡ with_shape (form_of k.info.home) shape) where
  abbrev ev : Event
  ev = resized_event owner b shape

  abbrev later : History
  later = h ++ ev ∷ []

  abbrev new : Entry
  new = reshaped e form (length h + 1)

  abbrev more : List Entry
  more = set es b new

  low : e.place < length h
  low = place_below (length h) es b e old.within entry

  size : shape_of form ≡ shape
  size = ap shape_of form_is ∙ shape_with k.info.home shape stored

  here : slice_get more b ≡ Some new
  here = get_set_here es b new (below es b e entry)

  known_here : known_after later b ≡ Some (record k { shape = shape })
  known_here = known_after-more h ev b ∙ ap (λ t. cond t (known_reshaped shape (known_after h b)) (known_after h b)) (eq-eqb b b refl) ∙ ap (known_reshaped shape) known

  told_here : known_of later (slice_get more b) ≡ Some (record k { shape = shape })
  told_here =
      ap (known_of later) here ∙ ap (opened_at_event new) (get_front h (ev ∷ []) e.place low)
      ∙ reshaped_event e (slice_get h e.place) k form (length h + 1) shape (ap (known_of h) (sym entry) ∙ sym (old.known b) ∙ known) stored size

  known_other : (a : ℕ) → b ≢ a → known_after later a ≡ known_after h a
  known_other a other = known_after-more h ev a ∙ ap (λ t. cond t (known_reshaped shape (known_after h a)) (known_after h a)) (differs b a other)

  there_by : (place : List ℕ) (j l : Known) (t : Bool) → (b == j.info.number) ≡ t → array_at h place ≡ Some j → cond t (Some (record j { shape = shape })) (Some j) ≡ Some l → known_after later l.info.number ≡ Some l
  there_by place j l true test at is =
      let same : record j { shape = shape } ≡ l = some_inj (record j { shape = shape }) l is in
      subst (λ (m : Known). known_after later m.info.number ≡ Some m) same
      (known_after-more h ev j.info.number ∙ ap (λ t. cond t (known_reshaped shape (known_after h j.info.number)) (known_after h j.info.number)) test ∙ ap (known_reshaped shape) (old.there place j at))
  there_by place j l false test at is =
      let same : j ≡ l = some_inj j l is in
      subst (λ (m : Known). known_after later m.info.number ≡ Some m) same
      (known_after-more h ev j.info.number ∙ ap (λ t. cond t (known_reshaped shape (known_after h j.info.number)) (known_after h j.info.number)) test ∙ old.there place j at)

  there_in : (place : List ℕ) (o : Option Known) (l : Known) → array_at h place ≡ o → reshaped_at b shape o ≡ Some l → known_after later l.info.number ≡ Some l
  there_in place None l at is = absurd (cc)
  there_in place (Some j) l at is = there_by place j l (b == j.info.number) refl at is

  -- an array gets a shape
  pub arrays_resized : AreArrays later more
  arrays_resized = record {
    known = λ a. elim (equal_or_not b a) [
      | inl same ↦ subst (λ c. known_after later c ≡ known_of later (slice_get more c)) same (known_here ∙ sym told_here)
      | inr other ↦
          known_other a other ∙ old.known a ∙ sym (known_more h ev (slice_get es a) (λ g is. place_below (length h) es a g old.within is))
          ∙ ap (known_of later) (sym (get_set_other es b a new other))
    ];
    resized = λ a. resized_after-more h ev a ∙ elim (equal_or_not b a) [
      | inl same ↦ ap (λ t. cond t (length h + 1) (resized_after h a)) (eq-eqb b a same) ∙ sym (ap (λ c. resized_of (slice_get more c)) (sym same) ∙ ap resized_of here)
      | inr other ↦ ap (λ t. cond t (length h + 1) (resized_after h a)) (differs b a other) ∙ old.resized a ∙ ap resized_of (sym (get_set_other es b a new other))
    ];
    forms = λ a g is. elim (equal_or_not b a) [
      | inl same ↦
          let one : new ≡ g = some_inj new g (sym here ∙ ap (slice_get more) same ∙ is) in
          subst (λ o. IsFormOf o g) (sym known_here ∙ ap (known_after later) same) (subst (λ (f : Entry). f.form ≡ with_shape (form_of k.info.home) shape) one form_is)
      | inr other ↦ subst (λ o. IsFormOf o g) (sym (known_other a other)) (old.forms a g (sym (get_set_other es b a new other) ∙ is))
    ];
    within = let longer = length-more h ev in let under = low in within_set (length later) es b new (omega (arith, under)) (within_more (length h) (length later) es (omega arith) old.within);
    count =
        let was = old.count in
        let same = count_set es b new in
        let grown : count_by is_opening later ≡ count_by is_opening h + 0 = count_more is_opening h ev in
        omega arith;
    there = λ place l is. there_in place (array_at h place) l refl (sym (array_at-more h ev place) ∙ is);
  }

get_index : {A : Type 0} (xs : List A) (n : ℕ) (d : A) → n < length xs → slice_get xs n ≡ Some (slice_index_or xs n d)
get_index [] n d lt = absurd (omega arith)
get_index (x ∷ xs) zero d lt = refl
get_index (x ∷ xs) (suc n) d lt = get_index xs n d (omega arith)

-- the entry at a place by another shape
pub locals_at : (es : List Entry) (n : ℕ) (d : Entry) (form : Form) (number : ℕ) → n < length es → map (λ (f : Entry). f.local) (set es n (reshaped (slice_index_or es n d) form number)) ≡ map (λ (f : Entry). f.local) es
locals_at es n d form number lt = locals_same es n (slice_index_or es n d) form number (get_index es n d lt)

pub arrays_at : (es : List Entry) (n : ℕ) (d : Entry) (form : Form) (number : ℕ) → n < length es → (h : History) (owner : ℕ) (shape : List ℕ) (k : Known) → number ≡ length h + 1 → known_after h n ≡ Some k → is_local k.info.home ≡ false
    → form ≡ with_shape (form_of k.info.home) shape → AreArrays h es → AreArrays (h ++ resized_event owner n shape ∷ []) (set es n (reshaped (slice_index_or es n d) form number))
arrays_at es n d form number lt h owner shape k is known stored form_is old =
    subst (λ m. AreArrays (h ++ resized_event owner n shape ∷ []) (set es n (reshaped (slice_index_or es n d) form m))) (sym is)
    (arrays_resized h es owner n shape form k (slice_index_or es n d) old known (get_index es n d lt) stored form_is)

-- a list that is written back in place of one as long
pub written_back : {A : Type 0} (xs ys : List A) (n : ℕ) → length xs ≡ n → take n (xs ++ drop (length xs) ys) ≡ xs
written_back xs ys n is = subst (λ m. take m (xs ++ drop (length xs) ys) ≡ xs) is (front xs (drop (length xs) ys))
  where
    front : {A : Type 0} (xs ys : List A) → take (length xs) (xs ++ ys) ≡ xs
    front [] ys = refl
    front (x ∷ xs) ys = ap (λ zs. x ∷ zs) (front xs ys)
