-- The arrays by their numbers after one event more.
use Rattle.std.proofs.Common.{◌≡◌, ◌≢◌, ℕ, zero, suc, ◌+◌, ◌<◌, ◌≤◌, List, [], ◌∷◌, ◌++◌, length, Bool, true, false, cond, Option, Some, None, inl, inr, refl, sym, ap, subst, ◌∙◌, arith, eqb-true, length-append}
use Rattle.std.proofs.lemmas.Grind.{fold-append}
use Rattle.std.specs.Prelude.{◌==◌, count_by, IsSome}
use Rattle.std.specs.List.{slice_get, AllByRecursion}
use Rattle.std.specs.Option.{option_map}
use Rattle.history.specs.declared.Form.{Form}
use Rattle.history.specs.Metadata.{shape_of, with_shape}
use Rattle.cells.proofs.Laws.{true_or_false, equal_or_not, less_or_not}
use Rattle.history.specs.declared.array.ArrayInfo.{ArrayInfo}
use Rattle.history.specs.declared.array.Home.{Home}
use Rattle.history.specs.declared.array.Home.TheVariants.{Zarr, N5, Zarr3, Local}
use Rattle.history.specs.declared.event.Kind.{Kind}
use Rattle.history.specs.declared.event.Kind.TheVariants.{Opened, Done, Resized, Fault}
use Rattle.history.specs.declared.event.Event.{Event}
use Rattle.history.specs.History.{History}
use Rattle.history.specs.Arrays.{Known, known_after, form_of, is_local}
use Rattle.history.specs.Legal.{is_opening}
use Rattle.history.specs.Own.{fault, opened_event}
use Rattle.history.specs.Places.{location, array_at}
use Rattle.history.specs.Store.{resized_after}
use Rattle.history.specs.Touch.{is_key}
use Rattle.history.proofs.Laws.{known_after-more, resized_after-more, opened_as, some_inj, none_is_none, length-more, array_at-more, opened_then}
use Rattle.state_laws.specs.declared.arrays.Entry.{Entry}
use Rattle.state_laws.specs.declared.commit.Commit.{Commit}
use Rattle.state_laws.specs.Recorded.{done_event}
use Rattle.state_laws.specs.Indexed.{shape_in, known_of, opened_by, opened_at_event, resized_of, IsFormOf, AreArrays}

pub get_front : {A : Type 0} (xs ys : List A) (k : ℕ) → k < length xs → slice_get (xs ++ ys) k ≡ slice_get xs k
get_front [] ys k lt = absurd (omega arith)
get_front (x ∷ xs) ys zero lt = refl
get_front (x ∷ xs) ys (suc k) lt = get_front xs ys k (omega arith)

get_last : {A : Type 0} (xs : List A) (x : A) → slice_get (xs ++ x ∷ []) (length xs) ≡ Some x
get_last [] x = refl
get_last (y ∷ xs) x = get_last xs x

get_past : {A : Type 0} (xs : List A) (k : ℕ) → length xs ≤ k → slice_get xs k ≡ None
get_past [] k le = refl
get_past (x ∷ xs) zero le = absurd (omega arith)
get_past (x ∷ xs) (suc k) le = get_past xs k (omega arith)

pub count_more : (f : Event → Bool) (events : History) (e : Event) → count_by f (events ++ e ∷ []) ≡ count_by f events + cond (f e) 1 0
count_more f events e = fold-append (λ a x. a + cond {A = ℕ} (f x) 1 0) 0 events (e ∷ [])

pub place_below : (n : ℕ) (es : List Entry) (a : ℕ) (e : Entry) → AllByRecursion (λ (f : Entry). f.place < n) es → slice_get es a ≡ Some e → e.place < n
place_below n [] a e all is = absurd (cc)
place_below n (f ∷ es) zero e all is = let same : f.place ≡ e.place = cc in let low = all.0 in omega arith
place_below n (f ∷ es) (suc a) e all is = place_below n es a e all.1 is

-- what an entry tells stays
pub known_more : (h : History) (e : Event) (o : Option Entry) → ((f : Entry) → o ≡ Some f → f.place < length h) → known_of (h ++ e ∷ []) o ≡ known_of h o
known_more h e None within = refl
known_more h e (Some f) within = ap (opened_at_event f) (get_front h (e ∷ []) f.place (within f refl))

pub within_more : (n m : ℕ) (es : List Entry) → n ≤ m → AllByRecursion (λ (f : Entry). f.place < n) es → AllByRecursion (λ (f : Entry). f.place < m) es
within_more n m [] le all = tt
within_more n m (f ∷ es) le all = ((let low = all.0 in omega arith), within_more n m es le all.1)

within_last : (n : ℕ) (es : List Entry) (f : Entry) → AllByRecursion (λ (g : Entry). g.place < n) es → f.place < n → AllByRecursion (λ (g : Entry). g.place < n) (es ++ f ∷ [])
within_last n [] f all low = (low, tt)
within_last n (g ∷ es) f all low = (all.0, within_last n es f all.1 low)

-- an event that neither opens an array nor gives one a shape
pub arrays_same : (h : History) (es : List Entry) (e : Event) → AreArrays h es → ((a : ℕ) → known_after (h ++ e ∷ []) a ≡ known_after h a) → ((a : ℕ) → resized_after (h ++ e ∷ []) a ≡ resized_after h a)
    → ((here : List ℕ) → array_at (h ++ e ∷ []) here ≡ array_at h here) → is_opening e ≡ false → AreArrays (h ++ e ∷ []) es
arrays_same h es e old same shapes at closed =
    let size = length-more h e in
    let none : cond {A = ℕ} (is_opening e) 1 0 ≡ 0 = ap (λ b. cond {A = ℕ} b 1 0) closed in
    let more = count_more is_opening h e in
    record {
      known = λ a. same a ∙ old.known a ∙ sym (known_more h e (slice_get es a) (λ f is. place_below (length h) es a f old.within is));
      resized = λ a. shapes a ∙ old.resized a;
      forms = λ a f is. subst (λ o. IsFormOf o f) (sym (same a)) (old.forms a f is);
      within = within_more (length h) (length (h ++ e ∷ [])) es (omega arith) old.within;
      count = let count = old.count in omega arith;
      there = λ here k is. same k.info.number ∙ old.there here k (sym (at here) ∙ is);
    }

pub arrays_fault : (h : History) (es : List Entry) (owner : ℕ) (mount : List ℕ) → AreArrays h es → AreArrays (h ++ fault owner mount ∷ []) es
arrays_fault h es owner mount old =
    let e = fault owner mount in
    arrays_same h es e old (known_after-more h e) (resized_after-more h e) (array_at-more h e) refl

pub arrays_done : (h : History) (es : List Entry) (owner : ℕ) (done : Commit) → AreArrays h es → AreArrays (h ++ done_event owner done ∷ []) es
arrays_done h es owner done old =
    let e = done_event owner done in
    arrays_same h es e old (known_after-more h e) (resized_after-more h e) (array_at-more h e) refl

pub arrays_none : AreArrays [] []
arrays_none = record {
  known = λ a. refl;
  resized = λ a. refl;
  forms = λ a f is. absurd (cc);
  within = tt;
  count = refl;
  there = λ here k is. absurd (cc);
}

shape_new : (home : Home) (shape : List ℕ) → shape_in home shape (with_shape (form_of home) shape) ≡ shape
shape_new (Zarr mount path meta) shape = refl
shape_new (N5 mount path meta) shape = refl
shape_new (Zarr3 mount path meta) shape = refl
shape_new (Local start) shape = refl

pub differs : (x y : ℕ) → x ≢ y → (x == y) ≡ false
differs x y ne = elim (true_or_false (x == y)) [ inl h ↦ absurd (ne (eqb-true x y h)) | inr h ↦ h ]

module _ (h : History) (es : List Entry) (owner : ℕ) (info : ArrayInfo) (f : Entry) (old : AreArrays h es) (number : info.number ≡ length es) (place : f.place ≡ length h) (form : f.form ≡ with_shape (form_of info.home) info.shape) (fresh : f.resized ≡ 0) where
  abbrev e : Event
  e = opened_event owner info

  abbrev later : History
  later = h ++ e ∷ []

  abbrev more : List Entry
  more = es ++ f ∷ []

  longer : length more ≡ length es + 1
  longer = simp length-append

  entry_before : (a : ℕ) → a ≢ length es → slice_get more a ≡ slice_get es a
  entry_before a ne =
      elim (less_or_not a (length es)) [
        | inl lt ↦ get_front es (f ∷ []) a lt
        | inr le ↦ get_past more a (let n = longer in omega arith) ∙ sym (get_past es a le)
      ]

  entry_new : (a : ℕ) → a ≡ length es → slice_get more a ≡ Some f
  entry_new a is = ap (slice_get more) is ∙ get_last es f

  known_before : (a : ℕ) → info.number ≢ a → known_after later a ≡ known_after h a
  known_before a other = known_after-more h e a ∙ ap (λ b. cond b (Some (opened_as h info)) (known_after h a)) (differs info.number a other)

  known_new : known_of later (Some f) ≡ Some (opened_as h info)
  known_new =
      ap (λ p. opened_at_event f (slice_get later p)) place ∙ ap (opened_at_event f) (get_last h e)
      ∙ ap (λ p. Some (record { info = info; opened = p + 1; shape = shape_in info.home info.shape f.form })) place
      ∙ ap (λ s. Some (record { info = info; opened = length h + 1; shape = s })) (ap (shape_in info.home info.shape) form ∙ shape_new info.home info.shape)

  -- no array has the number yet
  none_yet : known_after h info.number ≡ None
  none_yet = old.known info.number ∙ ap (known_of h) (get_past es info.number (omega (arith, number)))

  still_there : (here : List ℕ) (k : Known) → array_at h here ≡ Some k → known_after later k.info.number ≡ Some k
  still_there here k is =
      let was = old.there here k is in
      known_before k.info.number (λ same. none_is_none k (sym none_yet ∙ ap (known_after h) same ∙ was)) ∙ was

  there_by : (here : List ℕ) (b : Bool) (k : Known) → cond b (Some (opened_as h info)) (array_at h here) ≡ Some k → known_after later k.info.number ≡ Some k
  there_by here true k is = subst (λ (l : Known). known_after later l.info.number ≡ Some l) (some_inj (opened_as h info) k is) (opened_then h e info info.number refl refl)
  there_by here false k is = still_there here k is

  -- an event that opens the next array
  pub arrays_opened : AreArrays later more
  arrays_opened =
      let size = length-more h e in
      record {
        known = λ a. elim (equal_or_not info.number a) [
          | inl same ↦ opened_then h e info a refl same ∙ sym (ap (known_of later) (entry_new a (sym same ∙ number)) ∙ known_new)
          | inr other ↦
              known_before a other ∙ old.known a ∙ sym (known_more h e (slice_get es a) (λ g is. place_below (length h) es a g old.within is))
              ∙ ap (known_of later) (sym (entry_before a (λ at. other (number ∙ sym at))))
        ];
        resized = λ a. resized_after-more h e a ∙ old.resized a ∙ elim (equal_or_not info.number a) [
          | inl same ↦
              ap resized_of (get_past es a (omega (arith, same, number)))
              ∙ sym (ap resized_of (entry_new a (sym same ∙ number)) ∙ fresh)
          | inr other ↦ ap resized_of (sym (entry_before a (λ at. other (number ∙ sym at))))
        ];
        forms = λ a g is. elim (equal_or_not info.number a) [
          | inl same ↦
              let one : f ≡ g = some_inj f g (sym (entry_new a (sym same ∙ number)) ∙ is) in
              subst (λ o. IsFormOf o g) (sym (opened_then h e info a refl same)) (subst (λ (g : Entry). g.form ≡ with_shape (form_of info.home) info.shape) one form)
          | inr other ↦ subst (λ o. IsFormOf o g) (sym (known_before a other)) (old.forms a g (sym (entry_before a (λ at. other (number ∙ sym at))) ∙ is))
        ];
        within = within_last (length later) es f (within_more (length h) (length later) es (omega arith) old.within) (omega (arith, place));
        count = let count = old.count in let n = longer in let grown : count_by is_opening later ≡ count_by is_opening h + 1 = count_more is_opening h e in omega arith;
        there = λ here k is. there_by here (is_key here (location info.home)) k (sym (array_at-more h e here) ∙ is);
      }

-- an array of the history has the form of its entry
form_by : (o : Option Known) (entry : Entry) → IsSome o → IsFormOf o entry → Some entry.form ≡ option_map (λ (k : Known). with_shape (form_of k.info.home) k.shape) o
form_by None entry some form = absurd (cc)
form_by (Some k) entry some form = ap Some form

pub form_at : (events : History) (entries : List Entry) (a : ℕ) (entry : Entry) → AreArrays events entries → IsSome (known_after events a) → Some entry ≡ slice_get entries a
    → Some entry.form ≡ option_map (λ (k : Known). with_shape (form_of k.info.home) k.shape) (known_after events a)
form_at events entries a entry arrays some is = form_by (known_after events a) entry some (arrays.forms a entry (sym is))

-- and a local array keeps the shape that it was opened with
local_in : (home : Home) (shape : List ℕ) (form : Form) → is_local home ≡ true → shape_in home shape form ≡ shape
local_in home shape form local = ap (λ b. cond b shape (shape_of form)) local

local_kind : (entry : Entry) (kind : Kind) (info : ArrayInfo) → is_local info.home ≡ true → Some info ≡ option_map (λ (k : Known). k.info) (opened_by entry kind) → Some info.shape ≡ option_map (λ (k : Known). k.shape) (opened_by entry kind)
local_kind entry (Opened i) info local is =
    let same : info ≡ i = some_inj info i is in
    ap (λ (j : ArrayInfo). Some j.shape) same ∙ ap Some (sym (local_in i.home i.shape entry.form (ap (λ (j : ArrayInfo). is_local j.home) (sym same) ∙ local)))
local_kind entry (Done line mode ops key) info local is = absurd (cc)
local_kind entry (Resized b shape) info local is = absurd (cc)
local_kind entry (Fault mount) info local is = absurd (cc)

local_event : (entry : Entry) (o : Option Event) (info : ArrayInfo) → is_local info.home ≡ true → Some info ≡ option_map (λ (k : Known). k.info) (opened_at_event entry o) → Some info.shape ≡ option_map (λ (k : Known). k.shape) (opened_at_event entry o)
local_event entry None info local is = absurd (cc)
local_event entry (Some e) info local is = local_kind entry e.kind info local is

local_entry : (events : History) (o : Option Entry) (info : ArrayInfo) → is_local info.home ≡ true → Some info ≡ option_map (λ (k : Known). k.info) (known_of events o) → Some info.shape ≡ option_map (λ (k : Known). k.shape) (known_of events o)
local_entry events None info local is = absurd (cc)
local_entry events (Some entry) info local is = local_event entry (slice_get events entry.place) info local is

pub local_shape : (events : History) (entries : List Entry) (a : ℕ) (info : ArrayInfo) → AreArrays events entries → is_local info.home ≡ true → Some info ≡ option_map (λ (k : Known). k.info) (known_after events a)
    → Some info.shape ≡ option_map (λ (k : Known). k.shape) (known_after events a)
local_shape events entries a info arrays local is =
    local_entry events (slice_get entries a) info local (is ∙ ap (option_map (λ (k : Known). k.info)) (arrays.known a)) ∙ sym (ap (option_map (λ (k : Known). k.shape)) (arrays.known a))
