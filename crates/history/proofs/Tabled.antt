-- A table of where arrays lie, beside a history.
use Rattle.std.proofs.Common.{◌⊎◌, inl, inr, ◌≡◌, ℕ, ◌+◌, length, List, [], ◌∷◌, ◌++◌, Bool, true, false, cond, Option, Some, None, refl, sym, ap, subst, ◌∙◌}
use Rattle.std.specs.Prelude.{◌==◌, ◌||◌, filter, filter_map, option_map}
use Rattle.std.specs.FinMap as finmap
use Rattle.std.specs.FinMap.{get-empty, get-insert}
use Rattle.std.specs.List.{list_any, cons_option}
use Rattle.std.specs.Ordering.{nat_cmp}
use Rattle.std.specs.Cmp.Lexicographic.{slice_cmp, nat_list_cmp_total}
use Rattle.std.specs.Str.{bytes_eq}
use Rattle.std.proofs.lemmas.Map.Text.{is_eq-slice_cmp}
use Rattle.std.proofs.lemmas.Slice.Eq.{bytes_eq-Decides}
use Rattle.locations.specs.Paths.{Located, IsLeastClash, HasNoClash}
use Rattle.history.specs.declared.array.ArrayInfo.{ArrayInfo}
use Rattle.history.specs.declared.event.Event.{Event}
use Rattle.history.specs.declared.event.Kind.{Kind}
use Rattle.history.specs.declared.event.Kind.TheVariants.{Opened, Done, Resized, Fault}
use Rattle.history.specs.History.{History}
use Rattle.history.specs.Arrays.{Known}
use Rattle.history.specs.Places.{location, location_of, opened_array, locations, clashes, least, taken, reshaped_at, at_step, array_at, IsTable}
use Rattle.history.specs.Touch.{is_key}
use Rattle.history.proofs.Histories.{each_history}
use Rattle.history.proofs.Known.{none_is_none}
use Rattle.history.proofs.Openings.{array_at-more, locations-more}
use Rattle.history.proofs.Ordering.{IsAmong, among_first, among_left, among_right, among_cases, least_is, filtered, kept, none_kept}
use Rattle.history.proofs.Tests.{true_or_false}

abbrev number_in : Option Known → Option ℕ
number_in o = option_map (λ (k : Known). k.info.number) o

-- a location of an array of the history is one at which an array lies
abbrev IsThere : Option Known → Type 0
IsThere o = (k : Known) × (o ≡ Some k)

still_there : (b : ℕ) (shape : List ℕ) (o : Option Known) → IsThere o → IsThere (reshaped_at b shape o)
still_there b shape None there = absurd (none_is_none there.0 there.1)
still_there b shape (Some k) there = by (b == k.info.number)
  where
    by : (t : Bool) → IsThere (cond t (Some (record k { shape = shape })) (Some k))
    by true = (record k { shape = shape }, refl)
    by false = (k, refl)

opened_or : (b : Bool) (k : Known) (o : Option Known) → IsThere o → IsThere (cond b (Some k) o)
opened_or true k o there = (k, refl)
opened_or false k o there = there

step_there : (t : List ℕ) (h : History) (kind : Kind) (o : Option Known) → IsThere o → IsThere (at_step t h kind o)
step_there t h (Opened info) o there = opened_or (is_key t (location info.home)) _ o there
step_there t h (Done line mode ops key) o there = there
step_there t h (Resized b shape) o there = still_there b shape o there
step_there t h (Fault mount) o there = there

among_either : (t : List ℕ) (xs ys : List (List ℕ)) → IsAmong t (xs ++ ys) → IsAmong t xs ⊎ IsAmong t ys
among_either t [] ys e = inr e
among_either t (x ∷ xs) ys e = told (bytes_eq t x) refl e (among_either t xs ys)
  where
    told : (b : Bool) → bytes_eq t x ≡ b → (b || list_any (bytes_eq t) (xs ++ ys)) ≡ true → (IsAmong t (xs ++ ys) → IsAmong t xs ⊎ IsAmong t ys) → IsAmong t (x ∷ xs) ⊎ IsAmong t ys
    told true is f next = inl (ap (λ b. b || list_any (bytes_eq t) xs) is)
    told false is f next = elim (next f) [ inl a ↦ inl (ap (λ b. b || list_any (bytes_eq t) xs) is ∙ a) | inr c ↦ inr c ]

-- the array that an event opens lies where it says
new_there : (t : List ℕ) (h : History) (kind : Kind) (o : Option Known) → IsAmong t (filter_map location_of (opened_array kind)) → IsThere (at_step t h kind o)
new_there t h (Opened info) o among = by (location info.home) refl among
  where
    by : (l : Option (List ℕ)) → location info.home ≡ l → IsAmong t (cons_option l []) → IsThere (cond (is_key t (location info.home)) (Some (record { info = info; opened = length h + 1; shape = info.shape })) o)
    by None is e = absurd (cc)
    by (Some l) is e = elim (among_cases t l [] e) [
      | inl same ↦ (record { info = info; opened = length h + 1; shape = info.shape }, ap (λ b. cond b (Some (record { info = info; opened = length h + 1; shape = info.shape })) o) (ap (is_key t) is ∙ (bytes_eq-Decides l t).1 (sym same)))
      | inr never ↦ absurd (cc)
    ]
new_there t h (Done line mode ops key) o among = absurd (cc)
new_there t h (Resized b shape) o among = absurd (cc)
new_there t h (Fault mount) o among = absurd (cc)

pub listed_there : (t : List ℕ) (events : History) → IsAmong t (locations events) → IsThere (array_at events t)
listed_there t =
    each_history (λ h. IsAmong t (locations h) → IsThere (array_at h t)) (λ among. absurd (cc))
    (λ h e before among.
    let now : IsThere (at_step t h e.kind (array_at h t)) = elim (among_either t (locations h) (filter_map location_of (opened_array e.kind)) (subst (IsAmong t) (locations-more h e) among)) [
      | inl old ↦ step_there t h e.kind (array_at h t) (before old)
      | inr new ↦ new_there t h e.kind (array_at h t) new
    ] in
    (now.0, array_at-more h e t ∙ now.1))

-- back
reshaped_before : (b : ℕ) (shape : List ℕ) (o : Option Known) → IsThere (reshaped_at b shape o) → IsThere o
reshaped_before b shape None there = absurd (none_is_none there.0 there.1)
reshaped_before b shape (Some k) there = (k, refl)

pub there_listed : (t : List ℕ) (events : History) → IsThere (array_at events t) → IsAmong t (locations events)
there_listed t =
    each_history (λ h. IsThere (array_at h t) → IsAmong t (locations h)) (λ there. absurd (none_is_none there.0 there.1))
    (λ h e before there. subst (IsAmong t) (sym (locations-more h e)) (step_listed h e.kind (array_at h t) before (there.0, sym (array_at-more h e t) ∙ there.1)))
  where
    opened_listed : (h : History) (info : ArrayInfo) (o : Option Known) → (IsThere o → IsAmong t (locations h)) → (l : Option (List ℕ)) → location info.home ≡ l → (b : Bool) → is_key t l ≡ b → IsThere (cond b (Some (record { info = info; opened = length h + 1; shape = info.shape })) o)
        → IsAmong t (locations h ++ cons_option l [])
    opened_listed h info o before None is true key there = absurd (cc)
    opened_listed h info o before (Some l) is true key there = among_right t (locations h) (l ∷ []) (subst (λ u. IsAmong t (u ∷ [])) (sym ((bytes_eq-Decides l t).0 key)) (among_first t []))
    opened_listed h info o before l is false key there = among_left t (locations h) (cons_option l []) (before there)

    step_listed : (h : History) (kind : Kind) (o : Option Known) → (IsThere o → IsAmong t (locations h)) → IsThere (at_step t h kind o) → IsAmong t (locations h ++ filter_map location_of (opened_array kind))
    step_listed h (Opened info) o before there = opened_listed h info o before (location info.home) refl (is_key t (location info.home)) refl there
    step_listed h (Done line mode ops key) o before there = among_left t (locations h) [] (before there)
    step_listed h (Resized b shape) o before there = among_left t (locations h) [] (before (reshaped_before b shape o there))
    step_listed h (Fault mount) o before there = among_left t (locations h) [] (before there)

-- what a look-up tells is what the history says
module _ (events : History) (places : Located) (table : IsTable events places) (here : List ℕ) where
  number_there : (s : List ℕ) → IsAmong s (locations events) → (n : ℕ) × (finmap.get places s ≡ Some n)
  number_there s among = let there = listed_there s events among in (there.0.info.number, table s ∙ ap number_in there.1)

  some_there : (s : List ℕ) (n : ℕ) → finmap.get places s ≡ Some n → IsThere (array_at events s)
  some_there s n is = by (array_at events s) refl (sym (table s) ∙ is)
    where
      by : (o : Option Known) → array_at events s ≡ o → number_in o ≡ Some n → IsThere (array_at events s)
      by None at e = absurd (cc)
      by (Some k) at e = (k, at)

  pub taken_by_table : (other : List ℕ) → IsLeastClash places here other → taken events here ≡ Some other
  taken_by_table other clash =
      least_is (filter (clashes here) (locations events)) other (kept (clashes here) (locations events) other (there_listed other events (some_there other clash.number clash.there)) clash.clash)
      (λ s among. let parts = filtered (clashes here) (locations events) s among in let n = number_there s parts.0 in clash.least s n.0 parts.1 n.1)

  pub not_taken_by_table : HasNoClash places here → taken events here ≡ None
  not_taken_by_table none =
      ap least (none_kept (clashes here) (locations events) (λ t among.
      elim (true_or_false (clashes here t)) [
        | inr f ↦ f
        | inl h ↦ let n = number_there t among in let clash : None ≡ Some n.0 = sym (none t h) ∙ n.1 in absurd (cc)
      ]))

  pub array_by_table : (n : ℕ) → finmap.get places here ≡ Some n → (k : Known) × (array_at events here ≡ Some k) × (k.info.number ≡ n)
  array_by_table n is =
      let there = some_there here n is in
      let same : Some there.0.info.number ≡ Some n = sym (table here ∙ ap number_in there.1) ∙ is in
      (there.0, there.1, (let number : there.0.info.number ≡ n = cc in number))

  pub no_array_by_table : finmap.get places here ≡ None → array_at events here ≡ None
  no_array_by_table is = by (array_at events here) refl (sym (table here) ∙ is)
    where
      by : (o : Option Known) → array_at events here ≡ o → number_in o ≡ None → array_at events here ≡ None
      by None at e = at
      by (Some k) at e = absurd (cc)

swapped : (xs ys : List ℕ) → bytes_eq xs ys ≡ bytes_eq ys xs
swapped xs ys = by (bytes_eq xs ys) (bytes_eq ys xs) refl refl
  where
    by : (a b : Bool) → bytes_eq xs ys ≡ a → bytes_eq ys xs ≡ b → bytes_eq xs ys ≡ bytes_eq ys xs
    by true true p q = p ∙ sym q
    by false false p q = p ∙ sym q
    by true false p q = let clash : true ≡ false = sym ((bytes_eq-Decides ys xs).1 (sym ((bytes_eq-Decides xs ys).0 p))) ∙ q in absurd (cc)
    by false true p q = let clash : true ≡ false = sym ((bytes_eq-Decides xs ys).1 (sym ((bytes_eq-Decides ys xs).0 q))) ∙ p in absurd (cc)

-- the table of one event more
number_reshaped : (b : ℕ) (shape : List ℕ) (o : Option Known) → number_in (reshaped_at b shape o) ≡ number_in o
number_reshaped b shape None = refl
number_reshaped b shape (Some k) = by (b == k.info.number)
  where
    by : (t : Bool) → number_in (cond t (Some (record k { shape = shape })) (Some k)) ≡ Some k.info.number
    by true = refl
    by false = refl

number_either : (b : Bool) (k : Known) (o : Option Known) → number_in (cond b (Some k) o) ≡ cond b (Some k.info.number) (number_in o)
number_either true k o = refl
number_either false k o = refl

pub table_none : IsTable [] finmap.empty
table_none here = get-empty (slice_cmp nat_cmp) here

-- an array that lies at a location is put in
pub table_opened : (h : History) (e : Event) (info : ArrayInfo) (l : List ℕ) (places : Located) → e.kind ≡ Opened info → location info.home ≡ Some l → IsTable h places → IsTable (h ++ e ∷ []) (finmap.insert places l info.number)
table_opened h e info l places is at table here =
    get-insert nat_list_cmp_total places l info.number here ∙ ap (λ b. cond b (Some info.number) (finmap.get places here)) (is_eq-slice_cmp here l ∙ swapped here l) ∙ ap (cond (bytes_eq l here) (Some info.number)) (table here)
    ∙ sym (ap number_in (array_at-more h e here ∙ ap (λ kind. at_step here h kind (array_at h here)) is ∙ ap (λ o. cond (is_key here o) (Some (record { info = info; opened = length h + 1; shape = info.shape })) (array_at h here)) at)
    ∙ number_either (bytes_eq l here) (record { info = info; opened = length h + 1; shape = info.shape }) (array_at h here))

-- and no other event changes it
abbrev OpensNowhere : Kind → Type 0
OpensNowhere (Opened info) = location info.home ≡ None
OpensNowhere (Done line mode ops key) = Unit {0}
OpensNowhere (Resized b shape) = Unit {0}
OpensNowhere (Fault mount) = Unit {0}

same_numbers : (here : List ℕ) (h : History) (kind : Kind) (o : Option Known) → OpensNowhere kind → number_in (at_step here h kind o) ≡ number_in o
same_numbers here h (Opened info) o none = ap (λ l. number_in (cond (is_key here l) (Some (record { info = info; opened = length h + 1; shape = info.shape })) o)) none
same_numbers here h (Done line mode ops key) o none = refl
same_numbers here h (Resized b shape) o none = number_reshaped b shape o
same_numbers here h (Fault mount) o none = refl

pub table_same : (h : History) (e : Event) (places : Located) → OpensNowhere e.kind → IsTable h places → IsTable (h ++ e ∷ []) places
table_same h e places none table here = table here ∙ sym (ap number_in (array_at-more h e here) ∙ same_numbers here h e.kind (array_at h here) none)
