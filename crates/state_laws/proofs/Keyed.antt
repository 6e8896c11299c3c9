-- Which array a key tells.
use Rattle.std.proofs.Common.{◌≡◌, ◌≢◌, ℕ, ◌+◌, ◌-◌, ◌^◌, ◌<◌, ◌≤◌, ◌⊎◌, inl, inr, List, [], ◌∷◌, ◌++◌, length, map, zero, suc, Bool, true, false, cond, Option, Some, None, refl, sym, ap, subst, ◌∙◌, arith, eqb-true, eq-eqb, length-append, codes}
use Rattle.std.specs.Prelude.{◌==◌, ◌&&◌, ◌||◌, decimal, IfSome}
use Rattle.std.specs.List.{slice_get, AllByRecursion}
use Rattle.std.specs.Option.{option_map}
use Rattle.std.specs.FinMap as finmap
use Rattle.std.proofs.lemmas.List.{append_assoc}
use Rattle.std.proofs.lemmas.Option.{slice_get-map, slice_get_past}
use Rattle.cells.proofs.Laws.{true_or_false, less_or_not, equal_or_not}
use Rattle.history.specs.Names.{chunk_name}
use Rattle.kv_face.specs.Store.{Contents}
use Rattle.locations.specs.Paths.{Located, begins, is_below, clashes, AreApart as AreLocationsApart, HasNoneAbove}
use Rattle.array_homes.specs.Names.{local_key, IsChunkName}
use Rattle.history.specs.declared.array.ArrayInfo.{ArrayInfo}
use Rattle.history.specs.declared.array.Home.{Home}
use Rattle.history.specs.declared.array.Home.TheVariants.{Zarr, N5, Zarr3, Local}
use Rattle.history.specs.declared.event.Event.{Event}
use Rattle.history.specs.declared.event.Kind.{Kind}
use Rattle.history.specs.declared.event.Kind.TheVariants.{Opened, Done, Resized, Fault}
use Rattle.history.specs.History.{History}
use Rattle.history.specs.Arrays.{Known, known_after, form_of, is_local, chunk_shape}
use Rattle.history.specs.Chunks.{Chunk, IsIndexOf, AreStarts, IsWholeIfLocal, home_text, keys_text, chunk_key, key_in}
use Rattle.history.specs.Generations.{HasKey}
use Rattle.history.specs.Legal.{IsLegal, IsMount, IsPlaced}
use Rattle.history.specs.Places.{location, array_at, IsTable}
use Rattle.history.proofs.Laws.{known_apart, key_is, opened_itself, as_opened, each_history, legal_step, opened_as, some_inj, none_is_none, known_split, no_array, opening_of, opened_le, known-longer, none_there, array_at-known, array_by_table, opened_then}
use Rattle.state_laws.specs.Keyed.{IsKeyIn, IsNobodys, local_by, local_in, local_at}
use Rattle.state_laws.specs.Outline.{outline, outlined, outlined_event}
use Rattle.state_laws.proofs.Located.{located}
use Rattle.state_laws.proofs.Outline.{known-outline, array_at-outline, one_key_in}

-- the kind of the event at a place
abbrev kind_at : History → ℕ → Option Kind
kind_at h n = option_map (λ (e : Event). e.kind) (slice_get h n)

get_front : {A : Type 0} (xs ys : List A) (n : ℕ) → n < length xs → slice_get (xs ++ ys) n ≡ slice_get xs n
get_front [] ys n less = absurd (omega arith)
get_front (x ∷ xs) ys zero less = refl
get_front (x ∷ xs) ys (suc n) less = get_front xs ys n (omega arith)

get_last : {A : Type 0} (xs : List A) (x : A) (n : ℕ) → n ≡ length xs → slice_get (xs ++ x ∷ []) n ≡ Some x
get_last [] x zero is = refl
get_last [] x (suc n) is = absurd (omega arith)
get_last (y ∷ xs) x zero is = absurd (omega arith)
get_last (y ∷ xs) x (suc n) is = get_last xs x n (omega arith)

kind_front : (h : History) (e : Event) (n : ℕ) → n < length h → kind_at (h ++ e ∷ []) n ≡ kind_at h n
kind_front h e n less = ap (option_map (λ (e : Event). e.kind)) (get_front h (e ∷ []) n less)

kind_last : (h : History) (e : Event) (n : ℕ) → n ≡ length h → kind_at (h ++ e ∷ []) n ≡ Some e.kind
kind_last h e n is = ap (option_map (λ (e : Event). e.kind)) (get_last h e n is)

-- the event of an array's opening
pub opened_there : (a : ℕ) (h : History) (k : Known) → known_after h a ≡ Some k → (n : ℕ) × (k.opened ≡ n + 1) × (kind_at h n ≡ Some (Opened k.info))
opened_there a =
    each_history (λ h. (k : Known) → known_after h a ≡ Some k → (n : ℕ) × (k.opened ≡ n + 1) × (kind_at h n ≡ Some (Opened k.info))) (λ k is. absurd (no_array a k is))
    (λ h e before k is.
    elim (known_split h e a k is) [
      | inl new ↦ (length h, ap (λ (l : Known). l.opened) new.3, kind_last h e (length h) refl ∙ ap Some (new.1 ∙ sym (ap (λ (l : Known). Opened l.info) new.3)))
      | inr (inl cut) ↦
          let old = before cut.0 cut.3 in
          let low = opened_le a h cut.0 cut.3 in
          let at = old.1 in
          (old.0, ap (λ (l : Known). l.opened) cut.4 ∙ old.1, kind_front h e old.0 (omega (arith, low, at)) ∙ old.2 ∙ sym (ap (λ (l : Known). Some (Opened l.info)) cut.4))
      | inr (inr same) ↦
          let old = before k same in
          let low = opened_le a h k same in
          let at = old.1 in
          (old.0, old.1, kind_front h e old.0 (omega (arith, low, at)) ∙ old.2)
    ])

-- the array that an event opened
pub opened_known : (start : Contents) (h : History) → IsLegal start h → (n : ℕ) (info : ArrayInfo) → kind_at h n ≡ Some (Opened info) → (k : Known) × (known_after h info.number ≡ Some k) × (k.info ≡ info) × (k.opened ≡ n + 1)
opened_known start =
    each_history (λ h. IsLegal start h → (n : ℕ) (info : ArrayInfo) → kind_at h n ≡ Some (Opened info) → (k : Known) × (known_after h info.number ≡ Some k) × (k.info ≡ info) × (k.opened ≡ n + 1))
    (λ legal n info is. absurd (none_is_none (Opened info) is))
    (λ h e before legal n info is.
    elim (less_or_not n (length h)) [
      | inl less ↦
          let old = before (legal_step start h e legal).0 n info (sym (kind_front h e n less) ∙ is) in
          let l = as_opened old.0.info old.0.opened (known_after (h ++ e ∷ []) info.number) (known-longer start h info.number old.0.info old.0.opened (opened_itself (known_after h info.number) old.0 old.1) (e ∷ []) legal) in
          (l.0, l.1, l.2 ∙ old.2, l.3 ∙ old.3)
      | inr more ↦
          elim (equal_or_not n (length h)) [
            | inl same ↦
                let kind : e.kind ≡ Opened info = some_inj e.kind (Opened info) (sym (kind_last h e n same) ∙ is) in
                (opened_as h info, opened_then h e info info.number kind refl, refl, ap (λ m. m + 1) (sym same))
            | inr other ↦
                let long : length (h ++ e ∷ []) ≡ length h + 1 = length-append h (e ∷ []) in
                absurd (none_is_none (Opened info) (sym (ap (option_map (λ (e : Event). e.kind)) (slice_get_past (h ++ e ∷ []) n (past n (length h) (length (h ++ e ∷ [])) more other long))) ∙ is))
          ]
    ])
  where
    past : (n m l : ℕ) → m ≤ n → n ≢ m → l ≡ m + 1 → l ≤ n
    past n m l more other long = omega (arith, more, other, long)

kind-outline : (h : History) (n : ℕ) (info : ArrayInfo) → kind_at h n ≡ Some (Opened info) → kind_at (outline h) n ≡ Some (Opened info)
kind-outline h n info is = ap (option_map (λ (e : Event). e.kind)) (slice_get-map outlined_event h n) ∙ by (slice_get h n) is
  where
    by : (o : Option Event) → option_map (λ (e : Event). e.kind) o ≡ Some (Opened info) → option_map (λ (e : Event). e.kind) (option_map outlined_event o) ≡ Some (Opened info)
    by None is = absurd (none_is_none (Opened info) is)
    by (Some e) is = ap (λ kind. Some (outlined kind)) (some_inj e.kind (Opened info) is)

-- an array of the history is placed as it may be
placed : (start : Contents) (a : ℕ) (h : History) → IsLegal start h → (k : Known) → known_after h a ≡ Some k → IsPlaced k.info.home
placed start a =
    each_history (λ h. IsLegal start h → (k : Known) → known_after h a ≡ Some k → IsPlaced k.info.home) (λ legal k is. absurd (no_array a k is))
    (λ h e before legal k is.
    let parts = legal_step start h e legal in
    elim (known_split h e a k is) [
      | inl new ↦ subst (λ (l : Known). IsPlaced l.info.home) (sym new.3) (opening_of start h e.kind new.0 new.1 parts.1).placed
      | inr (inl cut) ↦ subst (λ (l : Known). IsPlaced l.info.home) (sym cut.4) (before parts.0 cut.0 cut.3)
      | inr (inr old) ↦ before parts.0 k old
    ])

clear : (b : ℕ) → (b == 47) ≡ false → b ≢ 47
clear b e is = let clash : true ≡ false = sym (eq-eqb b 47 is) ∙ e in absurd (cc)

array_part : AllByRecursion (λ b. b ≢ 47) (codes "array")
array_part = (clear 97 refl, (clear 114 refl, (clear 114 refl, (clear 97 refl, (clear 121 refl, tt)))))

-- what stands before the first "/" of a text is one
first_part : (us vs rs ss : List ℕ) → AllByRecursion (λ b. b ≢ 47) us → AllByRecursion (λ b. b ≢ 47) vs → us ++ 47 ∷ rs ≡ vs ++ 47 ∷ ss → us ≡ vs
first_part [] [] rs ss p q e = refl
first_part [] (v ∷ vs) rs ss p q e = absurd (q.0 (let same : 47 ≡ v = cc in sym same))
first_part (u ∷ us) [] rs ss p q e = absurd (p.0 (let same : u ≡ 47 = cc in same))
first_part (u ∷ us) (v ∷ vs) rs ss p q e =
    let head : u ≡ v = cc in
    let tail : us ++ 47 ∷ rs ≡ vs ++ 47 ∷ ss = cc in
    let rest = first_part us vs rs ss p.1 q.1 tail in
    λ i. head i ∷ rest i

-- what a key of a local array is
local_key_is : (k : Known) (index : List ℕ) → is_local k.info.home ≡ true → chunk_key k index ≡ local_key k.opened
local_key_is k index local = by k.info.home local
  where
    by : (home : Home) → is_local home ≡ true → home_text home k.opened ++ chunk_name (form_of home) index ≡ local_key k.opened
    by (Zarr mount path meta) local = absurd (cc)
    by (N5 mount path meta) local = absurd (cc)
    by (Zarr3 mount path meta) local = absurd (cc)
    by (Local start) local = refl

-- what stands before each name of a stored array
pub stored_text : (home : Home) (n : ℕ) (here : List ℕ) → location home ≡ Some here → home_text home n ≡ here ++ 47 ∷ []
stored_text (Zarr mount path meta) n here is = ap (λ t. t ++ 47 ∷ []) (some_inj (mount ++ 47 ∷ path) here is)
stored_text (N5 mount path meta) n here is = ap (λ t. t ++ 47 ∷ []) (some_inj (mount ++ 47 ∷ path) here is)
stored_text (Zarr3 mount path meta) n here is = ap (λ t. t ++ 47 ∷ []) (some_inj (mount ++ 47 ∷ path) here is)
stored_text (Local start) n here is = absurd (none_is_none here is)

named_apart : (mount path name rest : List ℕ) → IsMount mount → (mount ++ 47 ∷ path ++ 47 ∷ []) ++ name ≡ codes "array/" ++ rest → ⊥
named_apart mount path name rest is e =
    is.not_local (first_part mount (codes "array") (path ++ 47 ∷ name) rest is.one_part array_part (sym (append_assoc (mount ++ 47 ∷ path) (47 ∷ []) name ∙ append_assoc mount (47 ∷ path) (47 ∷ name)) ∙ e))

-- a stored array's text isn't that of a local one
stored_apart : (home : Home) (n : ℕ) (name rest : List ℕ) → IsPlaced home → is_local home ≡ false → home_text home n ++ name ≡ codes "array/" ++ rest → ⊥
stored_apart (Zarr mount path meta) n name rest is stored e = named_apart mount path name rest is e
stored_apart (N5 mount path meta) n name rest is stored e = named_apart mount path name rest is e
stored_apart (Zarr3 mount path meta) n name rest is stored e = named_apart mount path name rest is e
stored_apart (Local start) n name rest is stored e = absurd (cc)

begins_itself : (us : List ℕ) → begins us us ≡ true
begins_itself [] = refl
begins_itself (u ∷ us) = ap (λ b. b && begins us us) (eq-eqb u u refl) ∙ begins_itself us

-- no text goes on behind itself
not_longer : (us : List ℕ) (x : ℕ) → begins (us ++ x ∷ []) us ≡ false
not_longer [] x = refl
not_longer (u ∷ us) x = ap (λ b. b && begins (us ++ x ∷ []) us) (eq-eqb u u refl) ∙ not_longer us x

both_begin : (b c d : Bool) → (c ≡ true → d ≡ true) → (b && c) ≡ true → (b && d) ≡ true
both_begin true c d go is = go is
both_begin false c d go is = absurd (cc)

begins_more : (us vs ws : List ℕ) → begins us vs ≡ true → begins us (vs ++ ws) ≡ true
begins_more [] vs ws is = refl
begins_more (u ∷ us) [] ws is = absurd (cc)
begins_more (u ∷ us) (v ∷ vs) ws is = both_begin (u == v) (begins us vs) (begins us (vs ++ ws)) (begins_more us vs ws) is

not_before : (us vs ws : List ℕ) → begins us (vs ++ ws) ≡ false → begins us vs ≡ false
not_before us vs ws none = elim (true_or_false (begins us vs)) [
  | inl t ↦ let clash : true ≡ false = sym (begins_more us vs ws t) ∙ none in absurd (cc)
  | inr f ↦ f
]

local_parts : (n : ℕ) → local_key n ≡ codes "array/" ++ (decimal n ++ 47 ∷ codes "0")
local_parts n = append_assoc (codes "array/" ++ decimal n) (47 ∷ []) (codes "0") ∙ append_assoc (codes "array/") (decimal n) (47 ∷ codes "0")

-- the chunk at the origin
origin : List ℕ → List ℕ
origin sizes = map (λ n. 0) sizes

origin_rank : (sizes : List ℕ) → length (origin sizes) ≡ length sizes
unfolding origin
origin_rank [] = refl
origin_rank (n ∷ sizes) = ap suc (origin_rank sizes)

origin_starts : (sizes : List ℕ) → AreStarts sizes (origin sizes)
unfolding origin
origin_starts [] = tt
origin_starts (n ∷ sizes) = (omega arith, origin_starts sizes)

origin_zero : (sizes : List ℕ) → AllByRecursion (λ c. c ≡ 0) (origin sizes)
unfolding origin
origin_zero [] = tt
origin_zero (n ∷ sizes) = (refl, origin_zero sizes)

origin_whole : (home : Home) (sizes : List ℕ) → IsWholeIfLocal home (origin sizes)
origin_whole (Zarr mount path meta) sizes = tt
origin_whole (N5 mount path meta) sizes = tt
origin_whole (Zarr3 mount path meta) sizes = tt
origin_whole (Local start) sizes = origin_zero sizes

at_origin : (info : ArrayInfo) → IsIndexOf info (origin (chunk_shape info))
at_origin info = record { rank = origin_rank (chunk_shape info); starts = origin_starts (chunk_shape info); whole = origin_whole info.home (chunk_shape info) }

home_lies : (home : Home) → (is_local home ≡ true) ⊎ ((here : List ℕ) × (location home ≡ Some here))
home_lies (Zarr mount path meta) = inr (mount ++ 47 ∷ path, refl)
home_lies (N5 mount path meta) = inr (mount ++ 47 ∷ path, refl)
home_lies (Zarr3 mount path meta) = inr (mount ++ 47 ∷ path, refl)
home_lies (Local start) = inl refl

above_zero : (n : ℕ) → (n == 0) ≡ false → n ≡ (n - 1) + 1
above_zero zero is = absurd (cc)
above_zero (suc n) is = omega arith

not_zero : (n m : ℕ) → n ≡ m + 1 → (n == 0) ≡ false
not_zero n m is = elim (true_or_false (n == 0)) [
  | inl t ↦ let zero_is = eqb-true n 0 t in absurd (omega (arith, zero_is, is))
  | inr f ↦ f
]

one_less : (n m : ℕ) → n ≡ m + 1 → n - 1 ≡ m
one_less n m is = omega arith

behind_slash : (us vs ws : List ℕ) → us ++ 47 ∷ vs ≡ us ++ 47 ∷ ws → vs ≡ ws
behind_slash [] vs ws e = cc
behind_slash (u ∷ us) vs ws e = behind_slash us vs ws (cc)

module _ (h : History) (places : Located) (table : IsTable h places) (legal : IsLegal finmap.empty (outline h)) where
  known_in : (a : ℕ) (k : Known) → known_after h a ≡ Some k → known_after (outline h) a ≡ Some k
  known_in a k is = known-outline a h ∙ is

  -- an array's text is its location and a "/"
  text_at : (k : Known) (here : List ℕ) → location k.info.home ≡ Some here → keys_text k ≡ here ++ 47 ∷ []
  text_at k here is = stored_text k.info.home k.opened here is

  -- two arrays at one place are one
  one_there : (a b : ℕ) (k l : Known) (here : List ℕ) → known_after h a ≡ Some k → known_after h b ≡ Some l → location k.info.home ≡ Some here → location l.info.home ≡ Some here → a ≡ b
  one_there a b k l here ka lb at there =
      elim (equal_or_not a b) [
        | inl same ↦ same
        | inr other ↦
            let apart = known_apart finmap.empty (outline h) legal a b k l (known_in a k ka) (known_in b l lb) other in
            let same : begins (keys_text k) (keys_text l) ≡ true = ap (begins (keys_text k)) (text_at l here there ∙ sym (text_at k here at)) ∙ begins_itself (keys_text k) in
            let clash : true ≡ false = sym same ∙ apart.first in
            absurd (cc)
      ]

  -- the table has each stored array, by its number
  pub in_table : (a : ℕ) (k : Known) (here : List ℕ) → known_after h a ≡ Some k → location k.info.home ≡ Some here → finmap.get places here ≡ Some a
  in_table a k here is at = by (array_at h here) refl
    where
      by : (o : Option Known) → array_at h here ≡ o → finmap.get places here ≡ Some a
      by None none = absurd (none_there here h none a k is at)
      by (Some l) there =
          let known : known_after h l.info.number ≡ Some l = sym (known-outline l.info.number h) ∙ array_at-known finmap.empty here (outline h) legal l (array_at-outline here h ∙ there) in
          let same = one_there a l.info.number k l here is known at (located here h l there) in
          table here ∙ ap (option_map (λ (m : Known). m.info.number)) there ∙ ap Some (sym same)

  -- and what it has is a stored array of the history
  pub of_table : (here : List ℕ) (n : ℕ) → finmap.get places here ≡ Some n → (k : Known) × (known_after h n ≡ Some k) × (location k.info.home ≡ Some here)
  of_table here n is =
      let there = array_by_table h places table here n is in
      let k = there.0 in
      let known : known_after (outline h) k.info.number ≡ Some k = array_at-known finmap.empty here (outline h) legal k (array_at-outline here h ∙ there.1) in
      (k, ap (known_after h) (sym there.2) ∙ sym (known-outline k.info.number h) ∙ known, located here h k there.1)

  neither : (one other : List ℕ) → is_below one other ≡ false → is_below other one ≡ false → clashes one other ≡ false
  neither one other a b = ap (λ t. t || is_below other one) a ∙ b

  -- no two locations clash
  pub places_apart : AreLocationsApart places
  places_apart one other n m at there =
      let k = of_table one n at in
      let l = of_table other m there in
      elim (equal_or_not n m) [
        | inl same ↦
            let known : k.0 ≡ l.0 = some_inj k.0 l.0 (sym k.1 ∙ ap (known_after h) same ∙ l.1) in
            let here : one ≡ other = some_inj one other (sym k.2 ∙ ap (λ (m : Known). location m.info.home) known ∙ l.2) in
            subst (λ t. clashes one t ≡ false) here (neither one one (not_longer one 47) (not_longer one 47))
        | inr apart ↦
            let texts = known_apart finmap.empty (outline h) legal n m k.0 l.0 (known_in n k.0 k.1) (known_in m l.0 l.1) apart in
            let first : begins (one ++ 47 ∷ []) (other ++ 47 ∷ []) ≡ false = (λ i. begins (sym (text_at k.0 one k.2) i) (sym (text_at l.0 other l.2) i)) ∙ texts.first in
            let second : begins (other ++ 47 ∷ []) (one ++ 47 ∷ []) ≡ false = (λ i. begins (sym (text_at l.0 other l.2) i) (sym (text_at k.0 one k.2) i)) ∙ texts.second in
            neither one other (not_before (one ++ 47 ∷ []) other (47 ∷ []) first) (not_before (other ++ 47 ∷ []) one (47 ∷ []) second)
      ]

  -- the key of a chunk of a stored array, behind its location
  stored_key : (k : Known) (index here : List ℕ) → location k.info.home ≡ Some here → chunk_key k index ≡ here ++ 47 ∷ chunk_name (form_of k.info.home) index
  stored_key k index here at = ap (λ t. t ++ chunk_name (form_of k.info.home) index) (text_at k here at) ∙ append_assoc here (47 ∷ []) (chunk_name (form_of k.info.home) index)

  opened_in : (n : ℕ) (info : ArrayInfo) → kind_at h n ≡ Some (Opened info) → (k : Known) × (known_after h info.number ≡ Some k) × (k.info ≡ info) × (k.opened ≡ n + 1)
  opened_in n info is =
      let k = opened_known finmap.empty (outline h) legal n info (kind-outline h n info is) in
      (k.0, sym (known-outline info.number h) ∙ k.1, k.2, k.3)

  -- the one chunk of a local array has its key
  of_local : (n m : ℕ) (key : List ℕ) (info : ArrayInfo) → n ≡ m + 1 → kind_at h m ≡ Some (Opened info) → is_local info.home ≡ true → local_key n ≡ key → IsKeyIn h key info.number
  of_local n m key info number at local is =
      let k = opened_in m info at in
      let index = origin (chunk_shape info) in
      let c : Chunk = record { array = info.number; index = index } in
      record {
        chunk = c;
        of_array = refl;
        has = record {
          array = k.0;
          known = k.1;
          valid = subst (λ (i : ArrayInfo). IsIndexOf i index) (sym k.2) (at_origin info);
          named = ap (λ o. key_in o c) k.1 ∙ ap Some (local_key_is k.0 index (ap (λ (i : ArrayInfo). is_local i.home) k.2 ∙ local) ∙ ap local_key (k.3 ∙ sym number) ∙ is);
        };
      }

  pub local_some : (n : ℕ) (key : List ℕ) → local_key n ≡ key → IfSome (local_at h n) (IsKeyIn h key)
  local_some n key is = by (n == 0) refl (slice_get h (n - 1)) refl
    where
      local : (info : ArrayInfo) (b : Bool) → is_local info.home ≡ b → (n == 0) ≡ false → kind_at h (n - 1) ≡ Some (Opened info) → IfSome (cond b (Some info.number) None) (IsKeyIn h key)
      local info true run some at = of_local n (n - 1) key info (above_zero n some) at run is
      local info false stored some at = tt

      opened : (kind : Kind) → (n == 0) ≡ false → kind_at h (n - 1) ≡ Some kind → IfSome (local_by kind) (IsKeyIn h key)
      opened (Opened info) some at = local info (is_local info.home) refl some at
      opened (Done line mode ops key) some at = tt
      opened (Resized a shape) some at = tt
      opened (Fault mount) some at = tt

      by : (b : Bool) → (n == 0) ≡ b → (o : Option Event) → slice_get h (n - 1) ≡ o → IfSome (cond b None (local_in o)) (IsKeyIn h key)
      by true none o at = tt
      by false some None at = tt
      by false some (Some e) at = opened e.kind some (ap (option_map (λ (e : Event). e.kind)) at)

  local_there : (n m : ℕ) (info : ArrayInfo) → n ≡ m + 1 → kind_at h m ≡ Some (Opened info) → is_local info.home ≡ true → local_at h n ≡ Some info.number
  local_there n m info number at local =
      ap (λ b. cond b None (local_in (slice_get h (n - 1)))) (not_zero n m number)
      ∙ ap (λ j. local_in (slice_get h j)) (one_less n m number)
      ∙ by (slice_get h m) at
    where
      by : (o : Option Event) → option_map (λ (e : Event). e.kind) o ≡ Some (Opened info) → local_in o ≡ Some info.number
      by None is = absurd (none_is_none (Opened info) is)
      by (Some e) is = ap local_by (some_inj e.kind (Opened info) is) ∙ ap (λ b. cond b (Some info.number) None) local

  known_placed : (a : ℕ) (k : Known) → known_after h a ≡ Some k → IsPlaced k.info.home
  known_placed a k is = placed finmap.empty a (outline h) legal k (known_in a k is)

  pub local_none : (n : ℕ) (key : List ℕ) → local_key n ≡ key → ((m : ℕ) → m < 2 ^ 64 → local_key m ≡ key → m ≡ n) → length h < 2 ^ 64 → local_at h n ≡ None → IsNobodys h key
  local_none n key is only small none = λ c has.
      let k = has.array in
      let named = key_is h c k key has.known has.named in
      elim (true_or_false (is_local k.info.home)) [
        | inl local ↦
            let low = opened_le c.array h k has.known in
            let number = only k.opened (omega (arith, low, small)) (sym (local_key_is k c.index local) ∙ named) in
            let there = opened_there c.array h k has.known in
            absurd (none_is_none k.info.number (sym none ∙ local_there n there.0 k.info (sym number ∙ there.1) there.2 local))
        | inr stored ↦ stored_apart k.info.home k.opened (chunk_name (form_of k.info.home) c.index) (decimal n ++ 47 ∷ codes "0") (known_placed c.array k has.known) stored (named ∙ sym is ∙ local_parts n)
      ]

  -- a key that is none of a local array, of a chunk of an array that lies somewhere
  stored_has : (c : Chunk) (key : List ℕ) → ((m : ℕ) → m < 2 ^ 64 → local_key m ≢ key) → length h < 2 ^ 64 → (has : HasKey h c key)
      → (here : List ℕ) × (location has.array.info.home ≡ Some here) × (key ≡ here ++ 47 ∷ chunk_name (form_of has.array.info.home) c.index) × (finmap.get places here ≡ Some c.array)
  stored_has c key not_local small has =
      let k = has.array in
      let named = key_is h c k key has.known has.named in
      elim (home_lies k.info.home) [
        | inl local ↦ let low = opened_le c.array h k has.known in absurd (not_local k.opened (omega (arith, low, small)) (sym (local_key_is k c.index local) ∙ named))
        | inr at ↦ (at.0, at.1, sym named ∙ stored_key k c.index at.0 at.1, in_table c.array k at.0 has.known at.1)
      ]

  pub stored_some : (n : ℕ) (k : Known) (key upper rest : List ℕ) → known_after h n ≡ Some k → location k.info.home ≡ Some upper → key ≡ upper ++ 47 ∷ rest → IsChunkName k.info rest → IsKeyIn h key n
  stored_some n k key upper rest known at parts name =
      let c : Chunk = record { array = n; index = name.0 } in
      record {
        chunk = c;
        of_array = refl;
        has = record {
          array = k;
          known = known;
          valid = name.1;
          named = ap (λ o. key_in o c) known ∙ ap Some (stored_key k name.0 upper at ∙ ap (λ t. upper ++ 47 ∷ t) name.2 ∙ sym parts);
        };
      }

  pub nothing_above : (key : List ℕ) → ((m : ℕ) → m < 2 ^ 64 → local_key m ≢ key) → length h < 2 ^ 64 → HasNoneAbove places key → IsNobodys h key
  nothing_above key not_local small none = λ c has.
      let at = stored_has c key not_local small has in
      absurd (none_is_none c.array (sym (none at.0 (chunk_name (form_of has.array.info.home) c.index) at.2) ∙ at.3))

  pub not_named : (n : ℕ) (k : Known) (key upper rest : List ℕ) → ((m : ℕ) → m < 2 ^ 64 → local_key m ≢ key) → length h < 2 ^ 64 → known_after h n ≡ Some k → location k.info.home ≡ Some upper → key ≡ upper ++ 47 ∷ rest
      → ((above more : List ℕ) (m : ℕ) → key ≡ above ++ 47 ∷ more → finmap.get places above ≡ Some m → n ≡ m) → ¬ IsChunkName k.info rest → IsNobodys h key
  not_named n k key upper rest not_local small known at parts only not_name = λ c has.
      let there = stored_has c key not_local small has in
      let same = only there.0 (chunk_name (form_of has.array.info.home) c.index) c.array there.2 there.3 in
      let one : has.array ≡ k = some_inj has.array k (sym has.known ∙ ap (known_after h) (sym same) ∙ known) in
      let here : there.0 ≡ upper = some_inj there.0 upper (sym there.1 ∙ ap (λ (l : Known). location l.info.home) one ∙ at) in
      let name : chunk_name (form_of has.array.info.home) c.index ≡ rest = behind_slash upper (chunk_name (form_of has.array.info.home) c.index) rest (ap (λ t. t ++ 47 ∷ chunk_name (form_of has.array.info.home) c.index) (sym here) ∙ sym there.2 ∙ parts) in
      not_name (subst (λ (l : Known). IsChunkName l.info rest) one (c.index, has.valid, name))

-- the array of the chunk that has a key is the one that the key tells
pub key_known : (h : History) → IsLegal finmap.empty (outline h) → (a : ℕ) (key : List ℕ) → IsKeyIn h key a → (d : Chunk) (has : HasKey h d key) → known_after h a ≡ Some has.array
key_known h legal a key there d has =
    let same = one_key_in h legal d there.chunk has.array there.has.array key has.known there.has.known has.valid there.has.valid has.named there.has.named in
    ap (known_after h) (sym (ap (λ (c : Chunk). c.array) same ∙ there.of_array)) ∙ has.known
