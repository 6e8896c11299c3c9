-- An array that lies at a location stays there, as it is, where no array gets another shape.
use Rattle.std.proofs.Common.{◌≡◌, ℕ, ◌+◌, ◌≤◌, List, [], ◌∷◌, ◌++◌, length, take, take-take, drop, Bool, true, false, cond, Option, Some, None, refl, sym, ap, subst, ◌∙◌, append_assoc, append-nil}
use Rattle.std.specs.Prelude.{◌==◌}
use Rattle.std.specs.List.{AllByRecursion}
use Rattle.std.proofs.lemmas.List.{take-append-drop}
use Rattle.std.proofs.lemmas.Slice.Eq.{bytes_eq-Decides}
use Rattle.kv_face.specs.Store.{Contents}
use Rattle.history.specs.declared.array.ArrayInfo.{ArrayInfo}
use Rattle.history.specs.declared.array.Home.{Home}
use Rattle.history.specs.declared.array.Home.TheVariants.{Zarr, N5, Zarr3, Local}
use Rattle.history.specs.declared.event.Event.{Event}
use Rattle.history.specs.declared.event.Kind.{Kind}
use Rattle.history.specs.declared.event.Kind.TheVariants.{Opened, Done, Resized, Fault}
use Rattle.history.specs.History.{History}
use Rattle.history.specs.Arrays.{Known}
use Rattle.history.specs.Chunks.{home_text, keys_text}
use Rattle.history.specs.Legal.{IsLegal, IsLegalKind, IsLegalOpening, IsApartFrom, AreApart}
use Rattle.history.specs.Places.{location, array_at, at_step, reshaped_at}
use Rattle.history.specs.Touch.{is_key}
use Rattle.history.proofs.Laws.{each_history, legal_step, array_at-more, array_at-known, apart_texts, some_inj, none_is_none, IsLegal-front}

-- no resize
abbrev pub IsUnresized : Kind → Type 0
IsUnresized (Opened info) = Unit {0}
IsUnresized (Done line mode ops key) = Unit {0}
IsUnresized (Resized array shape) = ⊥
IsUnresized (Fault mount) = Unit {0}

-- no event is a resize
abbrev pub AreUnresized : History → Type 0
AreUnresized h = AllByRecursion (λ (e : Event). IsUnresized e.kind) h

pub unresized_back : (h more : History) → AreUnresized (h ++ more) → AreUnresized more
unresized_back [] more are = are
unresized_back (e ∷ h) more are = unresized_back h more are.1

pub unresized_front : (h more : History) → AreUnresized (h ++ more) → AreUnresized h
unresized_front [] more are = tt
unresized_front (e ∷ h) more are = (are.0, unresized_front h more are.1)

key_of_text : (here : List ℕ) (o : Option (List ℕ)) → is_key here o ≡ true → o ≡ Some here
key_of_text here None is = absurd (cc)
key_of_text here (Some text) is = ap Some ((bytes_eq-Decides text here).0 is)

module _ (here : List ℕ) where
  opened_here : (h : History) (info : ArrayInfo) (o : Option Known) (k : Known) (b : Bool) → is_key here (location info.home) ≡ b → (o ≡ Some k → location k.info.home ≡ Some here)
      → cond b (Some (record { info = info; opened = length h + 1; shape = info.shape })) o ≡ Some k → location k.info.home ≡ Some here
  opened_here h info o k true key before at =
      let same : record { info = info; opened = length h + 1; shape = info.shape } ≡ k = some_inj _ k at in
      subst (λ (l : Known). location l.info.home ≡ Some here) same (key_of_text here (location info.home) key)
  opened_here h info o k false key before at = before at

  reshaped_here : (b : ℕ) (shape : List ℕ) (o : Option Known) (k : Known) → ((l : Known) → o ≡ Some l → location l.info.home ≡ Some here) → reshaped_at b shape o ≡ Some k → location k.info.home ≡ Some here
  reshaped_here b shape None k before at = absurd (none_is_none k at)
  reshaped_here b shape (Some l) k before at = either (b == l.info.number) at
    where
      either : (c : Bool) → cond c (Some (record l { shape = shape })) (Some l) ≡ Some k → location k.info.home ≡ Some here
      either true is = subst (λ (x : Known). location x.info.home ≡ Some here) (some_inj (record l { shape = shape }) k is) (before l refl)
      either false is = subst (λ (x : Known). location x.info.home ≡ Some here) (some_inj l k is) (before l refl)

  step_here : (h : History) (kind : Kind) (o : Option Known) (k : Known) → ((l : Known) → o ≡ Some l → location l.info.home ≡ Some here) → at_step here h kind o ≡ Some k → location k.info.home ≡ Some here
  step_here h (Opened info) o k before at = opened_here h info o k (is_key here (location info.home)) refl (before k) at
  step_here h (Done line mode ops key) o k before at = before k at
  step_here h (Resized b shape) o k before at = reshaped_here b shape o k before at
  step_here h (Fault mount) o k before at = before k at

  -- it lies there
  pub lies_here : (h : History) (k : Known) → array_at h here ≡ Some k → location k.info.home ≡ Some here
  lies_here =
      each_history (λ h. (k : Known) → array_at h here ≡ Some k → location k.info.home ≡ Some here) (λ k at. absurd (none_is_none k at))
      (λ h e before k at. step_here h e.kind (array_at h here) k before (sym (array_at-more h e here) ∙ at))

  pub text_here : (home : Home) (n : ℕ) → location home ≡ Some here → home_text home n ≡ here ++ 47 ∷ []
  text_here (Zarr mount path meta) n is = ap (λ text. text ++ 47 ∷ []) (some_inj (mount ++ 47 ∷ path) here is)
  text_here (N5 mount path meta) n is = ap (λ text. text ++ 47 ∷ []) (some_inj (mount ++ 47 ∷ path) here is)
  text_here (Zarr3 mount path meta) n is = ap (λ text. text ++ 47 ∷ []) (some_inj (mount ++ 47 ∷ path) here is)
  text_here (Local start) n is = absurd (none_is_none here is)

  module _ (start : Contents) where
    -- no other array is opened there
    not_again : (h : History) (info : ArrayInfo) (k : Known) → IsLegal start h → IsLegalOpening h info → array_at h here ≡ Some k → is_key here (location info.home) ≡ true → ⊥
    not_again h info k legal opening at key =
        let lies = lies_here h k at in
        let mine : keys_text k ≡ here ++ 47 ∷ [] = text_here k.info.home k.opened lies in
        let new : home_text info.home (length h + 1) ≡ here ++ 47 ∷ [] = text_here info.home (length h + 1) (key_of_text here (location info.home) key) in
        let apart : AreApart (home_text info.home (length h + 1)) (keys_text k) = subst (IsApartFrom (home_text info.home (length h + 1))) (array_at-known start here h legal k at) (opening.alone k.info.number) in
        apart_texts (home_text info.home (length h + 1)) (keys_text k) [] [] apart (ap (λ text. text ++ []) (new ∙ sym mine))

    stays_by : (h : History) (kind : Kind) (k : Known) → IsLegal start h → IsLegalKind start h kind → IsUnresized kind → array_at h here ≡ Some k → at_step here h kind (Some k) ≡ Some k
    stays_by h (Opened info) k legal may still at = either (is_key here (location info.home)) refl
      where
        either : (b : Bool) → is_key here (location info.home) ≡ b → cond b (Some (record { info = info; opened = length h + 1; shape = info.shape })) (Some k) ≡ Some k
        either true key = absurd (not_again h info k legal may at key)
        either false key = refl
    stays_by h (Done line mode ops key) k legal may still at = refl
    stays_by h (Resized b shape) k legal may still at = absurd still
    stays_by h (Fault mount) k legal may still at = refl

    pub stays_step : (h : History) (e : Event) (k : Known) → IsLegal start h → IsLegalKind start h e.kind → IsUnresized e.kind → array_at h here ≡ Some k → array_at (h ++ e ∷ []) here ≡ Some k
    stays_step h e k legal may still at = array_at-more h e here ∙ ap (at_step here h e.kind) at ∙ stays_by h e.kind k legal may still at

    -- it stays as more happens
    pub stays_more : (more h : History) (k : Known) → IsLegal start (h ++ more) → AreUnresized more → array_at h here ≡ Some k → array_at (h ++ more) here ≡ Some k
    stays_more [] h k legal still at = ap (λ g. array_at g here) (append-nil h) ∙ at
    stays_more (e ∷ more) h k legal still at =
        let parts : (h ++ e ∷ []) ++ more ≡ h ++ e ∷ more = append_assoc h (e ∷ []) more in
        let whole : IsLegal start ((h ++ e ∷ []) ++ more) = subst (IsLegal start) (sym parts) legal in
        let now = legal_step start h e (IsLegal-front start (h ++ e ∷ []) more whole) in
        let next : array_at (h ++ e ∷ []) here ≡ Some k = stays_step h e k now.0 now.1 still.0 at in
        subst (λ g. array_at g here ≡ Some k) parts (stays_more more (h ++ e ∷ []) k whole still.1 next)

    -- from a moment to the end
    pub stays : (history : History) (at : ℕ) (k : Known) → IsLegal start history → AreUnresized history → array_at (take at history) here ≡ Some k → array_at history here ≡ Some k
    stays history at k legal still is =
        let parts : take at history ++ drop at history ≡ history = take-append-drop at history in
        subst (λ h. array_at h here ≡ Some k) parts
        (stays_more (drop at history) (take at history) k (subst (IsLegal start) (sym parts) legal) (unresized_back (take at history) (drop at history) (subst AreUnresized (sym parts) still)) is)

    -- and to any later moment
    pub stays_until : (history : History) (at later : ℕ) (k : Known) → at ≤ later → IsLegal start history → AreUnresized history → array_at (take at history) here ≡ Some k → array_at (take later history) here ≡ Some k
    stays_until history at later k low legal still is =
        let parts : take later history ++ drop later history ≡ history = take-append-drop later history in
        let front : IsLegal start (take later history) = IsLegal-front start (take later history) (drop later history) (subst (IsLegal start) (sym parts) legal) in
        stays (take later history) at k front (unresized_front (take later history) (drop later history) (subst AreUnresized (sym parts) still))
        (ap (λ h. array_at h here) (take-take at later history low) ∙ is)
