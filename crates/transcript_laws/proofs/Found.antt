-- An array that a leaf finds it finds at every later moment, where no array gets another shape.
use Rattle.std.proofs.Common.{◌≡◌, ℕ, ◌+◌, ◌≤◌, List, [], ◌∷◌, ◌++◌, length, take, take-take, drop, Bool, true, false, cond, Option, Some, None, refl, sym, ap, subst, ◌∙◌, append_assoc, append-nil}
use Rattle.std.specs.Prelude.{◌||◌, filter, filter_map}
use Rattle.std.specs.List.{cons_option}
use Rattle.std.specs.FinMap as finmap
use Rattle.std.proofs.lemmas.List.{take-append-drop}
use Rattle.std.proofs.lemmas.List.Elements.{filter-append}
use Rattle.kv_face.specs.Store.{Contents}
use Rattle.history.specs.declared.array.ArrayInfo.{ArrayInfo}
use Rattle.history.specs.declared.event.Event.{Event}
use Rattle.history.specs.declared.event.Kind.{Kind}
use Rattle.history.specs.declared.event.Kind.TheVariants.{Opened, Done, Resized, Fault}
use Rattle.history.specs.History.{History}
use Rattle.history.specs.Arrays.{Known}
use Rattle.history.specs.Chunks.{home_text, keys_text}
use Rattle.history.specs.Leaves.{Leaf, nothing, location_of_leaf, metadata_key_asked}
use Rattle.history.specs.Legal.{IsLegal, IsLegalKind, IsLegalOpening, IsApartFrom, AreApart}
use Rattle.history.specs.Outcomes.{Outcome, there, IsOutcome, outcome_at, unless_taken}
use Rattle.history.specs.Places.{location, location_of, opened_array, locations, is_below, clashes, least, taken, array_at}
use Rattle.history.specs.SingleOpen.{outcome_alone}
use Rattle.history.proofs.AloneOpens.{outcome_is}
use Rattle.history.proofs.Laws.{legal_step, locations-more, array_at-known, apart_texts, IsLegal-front}
use Rattle.history.proofs.Ordering.{begins_split}
use Rattle.transcript_laws.proofs.Opens.{there_at}
use Rattle.transcript_laws.proofs.Places.{AreUnresized, unresized_back, unresized_front, lies_here, text_here, stays_step, stays_until}

neither : (a b : Bool) → (a ≡ true → ⊥) → (b ≡ true → ⊥) → (a || b) ≡ false
neither true b one other = absurd (one refl)
neither false true one other = absurd (other refl)
neither false false one other = refl

module _ (here : List ℕ) (start : Contents) where
  -- no array is opened above one that lies there, or below it
  no_clash : (h : History) (info : ArrayInfo) (k : Known) (t : List ℕ) → IsLegal start h → IsLegalOpening h info → array_at h here ≡ Some k → location info.home ≡ Some t → clashes here t ≡ false
  no_clash h info k t legal opening at lies =
      let mine : keys_text k ≡ here ++ 47 ∷ [] = text_here here k.info.home k.opened (lies_here here h k at) in
      let new : home_text info.home (length h + 1) ≡ t ++ 47 ∷ [] = text_here t info.home (length h + 1) lies in
      let apart : AreApart (home_text info.home (length h + 1)) (keys_text k) = subst (IsApartFrom (home_text info.home (length h + 1))) (array_at-known start here h legal k at) (opening.alone k.info.number) in
      neither (is_below here t) (is_below t here)
      (λ below.
      let rest = begins_split (here ++ 47 ∷ []) t below in
      apart_texts (home_text info.home (length h + 1)) (keys_text k) [] (rest.0 ++ 47 ∷ []) apart
      (append-nil (home_text info.home (length h + 1)) ∙ new ∙ ap (λ text. text ++ 47 ∷ []) rest.1 ∙ append_assoc (here ++ 47 ∷ []) rest.0 (47 ∷ []) ∙ ap (λ text. text ++ (rest.0 ++ 47 ∷ [])) (sym mine)))
      (λ above.
      let rest = begins_split (t ++ 47 ∷ []) here above in
      apart_texts (home_text info.home (length h + 1)) (keys_text k) (rest.0 ++ 47 ∷ []) [] apart
      (ap (λ text. text ++ (rest.0 ++ 47 ∷ [])) new ∙ sym (append_assoc (t ++ 47 ∷ []) rest.0 (47 ∷ [])) ∙ ap (λ text. text ++ 47 ∷ []) (sym rest.1) ∙ sym mine ∙ sym (append-nil (keys_text k))))

  kept_out : (o : Option (List ℕ)) → ((t : List ℕ) → o ≡ Some t → clashes here t ≡ false) → filter (clashes here) (cons_option o []) ≡ []
  kept_out None apart = refl
  kept_out (Some t) apart = ap (λ b. cond b (t ∷ []) []) (apart t refl)

  new_apart : (h : History) (kind : Kind) (k : Known) → IsLegal start h → IsLegalKind start h kind → array_at h here ≡ Some k → filter (clashes here) (filter_map location_of (opened_array kind)) ≡ []
  new_apart h (Opened info) k legal may at = kept_out (location info.home) (λ t lies. no_clash h info k t legal may at lies)
  new_apart h (Done line mode ops key) k legal may at = refl
  new_apart h (Resized b shape) k legal may at = refl
  new_apart h (Fault mount) k legal may at = refl

  untaken_step : (h : History) (e : Event) (k : Known) → IsLegal start h → IsLegalKind start h e.kind → array_at h here ≡ Some k → taken (h ++ e ∷ []) here ≡ taken h here
  untaken_step h e k legal may at =
      ap (λ ts. least (filter (clashes here) ts)) (locations-more h e)
      ∙ ap least
      (filter-append (clashes here) (locations h) (filter_map location_of (opened_array e.kind))
      ∙ ap (λ ts. filter (clashes here) (locations h) ++ ts) (new_apart h e.kind k legal may at)
      ∙ append-nil (filter (clashes here) (locations h)))

  untaken_more : (more h : History) (k : Known) → IsLegal start (h ++ more) → AreUnresized more → array_at h here ≡ Some k → taken (h ++ more) here ≡ taken h here
  untaken_more [] h k legal still at = ap (λ g. taken g here) (append-nil h)
  untaken_more (e ∷ more) h k legal still at =
      let parts : (h ++ e ∷ []) ++ more ≡ h ++ e ∷ more = append_assoc h (e ∷ []) more in
      let whole : IsLegal start ((h ++ e ∷ []) ++ more) = subst (IsLegal start) (sym parts) legal in
      let now = legal_step start h e (IsLegal-front start (h ++ e ∷ []) more whole) in
      sym (ap (λ g. taken g here) parts) ∙ untaken_more more (h ++ e ∷ []) k whole still.1 (stays_step here start h e k now.0 now.1 still.0 at) ∙ untaken_step h e k now.0 now.1 at

  untaken_until : (history : History) (at later : ℕ) (k : Known) → at ≤ later → IsLegal start history → AreUnresized history → array_at (take at history) here ≡ Some k → taken (take later history) here ≡ taken (take at history) here
  untaken_until history at later k low legal still is =
      let early : History = take at (take later history) in
      let same : early ≡ take at history = take-take at later history low in
      let parts : early ++ drop at (take later history) ≡ take later history = take-append-drop at (take later history) in
      let whole : take later history ++ drop later history ≡ history = take-append-drop later history in
      let front : IsLegal start (take later history) = IsLegal-front start (take later history) (drop later history) (subst (IsLegal start) (sym whole) legal) in
      let front_still : AreUnresized (take later history) = unresized_front (take later history) (drop later history) (subst AreUnresized (sym whole) still) in
      sym (ap (λ g. taken g here) parts)
      ∙ untaken_more (drop at (take later history)) early k (subst (IsLegal start) (sym parts) front) (unresized_back early (drop at (take later history)) (subst AreUnresized (sym parts) front_still)) (ap (λ g. array_at g here) same ∙ is)
      ∙ ap (λ g. taken g here) same

free_of_there : (t : Option (List ℕ)) (o : Outcome) (k : Known) → unless_taken t o ≡ there k → (t ≡ None) × (o ≡ there k)
free_of_there None o k is = (refl, is)
free_of_there (Some other) o k is = absurd (cc)

-- a leaf that finds an array finds it later
pub found_later : (history : History) (leaf : Leaf) (at later : ℕ) (k : Known) → at ≤ later → IsLegal finmap.empty history → AreUnresized history → IsOutcome finmap.empty (take at history) leaf (there k)
    → IsOutcome finmap.empty (take later history) leaf (there k)
found_later history leaf at later k low legal still is =
    let here = location_of_leaf leaf in
    let early : outcome_alone (take at history) leaf ≡ there k = outcome_is finmap.empty (take at history) leaf (there k) refl is in
    let lies : array_at (take at history) here ≡ Some k = there_at (take at history) leaf k is in
    let free = free_of_there (taken (take at history) here) (outcome_at leaf nothing (array_at (take at history) here)) k early in
    let now : array_at (take later history) here ≡ Some k = stays_until here finmap.empty history at later k low legal still lies in
    let same : outcome_alone (take later history) leaf ≡ there k =
    ap (λ t. unless_taken t (outcome_at leaf nothing (array_at (take later history) here))) (untaken_until here finmap.empty history at later k low legal still lies ∙ free.0)
    ∙ ap (outcome_at leaf nothing) (now ∙ sym lies) ∙ free.1 in
    record { stored = nothing; read = λ none. finmap.get-empty _ (metadata_key_asked leaf); same = sym same }
