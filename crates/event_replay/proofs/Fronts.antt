-- The first events of a history that is stated.
use Rattle.std.proofs.Common.{◌≡◌, ◌∙◌, ◌<◌, ◌≤◌, ℕ, ◌+◌, List, [], ◌∷◌, ◌++◌, length, take, drop, get_or, Option, Some, None, refl, sym, ap, subst, arith, append_assoc}
use Rattle.std.specs.Prelude.{count_by, IsSome}
use Rattle.std.specs.FinMap as finmap
use Rattle.std.specs.List.{AllByRecursion}
use Rattle.std.proofs.lemmas.List.{map-append, take-append-drop, take-append-le, take_all}
use Rattle.history.specs.declared.array.ArrayInfo.{ArrayInfo}
use Rattle.history.specs.declared.event.Event.{Event}
use Rattle.history.specs.declared.event.Kind.{Kind}
use Rattle.history.specs.declared.event.Kind.TheVariants.{Opened, Done, Resized, Fault}
use Rattle.history.specs.Arrays.{Known, known_after}
use Rattle.history.specs.History.{History}
use Rattle.history.specs.Legal.{IsLegal, IsLegalKind, IsLegalOpening, is_opening}
use Rattle.history.specs.Store.{resized_after, resized_step}
use Rattle.history.proofs.Laws.{each_history, known_unresized, legal_step, resized_after-more, IsLegal-front}
use Rattle.state_laws.specs.Outline.{outlined, outlined_event, outline}
use Rattle.state_laws.proofs.Asked.{known_if, below_if}
use Rattle.state_laws.proofs.Outline.{outline-more, known-outline, opening_of_outline}
use Rattle.transaction_cells.specs.Operations.{IsGrowing, KeepsArrays}
use Rattle.event_replay.specs.Sweeps.{IsFront, IsStated, IsStatedKind}
use Rattle.event_replay.proofs.Places.{drop_step}

-- what holds of all of two lists
pub all_parts : {X : Type 0} (P : X → Type 0) (xs ys : List X) → AllByRecursion P (xs ++ ys) → AllByRecursion P xs × AllByRecursion P ys
all_parts P [] ys all = (tt, all)
all_parts P (x ∷ xs) ys all = let rest = all_parts P xs ys all.1 in ((all.0, rest.0), rest.1)

some_of : (o : Option Known) → IsSome o → (k : Known) × (o ≡ Some k)
some_of None is = absurd (cc)
some_of (Some k) is = (k, refl)

-- no array of a stated history gets another shape
never_resized : (whole : History) (a : ℕ) (h : History) → AllByRecursion (λ (e : Event). IsStatedKind whole e.kind) h → resized_after (outline h) a ≡ 0
never_resized whole a =
    each_history (λ h. AllByRecursion (λ (e : Event). IsStatedKind whole e.kind) h → resized_after (outline h) a ≡ 0) (λ all. refl)
    (λ h e before all.
    let parts = all_parts (λ (f : Event). IsStatedKind whole f.kind) h (e ∷ []) all in
    ap (λ g. resized_after g a) (outline-more h e) ∙ resized_after-more (outline h) (outlined_event e) a ∙ by h e.kind parts.1.0 (before parts.0))
  where
    by : (h : History) (kind : Kind) → IsStatedKind whole kind → resized_after (outline h) a ≡ 0 → resized_step a (outline h) (outlined kind) (resized_after (outline h) a) ≡ 0
    by h (Opened info) stated is = is
    by h (Done line mode ops key) stated is = is
    by h (Resized b shape) stated is = absurd stated
    by h (Fault mount) stated is = is

module _ (events before : History) (opened : ℕ) (front : IsFront events before opened) where
  split : outline events ≡ outline before ++ outline front.later
  split = ap outline front.whole ∙ map-append outlined_event before front.later

  whole_legal : IsLegal finmap.empty (outline before ++ outline front.later)
  whole_legal = subst (IsLegal finmap.empty) split front.stated.openings

  -- their outline is legal
  pub front_outline : IsLegal finmap.empty (outline before)
  front_outline = IsLegal-front finmap.empty (outline before) (outline front.later) whole_legal

  -- an array that is there stays as it is
  pub known_later : (a : ℕ) (k : Known) → known_after before a ≡ Some k → known_after events a ≡ Some k
  known_later a k is =
      let none = never_resized events a events front.stated.each in
      let low : resized_after (outline before ++ outline front.later) a ≤ length (outline before) = subst (λ h. resized_after h a ≤ length (outline before)) split (omega (arith, none)) in
      sym (known-outline a events) ∙ ap (λ h. known_after h a) split ∙ known_unresized finmap.empty (outline before) a k (known-outline a before ∙ is) (outline front.later) whole_legal low

  pub keeps : KeepsArrays before events
  keeps a k is = (k, known_later a k is, refl)

  -- the numbers of arrays that are there are those below the count
  pub known_low : (a : ℕ) (k : Known) → known_after before a ≡ Some k → a < opened
  known_low a k is = subst (λ n. a < n) (sym front.count) (below_if before a front_outline (subst IsSome (sym is) refl))

  pub low_known : (a : ℕ) → a < opened → (k : Known) × (known_after before a ≡ Some k)
  low_known a low = some_of (known_after before a) (known_if before a front_outline (subst (λ n. a < n) front.count low))

  pub front_is : take (length before) events ≡ before
  front_is = ap (take (length before)) front.whole ∙ take-append-le (length before) before front.later (omega arith) ∙ take_all (length before) before (omega arith)

-- so many of the events
pub front_at : (events : History) (n opened : ℕ) → IsStated events → opened ≡ count_by is_opening (take n events) → IsFront events (take n events) opened
front_at events n opened stated count = record { stated = stated; later = drop n events; whole = sym (take-append-drop n events); count = count }

-- arrays of each front are there in the end
pub grows : (events : History) → IsStated events → IsGrowing events
grows events stated n = keeps events (take n events) (count_by is_opening (take n events)) (front_at events n (count_by is_opening (take n events)) stated refl)

-- an array that is opened next may be
pub opening_next : (events before rest : History) (e : Event) (info : ArrayInfo) → IsStated events → events ≡ before ++ e ∷ rest → e.kind ≡ Opened info → IsLegalOpening before info
opening_next events before rest e info stated here is =
    let split : outline events ≡ (outline before ++ outlined_event e ∷ []) ++ outline rest = ap outline here ∙ map-append outlined_event before (e ∷ rest) ∙ sym (append_assoc (outline before) (outlined_event e ∷ []) (outline rest)) in
    let legal = IsLegal-front finmap.empty (outline before ++ outlined_event e ∷ []) (outline rest) (subst (IsLegal finmap.empty) split stated.openings) in
    let next = (legal_step finmap.empty (outline before) (outlined_event e) legal).1 in
    opening_of_outline before info (subst (λ kind. IsLegalKind finmap.empty (outline before) (outlined kind)) is next)

-- and an event is one that may be stated
pub stated_next : (events before rest : History) (e : Event) → IsStated events → events ≡ before ++ e ∷ rest → IsStatedKind events e.kind
stated_next events before rest e stated here =
    let parts = all_parts (λ (f : Event). IsStatedKind events f.kind) before (e ∷ rest) (subst (AllByRecursion (λ (f : Event). IsStatedKind events f.kind)) here stated.each) in
    parts.1.0

-- the event at a place stands behind those before it
pub event_here : (events : History) (n : ℕ) (e : Event) → n < length events → e ≡ get_or events n e → events ≡ take n events ++ e ∷ drop (n + 1) events
event_here events n e low is = sym (take-append-drop n events) ∙ ap (λ es. take n events ++ es) (drop_step events n e low ∙ ap (λ f. f ∷ drop (n + 1) events) (sym is))
