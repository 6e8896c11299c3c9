-- The views that lines open are of arrays of the history, and these keep their shapes.
use Rattle.std.proofs.Common.{◌≡◌, ℕ, List, [], ◌∷◌, ◌++◌, Bool, true, false, cond, Option, Some, None, Result, Ok, Err, map, take, drop, length, length-append, refl, sym, ap, subst, ◌∙◌, append_assoc, arith, eq-eqb}
use Rattle.std.specs.Prelude.{IsTrue, filter_map, option_map, option_and_then}
use Rattle.std.specs.FinMap as finmap
use Rattle.std.specs.List.{AllByRecursion, cons_option, take-map}
use Rattle.std.specs.Str.{bytes_eq}
use Rattle.std.proofs.lemmas.List.{take-append-drop}
use Rattle.std.proofs.Math.Seq.{take-length, take-append_seam}
use Rattle.serde_json.specs.Data.{Data}
use Rattle.stack_driver.specs.Conditions.{IsView}
use Rattle.stack_driver.specs.References.{Reference}
use Rattle.stack_driver.specs.Targets.{Cell, Target}
use Rattle.stack_driver.specs.Views.{targets_of}
use Rattle.stack_driver.specs.declared.error.TargetError.{TargetError}
use Rattle.stack_driver.specs.declared.view.View.{View}
use Rattle.history.specs.declared.array.ArrayInfo.{ArrayInfo}
use Rattle.history.specs.declared.event.Kind.{Kind}
use Rattle.history.specs.declared.event.Kind.TheVariants.{Opened, Done, Resized, Fault}
use Rattle.history.specs.Answers.{Text, BuildCause}
use Rattle.history.specs.Arrays.{Known, known_after, ref_of}
use Rattle.history.specs.Bound.{IsBuildWithin}
use Rattle.history.specs.History.{History}
use Rattle.history.specs.Leaves.{location_of_leaf}
use Rattle.history.specs.Legal.{IsLegal, HasTarget, is_present, is_present_in}
use Rattle.history.specs.Lines.{SpecLeaf, given, stored, Build}
use Rattle.history.specs.OpenRows.{next_array}
use Rattle.history.specs.Own.{Numbered, opened_event}
use Rattle.history.specs.Places.{array_at}
use Rattle.history.specs.Refs.{IsKnownRef, HasKnownRefs}
use Rattle.history.specs.Sessions.{Names, bind}
use Rattle.history.specs.Staged.{IsFound}
use Rattle.history.specs.Store.{resized_after, resized_step}
use Rattle.history.proofs.Laws.{each_history, known_after-more, resized_after-more, known_unresized, array_at-known, opened_as, some_inj, none_is_none, WasInside, LiesOf, targets_lie}
use Rattle.serial_runs.specs.Numbered.{IsEvent}
use Rattle.state_laws.specs.Outline.{outline, outlined, outlined_event}
use Rattle.state_laws.proofs.Outline.{known-outline, array_at-outline}
use Rattle.transcript_laws.specs.Claimed.{opening_of, at_number}
use Rattle.transcript_laws.specs.Standings.{names_opened}
use Rattle.transcript_laws.specs.Takings.{before, Taking, taking, opened_info, ref_of_leaf, all_refs, built_view, opened_view}
use Rattle.transcript_laws.proofs.OneHistory.{AreEvents}
use Rattle.transcript_laws.proofs.Places.{IsUnresized, AreUnresized, unresized_back, unresized_front}
use Rattle.transcript_laws.proofs.Views.{IsBuilding}

-- the view keeps the rules, and is of arrays of the history
abbrev pub IsViewOf : History → View → Type 0
IsViewOf history view = IsView view × HasKnownRefs history view

-- so is each view that a name is bound to
abbrev pub AreViewsOf : History → Names → Type 0
AreViewsOf history names = (name : Text) (view : View) → names name ≡ Some view → IsViewOf history view

kind_still : (kind : Kind) → IsUnresized kind → IsUnresized (outlined kind)
kind_still (Opened info) still = tt
kind_still (Done line mode ops key) still = tt
kind_still (Resized a shape) still = absurd still
kind_still (Fault mount) still = tt

outline_still : (h : History) → AreUnresized h → AreUnresized (outline h)
outline_still [] still = tt
outline_still (e ∷ h) still = (kind_still e.kind still.0, outline_still h still.1)

never_resized : (a : ℕ) (h : History) → AreUnresized h → resized_after h a ≡ 0
never_resized a =
    each_history (λ h. AreUnresized h → resized_after h a ≡ 0) (λ still. refl)
    (λ h e before still. resized_after-more h e a ∙ by h e.kind (unresized_back h (e ∷ []) still).0 (before (unresized_front h (e ∷ []) still)))
  where
    by : (h : History) (kind : Kind) → IsUnresized kind → resized_after h a ≡ 0 → resized_step a h kind (resized_after h a) ≡ 0
    by h (Opened info) still none = none
    by h (Done line mode ops key) still none = none
    by h (Resized b shape) still none = absurd still
    by h (Fault mount) still none = none

-- an array as the event of a number opened it
abbrev opened_at : ℕ → ArrayInfo → Known
opened_at n info = record { info = info; opened = n; shape = info.shape }

pub new_known : (history : History) (owner n : ℕ) (info : ArrayInfo) → IsEvent history n (opened_event owner info) → IsKnownRef history (ref_of (opened_at n info))
new_known history owner n info is =
    let e = opened_event owner info in
    let count : n ≡ length (is.before ++ e ∷ []) = is.numbered ∙ sym (length-append is.before (e ∷ [])) in
    let front : take n history ≡ is.before ++ e ∷ [] =
    ap (λ j. take j history) count ∙ ap (take (length (is.before ++ e ∷ []))) (is.parts ∙ sym (append_assoc is.before (e ∷ []) is.later)) ∙ take-append_seam (is.before ++ e ∷ []) is.later in
    record {
      seen = n;
      array = opened_at n info;
      known = ap (λ (h : History). known_after h info.number) front ∙ known_after-more is.before e info.number
          ∙ ap (λ t. cond t (Some (opened_as is.before info)) (known_after is.before info.number)) (eq-eqb info.number info.number refl) ∙ ap (λ m. Some (opened_at m info)) (sym is.numbered);
      same = refl;
    }

module _ (history : History) (legal : IsLegal finmap.empty (outline history)) where
  -- an array that lies somewhere is one of the history
  pub lies_known : (here : List ℕ) (k : Known) → array_at history here ≡ Some k → IsKnownRef history (ref_of k)
  lies_known here k at =
      let now : known_after history k.info.number ≡ Some k = sym (known-outline k.info.number history) ∙ array_at-known finmap.empty here (outline history) legal k (array_at-outline here history ∙ at) in
      record { seen = length history; array = k; known = ap (λ (h : History). known_after h k.info.number) (take-length history) ∙ now; same = refl }

  -- the array of a leaf is one of the history
  abbrev IsKnownTaking : Taking → Type 0
  IsKnownTaking t = (ref : Reference) → ref_of_leaf history t ≡ Some ref → IsKnownRef history ref

  leaf_known : (owner : ℕ) (leaf : SpecLeaf) (number : Option ℕ) (os : List Numbered) → AreEvents history (cons_option (opening_of history owner (taking leaf number)) os) → IsKnownTaking (taking leaf number)
  leaf_known owner (given cells) None os are ref is = absurd (none_is_none ref is)
  leaf_known owner (stored node leaf) None os are ref is = by (array_at history (location_of_leaf leaf)) refl is
    where
      by : (o : Option Known) → array_at history (location_of_leaf leaf) ≡ o → option_map ref_of o ≡ Some ref → IsKnownRef history ref
      by None at there = absurd (none_is_none ref there)
      by (Some k) at there = subst (IsKnownRef history) (some_inj (ref_of k) ref there) (lies_known (location_of_leaf leaf) k at)
  leaf_known owner leaf (Some n) os are ref is = by (opened_info (next_array (before history n)) leaf) are is
    where
      by : (o : Option ArrayInfo) → AreEvents history (cons_option (option_map (λ (info : ArrayInfo). at_number n (opened_event owner info)) o) os) → option_map ref_of (option_map (opened_at n) o) ≡ Some ref → IsKnownRef history ref
      by None events there = absurd (none_is_none ref there)
      by (Some info) events there = subst (IsKnownRef history) (some_inj (ref_of (opened_at n info)) ref there) (new_known history owner n info events.0)

  tail : (o : Option Numbered) (os : List Numbered) → AreEvents history (cons_option o os) → AreEvents history os
  tail None os are = are
  tail (Some first) os are = are.1

  pub takings_known : (owner : ℕ) (ts : List Taking) → AreEvents history (filter_map (opening_of history owner) ts) → AllByRecursion IsKnownTaking ts
  takings_known owner [] are = tt
  takings_known owner (t ∷ ts) are =
      let rest = filter_map (opening_of history owner) ts in
      (leaf_known owner t.leaf t.number rest are, takings_known owner ts (tail (opening_of history owner t) rest are))

  -- so are those of some leaves
  abbrev AreKnown : Option (List Reference) → Type 0
  AreKnown o = (refs : List Reference) → o ≡ Some refs → AllByRecursion (IsKnownRef history) refs

  more_known : (ref : Reference) (o : Option (List Reference)) → IsKnownRef history ref → AreKnown o → AreKnown (option_map (λ more. ref ∷ more) o)
  more_known ref None known all refs is = absurd (none_is_none refs is)
  more_known ref (Some more) known all refs is = subst (AllByRecursion (IsKnownRef history)) (some_inj (ref ∷ more) refs is) (known, all more refl)

  first_known : (o : Option Reference) (rest : List (Option Reference)) → ((ref : Reference) → o ≡ Some ref → IsKnownRef history ref) → AreKnown (all_refs rest) → AreKnown (all_refs (o ∷ rest))
  first_known None rest one all refs is = absurd (none_is_none refs is)
  first_known (Some ref) rest one all refs is = more_known ref (all_refs rest) (one ref refl) all refs is

  refs_known : (ts : List Taking) → AllByRecursion IsKnownTaking ts → AreKnown (all_refs (map (ref_of_leaf history) ts))
  refs_known [] all refs is = subst (AllByRecursion (IsKnownRef history)) (some_inj [] refs is) tt
  refs_known (t ∷ ts) all refs is = first_known (ref_of_leaf history t) (map (ref_of_leaf history) ts) all.0 (refs_known ts all.1) refs is

  module _ (build : Build) (rules : IsBuilding build) (within : IsBuildWithin build) (view : View) where
    pub built_known : (refs : List Reference) (r : Result View (Text × BuildCause)) → AllByRecursion (IsKnownRef history) refs → build refs ≡ r → built_view r ≡ Some view → IsViewOf history view
    built_known refs (Ok made) known is there = subst (IsViewOf history) (some_inj made view there) (rules refs made is, within history refs made known is)
    built_known refs (Err refusal) known is there = absurd (none_is_none view there)

    over_known : (o : Option (List Reference)) → AreKnown o → option_and_then (λ refs. built_view (build refs)) o ≡ Some view → IsViewOf history view
    over_known None known there = absurd (none_is_none view there)
    over_known (Some refs) known there = built_known refs (build refs) (known refs refl) refl there

    -- the view over arrays of leaves
    pub opened_known : (ts : List Taking) → AllByRecursion IsKnownTaking ts → opened_view history ts build ≡ Some view → IsViewOf history view
    opened_known ts all there = over_known (all_refs (map (ref_of_leaf history) ts)) (refs_known ts all) there

  module _ (still : AreUnresized history) where
    -- an array keeps its shape
    pub known_kept : (a seen : ℕ) (k : Known) → known_after (take seen history) a ≡ Some k → known_after history a ≡ Some k
    known_kept a seen k is =
        let all = outline history in
        let early = take seen all in
        let late = drop seen all in
        let parts : early ++ late ≡ all = take-append-drop seen all in
        let there : known_after early a ≡ Some k = ap (λ (h : History). known_after h a) (take-map outlined_event seen history) ∙ known-outline a (take seen history) ∙ is in
        let none : resized_after (early ++ late) a ≡ 0 = ap (λ (h : History). resized_after h a) parts ∙ never_resized a all (outline_still history still) in
        sym (known-outline a history) ∙ ap (λ (h : History). known_after h a) (sym parts) ∙ known_unresized finmap.empty early a k there late (subst (IsLegal finmap.empty) (sym parts) legal) (omega (arith, none))

    cell_present : (x : Cell) → WasInside history x → IsTrue (is_present history x)
    cell_present x was = ap (λ o. is_present_in o x) (known_kept x.array was.seen was.array was.known) ∙ was.inside

    all_present : (ts : List (Result Target TargetError)) → AllByRecursion IsFound ts → AllByRecursion (LiesOf history) ts → AllByRecursion (HasTarget history) ts
    all_present [] found lie = tt
    all_present (Ok t ∷ ts) found lie = (cell_present t.cell lie.0, all_present ts found.1 lie.1)
    all_present (Err e ∷ ts) found lie = absurd found.0

    -- each target of a view lies in the present shape of an array
    pub view_present : (view : View) → HasKnownRefs history view → AllByRecursion IsFound (targets_of view) → AllByRecursion (HasTarget history) (targets_of view)
    view_present view refs found = all_present (targets_of view) found (targets_lie history view refs)

pub bound_views : (history : History) (names : Names) (name : Text) (view : View) → AreViewsOf history names → IsViewOf history view → AreViewsOf history (bind names name view)
bound_views history names name view each is = λ other v there. by other v (bytes_eq name other) there
  where
    by : (other : Text) (v : View) (b : Bool) → cond b (Some view) (names other) ≡ Some v → IsViewOf history v
    by other v true there = subst (IsViewOf history) (some_inj view v there) is
    by other v false there = each other v there

pub opened_names : (history : History) (names : Names) (name : Text) (said : Option Data) (o : Option View) → AreViewsOf history names → ((view : View) → o ≡ Some view → IsViewOf history view) → AreViewsOf history (names_opened names name said o)
opened_names history names name None o each is = each
opened_names history names name (Some said) None each is = each
opened_names history names name (Some said) (Some view) each is = bound_views history names name view each (is view refl)
