-- Openings by leaves that are given the number behind some events.
use Rattle.std.proofs.Common.{◌≡◌, ℕ, ◌+◌, ◌-◌, ◌≤◌, suc, List, [], ◌∷◌, ◌++◌, Bool, true, false, cond, Option, Some, None, map, take, length, refl, sym, ap, subst, ◌∙◌, arith, append_assoc, append-nil}
use Rattle.std.proofs.Math.Seq.{take-append_seam}
use Rattle.std.proofs.lemmas.List.{map-append, length-map}
use Rattle.std.specs.Prelude.{filter_map, option_map, is_some}
use Rattle.std.specs.List.{AllByRecursion, cons_option}
use Rattle.std.specs.FinMap as finmap
use Rattle.history.specs.declared.array.ArrayInfo.{ArrayInfo}
use Rattle.history.specs.declared.event.Event.{Event}
use Rattle.history.specs.History.{History}
use Rattle.history.specs.Leaves.{Leaf, location_of_leaf}
use Rattle.history.specs.Legal.{IsLegal, IsLegalKind}
use Rattle.history.specs.Lines.{SpecLeaf, given, stored}
use Rattle.history.specs.OpenRows.{next_array}
use Rattle.history.specs.Own as own
use Rattle.history.specs.Own.{Numbered, opened_event}
use Rattle.history.specs.Places.{array_at}
use Rattle.history.proofs.Laws.{legal_step, IsLegal-front}
use Rattle.transcript_cut.specs.StatedEvents.{IsEvent}
use Rattle.transcript_cut.specs.declared.SpecLeaf as spec
use Rattle.transcript_cut.specs.Openings.{leaf_of}
use Rattle.transcript_cut.specs.Claimed.{opening_of, at_number}
use Rattle.transcript_cut.specs.Takings.{Taking, taking, takings, before, was_opened, opened_info}
use Rattle.stated_arrays.specs.Outlined.{openings_by, AreOpenedBy}
use Rattle.stated_arrays.specs.Lines.{bare}
use Rattle.stated_arrays.specs.Served.{was_there, AreThere, IsNeverBy, IsNeverFirst, untaken}
use Rattle.stated_arrays.specs.Stating.{numbers_taken}

abbrev pub AreEvents : History → List Numbered → Type 0
AreEvents h os = AllByRecursion (λ (o : Numbered). IsEvent h o.number o.event) os

-- no more openings are stated than there are numbers
cons_few : (o : Option Numbered) (os : List Numbered) (n : ℕ) → length os ≤ n → length (cons_option o os) ≤ suc n
cons_few None os n low = omega (arith, low)
cons_few (Some x) os n low = omega (arith, low)

pub few : (p : History) (owner : ℕ) (leaves : List SpecLeaf) (ns : List ℕ) → length (openings_by p owner leaves ns) ≤ length ns
few p owner [] ns = none_few (length ns)
  where
    none_few : (n : ℕ) → 0 ≤ n
    none_few n = omega arith
few p owner (leaf ∷ leaves) [] = few p owner leaves []
few p owner (given cells ∷ leaves) (n ∷ ns) = cons_few (opening_of p owner (taking (given cells) (Some n))) (openings_by p owner leaves ns) (length ns) (few p owner leaves ns)
few p owner (stored node leaf ∷ leaves) (n ∷ ns) = by (was_opened p n leaf) (few p owner leaves (n ∷ ns)) (few p owner leaves ns)
  where
    by : (b : Bool) → length (openings_by p owner leaves (n ∷ ns)) ≤ suc (length ns) → length (openings_by p owner leaves ns) ≤ length ns
        → length (filter_map (opening_of p owner) (cond b (taking (stored node leaf) None ∷ takings p leaves (n ∷ ns)) (taking (stored node leaf) (Some n) ∷ takings p leaves ns))) ≤ suc (length ns)
    by true here later = here
    by false here later = cons_few (opening_of p owner (taking (stored node leaf) (Some n))) (openings_by p owner leaves ns) (length ns) later

-- the events before the one of a number
pub before_is : (p o : History) (n : ℕ) (e : Event) → length o ≡ n → take n p ≡ o → (is : IsEvent p (n + 1) e) → is.before ≡ o
before_is p o n e size front is =
    let numbered = is.numbered in
    let same : n ≡ length is.before = omega (arith, numbered) in
    sym (take-append_seam is.before (e ∷ is.later)) ∙ ap (take (length is.before)) (sym is.parts) ∙ ap (λ k. take k p) (sym same) ∙ front

-- an event of a legal history may follow those before it
pub legal_at : (p o : History) (n : ℕ) (e : Event) → IsLegal finmap.empty p → length o ≡ n → take n p ≡ o → IsEvent p (n + 1) e → IsLegalKind finmap.empty o e.kind
legal_at p o n e legal size front is =
    let whole : p ≡ (is.before ++ e ∷ []) ++ is.later = is.parts ∙ sym (append_assoc is.before (e ∷ []) is.later) in
    let step = legal_step finmap.empty is.before e (IsLegal-front finmap.empty (is.before ++ e ∷ []) is.later (subst (IsLegal finmap.empty) whole legal)) in
    subst (λ h. IsLegalKind finmap.empty h e.kind) (before_is p o n e size front is) step.1

module _ (p o : History) (n : ℕ) (front : take n p ≡ o) where
  below : before p (n + 1) ≡ o
  below = let same : (n + 1) - 1 ≡ n = omega arith in ap (λ k. take k p) same ∙ front

  was_same : (leaf : Leaf) → was_opened p (n + 1) leaf ≡ is_some (array_at o (location_of_leaf leaf))
  was_same leaf = ap (λ h. is_some (array_at h (location_of_leaf leaf))) below

  passed_one : (leaf : SpecLeaf) (more : List SpecLeaf) (ns : List ℕ) → was_there o leaf ≡ true → takings p (leaf ∷ more) ((n + 1) ∷ ns) ≡ taking leaf None ∷ takings p more ((n + 1) ∷ ns)
  passed_one (given cells) more ns there = absurd (cc)
  passed_one (stored node leaf) more ns there =
      ap (λ b. cond b (taking (stored node leaf) None ∷ takings p more ((n + 1) ∷ ns)) (taking (stored node leaf) (Some (n + 1)) ∷ takings p more ns)) (was_same leaf ∙ there)

  taken_one : (leaf : SpecLeaf) (more : List SpecLeaf) (ns : List ℕ) → was_there o leaf ≡ false → takings p (leaf ∷ more) ((n + 1) ∷ ns) ≡ taking leaf (Some (n + 1)) ∷ takings p more ns
  taken_one (given cells) more ns fresh = refl
  taken_one (stored node leaf) more ns fresh =
      ap (λ b. cond b (taking (stored node leaf) None ∷ takings p more ((n + 1) ∷ ns)) (taking (stored node leaf) (Some (n + 1)) ∷ takings p more ns)) (was_same leaf ∙ fresh)

  -- leaves at whose places arrays lie take no number
  passed_all : (owner : ℕ) (passed : List spec.SpecLeaf) (rest : List SpecLeaf) (ns : List ℕ) → AreThere o passed → openings_by p owner (bare passed ++ rest) ((n + 1) ∷ ns) ≡ openings_by p owner rest ((n + 1) ∷ ns)
  passed_all owner [] rest ns all = refl
  passed_all owner (leaf ∷ passed) rest ns all =
      ap (filter_map (opening_of p owner)) (passed_one (leaf_of [] leaf) (bare passed ++ rest) ns all.0) ∙ passed_all owner passed rest ns all.1

  numbers_passed : (passed : List spec.SpecLeaf) (rest : List SpecLeaf) (ns : List ℕ) → AreThere o passed → numbers_taken p (bare passed ++ rest) ((n + 1) ∷ ns) ≡ untaken passed ++ numbers_taken p rest ((n + 1) ∷ ns)
  numbers_passed [] rest ns all = refl
  numbers_passed (leaf ∷ passed) rest ns all =
      ap (map (λ (t : Taking). t.number)) (passed_one (leaf_of [] leaf) (bare passed ++ rest) ns all.0) ∙ ap (λ xs. None ∷ xs) (numbers_passed passed rest ns all.1)

  -- a leaf that takes the number
  taken_opens : (owner : ℕ) (leaf : SpecLeaf) (rest : List SpecLeaf) (ns : List ℕ) (found : Option ArrayInfo) → was_there o leaf ≡ false → opened_info (next_array o) leaf ≡ found
      → openings_by p owner (leaf ∷ rest) ((n + 1) ∷ ns) ≡ cons_option (option_map (λ info. at_number (n + 1) (opened_event owner info)) found) (openings_by p owner rest ns)
  taken_opens owner leaf rest ns found fresh is =
      ap (filter_map (opening_of p owner)) (taken_one leaf rest ns fresh)
      ∙ ap (λ h. cons_option (option_map (λ info. at_number (n + 1) (opened_event owner info)) (opened_info (next_array h) leaf)) (openings_by p owner rest ns)) below
      ∙ ap (λ f. cons_option (option_map (λ info. at_number (n + 1) (opened_event owner info)) f) (openings_by p owner rest ns)) is

  module _ (owner : ℕ) (passed : List spec.SpecLeaf) (leaf : spec.SpecLeaf) (rest : List spec.SpecLeaf) (ns : List ℕ) (there : AreThere o passed) (fresh : was_there o (leaf_of [] leaf) ≡ false) where
    parted : bare (passed ++ leaf ∷ rest) ≡ bare passed ++ leaf_of [] leaf ∷ bare rest
    parted = map-append (leaf_of []) passed (leaf ∷ rest)

    opens_as : (found : Option ArrayInfo) → opened_info (next_array o) (leaf_of [] leaf) ≡ found
        → openings_by p owner (bare (passed ++ leaf ∷ rest)) ((n + 1) ∷ ns) ≡ cons_option (option_map (λ info. at_number (n + 1) (opened_event owner info)) found) (openings_by p owner (bare rest) ns)
    opens_as found is =
        ap (λ ls. openings_by p owner ls ((n + 1) ∷ ns)) parted ∙ passed_all owner passed (leaf_of [] leaf ∷ bare rest) ns there ∙ taken_opens owner (leaf_of [] leaf) (bare rest) ns found fresh is

    -- the leaf takes the number, and those behind it the others
    pub takes_number : numbers_taken p (bare (passed ++ leaf ∷ rest)) ((n + 1) ∷ ns) ≡ untaken passed ++ Some (n + 1) ∷ numbers_taken p (bare rest) ns
    takes_number =
        ap (λ ls. numbers_taken p ls ((n + 1) ∷ ns)) parted ∙ numbers_passed passed (leaf_of [] leaf ∷ bare rest) ns there
        ∙ ap (λ ts. untaken passed ++ map (λ (t : Taking). t.number) ts) (taken_one (leaf_of [] leaf) (bare rest) ns fresh)

    module _ (info : ArrayInfo) (is : opened_info (next_array o) (leaf_of [] leaf) ≡ Some info) where
      pub to_rest : AreOpenedBy p owner (bare (passed ++ leaf ∷ rest)) ((n + 1) ∷ ns) → IsEvent p (n + 1) (opened_event owner info) × AreOpenedBy p owner (bare rest) ns
      to_rest all =
          let same = opens_as (Some info) is in
          let events : AreEvents p (at_number (n + 1) (opened_event owner info) ∷ openings_by p owner (bare rest) ns) = subst (AreEvents p) same all.events in
          let numbers : (n + 1) ∷ own.numbers_of (openings_by p owner (bare rest) ns) ≡ (n + 1) ∷ ns = ap own.numbers_of (sym same) ∙ all.numbers in
          let behind : own.numbers_of (openings_by p owner (bare rest) ns) ≡ ns = cc in
          (events.0, record { numbers = behind; events = events.1 })

      pub from_rest : IsEvent p (n + 1) (opened_event owner info) → AreOpenedBy p owner (bare rest) ns → AreOpenedBy p owner (bare (passed ++ leaf ∷ rest)) ((n + 1) ∷ ns)
      from_rest event all =
          let same = opens_as (Some info) is in
          record {
            numbers = ap own.numbers_of same ∙ ap (λ ms. (n + 1) ∷ ms) all.numbers;
            events = subst (AreEvents p) (sym same) (event, all.events);
          }

-- where no leaf takes the number, no legal history has the openings
module _ (p o : History) (n owner : ℕ) (passed : List spec.SpecLeaf) (ns : List ℕ) (size : length o ≡ n) (front : take n p ≡ o) (legal : IsLegal finmap.empty p) (there : AreThere o passed) where
  none_left : AreOpenedBy p owner (bare passed) ((n + 1) ∷ ns) → ⊥
  none_left all =
      let same : openings_by p owner (bare passed ++ []) ((n + 1) ∷ ns) ≡ [] = passed_all p o n front owner passed [] ns there in
      let none : openings_by p owner (bare passed) ((n + 1) ∷ ns) ≡ [] = ap (λ ls. openings_by p owner ls ((n + 1) ∷ ns)) (sym (append-nil (bare passed))) ∙ same in
      let numbers : [] ≡ (n + 1) ∷ ns = ap own.numbers_of (sym none) ∙ all.numbers in
      let no : ⊥ = cc in no

  never_here : (leaf : spec.SpecLeaf) (rest : List spec.SpecLeaf) → IsNeverBy o (leaf_of [] leaf) → (found : Option ArrayInfo) → opened_info (next_array o) (leaf_of [] leaf) ≡ found
      → AreOpenedBy p owner (bare (passed ++ leaf ∷ rest)) ((n + 1) ∷ ns) → ⊥
  never_here leaf rest never None is all =
      let same : openings_by p owner (bare (passed ++ leaf ∷ rest)) ((n + 1) ∷ ns) ≡ openings_by p owner (bare rest) ns = opens_as p o n front owner passed leaf rest ns there never.fresh None is in
      let numbers : own.numbers_of (openings_by p owner (bare rest) ns) ≡ (n + 1) ∷ ns = ap own.numbers_of (sym same) ∙ all.numbers in
      let size : length (openings_by p owner (bare rest) ns) ≡ suc (length ns) = sym (length-map (openings_by p owner (bare rest) ns) (λ (o : Numbered). o.number)) ∙ ap length numbers in
      let low = few p owner (bare rest) ns in
      let no : ⊥ = omega (arith, size, low) in no
  never_here leaf rest never (Some info) is all =
      let event = (to_rest p o n front owner passed leaf rest ns there never.fresh info is all).0 in
      never.never info is (legal_at p o n (opened_event owner info) legal size front event)

  pub none_takes : (rest : List spec.SpecLeaf) → IsNeverFirst o rest → AreOpenedBy p owner (bare (passed ++ rest)) ((n + 1) ∷ ns) → ⊥
  none_takes [] never all = none_left (subst (λ ls. AreOpenedBy p owner (bare ls) ((n + 1) ∷ ns)) (append-nil passed) all)
  none_takes (leaf ∷ rest) never all = never_here leaf rest never (opened_info (next_array o) (leaf_of [] leaf)) refl all
