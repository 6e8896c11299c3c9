-- The leaves that a line opened are those that take the numbers of its events.
use Rattle.std.proofs.Common.{◌≡◌, ◌≢◌, ℕ, ◌+◌, ◌-◌, ◌<◌, ◌≤◌, List, [], ◌∷◌, map, take, Bool, true, false, cond, Option, Some, None, Result, Ok, Err, refl, sym, ap, subst, ◌∙◌, arith}
use Rattle.std.specs.Prelude.{filter_map, option_map, is_some}
use Rattle.std.specs.List.{AllByRecursion, cons_option}
use Rattle.std.specs.FinMap as finmap
use Rattle.serial_runs.specs.Made.{form_made}
use Rattle.serial_runs.specs.Wants.{mismatch_of}
use Rattle.serial_runs.specs.declared.Form.{Form}
use Rattle.stack_driver.specs.References.{Reference}
use Rattle.history.specs.declared.array.ArrayInfo.{ArrayInfo}
use Rattle.history.specs.Answers.{Text}
use Rattle.history.specs.Arrays.{Known, form_of, ref_of}
use Rattle.history.specs.History.{History}
use Rattle.history.specs.Leaves.{Leaf, nothing, location_of_leaf}
use Rattle.history.specs.Legal.{IsLegal}
use Rattle.history.specs.Lines.{SpecLeaf, given, stored}
use Rattle.history.specs.OpenRows.{AreOpened, no_leaf, known_leaf, new_leaf, given_leaf, IsNew, read_there, made_here, next_array, new_ref, given_info}
use Rattle.history.specs.Outcomes.{exists, there, found, not_found, made, IsOutcome, unless_differs, making_outcome, outcome_at, unless_taken, new_info}
use Rattle.history.specs.Own as own
use Rattle.history.specs.Own.{Numbered, opened_event}
use Rattle.history.specs.Places.{array_at, taken}
use Rattle.history.specs.SingleOpen.{outcome_alone}
use Rattle.history.proofs.AloneLeaves.{made_is, never_found}
use Rattle.history.proofs.AloneOpens.{outcome_is}
use Rattle.history.proofs.Openings.{free_of_made}
use Rattle.transcript_laws.specs.Claimed.{at_number, opening_of}
use Rattle.transcript_laws.specs.Takings.{before, taking, takings, made_info, opened_info, ref_of_leaf, all_refs}
use Rattle.transcript_laws.proofs.Places.{AreUnresized, stays, stays_until}

module _ (events : History) (leaf : Leaf) where
  making_not : (r : Result Form (List ℕ)) (k : Known) → making_outcome r ≢ there k
  making_not (Ok meta) k = λ is. absurd (cc)
  making_not (Err member) k = λ is. absurd (cc)

  -- an array that is found lies at the leaf's place
  found_there : (k : Known) → outcome_alone events leaf ≡ there k → array_at events (location_of_leaf leaf) ≡ Some k
  found_there k = by (taken events (location_of_leaf leaf)) (array_at events (location_of_leaf leaf))
    where
      at_none : (b : Bool) → cond b (making_outcome (form_made leaf.want)) not_found ≢ there k
      at_none true = making_not (form_made leaf.want) k
      at_none false = λ is. absurd (cc)

      same : (o : Option (List ℕ)) (l : Known) → unless_differs o (there l) ≡ there k → Some l ≡ Some k
      same None l is = cc
      same (Some member) l is = absurd (cc)

      at_some : (b : Bool) (l : Known) → cond b (unless_differs (mismatch_of leaf.want (form_of l.info.home) l.shape) (there l)) exists ≡ there k → Some l ≡ Some k
      at_some true l is = same (mismatch_of leaf.want (form_of l.info.home) l.shape) l is
      at_some false l is = absurd (cc)

      by : (t : Option (List ℕ)) (o : Option Known) → unless_taken t (outcome_at leaf nothing o) ≡ there k → o ≡ Some k
      by (Some other) o is = absurd (cc)
      by None None is = absurd (at_none leaf.may_create is)
      by None (Some l) is = at_some leaf.may_open l is

  -- a new array is made as it is asked, at a free place
  pub record IsMade (meta : Form) : Type 0 where
    pub asked : form_made leaf.want ≡ Ok meta
    pub comes : IsOutcome finmap.empty events leaf (made meta)
    pub empty : array_at events (location_of_leaf leaf) ≡ None

  pub new_made : (meta : Form) → IsNew finmap.empty events leaf meta → IsMade meta
  new_made meta (read_there is) = absurd (never_found events leaf meta (outcome_is finmap.empty events leaf (found meta) refl is))
  new_made meta (made_here is) = record { asked = made_is events leaf meta (outcome_is finmap.empty events leaf (made meta) refl is); comes = is; empty = (free_of_made events leaf is.stored meta (sym is.same)).empty }

  pub there_at : (k : Known) → IsOutcome finmap.empty events leaf (there k) → array_at events (location_of_leaf leaf) ≡ Some k
  there_at k is = found_there k (outcome_is finmap.empty events leaf (there k) refl is)

-- numbers of openings lie behind what had been seen
pub opened_above : {owner : ℕ} {events : History} {seen : ℕ} {leaves : List SpecLeaf} {refs : List Reference} {os : List Numbered} {now : ℕ} {rest : List SpecLeaf} (low : ℕ) → low ≤ seen → AreOpened finmap.empty owner events seen leaves refs os now rest
    → AllByRecursion (λ n. low < n) (own.numbers_of os)
opened_above low before_seen no_leaf = tt
opened_above low before_seen (known_leaf at k older within outcome more) = opened_above low (omega (arith, before_seen, older)) more
opened_above low before_seen (new_leaf at meta older within new more) = (omega (arith, before_seen, older), opened_above low (omega (arith, before_seen, older)) more)
opened_above low before_seen (given_leaf at older within more) = (omega (arith, before_seen, older), opened_above low (omega (arith, before_seen, older)) more)

module _ (owner : ℕ) (history : History) where
  -- leaves for which no number is left take none
  pub none_taken : (leaves : List SpecLeaf) → filter_map (opening_of history owner) (takings history leaves []) ≡ []
  none_taken [] = refl
  none_taken (leaf ∷ leaves) = none_taken leaves

  -- the leaves take these numbers, by the events that they are, and name these arrays
  pub record AreServed (leaves : List SpecLeaf) (os : List Numbered) (refs : List Reference) (rest : List SpecLeaf) : Type 0 where
    pub stated : filter_map (opening_of history owner) (takings history leaves (own.numbers_of os)) ≡ os
    pub arrays : rest ≡ [] → all_refs (map (ref_of_leaf history) (takings history leaves (own.numbers_of os))) ≡ Some refs

  module _ (legal : IsLegal finmap.empty history) (still : AreUnresized history) where
    -- a leaf that takes no number
    pass : (leaf : SpecLeaf) (leaves rest : List SpecLeaf) (os : List Numbered) (refs : List Reference) (r : Reference) → takings history (leaf ∷ leaves) (own.numbers_of os) ≡ taking leaf None ∷ takings history leaves (own.numbers_of os)
        → ref_of_leaf history (taking leaf None) ≡ Some r → AreServed leaves os refs rest → AreServed (leaf ∷ leaves) os (r ∷ refs) rest
    pass leaf leaves rest os refs r first named is = record {
      stated = ap (filter_map (opening_of history owner)) first ∙ is.stated;
      arrays = λ none.
          ap (λ ts. all_refs (map (ref_of_leaf history) ts)) first
          ∙ ap (λ o. all_refs (o ∷ map (ref_of_leaf history) (takings history leaves (own.numbers_of os)))) named
          ∙ ap (option_map (λ more. r ∷ more)) (is.arrays none);
    }

    -- one that takes a number
    take_one : (leaf : SpecLeaf) (leaves rest : List SpecLeaf) (n : ℕ) (info : ArrayInfo) (os : List Numbered) (refs : List Reference) (r : Reference)
        → takings history (leaf ∷ leaves) (n ∷ own.numbers_of os) ≡ taking leaf (Some n) ∷ takings history leaves (own.numbers_of os)
        → opened_info (next_array (before history n)) leaf ≡ Some info → ref_of (record { info = info; opened = n; shape = info.shape }) ≡ r → AreServed leaves os refs rest
        → AreServed (leaf ∷ leaves) (at_number n (opened_event owner info) ∷ os) (r ∷ refs) rest
    take_one leaf leaves rest n info os refs r first opens named is =
        let event : opening_of history owner (taking leaf (Some n)) ≡ Some (at_number n (opened_event owner info)) = ap (option_map (λ i. at_number n (opened_event owner i))) opens in
        let array : ref_of_leaf history (taking leaf (Some n)) ≡ Some r =
        ap (λ o. option_map ref_of (option_map (λ (i : ArrayInfo). record { info = i; opened = n; shape = i.shape }) o)) opens ∙ ap Some named in
        record {
          stated =
              ap (filter_map (opening_of history owner)) first
              ∙ ap (λ o. cons_option o (filter_map (opening_of history owner) (takings history leaves (own.numbers_of os)))) event
              ∙ ap (λ l. at_number n (opened_event owner info) ∷ l) is.stated;
          arrays = λ none.
              ap (λ ts. all_refs (map (ref_of_leaf history) ts)) first
              ∙ ap (λ o. all_refs (o ∷ map (ref_of_leaf history) (takings history leaves (own.numbers_of os)))) array
              ∙ ap (option_map (λ more. r ∷ more)) (is.arrays none);
        }

    -- a leaf that was found before the next number takes none
    pub passes : (node : Text) (leaf : Leaf) (leaves : List SpecLeaf) (at : ℕ) (k : Known) (ns : List ℕ) → AllByRecursion (λ n. at < n) ns → array_at (take at history) (location_of_leaf leaf) ≡ Some k
        → takings history (stored node leaf ∷ leaves) ns ≡ taking (stored node leaf) None ∷ takings history leaves ns
    passes node leaf leaves at k [] above is = refl
    passes node leaf leaves at k (n ∷ ns) above is =
        let first = above.0 in
        let now : array_at (take (n - 1) history) (location_of_leaf leaf) ≡ Some k = stays_until (location_of_leaf leaf) finmap.empty history at (n - 1) k (omega (arith, first)) legal still is in
        ap (λ o. cond (is_some o) (taking (stored node leaf) None ∷ takings history leaves (n ∷ ns)) (taking (stored node leaf) (Some n) ∷ takings history leaves ns)) now

    -- one at whose place no array lies takes its event's number
    pub takes : (node : Text) (leaf : Leaf) (leaves : List SpecLeaf) (at : ℕ) (ns : List ℕ) → array_at (take at history) (location_of_leaf leaf) ≡ None
        → takings history (stored node leaf ∷ leaves) ((at + 1) ∷ ns) ≡ taking (stored node leaf) (Some (at + 1)) ∷ takings history leaves ns
    takes node leaf leaves at ns is =
        let same : at + 1 - 1 ≡ at = omega arith in
        let now : array_at (take (at + 1 - 1) history) (location_of_leaf leaf) ≡ None = ap (λ m. array_at (take m history) (location_of_leaf leaf)) same ∙ is in
        ap (λ o. cond (is_some o) (taking (stored node leaf) None ∷ takings history leaves ((at + 1) ∷ ns)) (taking (stored node leaf) (Some (at + 1)) ∷ takings history leaves ns)) now

    -- what a line opened
    pub served : {seen : ℕ} {leaves : List SpecLeaf} {refs : List Reference} {os : List Numbered} {now : ℕ} {rest : List SpecLeaf} → AreOpened finmap.empty owner history seen leaves refs os now rest → AreServed leaves os refs rest
    served (no_leaf {leaves = leaves}) = record { stated = none_taken leaves; arrays = λ none. subst (λ ls. all_refs (map (ref_of_leaf history) (takings history ls [])) ≡ Some []) (sym none) refl }
    served (known_leaf {node = node} {leaf = leaf} {leaves = leaves} {rest = rest} {refs = refs} {own = os} at k older within outcome more) =
        let lies = there_at (take at history) leaf k outcome in
        pass (stored node leaf) leaves rest os refs (ref_of k) (passes node leaf leaves at k (own.numbers_of os) (opened_above at (omega arith) more) lies)
        (ap (option_map ref_of) (stays (location_of_leaf leaf) finmap.empty history at k legal still lies)) (served more)
    served (new_leaf {node = node} {leaf = leaf} {leaves = leaves} {rest = rest} {refs = refs} {own = os} at meta older within new more) =
        let is = new_made (take at history) leaf meta new in
        let same : at + 1 - 1 ≡ at = omega arith in
        take_one (stored node leaf) leaves rest (at + 1) (new_info (next_array (take at history)) leaf meta) os refs (new_ref (take at history) (new_info (next_array (take at history)) leaf meta))
        (takes node leaf leaves at (own.numbers_of os) is.empty)
        (ap (λ m. opened_info (next_array (take m history)) (stored node leaf)) same ∙ ap (made_info (next_array (take at history)) leaf) is.asked) refl (served more)
    served (given_leaf {numbers = numbers} {leaves = leaves} {rest = rest} {refs = refs} {own = os} at older within more) =
        let same : at + 1 - 1 ≡ at = omega arith in
        take_one (given numbers) leaves rest (at + 1) (given_info (next_array (take at history)) numbers) os refs (new_ref (take at history) (given_info (next_array (take at history)) numbers)) refl
        (ap (λ m. opened_info (next_array (take m history)) (given numbers)) same) refl (served more)
