-- The array of a leaf of an open line, by what calls tell of it.
use Rattle.std.proofs.Common.{◌≡◌, ℕ, inl, inr, List, [], Option, Some, None, refl, sym, ap, subst, ◌∙◌, arith}
use Rattle.read_fits.specs.Homes.{reference_of}
use Rattle.cells.specs.Dense.{DenseCells}
use Rattle.stack_driver.specs.References.{Reference, IsReference}
use Rattle.locations.specs.Paths.{Located}
use Rattle.history.specs.declared.array.ArrayInfo.{ArrayInfo}
use Rattle.history.specs.Arrays.{Known, ref_of}
use Rattle.history.specs.History.{History}
use Rattle.history.specs.Leaves.{nothing, location_of_leaf}
use Rattle.history.specs.Lines.{given, stored}
use Rattle.history.specs.OpenRows.{next_array, given_info}
use Rattle.history.specs.Outcomes.{Outcome, there, opening_outcome}
use Rattle.history.proofs.Known.{some_inj}
use Rattle.read_fits.proofs.Laws.{reference_given}
use Rattle.read_fits.proofs.Laws.{there_at}
use Rattle.read_fits.specs.Takings.{before, taking}
use Rattle.read_fits.specs.Asked.{leaf_asked}
use Rattle.read_fits.specs.Outcomes.{AreKeptOf, IsToldAs}
use Rattle.read_fits.specs.declared.Asked.{Asked}
use Rattle.read_fits.specs.declared.Wanted.TheVariants.{Stored, Given}
use Rattle.read_fits.specs.declared.LeafOutcome.{LeafOutcome}
use Rattle.read_fits.specs.declared.LeafOutcome.TheVariants.{Taken, There, Exists, Mismatch, NotFound, BadWant, Made}
use Rattle.read_fits.specs.OpenedViews.{IsGivenAt}
use Rattle.open_fits.specs.Opens.{IsSmall}
use Rattle.open_fits.specs.Settling.{IsSettledAs, IsFoundAs, IsArrayFor, MayBeNamed, MayBeNamedBy, IsNamedBy, IsNamedIfMade, IsNamedIfEarly, IsNamedOutcome, IsNamedByOutcome}
use Rattle.open_fits.proofs.Outcomes.{as_outcome}
use Rattle.open_fits.proofs.Settled.{opened_so, reference_made, reference_found, settled_found, settled_made, settled_unmade, settled_given}

-- numbers of an array
pub named_given : (events : History) (start : DenseCells) (number : Option ℕ) → IsSmall (Given start) → IsGivenAt events (given start) number → MayBeNamedBy events number
named_given events start None small gives = tt
named_given events start (Some n) small gives =
    let same : given_info (next_array (before events n)) start ≡ gives.0 = some_inj _ gives.0 gives.1 in
    (gives.0, gives.2, subst (λ (i : ArrayInfo). IsReference (reference_of i i.shape)) same (reference_given (next_array (before events n)) start small.0 small.1))

module _ (events : History) (opened : List ℕ) (places : Located) (kept : AreKeptOf events opened places) (upto : ℕ) where
  pub for_given : (start : DenseCells) (number : Option ℕ) (array : Option Reference) → IsGivenAt events (given start) number → IsNamedBy events number array → IsArrayFor events upto (Given start) number array
  for_given start None array gives named = λ h same w is node. subst (IsSettledAs h w (taking (given start) None)) (sym named) (λ never. never)
  for_given start (Some n) array gives named = λ h same w is node.
      subst (IsSettledAs h w (taking (given start) (Some n))) (sym (named gives.0 gives.2)) (settled_given events kept.legal kept.still h same w start n gives.0 gives.1)

  -- a stored one
  pub named_made : (asked : Asked) (n : ℕ) → IsGivenAt events (stored [] (leaf_asked asked)) (Some n) → MayBeNamed events n
  named_made asked n gives = (gives.0, gives.2, reference_made events kept.legal kept.still (leaf_asked asked) n gives)

  pub for_made : (asked : Asked) (n : ℕ) (array : Option Reference) → IsGivenAt events (stored [] (leaf_asked asked)) (Some n) → IsNamedIfMade events n asked array → IsArrayFor events upto (Stored asked) (Some n) array
  for_made asked n array gives (inl is_made) = λ h same w is node.
      subst (IsSettledAs h w (taking (stored node (leaf_asked asked)) (Some n))) (sym (is_made.1 gives.0 gives.2)) (settled_made events kept.legal kept.still h same w node asked n gives is_made.0)
  for_made asked n array gives (inr unmade) = λ h same w is node.
      subst (IsSettledAs h w (taking (stored node (leaf_asked asked)) (Some n))) (sym unmade.1) (settled_unmade events kept.legal kept.still h same w node asked n gives unmade.0)

  pub for_found : (asked : Asked) (array : Option Reference) → IsFoundAs events asked upto array → IsArrayFor events upto (Stored asked) None array
  for_found asked array is_found = λ h same w is node. settled_found events kept.legal kept.still h same w node asked array (subst (λ m. IsFoundAs events asked m array) (sym is) is_found)

  -- by the outcome
  module _ (asked : Asked) where
    abbrev its_outcome : Outcome
    its_outcome = opening_outcome events (leaf_asked asked) nothing

    lying : (k : Known) → its_outcome ≡ there k → MayBeNamed events k.opened
    lying k is =
        let at = there_at events (leaf_asked asked) k (as_outcome events (leaf_asked asked) (there k) is) in
        let so = opened_so (location_of_leaf (leaf_asked asked)) events kept.still k at in
        (k.info, so.at, reference_found events kept.legal kept.still (location_of_leaf (leaf_asked asked)) k at)

    pub outcome_named : (outcome : LeafOutcome) → IsToldAs events outcome its_outcome → IsNamedOutcome events opened outcome
    outcome_named (Taken other) is = tt
    outcome_named (There array) is = (is.0.opened, kept.numbered array is.0 is.1, lying is.0 is.2)
    outcome_named Exists is = tt
    outcome_named (Mismatch member) is = tt
    outcome_named NotFound is = tt
    outcome_named (BadWant member) is = tt
    outcome_named (Made form) is = tt

    not_there : (o : Outcome) (array : Option Reference) → its_outcome ≡ o → ((k : Known) → o ≡ there k → ⊥) → array ≡ None → IsFoundAs events asked upto array
    not_there o array is never none = subst (IsFoundAs events asked upto) (sym none) (λ k comes low. never k (sym is ∙ comes))

    one_there : (k l : Known) → there k ≡ there l → k ≡ l
    one_there k l is = cc

    early_there : (k : Known) (array : Option Reference) → its_outcome ≡ there k → IsNamedIfEarly events k.opened upto array → IsFoundAs events asked upto array
    early_there k array is (inl early) =
        let at = there_at events (leaf_asked asked) k (as_outcome events (leaf_asked asked) (there k) is) in
        let so = opened_so (location_of_leaf (leaf_asked asked)) events kept.still k at in
        let named : array ≡ Some (ref_of k) = early.1 k.info so.at ∙ ap (λ s. Some (reference_of k.info s)) (sym so.shape) in
        subst (IsFoundAs events asked upto) (sym named) (k, is, early.0, refl)
    early_there k array is (inr late) = subst (IsFoundAs events asked upto) (sym late.1)
        (λ l comes low.
        let same : k ≡ l = one_there k l (sym is ∙ comes) in
        let number : k.opened ≡ l.opened = ap (λ (m : Known). m.opened) same in
        let later = late.0 in
        omega (arith, low, later, number))

    pub outcome_found : (outcome : LeafOutcome) (array : Option Reference) → IsToldAs events outcome its_outcome → IsNamedByOutcome events opened upto outcome array → IsFoundAs events asked upto array
    outcome_found (Taken other) array is named = not_there _ array is (λ k same. cc) named
    outcome_found (There number) array is named = early_there is.0 array is.2 (named is.0.opened (kept.numbered number is.0 is.1))
    outcome_found Exists array is named = not_there _ array is (λ k same. cc) named
    outcome_found (Mismatch member) array is named = not_there _ array is (λ k same. cc) named
    outcome_found NotFound array is named = not_there _ array is (λ k same. cc) named
    outcome_found (BadWant member) array is named = not_there _ array is (λ k same. cc) named
    outcome_found (Made form) array is named = not_there _ array is (λ k same. cc) named
