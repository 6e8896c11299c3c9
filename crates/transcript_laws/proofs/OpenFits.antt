-- The answer to an open line fits.
use Rattle.std.proofs.Common.{◌≡◌, ℕ, ◌+◌, ◌-◌, ◌≤◌, List, [], ◌∷◌, ◌++◌, length, take, take-take, Some, None, refl, sym, ap, subst, ◌∙◌, arith, append-nil, length-take}
use Rattle.std.specs.List.{AllByRecursion}
use Rattle.std.specs.FinMap as finmap
use Rattle.stack_driver.specs.References.{Reference}
use Rattle.history.specs.History.{History}
use Rattle.history.specs.Legal.{IsLegal}
use Rattle.history.specs.Lines.{SpecLeaf, given, stored}
use Rattle.history.specs.Leaves.{Leaf, location_of_leaf}
use Rattle.history.specs.OpenRows.{AreOpened, no_leaf, known_leaf, new_leaf, given_leaf, IsNew, IsRefusedLeaf, IsFailedLeaf}
use Rattle.history.specs.Outcomes.{there, made, IsOutcome}
use Rattle.history.specs.Answers.{Body, Text}
use Rattle.history.specs.Own as own
use Rattle.history.specs.Own.{Numbered}
use Rattle.history.specs.Places.{IsFree}
use Rattle.serial_runs.proofs.Opened.{same_take, opened_later}
use Rattle.transcript_laws.specs.Opening.{AreSettled, IsUntaken, IsStopped, AreAllOpened}
use Rattle.transcript_laws.specs.Takings.{Taking, taking, takings}
use Rattle.transcript_laws.specs.Windows.{Window}
use Rattle.transcript_laws.proofs.Bounds.{AreUpTo}
use Rattle.transcript_laws.proofs.Found.{found_later}
use Rattle.transcript_laws.proofs.Opens.{there_at, new_made, opened_above, passes, takes, served}
use Rattle.transcript_laws.proofs.Places.{AreUnresized}

-- what is seen only grows while leaves are opened
pub opened_end : {owner : ℕ} {events : History} {seen : ℕ} {leaves : List SpecLeaf} {refs : List Reference} {os : List Numbered} {end : ℕ} {rest : List SpecLeaf} → AreOpened finmap.empty owner events seen leaves refs os end rest → seen ≤ end
opened_end no_leaf = omega arith
opened_end (known_leaf at k older within outcome more) = let last = opened_end more in omega (arith, older, last)
opened_end (new_leaf at meta older within new more) = let last = opened_end more in omega (arith, older, last)
opened_end (given_leaf at older within more) = let last = opened_end more in omega (arith, older, last)

-- numbers of openings are among those that are seen then
pub opened_up_to : {owner : ℕ} {events : History} {seen : ℕ} {leaves : List SpecLeaf} {refs : List Reference} {os : List Numbered} {end : ℕ} {rest : List SpecLeaf} → AreOpened finmap.empty owner events seen leaves refs os end rest → AreUpTo end (own.numbers_of os)
opened_up_to no_leaf = tt
opened_up_to (known_leaf at k older within outcome more) = opened_up_to more
opened_up_to (new_leaf at meta older within new more) = (opened_end more, opened_up_to more)
opened_up_to (given_leaf at older within more) = (opened_end more, opened_up_to more)

-- no more is seen than there is, where the openings are among them
pub opened_within : {owner : ℕ} {events : History} {seen : ℕ} {leaves : List SpecLeaf} {refs : List Reference} {os : List Numbered} {end : ℕ} {rest : List SpecLeaf} (m : ℕ) → seen ≤ m → length events ≤ m → AllByRecursion (λ (o : Numbered). o.number ≤ m) os → AreOpened finmap.empty owner events seen leaves refs os end rest
    → end ≤ m
opened_within m low all are no_leaf = low
opened_within m low all are (known_leaf at k older within outcome more) = opened_within m (omega (arith, within, all)) all are more
opened_within m low all are (new_leaf at meta older within new more) = opened_within m are.0 all are.1 more
opened_within m low all are (given_leaf at older within more) = opened_within m are.0 all are.1 more

module _ (owner : ℕ) (history : History) (legal : IsLegal finmap.empty history) (still : AreUnresized history) (m : ℕ) (w : Window) where
  abbrev now : History
  now = take m history

  untaken_all : (leaves : List SpecLeaf) → AllByRecursion IsUntaken (takings history leaves [])
  untaken_all [] = tt
  untaken_all (leaf ∷ leaves) = (refl, untaken_all leaves)

  -- the first leaves were opened, and those that are left take no number
  pub record AreFirst (leaves : List SpecLeaf) (os : List Numbered) (rest : List SpecLeaf) : Type 0 where
    pub opened : List Taking
    pub parts : takings history leaves (own.numbers_of os) ≡ opened ++ takings history rest []
    pub settled : AreSettled history w opened

  pub first_opened : {seen : ℕ} {leaves : List SpecLeaf} {refs : List Reference} {os : List Numbered} {end : ℕ} {rest : List SpecLeaf} → end ≤ w.upto → AreOpened finmap.empty owner now seen leaves refs os end rest → AreFirst leaves os rest
  first_opened high no_leaf = record { opened = []; parts = refl; settled = tt }
  first_opened high (known_leaf {node = node} {leaf = leaf} {leaves = leaves} {own = os} at k older within outcome more) =
      let rest = first_opened high more in
      let here : IsOutcome finmap.empty (take at history) leaf (there k) = subst (λ h. IsOutcome finmap.empty h leaf (there k)) (same_take at m history within) outcome in
      let last = opened_end more in
      record {
        opened = taking (stored node leaf) None ∷ rest.opened;
        parts = passes owner history legal still node leaf leaves at k (own.numbers_of os) (opened_above at (omega arith) more) (there_at (take at history) leaf k here) ∙ ap (λ ts. taking (stored node leaf) None ∷ ts) rest.parts;
        settled = ((k, found_later history leaf at w.upto k (omega (arith, last, high)) legal still here), rest.settled);
      }
  first_opened high (new_leaf {node = node} {leaf = leaf} {leaves = leaves} {own = os} at meta older within new more) =
      let rest = first_opened high more in
      let is = new_made (take at history) leaf meta (subst (λ h. IsNew finmap.empty h leaf meta) (same_take at m history within) new) in
      let same : at ≡ at + 1 - 1 = omega arith in
      record {
        opened = taking (stored node leaf) (Some (at + 1)) ∷ rest.opened;
        parts = takes owner history legal still node leaf leaves at (own.numbers_of os) is.empty ∙ ap (λ ts. taking (stored node leaf) (Some (at + 1)) ∷ ts) rest.parts;
        settled = ((meta, subst (λ n. IsOutcome finmap.empty (take n history) leaf (made meta)) same is.comes), rest.settled);
      }
  first_opened high (given_leaf {numbers = numbers} at older within more) =
      let rest = first_opened high more in
      record { opened = taking (given numbers) (Some (at + 1)) ∷ rest.opened; parts = ap (λ ts. taking (given numbers) (Some (at + 1)) ∷ ts) rest.parts; settled = (tt, rest.settled) }

  -- all leaves were opened
  pub all_opened : {seen : ℕ} {leaves : List SpecLeaf} {refs : List Reference} {os : List Numbered} {end : ℕ} → end ≤ w.upto → AreOpened finmap.empty owner now seen leaves refs os end [] → AreAllOpened history w (takings history leaves (own.numbers_of os)) refs
  all_opened high opened =
      let first = first_opened high opened in
      record {
        settled = subst (AreSettled history w) (sym (first.parts ∙ append-nil first.opened)) first.settled;
        arrays = (served owner history legal still (opened_later history m 0 (omega arith) opened).1).arrays refl;
      }

  -- the first leaf that is left is a stored one
  pub stopped_at : {seen : ℕ} {leaves : List SpecLeaf} {refs : List Reference} {os : List Numbered} {end : ℕ} {rest : List SpecLeaf} {node : Text} {leaf : Leaf} → end ≤ w.upto → AreOpened finmap.empty owner now seen leaves refs os end (stored node leaf ∷ rest)
      → IsStopped history w (takings history leaves (own.numbers_of os)) node leaf
  stopped_at {rest = rest} high opened = let first = first_opened high opened in record { opened = first.opened; rest = takings history rest []; parts = first.parts; settled = first.settled; untaken = untaken_all rest }

  -- a leaf that is refused
  pub refused_at : {end : ℕ} {node : Text} {leaf : Leaf} {numbers : List ℕ} {answer : Body} → w.from ≤ end → length now ≤ w.upto → IsRefusedLeaf finmap.empty now end node leaf numbers answer
      → IsRefusedLeaf finmap.empty (take w.upto history) w.from node leaf numbers answer
  refused_at {end} {node} {leaf} {numbers} {answer} low high is =
      let later = is.not_older in
      let within = is.within in
      let near : is.at ≤ w.upto = omega (arith, within, high) in
      record {
        at = is.at;
        not_older = omega (arith, low, later);
        within = omega (arith, within, near, length-take m history, length-take w.upto history);
        outcome = is.outcome;
        comes = subst (λ h. IsOutcome finmap.empty h leaf is.outcome) (same_take is.at m history within ∙ sym (take-take is.at w.upto history near)) is.comes;
        answered = is.answered;
      }

  -- a leaf for which the store failed
  pub failed_at : {end : ℕ} {leaf : Leaf} {before : ℕ} → w.from ≤ end → IsFailedLeaf now end leaf before → IsFailedLeaf history w.from leaf before
  failed_at {end} {leaf} {before} low is =
      let later = is.not_older in
      let within = is.within in
      record {
        not_older = omega (arith, low, later);
        within = omega (arith, within, length-take m history);
        free = subst (λ h. IsFree h (location_of_leaf leaf)) (same_take before m history within) is.free;
      }
