-- What is answered to a leaf that is refused, and whether it is told.
use Rattle.std.proofs.Common.{◌≡◌, ◌↔◌, ℕ, ◌+◌, List, [], take, Bool, true, false, Option, Some, None, refl, sym, ap, subst, ◌∙◌}
use Rattle.std.specs.Prelude.{IsTrue, unwrap_or}
use Rattle.std.specs.List.{slice_get}
use Rattle.serde_json.specs.Data.{Data}
use Rattle.read_fits.specs.declared.Body as printed
use Rattle.read_fits.specs.declared.Body.TheVariants.{PathTaken, Exists, NotFound, Mismatch, BadSpec}
use Rattle.read_fits.specs.Answers.{answer_data}
use Rattle.read_fits.specs.AnswerLines.{IsAnswerText}
use Rattle.history.specs.Answers as body
use Rattle.history.specs.Answers.{Body, Text}
use Rattle.history.specs.Arrays.{Known}
use Rattle.history.specs.History.{History}
use Rattle.history.specs.Leaves.{Leaf, location_of_leaf}
use Rattle.history.specs.Lines.{member_of_node}
use Rattle.history.specs.OpenRows.{IsRefusal}
use Rattle.history.specs.Outcomes.{Outcome, path_taken, exists, mismatch, there, not_found, bad_want, made}
use Rattle.history.specs.SingleOpen.{outcome_alone}
use Rattle.read_fits.specs.Bodies.{body_of}
use Rattle.read_fits.specs.Asked.{leaf_asked}
use Rattle.read_fits.specs.Outcomes.{IsToldAs}
use Rattle.read_fits.specs.declared.Asked.{Asked}
use Rattle.read_fits.specs.declared.Wanted.TheVariants.{Stored, Given}
use Rattle.read_fits.specs.declared.LeafOutcome.{LeafOutcome}
use Rattle.read_fits.specs.declared.LeafOutcome.TheVariants as told_outcome
use Rattle.read_fits.specs.Fitting.{printed_at}
use Rattle.read_fits.specs.Openings.{node_of}
use Rattle.open_fits.specs.Built.{IsPrintedAs, IsToldSo}
use Rattle.open_fits.specs.Opens.{IsStopAt, IsRefusedFor, IsRefusedFrom}
use Rattle.open_fits.specs.Refusals.{IsRefusalBody, is_free_told}
use Rattle.open_fits.specs.declared.questions.OpenQuestion.{OpenQuestion}
use Rattle.open_fits.proofs.Judging.{one_reading}
use Rattle.open_fits.proofs.Outcomes.{as_outcome, of_outcome, is_free_outcome, free_of_outcome, free_told}

module _ (node : Text) (leaf : Leaf) (at : ℕ) (numbers : List ℕ) where
  abbrev IsBody : Outcome → Option printed.Body → Type 0
  IsBody o b = IsRefusalBody node leaf at numbers o b

  refused_as : (o kind : Outcome) (b : Option printed.Body) (answer : Body) → o ≡ kind → b ≡ Some (body_of answer) → IsRefusal node leaf at numbers kind answer → ((other : Body) → IsRefusal node leaf at numbers kind other → other ≡ answer) → IsBody o b
  refused_as o kind b answer is told refusal only = subst (λ x. IsBody x b) (sym is) (subst (IsBody kind) (sym told) (answer, refl, refusal, only))

  pub refused_taken : (o : Outcome) (b : Option printed.Body) (other : List ℕ) → o ≡ path_taken other → b ≡ Some (PathTaken at other numbers) → IsBody o b
  refused_taken o b other is told = refused_as o (path_taken other) b (body.path_taken at other numbers) is told refl (λ x same. same)

  pub refused_exists : (o : Outcome) (b : Option printed.Body) → o ≡ exists → b ≡ Some (Exists at (location_of_leaf leaf) numbers) → IsBody o b
  refused_exists o b is told = refused_as o exists b (body.exists at (location_of_leaf leaf) numbers) is told refl (λ x same. same)

  pub refused_mismatch : (o : Outcome) (b : Option printed.Body) (member : List ℕ) → o ≡ mismatch member → b ≡ Some (Mismatch at member (location_of_leaf leaf) numbers) → IsBody o b
  refused_mismatch o b member is told = refused_as o (mismatch member) b (body.mismatch at member (location_of_leaf leaf) numbers) is told refl (λ x same. same)

  pub refused_not_found : (o : Outcome) (b : Option printed.Body) → o ≡ not_found → b ≡ Some (NotFound at (location_of_leaf leaf) numbers) → IsBody o b
  refused_not_found o b is told = refused_as o not_found b (body.not_found at (location_of_leaf leaf) numbers) is told refl (λ x same. same)

  pub refused_undetermined : (o : Outcome) (b : Option printed.Body) (member : List ℕ) → o ≡ bad_want member → b ≡ Some (BadSpec (member_of_node node member) (Some numbers)) → IsBody o b
  refused_undetermined o b member is told = refused_as o (bad_want member) b (body.bad_spec (member_of_node node member) (Some numbers)) is told refl (λ x same. same)

  -- an array that is there, or made, is no refusal
  pub unrefused_there : (o : Outcome) (k : Known) → o ≡ there k → IsBody o None
  unrefused_there o k is = subst (λ x. IsBody x None) (sym is) (λ answer never. never)

  pub unrefused_made : (o : Outcome) (meta : _) → o ≡ made meta → IsBody o None
  unrefused_made o meta is = subst (λ x. IsBody x None) (sym is) (λ answer never. never)

-- nothing lies at the place of a leaf that comes to this
pub told_free : (events : History) (outcome : LeafOutcome) (o : Outcome) → IsToldAs events outcome o → is_free_told outcome ≡ is_free_outcome o
told_free events (told_outcome.Taken other) o is = ap is_free_outcome (sym is)
told_free events (told_outcome.There number) o is = ap is_free_outcome (sym is.2)
told_free events told_outcome.Exists o is = ap is_free_outcome (sym is)
told_free events (told_outcome.Mismatch member) o is = ap is_free_outcome (sym is)
told_free events told_outcome.NotFound o is = ap is_free_outcome (sym is)
told_free events (told_outcome.BadWant member) o is = ap is_free_outcome (sym is)
told_free events (told_outcome.Made form) o is = ap is_free_outcome (sym is)

module _ (h : History) (q : OpenQuestion) (place : ℕ) (asked : Asked) (d : Data) (reads : IsAnswerText q.told.line q.told.text d) where
  abbrev the_node : Text
  the_node = unwrap_or (node_of place q.plan.tree) []

  abbrev the_leaf : Leaf
  the_leaf = leaf_asked asked

  abbrev early : History
  early = take q.moment h

  abbrev Refused : Type 0
  Refused = IsRefusedFor h q place asked

  -- a failed call
  pub failure_so : (free is : Bool) (o : Outcome) → q.is_failed ≡ true → outcome_alone early the_leaf ≡ o → free ≡ is_free_outcome o
      → IsTrue is ↔ (IsTrue free × IsPrintedAs q.told d (body.store_failed (q.moment + 1) [] (Some q.told.numbers))) → IsTrue is ↔ Refused
  failure_so free is o fails comes free_is told = (to, back)
    where
      to : IsTrue is → Refused
      to right =
          let so = told.0 right in
          let lies_free = free_of_outcome early the_leaf (ap is_free_outcome comes ∙ sym free_is ∙ so.0) in
          record {
            answer = body.store_failed (q.moment + 1) [] (Some q.told.numbers);
            printed = so.1.text;
            object = subst (IsAnswerText q.told.line q.told.text) so.1.object reads;
            stops = subst (λ f. IsStopAt h q.moment f the_node the_leaf q.told.numbers (body.store_failed (q.moment + 1) [] (Some q.told.numbers))) (sym fails) (lies_free, refl);
          }

      back : Refused → IsTrue is
      back so =
          let stop = subst (λ f. IsStopAt h q.moment f the_node the_leaf q.told.numbers so.answer) fails so.stops in
          let object = one_reading q.told.line q.told.text d (answer_data (printed_at q.told.line so.answer)) reads so.object in
          told.1 (free_is ∙ sym (ap is_free_outcome comes) ∙ free_told early the_leaf stop.0, subst (IsPrintedAs q.told d) stop.1 (record { text = so.printed; object = object }))

  -- a refusal
  pub refusal_so : (is : Bool) (o : Outcome) (b : printed.Body) → q.is_failed ≡ false → outcome_alone early the_leaf ≡ o → IsRefusalBody the_node the_leaf q.moment q.told.numbers o (Some b)
      → ((answer : Body) → b ≡ body_of answer → IsToldSo q.told answer is) → IsTrue is ↔ Refused
  refusal_so is o b refuses comes refusal told = (to, back)
    where
      to : IsTrue is → Refused
      to right =
          let so = (told refusal.0 refusal.1 d reads).0 right in
          record {
            answer = refusal.0;
            printed = so.text;
            object = subst (IsAnswerText q.told.line q.told.text) so.object reads;
            stops = subst (λ f. IsStopAt h q.moment f the_node the_leaf q.told.numbers refusal.0) (sym refuses) (o, as_outcome early the_leaf o comes, refusal.2);
          }

      back : Refused → IsTrue is
      back so =
          let stop = subst (λ f. IsStopAt h q.moment f the_node the_leaf q.told.numbers so.answer) refuses so.stops in
          let same : stop.0 ≡ o = sym (of_outcome early the_leaf stop.0 stop.1) ∙ comes in
          let answer_is : so.answer ≡ refusal.0 = refusal.3 so.answer (subst (λ x. IsRefusal the_node the_leaf q.moment q.told.numbers x so.answer) same stop.2) in
          let object = one_reading q.told.line q.told.text d (answer_data (printed_at q.told.line so.answer)) reads so.object in
          (told refusal.0 refusal.1 d reads).1 (subst (IsPrintedAs q.told d) answer_is (record { text = so.printed; object = object }))

  pub unrefused_so : (o : Outcome) → q.is_failed ≡ false → outcome_alone early the_leaf ≡ o → IsRefusalBody the_node the_leaf q.moment q.told.numbers o None → Refused → ⊥
  unrefused_so o refuses comes none so =
      let stop = subst (λ f. IsStopAt h q.moment f the_node the_leaf q.told.numbers so.answer) refuses so.stops in
      let same : stop.0 ≡ o = sym (of_outcome early the_leaf stop.0 stop.1) ∙ comes in
      none so.answer (subst (λ x. IsRefusal the_node the_leaf q.moment q.told.numbers x so.answer) same stop.2)

-- the leaf that stands at a place
pub stored_there : (h : History) (q : OpenQuestion) (place : ℕ) (asked : Asked) (is : Bool) → slice_get q.plan.leaves place ≡ Some (Stored asked) → IsTrue is ↔ IsRefusedFor h q place asked → IsTrue is ↔ IsRefusedFrom h q place
stored_there h q place asked is at told = (
  (λ right. record { asked = asked; leaf = at; refused = told.0 right }),
  (λ from.
      let both : Some (Stored from.asked) ≡ Some (Stored asked) = sym from.leaf ∙ at in
      let same : from.asked ≡ asked = cc in
      told.1 (subst (IsRefusedFor h q place) same from.refused)),
)

pub given_there : (h : History) (q : OpenQuestion) (place : ℕ) (start : _) → slice_get q.plan.leaves place ≡ Some (Given start) → IsRefusedFrom h q place → ⊥
given_there h q place start at from = let both : Some (Stored from.asked) ≡ Some (Given start) = sym from.leaf ∙ at in cc

pub never_told : (P : Type 0) → (P → ⊥) → IsTrue false ↔ P
never_told P none = ((λ never. let no : ⊥ = cc in absurd no), (λ p. absurd (none p)))
