-- What a text tells of a read, call by call.
use Rattle.std.proofs.Common.{◌≡◌, ◌≢◌, ◌∙◌, ℕ, zero, suc, ◌+◌, List, [], length, Bool, true, false, Option, Some, None, Result, Ok, Err, refl, sym, ap, subst, arith}
use Rattle.std.specs.Prelude.{◌↔◌, IfOk, IsTrue, codes}
use Rattle.serde_json.specs.Data.{Data}
use Rattle.serde_json.specs.Find.{get}
use Rattle.line_fits.specs.Answers.{answer_data}
use Rattle.line_fits.specs.AnswerLines.{IsAnswerText}
use Rattle.line_fits.specs.Members.{values_data}
use Rattle.line_fits.proofs.Laws.{nested_words-values_data}
use Rattle.line_fits.specs.Text.{answer_text}
use Rattle.line_fits.specs.declared.Body.TheVariants as printed
use Rattle.history.proofs.Laws.{some_inj}
use Rattle.history.specs.Viewing.{shape_of}
use Rattle.index_transform.specs.Cells.{cells_of}
use Rattle.script_lines.specs.NestedWords.{nested_words}
use Rattle.stack_driver.specs.Views.{look_of}
use Rattle.stack_driver.specs.declared.view.View.{View}
use Rattle.stack_driver.proofs.Laws.{length-cells_of}
use Rattle.transaction_cells.specs.Staging.{StagedChunk}
use Rattle.line_fits.specs.Standings.{words_given}
use Rattle.read_fits.specs.ReadFits.{AreFitFailures, AreFitValues, AreFitsOf, AreSeenFits, AreToldWords, HasWordsOf, IsTextOf, IsTextOrNot, IsToldBy}
use Rattle.read_fits.specs.declared.reads.ReadFit.{ReadFit}
use Rattle.read_fits.specs.declared.reads.ReadFit.TheVariants.{Unfit, IfFetched}
use Rattle.read_fits.specs.declared.spot.Spot.{Spot}
use Rattle.read_fits.proofs.ReadAnswers.{fit_failure, fit_text, unfit_failure}

-- an answer with values, and one without
pub by_values : {E : Type 0} (spot : Spot) (view : View) (staging : List StagedChunk) (text : List ℕ) (found : Option Data) (values : Data) (r : Result ReadFit E) → found ≡ Some values → IfOk r (AreFitValues spot view staging text values)
    → IfOk r (AreFitsOf spot view staging text found)
by_values spot view staging text found values (Ok fit) there is = λ d of_it h owner t read line_is failed. is h owner t d read (record { line_is = line_is; values_are = of_it ∙ there })
by_values spot view staging text found values (Err e) there is = tt

pub by_failure : {E : Type 0} (spot : Spot) (view : View) (staging : List StagedChunk) (text : List ℕ) (found : Option Data) (r : Result ReadFit E) → found ≡ None → IfOk r (AreFitFailures spot text)
    → IfOk r (AreFitsOf spot view staging text found)
by_failure spot view staging text found (Ok fit) none is = λ d of_it h owner t read line_is failed. is h owner t view d line_is failed (of_it ∙ none)
by_failure spot view staging text found (Err e) none is = tt

-- what is seen of words that the text tells
pub by_words : {E : Type 0} (spot : Spot) (view : View) (staging : List StagedChunk) (text : List ℕ) (values : Data) (given : List ℕ) (r : Result ReadFit E) → AreToldWords view spot.line text values (Some given)
    → IfOk r (AreSeenFits spot view staging given) → IfOk r (AreFitValues spot view staging text values)
by_words spot view staging text values given (Ok fit) told is = fit_text spot view staging text values given fit told is
by_words spot view staging text values given (Err e) told is = tt

module _ (view : View) (line : ℕ) (text : List ℕ) (values : Data) (given : List ℕ) (are : given ≡ words_given (nested_words (look_of view).dtype (shape_of view) values)) where
  -- the words of an answer's text are those that its values give
  only_given : (d : Data) (words : List ℕ) → IsToldBy line text values d → HasWordsOf view words → IsTextOf view line text d words → words ≡ given
  only_given d words told has is =
      let data_is : get (codes "values") d ≡ Some (values_data (look_of view).dtype (shape_of view) words) = ap (get (codes "values")) is.1 in
      let same : values ≡ values_data (look_of view).dtype (shape_of view) words = some_inj values (values_data (look_of view).dtype (shape_of view) words) (sym told.values_are ∙ data_is) in
      sym (are ∙ ap words_given (ap (nested_words (look_of view).dtype (shape_of view)) same ∙ nested_words-values_data (look_of view).dtype (shape_of view) words has.0 has.1))

  pub none_told : length given ≢ length (cells_of (look_of view).dims) → AreToldWords view line text values None
  none_told other d told words has is = other (ap length (sym (only_given d words told has is)) ∙ has.0 ∙ sym (length-cells_of (look_of view).dims))

  pub are_told : length given ≡ length (cells_of (look_of view).dims) → (o : Option (List ℕ)) → IsTextOrNot view line text given o → AreToldWords view line text values o
  are_told count None is = λ d told words has so. is d told.line_is (subst (IsTextOf view line text d) (only_given d words told has so) so)
  are_told count (Some found) is =
      (ap length is.0 ∙ count, λ d told. (subst (IsTextOf view line text d) (sym is.0) (is.1 d told.line_is), λ words has so. only_given d words told has so ∙ sym is.0))

  pub are_told_if : {E : Type 0} → length given ≡ length (cells_of (look_of view).dims) → (r : Result (Option (List ℕ)) E) → IfOk r (IsTextOrNot view line text given) → IfOk r (AreToldWords view line text values)
  are_told_if count (Ok o) is = are_told count o is
  are_told_if count (Err e) is = tt

-- whether the text is that of the words tells whether it is
pub text_is : (view : View) (line : ℕ) (text words copy : List ℕ) (is : Bool) → copy ≡ words → is ≡ true → ((d : Data) → IsAnswerText line text d → IsTrue is ↔ IsTextOf view line text d copy) → IsTextOrNot view line text words (Some words)
text_is view line text words copy is same so told = (refl, λ d line_is. subst (IsTextOf view line text d) same ((told d line_is).0 so))

pub text_is_not : (view : View) (line : ℕ) (text words copy : List ℕ) (is : Bool) → copy ≡ words → is ≡ false → ((d : Data) → IsAnswerText line text d → IsTrue is ↔ IsTextOf view line text d copy) → IsTextOrNot view line text words None
text_is_not view line text words copy is same so told d line_is text_of =
    let clash : true ≡ false = sym ((told d line_is).1 (subst (IsTextOf view line text d) (sym same) text_of)) ∙ so in
    absurd (cc)

-- a failed store call
pub failure_is : (line event : ℕ) (text : List ℕ) (is : Bool) (spot : Spot) → event ≢ 0 → is ≡ true → spot.line ≡ line
    → ((number : ℕ) (d : Data) → IsAnswerText number text d → IsTrue is ↔ ((text ≡ answer_text (record { line = line; body = printed.StoreFailed event [] None })) × (d ≡ answer_data (record { line = line; body = printed.StoreFailed event [] None }))))
    → AreFitFailures spot text IfFetched
failure_is line zero text is spot some so here told = absurd (some refl)
failure_is line (suc n) text is spot some so here told = fit_failure spot n text (λ d line_is.
    subst (λ m. (text ≡ answer_text (record { line = m; body = printed.StoreFailed (n + 1) [] None })) × (d ≡ answer_data (record { line = m; body = printed.StoreFailed (n + 1) [] None }))) (sym here)
    (subst (λ m. (text ≡ answer_text (record { line = line; body = printed.StoreFailed m [] None })) × (d ≡ answer_data (record { line = line; body = printed.StoreFailed m [] None }))) more ((told spot.line d line_is).0 so)))
  where
    more : suc n ≡ n + 1
    more = omega arith

pub failure_is_not : (line event : ℕ) (text : List ℕ) (is : Bool) (spot : Spot) → is ≡ false → spot.line ≡ line → spot.failed ≡ Some event
    → ((number : ℕ) (d : Data) → IsAnswerText number text d → IsTrue is ↔ ((text ≡ answer_text (record { line = line; body = printed.StoreFailed event [] None })) × (d ≡ answer_data (record { line = line; body = printed.StoreFailed event [] None }))))
    → AreFitFailures spot text Unfit
failure_is_not line event text is spot so here prints told = unfit_failure spot event text prints (λ d n line_is same is_text.
    let there = subst (λ m. (text ≡ answer_text (record { line = m; body = printed.StoreFailed (n + 1) [] None })) × (d ≡ answer_data (record { line = m; body = printed.StoreFailed (n + 1) [] None }))) here is_text in
    let back = subst (λ m. (text ≡ answer_text (record { line = line; body = printed.StoreFailed m [] None })) × (d ≡ answer_data (record { line = line; body = printed.StoreFailed m [] None }))) (sym same) there in
    let clash : true ≡ false = sym ((told spot.line d line_is).1 back) ∙ so in
    absurd (cc))

pub failure_of_none : (event : ℕ) (text : List ℕ) (spot : Spot) → event ≡ 0 → spot.failed ≡ Some event → AreFitFailures spot text Unfit
failure_of_none event text spot none prints = unfit_failure spot event text prints (λ d n line_is same is_text. absurd (omega (arith, same, none)))
