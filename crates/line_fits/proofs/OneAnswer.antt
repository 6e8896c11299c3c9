-- What has one answer is answered by its text alone.
use Rattle.std.proofs.Common.{◌≡◌, ◌≢◌, ◌↔◌, ◌+◌, ℕ, List, [], ◌∷◌, length, Option, refl, sym, ap, ◌∙◌, Bool, IsTrue}
use Rattle.serde_json.specs.Data.{Data}
use Rattle.transcript_cut.specs.Text.{answer_text}
use Rattle.transcript_cut.specs.declared.Answer.{Answer}
use Rattle.transcript_cut.specs.Answers.{answer_data}
use Rattle.history.specs.Acts.{Asked}
use Rattle.history.specs.Answers as old
use Rattle.history.specs.Answers.{Body}
use Rattle.history.specs.Commit.{Transaction}
use Rattle.history.specs.History.{History}
use Rattle.transcript_cut.specs.Fitting as fitting
use Rattle.transcript_cut.specs.Fitting.{IsAnswer, IsActAnswer, printed_at}
use Rattle.transcript_cut.specs.ToldNumbers.{done_in, failed_in}
use Rattle.transcript_cut.specs.Windows.{Window}
use Rattle.line_fits.specs.Fits.{IsAnsweredBy}
use Rattle.line_fits.specs.OneAnswer.{HasOneAnswer, refusal, viewed, staged, begun, aborted, IsToldWithNumber, IsFailure}

-- its answer may be given
may_be : (h : History) (owner : ℕ) (w : Window) (t : Option Transaction) (line : ℕ) (numbers : List ℕ) (asked : Asked) (answer : Body) → HasOneAnswer asked answer
    → IsAnswer h owner w t line numbers asked answer
may_be h owner w t line numbers asked answer refusal = refl
may_be h owner w t line numbers asked answer viewed = fitting.viewed
may_be h owner w t line numbers asked answer staged = fitting.staged
may_be h owner w t line numbers asked answer begun = fitting.begun
may_be h owner w t line numbers asked answer aborted = fitting.aborted

-- and no other
only : (h : History) (owner : ℕ) (w : Window) (t : Option Transaction) (line : ℕ) (numbers : List ℕ) (asked : Asked) (answer other : Body) → HasOneAnswer asked answer
    → IsAnswer h owner w t line numbers asked other → other ≡ answer
only h owner w t line numbers asked answer other refusal is = is
only h owner w t line numbers asked answer other viewed fitting.viewed = refl
only h owner w t line numbers asked answer other staged fitting.staged = refl
only h owner w t line numbers asked answer other begun fitting.begun = refl
only h owner w t line numbers asked answer other aborted fitting.aborted = refl

-- a test of the one answer's text tells whether it is answered so
pub answered_by_one : (is : Bool) (a : Answer) (text : List ℕ) (d : Data) → IsTrue is ↔ (text ≡ answer_text a) × (d ≡ answer_data a)
    → (h : History) (owner : ℕ) (w : Window) (t : Option Transaction) (asked : Asked) (body : Body) → HasOneAnswer asked body → a ≡ printed_at a.line body
    → IsTrue is ↔ IsAnsweredBy h owner w t a.line asked text d
answered_by_one is a text d test h owner w t asked body one same = (there, back)
  where
    there : IsTrue is → IsAnsweredBy h owner w t a.line asked text d
    there yes_is = let both = test.0 yes_is in record {
      answer = body;
      printed = both.0 ∙ ap answer_text same;
      object = both.1 ∙ ap answer_data same;
      may = may_be h owner w t a.line _ asked body one;
    }

    back : IsAnsweredBy h owner w t a.line asked text d → IsTrue is
    back by =
        let other : by.answer ≡ body = only h owner w t a.line _ asked body by.answer one by.may in
        let printed = ap (printed_at a.line) other ∙ sym same in
        test.1 (by.printed ∙ ap answer_text printed, by.object ∙ ap answer_data printed)

-- ---- answers with one number

-- a test of the answer with the one number that is printed
pub told_with : (is : Bool) (answer : ℕ → Body) (line n : ℕ) (text : List ℕ) (d : Data)
    → ((m : ℕ) → done_in (answer_data (printed_at line (answer m))) ≡ m ∷ []) → done_in d ≡ n ∷ []
    → IsTrue is ↔ (text ≡ answer_text (printed_at line (answer n))) × (d ≡ answer_data (printed_at line (answer n)))
    → IsTrue is ↔ IsToldWithNumber answer line text d
told_with is answer line n text d prints done test = (there, back)
  where
    there : IsTrue is → IsToldWithNumber answer line text d
    there yes_is = let both = test.0 yes_is in record { number = n; printed = both.0; object = both.1 }

    back : IsToldWithNumber answer line text d → IsTrue is
    back told =
        let all : told.number ∷ [] ≡ n ∷ [] = sym (prints told.number) ∙ ap done_in (sym told.object) ∙ done in
        let same : told.number ≡ n = cc in
        test.1 (told.printed ∙ ap (λ m. answer_text (printed_at line (answer m))) same, told.object ∙ ap (λ m. answer_data (printed_at line (answer m))) same)

-- where not one number is printed there is none
pub told_without : (answer : ℕ → Body) (line : ℕ) (text : List ℕ) (d : Data)
    → ((m : ℕ) → done_in (answer_data (printed_at line (answer m))) ≡ m ∷ []) → length (done_in d) ≢ 1 → ¬ IsToldWithNumber answer line text d
told_without answer line text d prints many told = many (ap (λ x. length (done_in x)) told.object ∙ ap length (prints told.number))

pub written_done : (cells line m : ℕ) → done_in (answer_data (printed_at line (old.written cells (m ∷ [])))) ≡ m ∷ []
written_done cells line m = refl

pub committed_done : (line m : ℕ) → done_in (answer_data (printed_at line (old.committed (m ∷ [])))) ≡ m ∷ []
committed_done line m = refl

-- ---- failed calls

-- the failure's number is the one that is printed
pub failure_number : (n line : ℕ) (text : List ℕ) (d : Data) → IsFailure n line text d → failed_in d ≡ (n + 1) ∷ []
failure_number n line text d is = ap failed_in is.object

pub no_failure : (line : ℕ) (text : List ℕ) (d : Data) → failed_in d ≡ [] → (n : ℕ) → ¬ IsFailure n line text d
no_failure line text d none n is = let clash : (n + 1) ∷ [] ≡ [] = sym (failure_number n line text d is) ∙ none in cc

pub failure_is : (event n line : ℕ) (text : List ℕ) (d : Data) → failed_in d ≡ event ∷ [] → IsFailure n line text d → event ≡ n + 1
failure_is event n line text d printed is = let same : event ∷ [] ≡ (n + 1) ∷ [] = sym printed ∙ failure_number n line text d is in cc
