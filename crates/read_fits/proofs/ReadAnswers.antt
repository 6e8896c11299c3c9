-- The answers that a read may have.
use Rattle.std.proofs.Common.{inl, inr, ◌⊎◌, ◌≡◌, ◌∙◌, ℕ, ◌+◌, List, [], ◌∷◌, Option, Some, None, Ok, refl, sym, ap, subst}
use Rattle.std.specs.Prelude.{codes}
use Rattle.serde_json.specs.Data.{Data}
use Rattle.serde_json.specs.Find.{get}
use Rattle.line_fits.specs.Text.{answer_text}
use Rattle.line_fits.specs.Answers.{answer_data}
use Rattle.line_fits.specs.AnswerLines.{IsAnswerText}
use Rattle.line_fits.specs.Members.{values_data}
use Rattle.history.specs.Acts.{Act, opens, binds, reads, stages, writes, begins, commits, aborts, resizes, resolves}
use Rattle.history.specs.Answers as body
use Rattle.history.specs.Answers.{Body}
use Rattle.history.specs.Commit.{Transaction}
use Rattle.history.specs.History.{History}
use Rattle.history.specs.Sessions.{reader}
use Rattle.history.specs.Viewing.{shape_of, values_body}
use Rattle.stack_driver.specs.Views.{look_of}
use Rattle.stack_driver.specs.declared.view.View.{View}
use Rattle.transaction_cells.specs.Staging.{StagedChunk}
use Rattle.line_fits.specs.Fitting.{IsActAnswer, open_answer, viewed, read, read_failed, staged, written, write_failed, begun, committed, conflicts, commit_failed, aborted, IsFetched, IsSeen, printed_at}
use Rattle.line_fits.specs.ToldNumbers.{failed_in, single}
use Rattle.line_fits.specs.Windows.{Window}
use Rattle.line_fits.specs.Fits.{IsAnsweredBy}
use Rattle.read_fits.specs.ReadFits.{AreFitFailures, AreFitValues, AreToldWords, HasWordsOf, IsReadFit, IsReadOf, IsSeenFit, IsTextOf, window_at}
use Rattle.read_fits.specs.declared.reads.ReadFit.{ReadFit}
use Rattle.read_fits.specs.declared.reads.ReadFit.TheVariants.{Unfit, IfFetched, IfMet}
use Rattle.read_fits.specs.declared.spot.Spot.{Spot}
use Rattle.read_fits.proofs.TypedWords.{seen_words}

-- of a read: its words, or that the store failed
abbrev ReadTold : History → Window → Option Transaction → ℕ → Act → Body → Type 0
ReadTold h w t line (opens name leaves build) answer = Unit {0}
ReadTold h w t line (binds name view) answer = Unit {0}
ReadTold h w t line (reads view down) answer =
    ((words : List ℕ) × IsSeen h w (reader line t) view words × (answer ≡ values_body view None words)) ⊎ ((n : ℕ) × IsFetched h (reader line t) view × (answer ≡ body.store_failed (n + 1) [] None))
ReadTold h w t line (stages u view words) answer = Unit {0}
ReadTold h w t line (writes view words) answer = Unit {0}
ReadTold h w t line (begins mode) answer = Unit {0}
ReadTold h w t line (commits u) answer = Unit {0}
ReadTold h w t line aborts answer = Unit {0}
ReadTold h w t line (resizes array shape) answer = Unit {0}
ReadTold h w t line (resolves name view array) answer = Unit {0}

read_told : (h : History) (owner : ℕ) (w : Window) (t : Option Transaction) (line : ℕ) (numbers : List ℕ) (act : Act) (answer : Body) → IsActAnswer h owner w t line numbers act answer → ReadTold h w t line act answer
read_told h owner w t line numbers act answer (open_answer is) = tt
read_told h owner w t line numbers act answer viewed = tt
read_told h owner w t line numbers act answer (read {view} {words} seen) = inl (words, seen, refl)
read_told h owner w t line numbers act answer (read_failed n fetched) = inr (n, fetched, refl)
read_told h owner w t line numbers act answer staged = tt
read_told h owner w t line numbers act answer (written n) = tt
read_told h owner w t line numbers act answer (write_failed n changed) = tt
read_told h owner w t line numbers act answer begun = tt
read_told h owner w t line numbers act answer (committed n) = tt
read_told h owner w t line numbers act answer (conflicts is) = tt
read_told h owner w t line numbers act answer (commit_failed n changed) = tt
read_told h owner w t line numbers act answer aborted = tt

module _ (h : History) (owner : ℕ) (w : Window) (t : Option Transaction) (line : ℕ) (view : View) (text : List ℕ) (d : Data) where
  -- a read is answered by words that it sees
  pub answered_by : (words : List ℕ) → IsTextOf view line text d words → IsSeen h w (reader line t) view words → IsAnsweredBy h owner w t line (Ok (reads view None)) text d
  answered_by words is seen = record { answer = values_body view None words; printed = is.0; object = is.1; may = read seen }

  -- and where its answer has values, by such words alone
  pub words_of : (values : Data) → get (codes "values") d ≡ Some values → IsAnsweredBy h owner w t line (Ok (reads view None)) text d → (words : List ℕ) × IsSeen h w (reader line t) view words × IsTextOf view line text d words
  words_of values there a = by (read_told h owner w t line _ (reads view None) a.answer a.may)
    where
      by : ReadTold h w t line (reads view None) a.answer → (words : List ℕ) × IsSeen h w (reader line t) view words × IsTextOf view line text d words
      by (inl (words, seen, same)) = (words, seen, (a.printed ∙ ap (λ b. answer_text (printed_at line b)) same, a.object ∙ ap (λ b. answer_data (printed_at line b)) same))
      by (inr (n, fetched, same)) =
          let none : get (codes "values") d ≡ None = ap (get (codes "values")) (a.object ∙ ap (λ b. answer_data (printed_at line b)) same) in
          absurd (cc)

-- the text is that of an answer that tells of the failed store call after so many events
abbrev pub IsFailureOf : ℕ → List ℕ → Data → ℕ → Type 0
IsFailureOf line text d n = (text ≡ answer_text (printed_at line (body.store_failed (n + 1) [] None))) × (d ≡ answer_data (printed_at line (body.store_failed (n + 1) [] None)))

module _ (h : History) (owner : ℕ) (w : Window) (t : Option Transaction) (line : ℕ) (view : View) (text : List ℕ) (d : Data) where
  failed_by : (n : ℕ) → IsFailureOf line text d n → IsFetched h (reader line t) view → IsAnsweredBy h owner w t line (Ok (reads view None)) text d
  failed_by n is fetched = record { answer = body.store_failed (n + 1) [] None; printed = is.0; object = is.1; may = read_failed n fetched }

  -- where the answer of a read has no values, the store failed
  failure_of : get (codes "values") d ≡ None → IsAnsweredBy h owner w t line (Ok (reads view None)) text d → (n : ℕ) × IsFetched h (reader line t) view × IsFailureOf line text d n
  failure_of none a = by (read_told h owner w t line _ (reads view None) a.answer a.may)
    where
      by : ReadTold h w t line (reads view None) a.answer → (n : ℕ) × IsFetched h (reader line t) view × IsFailureOf line text d n
      by (inl (words, seen, same)) =
          let some : get (codes "values") d ≡ Some (values_data (look_of view).dtype (shape_of view) words) = ap (get (codes "values")) (a.object ∙ ap (λ b. answer_data (printed_at line b)) same) in
          absurd (cc)
      by (inr (n, fetched, same)) = (n, fetched, (a.printed ∙ ap (λ b. answer_text (printed_at line b)) same, a.object ∙ ap (λ b. answer_data (printed_at line b)) same))

failed_number : (line n : ℕ) (text : List ℕ) (d : Data) → IsFailureOf line text d n → failed_in d ≡ (n + 1) ∷ []
failed_number line n text d is = ap failed_in is.1

-- no read has an answer without values that prints no number of a failed store call
pub unfit_silent : (spot : Spot) (text : List ℕ) → spot.failed ≡ None → AreFitFailures spot text Unfit
unfit_silent spot text silent h owner t view d line_is failed none a =
    let f = failure_of h owner (window_at spot) t spot.line view text d none a in
    let clash : [] ≡ (f.0 + 1) ∷ [] = sym (failed ∙ ap single silent) ∙ failed_number spot.line f.0 text d f.2 in
    absurd (cc)

-- nor one whose text isn't that of the number
pub unfit_failure : (spot : Spot) (event : ℕ) (text : List ℕ) → spot.failed ≡ Some event → ((d : Data) (n : ℕ) → IsAnswerText spot.line text d → event ≡ n + 1 → ¬ IsFailureOf spot.line text d n) → AreFitFailures spot text Unfit
unfit_failure spot event text prints other h owner t view d line_is failed none a =
    let f = failure_of h owner (window_at spot) t spot.line view text d none a in
    let numbers : event ∷ [] ≡ (f.0 + 1) ∷ [] = sym (failed ∙ ap single prints) ∙ failed_number spot.line f.0 text d f.2 in
    let same : event ≡ f.0 + 1 = cc in
    other d f.0 line_is same f.2

-- and one whose text is that of the number a read has where it calls the store
pub fit_failure : (spot : Spot) (n : ℕ) (text : List ℕ) → ((d : Data) → IsAnswerText spot.line text d → IsFailureOf spot.line text d n) → AreFitFailures spot text IfFetched
fit_failure spot n text is h owner t view d line_is failed none = (
  (λ a. (failure_of h owner (window_at spot) t spot.line view text d none a).1),
  (λ fetched. failed_by h owner (window_at spot) t spot.line view text d n (is d line_is) fetched),
)

module _ (spot : Spot) (view : View) (staging : List StagedChunk) (text : List ℕ) (values : Data) where
  -- what is seen is a word of the dtype for each cell
  seen_have : (h : History) (t : Option Transaction) (words : List ℕ) → IsReadOf h spot t view staging → IsSeen h (window_at spot) (reader spot.line t) view words → HasWordsOf view words
  seen_have h t words is seen = seen_words h view (reader spot.line t).ops seen.marks words is.legal is.stated is.in_history is.each seen.shown

  -- where the text tells no words, no read has it
  pub unfit_text : AreToldWords view spot.line text values None → AreFitValues spot view staging text values Unfit
  unfit_text none h owner t d is told a =
      let s = words_of h owner (window_at spot) t spot.line view text d values told.values_are a in
      none d told s.0 (seen_have h t s.0 is s.1) s.2

  -- and where it tells some, a read has it where it sees these
  pub fit_text : (given : List ℕ) (fit : ReadFit) → AreToldWords view spot.line text values (Some given)
      → ((h : History) (t : Option Transaction) → IsReadOf h spot t view staging → IsSeenFit h (window_at spot) (reader spot.line t) view given fit)
      → AreFitValues spot view staging text values fit
  fit_text given fit told seen h owner t d is here = by fit (seen h t is)
    where
      given_of : IsAnsweredBy h owner (window_at spot) t spot.line (Ok (reads view None)) text d → IsSeen h (window_at spot) (reader spot.line t) view given
      given_of a =
          let s = words_of h owner (window_at spot) t spot.line view text d values here.values_are a in
          let same : s.0 ≡ given = (told.1 d here).1 s.0 (seen_have h t s.0 is s.1) s.2 in
          subst (IsSeen h (window_at spot) (reader spot.line t) view) same s.1

      back : IsSeen h (window_at spot) (reader spot.line t) view given → IsAnsweredBy h owner (window_at spot) t spot.line (Ok (reads view None)) text d
      back s = answered_by h owner (window_at spot) t spot.line view text d given (told.1 d here).0 s

      by : (f : ReadFit) → IsSeenFit h (window_at spot) (reader spot.line t) view given f → IsReadFit h owner (window_at spot) t spot.line view text d f
      by Unfit never = λ a. never (given_of a)
      by IfFetched none = absurd none
      by (IfMet waiting) met = (met.0, (λ a. met.1.0 (given_of a), λ m. back (met.1.1 m)))
