-- Which answers writes and commits may have.
use Rattle.std.proofs.Common.{◌≡◌, ◌↔◌, ◌⊎◌, inl, inr, ◌≤◌, ℕ, ◌+◌, List, [], ◌∷◌, length, take, Option, Some, None, Ok, refl, sym, ap, subst, ◌∙◌, arith}
use Rattle.serde_json.specs.Data.{Data}
use Rattle.history.specs.Acts.{writes, commits}
use Rattle.history.specs.Answers as old
use Rattle.history.specs.Answers.{Body, Text}
use Rattle.history.specs.Commit.{Transaction}
use Rattle.history.specs.CommitRows.{IsChangedOn}
use Rattle.history.specs.History.{History}
use Rattle.history.specs.Steps.{write_alone}
use Rattle.open_fits.specs.Answers.{answer_data}
use Rattle.open_fits.specs.Fits.{IsAnsweredBy}
use Rattle.open_fits.specs.Fitting as fitting
use Rattle.open_fits.specs.Fitting.{IsActAnswer, IsConflictTold, printed_at}
use Rattle.open_fits.specs.OneAnswer.{IsFailure, IsWritten, IsCommitted}
use Rattle.open_fits.specs.Text.{answer_text}
use Rattle.open_fits.specs.ToldNumbers.{failed_in, single}
use Rattle.open_fits.specs.Transcript.{mount}
use Rattle.open_fits.specs.Windows.{Window}
use Rattle.open_fits.proofs.Laws.{failure_number, failure_is}
use Rattle.stack_driver.specs.declared.view.View.{View}
use Rattle.open_fits.specs.Conflicts.{IsConflictAnswer, TellsConflict}
use Rattle.open_fits.specs.declared.Conflict.{Conflict}
use Rattle.transcript_fits.specs.Changing.{IsFailedChange, PrintsLine}
use Rattle.transcript_fits.specs.LineFits.{answer_of_line}
use Rattle.transcript_fits.specs.declared.line_fit.ToldLine.{ToldLine}

module _ (h : History) (owner : ℕ) (w : Window) (t : Option Transaction) (line : ℕ) (text : List ℕ) (d : Data) where
  -- a write is told of as done, or as a failed call
  abbrev pub IsWriteTold : View → List ℕ → Type 0
  IsWriteTold view words = IsWritten (length words) line text d ⊎ IsFailedChange h (write_alone line view words) line text d

  write_may : (view : View) (words numbers : List ℕ) (answer : Body) → IsActAnswer h owner w t line numbers (writes view words) answer → text ≡ answer_text (printed_at line answer) → d ≡ answer_data (printed_at line answer) → IsWriteTold view words
  write_may view words numbers answer (fitting.written n) printed object = inl (record { number = n; printed = printed; object = object })
  write_may view words numbers answer (fitting.write_failed n changed) printed object = inr (record { behind = n; told = record { printed = printed; object = object }; changed = changed })

  pub write_told : (view : View) (words : List ℕ) → IsAnsweredBy h owner w t line (Ok (writes view words)) text d → IsWriteTold view words
  write_told view words by = write_may view words _ by.answer by.may by.printed by.object

  pub written_fits : (view : View) (words : List ℕ) → IsWritten (length words) line text d → IsAnsweredBy h owner w t line (Ok (writes view words)) text d
  written_fits view words is = record { answer = old.written (length words) (is.number ∷ []); printed = is.printed; object = is.object; may = fitting.written is.number }

  -- where it isn't told of as done, it may be answered so exactly where the call may fail
  pub write_failed_fits : (view : View) (words : List ℕ) (n : ℕ) → ¬ IsWritten (length words) line text d → IsFailure n line text d
      → IsChangedOn (take n h) (write_alone line view words) mount ↔ IsAnsweredBy h owner w t line (Ok (writes view words)) text d
  write_failed_fits view words n none is = (
    λ changed. record { answer = old.store_failed (n + 1) [] None; printed = is.printed; object = is.object; may = fitting.write_failed n changed },
    λ by. at (write_told view words by),
  )
    where
      at : IsWriteTold view words → IsChangedOn (take n h) (write_alone line view words) mount
      at (inl written) = absurd (none written)
      at (inr other) =
          let same : n + 1 ≡ other.behind + 1 = failure_is (n + 1) other.behind line text d (failure_number n line text d is) other.told in
          let one : other.behind ≡ n = omega (arith, same) in
          subst (λ m. IsChangedOn (take m h) (write_alone line view words) mount) one other.changed

  pub write_unfit : (view : View) (words : List ℕ) → ¬ IsWritten (length words) line text d → ((n : ℕ) → ¬ IsFailure n line text d) → ¬ IsAnsweredBy h owner w t line (Ok (writes view words)) text d
  write_unfit view words none never by = at (write_told view words by)
    where
      at : IsWriteTold view words → ⊥
      at (inl written) = none written
      at (inr other) = never other.behind other.told

  -- a commit is told of as done, as a failed call, or as a conflict
  abbrev pub IsCommitTold : Transaction → Type 0
  IsCommitTold u = IsCommitted line text d ⊎ (IsFailedChange h u line text d ⊎ IsConflictAnswer h owner u line text d)

  commit_may : (u : Transaction) (numbers : List ℕ) (answer : Body) → IsActAnswer h owner w t line numbers (commits u) answer → text ≡ answer_text (printed_at line answer) → d ≡ answer_data (printed_at line answer) → IsCommitTold u
  commit_may u numbers answer (fitting.committed n) printed object = inl (record { number = n; printed = printed; object = object })
  commit_may u numbers answer (fitting.conflicts told) printed object = inr (inr (record { key = _; read = _; now = _; may = told; told = record { printed = printed; object = object } }))
  commit_may u numbers answer (fitting.commit_failed n changed) printed object = inr (inl (record { behind = n; told = record { printed = printed; object = object }; changed = changed }))

  pub commit_told : (u : Transaction) → IsAnsweredBy h owner w t line (Ok (commits u)) text d → IsCommitTold u
  commit_told u by = commit_may u _ by.answer by.may by.printed by.object

  pub committed_fits : (u : Transaction) → IsCommitted line text d → IsAnsweredBy h owner w t line (Ok (commits u)) text d
  committed_fits u is = record { answer = old.committed (is.number ∷ []); printed = is.printed; object = is.object; may = fitting.committed is.number }

  -- no answer is a conflict's and a failed call's
  conflict_calls_none : (key : Text) (read now : ℕ) → failed_in (answer_data (printed_at line (old.conflict key read now))) ≡ []
  conflict_calls_none key read now = refl

  pub commit_failed_fits : (u : Transaction) (n : ℕ) → ¬ IsCommitted line text d → IsFailure n line text d → IsChangedOn (take n h) u mount ↔ IsAnsweredBy h owner w t line (Ok (commits u)) text d
  commit_failed_fits u n none is = (
    λ changed. record { answer = old.store_failed (n + 1) [] None; printed = is.printed; object = is.object; may = fitting.commit_failed n changed },
    λ by. at (commit_told u by),
  )
    where
      at : IsCommitTold u → IsChangedOn (take n h) u mount
      at (inl committed) = absurd (none committed)
      at (inr (inl other)) =
          let same : n + 1 ≡ other.behind + 1 = failure_is (n + 1) other.behind line text d (failure_number n line text d is) other.told in
          let one : other.behind ≡ n = omega (arith, same) in
          subst (λ m. IsChangedOn (take m h) u mount) one other.changed
      at (inr (inr clash)) =
          let both : (n + 1) ∷ [] ≡ [] = sym (failure_number n line text d is) ∙ ap failed_in clash.told.object ∙ conflict_calls_none clash.key clash.read clash.now in
          absurd (cc)

  -- where it is told of neither, it may be answered so exactly where the conflict may be told
  pub commit_conflict_fits : (u : Transaction) → ¬ IsCommitted line text d → ((n : ℕ) → ¬ IsFailure n line text d) → IsConflictAnswer h owner u line text d ↔ IsAnsweredBy h owner w t line (Ok (commits u)) text d
  commit_conflict_fits u none never = (
    λ clash. record { answer = old.conflict clash.key clash.read clash.now; printed = clash.told.printed; object = clash.told.object; may = fitting.conflicts clash.may },
    λ by. at (commit_told u by),
  )
    where
      at : IsCommitTold u → IsConflictAnswer h owner u line text d
      at (inl committed) = absurd (none committed)
      at (inr (inl other)) = absurd (never other.behind other.told)
      at (inr (inr clash)) = clash

-- a call that failed behind so many events printed the number of one of the history
pub failed_low : (h : History) (line : ToldLine) (n : ℕ) → PrintsLine h line → IsFailure n line.line line.text.now (answer_of_line line) → n ≤ length h
failed_low h line n prints is = by line.numbers.now.failed refl
  where
    by : (o : Option ℕ) → line.numbers.now.failed ≡ o → n ≤ length h
    by None none =
        let both : (n + 1) ∷ [] ≡ [] = sym (failure_number n line.line line.text.now (answer_of_line line) is) ∙ prints.numbers.failed ∙ ap single none in
        absurd (cc)
    by (Some m) some =
        let both : (n + 1) ∷ [] ≡ m ∷ [] = sym (failure_number n line.line line.text.now (answer_of_line line) is) ∙ prints.numbers.failed ∙ ap single some in
        let same : n + 1 ≡ m = cc in
        let low = prints.early m some in
        omega (arith, same, low)

-- the conflict that a text tells of is the one that its commit may be answered by
pub conflict_same : (h : History) (owner : ℕ) (t : Transaction) (line : ℕ) (text : List ℕ) (d : Data) (c : Conflict) → TellsConflict line text d (Some c) → IsConflictTold h owner t c.key c.read c.touch ↔ IsConflictAnswer h owner t line text d
conflict_same h owner t line text d c tells = (
  λ may. record { key = c.key; read = c.read; now = c.touch; may = may; told = tells.0 },
  λ is. let same = tells.1 is.key is.read is.now is.told in subst (λ (p : List ℕ × ℕ × ℕ). IsConflictTold h owner t p.0 p.1 p.2) (λ i. (same.0 i, same.1 i, same.2 i)) is.may,
)

pub never_conflict : (h : History) (owner : ℕ) (t : Transaction) (line : ℕ) (text : List ℕ) (d : Data) → TellsConflict line text d None → ¬ IsConflictAnswer h owner t line text d
never_conflict h owner t line text d tells is = tells is.key is.read is.now is.told
