-- The answers that a commit may have.
use Rattle.std.proofs.Common.{inl, inr, ◌⊎◌, ◌≡◌, ◌∙◌, ℕ, ◌+◌, List, [], ◌∷◌, take, Option, Some, None, Ok, refl, ap, subst}
use Rattle.std.specs.Prelude.{◌↔◌}
use Rattle.serde_json.specs.Data.{Data}
use Rattle.history.specs.Acts.{Act, opens, binds, reads, stages, writes, begins, commits, aborts, resizes, resolves}
use Rattle.history.specs.Answers as body
use Rattle.history.specs.Answers.{Body}
use Rattle.history.specs.Commit.{Key, Transaction}
use Rattle.history.specs.CommitRows.{IsChangedOn}
use Rattle.history.specs.History.{History}
use Rattle.line_fits.specs.Answers.{answer_data}
use Rattle.line_fits.specs.Fits.{IsAnsweredBy}
use Rattle.line_fits.specs.Fitting.{IsActAnswer, IsConflictTold, open_answer, viewed, read, read_failed, staged, written, write_failed, begun, committed, conflicts, commit_failed, aborted, printed_at}
use Rattle.line_fits.specs.Text.{answer_text}
use Rattle.line_fits.specs.Transcript.{mount}
use Rattle.line_fits.specs.Windows.{Window}
use Rattle.read_fits.specs.Conflicts.{IsCommitAnswer, IsConflictAnswer, IsToldAs, TellsConflict}
use Rattle.read_fits.specs.declared.conflicts.Conflict.{Conflict}

-- of a commit: one event, a conflict, or that a store call failed
abbrev CommitTold : History → ℕ → Act → Body → Type 0
CommitTold h owner (opens name leaves build) answer = Unit {0}
CommitTold h owner (binds name view) answer = Unit {0}
CommitTold h owner (reads view down) answer = Unit {0}
CommitTold h owner (stages u view words) answer = Unit {0}
CommitTold h owner (writes view words) answer = Unit {0}
CommitTold h owner (begins mode) answer = Unit {0}
CommitTold h owner (commits u) answer =
    ((n : ℕ) × (answer ≡ body.committed (n ∷ [])))
    ⊎ (((key : Key) × (was : ℕ) × (now : ℕ) × IsConflictTold h owner u key was now × (answer ≡ body.conflict key was now))
    ⊎ ((n : ℕ) × IsChangedOn (take n h) u mount × (answer ≡ body.store_failed (n + 1) [] None)))
CommitTold h owner aborts answer = Unit {0}
CommitTold h owner (resizes array shape) answer = Unit {0}
CommitTold h owner (resolves name view array) answer = Unit {0}

commit_told : (h : History) (owner : ℕ) (w : Window) (t : Option Transaction) (line : ℕ) (numbers : List ℕ) (act : Act) (answer : Body) → IsActAnswer h owner w t line numbers act answer → CommitTold h owner act answer
commit_told h owner w t line numbers act answer (open_answer is) = tt
commit_told h owner w t line numbers act answer viewed = tt
commit_told h owner w t line numbers act answer (read seen) = tt
commit_told h owner w t line numbers act answer (read_failed n fetched) = tt
commit_told h owner w t line numbers act answer staged = tt
commit_told h owner w t line numbers act answer (written n) = tt
commit_told h owner w t line numbers act answer (write_failed n changed) = tt
commit_told h owner w t line numbers act answer begun = tt
commit_told h owner w t line numbers act answer (committed n) = inl (n, refl)
commit_told h owner w t line numbers act answer (conflicts is) = inr (inl (_, _, _, is, refl))
commit_told h owner w t line numbers act answer (commit_failed n changed) = inr (inr (n, changed, refl))
commit_told h owner w t line numbers act answer aborted = tt

module _ (h : History) (owner : ℕ) (w : Window) (t : Option Transaction) (line : ℕ) (u : Transaction) (text : List ℕ) (d : Data) where
  told_by : IsAnsweredBy h owner w t line (Ok (commits u)) text d → IsCommitAnswer h owner u line text d
  told_by a = by (commit_told h owner w t line _ (commits u) a.answer a.may)
    where
      printed : (b : Body) → a.answer ≡ b → text ≡ answer_text (printed_at line b)
      printed b same = a.printed ∙ ap (λ x. answer_text (printed_at line x)) same

      object : (b : Body) → a.answer ≡ b → d ≡ answer_data (printed_at line b)
      object b same = a.object ∙ ap (λ x. answer_data (printed_at line x)) same

      by : CommitTold h owner (commits u) a.answer → IsCommitAnswer h owner u line text d
      by (inl (n, same)) = inl (record { number = n; printed = printed (body.committed (n ∷ [])) same; object = object (body.committed (n ∷ [])) same })
      by (inr (inl (key, was, now, is, same))) =
          inr (inl (record {
            key = key;
            read = was;
            now = now;
            may = is;
            told = record { printed = printed (body.conflict key was now) same; object = object (body.conflict key was now) same };
          }))
      by (inr (inr (n, changed, same))) =
          inr (inr (record {
            number = n;
            may = changed;
            told = record { printed = printed (body.store_failed (n + 1) [] None) same; object = object (body.store_failed (n + 1) [] None) same };
          }))

  told_so : IsCommitAnswer h owner u line text d → IsAnsweredBy h owner w t line (Ok (commits u)) text d
  told_so (inl done) = record { answer = body.committed (done.number ∷ []); printed = done.printed; object = done.object; may = committed done.number }
  told_so (inr (inl met)) = record { answer = body.conflict met.key met.read met.now; printed = met.told.printed; object = met.told.object; may = conflicts met.may }
  told_so (inr (inr failed)) = record { answer = body.store_failed (failed.number + 1) [] None; printed = failed.told.printed; object = failed.told.object; may = commit_failed failed.number failed.may }

  pub commit_answered : IsAnsweredBy h owner w t line (Ok (commits u)) text d ↔ IsCommitAnswer h owner u line text d
  commit_answered = (told_by, told_so)

-- the conflict that a text tells is the one that the answer is of
pub conflict_answered : (h : History) (owner : ℕ) (u : Transaction) (line : ℕ) (text : List ℕ) (d : Data) (told : Option Conflict) → TellsConflict line text d told → IsConflictAnswer h owner u line text d ↔ IsToldAs h owner u told
conflict_answered h owner u line text d None none = ((λ a. none a.key a.read a.now a.told), (λ never. absurd never))
conflict_answered h owner u line text d (Some c) one = (
  (λ a.
      let same = one.1 a.key a.read a.now a.told in
      subst (λ (k : Key). IsConflictTold h owner u k c.read c.touch) same.0 (subst (λ n. IsConflictTold h owner u a.key n c.touch) same.1 (subst (λ n. IsConflictTold h owner u a.key a.read n) same.2 a.may))),
  (λ may. record { key = c.key; read = c.read; now = c.touch; may = may; told = one.0 }),
)
