-- What a line that opens adds to its events in a turn.
use Rattle.std.proofs.Common.{◌≡◌, ◌∙◌, ℕ, ◌+◌, List, [], ◌∷◌, ◌++◌, length, Option, Some, None, inl, inr, refl, sym, ap, subst, append-nil}
use Rattle.std.specs.List.{AllByRecursion}
use Rattle.sessions.specs.declared.Body.{Body}
use Rattle.sessions.specs.declared.Body.TheVariants as body
use Rattle.history.specs.declared.event.Event.{Event}
use Rattle.history.specs.Answers.{Text}
use Rattle.history.specs.History.{History}
use Rattle.history.specs.Own.{Numbered, numbered, numbers_of, fault}
use Rattle.sessions.specs.OpenEvents.{IsArrayOpened, failure_in, TellsOpenings, HasFailed, AreOpenings, AreTold}
use Rattle.sessions.specs.Turns.{IsTurn, HasPassed, added_by}
use Rattle.sessions.proofs.Laws.{own_of_turn, added_then, same_rest}
use Rattle.sessions.specs.Agreement.{Opening}
use Rattle.turn_book.specs.Passes.{BookView, PassView}

-- openings, and behind them others
all_both : (xs ys : List Numbered) → AllByRecursion IsArrayOpened xs → AllByRecursion IsArrayOpened ys → AllByRecursion IsArrayOpened (xs ++ ys)
all_both [] ys one other = other
all_both (x ∷ xs) ys one other = (one.0, all_both xs ys one.1 other)

module _ (book : BookView Opening) (first old new : PassView Event Opening) (passed : HasPassed book first old) (before added : History) (turn : IsTurn book old new before added) where
  -- these events are added behind those before
  pub added_behind : (events : History) → added ≡ events → added_by first new ≡ added_by first old ++ numbered (length before + 1) events
  added_behind events is =
      added_then first old new passed.number passed.before turn.turned.before ∙ ap (λ os. added_by first old ++ os) (own_of_turn book old new before added passed.rested turn)
      ∙ ap (λ es. added_by first old ++ numbered (length before + 1) es) is

  -- what was added, by what is seen behind the turn
  pub added_are : (events : History) → new.seen ≡ before ++ events → added ≡ events
  added_are events later = same_rest before added events (sym turn.later ∙ later)

  -- where nothing more is seen than before, nothing is added
  pub added_nothing : new.seen ≡ before → added_by first new ≡ added_by first old
  added_nothing same = added_behind [] (added_are [] (same ∙ sym (append-nil before))) ∙ append-nil (added_by first old)

  -- openings behind openings
  pub openings_more : (events : History) → added ≡ events → AllByRecursion IsArrayOpened (numbered (length before + 1) events) → AllByRecursion IsArrayOpened (added_by first old) → AllByRecursion IsArrayOpened (added_by first new)
  openings_more events is these had = subst (AllByRecursion IsArrayOpened) (sym (added_behind events is)) (all_both (added_by first old) (numbered (length before + 1) events) had these)

  -- a failed call behind openings, where it is told
  pub failed_told : (mount : Text) (event : ℕ) (numbers : List ℕ) (answer : Body) → added ≡ fault old.number mount ∷ [] → AllByRecursion IsArrayOpened (added_by first old) → numbers_of (added_by first old) ≡ numbers → event ≡ length before + 1
      → answer ≡ body.StoreFailed event [] (Some numbers) → HasFailed (added_by first new) answer
  failed_told mount event numbers answer is had are number told = record {
    openings = added_by first old;
    failed = record { number = length before + 1; event = fault old.number mount };
    mount = mount;
    are = had;
    fault = refl;
    all = added_behind (fault old.number mount ∷ []) is;
    told = told ∙ ap (λ n. body.StoreFailed n [] (Some numbers)) number ∙ ap (λ ns. body.StoreFailed (length before + 1) [] (Some ns)) (sym are);
  }

-- openings alone, where they are told
pub openings_told : (own : List Numbered) (numbers : List ℕ) (answer : Body) → AllByRecursion IsArrayOpened own → numbers_of own ≡ numbers → TellsOpenings numbers answer → failure_in answer ≡ None → AreTold own answer
openings_told own numbers answer are same told none = inl (record { are = are; told = λ events is. told events is ∙ sym same; none = none })
