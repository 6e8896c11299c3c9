-- Lines that are answered for their causes, one after another.
use Rattle.std.proofs.Common.{◌≡◌, ◌∙◌, ℕ, ◌+◌, Bool, true, false, List, [], ◌∷◌, ◌++◌, length, Option, Some, None, refl, sym, ap, subst}
use Rattle.std.specs.Prelude.{◌≢◌}
use Rattle.std.specs.FinMap as finmap
use Rattle.history.specs.declared.event.Event.{Event}
use Rattle.history.specs.Acts.{act_of}
use Rattle.history.specs.Commit.{Fixed, Transaction}
use Rattle.history.specs.Lines.{Line}
use Rattle.history.specs.Sessions.{Names, SessionState, at_first}
use Rattle.session_openings.specs.declared.Body.{Body}
use Rattle.session_openings.specs.declared.Body.TheVariants as printed
use Rattle.session_openings.specs.Agreement.{Opening}
use Rattle.session_openings.specs.Answers.{fixed_by}
use Rattle.session_openings.specs.Caused.{IsCaused, IsCausedBy}
use Rattle.session_openings.specs.Standing.{session_state, transaction_in}
use Rattle.session_openings.specs.Told.{IsTold}
use Rattle.session_openings.specs.Turns.{HasPassed, added_by}
use Rattle.session_openings.proofs.Laws.{IsPlainAsked, plain_caused}
use Rattle.session_runs.specs.Causes.{AreCaused, blank_given, last_given, line_given, none_given}
use Rattle.session_runs.specs.Session.{IsCausedTo, SessionSeen, state_of}
use Rattle.turn_book.specs.Passes.{BookView, PassView}

-- a line that looks at no store, and adds no event
pub anywhere_caused : (book : BookView Opening) (old_pass new : PassView Event Opening) (s : SessionState) (line : ℕ) (asked : Line) (names : Names) (t : Option Transaction) (answer : Body) → added_by old_pass new ≡ [] → IsPlainAsked (act_of s.names s.transaction asked)
    → ((fixed : Fixed) → IsTold fixed old_pass.number new.seen s line asked names t answer []) → IsCausedBy book old_pass new s line asked names t answer
anywhere_caused book old_pass new s line asked names t answer none plain told =
    let anywhere : Fixed = fixed_by book.fixed finmap.empty in
    subst (IsCaused anywhere old_pass.number new.seen s line asked names t answer) (sym none) (plain_caused anywhere anywhere old_pass.number new.seen s line asked names t answer [] plain (told anywhere))

-- before the first line
pub caused_first : (fixed : Fixed) (s : SessionSeen) → s.pass.seen ≡ [] → s.log ≡ [] → at_first ≡ state_of s → IsCausedTo fixed s []
caused_first fixed s none silent stands = record {
  last = Some at_first;
  are = subst (λ h. AreCaused fixed s.pass.number [] s.log h (Some at_first)) (sym none) (subst (λ l. AreCaused fixed s.pass.number [] l [] (Some at_first)) (sym silent) none_given);
  ongoing = λ on. ap Some stands;
}

-- a session that goes on, as it stands
goes : (fixed : Fixed) (s : SessionSeen) (lines : List (Option Line)) → s.ended ≡ false → IsCausedTo fixed s lines → AreCaused fixed s.pass.number lines s.log s.pass.seen (Some (state_of s))
goes fixed s lines going was = subst (AreCaused fixed s.pass.number lines s.log s.pass.seen) (was.ongoing going) was.are

-- behind a blank line
pub caused_blank : (fixed : Fixed) (s : SessionSeen) (lines : List (Option Line)) → s.ended ≡ false → IsCausedTo fixed s lines → IsCausedTo fixed s (lines ++ None ∷ [])
caused_blank fixed s lines going was = record { last = Some (state_of s); are = blank_given (goes fixed s lines going was); ongoing = λ on. refl }

-- of one that ends without an answer
pub caused_stops : (fixed : Fixed) (was now : SessionSeen) (lines : List (Option Line)) → now.pass ≡ was.pass → now.log ≡ was.log → now.ended ≡ true → IsCausedTo fixed was lines → IsCausedTo fixed now lines
caused_stops fixed was now lines pass_is log_is ended before = record {
  last = before.last;
  are = subst (λ (p : PassView Event Opening). AreCaused fixed p.number lines now.log p.seen before.last) (sym pass_is)
      (subst (λ l. AreCaused fixed was.pass.number lines l was.pass.seen before.last) (sym log_is) before.are);
  ongoing = λ going. absurd (let clash : true ≡ false = sym ended ∙ going in let no_such : ⊥ = cc in no_such);
}

-- behind a line that has its answer
module _ (book : BookView Opening) (was now : SessionSeen) (lines : List (Option Line)) (line : ℕ) (asked : Line) (answer : Body) (going : was.ended ≡ false) (passed : HasPassed book was.pass now.pass)
    (told : IsCausedBy book was.pass now.pass (session_state was.names (length was.pass.seen) was.txn) line asked now.names (transaction_in now.txn) answer)
    (logged : now.log ≡ was.log ++ record { line = line; body = answer } ∷ []) (at : line ≡ length lines + 1) (before : IsCausedTo (fixed_by book.fixed finmap.empty) was lines) where
  abbrev fixed : Fixed
  fixed = fixed_by book.fixed finmap.empty

  at_line : IsCaused fixed was.pass.number now.pass.seen (state_of was) (length lines + 1) asked now.names (transaction_in now.txn) answer (added_by was.pass now.pass)
  at_line = subst (λ n. IsCaused fixed was.pass.number now.pass.seen (state_of was) n asked now.names (transaction_in now.txn) answer (added_by was.pass now.pass)) at told

  log_is : was.log ++ record { line = length lines + 1; body = answer } ∷ [] ≡ now.log
  log_is = ap (λ n. was.log ++ record { line = n; body = answer } ∷ []) (sym at) ∙ sym logged

  as_logged : (last : Option SessionState) → AreCaused fixed was.pass.number (lines ++ Some asked ∷ []) (was.log ++ record { line = length lines + 1; body = answer } ∷ []) now.pass.seen last
      → AreCaused fixed now.pass.number (lines ++ Some asked ∷ []) now.log now.pass.seen last
  as_logged last are =
      subst (λ n. AreCaused fixed n (lines ++ Some asked ∷ []) now.log now.pass.seen last) (sym passed.number)
      (subst (λ l. AreCaused fixed was.pass.number (lines ++ Some asked ∷ []) l now.pass.seen last) log_is are)

  goes_on : answer ≢ printed.Memory → IsCausedTo fixed now (lines ++ Some asked ∷ [])
  goes_on other = record {
    last = Some (state_of now);
    are = as_logged (Some (state_of now)) (line_given (goes fixed was lines going before) passed.before other at_line);
    ongoing = λ on. refl;
  }

  ends : answer ≡ printed.Memory → now.ended ≡ true → IsCausedTo fixed now (lines ++ Some asked ∷ [])
  ends wants ended = record {
    last = None;
    are = as_logged None
        (subst (λ b. AreCaused fixed was.pass.number (lines ++ Some asked ∷ []) (was.log ++ record { line = length lines + 1; body = b } ∷ []) now.pass.seen None) (sym wants)
        (last_given (goes fixed was lines going before) passed.before
        (subst (λ b. IsCaused fixed was.pass.number now.pass.seen (state_of was) (length lines + 1) asked now.names (transaction_in now.txn) b (added_by was.pass now.pass)) wants at_line)));
    ongoing = λ on. absurd (let clash : true ≡ false = sym ended ∙ on in let no_such : ⊥ = cc in no_such);
  }

  pub caused_next : (now.ended ≡ true → answer ≡ printed.Memory) → (answer ≡ printed.Memory → now.ended ≡ true) → IsCausedTo fixed now (lines ++ Some asked ∷ [])
  caused_next only all = by now.ended refl
    where
      by : (e : Bool) → now.ended ≡ e → IsCausedTo fixed now (lines ++ Some asked ∷ [])
      by true e = ends (only e) e
      by false e = goes_on (λ wants. let clash : true ≡ false = sym (all wants) ∙ e in let no_such : ⊥ = cc in no_such)
