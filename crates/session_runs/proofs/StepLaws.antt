-- A run of a session, and one line more.
use Rattle.std.proofs.Common.{◌≡◌, ◌∙◌, ℕ, ◌+◌, ◌≤◌, Bool, true, false, List, [], ◌∷◌, ◌++◌, length, take, drop, map, Option, Some, None, refl, sym, ap, subst, arith, length-append}
use Rattle.std.specs.Prelude.{◌≢◌}
use Rattle.std.specs.List.{AllByRecursion}
use Rattle.std.specs.FinMap as finmap
use Rattle.std.proofs.lemmas.List.{map-append}
use Rattle.std.proofs.Math.Seq.{take-length}
use mathlib.Core.List.{IsPrefix}
use Rattle.session_openings.specs.declared.Answer.{Answer}
use Rattle.session_openings.specs.declared.Body.{Body}
use Rattle.session_openings.specs.declared.Body.TheVariants as printed
use Rattle.history.specs.declared.event.Event.{Event}
use Rattle.history.specs.Acts.{act_of}
use Rattle.history.specs.Answers as old
use Rattle.history.specs.Commit.{Fixed, Transaction}
use Rattle.history.specs.History.{History}
use Rattle.history.specs.Lines.{Line}
use Rattle.history.specs.Own.{Numbered, own_events}
use Rattle.history.specs.Sessions.{Names, SessionState, at_first}
use Rattle.history.specs.Steps.{IsAnswered, SessionStep, is_memory, IsSessionRun, no_line, blank_line, next_line, last_line}
use Rattle.history.proofs.Laws.{run_longer}
use Rattle.kv_face.specs.Store.{Contents}
use Rattle.session_openings.specs.Bodies.{body_of, answer_of}
use Rattle.session_runs.specs.Session.{SessionSeen, state_of, numbers_from, MayGoOn, IsLineTold, IsOngoing, IsRunTo, IsSessionOn}
use Rattle.session_runs.proofs.EndRows.{IsWanting, answer_wants}
use Rattle.session_runs.proofs.CauseLaws.{caused_blank, caused_first, caused_next, caused_stops}
use Rattle.session_runs.proofs.Failing.{failed_next}
use Rattle.session_openings.specs.Caused.{IsCausedBy}
use Rattle.session_openings.specs.Failures.{TellsFailures, failures_by, failures_of}
use Rattle.session_openings.specs.Turns.{IsRested, HasPassed, added_by}
use Rattle.session_openings.specs.Commits.{HasSoundTxn}
use Rattle.session_openings.specs.Standing.{session_state, transaction_in}
use Rattle.session_openings.specs.Told.{IsTold}
use Rattle.session_openings.specs.Agreement.{Opening}
use Rattle.session_openings.specs.Answers.{fixed_by}
use Rattle.session_openings.specs.Txn.{TxnSeen}
use Rattle.turn_book.specs.Passes.{BookView, PassView}

-- none of some answers is want of memory
abbrev pub NoneWants : List old.Answer → Type 0
NoneWants answers = AllByRecursion (λ a. is_memory a.body ≡ false) answers

none_more : (xs : List old.Answer) (x : old.Answer) → NoneWants xs → is_memory x.body ≡ false → NoneWants (xs ++ x ∷ [])
none_more [] x all is = (is, tt)
none_more (y ∷ ys) x all is = (all.0, none_more ys x all.1 is)

module _ {fixed : Fixed} {owner : ℕ} {events : History} where
  -- one line more that isn't blank
  run_next : {s last : SessionState} {line : ℕ} {lines : List (Option Line)} {answers : List old.Answer} → IsSessionRun fixed owner events s line lines answers last → NoneWants answers
      → (at : ℕ) (asked : Line) (next : SessionState) (answer : old.Body) → at ≡ line + length lines → SessionStep fixed owner events last at asked next answer → is_memory answer ≡ false
      → IsSessionRun fixed owner events s line (lines ++ Some asked ∷ []) (answers ++ record { line = at; body = answer } ∷ []) next
  run_next {s} {last} {line} no_line none at asked next answer is step goes =
      let same : at ≡ line = is ∙ omega arith in
      subst (λ n. IsSessionRun fixed owner events s n (Some asked ∷ []) (record { line = at; body = answer } ∷ []) next) same (next_line step goes no_line)
  run_next {s} {last} {line} (blank_line {lines = lines} rest) none at asked next answer is step goes = blank_line (run_next rest none at asked next answer (omega (arith, is)) step goes)
  run_next {s} {last} {line} (next_line {lines = lines} one good rest) none at asked next answer is step goes = next_line one good (run_next rest none.1 at asked next answer (omega (arith, is)) step goes)
  run_next (last_line one) none at asked next answer is step goes = absurd (let no_such : ⊥ = cc in no_such)

  -- one that is answered by want of memory
  run_last : {s last : SessionState} {line : ℕ} {lines : List (Option Line)} {answers : List old.Answer} → IsSessionRun fixed owner events s line lines answers last → NoneWants answers
      → (at : ℕ) (asked : Line) (next : SessionState) → at ≡ line + length lines → SessionStep fixed owner events last at asked next old.memory
      → IsSessionRun fixed owner events s line (lines ++ Some asked ∷ []) (answers ++ record { line = at; body = old.memory } ∷ []) next
  run_last {s} {last} {line} no_line none at asked next is step =
      let same : at ≡ line = is ∙ omega arith in
      subst (λ n. IsSessionRun fixed owner events s n (Some asked ∷ []) (record { line = at; body = old.memory } ∷ []) next) same (last_line step)
  run_last {s} {last} {line} (blank_line {lines = lines} rest) none at asked next is step = blank_line (run_last rest none at asked next (omega (arith, is)) step)
  run_last {s} {last} {line} (next_line {lines = lines} one good rest) none at asked next is step = next_line one good (run_last rest none.1 at asked next (omega (arith, is)) step)
  run_last (last_line one) none at asked next is step = absurd (let no_such : ⊥ = cc in no_such)

  -- and one that is blank
  run_blank : {s last : SessionState} {line : ℕ} {lines : List (Option Line)} {answers : List old.Answer} → IsSessionRun fixed owner events s line lines answers last → NoneWants answers
      → IsSessionRun fixed owner events s line (lines ++ None ∷ []) answers last
  run_blank no_line none = blank_line no_line
  run_blank (blank_line rest) none = blank_line (run_blank rest none)
  run_blank (next_line one good rest) none = next_line one good (run_blank rest none.1)
  run_blank (last_line one) none = absurd (let no_such : ⊥ = cc in no_such)

-- a body that isn't printed as want of memory is none
not_memory : (b : old.Body) (answer : Body) → answer ≡ body_of b → answer ≢ printed.Memory → is_memory b ≡ false
not_memory b answer is other = by b is
  where
    by : (b : old.Body) → answer ≡ body_of b → is_memory b ≡ false
    by old.memory e = absurd (other e)
    by b e = refl

module _ (book : BookView Opening) (old_pass new : PassView Event Opening) (passed : HasPassed book old_pass new) (names : Names) (t : Option TxnSeen) (line : ℕ) (asked : Line) (start : Contents) where
  abbrev Fix : Fixed
  Fix = fixed_by book.fixed start

  abbrev Own : History → List Numbered
  Own h = own_events old_pass.number (length old_pass.seen + 1) (drop (length old_pass.seen) h)

  low : length old_pass.seen ≤ length new.seen
  low = let sum = length-append old_pass.seen passed.before.0 in let size = ap length passed.before.1 in omega (arith, sum, size)

  -- a row over what the pass has seen in the end is a step
  step_of : (later : Names) (left : Option Transaction) (answer : old.Body) → IsAnswered Fix old_pass.number new.seen (session_state names (length old_pass.seen) t) line (act_of names (transaction_in t) asked) later left answer (Own new.seen)
      → SessionStep Fix old_pass.number new.seen (session_state names (length old_pass.seen) t) line asked (record { names = later; seen = length new.seen; transaction = left }) answer
  step_of later left answer row = record {
    rises = low;
    within = omega arith;
    row =
        subst (λ h. IsAnswered Fix old_pass.number h (session_state names (length old_pass.seen) t) line (act_of names (transaction_in t) asked) later left answer (Own h)) (sym (take-length new.seen)) row;
  }

  module _ (was : SessionSeen) (pass_is : was.pass ≡ old_pass) (names_are : was.names ≡ names) (txn_is : was.txn ≡ t) (going : was.ended ≡ false) (lines : List (Option Line)) (at : line ≡ length lines + 1)
      (ran : IsRunTo Fix was lines) (later : Names) (after : Option TxnSeen) (answer : Body) (told : IsLineTold book old_pass new names t line asked later after answer) (is_told : book.fixed.store.contents ≡ Some start) where
    go : IsOngoing was ran.answers ran.last
    go = ran.ongoing going

    abbrev At : SessionState
    At = session_state names (length old_pass.seen) t

    stands : ran.last ≡ At
    stands = go.stands ∙ ap (λ p. session_state was.names (length p.seen) was.txn) pass_is ∙ ap (λ ns. session_state ns (length old_pass.seen) was.txn) names_are ∙ ap (λ u. session_state names (length old_pass.seen) u) txn_is

    -- the run over what is seen now
    grown : IsSessionRun Fix old_pass.number new.seen at_first 1 lines ran.answers At
    grown =
        subst (IsSessionRun Fix old_pass.number new.seen at_first 1 lines ran.answers) stands
        (subst (λ h. IsSessionRun Fix old_pass.number h at_first 1 lines ran.answers ran.last) passed.before.1
        (run_longer old_pass.seen passed.before.0 (subst (λ p. IsSessionRun Fix p.number p.seen at_first 1 lines ran.answers ran.last) pass_is ran.run)))

    one : IsTold Fix old_pass.number new.seen At line asked later told.left answer (Own new.seen)
    one = told.told start is_told

    renumbered : (all : List (Option Line)) (answers : List old.Answer) (last : SessionState) → IsSessionRun Fix old_pass.number new.seen at_first 1 all answers last → IsSessionRun Fix new.number new.seen at_first 1 all answers last
    renumbered all answers last run = subst (λ n. IsSessionRun Fix n new.seen at_first 1 all answers last) (sym passed.number) run

    printed_more : (b : old.Body) → answer ≡ body_of b → was.log ++ record { line = line; body = answer } ∷ [] ≡ map answer_of (ran.answers ++ record { line = line; body = b } ∷ [])
    printed_more b is =
        ap (λ xs. xs ++ record { line = line; body = answer } ∷ []) ran.printed ∙ ap (λ x. map answer_of ran.answers ++ record { line = line; body = x } ∷ []) is
        ∙ sym (map-append answer_of ran.answers (record { line = line; body = b } ∷ []))

    abbrev behind : Bool → SessionSeen
    behind ended = record { pass = new; names = later; txn = after; log = was.log ++ record { line = line; body = answer } ∷ []; ended = ended }

    -- the line is answered, and the session goes on
    goes_on : answer ≢ printed.Memory → IsRunTo Fix (behind false) (lines ++ Some asked ∷ [])
    goes_on other =
        let fine = not_memory one.body answer one.printed other in
        let next : SessionState = record { names = later; seen = length new.seen; transaction = told.left } in record {
          answers = ran.answers ++ record { line = line; body = one.body } ∷ [];
          printed = printed_more one.body one.printed;
          last = next;
          run = renumbered _ _ next (run_next grown go.none line asked next one.body (at ∙ omega arith) (step_of later told.left one.body one.row) fine);
          seen = refl;
          ongoing = λ on. record { none = none_more ran.answers (record { line = line; body = one.body }) go.none fine; stands = ap (λ left. record { names = later; seen = length new.seen; transaction = left }) (told.stands other) };
        }

    -- the session ends with it
    ends : answer ≡ printed.Memory → IsRunTo Fix (behind true) (lines ++ Some asked ∷ [])
    ends is =
        let wants : IsWanting Fix old_pass.number new.seen At line (act_of names (transaction_in t) asked) (Own new.seen) =
        answer_wants Fix old_pass.number new.seen At line (act_of names (transaction_in t) asked) later told.left one.body (Own new.seen) one.row (sym one.printed ∙ is) in
        let next : SessionState = record { names = wants.names; seen = length new.seen; transaction = wants.left } in record {
          answers = ran.answers ++ record { line = line; body = old.memory } ∷ [];
          printed = printed_more old.memory is;
          last = next;
          run = renumbered _ _ next (run_last grown go.none line asked next (at ∙ omega arith) (step_of wants.names wants.left old.memory wants.row));
          seen = refl;
          ongoing = λ on. absurd (let no_such : ⊥ = cc in no_such);
        }

-- the numbers of the lines with one more behind them
numbers_more : (n at : ℕ) (lines : List (Option Line)) (line : Line) → at ≡ n + length lines → numbers_from n (lines ++ Some line ∷ []) ≡ numbers_from n lines ++ at ∷ []
numbers_more n at [] line is = ap (λ m. m ∷ []) (sym (is ∙ omega arith))
numbers_more n at (None ∷ lines) line is = numbers_more (n + 1) at lines line (omega (arith, is))
numbers_more n at (Some l ∷ lines) line is = ap (λ ns. n ∷ ns) (numbers_more (n + 1) at lines line (omega (arith, is)))

numbers_blank : (n : ℕ) (lines : List (Option Line)) → numbers_from n (lines ++ None ∷ []) ≡ numbers_from n lines
numbers_blank n [] = refl
numbers_blank n (None ∷ lines) = numbers_blank (n + 1) lines
numbers_blank n (Some l ∷ lines) = ap (λ ns. n ∷ ns) (numbers_blank (n + 1) lines)

-- a session that is given one line more
pub session_next : (book : BookView Opening) (was now : SessionSeen) (lines : List (Option Line)) (line : ℕ) (asked : Line) (answer : Body) → was.ended ≡ false → HasPassed book was.pass now.pass
    → IsLineTold book was.pass now.pass was.names was.txn line asked now.names now.txn answer → now.log ≡ was.log ++ record { line = line; body = answer } ∷ [] → (now.ended ≡ true → answer ≡ printed.Memory) → (answer ≡ printed.Memory → now.ended ≡ true)
    → (now.ended ≡ false → MayGoOn book now.pass now.names now.txn) → TellsFailures (added_by was.pass now.pass) answer
    → IsCausedBy book was.pass now.pass (session_state was.names (length was.pass.seen) was.txn) line asked now.names (transaction_in now.txn) answer → line ≡ length lines + 1 → IsSessionOn book was lines → IsSessionOn book now (lines ++ Some asked ∷ [])
session_next book was now lines line asked answer going passed told logged only all fit tells cause at on = record {
  rested = passed.rested;
  answered =
      ap (map (λ (a : Answer). a.line)) logged ∙ map-append (λ (a : Answer). a.line) was.log (record { line = line; body = answer } ∷ []) ∙ ap (λ ns. ns ++ line ∷ []) on.answered
      ∙ sym (numbers_more 1 line lines asked (at ∙ omega arith));
  failed = failed_next book was.pass now.pass was.log now.log (record { line = line; body = answer }) passed logged tells on.failed;
  caused = caused_next book was now lines line asked answer going passed cause logged at on.caused only all;
  told = λ start is. by start is now.ended refl;
  fit = fit;
}
  where
    by : (start : Contents) → book.fixed.store.contents ≡ Some start → (e : Bool) → now.ended ≡ e → IsRunTo (fixed_by book.fixed start) now (lines ++ Some asked ∷ [])
    by start is true e =
        subst (λ l. IsRunTo (fixed_by book.fixed start) (record now { log = l }) (lines ++ Some asked ∷ [])) (sym logged)
        (subst (λ b. IsRunTo (fixed_by book.fixed start) (record now { log = was.log ++ record { line = line; body = answer } ∷ []; ended = b }) (lines ++ Some asked ∷ [])) (sym e)
        (ends book was.pass now.pass passed was.names was.txn line asked start was refl refl refl going lines at (on.told start is) now.names now.txn answer told is (only e)))
    by start is false e =
        subst (λ l. IsRunTo (fixed_by book.fixed start) (record now { log = l }) (lines ++ Some asked ∷ [])) (sym logged)
        (subst (λ b. IsRunTo (fixed_by book.fixed start) (record now { log = was.log ++ record { line = line; body = answer } ∷ []; ended = b }) (lines ++ Some asked ∷ [])) (sym e)
        (goes_on book was.pass now.pass passed was.names was.txn line asked start was refl refl refl going lines at (on.told start is) now.names now.txn answer told is
        (λ want. let clash : true ≡ false = sym (all want) ∙ e in let no_such : ⊥ = cc in no_such)))

-- a blank line is none
pub session_blank : (book : BookView Opening) (s : SessionSeen) (lines : List (Option Line)) → s.ended ≡ false → IsSessionOn book s lines → IsSessionOn book s (lines ++ None ∷ [])
session_blank book s lines going on = record {
  rested = on.rested;
  answered = on.answered ∙ sym (numbers_blank 1 lines);
  failed = on.failed;
  caused = caused_blank (fixed_by book.fixed finmap.empty) s lines going on.caused;
  told = λ start is.
      let run = on.told start is in record {
        answers = run.answers;
        printed = run.printed;
        last = run.last;
        run = run_blank run.run (run.ongoing going).none;
        seen = run.seen;
        ongoing = run.ongoing;
      };
  fit = on.fit;
}

-- a session before its first line
pub session_first : (book : BookView Opening) (s : SessionSeen) → IsRested book s.pass → s.pass.seen ≡ [] → s.names ≡ (λ name. None) → s.txn ≡ None → s.log ≡ [] → IsSessionOn book s []
session_first book s rested none unbound idle silent = record {
  rested = rested;
  answered = ap (map (λ (a : Answer). a.line)) silent;
  failed = ap failures_by silent ∙ sym (ap (λ h. failures_of (own_events s.pass.number 1 h)) none);
  caused = caused_first (fixed_by book.fixed finmap.empty) s none silent stands;
  told = λ start is. record { answers = []; printed = silent; last = at_first; run = no_line; seen = sym (ap length none); ongoing = λ on. record { none = tt; stands = stands } };
  fit = λ on. record {
    rested = rested;
    views = λ name view is. absurd (let no : None ≡ Some view = ap (λ f. f name) (sym unbound) ∙ is in let no_such : ⊥ = cc in no_such);
    known = λ name view is. absurd (let no : None ≡ Some view = ap (λ f. f name) (sym unbound) ∙ is in let no_such : ⊥ = cc in no_such);
    txn = subst (λ t. HasSoundTxn book.fixed s.pass.seen t) (sym idle) tt;
  };
}
  where
    stands : at_first ≡ state_of s
    stands = ap (λ f. session_state f 0 None) (sym unbound) ∙ ap (λ n. session_state s.names n None) (sym (ap length none)) ∙ ap (λ t. session_state s.names (length s.pass.seen) t) (sym idle)

-- one that has ended without an answer to a line
pub session_stops : (book : BookView Opening) (was now : SessionSeen) (lines : List (Option Line)) → now.pass ≡ was.pass → now.log ≡ was.log → now.ended ≡ true → IsSessionOn book was lines → IsSessionOn book now lines
session_stops book was now lines pass_is log_is ended on = record {
  rested = subst (IsRested book) (sym pass_is) on.rested;
  answered = ap (map (λ (a : Answer). a.line)) log_is ∙ on.answered;
  failed = ap failures_by log_is ∙ on.failed ∙ ap (λ (p : PassView Event Opening). failures_of (own_events p.number 1 p.seen)) (sym pass_is);
  caused = caused_stops (fixed_by book.fixed finmap.empty) was now lines pass_is log_is ended on.caused;
  told = λ start is.
      let run = on.told start is in record {
        answers = run.answers;
        printed = log_is ∙ run.printed;
        last = run.last;
        run = subst (λ p. IsSessionRun (fixed_by book.fixed start) p.number p.seen at_first 1 lines run.answers run.last) (sym pass_is) run.run;
        seen = run.seen ∙ ap (λ p. length p.seen) (sym pass_is);
        ongoing = λ going. absurd (let clash : true ≡ false = sym ended ∙ going in let no_such : ⊥ = cc in no_such);
      };
  fit = λ going. absurd (let clash : true ≡ false = sym ended ∙ going in let no_such : ⊥ = cc in no_such);
}
