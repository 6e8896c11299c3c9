-- What the log of a session shows, line after line, over one mount whose store starts empty.
use Rattle.std.proofs.Common.{◌≡◌, ℕ, ◌+◌, List, [], ◌∷◌, ◌++◌, take, drop, Bool, false, Option, None, refl, sym, ap, subst, ◌∙◌, append_assoc, append-nil, arith}
use Rattle.std.specs.Prelude.{Contains, map}
use Rattle.std.specs.List.{AllByRecursion, flat_map}
use Rattle.std.specs.FinMap as finmap
use Rattle.history.specs.declared.event.Kind.{Kind}
use Rattle.history.specs.History.{History}
use Rattle.history.specs.Alone.{single_store, AreOnMount, IsOn}
use Rattle.history.specs.Answers as body
use Rattle.history.specs.Answers.{Body, Text, Answer}
use Rattle.history.specs.Bound.{IsWithin}
use Rattle.history.specs.Chunks.{Chunk, chunk_of}
use Rattle.history.specs.Commit.{Transaction}
use Rattle.history.specs.Legal.{IsLegal, opens}
use Rattle.history.specs.Lines.{Line}
use Rattle.history.specs.Own.{numbers_of, own_events}
use Rattle.history.specs.Sessions.{Names, SessionState}
use Rattle.history.specs.Staged.{HasTransaction}
use Rattle.history.specs.Steps.{SessionStep, IsSessionRun, no_line, blank_line, next_line, last_line}
use Rattle.history.proofs.AloneSteps.{bare_of}
use Rattle.history.proofs.Commits.{nothing_read}
use Rattle.history.proofs.Quiet.{HasQuiet, step_quiet}
use Rattle.history.proofs.StepsKept.{step_keeps}
use Rattle.history.proofs.StepsKnown.{AreKnown, step_known}
use Rattle.history.proofs.Transactions.{all_with}
use Rattle.serial_runs.specs.Attempts.{Attempt, blames_store, wanting, AreShown, ends, blank, next, last}
use Rattle.serial_runs.specs.Ends.{IsEnd}
use Rattle.serial_runs.specs.Numbered.{is_commit_or_resize, is_fault, events_of, numbers_in, failed_in, opened_in, opened_by, events_in, told_by}
use Rattle.serial_runs.specs.Runs.{ends_in_memory, IsLog}
use Rattle.serial_runs.specs.Serial.{IsFreeIfOnlyWrites, IsSerialSession}
use Rattle.serial_runs.proofs.Commits.{AreJoint}
use Rattle.serial_runs.proofs.Numbers.{own_parts, chosen_in, chosen_in-append, numbers-append}
use Rattle.serial_runs.proofs.Rows.{step_told, step_printed}

-- what lines and answers from some line on show, that each attempt ends rightly, and that no answer blames the store
record AreTold (history : History) (owner : ℕ) (names : Names) (t : Option Transaction) (line : ℕ) (lines : List (Option Line)) (answers : List Answer) : Type 0 where
  attempts : List Attempt
  shown : AreShown history owner names t line lines answers attempts
  right : AllByRecursion (λ (a : Attempt). IsEnd history owner a.transaction a.answer) attempts
  sound : AllByRecursion (λ (a : Answer). blames_store a.body ≡ false) answers

module _ (mount : Text) (owner : ℕ) (history : History) (legal : IsLegal finmap.empty history) (joint : AreJoint history) (on : AreOnMount mount history) where
  run_told : {s last : SessionState} {line : ℕ} {lines : List (Option Line)} {answers : List Answer} (behind : List (Option Line)) → AllByRecursion (IsOn mount) lines → AllByRecursion IsWithin lines → AreKnown (take s.seen history) s.names s.transaction → HasTransaction finmap.empty (take s.seen history) s.transaction
      → HasQuiet owner s.seen history s.transaction → IsSessionRun (single_store mount) owner history s line lines answers last → AreTold history owner s.names (bare_of s.transaction) line (lines ++ behind) answers
  run_told behind lie within known reads quiet no_line = record { attempts = []; shown = ends; right = tt; sound = tt }
  run_told behind lie within known reads quiet (blank_line rest) =
      let more = run_told behind lie.1 within.1 known reads quiet rest in
      record { attempts = more.attempts; shown = blank more.shown; right = more.right; sound = more.sound }
  run_told behind lie within known reads quiet (next_line {s} {m} {last} {line} {asked} {answer} step goes_on rest) =
      let here = step_told mount owner history legal joint on s line asked m answer step lie.0 within.0 known reads quiet goes_on in
      let more =
      run_told behind lie.1 within.1 (step_known (single_store mount) owner history s line asked m answer legal within.0 step known) (step_keeps (single_store mount) owner history s line asked m answer legal step reads) (step_quiet (single_store mount) owner history s line asked m answer step quiet) rest in
      record { attempts = here.attempts ++ more.attempts; shown = next here.shown goes_on more.shown; right = all_with (λ (a : Attempt). IsEnd history owner a.transaction a.answer) here.attempts more.attempts here.ends more.right; sound = (here.sound, more.sound) }
  run_told behind lie within known reads quiet (last_line step) = record { attempts = []; shown = last wanting; right = tt; sound = (refl, tt) }

  -- what a step adds, of the events of some kinds
  abbrev added : (Kind → Bool) → SessionState → SessionState → List ℕ
  added chosen s m = chosen_in chosen (own_events owner (s.seen + 1) (drop s.seen (take m.seen history)))

  -- and what the session has behind it
  abbrev behind_of : (Kind → Bool) → SessionState → List ℕ
  behind_of chosen s = chosen_in chosen (own_events owner (s.seen + 1) (drop s.seen history))

  step_parts : (chosen : Kind → Bool) {s m : SessionState} {line : ℕ} {asked : Line} {answer : Body} → SessionStep (single_store mount) owner history s line asked m answer → behind_of chosen s ≡ added chosen s m ++ behind_of chosen m
  step_parts chosen {s} {m} step =
      ap (chosen_in chosen) (own_parts owner history s.seen m.seen step.rises step.within)
      ∙ chosen_in-append chosen (own_events owner (s.seen + 1) (drop s.seen (take m.seen history))) (own_events owner (m.seen + 1) (drop m.seen history))

  -- each answer prints the events of some kinds that its line added
  abbrev IsPrintedBy : (Kind → Bool) → (Body → List ℕ) → Type 0
  IsPrintedBy chosen prints = (s m : SessionState) (line : ℕ) (asked : Line) (answer : Body) → SessionStep (single_store mount) owner history s line asked m answer → added chosen s m ≡ prints answer

  run_printed : (chosen : Kind → Bool) (prints : Body → List ℕ) → IsPrintedBy chosen prints → {s last : SessionState} {line : ℕ} {lines : List (Option Line)} {answers : List Answer} → IsSessionRun (single_store mount) owner history s line lines answers last
      → behind_of chosen s ≡ flat_map (λ (a : Answer). prints a.body) answers ++ behind_of chosen last
  run_printed chosen prints each no_line = refl
  run_printed chosen prints each (blank_line rest) = run_printed chosen prints each rest
  run_printed chosen prints each (next_line {s} {m} {last} {line} {asked} {answer} {answers = answers} step goes_on rest) =
      step_parts chosen step
      ∙ ap (λ ns. ns ++ behind_of chosen m) (each s m line asked answer step)
      ∙ ap (λ ns. prints answer ++ ns) (run_printed chosen prints each rest)
      ∙ sym (append_assoc (prints answer) (flat_map (λ (a : Answer). prints a.body) answers) (behind_of chosen last))
  run_printed chosen prints each (last_line {s} {last} {line} {asked} step) =
      step_parts chosen step ∙ ap (λ ns. ns ++ behind_of chosen last) (each s last line asked body.memory step ∙ sym (append-nil (prints body.memory)))

  -- all numbers of the events that the session has behind it
  abbrev all_behind : SessionState → List ℕ
  all_behind s = numbers_of (own_events owner (s.seen + 1) (drop s.seen history))

  abbrev all_added : SessionState → SessionState → List ℕ
  all_added s m = numbers_of (own_events owner (s.seen + 1) (drop s.seen (take m.seen history)))

  all_parts : {s m : SessionState} {line : ℕ} {asked : Line} {answer : Body} → SessionStep (single_store mount) owner history s line asked m answer → all_behind s ≡ all_added s m ++ all_behind m
  all_parts {s} {m} step =
      ap numbers_of (own_parts owner history s.seen m.seen step.rises step.within)
      ∙ numbers-append (own_events owner (s.seen + 1) (drop s.seen (take m.seen history))) (own_events owner (m.seen + 1) (drop m.seen history))

  -- the openings of a run's lines: those that the answers print, and those of a last line that wanted memory
  record AreAllOpened (s last : SessionState) (answers : List Answer) : Type 0 where
    unprinted : List ℕ
    parts : behind_of opens s ≡ opened_by answers ++ (unprinted ++ behind_of opens last)
    none : ends_in_memory answers ≡ false → unprinted ≡ []
    all : all_behind s ≡ told_by answers ++ (unprinted ++ all_behind last)

  ends_so : (a : Answer) (answers : List Answer) → ends_in_memory (a ∷ answers) ≡ false → ends_in_memory answers ≡ false
  ends_so a [] is = refl
  ends_so a (b ∷ answers) is = is

  run_opened : {s last : SessionState} {line : ℕ} {lines : List (Option Line)} {answers : List Answer} → IsSessionRun (single_store mount) owner history s line lines answers last → AreAllOpened s last answers
  run_opened no_line = record { unprinted = []; parts = refl; none = λ is. refl; all = refl }
  run_opened (blank_line rest) = run_opened rest
  run_opened (next_line {s} {m} {last} {line} {asked} {answer} {answers = answers} step goes_on rest) =
      let more = run_opened rest in
      let here = step_printed mount owner history legal joint on s line asked m answer step in
      record {
        unprinted = more.unprinted;
        parts =
            step_parts opens step
            ∙ ap (λ ns. ns ++ behind_of opens m) (here.openings goes_on)
            ∙ ap (λ ns. opened_in answer ++ ns) more.parts
            ∙ sym (append_assoc (opened_in answer) (opened_by answers) (more.unprinted ++ behind_of opens last));
        none = λ is. more.none (ends_so (record { line = line; body = answer }) answers is);
        all =
            all_parts step
            ∙ ap (λ ns. ns ++ all_behind m) (here.whole ∙ ap (λ ns. numbers_in answer ++ (ns ++ failed_in answer)) (here.openings goes_on))
            ∙ ap (λ ns. events_in answer ++ ns) more.all
            ∙ sym (append_assoc (events_in answer) (told_by answers) (more.unprinted ++ all_behind last));
      }
  run_opened (last_line {s} {last} {line} {asked} step) =
      let here = step_printed mount owner history legal joint on s line asked last body.memory step in
      record {
        unprinted = added opens s last;
        parts = step_parts opens step;
        none = λ is. absurd (cc);
        all = all_parts step ∙ ap (λ ns. ns ++ all_behind last) (here.whole ∙ append-nil (added opens s last));
      }

  none_there : (c : Chunk) → Contains [] c → ⊥
  none_there c (k, low, e) = absurd (omega arith)

  -- a transaction that only wrote has read no chunk, and so it has no conflict
  free : (a : Attempt) → IsEnd history owner a.transaction a.answer → IsFreeIfOnlyWrites a
  free a end writes key read changed is =
      let conflict = subst (IsEnd history owner a.transaction) is end in
      none_there conflict.chunk (subst (λ xs. Contains (map (chunk_of history) xs) conflict.chunk) (nothing_read [] a.transaction.ops writes) conflict.was_read)

  all_free : (attempts : List Attempt) → AllByRecursion (λ (a : Attempt). IsEnd history owner a.transaction a.answer) attempts → AllByRecursion IsFreeIfOnlyWrites attempts
  all_free [] right = tt
  all_free (a ∷ attempts) right = (free a right.0, all_free attempts right.1)

  -- a session's log shows serial transactions
  pub session_serial : (script : List (Option Line)) (log : List Answer) → AllByRecursion (IsOn mount) script → AllByRecursion IsWithin script → IsLog (single_store mount) history owner script log → IsSerialSession history owner script log
  session_serial script log lie within is =
      let told = run_told is.left (ran_of (IsOn mount) lie) (ran_of IsWithin within) ((λ name view there. absurd (cc)), tt) tt tt is.run in
      let openings = run_opened is.run in
      record {
        attempts = told.attempts;
        shown = subst (λ lines. AreShown history owner (λ name. None) None 1 lines log told.attempts) (sym is.parts) told.shown;
        ends = told.right;
        free = all_free told.attempts told.right;
        sound = told.sound;
        printed = all_printed is_commit_or_resize numbers_in (λ s m line asked answer step. (step_printed mount owner history legal joint on s line asked m answer step).changes);
        failed = all_printed is_fault failed_in (λ s m line asked answer step. (step_printed mount owner history legal joint on s line asked m answer step).faults);
        unprinted = openings.unprinted;
        opened = sym (openings.parts ∙ ap (λ own. opened_by log ++ (openings.unprinted ++ chosen_in opens own)) is.no_more ∙ ap (λ ns. opened_by log ++ ns) (append-nil openings.unprinted));
        all_opened = openings.none;
        in_order = sym (openings.all ∙ ap (λ own. told_by log ++ (openings.unprinted ++ numbers_of own)) is.no_more ∙ ap (λ ns. told_by log ++ ns) (append-nil openings.unprinted));
      }
    where
      all_printed : (chosen : Kind → Bool) (prints : Body → List ℕ) → IsPrintedBy chosen prints → flat_map (λ (a : Answer). prints a.body) log ≡ events_of chosen owner history
      all_printed chosen prints each =
          let by = flat_map (λ (a : Answer). prints a.body) log in
          sym (run_printed chosen prints each is.run ∙ ap (λ own. by ++ chosen_in chosen own) is.no_more ∙ append-nil by)

      front_of : (P : Option Line → Type 0) (xs ys : List (Option Line)) → AllByRecursion P (xs ++ ys) → AllByRecursion P xs
      front_of P [] ys all = tt
      front_of P (x ∷ xs) ys all = (all.0, front_of P xs ys all.1)

      ran_of : (P : Option Line → Type 0) → AllByRecursion P script → AllByRecursion P is.ran
      ran_of P all = front_of P is.ran is.left (subst (AllByRecursion P) is.parts all)
