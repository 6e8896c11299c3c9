-- The values that logs print have a word of their dtype for each cell.
use Rattle.std.proofs.Common.{◌≡◌, ℕ, ◌+◌, ◌<◌, ◌≤◌, List, [], ◌∷◌, length, map, take, Bool, true, false, cond, Option, Some, None, refl, ap, subst, arith, eq-eqb, eqb-true}
use Rattle.std.specs.Prelude.{◌==◌}
use Rattle.std.specs.List.{AllByRecursion}
use Rattle.std.specs.FinMap as finmap
use Rattle.std.proofs.lemmas.List.Elements.{All-from_recursion}
use Rattle.cells.specs.Numbers.{IsWord}
use Rattle.stack_driver.specs.Conditions.{IsView}
use Rattle.stack_driver.specs.Views.{look_of}
use Rattle.history.specs.declared.event.Op.{Op}
use Rattle.history.specs.Acts.{Act, Asked, act_of}
use Rattle.history.specs.Alone.{single_store, AreOnMount}
use Rattle.history.specs.Answers as body
use Rattle.history.specs.Answers.{Body, Answer}
use Rattle.history.specs.Bound.{AreCommitsKnown, AreKnownOps, IsWithin}
use Rattle.history.specs.Commit.{Fixed, Transaction}
use Rattle.history.specs.CommitRows.{IsCommit, conflicts, is_shrunk, is_split, is_damaged, is_done, is_failed, is_wanting}
use Rattle.history.specs.History.{History}
use Rattle.history.specs.Legal.{IsLegal, AreWritten, viewed}
use Rattle.history.specs.OpenRows.{IsRefusal}
use Rattle.history.specs.Outcomes.{Outcome, path_taken, bad_metadata, exists, mismatch, there, found, not_found, bad_want, made}
use Rattle.history.specs.Leaves.{Leaf}
use Rattle.history.specs.Own.{Numbered, own_events}
use Rattle.history.specs.Refs.{HasKnownRefs}
use Rattle.history.specs.Sessions.{Names, SessionState, reader}
use Rattle.history.specs.Staged.{IsStaged, AreStaged, FitsInLine}
use Rattle.history.specs.Steps.{as_written, IsRow, open_done, open_refused, open_unbuilt, open_failed, open_wanting, view_done, read_done, read_shrunk, read_damaged, read_failed, write_staged, write_done, begin_done, commit_done, abort_done, resize_done, resize_many, resize_split, resize_damaged, resize_failed, resolve_done, resolve_refused, IsAnswered, refused_line, wanting, done_line, IsSessionRun, no_line, blank_line, next_line, last_line}
use Rattle.history.proofs.Asking.{IsAskedBy}
use Rattle.history.proofs.Laws.{view_later, step_staged}
use Rattle.history.proofs.StepsKnown.{AreKnown, step_known, IsActKnown, act_of-known}
use Rattle.line_meanings.specs.Meanings.{line_of_bytes, asked_line}
use Rattle.script_lines.specs.Script.{lines_of, is_blank}
use Rattle.serial_runs.specs.Attempts.{is_ok}
use Rattle.serial_runs.specs.Runs.{Script}
use Rattle.serial_runs.proofs.Refused.{IsRefusedAsked, act_of-refused}
use Rattle.transcript_laws.specs.Transcript.{mount}
use Rattle.transcript_laws.specs.Outputs.{scripts_of, HasWords, HaveWords, IsOutput}
use Rattle.transcript_laws.proofs.Checked.{IsCheckedAct, AreCheckedLines, act_checked, all_checked}
use Rattle.transcript_laws.proofs.Claims.{good_scripts}
use Rattle.transcript_laws.proofs.Commits.{AreKnownEvents, run_known_events, commits_known}
use Rattle.transcript_laws.proofs.Numbered.{of_mount}
use Rattle.transcript_laws.proofs.Runs.{HasNoMemory, HaveRunAll, all_run}
use Rattle.transcript_laws.proofs.Typed.{read_words}
use Rattle.transcript_laws.proofs.Valid.{IsViewOp, AreViewNames, AreViewOps, IsViewAct, act_views, step_views}
use Rattle.transcript_laws.proofs.Views.{AreViewLines, bytes_views, bytes_fit}
use Rattle.transcript_laws.proofs.Whole.{IsGoodScript, arrays_on}

-- an answer that says of no line that it did what it asks for has no values
no_values : (b : Body) → is_ok b ≡ false → HasWords b
no_values (body.values origin shape dtype words) none = absurd (cc)
no_values b none = tt

refused_ok : (node : List ℕ) (leaf : Leaf) (at : ℕ) (numbers : List ℕ) (outcome : Outcome) (answer : Body) → IsRefusal node leaf at numbers outcome answer → is_ok answer ≡ false
refused_ok node leaf at numbers (path_taken other) answer is = ap is_ok is
refused_ok node leaf at numbers (bad_metadata bytes) answer is = ap is_ok is.2
refused_ok node leaf at numbers exists answer is = ap is_ok is
refused_ok node leaf at numbers (mismatch member) answer is = ap is_ok is
refused_ok node leaf at numbers (there array) answer is = absurd is
refused_ok node leaf at numbers (found meta) answer is = absurd is
refused_ok node leaf at numbers not_found answer is = ap is_ok is
refused_ok node leaf at numbers (bad_want member) answer is = ap is_ok is
refused_ok node leaf at numbers (made meta) answer is = absurd is

written_of : (ops : List Op) → AllByRecursion IsStaged ops → AllByRecursion AreWritten ops
written_of [] all = tt
written_of (op ∷ ops) all = (all.0.words, written_of ops all.1)

ops_now : (history : History) (seen m : ℕ) (ops : List Op) → seen ≤ m → AllByRecursion IsViewOp ops → AllByRecursion (λ op. HasKnownRefs (take seen history) (viewed op)) ops → AllByRecursion (λ op. IsView (viewed op) × HasKnownRefs (take m history) (viewed op)) ops
ops_now history seen m [] low valid refs = tt
ops_now history seen m (op ∷ ops) low valid refs = ((valid.0, view_later history seen m low (viewed op) refs.0), ops_now history seen m ops low valid.1 refs.1)

module _ (owner : ℕ) (history : History) (legal : IsLegal finmap.empty history) (commits : AreCommitsKnown history) where
  abbrev fixed : Fixed
  fixed = single_store mount

  module _ (s : SessionState) (m : ℕ) (rises : s.seen ≤ m) (line : ℕ) where
    abbrev now : History
    now = take m history

    reader_ops : (t : Option Transaction) → AreViewOps t → AreKnownOps (take s.seen history) t → AllByRecursion (λ op. IsView (viewed op) × HasKnownRefs now (viewed op)) (reader line t).ops
    reader_ops None views refs = tt
    reader_ops (Some t) views refs = ops_now history s.seen m t.ops rises views refs

    reader_written : (t : Option Transaction) → AreStaged t → AllByRecursion AreWritten (reader line t).ops
    reader_written None all = tt
    reader_written (Some t) all = written_of t.ops all

    commit_words : (t : Transaction) (left : Option Transaction) (answer : Body) (os : List Numbered) → IsCommit fixed owner now t left answer os → HasWords answer
    commit_words t left answer os (conflicts conflict) = tt
    commit_words t left answer os (is_shrunk free shrunk) = tt
    commit_words t left answer os (is_split free present split) = tt
    commit_words t left answer os (is_damaged may damage) = tt
    commit_words t left answer os (is_done n may undamaged) = tt
    commit_words t left answer os (is_failed n count other part changed) = tt
    commit_words t left answer os (is_wanting n count part) = tt

    written_words : (cells : ℕ) (answer : Body) → HasWords answer → HasWords (as_written cells answer)
    written_words cells (body.committed numbers) has = tt
    written_words cells answer has = has

    row_words : (act : Act) (names : Names) (left : Option Transaction) (answer : Body) (os : List Numbered) → IsCheckedAct act → IsActKnown (take s.seen history) act → IsViewAct act → AreViewOps s.transaction → AreKnownOps (take s.seen history) s.transaction → AreStaged s.transaction
        → IsRow fixed owner now s line act names left answer os → HasWords answer
    row_words act names left answer os checked known valid views refs staged (open_done opened built) = tt
    row_words act names left answer os checked known valid views refs staged (open_refused {node = node} {leaf = leaf} opened refused) = no_values answer (refused_ok node leaf refused.at _ refused.outcome answer refused.answered)
    row_words act names left answer os checked known valid views refs staged (open_unbuilt opened built) = tt
    row_words act names left answer os checked known valid views refs staged (open_failed before opened failed) = tt
    row_words act names left answer os checked known valid views refs staged (open_wanting opened) = tt
    row_words act names left answer os checked known valid views refs staged view_done = tt
    row_words act names left answer os checked known valid views refs staged (read_done {view = view} {down = None} {words = words} {marks = marks} read) =
        let is =
        read_words history m legal commits view (reader line s.transaction).ops marks words valid (view_later history s.seen m rises view known) (reader_ops s.transaction views refs) (reader_written s.transaction staged) read.shown in
        (is.0, All-from_recursion (IsWord (look_of view).dtype) words is.1)
    row_words act names left answer os checked known valid views refs staged (read_done {down = Some down} read) = absurd (cc)
    row_words act names left answer os checked known valid views refs staged (read_shrunk shrunk) = tt
    row_words act names left answer os checked known valid views refs staged (read_damaged damaged) = tt
    row_words act names left answer os checked known valid views refs staged (read_failed before fetched) = tt
    row_words act names left answer os checked known valid views refs staged write_staged = tt
    row_words act names left answer os checked known valid views refs staged (write_done {words = words} {left = rest} {answer = inner} commit) = written_words (length words) inner (commit_words _ rest inner os commit)
    row_words act names left answer os checked known valid views refs staged begin_done = tt
    row_words act names left answer os checked known valid views refs staged (commit_done {t = t} commit) = commit_words t left answer os commit
    row_words act names left answer os checked known valid views refs staged abort_done = tt
    row_words act names left answer os checked known valid views refs staged (resize_done n may undamaged) = absurd checked
    row_words act names left answer os checked known valid views refs staged (resize_many many) = absurd checked
    row_words act names left answer os checked known valid views refs staged (resize_split few split) = absurd checked
    row_words act names left answer os checked known valid views refs staged (resize_damaged may damaged) = absurd checked
    row_words act names left answer os checked known valid views refs staged (resize_failed n may on_mount) = absurd checked
    row_words act names left answer os checked known valid views refs staged (resolve_done k first top is) = absurd checked
    row_words act names left answer os checked known valid views refs staged (resolve_refused k first top is) = absurd checked

    answered_words : (asked : Asked) (names : Names) (left : Option Transaction) (answer : Body) (os : List Numbered) → IsRefusedAsked asked → IsAskedBy IsCheckedAct asked → IsAskedBy (IsActKnown (take s.seen history)) asked → IsAskedBy IsViewAct asked → AreViewOps s.transaction
        → AreKnownOps (take s.seen history) s.transaction → AreStaged s.transaction → IsAnswered fixed owner now s line asked names left answer os → HasWords answer
    answered_words asked names left answer os refusal checked known valid views refs staged refused_line = no_values answer refusal.no_ok
    answered_words asked names left answer os refusal checked known valid views refs staged wanting = tt
    answered_words asked names left answer os refusal checked known valid views refs staged (done_line {act = act} row) = row_words act names left answer os checked known valid views refs staged row

  -- the answers of a run
  run_words : {s last : SessionState} {n : ℕ} {lines : Script} {log : List Answer} → AllByRecursion IsWithin lines → AreCheckedLines lines → AreViewLines lines → AllByRecursion FitsInLine lines → AreKnown (take s.seen history) s.names s.transaction → AreViewNames s.names × AreViewOps s.transaction → AreStaged s.transaction
      → HasNoMemory log → IsSessionRun fixed owner history s n lines log last → AllByRecursion (λ (a : Answer). HasWords a.body) log
  run_words within checked parts fitting known views staged none no_line = tt
  run_words within checked parts fitting known views staged none (blank_line rest) = run_words within.1 checked.1 parts fitting.1 known views staged none rest
  run_words within checked parts fitting known views staged none (next_line {s} {m} {last} {line} {asked} {answer} step goes_on rest) = (
    answered_words s m.seen step.rises line (act_of s.names s.transaction asked) m.names m.transaction answer _ (act_of-refused s.names s.transaction asked) (act_checked s.names s.transaction asked checked.0) (act_of-known (take s.seen history) s.names s.transaction asked known.0 within.0)
        (act_views s.names s.transaction asked views.0 checked.0 parts.0) views.1 known.1 staged step.row,
    run_words within.1 checked.1 parts.1 fitting.1 (step_known fixed owner history s line asked m answer legal within.0 step known) (step_views fixed owner history s line asked m answer checked.0 parts.0 views step) (step_staged fixed owner history s line asked m answer fitting.0 step staged) none.1 rest,
  )
  run_words within checked parts fitting known views staged none (last_line step) = let wants : true ≡ false = none.0 in absurd (cc)

-- what scripts ask keeps the rules
script_fits : (lines : List (List ℕ)) → AllByRecursion FitsInLine (map (asked_line (mount ∷ [])) lines)
script_fits [] = tt
script_fits (bytes ∷ lines) = (by (is_blank bytes), script_fits lines)
  where
    by : (b : Bool) → FitsInLine (cond b None (Some (line_of_bytes (mount ∷ []) bytes)))
    by true = tt
    by false = bytes_fit bytes

script_views : (lines : List (List ℕ)) → AreViewLines (map (asked_line (mount ∷ [])) lines)
script_views [] = tt
script_views (bytes ∷ lines) = by (is_blank bytes) (script_views lines)
  where
    by : (b : Bool) → AreViewLines (map (asked_line (mount ∷ [])) lines) → AreViewLines (cond b None (Some (line_of_bytes (mount ∷ []) bytes)) ∷ map (asked_line (mount ∷ [])) lines)
    by true rest = rest
    by false rest = (bytes_views bytes, rest)

-- a script with what it keeps
record IsWholeScript (script : Script) : Type 0 where
  good : IsGoodScript script
  views : AreViewLines script
  fits : AllByRecursion FitsInLine script

whole_scripts : (scripts : List (List ℕ)) → AllByRecursion IsGoodScript (scripts_of scripts) → AllByRecursion IsWholeScript (scripts_of scripts)
whole_scripts [] good = tt
whole_scripts (script ∷ scripts) good = (record { good = good.0; views = script_views (lines_of script); fits = script_fits (lines_of script) }, whole_scripts scripts good.1)

module _ (history : History) (legal : IsLegal finmap.empty history) (on : AreOnMount mount history) where
  -- the events of each session, the first being this one
  known_of : (k session : ℕ) (scripts : List Script) (logs : List (List Answer)) → AllByRecursion IsWholeScript scripts → HaveRunAll (single_store mount) history session scripts logs → session ≤ k → k < session + length scripts → AreKnownEvents history (own_events k 1 history)
  known_of k session [] logs good ran low high = absurd (omega (arith, low, high))
  known_of k session (script ∷ scripts) [] good ran low high = absurd ran
  known_of k session (script ∷ scripts) (log ∷ logs) good ran low high = by (session == k) refl (known_of k (session + 1) scripts logs good.1 ran.1)
    where
      by : (b : Bool) → (session == k) ≡ b → (session + 1 ≤ k → k < session + 1 + length scripts → AreKnownEvents history (own_events k 1 history)) → AreKnownEvents history (own_events k 1 history)
      by true is more =
          subst (λ j. AreKnownEvents history (own_events j 1 history)) (eqb-true session k is)
          (run_known_events session history legal on good.0.good.within good.0.good.checked good.0.views ((λ name view there. absurd (cc)), tt) ((λ name view there. absurd (cc)), tt) ran.0.none ran.0.run ran.0.no_more)
      by false is more =
          let other : session ≡ k → ⊥ = λ same. (let yes_is = eq-eqb session k same in absurd (cc)) in
          more (omega (arith, low, other)) (omega (arith, high))

  all_words : (commits : AreCommitsKnown history) (session : ℕ) (scripts : List Script) (logs : List (List Answer)) → AllByRecursion IsWholeScript scripts → HaveRunAll (single_store mount) history session scripts logs → HaveWords logs
  all_words commits session [] [] good ran = tt
  all_words commits session [] (log ∷ logs) good ran = absurd ran
  all_words commits session (script ∷ scripts) [] good ran = absurd ran
  all_words commits session (script ∷ scripts) (log ∷ logs) good ran = (
    run_words session history legal commits good.0.good.within good.0.good.checked good.0.views good.0.fits ((λ name view there. absurd (cc)), tt) ((λ name view there. absurd (cc)), tt) tt ran.0.none ran.0.run,
    all_words commits (session + 1) scripts logs good.1 ran.1,
  )

-- so do those of an output
pub outputs_have_words : (scripts : List (List ℕ)) (history : History) (logs : List (List Answer)) → IsOutput scripts history logs → HaveWords logs
outputs_have_words scripts history logs is =
    let asked = scripts_of scripts in
    let ran = all_run (single_store mount) history asked logs is.sessions is.whole is.memory in
    let mounted = of_mount scripts in
    let good = good_scripts asked mounted.on_mount mounted.within (all_checked scripts is.checked) in
    let whole = whole_scripts scripts good in
    let on = arrays_on history is.legal asked logs is.sessions.owners good ran in
    let commits = commits_known history (length asked) is.sessions.owners (λ k low. known_of history is.legal on k 0 asked logs whole ran (omega arith) (omega (arith, low))) in
    all_words history is.legal on commits 0 asked logs whole ran
