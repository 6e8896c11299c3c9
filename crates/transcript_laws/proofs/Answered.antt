-- The answers of logs are those that their lines may have.
use Rattle.std.proofs.Common.{◌≡◌, ℕ, ◌+◌, ◌≤◌, List, [], ◌∷◌, ◌++◌, length, take, drop, Bool, true, false, cond, refl, sym, subst, arith, length-take, length-drop}
use Rattle.std.proofs.lemmas.Grind.{flat_map-append}
use Rattle.std.specs.Prelude.{◌==◌}
use Rattle.std.specs.List.{AllByRecursion}
use Rattle.std.specs.FinMap as finmap
use Rattle.answer_data.specs.Answers.{answer_data}
use Rattle.history.specs.declared.event.Op.{Op}
use Rattle.history.specs.Acts.{act_of}
use Rattle.history.specs.Alone.{single_store, AreOnMount, IsOn}
use Rattle.history.specs.Answers.{Body, Answer}
use Rattle.history.specs.Bound.{IsWithin, IsLineWithin, AreKnownOps}
use Rattle.history.specs.Commit.{Fixed}
use Rattle.history.specs.History.{History}
use Rattle.history.specs.Legal.{IsLegal, viewed}
use Rattle.history.specs.Lines.{Line}
use Rattle.history.specs.Own as own
use Rattle.history.specs.Own.{Numbered, own_events}
use Rattle.history.specs.Refs.{HasKnownRefs}
use Rattle.history.specs.Sessions.{SessionState}
use Rattle.history.specs.Staged.{HasTransaction}
use Rattle.history.specs.Steps.{is_memory, SessionStep, IsSessionRun, no_line, blank_line, next_line, last_line}
use Rattle.history.proofs.ActFits.{act_of-in}
use Rattle.history.proofs.AloneSteps.{bare_of, act_of-bare}
use Rattle.history.proofs.Laws.{view_later, kept_later, step_keeps, step_quiet}
use Rattle.history.proofs.Quiet.{HasQuiet, IsNoChange, seen_quiet}
use Rattle.history.proofs.StepsKnown.{AreKnown, step_known, act_of-known}
use Rattle.serial_runs.specs.Numbered as serial
use Rattle.serial_runs.specs.Runs.{Script}
use Rattle.serial_runs.specs.Serial.{IsSerialSession}
use Rattle.serial_runs.proofs.Commits.{AreJoint}
use Rattle.transcript_laws.specs.Transcript.{mount, Told}
use Rattle.transcript_laws.specs.Fitting.{IsAnswer, printed_at, IsFitting, AreFitting, IsAnswered}
use Rattle.transcript_laws.specs.Numbers.{numbers_in, numbers_of, opened_in}
use Rattle.transcript_laws.specs.Standings.{first_standing}
use Rattle.transcript_laws.specs.Windows.{Window, last_of, before_first, lines_before, window_of}
use Rattle.transcript_laws.specs.Outputs.{scripts_of, HasWords, HaveWords, told_answer, told_log, IsOutput, told_of_output}
use Rattle.transcript_laws.proofs.Answering.{window, answered_fits, answered_marks}
use Rattle.transcript_laws.proofs.Apart.{run_apart}
use Rattle.transcript_laws.proofs.Bodies.{body_numbers}
use Rattle.transcript_laws.proofs.Bounds.{AreUpTo, AreAbove, up_to_later, up_to_with}
use Rattle.transcript_laws.proofs.Checked.{IsCheckedLine, AreCheckedLines, act_checked, all_checked}
use Rattle.transcript_laws.proofs.Claims.{step_states, step_numbers, good_scripts}
use Rattle.transcript_laws.proofs.Marked.{HaveMarks, have_blank}
use Rattle.transcript_laws.proofs.Numbers.{IsNumbered, AreAll, above, of_session}
use Rattle.transcript_laws.proofs.Numbered.{each_numbered, of_mount, AreSerial, all_serial}
use Rattle.transcript_laws.proofs.Places.{AreUnresized}
use Rattle.transcript_laws.proofs.Runs.{HasNoMemory, HasRunAll, HaveRunAll, all_run}
use Rattle.transcript_laws.proofs.States.{standing_of}
use Rattle.transcript_laws.proofs.Whole.{IsGoodScript, none_resized, arrays_on, commits_joint}

-- own events lie before the end of all
own_before : (owner n x : ℕ) (es : History) → n + length es ≤ x + 1 → AllByRecursion (λ (o : Numbered). o.number ≤ x) (own_events owner n es)
own_before owner n x [] low = tt
own_before owner n x (e ∷ es) low = first (e.owner == owner) (own_before owner (n + 1) x es (omega (arith, low)))
  where
    first : (b : Bool) → AllByRecursion (λ (o : Numbered). o.number ≤ x) (own_events owner (n + 1) es) → AllByRecursion (λ (o : Numbered). o.number ≤ x) (cond b (record { number = n; event = e } ∷ own_events owner (n + 1) es) (own_events owner (n + 1) es))
    first true rest = (omega (arith, low), rest)
    first false rest = rest

numbers_up_to : (x : ℕ) (os : List Numbered) → AllByRecursion (λ (o : Numbered). o.number ≤ x) os → AreUpTo x (own.numbers_of os)
numbers_up_to x [] all = tt
numbers_up_to x (o ∷ os) all = (all.0, numbers_up_to x os all.1)

above_with : (x : ℕ) (ns ms : List ℕ) → AreAbove x ns → AreAbove x ms → AreAbove x (ns ++ ms)
above_with x [] ms one other = other
above_with x (n ∷ ns) ms one other = (one.0, above_with x ns ms one.1 other)

above_later : (x y : ℕ) (ns : List ℕ) → x ≤ y → AreAbove y ns → AreAbove x ns
above_later x y [] low all = tt
above_later x y (n ∷ ns) low all = (let first = all.0 in omega (arith, low, first), above_later x y ns low all.1)

each_later : (history : History) (n m : ℕ) → n ≤ m → (ops : List Op) → AllByRecursion (λ op. HasKnownRefs (take n history) (viewed op)) ops → AllByRecursion (λ op. HasKnownRefs (take m history) (viewed op)) ops
each_later history n m low [] all = tt
each_later history n m low (op ∷ ops) all = (view_later history n m low (viewed op) all.0, each_later history n m low ops all.1)

module _ (owner : ℕ) (history : History) (legal : IsLegal finmap.empty history) (still : AreUnresized history) (on : AreOnMount mount history) (joint : AreJoint history) where
  abbrev fixed : Fixed
  fixed = single_store mount

  abbrev added : SessionState → SessionState → List Numbered
  added s next = own_events owner (s.seen + 1) (drop s.seen (take next.seen history))

  added_before : (s : SessionState) (line : ℕ) (asked : Line) (next : SessionState) (answer : Body) → SessionStep fixed owner history s line asked next answer → AllByRecursion (λ (o : Numbered). o.number ≤ next.seen) (added s next)
  added_before s line asked next answer step =
      let low = step.rises in
      own_before owner (s.seen + 1) next.seen (drop s.seen (take next.seen history)) (omega (arith, low, length-take next.seen history, length-drop s.seen (take next.seen history)))

  -- what a run tells lies behind what had been seen
  run_above : {s last : SessionState} {n : ℕ} {lines : Script} {log : List Answer} → AllByRecursion IsNumbered log → HasNoMemory log → IsSessionRun fixed owner history s n lines log last → AreAbove s.seen (numbers_of (told_log owner n lines log))
  run_above numbered none no_line = tt
  run_above numbered none (blank_line rest) = run_above numbered none rest
  run_above numbered none (next_line {s} {m} {last} {line} {asked} {answer} {lines} {answers} step goes_on rest) =
      let numbers = step_numbers owner history legal still on joint s line asked m answer numbered.0 goes_on step in
      above_with s.seen (numbers_in (answer_data (printed_at line answer))) (numbers_of (told_log owner (line + 1) lines answers))
      (subst (AreAbove s.seen) (sym numbers) (above s.seen owner (s.seen + 1) (drop s.seen (take m.seen history)) (omega arith)))
      (above_later s.seen m.seen (numbers_of (told_log owner (line + 1) lines answers)) step.rises (run_above numbered.1 none.1 rest))
  run_above numbered none (last_line step) = let wants : true ≡ false = none.0 in absurd (cc)

  -- the answer to a line fits
  step_fits : (s : SessionState) (line : ℕ) (asked : Line) (next : SessionState) (answer : Body) (earlier more : List Told) → AreUpTo s.seen (numbers_of earlier) → AreAbove next.seen (numbers_of more) → IsLineWithin asked → IsCheckedLine asked
      → AreKnown (take s.seen history) s.names s.transaction → HasTransaction finmap.empty (take s.seen history) s.transaction → HasQuiet owner s.seen history s.transaction → HaveMarks history legal line earlier s.transaction
      → IsNumbered (record { line = line; body = answer }) → is_memory answer ≡ false → SessionStep fixed owner history s line asked next answer
      → IsFitting history (window_of (length history) (bare_of s.transaction) earlier (told_answer owner line asked (record { line = line; body = answer })) more) (standing_of s) (told_answer owner line asked (record { line = line; body = answer }))
  step_fits s line asked next answer earlier more old new parts checked known stands quiet marks numbered goes_on step =
      let b = body_numbers line answer numbered.counted in
      let high = step.within in
      let low = step.rises in
      let acts = act_of-bare s.names s.transaction asked in
      let is =
      answered_fits owner history legal still on joint s next.seen step.rises step.within line earlier (numbers_of more) old new (act_of s.names s.transaction asked) next.names next.transaction answer (added s next) (added_before s line asked next answer step)
      (act_checked s.names s.transaction asked checked) (act_of-in s.names s.transaction asked) (act_of-known (take s.seen history) s.names s.transaction asked known.0 parts) marks
      (λ t here. record {
        stands = subst (HasTransaction finmap.empty (take next.seen history)) here (kept_later finmap.empty history s.seen next.seen s.transaction legal step.rises stands);
        quiet = λ none. seen_quiet owner s.seen history t (omega (arith, low, high)) (subst (HasQuiet owner s.seen history) here quiet) next.seen step.rises step.within (subst (AllByRecursion IsNoChange) (sym none) tt);
        refs = each_later history s.seen next.seen step.rises t.ops (subst (AreKnownOps (take s.seen history)) here known.1);
      })
      goes_on step.row in
      let line_window : Window = window_of (length history) (bare_of s.transaction) earlier (told_answer owner line asked (record { line = line; body = answer })) more in
      let same : line_window ≡ window owner history legal still on joint s next.seen step.rises step.within line earlier (numbers_of more) old new answer =
      λ i. record { from = last_of (numbers_of (lines_before (bare_of s.transaction) earlier) ++ b.opened i); upto = before_first (length history) ((b.done i ++ b.failed i) ++ numbers_of more) } in
      record {
        answer = answer;
        printed = refl;
        object = refl;
        may =
            subst (λ w. IsAnswer history owner w (bare_of s.transaction) line (opened_in (answer_data (printed_at line answer))) (act_of s.names (bare_of s.transaction) asked) answer) (sym same)
            (subst (λ ns. IsAnswer history owner (window owner history legal still on joint s next.seen step.rises step.within line earlier (numbers_of more) old new answer) (bare_of s.transaction) line ns (act_of s.names (bare_of s.transaction) asked) answer) (sym b.opened)
            (subst (λ a. IsAnswer history owner (window owner history legal still on joint s next.seen step.rises step.within line earlier (numbers_of more) old new answer) (bare_of s.transaction) line (serial.opened_in answer) a answer) (sym acts) is));
      }

  -- so do the answers of a run
  run_fits : {s last : SessionState} {n : ℕ} {lines : Script} {log : List Answer} (earlier : List Told) → AllByRecursion (IsOn mount) lines → AllByRecursion IsWithin lines → AreCheckedLines lines → AreUpTo s.seen (numbers_of earlier)
      → AreKnown (take s.seen history) s.names s.transaction → HasTransaction finmap.empty (take s.seen history) s.transaction → HasQuiet owner s.seen history s.transaction → HaveMarks history legal n earlier s.transaction
      → AllByRecursion IsNumbered log → AllByRecursion (λ (a : Answer). HasWords a.body) log → HasNoMemory log → IsSessionRun fixed owner history s n lines log last → AreFitting history earlier (standing_of s) (told_log owner n lines log)
  run_fits earlier lie within checked old known stands quiet marks numbered words none no_line = tt
  run_fits {s = s} {n = n} earlier lie within checked old known stands quiet marks numbered words none (blank_line rest) =
      run_fits earlier lie.1 within.1 checked.1 old known stands quiet (have_blank history legal n earlier s.transaction marks) numbered words none rest
  run_fits earlier lie within checked old known stands quiet marks numbered words none (next_line {s} {m} {last} {line} {asked} {answer} {lines} {answers} step goes_on rest) =
      let told : Told = told_answer owner line asked (record { line = line; body = answer }) in
      let more : List Told = told_log owner (line + 1) lines answers in
      let is = step_states owner history legal still on joint s line asked m answer lie.0 checked.0 known numbered.0 words.0 goes_on step in
      let numbers = step_numbers owner history legal still on joint s line asked m answer numbered.0 goes_on step in
      let now_numbers : AreUpTo m.seen (numbers_in (answer_data (printed_at line answer))) = subst (AreUpTo m.seen) (sym numbers) (numbers_up_to m.seen (added s m) (added_before s line asked m answer step)) in
      let next_old : AreUpTo m.seen (numbers_of (earlier ++ told ∷ [])) =
      subst (AreUpTo m.seen) (sym (flat_map-append (λ (t : Told). numbers_in t.answer) earlier (told ∷ [])))
      (up_to_with m.seen (numbers_of earlier) (numbers_in (answer_data (printed_at line answer)) ++ []) (up_to_later s.seen m.seen (numbers_of earlier) step.rises old) (up_to_with m.seen (numbers_in (answer_data (printed_at line answer))) [] now_numbers tt)) in
      let next_marks =
      answered_marks owner history legal still on joint s m.seen step.rises step.within line earlier (numbers_of more) old (run_above numbered.1 none.1 rest) told (act_of s.names s.transaction asked) m.names m.transaction answer (added s m) refl
      (act_checked s.names s.transaction asked checked.0) (act_of-in s.names s.transaction asked) (act_of-known (take s.seen history) s.names s.transaction asked known.0 within.0) marks step.row in (
        step_fits s line asked m answer earlier more old (run_above numbered.1 none.1 rest) within.0 checked.0 known stands quiet marks numbered.0 goes_on step,
        subst (λ x. AreFitting history (earlier ++ told ∷ []) x more) (sym is.stands)
            (run_fits (earlier ++ told ∷ []) lie.1 within.1 checked.1 next_old (step_known fixed owner history s line asked m answer legal within.0 step known) (step_keeps fixed owner history s line asked m answer legal step stands) (step_quiet fixed owner history s line asked m answer step quiet) next_marks numbered.1 words.1
            none.1 rest),
      )
  run_fits earlier lie within checked old known stands quiet marks numbered words none (last_line step) = let wants : true ≡ false = none.0 in absurd (cc)

-- what a session's lines are answered
abbrev IsFitBy : History → ℕ → List Told → Type 0
IsFitBy history k told = AreFitting history [] first_standing told

module _ (history : History) (legal : IsLegal finmap.empty history) (still : AreUnresized history) (on : AreOnMount mount history) (joint : AreJoint history) where
  session_fits : (session : ℕ) (script : Script) (log : List Answer) → IsGoodScript script → HasRunAll (single_store mount) history session script log → IsSerialSession history session script log → AllByRecursion (λ (a : Answer). HasWords a.body) log
      → AreFitting history [] first_standing (told_log session 1 script log)
  session_fits session script log good ran serial words =
      run_fits session history legal still on joint [] good.on good.within good.checked tt ((λ name view there. absurd (cc)), tt) tt tt tt (each_numbered log (run_apart (single_store mount) session history good.checked ran.run) serial.sound) words ran.none ran.run

  -- what sessions tell one after another
  all_fit : (session : ℕ) (scripts : List Script) (logs : List (List Answer)) → AllByRecursion IsGoodScript scripts → HaveRunAll (single_store mount) history session scripts logs → AreSerial history session scripts logs → HaveWords logs
      → AreAll (IsFitBy history) session scripts logs
  all_fit session [] [] good ran serial words = tt
  all_fit session [] (log ∷ logs) good ran serial words = absurd ran
  all_fit session (script ∷ scripts) [] good ran serial words = absurd ran
  all_fit session (script ∷ scripts) (log ∷ logs) good ran serial words = (
    session_fits session script log good.0 ran.0 serial.0 words.0,
    all_fit (session + 1) scripts logs good.1 ran.1 serial.1 words.1,
  )

-- part 4, where values have words
pub answered_where_words : (scripts : List (List ℕ)) (history : History) (logs : List (List Answer)) → IsOutput scripts history logs → HaveWords logs → IsAnswered (told_of_output scripts logs) history
answered_where_words scripts history logs is words =
    let asked = scripts_of scripts in
    let ran = all_run (single_store mount) history asked logs is.sessions is.whole is.memory in
    let mounted = of_mount scripts in
    let good = good_scripts asked mounted.on_mount mounted.within (all_checked scripts is.checked) in
    let still = none_resized history is.legal asked logs is.sessions.owners good ran in
    let on = arrays_on history is.legal asked logs is.sessions.owners good ran in
    let joint = commits_joint history is.legal asked logs is.sessions.owners good ran in
    let all = all_fit history is.legal still on joint 0 asked logs good ran (all_serial scripts history logs is) words in
    λ k. of_session (IsFitBy history) (λ j. tt) k 0 asked logs all
