-- What logs print states the history.
use Rattle.std.proofs.Common.{◌≡◌, ℕ, ◌+◌, List, [], ◌∷◌, ◌++◌, take, drop, true, false, sym, ap, subst, ◌∙◌}
use Rattle.std.specs.List.{AllByRecursion}
use Rattle.std.specs.FinMap as finmap
use Rattle.answer_data.specs.Answers.{answer_data}
use Rattle.history.specs.Acts.{act_of}
use Rattle.history.specs.Alone.{single_store, AreOnMount, IsOn, IsLineOn}
use Rattle.history.specs.Answers.{Body, Answer}
use Rattle.history.specs.Bound.{IsWithin}
use Rattle.history.specs.Commit.{Fixed}
use Rattle.history.specs.History.{History}
use Rattle.history.specs.Legal.{IsLegal}
use Rattle.history.specs.Lines.{Line}
use Rattle.history.specs.Own as own
use Rattle.history.specs.Own.{Numbered, own_events}
use Rattle.history.specs.Sessions.{SessionState}
use Rattle.history.specs.Steps.{is_memory, SessionStep, IsSessionRun, no_line, blank_line, next_line, last_line}
use Rattle.history.proofs.ActFits.{act_of-in}
use Rattle.history.proofs.AloneMount.{act_of-fit}
use Rattle.history.proofs.AloneSteps.{act_of-bare}
use Rattle.history.proofs.StepsKnown.{AreKnown, step_known}
use Rattle.serial_runs.specs.Numbered as serial
use Rattle.serial_runs.specs.Numbered.{IsEvent}
use Rattle.serial_runs.specs.Runs.{Script}
use Rattle.serial_runs.specs.Serial.{IsSerialSession}
use Rattle.serial_runs.proofs.Commits.{AreJoint}
use Rattle.serial_runs.proofs.Numbers.{own_of_step}
use Rattle.serial_runs.proofs.Rows.{step_printed}
use Rattle.transcript_laws.specs.Transcript.{mount, Told}
use Rattle.transcript_laws.specs.Claimed.{stated, stated_asked, IsStated, AreStated, IsClaimed}
use Rattle.transcript_laws.specs.Fitting.{printed_at}
use Rattle.transcript_laws.specs.Numbers.{numbers_in}
use Rattle.transcript_laws.specs.Standings.{first_standing, standing_step, standing_asked}
use Rattle.transcript_laws.specs.Outputs.{scripts_of, HasWords, HaveWords, told_answer, told_log, IsOutput, told_of_output}
use Rattle.transcript_laws.proofs.Apart.{run_apart}
use Rattle.transcript_laws.proofs.Checked.{IsCheckedLine, AreCheckedLines, act_checked, all_checked}
use Rattle.transcript_laws.proofs.Numbers.{IsNumbered, AreAll, answer_numbers, numbers_count, of_session}
use Rattle.transcript_laws.proofs.Numbered.{each_numbered, of_mount, own_numbers, AreSerial, all_serial}
use Rattle.transcript_laws.proofs.Places.{AreUnresized}
use Rattle.transcript_laws.proofs.Runs.{HasNoMemory, HasRunAll, HaveRunAll, all_run}
use Rattle.transcript_laws.proofs.States.{standing_of, answered_states}
use Rattle.transcript_laws.proofs.Whole.{IsGoodScript, none_resized, arrays_on, commits_joint}

module _ (owner : ℕ) (history : History) (legal : IsLegal finmap.empty history) (still : AreUnresized history) (on : AreOnMount mount history) (joint : AreJoint history) where
  abbrev fixed : Fixed
  fixed = single_store mount

  -- an answer prints the numbers of its line's events
  pub step_numbers : (s : SessionState) (line : ℕ) (asked : Line) (next : SessionState) (answer : Body) → IsNumbered (record { line = line; body = answer }) → is_memory answer ≡ false → SessionStep fixed owner history s line asked next answer
      → numbers_in (answer_data (printed_at line answer)) ≡ own.numbers_of (own_events owner (s.seen + 1) (drop s.seen (take next.seen history)))
  step_numbers s line asked next answer numbered goes_on step =
      let printed = step_printed mount owner history legal joint on s line asked next answer step in
      answer_numbers (record { line = line; body = answer }) numbered
      ∙ sym (printed.whole ∙ ap (λ ns. serial.numbers_in answer ++ (ns ++ serial.failed_in answer)) (printed.openings goes_on))

  -- what a line states, and how the session stands behind it
  pub record StepStates (s : SessionState) (line : ℕ) (asked : Line) (next : SessionState) (answer : Body) : Type 0 where
    pub stated_is : IsStated history (standing_of s) (told_answer owner line asked (record { line = line; body = answer }))
    pub stands : standing_step history (standing_of s) (told_answer owner line asked (record { line = line; body = answer })) ≡ standing_of next

  pub step_states : (s : SessionState) (line : ℕ) (asked : Line) (next : SessionState) (answer : Body) → IsLineOn mount asked → IsCheckedLine asked → AreKnown (take s.seen history) s.names s.transaction → IsNumbered (record { line = line; body = answer }) → HasWords answer
      → is_memory answer ≡ false → SessionStep fixed owner history s line asked next answer → StepStates s line asked next answer
  step_states s line asked next answer lies checked known numbered words goes_on step =
      let os : List Numbered = own_events owner (s.seen + 1) (drop s.seen (take next.seen history)) in
      let acts = act_of-bare s.names s.transaction asked in
      let is =
      answered_states owner history legal still on next.seen s line (act_of s.names s.transaction asked) next.names next.transaction answer os (take s.seen history) (act_checked s.names s.transaction asked checked) (act_of-in s.names s.transaction asked)
      (act_of-fit mount (take s.seen history) s.names s.transaction asked known.0 lies) numbered.counted words goes_on step.row in
      let all : stated history (standing_of s) (told_answer owner line asked (record { line = line; body = answer })) ≡ os =
      ap (λ x. stated_asked history owner line x (answer_data (printed_at line answer))) acts ∙ is.stated in
      let numbers = step_numbers s line asked next answer numbered goes_on step in
      record {
        stated_is = record {
          numbers = ap own.numbers_of all ∙ sym numbers;
          events = subst (AllByRecursion (λ (o : Numbered). IsEvent history o.number o.event)) (sym all) (own_of_step owner history s.seen next.seen step.rises step.within);
        };
        stands = ap (λ x. standing_asked history (standing_of s) line x (answer_data (printed_at line answer))) acts ∙ is.stands;
      }

  pub run_stated : {s last : SessionState} {n : ℕ} {lines : Script} {log : List Answer} → AllByRecursion (IsOn mount) lines → AllByRecursion IsWithin lines → AreCheckedLines lines → AreKnown (take s.seen history) s.names s.transaction → AllByRecursion IsNumbered log
      → AllByRecursion (λ (a : Answer). HasWords a.body) log → HasNoMemory log → IsSessionRun fixed owner history s n lines log last → AreStated history (standing_of s) (told_log owner n lines log)
  run_stated lie within checked known numbered words none no_line = tt
  run_stated lie within checked known numbered words none (blank_line rest) = run_stated lie.1 within.1 checked.1 known numbered words none rest
  run_stated lie within checked known numbered words none (next_line {s} {m} {last} {line} {asked} {answer} {lines} {answers} step goes_on rest) =
      let is = step_states s line asked m answer lie.0 checked.0 known numbered.0 words.0 goes_on step in (
        is.stated_is,
        subst (λ x. AreStated history x (told_log owner (line + 1) lines answers)) (sym is.stands)
            (run_stated lie.1 within.1 checked.1 (step_known fixed owner history s line asked m answer legal within.0 step known) numbered.1 words.1 none.1 rest),
      )
  run_stated lie within checked known numbered words none (last_line step) = let wants : true ≡ false = none.0 in absurd (cc)

-- what a session's lines state
abbrev IsStatedBy : History → ℕ → List Told → Type 0
IsStatedBy history k told = AreStated history first_standing told

pub good_scripts : (scripts : List Script) → AllByRecursion (AllByRecursion (IsOn mount)) scripts → AllByRecursion (AllByRecursion IsWithin) scripts → AllByRecursion AreCheckedLines scripts → AllByRecursion IsGoodScript scripts
good_scripts [] on within checked = tt
good_scripts (script ∷ scripts) on within checked = (record { on = on.0; within = within.0; checked = checked.0 }, good_scripts scripts on.1 within.1 checked.1)

module _ (history : History) (legal : IsLegal finmap.empty history) (still : AreUnresized history) (on : AreOnMount mount history) (joint : AreJoint history) where
  session_stated : (session : ℕ) (script : Script) (log : List Answer) → IsGoodScript script → HasRunAll (single_store mount) history session script log → IsSerialSession history session script log → AllByRecursion (λ (a : Answer). HasWords a.body) log
      → AreStated history first_standing (told_log session 1 script log)
  session_stated session script log good ran serial words =
      run_stated session history legal still on joint good.on good.within good.checked ((λ name view there. absurd (cc)), tt) (each_numbered log (run_apart (single_store mount) session history good.checked ran.run) serial.sound) words ran.none ran.run

  -- what sessions tell one after another
  all_stated : (session : ℕ) (scripts : List Script) (logs : List (List Answer)) → AllByRecursion IsGoodScript scripts → HaveRunAll (single_store mount) history session scripts logs → AreSerial history session scripts logs → HaveWords logs
      → AreAll (IsStatedBy history) session scripts logs
  all_stated session [] [] good ran serial words = tt
  all_stated session [] (log ∷ logs) good ran serial words = absurd ran
  all_stated session (script ∷ scripts) [] good ran serial words = absurd ran
  all_stated session (script ∷ scripts) (log ∷ logs) good ran serial words = (
    session_stated session script log good.0 ran.0 serial.0 words.0,
    all_stated (session + 1) scripts logs good.1 ran.1 serial.1 words.1,
  )

-- part 3, where values have words
pub stated_where_words : (scripts : List (List ℕ)) (history : History) (logs : List (List Answer)) → IsOutput scripts history logs → HaveWords logs → IsClaimed (told_of_output scripts logs) history
stated_where_words scripts history logs is words =
    let asked = scripts_of scripts in
    let ran = all_run (single_store mount) history asked logs is.sessions is.whole is.memory in
    let mounted = of_mount scripts in
    let good = good_scripts asked mounted.on_mount mounted.within (all_checked scripts is.checked) in
    let still = none_resized history is.legal asked logs is.sessions.owners good ran in
    let on = arrays_on history is.legal asked logs is.sessions.owners good ran in
    let joint = commits_joint history is.legal asked logs is.sessions.owners good ran in
    let all = all_stated history is.legal still on joint 0 asked logs good ran (all_serial scripts history logs is) words in
    record {
      sessions = λ k. of_session (IsStatedBy history) (λ j. tt) k 0 asked logs all;
      count = numbers_count history asked logs is.sessions.owners (own_numbers scripts history logs is);
      legal = is.legal;
    }
