-- What logs print has the number of each event once.
use Rattle.std.proofs.Common.{◌≡◌, ℕ, suc, ◌+◌, List, [], ◌∷◌, ◌++◌, length, map, Bool, true, false, cond, Some, None, refl, sym, ap, subst, ◌∙◌, arith, append-nil}
use Rattle.std.specs.List.{slice_get, AllByRecursion}
use Rattle.history.specs.Alone.{single_store, IsOn}
use Rattle.history.specs.Answers.{Answer}
use Rattle.history.specs.Bound.{IsWithin}
use Rattle.history.specs.Commit.{Fixed}
use Rattle.history.specs.History.{History}
use Rattle.history.specs.Own as own
use Rattle.history.specs.Own.{own_events}
use Rattle.line_meanings.specs.Meanings.{line_of_bytes, asked_line}
use Rattle.line_meanings.proofs.Laws.{bytes_of_mount}
use Rattle.script_lines.specs.Script.{lines_of, is_blank}
use Rattle.serial_runs.specs.Attempts.{blames_store}
use Rattle.serial_runs.specs.Numbered.{told_by}
use Rattle.serial_runs.specs.Runs.{Script, ends_in_memory, AreOfMount}
use Rattle.serial_runs.specs.Serial.{IsSerialSession}
use Rattle.serial_runs.proofs.Laws.{serial_session}
use Rattle.transcript_laws.specs.Transcript.{mount}
use Rattle.transcript_laws.specs.Numbers.{numbers_of, AreNumbered}
use Rattle.transcript_laws.specs.Outputs.{scripts_of, told_log, IsOutput, told_of_output}
use Rattle.transcript_laws.proofs.Apart.{IsApart, counted_of, run_apart}
use Rattle.transcript_laws.proofs.Checked.{AreCheckedLines, all_checked}
use Rattle.transcript_laws.proofs.Numbers.{IsNumbered, AreOwnNumbers, log_numbers, are_numbered}
use Rattle.transcript_laws.proofs.Runs.{HasNoMemory, HasRunAll, HaveRunAll, run_answers, all_run}

one_on : (blank : Bool) (line : List ℕ) → IsOn mount (cond blank None (Some (line_of_bytes (mount ∷ []) line)))
one_on true line = tt
one_on false line = (bytes_of_mount mount line).0

one_within : (blank : Bool) (line : List ℕ) → IsWithin (cond blank None (Some (line_of_bytes (mount ∷ []) line)))
one_within true line = tt
one_within false line = (bytes_of_mount mount line).1

each_on : (lines : List (List ℕ)) → AllByRecursion (IsOn mount) (map (asked_line (mount ∷ [])) lines)
each_on [] = tt
each_on (line ∷ lines) = (one_on (is_blank line) line, each_on lines)

each_within : (lines : List (List ℕ)) → AllByRecursion IsWithin (map (asked_line (mount ∷ [])) lines)
each_within [] = tt
each_within (line ∷ lines) = (one_within (is_blank line) line, each_within lines)

-- scripts ask for stored arrays of the one mount alone, and bring in no array of their own
pub of_mount : (scripts : List (List ℕ)) → AreOfMount mount (scripts_of scripts)
of_mount [] = record { on_mount = tt; within = tt }
of_mount (script ∷ scripts) = let rest = of_mount scripts in record { on_mount = (each_on (lines_of script), rest.on_mount); within = (each_within (lines_of script), rest.within) }

-- an answer has its numbers
pub each_numbered : (log : List Answer) → AllByRecursion (λ (a : Answer). IsApart a.body) log → AllByRecursion (λ (a : Answer). blames_store a.body ≡ false) log → AllByRecursion IsNumbered log
each_numbered [] apart sound = tt
each_numbered (a ∷ log) apart sound = (record { counted = counted_of a.body apart.0.no_resize sound.0; apart = apart.0 }, each_numbered log apart.1 sound.1)

never_ends : (log : List Answer) → HasNoMemory log → ends_in_memory log ≡ false
never_ends [] none = refl
never_ends (a ∷ []) none = none.0
never_ends (a ∷ b ∷ log) none = never_ends (b ∷ log) none.1

-- the numbers that a session tells are those of its events
log_own : (fixed : Fixed) (history : History) (session : ℕ) (script : Script) (log : List Answer) → HasRunAll fixed history session script log → AreCheckedLines script → IsSerialSession history session script log
    → numbers_of (told_log session 1 script log) ≡ own.numbers_of (own_events session 1 history)
log_own fixed history session script log ran checked serial =
    log_numbers session 1 script log (run_answers fixed session history ran.none ran.run) (each_numbered log (run_apart fixed session history checked ran.run) serial.sound)
    ∙ sym (append-nil (told_by log))
    ∙ ap (λ rest. told_by log ++ rest) (sym (serial.all_opened (never_ends log ran.none)))
    ∙ serial.in_order

-- the transactions of each session are serial, the first being this one
abbrev pub AreSerial : History → ℕ → List Script → List (List Answer) → Type 0
AreSerial history session [] [] = Unit {0}
AreSerial history session [] (log ∷ logs) = ⊥
AreSerial history session (script ∷ scripts) [] = ⊥
AreSerial history session (script ∷ scripts) (log ∷ logs) = IsSerialSession history session script log × AreSerial history (session + 1) scripts logs

each_serial : (history : History) (session : ℕ) (scripts : List Script) (logs : List (List Answer)) → length logs ≡ length scripts
    → ((k : ℕ) (script : Script) (log : List Answer) → slice_get scripts k ≡ Some script → slice_get logs k ≡ Some log → IsSerialSession history (session + k) script log) → AreSerial history session scripts logs
each_serial history session [] [] count serial = tt
each_serial history session [] (log ∷ logs) count serial = absurd (omega (arith, count))
each_serial history session (script ∷ scripts) [] count serial = absurd (omega (arith, count))
each_serial history session (script ∷ scripts) (log ∷ logs) count serial =
    let none : session + 0 ≡ session = omega arith in (
      subst (λ k. IsSerialSession history k script log) none (serial 0 script log refl refl),
      each_serial history (session + 1) scripts logs (omega (arith, count))
          (λ k s l is are. let next : session + suc k ≡ session + 1 + k = omega arith in subst (λ m. IsSerialSession history m s l) next (serial (suc k) s l is are)),
    )

pub all_serial : (scripts : List (List ℕ)) (history : History) (logs : List (List Answer)) → IsOutput scripts history logs → AreSerial history 0 (scripts_of scripts) logs
all_serial scripts history logs is =
    each_serial history 0 (scripts_of scripts) logs is.sessions.count
    (λ k script log there at. let zero_in : k ≡ 0 + k = omega arith in
    subst (λ m. IsSerialSession history m script log) zero_in (serial_session mount (scripts_of scripts) history logs (of_mount scripts) is.sessions is.legal k script log there at))

each_own : (fixed : Fixed) (history : History) (session : ℕ) (scripts : List Script) (logs : List (List Answer)) → HaveRunAll fixed history session scripts logs → AllByRecursion AreCheckedLines scripts → AreSerial history session scripts logs
    → AreOwnNumbers history session scripts logs
each_own fixed history session [] [] ran checked serial = tt
each_own fixed history session [] (log ∷ logs) ran checked serial = absurd ran
each_own fixed history session (script ∷ scripts) [] ran checked serial = absurd ran
each_own fixed history session (script ∷ scripts) (log ∷ logs) ran checked serial =
    (log_own fixed history session script log ran.0 checked.0 serial.0, each_own fixed history (session + 1) scripts logs ran.1 checked.1 serial.1)

pub own_numbers : (scripts : List (List ℕ)) (history : History) (logs : List (List Answer)) → IsOutput scripts history logs → AreOwnNumbers history 0 (scripts_of scripts) logs
own_numbers scripts history logs is =
    each_own (single_store mount) history 0 (scripts_of scripts) logs (all_run (single_store mount) history (scripts_of scripts) logs is.sessions is.whole is.memory) (all_checked scripts is.checked) (all_serial scripts history logs is)

-- part 2
pub outputs_are_numbered : (scripts : List (List ℕ)) (history : History) (logs : List (List Answer)) → IsOutput scripts history logs → AreNumbered (told_of_output scripts logs)
outputs_are_numbered scripts history logs is = are_numbered history (scripts_of scripts) logs is.sessions.owners (own_numbers scripts history logs is)
