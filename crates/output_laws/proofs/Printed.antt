-- What a program's logs print is answered yes.
use Rattle.std.proofs.Common.{ℕ, List, [], ◌∷◌, length, map, ◌+◌, Option}
use Rattle.std.specs.List.{AllByRecursion}
use Rattle.history.specs.History.{History}
use Rattle.history.specs.Alone.{single_store}
use Rattle.history.specs.Answers.{Body}
use Rattle.history.specs.Commit.{Fixed}
use Rattle.history.specs.Lines.{Line}
use Rattle.history.specs.Answers as plain
use Rattle.transcript_laws.specs.Bodies.{body_of, answer_of}
use Rattle.transcript_laws.specs.Outputs.{IsOutput, ArePrintable, text_of_logs, scripts_of}
use Rattle.transcript_laws.specs.Printable.{IsPrintable}
use Rattle.transcript_laws.specs.Verdicts.{IsVerdict, yes}
use Rattle.transcript_laws.proofs.Yes.{outputs_are_yes}
use Rattle.transcript_laws.specs.Transcript.{mount}
use Rattle.transcript_laws.proofs.Apart.{run_apart}
use Rattle.transcript_laws.proofs.Bodies.{IsCounted}
use Rattle.transcript_laws.proofs.Checked.{AreCheckedLines, all_checked}
use Rattle.transcript_laws.proofs.Numbers.{IsNumbered}
use Rattle.transcript_laws.proofs.Numbered.{each_numbered, AreSerial, all_serial}
use Rattle.transcript_laws.proofs.Runs.{HaveRunAll, all_run}
use Rattle.output_laws.specs.Flat.{IsFlat, AreFlat}
use Rattle.output_laws.specs.Typed.{IsFlatBody, IsTypedAnswer, AreTyped}
use Rattle.output_laws.proofs.FlatOutputs.{outputs_are_flat}

-- what is flat is printed flat, where the store that was empty at first isn't blamed
flat_body : (b : Body) → IsFlat b → IsCounted b → IsFlatBody (body_of b)
flat_body (plain.values origin shape dtype words) flat counted = flat
flat_body (plain.bad_metadata key why events) flat counted = absurd counted
flat_body (plain.damaged key cause) flat counted = absurd counted
flat_body b flat counted = tt

abbrev pub AreCounted : List plain.Answer → Type 0
AreCounted log = AllByRecursion (λ (a : plain.Answer). IsCounted a.body) log

numbered_counted : (log : List plain.Answer) → AllByRecursion IsNumbered log → AreCounted log
numbered_counted [] all = tt
numbered_counted (a ∷ log) all = (all.0.counted, numbered_counted log all.1)

pub logs_counted : (fixed : Fixed) (history : History) (session : ℕ) (scripts : List (List (Option Line))) (logs : List (List plain.Answer)) → HaveRunAll fixed history session scripts logs → AllByRecursion AreCheckedLines scripts → AreSerial history session scripts logs → AllByRecursion AreCounted logs
logs_counted fixed history session [] [] ran checked serial = tt
logs_counted fixed history session [] (log ∷ logs) ran checked serial = absurd ran
logs_counted fixed history session (script ∷ scripts) [] ran checked serial = tt
logs_counted fixed history session (script ∷ scripts) (log ∷ logs) ran checked serial =
    (numbered_counted log (each_numbered log (run_apart fixed session history checked.0 ran.0.run) serial.0.sound), logs_counted fixed history (session + 1) scripts logs ran.1 checked.1 serial.1)

log_printable : (log : List plain.Answer) → AllByRecursion (λ (a : plain.Answer). IsFlat a.body) log → AreCounted log → AllByRecursion IsTypedAnswer (map answer_of log) → AllByRecursion (λ (a : plain.Answer). IsPrintable (answer_of a)) log
log_printable [] flat counted typed = tt
log_printable (a ∷ log) flat counted typed = (typed.0.printable (flat_body a.body flat.0 counted.0), log_printable log flat.1 counted.1 typed.1)

logs_printable : (logs : List (List plain.Answer)) → AreFlat logs → AllByRecursion AreCounted logs → AreTyped (map (map answer_of) logs) → ArePrintable logs
logs_printable [] flat counted typed = tt
logs_printable (log ∷ logs) flat counted typed = (log_printable log flat.0 counted.0 typed.0, logs_printable logs flat.1 counted.1 typed.1)

-- printed answers of an output read back
pub printed_outputs_read_back : (scripts : List (List ℕ)) (history : History) (logs : List (List plain.Answer)) → IsOutput scripts history logs → AreTyped (map (map answer_of) logs) → ArePrintable logs
printed_outputs_read_back scripts history logs is typed =
    let asked = scripts_of scripts in
    let ran = all_run (single_store mount) history asked logs is.sessions is.whole is.memory in
    logs_printable logs (outputs_are_flat scripts history logs is) (logs_counted (single_store mount) history 0 asked logs ran (all_checked scripts is.checked) (all_serial scripts history logs is)) typed

-- so they are answered yes
pub printed_outputs_are_yes : (scripts : List (List ℕ)) (history : History) (logs : List (List plain.Answer)) → IsOutput scripts history logs → AreTyped (map (map answer_of) logs) → IsVerdict scripts (text_of_logs logs) (yes (length history))
printed_outputs_are_yes scripts history logs is typed = outputs_are_yes scripts history logs is (printed_outputs_read_back scripts history logs is typed)
