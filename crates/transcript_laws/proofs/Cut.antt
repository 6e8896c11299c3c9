-- What logs print is cut into their answers.
use Rattle.std.proofs.Common.{◌≡◌, ℕ, ◌+◌, List, [], ◌∷◌, ◌++◌, map, Bool, true, false, cond, Some, None, refl, sym, ap, ap₂, subst, ◌∙◌}
use Rattle.std.proofs.lemmas.Grind.{flat_map-append}
use Rattle.std.specs.List.{flat_map, AllByRecursion}
use Rattle.answer_data.specs.Text.{answer_text}
use Rattle.answer_data.specs.Answers.{answer_data}
use Rattle.answer_data.specs.Lines.{IsAnswerText}
use Rattle.answer_data.specs.Printable.{IsPrintable}
use Rattle.answer_data.proofs.Laws.{reads_back}
use Rattle.history.specs.Answers.{Answer}
use Rattle.history.specs.Commit.{Fixed}
use Rattle.history.specs.History.{History}
use Rattle.line_meanings.specs.Bodies.{answer_of, text_of}
use Rattle.line_meanings.specs.Meanings.{line_of_bytes, asked_line, asked_by}
use Rattle.script_lines.specs.Script.{lines_of, is_blank}
use Rattle.serial_runs.specs.Runs.{Script}
use Rattle.transcript_laws.specs.Transcript.{mount, ScriptLine, lines_from, lines_of_scripts, Told, IsToldOf, AreToldOf, IsCut}
use Rattle.transcript_laws.specs.Outputs.{scripts_of, text_of_logs, ArePrintable, told_answer, told_log, told_logs, IsOutput, told_of_output}
use Rattle.transcript_laws.proofs.Runs.{AreAnswersTo, HaveRunAll, run_answers, all_run}

abbrev IsReadBack : Answer → Type 0
IsReadBack a = IsPrintable (answer_of a)

-- answers to the lines of scripts, session by session
abbrev pub AreAllAnswers : List Script → List (List Answer) → Type 0
AreAllAnswers [] [] = Unit {0}
AreAllAnswers [] (log ∷ logs) = ⊥
AreAllAnswers (script ∷ scripts) [] = ⊥
AreAllAnswers (script ∷ scripts) (log ∷ logs) = AreAnswersTo 1 script log × AreAllAnswers scripts logs

pub all_answers : (fixed : Fixed) (history : History) (session : ℕ) (scripts : List Script) (logs : List (List Answer)) → HaveRunAll fixed history session scripts logs → AreAllAnswers scripts logs
all_answers fixed history session [] [] ran = tt
all_answers fixed history session [] (log ∷ logs) ran = absurd ran
all_answers fixed history session (script ∷ scripts) [] ran = absurd ran
all_answers fixed history session (script ∷ scripts) (log ∷ logs) ran = (run_answers fixed session history ran.0.none ran.0.run, all_answers fixed history (session + 1) scripts logs ran.1)

-- an answer is told of its line
told_of_line : (session n : ℕ) (bytes : List ℕ) (a : Answer) → a.line ≡ n → IsReadBack a
    → IsToldOf (record { session = session; number = n; bytes = bytes }) (told_answer session n (line_of_bytes (mount ∷ []) bytes) a)
told_of_line session n bytes a is printable = record {
  session = refl;
  number = refl;
  asked = refl;
  answer = subst (λ m. IsAnswerText m (answer_text (answer_of a)) (answer_data (answer_of a))) is (reads_back (answer_of a) printable);
}

-- one line more, blank or not
by_blank : (session n : ℕ) (bytes : List ℕ) (rest : List ScriptLine) (lines : Script) (blank : Bool) (log : List Answer) → ((l : List Answer) → AreAnswersTo (n + 1) lines l → AllByRecursion IsReadBack l → AreToldOf rest (told_log session (n + 1) lines l))
    → AreAnswersTo n (cond blank None (Some (line_of_bytes (mount ∷ []) bytes)) ∷ lines) log → AllByRecursion IsReadBack log
    → AreToldOf (cond blank rest (record { session = session; number = n; bytes = bytes } ∷ rest)) (told_log session n (cond blank None (Some (line_of_bytes (mount ∷ []) bytes)) ∷ lines) log)
by_blank session n bytes rest lines true log more are printable = more log are printable
by_blank session n bytes rest lines false [] more are printable = absurd are
by_blank session n bytes rest lines false (a ∷ log) more are printable = (told_of_line session n bytes a are.0 printable.0, more log are.1 printable.1)

told_each : (session n : ℕ) (lines : List (List ℕ)) (log : List Answer) → AreAnswersTo n (map (asked_line (mount ∷ [])) lines) log → AllByRecursion IsReadBack log → AreToldOf (lines_from session n lines) (told_log session n (map (asked_line (mount ∷ [])) lines) log)
told_each session n [] [] are printable = tt
told_each session n [] (a ∷ log) are printable = absurd are
told_each session n (bytes ∷ lines) log are printable =
    by_blank session n bytes (lines_from session (n + 1) lines) (map (asked_line (mount ∷ [])) lines) (is_blank bytes) log (told_each session (n + 1) lines) are printable

told_both : (lines more : List ScriptLine) (told other : List Told) → AreToldOf lines told → AreToldOf more other → AreToldOf (lines ++ more) (told ++ other)
told_both [] more [] other is are = are
told_both [] more (t ∷ told) other is are = absurd is
told_both (line ∷ lines) more [] other is are = absurd is
told_both (line ∷ lines) more (t ∷ told) other is are = (is.0, told_both lines more told other is.1 are)

told_all : (session : ℕ) (scripts : List (List ℕ)) (logs : List (List Answer)) → AreAllAnswers (scripts_of scripts) logs → ArePrintable logs → AreToldOf (lines_of_scripts session scripts) (told_logs session (scripts_of scripts) logs)
told_all session [] [] are printable = tt
told_all session [] (log ∷ logs) are printable = absurd are
told_all session (script ∷ scripts) [] are printable = absurd are
told_all session (script ∷ scripts) (log ∷ logs) are printable =
    told_both (lines_from session 1 (lines_of script)) (lines_of_scripts (session + 1) scripts) (told_log session 1 (asked_by (mount ∷ []) script) log) (told_logs (session + 1) (scripts_of scripts) logs)
    (told_each session 1 (lines_of script) log are.0 printable.0) (told_all (session + 1) scripts logs are.1 printable.1)

abbrev texts : List Told → List ℕ
texts told = flat_map (λ (t : Told). t.text) told

-- what a log prints are the texts that are told
text_told : (session n : ℕ) (lines : Script) (log : List Answer) → AreAnswersTo n lines log → text_of log ≡ texts (told_log session n lines log)
text_told session n [] [] are = refl
text_told session n [] (a ∷ log) are = absurd are
text_told session n (None ∷ lines) log are = text_told session (n + 1) lines log are
text_told session n (Some asked ∷ lines) [] are = absurd are
text_told session n (Some asked ∷ lines) (a ∷ log) are = ap (λ text. answer_text (answer_of a) ++ text) (text_told session (n + 1) lines log are.1)

texts_told : (session : ℕ) (scripts : List Script) (logs : List (List Answer)) → AreAllAnswers scripts logs → text_of_logs logs ≡ texts (told_logs session scripts logs)
texts_told session [] [] are = refl
texts_told session [] (log ∷ logs) are = absurd are
texts_told session (script ∷ scripts) [] are = absurd are
texts_told session (script ∷ scripts) (log ∷ logs) are =
    ap₂ (λ x y. x ++ y) (text_told session 1 script log are.0) (texts_told (session + 1) scripts logs are.1)
    ∙ sym (flat_map-append (λ (t : Told). t.text) (told_log session 1 script log) (told_logs (session + 1) scripts logs))

-- part 1
pub outputs_are_cut : (scripts : List (List ℕ)) (history : History) (logs : List (List Answer)) → IsOutput scripts history logs → ArePrintable logs → IsCut scripts (text_of_logs logs) (told_of_output scripts logs)
outputs_are_cut scripts history logs is printable =
    let are = all_answers _ history 0 (scripts_of scripts) logs (all_run _ history (scripts_of scripts) logs is.sessions is.whole is.memory) in
    record { each = told_all 0 scripts logs are printable; whole = texts_told 0 (scripts_of scripts) logs are }
