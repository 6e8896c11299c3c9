-- What logs print is answered yes.
use Rattle.std.proofs.Common.{◌≡◌, ℕ, zero, suc, ◌+◌, List, [], ◌∷◌, ◌++◌, length, codes, Bool, true, false, Some, None, refl, sym, ap, subst, ◌∙◌, arith}
use Rattle.std.specs.Prelude.{◌&&◌, Contains, option_and_then, unwrap_or}
use Rattle.std.specs.List.{AllByRecursion}
use Rattle.serde_json.specs.Data.{Data}
use Rattle.serde_json.specs.Find.{get, as_bool}
use Rattle.json_forms.specs.Members.{has_exactly}
use Rattle.answer_data.specs.Answers.{answer_data}
use Rattle.history.specs.Alone.{single_store}
use Rattle.history.specs.Answers as body
use Rattle.history.specs.Answers.{Body, Answer}
use Rattle.history.specs.Commit.{Fixed}
use Rattle.history.specs.History.{History}
use Rattle.history.specs.Steps.{is_memory}
use Rattle.serial_runs.specs.Runs.{Script}
use Rattle.transcript_laws.specs.Fitting.{printed_at}
use Rattle.transcript_laws.specs.Transcript.{mount, ScriptLine, Told}
use Rattle.transcript_laws.specs.Unchecked.{is_unchecked, is_memory_answer, IsNotChecked, by_script, by_memory}
use Rattle.transcript_laws.specs.Verdicts.{IsVerdict, is_yes, yes}
use Rattle.transcript_laws.proofs.Cuts.{among, uncut}
use Rattle.transcript_laws.specs.Outputs.{scripts_of, text_of_logs, ArePrintable, told_log, told_logs, IsOutput, told_of_output}
use Rattle.transcript_laws.proofs.Apart.{run_apart}
use Rattle.transcript_laws.proofs.Bodies.{IsCounted}
use Rattle.transcript_laws.proofs.Checked.{AreCheckedLines, all_checked}
use Rattle.transcript_laws.proofs.Cut.{outputs_are_cut}
use Rattle.transcript_laws.proofs.Fit.{printable_outputs_fit}
use Rattle.transcript_laws.proofs.Numbers.{IsNumbered}
use Rattle.transcript_laws.proofs.Numbered.{each_numbered, AreSerial, all_serial}
use Rattle.transcript_laws.proofs.Runs.{HasNoMemory, HaveRunAll, all_run}

-- the object of an answer that isn't want of memory lacks the member
lacks_memory : (n : ℕ) (b : Body) → IsCounted b → is_memory b ≡ false → get (codes "memory") (answer_data (printed_at n b)) ≡ None
lacks_memory n (body.opened name dtype domain events) is other = refl
lacks_memory n (body.viewed name dtype transform) is other = refl
lacks_memory n (body.values origin shape dtype words) is other = refl
lacks_memory n (body.staged cells) is other = refl
lacks_memory n (body.written cells events) is other = refl
lacks_memory n body.begun is other = refl
lacks_memory n (body.committed events) is other = refl
lacks_memory n body.aborted is other = refl
lacks_memory n (body.resized event) is other = absurd is
lacks_memory n (body.resolved name dtype transform) is other = refl
lacks_memory n (body.bad_line text) is other = refl
lacks_memory n (body.bad_spec path None) is other = refl
lacks_memory n (body.bad_spec path (Some events)) is other = refl
lacks_memory n (body.unsupported path) is other = refl
lacks_memory n (body.bad_step step) is other = refl
lacks_memory n (body.unknown_name name) is other = refl
lacks_memory n body.in_transaction is other = refl
lacks_memory n body.no_transaction is other = refl
lacks_memory n (body.unknown_dim step) is other = refl
lacks_memory n (body.repeated_dim step) is other = refl
lacks_memory n (body.refused_step step cause) is other = refl
lacks_memory n (body.refused_view cause) is other = refl
lacks_memory n (body.refused_join cause) is other = refl
lacks_memory n (body.refused_spec path cause events) is other = refl
lacks_memory n (body.not_found at path events) is other = refl
lacks_memory n (body.exists at path events) is other = refl
lacks_memory n (body.path_taken at path events) is other = refl
lacks_memory n (body.mismatch at member path events) is other = refl
lacks_memory n (body.bad_metadata key why events) is other = absurd is
lacks_memory n (body.unbounded dim) is other = refl
lacks_memory n (body.too_many dim) is other = refl
lacks_memory n (body.out_of_range cell dim) is other = refl
lacks_memory n (body.uncovered cell) is other = refl
lacks_memory n (body.bad_values path) is other = refl
lacks_memory n (body.conflict key read now) is other = refl
lacks_memory n (body.shrunk key now) is other = refl
lacks_memory n (body.not_atomic keys) is other = absurd is
lacks_memory n body.not_array is other = refl
lacks_memory n (body.too_many_chunks at) is other = refl
lacks_memory n (body.store_failed event done None) is other = refl
lacks_memory n (body.store_failed event done (Some events)) is other = refl
lacks_memory n (body.damaged key cause) is other = absurd is
lacks_memory n body.memory is other = absurd (cc)

never_both : (b : Bool) → (b && false) ≡ false
never_both true = refl
never_both false = refl

no_memory : (d : Data) → get (codes "memory") d ≡ None → is_memory_answer d ≡ false
no_memory d none =
    ap (λ o. has_exactly (codes "line" ∷ codes "memory" ∷ []) d && unwrap_or (option_and_then as_bool o) false) none ∙ never_both (has_exactly (codes "line" ∷ codes "memory" ∷ []) d)

-- what is told isn't want of memory
abbrev AreOthers : List Told → Type 0
AreOthers told = AllByRecursion (λ (t : Told). is_memory_answer t.answer ≡ false) told

log_others : (session n : ℕ) (lines : Script) (log : List Answer) → AllByRecursion IsNumbered log → HasNoMemory log → AreOthers (told_log session n lines log)
log_others session n [] log numbered none = tt
log_others session n (None ∷ lines) log numbered none = log_others session (n + 1) lines log numbered none
log_others session n (Some asked ∷ lines) [] numbered none = tt
log_others session n (Some asked ∷ lines) (a ∷ log) numbered none =
    (no_memory (answer_data (printed_at a.line a.body)) (lacks_memory a.line a.body numbered.0.counted none.0), log_others session (n + 1) lines log numbered.1 none.1)

others_with : (told more : List Told) → AreOthers told → AreOthers more → AreOthers (told ++ more)
others_with [] more one other = other
others_with (t ∷ told) more one other = (one.0, others_with told more one.1 other)

logs_others : (fixed : Fixed) (history : History) (session : ℕ) (scripts : List Script) (logs : List (List Answer)) → HaveRunAll fixed history session scripts logs → AllByRecursion AreCheckedLines scripts → AreSerial history session scripts logs → AreOthers (told_logs session scripts logs)
logs_others fixed history session [] logs ran checked serial = tt
logs_others fixed history session (script ∷ scripts) [] ran checked serial = tt
logs_others fixed history session (script ∷ scripts) (log ∷ logs) ran checked serial =
    others_with (told_log session 1 script log) (told_logs (session + 1) scripts logs) (log_others session 1 script log (each_numbered log (run_apart fixed session history checked.0 ran.0.run) serial.0.sound) ran.0.none)
    (logs_others fixed history (session + 1) scripts logs ran.1 checked.1 serial.1)

contained : (P : Told → Type 0) (told : List Told) (t : Told) → AllByRecursion P told → Contains told t → P t
contained P [] t all (k, low, is) = absurd (omega (arith, low))
contained P (u ∷ told) t all (zero, low, is) = subst P is all.0
contained P (u ∷ told) t all (suc k, low, is) = contained P told t all.1 (k, omega (arith, low), is)

-- a verdict of yes, by the history's events
pub outputs_are_yes : (scripts : List (List ℕ)) (history : History) (logs : List (List Answer)) → IsOutput scripts history logs → ArePrintable logs → IsVerdict scripts (text_of_logs logs) (yes (length history))
outputs_are_yes scripts history logs is printable =
    let asked = scripts_of scripts in
    let ran = all_run (single_store mount) history asked logs is.sessions is.whole is.memory in
    let others = logs_others (single_store mount) history 0 asked logs ran (all_checked scripts is.checked) (all_serial scripts history logs is) in
    is_yes (λ line. checked line others) (printable_outputs_fit scripts history logs is printable)
  where
    checked : (line : ScriptLine) → AreOthers (told_of_output scripts logs) → ¬ IsNotChecked scripts (text_of_logs logs) line
    checked line others (by_script first) =
        let all : AllByRecursion (λ l. is_unchecked l ≡ false) (first.earlier ++ line ∷ first.later) = subst (AllByRecursion (λ l. is_unchecked l ≡ false)) first.lines is.checked in
        let one : is_unchecked line ≡ false = among (λ l. is_unchecked l ≡ false) first.earlier first.later line all in
        let clash : true ≡ false = sym first.unchecked ∙ one in
        absurd (cc)
    checked line others (by_memory all off) =
        uncut scripts (text_of_logs logs) (told_of_output scripts logs) (outputs_are_cut scripts history logs is printable) (λ t there. contained (λ (u : Told). is_memory_answer u.answer ≡ false) (told_of_output scripts logs) t others there) line off
