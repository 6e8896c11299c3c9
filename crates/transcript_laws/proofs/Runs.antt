-- Logs of sessions that ran all lines of their scripts, one after another.
use Rattle.std.proofs.Common.{◌≡◌, ℕ, zero, suc, ◌+◌, inl, inr, List, [], ◌∷◌, ◌++◌, length, drop, true, false, Option, Some, None, refl, sym, ap, subst, ◌∙◌, arith}
use Rattle.std.specs.Prelude.{filter_map, IsTrue}
use Rattle.std.specs.List.{slice_get, AllByRecursion}
use Rattle.history.specs.Answers.{Answer}
use Rattle.history.specs.Commit.{Fixed}
use Rattle.history.specs.History.{History}
use Rattle.history.specs.Lines.{Line}
use Rattle.history.specs.Own.{own_events}
use Rattle.history.specs.Sessions.{SessionState, at_first}
use Rattle.history.specs.Steps.{is_memory, IsSessionRun, no_line, blank_line, next_line, last_line}
use Rattle.serial_runs.specs.Runs.{Script, ends_in_memory, IsLog, IsWholeLog, AreLogs, AreWholeLogs}

-- no answer is want of memory
abbrev pub HasNoMemory : List Answer → Type 0
HasNoMemory log = AllByRecursion (λ (a : Answer). is_memory a.body ≡ false) log

-- the answers are those to the lines that aren't blank, by their numbers; the first line has the number n
abbrev pub AreAnswersTo : ℕ → Script → List Answer → Type 0
AreAnswersTo n [] [] = Unit {0}
AreAnswersTo n [] (a ∷ log) = ⊥
AreAnswersTo n (None ∷ lines) log = AreAnswersTo (n + 1) lines log
AreAnswersTo n (Some asked ∷ lines) [] = ⊥
AreAnswersTo n (Some asked ∷ lines) (a ∷ log) = (a.line ≡ n) × AreAnswersTo (n + 1) lines log

abbrev pub IsBlank : Option Line → Type 0
IsBlank line = line ≡ None

abbrev pub lines_in : Script → List Line
lines_in script = filter_map (λ line. line) script

module _ (fixed : Fixed) (owner : ℕ) (history : History) where
  -- a run of all lines: each line that isn't blank has its answer
  pub run_answers : {s last : SessionState} {n : ℕ} {lines : Script} {log : List Answer} → HasNoMemory log → IsSessionRun fixed owner history s n lines log last → AreAnswersTo n lines log
  run_answers none no_line = tt
  run_answers none (blank_line rest) = run_answers none rest
  run_answers none (next_line step goes_on rest) = (refl, run_answers none.1 rest)
  run_answers none (last_line step) = let wants : true ≡ false = none.0 in absurd (cc)

  blank_run : {s : SessionState} (lines : Script) (n : ℕ) → AllByRecursion IsBlank lines → IsSessionRun fixed owner history s n lines [] s
  blank_run [] n blank = no_line
  blank_run {s} (line ∷ lines) n blank = subst (λ l. IsSessionRun fixed owner history s n (l ∷ lines) [] s) (sym blank.0) (blank_line (blank_run lines (n + 1) blank.1))

  -- blank lines behind it change nothing
  pub run_over_blank : {s last : SessionState} {n : ℕ} {lines : Script} {log : List Answer} (left : Script) → AllByRecursion IsBlank left → HasNoMemory log → IsSessionRun fixed owner history s n lines log last
      → IsSessionRun fixed owner history s n (lines ++ left) log last
  run_over_blank {n = n} left blank none no_line = blank_run left n blank
  run_over_blank left blank none (blank_line rest) = blank_line (run_over_blank left blank none rest)
  run_over_blank left blank none (next_line step goes_on rest) = next_line step goes_on (run_over_blank left blank none.1 rest)
  run_over_blank left blank none (last_line step) = let wants : true ≡ false = none.0 in absurd (cc)

answers_count : (n : ℕ) (lines : Script) (log : List Answer) → AreAnswersTo n lines log → length log ≡ length (lines_in lines)
answers_count n [] [] are = refl
answers_count n [] (a ∷ log) are = absurd are
answers_count n (None ∷ lines) log are = answers_count (n + 1) lines log are
answers_count n (Some asked ∷ lines) [] are = absurd are
answers_count n (Some asked ∷ lines) (a ∷ log) are = let rest = answers_count (n + 1) lines log are.1 in omega (arith, rest)

-- what is left behind as many lines as there are is blank
blank_left : (ran left : Script) → length (lines_in ran) ≡ length (lines_in (ran ++ left)) → AllByRecursion IsBlank left
blank_left [] [] same = tt
blank_left [] (None ∷ left) same = (refl, blank_left [] left same)
blank_left [] (Some asked ∷ left) same = absurd (omega (arith, same))
blank_left (None ∷ ran) left same = blank_left ran left same
blank_left (Some asked ∷ ran) left same = blank_left ran left (omega (arith, same))

ends_not : (log : List Answer) → HasNoMemory log → IsTrue (ends_in_memory log) → ⊥
ends_not [] none is = let wants : false ≡ true = is in absurd (cc)
ends_not (a ∷ []) none is = let wants : is_memory a.body ≡ true = is in let not : is_memory a.body ≡ false = none.0 in absurd (cc)
ends_not (a ∷ b ∷ log) none is = ends_not (b ∷ log) none.1 is

-- the log of a session that ran all lines of its script, and has no event but those that its run adds
pub record HasRunAll (fixed : Fixed) (history : History) (owner : ℕ) (script : Script) (log : List Answer) : Type 0 where
  pub last : SessionState
  pub none : HasNoMemory log
  pub run : IsSessionRun fixed owner history at_first 1 script log last
  pub no_more : own_events owner (last.seen + 1) (drop last.seen history) ≡ []

run_all : (fixed : Fixed) (history : History) (owner : ℕ) (script : Script) (log : List Answer) → IsLog fixed history owner script log → HasNoMemory log → length log ≡ length (lines_in script) → HasRunAll fixed history owner script log
run_all fixed history owner script log is none whole =
    let counted : length log ≡ length (lines_in is.ran) = answers_count 1 is.ran log (run_answers fixed owner history none is.run) in
    let blank = blank_left is.ran is.left (sym counted ∙ whole ∙ ap (λ lines. length (lines_in lines)) is.parts) in
    record {
      last = is.last;
      none = none;
      run = subst (λ lines. IsSessionRun fixed owner history at_first 1 lines log is.last) (sym is.parts) (run_over_blank fixed owner history is.left blank none is.run);
      no_more = is.no_more;
    }

pub whole_run : (fixed : Fixed) (history : History) (owner : ℕ) (script : Script) (log : List Answer) → IsLog fixed history owner script log → HasNoMemory log → IsWholeLog script log → HasRunAll fixed history owner script log
whole_run fixed history owner script log is none (inl whole) = run_all fixed history owner script log is none whole
whole_run fixed history owner script log is none (inr ends) = absurd (ends_not log none ends)

-- so it is of sessions one after another, the first of this number
abbrev pub HaveRunAll : Fixed → History → ℕ → List Script → List (List Answer) → Type 0
HaveRunAll fixed history session [] [] = Unit {0}
HaveRunAll fixed history session [] (log ∷ logs) = ⊥
HaveRunAll fixed history session (script ∷ scripts) [] = ⊥
HaveRunAll fixed history session (script ∷ scripts) (log ∷ logs) = HasRunAll fixed history session script log × HaveRunAll fixed history (session + 1) scripts logs

-- what holds by places holds from one to the next
pub each_run : (fixed : Fixed) (history : History) (session : ℕ) (scripts : List Script) (logs : List (List Answer)) → length logs ≡ length scripts
    → ((k : ℕ) (script : Script) (log : List Answer) → slice_get scripts k ≡ Some script → slice_get logs k ≡ Some log → HasRunAll fixed history (session + k) script log) → HaveRunAll fixed history session scripts logs
each_run fixed history session [] [] count each = tt
each_run fixed history session [] (log ∷ logs) count each = absurd (omega (arith, count))
each_run fixed history session (script ∷ scripts) [] count each = absurd (omega (arith, count))
each_run fixed history session (script ∷ scripts) (log ∷ logs) count each =
    let none : session + 0 ≡ session = omega arith in (
      subst (λ k. HasRunAll fixed history k script log) none (each 0 script log refl refl),
      each_run fixed history (session + 1) scripts logs (omega (arith, count))
          (λ k s l is are. let next : session + suc k ≡ session + 1 + k = omega arith in subst (λ m. HasRunAll fixed history m s l) next (each (suc k) s l is are)),
    )

-- an item of a list
pub at_place : (P : List Answer → Type 0) (logs : List (List Answer)) (k : ℕ) (log : List Answer) → AllByRecursion P logs → slice_get logs k ≡ Some log → P log
at_place P [] k log all is = absurd (cc)
at_place P (l ∷ logs) zero log all is = let same : l ≡ log = cc in subst P same all.0
at_place P (l ∷ logs) (suc k) log all is = at_place P logs k log all.1 is

-- the logs of a run that answered all lines
pub all_run : (fixed : Fixed) (history : History) (scripts : List Script) (logs : List (List Answer)) → AreLogs fixed history scripts logs → AreWholeLogs scripts logs → AllByRecursion HasNoMemory logs
    → HaveRunAll fixed history 0 scripts logs
all_run fixed history scripts logs are whole none =
    each_run fixed history 0 scripts logs are.count
    (λ k script log is at. let zero_in : k ≡ 0 + k = omega arith in
    subst (λ m. HasRunAll fixed history m script log) zero_in
    (whole_run fixed history k script log (are.each k script log is at) (at_place HasNoMemory logs k log none at) (whole k script log is at)))
