-- Over one empty store that is called `memory`, a checker answers yes to what is printed.
use Rattle.std.proofs.Common.{◌≡◌, ◌∙◌, ℕ, zero, suc, false, List, [], ◌∷◌, ◌++◌, length, map, Option, Some, inl, refl, sym, ap, subst, arith}
use Rattle.std.specs.FinMap as finmap
use Rattle.std.specs.List.{slice_get, list_any, AllByRecursion}
use Rattle.output_laws.specs.Alone.{single_store}
use Rattle.output_laws.specs.Answers as old
use Rattle.output_laws.specs.Commit.{Key, are_together}
use Rattle.output_laws.specs.History.{History}
use Rattle.output_laws.specs.Steps.{is_memory}
use Rattle.kv_face.specs.Store.{Contents}
use Rattle.kv_mounts.specs.Parts.{Part, below, names_of}
use Rattle.kv_mounts.specs.Union.{union_of, prefixes_of, change_count_of}
use Rattle.output_laws.specs.Outputs as outputs
use Rattle.output_laws.specs.Outputs.{IsOutput, scripts_of}
use Rattle.output_laws.specs.Transcript.{mount}
use Rattle.output_laws.specs.Typed.{AreTyped}
use Rattle.output_laws.specs.Verdicts.{IsVerdict, yes}
use Rattle.output_laws.specs.declared.Answer.{Answer}
use Rattle.output_laws.proofs.Laws.{printed_outputs_are_yes}
use Rattle.run_words.specs.Options.{Text}
use Rattle.serial_runs.specs.Runs.{IsRunOf, IsWholeLog, AreWholeLogs}
use Rattle.serial_runs.proofs.Laws.{run_alike}
use Rattle.session_workers.specs.Bodies.{answer_of}
use Rattle.session_workers.specs.Finished.{AreWhole, asked_by}
use Rattle.session_workers.specs.MountRuns.{fixed_over, IsPrintedRun, IsEmptyMount}
use Rattle.session_workers.proofs.Joined.{joined}
use Rattle.script_runner.proofs.Single.{none_of, all_good, as_many}
use Rattle.script_runner.specs.Promises.{HasRun, HasRunGiven, HasRunTexts, IsAnsweredYes, IsYesOutcome}
use Rattle.script_runner.specs.declared.outcome.Outcome.{Outcome}
use Rattle.script_streams.specs.Standing as standing
use Rattle.script_streams.specs.Standing.{holds_memory}
use Rattle.script_streams.specs.Writing.{text_of_logs}

abbrev Logs : Type 0
Logs = List (List old.Answer)

-- where no printed answer is want of memory, none of the history's is
logs_good : (answers : Logs) → holds_memory (map (map answer_of) answers) ≡ false → AllByRecursion (AllByRecursion (λ (a : old.Answer). is_memory a.body ≡ false)) answers
logs_good [] e = tt
logs_good (log ∷ logs) e = let parts = none_of (list_any standing.is_memory (map answer_of log)) (holds_memory (map (map answer_of) logs)) e in (all_good log parts.0, logs_good logs parts.1)

-- nor is one of one log
log_good : (answers : Logs) (k : ℕ) (log : List old.Answer) → holds_memory (map (map answer_of) answers) ≡ false → slice_get answers k ≡ Some log → list_any standing.is_memory (map answer_of log) ≡ false
log_good [] k log e at = absurd (let no_such : ⊥ = cc in no_such)
log_good (l ∷ logs) zero log e at =
    let same : l ≡ log = cc in
    subst (λ x. list_any standing.is_memory (map answer_of x) ≡ false) same (none_of (list_any standing.is_memory (map answer_of l)) (holds_memory (map (map answer_of) logs)) e).0
log_good (l ∷ logs) (suc k) log e at = log_good logs k log (none_of (list_any standing.is_memory (map answer_of l)) (holds_memory (map (map answer_of) logs)) e).1 at

-- what stands at a place of a mapped list
get_map : {A B : Type 0} (f : A → B) (xs : List A) (k : ℕ) (y : B) → slice_get (map f xs) k ≡ Some y → (x : A) × ((slice_get xs k ≡ Some x) × (f x ≡ y))
get_map f [] k y at = absurd (let no_such : ⊥ = cc in no_such)
get_map f (x ∷ xs) zero y at = (x, (refl, (let same : f x ≡ y = cc in same)))
get_map f (x ∷ xs) (suc k) y at = get_map f xs k y at

map_get : {A B : Type 0} (f : A → B) (xs : List A) (k : ℕ) (x : A) → slice_get xs k ≡ Some x → slice_get (map f xs) k ≡ Some (f x)
map_get f [] k x at = absurd (let no_such : ⊥ = cc in no_such)
map_get f (z ∷ xs) zero x at = let same : z ≡ x = cc in ap (λ w. Some (f w)) same
map_get f (z ∷ xs) (suc k) x at = map_get f xs k x at

-- each line that isn't blank has its answer
whole_logs : (scripts : List (List ℕ)) (answers : Logs) → holds_memory (map (map answer_of) answers) ≡ false → AreWhole (mount ∷ []) scripts (map (map answer_of) answers) → AreWholeLogs (scripts_of scripts) answers
whole_logs scripts answers good whole = λ k lines log at is.
    let found = get_map (asked_by (mount ∷ [])) scripts k lines at in
    let count = as_many (mount ∷ []) found.0 log (log_good answers k log good is) (whole k found.0 (map answer_of log) found.1.0 (map_get (map answer_of) answers k log is)) in
    subst (λ ls. IsWholeLog ls log) found.1.1 (inl count)

-- the text of logs as they are printed
same_text : (answers : Logs) → outputs.text_of_logs answers ≡ text_of_logs (map (map answer_of) answers)
same_text [] = refl
same_text (log ∷ logs) = rw (same_text logs)

no_items : {A : Type 0} (xs : List A) → length xs ≡ 0 → xs ≡ []
no_items [] e = refl
no_items (x ∷ xs) e = absurd (omega (arith, e))

-- an empty map has no entries
no_entries : (m : Contents) → m ≡ finmap.empty → finmap.entries m ≡ []
no_entries m e = no_items (finmap.entries m) (sym (finmap.len-entries m) ∙ ap finmap.len e ∙ finmap.len-empty _ _)

one_name : (x y : List ℕ) → x ∷ [] ≡ y ∷ [] → x ≡ y
one_name x y e = cc

module _ (old : List Part) (empty : IsEmptyMount old) where
  -- all mounts together hold nothing
  union_empty : union_of old ≡ Some finmap.empty
  union_empty = ap union_of empty.alone ∙ by empty.part.contents empty.empty
    where
      by : (contents : Option Contents) → contents ≡ Some finmap.empty → union_of (record empty.part { contents = contents } ∷ []) ≡ Some finmap.empty
      by contents e = ap (λ c. union_of (record empty.part { contents = c } ∷ [])) e ∙ ap (λ es. Some (finmap.from_entries (map (λ (x : List ℕ × List ℕ). (below empty.part.name x.0, x.1)) es ++ []))) (no_entries finmap.empty refl)

  -- the same keys go together as over the one mount
  same_keys : names_of old ≡ mount ∷ [] → (keys : List Key) → are_together (prefixes_of old) keys ≡ are_together ((mount ++ 47 ∷ []) ∷ []) keys
  same_keys named keys =
      let name : empty.part.name ≡ mount = one_name empty.part.name mount (sym (ap names_of empty.alone) ∙ named) in
      ap (λ ps. are_together (prefixes_of ps) keys) empty.alone ∙ joined empty.part.name keys empty.part.prefixes empty.together
      ∙ ap (λ (n : List ℕ). are_together ((n ++ 47 ∷ []) ∷ []) keys) name

  -- as a run over the one mount
  of_one : {scripts : List (List ℕ)} {new : List Part} {history : History} {logs : List (List Answer)} → names_of old ≡ mount ∷ [] → (p : IsPrintedRun finmap.empty scripts old new history logs)
      → IsRunOf (single_store mount) (scripts_of scripts) history p.answers (union_of new) (change_count_of old) (change_count_of new)
  of_one {scripts} {new} {history} {logs} named p =
      run_alike finmap.empty (prefixes_of old) ((mount ++ 47 ∷ []) ∷ []) (same_keys named) (scripts_of scripts) history p.answers (union_of new) (change_count_of old) (change_count_of new)
      (subst (λ ns. IsRunOf (fixed_over old finmap.empty) (map (asked_by ns) scripts) history p.answers (union_of new) (change_count_of old) (change_count_of new)) named p.run)

-- what was run over one empty store is answered yes
pub yes_texts : (scripts : List (List ℕ)) (old new : List Part) (outcome : Outcome) (silent : Type 0) → IsEmptyMount old → HasRunTexts scripts old new outcome silent → IsAnsweredYes scripts old outcome
yes_texts scripts old new outcome silent empty ran = λ named other good checked.
    let p : IsPrintedRun finmap.empty scripts old new outcome.history outcome.logs = ran.run.told finmap.empty (union_empty old empty) in
    let one = of_one old empty named p in
    let quiet : holds_memory (map (map answer_of) p.answers) ≡ false = subst (λ logs. holds_memory logs ≡ false) p.printed good in
    let whole : AreWhole (mount ∷ []) scripts (map (map answer_of) p.answers) =
    subst (λ logs. AreWhole (mount ∷ []) scripts logs) p.printed (subst (λ ns. AreWhole ns scripts outcome.logs) named (ran.run.answered (ran.full other))) in
    let output : IsOutput scripts outcome.history p.answers = record { legal = one.consistent.legal; sessions = one.sessions; whole = whole_logs scripts p.answers quiet whole; memory = logs_good p.answers quiet; checked = checked } in
    subst (λ t. IsVerdict scripts t (yes (length outcome.history))) (same_text p.answers ∙ ap text_of_logs (sym p.printed))
    (printed_outputs_are_yes scripts outcome.history p.answers output (subst AreTyped p.printed ran.typed))

-- so it is for the scripts that words ask for
pub yes_outcome : (contents : Option Contents) (words : List Text) (old new : List Part) (outcome : Outcome) (silent : Type 0) → IsEmptyMount old → HasRun contents words old new outcome silent → IsYesOutcome contents words old outcome
yes_outcome contents words old new outcome silent empty run =
    record { scripts = run.scripts; asked = run.asked; answered = yes_texts run.scripts old new outcome silent empty run.ran }

-- and for those that were run
pub run_given : (scripts : List (List ℕ)) (old new : List Part) (outcome : Outcome) (silent : Type 0) → HasRunTexts scripts old new outcome silent → HasRunGiven scripts old new outcome silent
run_given scripts old new outcome silent ran = record { ran = ran; fits = λ empty. yes_texts scripts old new outcome silent empty ran }
