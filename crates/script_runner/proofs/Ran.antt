-- What is promised of texts is promised of files, and of words.
use Rattle.std.proofs.Common.{◌≡◌, ◌≢◌, ◌∙◌, ℕ, Bool, true, false, List, [], ◌∷◌, map, Option, Some, inl, inr, refl, sym, ap, subst}
use Rattle.std.specs.List.{slice_get, list_any}
use Rattle.kv_face.specs.Store.{Contents}
use Rattle.kv_mounts.specs.Parts.{Part, names_of}
use Rattle.kv_mounts.specs.Union.{faults_of}
use Rattle.session_workers.specs.Bodies.{answer_of}
use Rattle.made_scripts.specs.Scripts.{made}
use Rattle.session_workers.specs.Finished.{IsRun, IsWhole}
use Rattle.session_workers.specs.MountRuns.{IsEmptyMount, IsSingleRun}
use Rattle.run_words.specs.Options.{Text}
use Rattle.script_runner.specs.Asked.{AskFor, AskToMake}
use Rattle.script_runner.proofs.Single.{none_of, all_good, as_many}
use Rattle.script_runner.specs.Promises.{HasRun, HasRunFiles, HasRunTexts, HasAnswers, IsSingleOutcome, IsSerialOutcome}
use Rattle.script_runner.specs.declared.outcome.Outcome.{Outcome}
use Rattle.script_streams.specs.Standing as standing
use Rattle.script_streams.specs.Standing.{holds_memory}

-- files that are asked for were run
pub run_asked : (contents : Option Contents) (words files : List Text) (old new : List Part) (outcome : Outcome) (silent : Type 0) → AskFor words files → HasRunFiles contents files old new outcome silent → HasRun contents words old new outcome silent
run_asked contents words files old new outcome silent asked ran = record {
  scripts = ran.scripts;
  asked = inl (record { files = files; asked = asked; read = ran.read });
  ran = ran.ran;
}

-- and so were scripts that are made
pub run_made : (contents : Option Contents) (words : List Text) (number : ℕ) (old new : List Part) (outcome : Outcome) (silent : Type 0) → AskToMake words number → HasRunTexts (made number) old new outcome silent → HasRun contents words old new outcome silent
run_made contents words number old new outcome silent asked ran = record {
  scripts = made number;
  asked = inr (record { number = number; asked = asked; are = refl });
  ran = ran;
}

-- where all answers were written, the status isn't 5
answers_not_5 : (status : ℕ) → HasAnswers status → status ≢ 5
answers_not_5 status (inl none) e = let t : 0 ≡ 5 = sym none ∙ e in absurd (let no_such : ⊥ = cc in no_such)
answers_not_5 status (inr one) e = let t : 1 ≡ 5 = sym one ∙ e in absurd (let no_such : ⊥ = cc in no_such)

-- one script alone
single_outcome : (old new : List Part) (outcome : Outcome) (mount script : List ℕ) (whole : Bool) → IsRun (script ∷ []) old new outcome.history outcome.logs whole outcome.unfinished → whole ≡ true → holds_memory outcome.logs ≡ false → IsEmptyMount old
    → names_of old ≡ mount ∷ [] → faults_of new ≡ faults_of old → IsSingleOutcome mount script outcome
single_outcome old new outcome mount script whole run full good empty named quiet =
    let one : IsSingleRun mount script outcome.history outcome.logs = run.single mount script empty named refl quiet in
    let none : list_any standing.is_memory (map answer_of one.answers) ≡ false = (none_of (list_any standing.is_memory (map answer_of one.answers)) false (subst (λ logs. holds_memory logs ≡ false) one.printed good)).0 in
    let at : slice_get outcome.logs 0 ≡ Some (map answer_of one.answers) = ap (λ logs. slice_get logs 0) one.printed in
    let answered : IsWhole (mount ∷ []) script (map answer_of one.answers) = subst (λ ns. IsWhole ns script (map answer_of one.answers)) named (run.answered full 0 script (map answer_of one.answers) refl at) in
    let same = one.run.whole (all_good one.answers none) (as_many (mount ∷ []) script one.answers none answered) in
    record { answers = one.printed ∙ ap (λ answers. map answer_of answers ∷ []) (sym same.0); events = sym same.1 }

-- over one empty store, what was run is serial
pub serial_run : (contents : Option Contents) (words : List Text) (old new : List Part) (outcome : Outcome) (silent : Type 0) → IsEmptyMount old → (HasAnswers outcome.status → holds_memory outcome.logs ≡ false) → HasRun contents words old new outcome silent → IsSerialOutcome contents words old new outcome
serial_run contents words old new outcome silent empty good run = record {
  scripts = run.scripts;
  asked = run.asked;
  serial = run.ran.run.serial empty;
  whole = λ other. run.ran.run.answered (run.ran.full other);
  single = λ answers mount script named one quiet.
      single_outcome old new outcome mount script run.ran.whole (subst (λ ss. IsRun ss old new outcome.history outcome.logs run.ran.whole outcome.unfinished) one run.ran.run) (run.ran.full (answers_not_5 outcome.status answers)) (good answers) empty named quiet;
}
