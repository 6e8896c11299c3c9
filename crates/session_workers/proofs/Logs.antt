-- What the logs of sessions are over a store that told its contents at the start.
use Rattle.std.proofs.Common.{◌≡◌, ◌∙◌, ℕ, ◌+◌, ◌<◌, List, [], ◌++◌, length, map, drop, Some, sym, ap, subst, append-nil}
use Rattle.std.specs.Prelude.{◌==◌}
use Rattle.std.specs.FinMap as finmap
use Rattle.std.specs.List.{AllByRecursion, slice_get}
use Rattle.std.proofs.lemmas.List.{length-map}
use Rattle.std.proofs.lemmas.List.Elements.{filter-append}
use Rattle.answer_text.specs.declared.answer.Answer.{Answer}
use Rattle.history.specs.declared.event.Event.{Event}
use Rattle.history.specs.Answers as old
use Rattle.history.specs.Commit.{Fixed}
use Rattle.history.specs.History.{History}
use Rattle.history.specs.Own.{own_events}
use Rattle.history.specs.Sessions.{at_first}
use Rattle.history.specs.Steps.{IsSessionRun}
use Rattle.history.proofs.Laws.{run_longer}
use Rattle.kv_face.specs.Store.{Contents}
use Rattle.session_runs.specs.Bodies.{answer_of}
use Rattle.serial_runs.specs.Runs.{Script, IsLog}
use Rattle.session_runs.specs.Causes.{AreCaused}
use Rattle.session_runs.specs.Scripts.{asked_by}
use Rattle.session_runs.specs.Session.{IsRunTo}
use Rattle.session_runs.specs.Failures.{failures_by, failures_of}
use Rattle.session_runs.proofs.Laws.{own-append, own-none, drop_front, same_rest}
use Rattle.session_workers.specs.Caused.{IsCausedLog}
use Rattle.session_workers.specs.Workers.{IsSessionLog, AreSessionLogs}
use Rattle.session_workers.specs.Runs.{ArePrinted}
use Rattle.session_workers.proofs.Chosen.{AreChosen, choose, got, below, got_map, mapped_by}
use Rattle.state_laws.specs.Agreement.{Opening}
use Rattle.session_runs.specs.Answers.{fixed_by}
use Rattle.session_runs.specs.TxnTurns.{owner_of}
use Rattle.turn_book.specs.History.{entries_of}
use Rattle.turn_book.specs.Passes.{BookView}

-- behind what the session has seen no event is its own
no_other : (owner : ℕ) (front rest : History) → entries_of owner_of owner (front ++ rest) ≡ entries_of owner_of owner front → entries_of owner_of owner rest ≡ []
no_other owner front rest e =
    same_rest (entries_of owner_of owner front) (entries_of owner_of owner rest) []
    (sym (filter-append (λ (e : Event). e.owner == owner) front rest) ∙ e ∙ sym (append-nil (entries_of owner_of owner front)))

-- a log as the history has it, with what is printed of it
abbrev pub IsPrintedLog : Fixed → History → ℕ → Script → List Answer → List old.Answer → Type 0
IsPrintedLog fixed history k script log answers = (log ≡ map answer_of answers) × IsLog fixed history k script answers

module _ (book : BookView Opening) (mounts : List (List ℕ)) (start : Contents) (told : book.fixed.store.contents ≡ Some start) (history : History) where
  pub log_is : (k : ℕ) (script : List ℕ) (log : List Answer) → IsSessionLog book mounts history k script log → (answers : List old.Answer) × IsPrintedLog (fixed_by book.fixed start) history k (asked_by mounts script) log answers
  log_is k script log is =
      let seen = is.session.pass.seen in
      let rest = is.seen.0 in
      let parts : seen ++ rest ≡ history = is.seen.1 in
      let run = is.run in
      let to : IsRunTo (fixed_by book.fixed start) is.session run.given = run.on.told start told in
      let longer : IsSessionRun (fixed_by book.fixed start) k history at_first 1 run.given to.answers to.last =
      subst (λ h. IsSessionRun (fixed_by book.fixed start) k h at_first 1 run.given to.answers to.last) parts
      (run_longer seen rest (subst (λ n. IsSessionRun (fixed_by book.fixed start) n seen at_first 1 run.given to.answers to.last) is.number_is to.run)) in
      let own : entries_of owner_of k seen ≡ is.session.pass.mine = subst (λ n. entries_of owner_of n seen ≡ is.session.pass.mine) is.number_is run.on.rested.own in
      let none : entries_of owner_of k rest ≡ [] = no_other k seen rest (ap (entries_of owner_of k) parts ∙ is.own ∙ sym own) in
      let behind : drop to.last.seen history ≡ rest = ap (λ n. drop n history) to.seen ∙ ap (drop (length seen)) (sym parts) ∙ drop_front seen rest in (
        to.answers,
        (
          sym is.log_is ∙ to.printed,
          record {
            ran = run.given;
            left = run.left;
            parts = run.parts;
            last = to.last;
            run = longer;
            no_more = ap (own_events k (to.last.seen + 1)) behind ∙ own-none k (to.last.seen + 1) rest none;
          },
        ),
      )

-- the failed calls that a log tells are those among its session's events
pub log_failed : (book : BookView Opening) (mounts : List (List ℕ)) (history : History) (k : ℕ) (script : List ℕ) (log : List Answer) → IsSessionLog book mounts history k script log → failures_by log ≡ failures_of (own_events k 1 history)
log_failed book mounts history k script log is =
    let seen = is.session.pass.seen in
    let rest = is.seen.0 in
    let parts : seen ++ rest ≡ history = is.seen.1 in
    let own : entries_of owner_of k seen ≡ is.session.pass.mine = subst (λ n. entries_of owner_of n seen ≡ is.session.pass.mine) is.number_is is.run.on.rested.own in
    let none : entries_of owner_of k rest ≡ [] = no_other k seen rest (ap (entries_of owner_of k) parts ∙ is.own ∙ sym own) in
    let same : own_events k 1 history ≡ own_events k 1 seen =
    ap (own_events k 1) (sym parts) ∙ own-append k 1 seen rest ∙ ap (λ os. own_events k 1 seen ++ os) (own-none k (1 + length seen) rest none) ∙ append-nil (own_events k 1 seen) in
    subst (λ l. failures_by l ≡ failures_of (own_events k 1 history)) is.log_is (is.run.on.failed ∙ ap (λ n. failures_of (own_events n 1 seen)) is.number_is ∙ ap failures_of (sym same))

-- whatever the store told, the lines of a log are answered for their causes
pub log_caused : (book : BookView Opening) (mounts : List (List ℕ)) (history : History) (k : ℕ) (script : List ℕ) (log : List Answer) → IsSessionLog book mounts history k script log → IsCausedLog (fixed_by book.fixed finmap.empty) mounts history k script log
log_caused book mounts history k script log is =
    let to = is.run.on.caused in
    let seen = is.session.pass.seen in
    let rest = is.seen.0 in
    let parts : seen ++ rest ≡ history = is.seen.1 in
    let own : entries_of owner_of k seen ≡ is.session.pass.mine = subst (λ n. entries_of owner_of n seen ≡ is.session.pass.mine) is.number_is is.run.on.rested.own in
    let none : entries_of owner_of k rest ≡ [] = no_other k seen rest (ap (entries_of owner_of k) parts ∙ is.own ∙ sym own) in
    let behind : drop (length seen) history ≡ rest = ap (drop (length seen)) (sym parts) ∙ drop_front seen rest in
    record {
      given = is.run.given;
      left = is.run.left;
      parts = is.run.parts;
      seen = seen;
      within = is.seen;
      last = to.last;
      are = subst (λ n. AreCaused (fixed_by book.fixed finmap.empty) n is.run.given log seen to.last) is.number_is
          (subst (λ l. AreCaused (fixed_by book.fixed finmap.empty) is.session.pass.number is.run.given l seen to.last) is.log_is to.are);
      no_more = ap (own_events k (length seen + 1)) behind ∙ own-none k (length seen + 1) rest none;
    }

-- logs of sessions are printed ones of a run
pub run_logs : (opening : Opening) (start : Contents) → opening.store.contents ≡ Some start → (mounts scripts : List (List ℕ)) (history : History) (logs : List (List Answer)) → AreSessionLogs opening mounts scripts history logs
    → ArePrinted (fixed_by opening start) mounts scripts history logs
run_logs opening start told mounts scripts history logs are = by (choose R scripts logs are.count each)
  where
    R : ℕ → List ℕ → List Answer → List old.Answer → Type 0
    R k script log answers = IsPrintedLog (fixed_by opening start) history k (asked_by mounts script) log answers

    each : (k : ℕ) (script : List ℕ) (log : List Answer) → slice_get scripts k ≡ Some script → slice_get logs k ≡ Some log → (answers : List old.Answer) × R k script log answers
    each k script log is has =
        subst (λ (o : Opening). (answers : List old.Answer) × IsPrintedLog (fixed_by o start) history k (asked_by mounts script) log answers) are.fixed
        (log_is are.book mounts start (ap (λ (o : Opening). o.store.contents) are.fixed ∙ told) history k script log (are.each k script log is has))

    by : AreChosen R scripts logs → ArePrinted (fixed_by opening start) mounts scripts history logs
    by chosen = record {
      answers = chosen.all;
      printed = mapped_by (map answer_of) chosen.all logs chosen.count (λ k answers log is has. let script = got scripts k (subst (λ n. k < n) are.count (below logs k log has)) in (chosen.each k script.0 log answers script.1 has is).0);
      are = record {
        count = chosen.count ∙ are.count ∙ sym (length-map scripts (asked_by mounts));
        each = λ k script answers is has. at k script answers (got_map (asked_by mounts) scripts k script is) has;
        owners = subst (λ n. AllByRecursion (λ (e : Event). e.owner < n) history) (sym (length-map scripts (asked_by mounts))) are.owners;
      };
    }
      where
        log_at : (k : ℕ) (answers : List old.Answer) → slice_get chosen.all k ≡ Some answers → (log : List Answer) × (slice_get logs k ≡ Some log)
        log_at k answers has = got logs k (subst (λ n. k < n) chosen.count (below chosen.all k answers has))

        at : (k : ℕ) (script : Script) (answers : List old.Answer) → ((bytes : List ℕ) × ((slice_get scripts k ≡ Some bytes) × (asked_by mounts bytes ≡ script))) → slice_get chosen.all k ≡ Some answers → IsLog (fixed_by opening start) history k script answers
        at k script answers bytes has =
            let log = log_at k answers has in
            subst (λ s. IsLog (fixed_by opening start) history k s answers) bytes.1.1 (chosen.each k bytes.0 log.0 answers bytes.1.0 log.1 has).1
