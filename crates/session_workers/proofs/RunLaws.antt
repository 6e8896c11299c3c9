-- A run over mounts is one that its contract says.
use Rattle.std.proofs.Common.{◌≡◌, ◌∙◌, ℕ, ◌+◌, ◌<◌, Bool, true, List, [], ◌∷◌, ◌++◌, map, length, Option, Some, None, refl, sym, ap, subst, arith}
use Rattle.std.specs.Prelude.{count_by}
use mathlib.Core.List.{IsPrefix}
use Rattle.std.specs.FinMap as finmap
use Rattle.answer_text.specs.declared.answer.Answer.{Answer}
use Rattle.history.specs.Alone.{single_store}
use Rattle.history.specs.Answers as plain
use Rattle.history.specs.Commit.{Key, are_together}
use Rattle.history.specs.Counting.{IsCounted}
use Rattle.history.specs.Lines.{Line}
use Rattle.kv_face.specs.Store.{Contents}
use Rattle.session_runs.specs.Bodies.{answer_of}
use Rattle.kv_mounts.specs.Finish.{AreFinished, failed_places}
use Rattle.history.specs.Store.{RepresentsHistory}
use Rattle.kv_mounts.specs.Parts.{Part, AreMounts, below, names_of}
use Rattle.kv_mounts.specs.Union.{union_of, faults_of, prefixes_of, counts_of, standing_of, change_count_of}
use Rattle.session_runs.specs.Answers.{fixed_by}
use Rattle.session_workers.specs.Caused.{IsCausedLog}
use Rattle.session_workers.specs.Finished.{AreBack, IsRun}
use Rattle.session_workers.specs.MountRuns.{fixed_over, IsPrintedRun, IsEmptyMount, IsSerialRun, IsSingleRun}
use Rattle.session_workers.proofs.Alone.{alone_where, alone_run}
use Rattle.session_workers.proofs.Chosen.{below as place_below, got}
use Rattle.session_workers.proofs.Foreign.{log_foreign}
use Rattle.session_workers.proofs.Finishing.{names_stay, union_stays, prefixes_stay, count_stays, own_counts, counts_rise, counts_sum, faults_rise, listed_rise, all_closed}
use Rattle.serial_runs.specs.Runs.{IsRunOf, AreLogs, AreOfMount}
use Rattle.serial_runs.specs.Serial.{IsSerial}
use Rattle.serial_runs.proofs.Laws.{run_alike, serial}
use Rattle.session_workers.specs.Workers.{AreSessionLogs, AreWhole, asked_by, numbers_from}
use Rattle.session_workers.specs.Runs.{ArePrinted}
use Rattle.session_workers.proofs.Joined.{joined}
use Rattle.session_workers.proofs.Logs.{run_logs, log_caused, log_failed}
use Rattle.session_workers.proofs.Mounts.{of_mount}
use Rattle.state_laws.specs.Agreement.{Opening, Agrees, IsTrueTo, is_fault}
use Rattle.state_laws.specs.Log.{Log}
use Rattle.state_laws.specs.Seen.{StoreSeen}

-- what mounts tell as one store
abbrev pub seen_over : List Part → StoreSeen
seen_over parts = record {
  contents = union_of parts;
  faults = faults_of parts;
  counts = counts_of parts;
  prefixes = prefixes_of parts;
  names = Some (names_of parts);
  standing = standing_of parts;
  changes = change_count_of parts;
}

abbrev pub opening_over : List Part → ℕ → Opening
opening_over parts limit = record { store = seen_over parts; limit = limit }

first_name : {x y : List ℕ} → x ∷ [] ≡ y ∷ [] → x ≡ y
first_name e = cc

some_same : (a b : Contents) → Some a ≡ Some b → a ≡ b
some_same a b e = cc

no_items : {A : Type 0} (xs : List A) → length xs ≡ 0 → xs ≡ []
no_items [] e = refl
no_items (x ∷ xs) e = absurd (omega (arith, e))

-- an empty map has no entries
no_entries : (m : Contents) → m ≡ finmap.empty → finmap.entries m ≡ []
no_entries m e = no_items (finmap.entries m) (sym (finmap.len-entries m) ∙ ap finmap.len e ∙ finmap.len-empty _ _)

some_names : (xs ys : List (List ℕ)) → Some xs ≡ Some ys → xs ≡ ys
some_names xs ys e = cc

numbers-append : (n : ℕ) (xs ys : List (Option Line)) → (m : ℕ) × (numbers_from n (xs ++ ys) ≡ numbers_from n xs ++ numbers_from m ys)
numbers-append n [] ys = (n, refl)
numbers-append n (None ∷ xs) ys = numbers-append (n + 1) xs ys
numbers-append n (Some line ∷ xs) ys = let more = numbers-append (n + 1) xs ys in (more.0, ap (λ l. n ∷ l) more.1)

-- the lines that have answers are the first ones
answered_first : (asked given left : List (Option Line)) (answered : List ℕ) → asked ≡ given ++ left → answered ≡ numbers_from 1 given → IsPrefix answered (numbers_from 1 asked)
answered_first asked given left answered parts is =
    let more = numbers-append 1 given left in
    (numbers_from more.0 left, sym (ap (numbers_from 1) parts ∙ more.1 ∙ ap (λ l. l ++ numbers_from more.0 left) (sym is)))

module _ (scripts : List (List ℕ)) (old mid new : List Part) (limit : ℕ) (log : Log) (logs : List (List Answer)) (whole : Bool) (ended : AreSessionLogs (opening_over old limit) (names_of old) scripts log.events logs)
    (full : whole ≡ true → AreWhole (names_of old) scripts logs) (agrees : Agrees (opening_over old limit) (seen_over mid) log) (finished : AreFinished mid new) where
  back : AreMounts new → AreBack old new log.events (failed_places new)
  back are =
      record {
        are = are;
        names = names_stay mid new finished ∙ some_names (names_of mid) (names_of old) agrees.frame.names;
        prefixes = prefixes_stay mid new finished ∙ agrees.frame.prefixes;
        closed = all_closed mid new finished;
        failed = refl;
        counts = map (λ (p : Part). p.faults) mid;
        called = let more = agrees.faults in let all = counts_sum mid in omega (arith, more, all);
        told = λ rose. let all = counts_sum mid in agrees.told (omega (arith, rose, all));
        later = own_counts old mid (some_names (names_of mid) (names_of old) agrees.frame.names) agrees.frame.counts.each;
        own = counts_rise mid new finished;
        risen = let more = agrees.faults in let rise = listed_rise 0 mid new finished in omega (arith, more, rise);
      }

  run_of : (start : Contents) → IsTrueTo start (opening_over old limit) (seen_over mid) log → (printed : ArePrinted (fixed_over old start) (names_of old) scripts log.events logs)
      → IsRunOf (fixed_over old start) (map (asked_by (names_of old)) scripts) log.events printed.answers (union_of new) (change_count_of old) (change_count_of new)
  run_of start holds printed = record {
    sessions = printed.are;
    consistent = record {
      legal = holds.legal;
      represents = λ store is. let same : Some holds.contents ≡ Some store = sym holds.told ∙ sym (union_stays mid new finished) ∙ is in subst (λ c. RepresentsHistory c start log.events) (some_same holds.contents store same) holds.represents;
    };
    counted = subst (λ c. IsCounted start (change_count_of old) c log.events) (sym (count_stays mid new finished)) holds.counted;
  }

  printed_run : (start : Contents) → union_of old ≡ Some start → IsPrintedRun start scripts old new log.events logs
  printed_run start is =
      let printed : ArePrinted (fixed_over old start) (names_of old) scripts log.events logs = run_logs (opening_over old limit) start is (names_of old) scripts log.events logs ended in
      let holds = agrees.holds start is in
      record {
        answers = printed.answers;
        printed = printed.printed;
        run = run_of start holds printed;
        store = holds.contents;
        still = union_stays mid new finished ∙ holds.told;
      }

  module _ (empty : IsEmptyMount old) where
    union_empty : union_of old ≡ Some finmap.empty
    union_empty = ap union_of empty.alone ∙ by empty.part.contents empty.empty
      where
        by : (contents : Option Contents) → contents ≡ Some finmap.empty → union_of (record empty.part { contents = contents } ∷ []) ≡ Some finmap.empty
        by contents e = ap (λ c. union_of (record empty.part { contents = c } ∷ [])) e ∙ ap (λ es. Some (finmap.from_entries (map (λ (x : List ℕ × List ℕ). (below empty.part.name x.0, x.1)) es ++ []))) (no_entries finmap.empty refl)

    -- the same keys go together as over the one mount
    same_keys : (keys : List Key) → are_together (prefixes_of old) keys ≡ are_together ((empty.part.name ++ 47 ∷ []) ∷ []) keys
    same_keys keys = ap (λ ps. are_together (prefixes_of ps) keys) empty.alone ∙ joined empty.part.name keys empty.part.prefixes empty.together

    names_one : names_of old ≡ empty.part.name ∷ []
    names_one = ap names_of empty.alone

    held : IsTrueTo finmap.empty (opening_over old limit) (seen_over mid) log
    held = agrees.holds finmap.empty union_empty

    told_now : union_of new ≡ Some held.contents
    told_now = union_stays mid new finished ∙ held.told

    as_printed : IsPrintedRun finmap.empty scripts old new log.events logs
    as_printed = printed_run finmap.empty union_empty

    -- as a run over the one mount
    of_one : IsRunOf (single_store empty.part.name) (map (asked_by (empty.part.name ∷ [])) scripts) log.events as_printed.answers (Some held.contents) (change_count_of old) (change_count_of new)
    of_one =
        run_alike finmap.empty (prefixes_of old) ((empty.part.name ++ 47 ∷ []) ∷ []) same_keys (map (asked_by (empty.part.name ∷ [])) scripts) log.events as_printed.answers (Some held.contents) (change_count_of old) (change_count_of new)
        (subst (λ ns. IsRunOf (fixed_over old finmap.empty) (map (asked_by ns) scripts) log.events as_printed.answers (Some held.contents) (change_count_of old) (change_count_of new)) names_one
        (subst (λ c. IsRunOf (fixed_over old finmap.empty) (map (asked_by (names_of old)) scripts) log.events as_printed.answers c (change_count_of old) (change_count_of new)) told_now as_printed.run))

    serial_run : IsSerialRun scripts old new log.events logs
    serial_run = record {
      answers = as_printed.answers;
      printed = as_printed.printed;
      store = held.contents;
      told = told_now;
      serial =
          subst (λ ns. IsSerial (map (asked_by ns) scripts) log.events as_printed.answers held.contents) (sym names_one)
          (serial empty.part.name (map (asked_by (empty.part.name ∷ [])) scripts) log.events as_printed.answers held.contents (change_count_of old) (change_count_of new) (of_mount empty.part.name scripts) of_one);
    }

    -- one script alone, without a failed call
    single_run : (script : List ℕ) → scripts ≡ script ∷ [] → faults_of new ≡ faults_of old → IsSingleRun empty.part.name script log.events logs
    single_run script one quiet = by as_printed.answers as_printed.printed (subst (λ ss. AreLogs (single_store empty.part.name) log.events (map (asked_by (empty.part.name ∷ [])) ss) as_printed.answers) one of_one.sessions)
      where
        name : List ℕ
        name = empty.part.name

        none : count_by is_fault log.events ≡ 0
        none = let more = agrees.faults in let rise = faults_rise mid new finished in omega (arith, more, rise, quiet)

        lines : AreOfMount name (asked_by (name ∷ []) script ∷ [])
        lines = of_mount name (script ∷ [])

        by : (answers : List (List plain.Answer)) → logs ≡ map (map answer_of) answers → AreLogs (single_store name) log.events (asked_by (name ∷ []) script ∷ []) answers → IsSingleRun name script log.events logs
        by [] printed are = absurd (let no_such = are.count in omega (arith, no_such))
        by (a ∷ []) printed are = record {
          answers = a;
          printed = printed;
          run = alone_run name log.events of_one.consistent.legal (alone_where log.events none are.owners) (asked_by (name ∷ []) script) lines.on_mount.0 lines.within.0 a (are.each 0 (asked_by (name ∷ []) script) a refl refl);
        }
        by (a ∷ b ∷ answers) printed are = absurd (let no_such = are.count in omega (arith, no_such))

  pub run_is : AreMounts new → IsRun scripts old new log.events logs whole (failed_places new)
  run_is are = record {
    count = ended.count;
    answered = full;
    numbered = λ k script log here at. let one = ended.each k script log here at in
        subst (λ l. IsPrefix (map (λ (a : Answer). a.line) l) (numbers_from 1 (asked_by (names_of old) script))) one.log_is
        (answered_first (asked_by (names_of old) script) one.run.given one.run.left (map (λ (a : Answer). a.line) one.session.log) one.run.parts one.run.on.answered);
    failed = λ k script answers here at. log_failed ended.book (names_of old) log.events k script answers (ended.each k script answers here at);
    caused = λ k script answers here at.
        subst (λ (o : Opening). IsCausedLog (fixed_by o finmap.empty) (names_of old) log.events k script answers) ended.fixed
        (log_caused ended.book (names_of old) log.events k script answers (ended.each k script answers here at));
    foreign = λ k answers at. let script = got scripts k (subst (λ n. k < n) ended.count (place_below logs k answers at)) in
        log_foreign ended.book (names_of old) log.events k script.0 answers agrees.outline (ended.each k script.0 answers script.1 at);
    owners = ended.owners;
    back = back are;
    told = printed_run;
    serial = serial_run;
    single = λ mount script empty named one quiet.
        let same : empty.part.name ≡ mount = first_name (sym (names_one empty) ∙ named) in
        subst (λ n. IsSingleRun n script log.events logs) same (single_run empty script one quiet);
  }
