-- What a step of a session shows, over one mount whose store starts empty.
use Rattle.std.proofs.Common.{◌≡◌, ℕ, ◌+◌, ◌≤◌, List, [], ◌∷◌, ◌++◌, length, take, take-take, drop, Bool, true, false, cond, Option, Some, None, Ok, refl, sym, ap, subst, ◌∙◌, append-nil, arith}
use Rattle.std.specs.List.{AllByRecursion}
use Rattle.std.specs.FinMap as finmap
use Rattle.stack_driver.specs.References.{Reference}
use Rattle.stack_driver.specs.Renewed.{renewed}
use Rattle.stack_driver.specs.declared.view.View.{View}
use Rattle.history.specs.declared.array.ArrayInfo.{ArrayInfo}
use Rattle.history.specs.declared.event.Op.{Op}
use Rattle.history.specs.declared.event.Op.TheVariants.{Read}
use Rattle.history.specs.History.{History}
use Rattle.history.specs.Acts.{Act, Asked, reads, commits, resizes, act_of}
use Rattle.history.specs.Alone.{single_store, AreOnMount, IsLineOn}
use Rattle.history.specs.Answers as body
use Rattle.history.specs.Answers.{Body, Text}
use Rattle.history.specs.Bound.{AreKnownOps, IsLineWithin}
use Rattle.history.specs.Arrays.{Known, known_after, is_local}
use Rattle.history.specs.Commit.{Fixed, Transaction}
use Rattle.history.specs.Legal as legal_events
use Rattle.history.specs.Legal.{IsLegal, viewed}
use Rattle.history.specs.Lines.{Line}
use Rattle.history.specs.Own.{Numbered, numbers_of, own_events, fault_at}
use Rattle.history.specs.ReadRows.{with_read}
use Rattle.history.specs.Reads.{Marks}
use Rattle.history.specs.Refs.{HasKnownRefs}
use Rattle.history.specs.Refusals.{IsNotAtomicResize}
use Rattle.history.specs.ResizeRows.{shape_after}
use Rattle.history.specs.Sessions.{Names, SessionState}
use Rattle.history.specs.Staged.{IsTransaction, HasTransaction}
use Rattle.history.specs.Steps.{write_alone, is_memory, IsRow, open_done, open_refused, open_unbuilt, open_failed, open_wanting, view_done, read_done, read_shrunk, read_damaged, read_failed, write_staged, write_done, begin_done, commit_done, abort_done, resize_done, resize_many, resize_split, resize_damaged, resize_failed, resolve_done, resolve_refused, IsAnswered, refused_line, wanting, done_line, SessionStep}
use Rattle.history.proofs.ActFits.{IsActIn, IsAskedIn, act_of-in}
use Rattle.history.proofs.AloneCommits.{bare}
use Rattle.history.proofs.AloneKeys.{resize_together}
use Rattle.history.proofs.AloneMount.{IsActFit, act_of-fit, front_on, stored_array}
use Rattle.history.proofs.AloneOpens.{no_bytes}
use Rattle.history.proofs.AloneSteps.{bare_of, bare_act, bare_asked, act_of-bare}
use Rattle.history.proofs.Asking.{IsAskedBy}
use Rattle.history.proofs.Known.{some_inj}
use Rattle.history.proofs.KnownViews.{view_later}
use Rattle.history.proofs.Quiet.{IsQuiet, HasQuiet, IsNoChange, seen_quiet}
use Rattle.history.proofs.Shrinks.{known_still}
use Rattle.history.proofs.StepsKept.{kept_later}
use Rattle.history.proofs.StepsKnown.{IsActKnown, act_of-known, AreKnown, legal_take}
use Rattle.serial_runs.specs.Attempts as told
use Rattle.serial_runs.specs.Attempts.{Attempt, IsShown, blames_store, left_after}
use Rattle.serial_runs.specs.Ends.{IsEnd}
use Rattle.serial_runs.specs.Numbered.{is_commit_or_resize, is_fault, numbers_in, failed_in, opened_in}
use Rattle.serial_runs.proofs.Commits.{AreJoint, commit_ends, foreign_conflict, no_conflict_alone, commit_left, commit_printed, bare_end, written_printed}
use Rattle.serial_runs.proofs.Numbers.{IsEventOf, own_of_step, chosen_in, chosen_in-append, numbers-append, ArePrinted}
use Rattle.serial_runs.proofs.Opened.{same_take, opened_later, opened_no_change, opened_no_fault, opened_all, all_openings}
use Rattle.serial_runs.proofs.Refused.{IsRefusedAsked, act_of-refused, leaf_refusal, never_unreadable, leaf_open_refusal, open_unblamed, written_unblamed}

-- what a line shows, that the transaction that it tries to commit ends rightly, and that the answer doesn't blame the store
pub record RowTold (history : History) (owner : ℕ) (s : SessionState) (line : ℕ) (asked : Asked) (answer : Body) (names : Names) (left : Option Transaction) : Type 0 where
  pub attempts : List Attempt
  pub shown : IsShown history owner s.names (bare_of s.transaction) line asked answer names (bare_of left) attempts
  pub ends : AllByRecursion (λ (a : Attempt). IsEnd history owner a.transaction a.answer) attempts
  pub sound : blames_store answer ≡ false

-- a transaction that ends rightly isn't answered so
end_unblamed : (history : History) (owner : ℕ) (t : Transaction) (answer : Body) → IsEnd history owner t answer → blames_store answer ≡ false
end_unblamed history owner t (body.not_atomic keys) is = absurd is
end_unblamed history owner t (body.damaged key cause) is = absurd is
end_unblamed history owner t (body.bad_metadata key why events) is = absurd is
end_unblamed history owner t answer is = refl

bare_after : (b : Bool) (t : Transaction) (view : View) (words : List ℕ) (marks : Marks) → cond b (record (bare t) { ops = t.ops ++ Read view words ∷ []; marks = [] }) (bare t) ≡ bare (cond b (record t { ops = t.ops ++ Read view words ∷ []; marks = marks }) t)
bare_after true t view words marks = refl
bare_after false t view words marks = refl

bare_read : (t : Option Transaction) (view : View) (words : List ℕ) (marks : Marks) → with_read (bare_of t) view words [] ≡ bare_of (with_read t view words marks)
bare_read None view words marks = refl
bare_read (Some t) view words marks = ap Some (bare_after t.mode.repeatable_read t view words marks)

-- what holds of a transaction when it is to be committed
record IsReady (owner : ℕ) (now : History) (own : List Numbered) (t : Transaction) : Type 0 where
  reads : IsTransaction finmap.empty now t
  quiet : own ≡ [] → IsQuiet owner (length now) now t
  refs : AllByRecursion (λ op. HasKnownRefs now (viewed op)) t.ops

module _ (mount : Text) (owner : ℕ) (history : History) (m : ℕ) (legal : IsLegal finmap.empty history) (joint : AreJoint history) (on : AreOnMount mount history) (s : SessionState) (line : ℕ) where
  abbrev fixed : Fixed
  fixed = single_store mount

  abbrev now : History
  now = take m history

  -- the line tries no commit
  plain_row : {asked : Asked} {answer : Body} {names : Names} {left : Option Transaction} → blames_store answer ≡ false → IsShown history owner s.names (bare_of s.transaction) line asked answer names (bare_of left) [] → RowTold history owner s line asked answer names left
  plain_row sound shown = record { attempts = []; shown = shown; ends = tt; sound = sound }

  legal_now : IsLegal finmap.empty now
  legal_now = legal_take finmap.empty history m legal

  -- all changes of a resize go together
  resize_joint : (array : Reference) (shape : List ℕ) (keys : ℕ) → s.seen ≤ m → IsActFit mount (take s.seen history) (resizes array shape) → IsNotAtomicResize fixed now array.number shape keys → ⊥
  resize_joint array shape keys rises fit split =
      let there = stored_array finmap.empty (take s.seen history) array (legal_take finmap.empty history s.seen legal) fit.1.0 fit.1.1 in
      let before : known_after (take s.seen now) array.number ≡ Some there.known = ap (λ h. known_after h array.number) (take-take s.seen m history rises) ∙ there.is_known in
      let later = known_still finmap.empty now array.number s.seen there.known legal_now before in
      let same : later.0 ≡ split.known = some_inj later.0 split.known (sym later.1 ∙ split.is_known) in
      let stored : is_local split.known.info.home ≡ false = ap (λ (k : Known). is_local k.info.home) (sym same) ∙ ap (λ (i : ArrayInfo). is_local i.home) later.2 ∙ there.stored in
      resize_together mount now array.number shape keys (front_on mount finmap.empty history m legal on) split stored

  row_told : (act : Act) (names : Names) (left : Option Transaction) (answer : Body) (own : List Numbered) → AllByRecursion (IsEventOf history) own → s.seen ≤ m → IsActIn s.transaction act → IsActKnown (take s.seen history) act → IsActFit mount (take s.seen history) act → ((t : Transaction) → s.transaction ≡ Some t → IsReady owner now own t)
      → is_memory answer ≡ false → IsRow fixed owner now s line act names left answer own → RowTold history owner s line (Ok (bare_act act)) answer names left
  row_told act names left answer own stand rises fits known fit ready goes_on (open_done opened built) = let there = opened_later history m 0 (omega arith) opened in plain_row refl (told.opened there.1 stand built)
  row_told act names left answer own stand rises fits known fit ready goes_on (open_refused {node = node} {leaf = leaf} opened refused) =
      let is = leaf_open_refusal node leaf refused.at _ refused.outcome answer (never_unreadable (take refused.at now) leaf refused.outcome refused.comes) refused.answered in
      plain_row (open_unblamed answer is) (told.open_refused is)
  row_told act names left answer own stand rises fits known fit ready goes_on (open_unbuilt opened built) = plain_row refl (told.open_refused refl)
  row_told act names left answer own stand rises fits known fit ready goes_on (open_failed before opened failed) = plain_row refl (told.open_refused refl)
  row_told act names left answer own stand rises fits known fit ready goes_on (open_wanting opened) = absurd (cc)
  row_told act names left answer own stand rises fits known fit ready goes_on view_done = plain_row refl told.viewed
  row_told act names left answer own stand rises fits known fit ready goes_on (read_done {view = view} {down = down} {words = words} {marks = marks} shown) =
      record {
        attempts = [];
        shown = subst (λ u. IsShown history owner s.names (bare_of s.transaction) line (Ok (reads view down)) answer s.names u []) (bare_read s.transaction view words marks) (told.read words);
        ends = tt;
        sound = refl;
      }
  row_told act names left answer own stand rises fits known fit ready goes_on (read_shrunk shrunk) = plain_row refl (told.read_refused refl)
  row_told act names left answer own stand rises fits known fit ready goes_on (read_damaged damaged) = absurd (no_bytes _ damaged.damaged.bytes damaged.damaged.held)
  row_told act names left answer own stand rises fits known fit ready goes_on (read_failed before fetched) = plain_row refl (told.read_refused refl)
  row_told act names left answer own stand rises fits known fit ready goes_on write_staged = plain_row refl told.staged
  row_told act names left answer own stand rises fits known fit ready goes_on (write_done {view = view} {words = words} {left = rest} {answer = inner} commit) =
      let ending =
      commit_ends mount owner history m legal joint on (write_alone line view words) rest inner own stand (λ key read changed is none. no_conflict_alone mount owner history m legal joint on line view words key read changed is) (view_later history s.seen m rises view known, tt) commit in
      record {
        attempts = record { transaction = write_alone line view words; answer = inner } ∷ [];
        shown = told.written;
        ends = (ending, tt);
        sound = written_unblamed (length words) inner (end_unblamed history owner (write_alone line view words) inner ending);
      }
  row_told act names left answer own stand rises fits known fit ready goes_on begin_done = plain_row refl told.begun
  row_told act names left answer own stand rises fits known fit ready goes_on (commit_done {t = t} commit) =
      let at = ready t fits in
      let ending =
      bare_end history owner t answer
      (commit_ends mount owner history m legal joint on t left answer own stand (λ key read changed is none. foreign_conflict mount owner history m legal joint on t at.reads (at.quiet none) key read changed is) at.refs commit) in
      record {
        attempts = record { transaction = bare t; answer = answer } ∷ [];
        shown = subst (λ u. IsShown history owner s.names (bare_of s.transaction) line (Ok (commits (bare t))) answer s.names u (record { transaction = bare t; answer = answer } ∷ [])) (commit_left mount owner history m legal joint on t left answer own goes_on commit) told.tried;
        ends = (ending, tt);
        sound = end_unblamed history owner (bare t) answer ending;
      }
  row_told act names left answer own stand rises fits known fit ready goes_on abort_done = plain_row refl told.aborted
  row_told act names left answer own stand rises fits known fit ready goes_on (resize_done n may undamaged) = plain_row refl (told.resized stand.0)
  row_told act names left answer own stand rises fits known fit ready goes_on (resize_many many) = plain_row refl (told.resize_refused refl)
  row_told act names left answer own stand rises fits known fit ready goes_on (resize_split {array = array} {shape = shape} {keys = keys} few split) = absurd (resize_joint array shape keys rises fit split)
  row_told act names left answer own stand rises fits known fit ready goes_on (resize_damaged may damaged) = absurd (no_bytes _ damaged.damaged.bytes damaged.damaged.held)
  row_told act names left answer own stand rises fits known fit ready goes_on (resize_failed n may on_mount) = plain_row refl (told.resize_refused refl)
  row_told act names left answer own stand rises fits known fit ready goes_on (resolve_done {view = view} {array = array} k low high is) =
      plain_row refl (told.resolved k (ap (λ h. renewed (shape_after h array.number) view) (sym (same_take k m history high)) ∙ is))
  row_told act names left answer own stand rises fits known fit ready goes_on (resolve_refused k low high is) = plain_row refl (told.resolve_refused refl)

  answered_told : (asked : Asked) (names : Names) (left : Option Transaction) (answer : Body) (own : List Numbered) → AllByRecursion (IsEventOf history) own → s.seen ≤ m → IsAskedIn s.transaction asked → IsAskedBy (IsActKnown (take s.seen history)) asked → IsAskedBy (IsActFit mount (take s.seen history)) asked → IsRefusedAsked asked
      → ((t : Transaction) → s.transaction ≡ Some t → IsReady owner now own t) → is_memory answer ≡ false → IsAnswered fixed owner now s line asked names left answer own → RowTold history owner s line (bare_asked asked) answer names left
  answered_told asked names left answer own stand rises fits known fit refusal ready goes_on refused_line = plain_row refusal.no_blame told.line_refused
  answered_told asked names left answer own stand rises fits known fit refusal ready goes_on wanting = absurd (cc)
  answered_told asked names left answer own stand rises fits known fit refusal ready goes_on (done_line {act = act} row) = row_told act names left answer own stand rises fits known fit ready goes_on row

  -- nothing is added, and no number of an event printed
  quiet : {answer : Body} → numbers_in answer ≡ [] → failed_in answer ≡ [] → opened_in answer ≡ [] → ArePrinted [] answer
  quiet change fault anew = record { changes = sym change; faults = sym fault; openings = λ goes_on. sym anew; whole = λ i. sym change i ++ sym fault i }

  -- an answer prints the events that its row added
  row_printed : (act : Act) (names : Names) (left : Option Transaction) (answer : Body) (own : List Numbered) → IsRow fixed owner now s line act names left answer own → ArePrinted own answer
  row_printed act names left answer own (open_done opened built) = record { changes = opened_no_change opened; faults = opened_no_fault opened; openings = λ goes_on. opened_all opened; whole = all_openings opened }
  row_printed act names left answer own (open_refused {node = node} {leaf = leaf} opened refused) =
      let is = leaf_refusal node leaf refused.at _ refused.outcome answer refused.answered in
      record { changes = opened_no_change opened ∙ sym is.no_change; faults = opened_no_fault opened ∙ sym is.no_fault; openings = λ goes_on. opened_all opened ∙ sym is.openings; whole = all_openings opened ∙ (λ i. sym is.no_change i ++ (chosen_in legal_events.opens own ++ sym is.no_fault i)) }
  row_printed act names left answer own (open_unbuilt opened built) = record { changes = opened_no_change opened; faults = opened_no_fault opened; openings = λ goes_on. opened_all opened; whole = all_openings opened }
  row_printed act names left answer own (open_failed {own = added} {leaf = leaf} before opened failed) =
      let last = fault_at (before + 1) owner leaf.mount in
      let anew : chosen_in legal_events.opens (added ++ last) ≡ numbers_of added = chosen_in-append legal_events.opens added last ∙ append-nil (chosen_in legal_events.opens added) ∙ opened_all opened in
      record {
        changes = chosen_in-append is_commit_or_resize added last ∙ ap (λ l. l ++ []) (opened_no_change opened);
        faults = chosen_in-append is_fault added last ∙ ap (λ l. l ++ (before + 1) ∷ []) (opened_no_fault opened);
        openings = λ goes_on. anew;
        whole = numbers-append added last ∙ ap (λ ns. ns ++ (before + 1) ∷ []) (sym anew);
      }
  row_printed act names left answer own (open_wanting opened) = record { changes = opened_no_change opened; faults = opened_no_fault opened; openings = λ goes_on. absurd (cc); whole = all_openings opened }
  row_printed act names left answer own view_done = quiet refl refl refl
  row_printed act names left answer own (read_done shown) = quiet refl refl refl
  row_printed act names left answer own (read_shrunk shrunk) = quiet refl refl refl
  row_printed act names left answer own (read_damaged damaged) = quiet refl refl refl
  row_printed act names left answer own (read_failed before fetched) = record { changes = refl; faults = refl; openings = λ goes_on. refl; whole = refl }
  row_printed act names left answer own write_staged = quiet refl refl refl
  row_printed act names left answer own (write_done {view = view} {words = words} {left = rest} {answer = inner} commit) = written_printed (length words) own inner (commit_printed mount owner history m legal joint on (write_alone line view words) rest inner own commit)
  row_printed act names left answer own begin_done = quiet refl refl refl
  row_printed act names left answer own (commit_done {t = t} commit) = commit_printed mount owner history m legal joint on t left answer own commit
  row_printed act names left answer own abort_done = quiet refl refl refl
  row_printed act names left answer own (resize_done n may undamaged) = record { changes = refl; faults = refl; openings = λ goes_on. refl; whole = refl }
  row_printed act names left answer own (resize_many many) = quiet refl refl refl
  row_printed act names left answer own (resize_split few split) = quiet refl refl refl
  row_printed act names left answer own (resize_damaged may damaged) = quiet refl refl refl
  row_printed act names left answer own (resize_failed n may on_mount) = record { changes = refl; faults = refl; openings = λ goes_on. refl; whole = refl }
  row_printed act names left answer own (resolve_done k low high is) = quiet refl refl refl
  row_printed act names left answer own (resolve_refused k low high is) = quiet refl refl refl

  answered_printed : (asked : Asked) (names : Names) (left : Option Transaction) (answer : Body) (own : List Numbered) → IsRefusedAsked asked → IsAnswered fixed owner now s line asked names left answer own → ArePrinted own answer
  answered_printed asked names left answer own refusal refused_line = quiet refusal.no_change refusal.no_fault refusal.no_opening
  answered_printed asked names left answer own refusal wanting = quiet refl refl refl
  answered_printed asked names left answer own refusal (done_line {act = act} row) = row_printed act names left answer own row

each_later : (history : History) (n m : ℕ) → n ≤ m → (ops : List Op) → AllByRecursion (λ op. HasKnownRefs (take n history) (viewed op)) ops → AllByRecursion (λ op. HasKnownRefs (take m history) (viewed op)) ops
each_later history n m low [] all = tt
each_later history n m low (op ∷ ops) all = (view_later history n m low (viewed op) all.0, each_later history n m low ops all.1)

module _ (mount : Text) (owner : ℕ) (history : History) (legal : IsLegal finmap.empty history) (joint : AreJoint history) (on : AreOnMount mount history) (s : SessionState) (line : ℕ) (asked : Line) (next : SessionState) (answer : Body) (step : SessionStep (single_store mount) owner history s line asked next answer) where
  abbrev added : List Numbered
  added = own_events owner (s.seen + 1) (drop s.seen (take next.seen history))

  -- what a step shows
  pub step_told : IsLineOn mount asked → IsLineWithin asked → AreKnown (take s.seen history) s.names s.transaction → HasTransaction finmap.empty (take s.seen history) s.transaction → HasQuiet owner s.seen history s.transaction → is_memory answer ≡ false
      → RowTold history owner s line (act_of s.names (bare_of s.transaction) asked) answer next.names next.transaction
  step_told lies within known stands quiet goes_on =
      let rises = step.rises in
      let high = step.within in
      subst (λ what. RowTold history owner s line what answer next.names next.transaction) (sym (act_of-bare s.names s.transaction asked))
      (answered_told mount owner history next.seen legal joint on s line (act_of s.names s.transaction asked) next.names next.transaction answer added (own_of_step owner history s.seen next.seen rises high) rises (act_of-in s.names s.transaction asked)
      (act_of-known (take s.seen history) s.names s.transaction asked known.0 within) (act_of-fit mount (take s.seen history) s.names s.transaction asked known.0 lies) (act_of-refused s.names s.transaction asked)
      (λ t is. record {
        reads = subst (HasTransaction finmap.empty (take next.seen history)) is (kept_later finmap.empty history s.seen next.seen s.transaction legal rises stands);
        quiet = λ none. seen_quiet owner s.seen history t (omega (arith, rises, high)) (subst (HasQuiet owner s.seen history) is quiet) next.seen rises high (subst (AllByRecursion IsNoChange) (sym none) tt);
        refs = each_later history s.seen next.seen rises t.ops (subst (AreKnownOps (take s.seen history)) is known.1);
      })
      goes_on step.row)

  -- its answer prints the events that it added
  pub step_printed : ArePrinted added answer
  step_printed = answered_printed mount owner history next.seen legal joint on s line (act_of s.names s.transaction asked) next.names next.transaction answer added (act_of-refused s.names s.transaction asked) step.row
