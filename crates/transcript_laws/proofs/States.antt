-- What each line of a run states, and how its session stands behind it.
use Rattle.std.proofs.Common.{◌≡◌, ℕ, ◌+◌, List, [], ◌∷◌, ◌++◌, length, take, Bool, true, false, cond, Option, Some, None, Ok, refl, sym, ap, ap₂, subst, ◌∙◌, append-nil, arith}
use Rattle.std.specs.Prelude.{codes, filter_map}
use Rattle.std.specs.List.{AllByRecursion}
use Rattle.std.specs.FinMap as finmap
use Rattle.serde_json.specs.Data.{Data}
use Rattle.serde_json.specs.Find.{get}
use Rattle.stack_driver.specs.References.{Reference}
use Rattle.stack_driver.specs.Views.{look_of}
use Rattle.stack_driver.specs.declared.view.View.{View}
use Rattle.answer_data.specs.Answers.{answer_data}
use Rattle.answer_data.proofs.Laws.{nested_words-values_data}
use Rattle.history.specs.declared.array.Home.{Home}
use Rattle.history.specs.declared.array.Home.TheVariants.{Zarr, N5, Zarr3, Local}
use Rattle.history.specs.declared.event.Op.TheVariants.{Read}
use Rattle.history.specs.Acts.{Act, Asked, opens, reads}
use Rattle.history.specs.Alone.{single_store, AreOnMount, IsLeafOn}
use Rattle.history.specs.Answers as body
use Rattle.history.specs.Answers.{Body, Text}
use Rattle.history.specs.Arrays.{Known, known_after, is_local}
use Rattle.history.specs.Commit.{Fixed, Transaction, commit_events, kept_ops, done}
use Rattle.history.specs.CommitRows.{IsCommit, conflicts, is_shrunk, is_split, is_damaged, is_done, is_failed, is_wanting, own_part, left_by}
use Rattle.history.specs.History.{History}
use Rattle.history.specs.Leaves.{Leaf}
use Rattle.history.specs.Legal.{IsLegal}
use Rattle.history.specs.Lines.{SpecLeaf, stored, Build}
use Rattle.history.specs.OpenRows.{AreOpened, no_leaf, known_leaf, new_leaf, given_leaf, IsRefusal}
use Rattle.history.specs.Outcomes.{Outcome, path_taken, bad_metadata, exists, mismatch, there, found, not_found, bad_want, made}
use Rattle.history.specs.Own as own
use Rattle.history.specs.Own.{Numbered, numbered, fault, fault_at}
use Rattle.history.specs.ReadRows.{with_read, mount_of, IsOnMount}
use Rattle.history.specs.Reads.{Marks}
use Rattle.history.specs.Sessions.{Names, SessionState, bind}
use Rattle.history.specs.Steps.{as_written, write_alone, is_memory, IsRow, open_done, open_refused, open_unbuilt, open_failed, open_wanting, view_done, read_done, read_shrunk, read_damaged, read_failed, write_staged, write_done, begin_done, commit_done, abort_done, resize_done, resize_many, resize_split, resize_damaged, resize_failed, resolve_done, resolve_refused, IsAnswered, refused_line, wanting, done_line}
use Rattle.history.specs.Viewing.{shape_of, values_body}
use Rattle.history.proofs.ActFits.{IsActIn, IsAskedIn}
use Rattle.history.proofs.AloneCommits.{bare, one_event}
use Rattle.history.proofs.AloneKeys.{commit_together}
use Rattle.history.proofs.AloneMount.{IsActOn, IsActFit, front_on}
use Rattle.history.proofs.AloneOpens.{no_bytes}
use Rattle.history.proofs.AloneSteps.{bare_of, bare_act, bare_asked}
use Rattle.history.proofs.Asking.{IsAskedBy}
use Rattle.history.proofs.Laws.{legal_take, some_inj}
use Rattle.serial_runs.specs.Numbered as serial
use Rattle.serial_runs.proofs.Opened.{opened_later}
use Rattle.serial_runs.proofs.Refused.{leaf_refusal}
use Rattle.transcript_laws.specs.Transcript.{mount}
use Rattle.transcript_laws.specs.Claimed.{at_number, opening_of, commits_at, faults_at, stated_by, stated_asked}
use Rattle.transcript_laws.specs.Fitting.{printed_at}
use Rattle.transcript_laws.specs.Numbers.{opened_in, done_in, failed_in, damaged_in}
use Rattle.transcript_laws.specs.Standings.{Standing, names_opened, words_given, left_told, standing_by, standing_asked}
use Rattle.transcript_laws.specs.Takings.{takings, opened_view, built_view}
use Rattle.transcript_laws.specs.Outputs.{HasWords}
use Rattle.transcript_laws.proofs.Bodies.{IsCounted, body_numbers}
use Rattle.transcript_laws.proofs.Checked.{IsCheckedAct}
use Rattle.transcript_laws.proofs.Opens.{AreServed, served}
use Rattle.transcript_laws.proofs.Places.{AreUnresized}

-- a session as its lines and answers show it
abbrev pub standing_of : SessionState → Standing
standing_of s = record { names = s.names; transaction = bare_of s.transaction }

-- what is stored on a mount isn't local
stored_home : (home : Home) (other : Text) → mount_of home ≡ Some other → is_local home ≡ false
stored_home (Zarr name path meta) other is = refl
stored_home (N5 name path meta) other is = refl
stored_home (Zarr3 name path meta) other is = refl
stored_home (Local start) other is = absurd (cc)

-- all arrays lie on the one mount
pub same_mount : (events : History) (a : ℕ) (other : Text) → AreOnMount mount events → IsOnMount other (known_after events a) → other ≡ mount
same_mount events a other on = by (known_after events a) refl
  where
    by : (o : Option Known) → known_after events a ≡ o → IsOnMount other o → other ≡ mount
    by None known is = absurd is
    by (Some k) known is = some_inj other mount (sym is ∙ on a k known (stored_home k.info.home other is))

-- leaves that are left lie on the mount as all do
left_on : {owner : ℕ} {events : History} {seen : ℕ} {leaves : List SpecLeaf} {refs : List Reference} {os : List Numbered} {now : ℕ} {rest : List SpecLeaf} → AllByRecursion (IsLeafOn mount) leaves → AreOpened finmap.empty owner events seen leaves refs os now rest
    → AllByRecursion (IsLeafOn mount) rest
left_on on no_leaf = on
left_on on (known_leaf at k older within outcome more) = left_on on.1 more
left_on on (new_leaf at meta older within new more) = left_on on.1 more
left_on on (given_leaf at older within more) = left_on on.1 more

left_bare : (t : Transaction) (done failed : List ℕ) (damaged : Bool) → left_told (bare t) done failed damaged ≡ bare_of (left_told t done failed damaged)
left_bare t [] [] true = refl
left_bare t [] [] false = refl
left_bare t [] (n ∷ failed) damaged = refl
left_bare t (m ∷ done) failed damaged = refl

bare_kept : (b : Bool) (t : Transaction) (view : View) (words : List ℕ) (marks : Marks) → cond b (record (bare t) { ops = t.ops ++ Read view words ∷ []; marks = [] }) (bare t) ≡ bare (cond b (record t { ops = t.ops ++ Read view words ∷ []; marks = marks }) t)
bare_kept true t view words marks = refl
bare_kept false t view words marks = refl

bare_read : (t : Option Transaction) (view : View) (words : List ℕ) (marks : Marks) → with_read (bare_of t) view words [] ≡ bare_of (with_read t view words marks)
bare_read None view words marks = refl
bare_read (Some t) view words marks = ap Some (bare_kept t.mode.repeatable_read t view words marks)

-- an answer to a leaf that is refused binds no name
unbound : (line : ℕ) (node : Text) (leaf : Leaf) (at : ℕ) (numbers : List ℕ) (outcome : Outcome) (answer : Body) → IsCounted answer → IsRefusal node leaf at numbers outcome answer → get (codes "open") (answer_data (printed_at line answer)) ≡ None
unbound line node leaf at numbers (path_taken other) answer counted is = ap (λ b. get (codes "open") (answer_data (printed_at line b))) is
unbound line node leaf at numbers (bad_metadata bytes) answer counted is = absurd (subst IsCounted is.2 counted)
unbound line node leaf at numbers exists answer counted is = ap (λ b. get (codes "open") (answer_data (printed_at line b))) is
unbound line node leaf at numbers (mismatch member) answer counted is = ap (λ b. get (codes "open") (answer_data (printed_at line b))) is
unbound line node leaf at numbers (there array) answer counted is = absurd is
unbound line node leaf at numbers (found meta) answer counted is = absurd is
unbound line node leaf at numbers not_found answer counted is = ap (λ b. get (codes "open") (answer_data (printed_at line b))) is
unbound line node leaf at numbers (bad_want member) answer counted is = ap (λ b. get (codes "open") (answer_data (printed_at line b))) is
unbound line node leaf at numbers (made meta) answer counted is = absurd is

written_numbers : (cells : ℕ) (inner : Body) → serial.numbers_in (as_written cells inner) ≡ serial.numbers_in inner
written_numbers cells (body.committed events) = refl
written_numbers cells inner = refl

written_failed : (cells : ℕ) (inner : Body) → serial.failed_in (as_written cells inner) ≡ serial.failed_in inner
written_failed cells (body.committed events) = refl
written_failed cells inner = refl

written_memory : (cells : ℕ) (inner : Body) → is_memory (as_written cells inner) ≡ false → is_memory inner ≡ false
written_memory cells (body.committed events) goes_on = refl
written_memory cells inner goes_on = goes_on

module _ (owner : ℕ) (history : History) (legal : IsLegal finmap.empty history) (still : AreUnresized history) (on : AreOnMount mount history) (m : ℕ) where
  abbrev fixed : Fixed
  fixed = single_store mount

  abbrev now : History
  now = take m history

  on_now : AreOnMount mount now
  on_now = front_on mount finmap.empty history m legal on

  on_then : (n : ℕ) → AreOnMount mount (take n now)
  on_then n = front_on mount finmap.empty now n (legal_take finmap.empty history m legal) on_now

  one : (n : ℕ) (t : Transaction) → commit_events fixed (take n now) owner t ≡ done owner t (kept_ops t) None ∷ []
  one n t = one_event fixed (take n now) owner t (commit_together mount (take n now) t.ops (on_then n))

  -- what a commit's answer, printed with its line's number, tells: its events, and the transaction that stands then
  record TellsCommit (line : ℕ) (t : Transaction) (left : Option Transaction) (answer : Body) (os : List Numbered) : Type 0 where
    events : commits_at owner t (serial.numbers_in answer) ++ faults_at owner (serial.failed_in answer) ≡ os
    left_is : left_told t (serial.numbers_in answer) (serial.failed_in answer) (damaged_in (answer_data (printed_at line answer))) ≡ left

  commit_tells : (line : ℕ) (t : Transaction) (left : Option Transaction) (answer : Body) (os : List Numbered) → is_memory answer ≡ false → IsCommit fixed owner now t left answer os → TellsCommit line t left answer os
  commit_tells line t left answer os goes_on (conflicts conflict) = record { events = refl; left_is = refl }
  commit_tells line t left answer os goes_on (is_shrunk free shrunk) = record { events = refl; left_is = refl }
  commit_tells line t left answer os goes_on (is_split free present split) = record { events = refl; left_is = refl }
  commit_tells line t left answer os goes_on (is_damaged may damage) = absurd (no_bytes _ damage.spoiled.damaged.bytes damage.spoiled.damaged.held)
  commit_tells line t left answer os goes_on (is_done n may undamaged) =
      subst (λ es. TellsCommit line t None (body.committed (own.numbers_of (numbered (n + 1) es))) (numbered (n + 1) es)) (sym (one n t)) (record { events = refl; left_is = refl })
  commit_tells line t left answer os goes_on (is_failed n count other part changed) =
      let none = part.together (commit_together mount (take n now) t.ops (on_then n)) in
      let place : other ≡ mount = same_mount (take n now) changed.put.0.array other (on_then n) changed.on_mount in
      subst (λ k. TellsCommit line t (left_by k t) (body.store_failed (n + k + 1) (own.numbers_of (own_part fixed owner now n t k)) None) (own_part fixed owner now n t k ++ record { number = n + k + 1; event = fault owner other } ∷ [])) (sym none)
      (record { events = ap (λ name. at_number (n + 0 + 1) (fault owner name) ∷ []) (sym place); left_is = refl })
  commit_tells line t left answer os goes_on (is_wanting n count part) = absurd (cc)

  module _ (s : SessionState) (line : ℕ) where
    -- what a row's answer states, and how the session stands behind it
    pub record RowStates (act : Act) (names : Names) (left : Option Transaction) (answer : Body) (os : List Numbered) : Type 0 where
      pub stated : stated_by history owner line act (answer_data (printed_at line answer)) ≡ os
      pub stands : standing_by history (standing_of s) line act (answer_data (printed_at line answer)) ≡ record { names = names; transaction = bare_of left }

    -- what an open line states
    open_stated : (name : Text) (leaves rest : List SpecLeaf) (build : Build) (refs : List Reference) (answer : Body) (os : List Numbered) (faults : List ℕ) → AreServed owner history leaves os refs rest
        → opened_in (answer_data (printed_at line answer)) ≡ own.numbers_of os → failed_in (answer_data (printed_at line answer)) ≡ faults → stated_by history owner line (opens name leaves build) (answer_data (printed_at line answer)) ≡ os ++ faults_at owner faults
    open_stated name leaves rest build refs answer os faults is numbers failed =
        ap₂ (λ ns fs. filter_map (opening_of history owner) (takings history leaves ns) ++ faults_at owner fs) numbers failed
        ∙ ap (λ xs. xs ++ faults_at owner faults) is.stated

    -- where it binds no name
    open_stands : (name : Text) (leaves : List SpecLeaf) (build : Build) (answer : Body) → get (codes "open") (answer_data (printed_at line answer)) ≡ None
        → standing_by history (standing_of s) line (opens name leaves build) (answer_data (printed_at line answer)) ≡ standing_of s
    open_stands name leaves build answer none =
        ap (λ o. record (standing_of s) { names = names_opened s.names name o (opened_view history (takings history leaves (opened_in (answer_data (printed_at line answer)))) build) }) none

    -- where it binds one
    open_binds : (name : Text) (leaves : List SpecLeaf) (build : Build) (refs : List Reference) (view : View) (os : List Numbered) (answer : Body) (said : Data) → AreServed owner history leaves os refs [] → build refs ≡ Ok view
        → opened_in (answer_data (printed_at line answer)) ≡ own.numbers_of os → get (codes "open") (answer_data (printed_at line answer)) ≡ Some said
        → standing_by history (standing_of s) line (opens name leaves build) (answer_data (printed_at line answer)) ≡ record { names = bind s.names name view; transaction = bare_of s.transaction }
    open_binds name leaves build refs view os answer said is built numbers bound =
        let arrays : opened_view history (takings history leaves (own.numbers_of os)) build ≡ Some view = ap (view_over build) (is.arrays refl) ∙ ap built_view built in
        ap₂ (λ o ns. record (standing_of s) { names = names_opened s.names name o (opened_view history (takings history leaves ns) build) }) bound numbers
        ∙ ap (λ o. record (standing_of s) { names = names_opened s.names name (Some said) o }) arrays
      where
        view_over : Build → Option (List Reference) → Option View
        view_over f None = None
        view_over f (Some rs) = built_view (f rs)

    -- a write's or a commit's
    commit_stated : (t : Transaction) (answer : Body) (os : List Numbered) (numbers failed : List ℕ) → done_in (answer_data (printed_at line answer)) ≡ numbers → failed_in (answer_data (printed_at line answer)) ≡ failed
        → commits_at owner t numbers ++ faults_at owner failed ≡ os
        → commits_at owner t (done_in (answer_data (printed_at line answer))) ++ faults_at owner (failed_in (answer_data (printed_at line answer))) ≡ os
    commit_stated t answer os numbers failed dones fails is = ap₂ (λ ns fs. commits_at owner t ns ++ faults_at owner fs) dones fails ∙ is

    read_stands : (view : View) (words : List ℕ) (marks : Marks) → HasWords (values_body view None words)
        → standing_by history (standing_of s) line (reads view None) (answer_data (printed_at line (values_body view None words))) ≡ record { names = s.names; transaction = bare_of (with_read s.transaction view words marks) }
    read_stands view words marks has =
        ap (λ r. record (standing_of s) { transaction = with_read (bare_of s.transaction) view (words_given r) [] }) (nested_words-values_data (look_of view).dtype (shape_of view) words has.0 has.1)
        ∙ ap (λ t. record (standing_of s) { transaction = t }) (bare_read s.transaction view words marks)

    row_states : (act : Act) (names : Names) (left : Option Transaction) (answer : Body) (os : List Numbered) → IsCheckedAct act → IsActIn s.transaction act → IsActOn mount act → IsCounted answer → HasWords answer → is_memory answer ≡ false
        → IsRow fixed owner now s line act names left answer os → RowStates (bare_act act) names left answer os
    row_states act names left answer os checked fits lie counted words goes_on (open_done {name = name} {leaves = leaves} {build = build} {refs = refs} {view = view} opened built) =
        let is = served owner history legal still (opened_later history m 0 (omega arith) opened).1 in
        let b = body_numbers line answer counted in
        record {
          stated = open_stated name leaves [] build refs answer os [] is b.opened b.failed ∙ append-nil os;
          stands = open_binds name leaves build refs view os answer _ is built b.opened refl;
        }
    row_states act names left answer os checked fits lie counted words goes_on (open_refused {name = name} {leaves = leaves} {rest = rest} {build = build} {refs = refs} {node = node} {leaf = leaf} opened refused) =
        let is = served owner history legal still (opened_later history m 0 (omega arith) opened).1 in
        let b = body_numbers line answer counted in
        let told = leaf_refusal node leaf refused.at (own.numbers_of os) refused.outcome answer refused.answered in
        record {
          stated = open_stated name leaves (stored node leaf ∷ rest) build refs answer os [] is (b.opened ∙ told.openings) (b.failed ∙ told.no_fault) ∙ append-nil os;
          stands = open_stands name leaves build answer (unbound line node leaf refused.at (own.numbers_of os) refused.outcome answer counted refused.answered);
        }
    row_states act names left answer os checked fits lie counted words goes_on (open_unbuilt {name = name} {leaves = leaves} {build = build} {refs = refs} opened built) =
        let is = served owner history legal still (opened_later history m 0 (omega arith) opened).1 in
        let b = body_numbers line answer counted in
        record {
          stated = open_stated name leaves [] build refs answer os [] is b.opened b.failed ∙ append-nil os;
          stands = open_stands name leaves build answer refl;
        }
    row_states act names left answer os checked fits lie counted words goes_on (open_failed {name = name} {leaves = leaves} {rest = rest} {build = build} {refs = refs} {own = added} {node = node} {leaf = leaf} before opened failed) =
        let is = served owner history legal still (opened_later history m 0 (omega arith) opened).1 in
        let b = body_numbers line answer counted in
        let place : leaf.mount ≡ mount = (left_on lie opened).0 in
        record {
          stated =
              open_stated name leaves (stored node leaf ∷ rest) build refs answer added ((before + 1) ∷ []) is b.opened b.failed
              ∙ ap (λ other. added ++ at_number (before + 1) (fault owner other) ∷ []) (sym place);
          stands = open_stands name leaves build answer refl;
        }
    row_states act names left answer os checked fits lie counted words goes_on (open_wanting opened) = absurd (cc)
    row_states act names left answer os checked fits lie counted words goes_on view_done = record { stated = refl; stands = refl }
    row_states act names left answer os checked fits lie counted words goes_on (read_done {view = view} {down = None} {words = shown} {marks = marks} read) = record { stated = refl; stands = read_stands view shown marks words }
    row_states act names left answer os checked fits lie counted words goes_on (read_done {view = view} {down = Some down} {words = shown} {marks = marks} read) = absurd (cc)
    row_states act names left answer os checked fits lie counted words goes_on (read_shrunk shrunk) = record { stated = refl; stands = refl }
    row_states act names left answer os checked fits lie counted words goes_on (read_damaged damaged) = absurd (no_bytes _ damaged.damaged.bytes damaged.damaged.held)
    row_states act names left answer os checked fits lie counted words goes_on (read_failed {mount = other} before fetched) =
        let place : other ≡ mount = same_mount now fetched.chunk.array other on_now fetched.on_mount in
        record { stated = ap (λ name. at_number (before + 1) (fault owner name) ∷ []) (sym place); stands = refl }
    row_states act names left answer os checked fits lie counted words goes_on write_staged = record { stated = refl; stands = refl }
    row_states act names left answer os checked fits lie counted words goes_on (write_done {view = view} {words = given_words} {left = rest} {answer = inner} commit) =
        let b = body_numbers line answer counted in
        let is = commit_tells line (write_alone line view given_words) rest inner os (written_memory (length given_words) inner goes_on) commit in
        record {
          stated = commit_stated (write_alone line view given_words) answer os (serial.numbers_in inner) (serial.failed_in inner) (b.done ∙ written_numbers (length given_words) inner) (b.failed ∙ written_failed (length given_words) inner) is.events;
          stands = ap (λ t. record (standing_of s) { transaction = bare_of t }) fits;
        }
    row_states act names left answer os checked fits lie counted words goes_on begin_done = record { stated = refl; stands = refl }
    row_states act names left answer os checked fits lie counted words goes_on (commit_done {t = t} commit) =
        let b = body_numbers line answer counted in
        let is = commit_tells line t left answer os goes_on commit in
        let damaged = damaged_in (answer_data (printed_at line answer)) in
        record {
          stated = commit_stated t answer os (serial.numbers_in answer) (serial.failed_in answer) b.done b.failed is.events;
          stands =
              ap₂ (λ ns fs. record (standing_of s) { transaction = left_told (bare t) ns fs damaged }) b.done b.failed
              ∙ ap (λ u. record (standing_of s) { transaction = u }) (left_bare t (serial.numbers_in answer) (serial.failed_in answer) damaged ∙ ap bare_of is.left_is);
        }
    row_states act names left answer os checked fits lie counted words goes_on abort_done = record { stated = refl; stands = refl }
    row_states act names left answer os checked fits lie counted words goes_on (resize_done n may undamaged) = absurd checked
    row_states act names left answer os checked fits lie counted words goes_on (resize_many many) = absurd checked
    row_states act names left answer os checked fits lie counted words goes_on (resize_split few split) = absurd checked
    row_states act names left answer os checked fits lie counted words goes_on (resize_damaged may damaged) = absurd checked
    row_states act names left answer os checked fits lie counted words goes_on (resize_failed n may on_mount) = absurd checked
    row_states act names left answer os checked fits lie counted words goes_on (resolve_done k low high is) = absurd checked
    row_states act names left answer os checked fits lie counted words goes_on (resolve_refused k low high is) = absurd checked

    -- the same of a line, refused or not
    pub record LineStates (asked : Asked) (names : Names) (left : Option Transaction) (answer : Body) (os : List Numbered) : Type 0 where
      pub stated : stated_asked history owner line asked (answer_data (printed_at line answer)) ≡ os
      pub stands : standing_asked history (standing_of s) line asked (answer_data (printed_at line answer)) ≡ record { names = names; transaction = bare_of left }

    pub answered_states : (asked : Asked) (names : Names) (left : Option Transaction) (answer : Body) (os : List Numbered) (known : History) → IsAskedBy IsCheckedAct asked → IsAskedIn s.transaction asked → IsAskedBy (IsActFit mount known) asked → IsCounted answer
        → HasWords answer → is_memory answer ≡ false → IsAnswered fixed owner now s line asked names left answer os → LineStates (bare_asked asked) names left answer os
    answered_states asked names left answer os known checked fits lie counted words goes_on refused_line = record { stated = refl; stands = refl }
    answered_states asked names left answer os known checked fits lie counted words goes_on wanting = absurd (cc)
    answered_states asked names left answer os known checked fits lie counted words goes_on (done_line {act = act} row) =
        let is = row_states act names left answer os checked fits lie.0 counted words goes_on row in
        record { stated = is.stated; stands = is.stands }
