-- Each answer of a run is one that its line may have.
use Rattle.std.proofs.Common.{◌≡◌, ℕ, ◌+◌, ◌-◌, ◌≤◌, List, [], ◌∷◌, ◌++◌, length, map, take, take-take, Bool, true, false, cond, Option, Some, None, refl, sym, ap, ap₂, subst, ◌∙◌, arith, append-nil, length-take}
use Rattle.std.specs.Prelude.{IsTrue, ◌==◌, Contains}
use Rattle.std.specs.List.{AllByRecursion}
use Rattle.std.specs.FinMap as finmap
use Rattle.stack_driver.specs.declared.view.View.{View}
use Rattle.history.specs.Acts.{Act, Asked, opens, writes, commits}
use Rattle.history.specs.Alone.{single_store, AreOnMount}
use Rattle.history.specs.Answers as body
use Rattle.history.specs.Answers.{Body, Text}
use Rattle.history.specs.Commit.{Fixed, Transaction, commit_events, kept_ops, done}
use Rattle.history.specs.CommitRows.{IsCommit, conflicts, is_shrunk, is_split, is_damaged, is_done, is_failed, is_wanting, own_part, IsChangedOn}
use Rattle.history.specs.History.{History}
use Rattle.history.specs.Legal.{IsLegal, viewed}
use Rattle.history.specs.Own as own
use Rattle.history.specs.Own.{Numbered, numbered, fault}
use Rattle.history.specs.Arrays.{known_after}
use Rattle.history.specs.ReadRows.{with_read, IsOnMount}
use Rattle.history.specs.Reads.{Marks, first_reads, footprint_of, has_mark, unwritten, visible_values}
use Rattle.history.specs.Refs.{HasKnownRefs}
use Rattle.history.specs.Chunks.{chunk_of}
use Rattle.history.specs.Sessions.{Names, SessionState, reader}
use Rattle.history.specs.Shown.{IsRead}
use Rattle.history.specs.Staged.{IsTransaction, AreWithin}
use Rattle.history.specs.Steps.{as_written, write_alone, is_memory, IsRow, open_done, open_refused, open_unbuilt, open_failed, open_wanting, view_done, read_done, read_shrunk, read_damaged, read_failed, write_staged, write_done, begin_done, commit_done, abort_done, resize_done, resize_many, resize_split, resize_damaged, resize_failed, resolve_done, resolve_refused, IsAnswered, refused_line, wanting, done_line}
use Rattle.history.specs.Viewing.{values_body}
use Rattle.history.specs.Writes.{puts_of}
use Rattle.history.proofs.ActFits.{IsActIn, IsAskedIn}
use Rattle.history.proofs.AloneCommits.{bare, one_event}
use Rattle.history.proofs.AloneKeys.{commit_together}
use Rattle.history.proofs.AloneMount.{front_on}
use Rattle.history.proofs.AloneOpens.{no_bytes}
use Rattle.history.proofs.AloneSteps.{bare_of, bare_act, bare_asked}
use Rattle.history.proofs.Asking.{IsAskedBy}
use Rattle.history.proofs.Laws.{legal_take, view_later}
use Rattle.history.proofs.Quiet.{IsQuiet, all_parts}
use Rattle.history.proofs.StepsKnown.{IsActKnown}
use Rattle.serial_runs.specs.Numbered as serial
use Rattle.serial_runs.proofs.Commits.{AreJoint}
use Rattle.serial_runs.proofs.Refused.{leaf_refusal}
use Rattle.serial_runs.proofs.Shrunk.{cut_off, puts_lie}
use Rattle.transcript_laws.specs.Fitting as fitting
use Rattle.transcript_laws.specs.Fitting.{IsSeen, IsActAnswer, IsAnswer}
use Rattle.transcript_laws.specs.Opening as opening
use Rattle.transcript_laws.specs.Opening.{IsOpenAnswer}
use Rattle.transcript_laws.specs.Transcript.{mount, Told}
use Rattle.transcript_laws.specs.Numbers.{numbers_of}
use Rattle.transcript_laws.specs.Windows.{Window, last_of, before_first, lines_before}
use Rattle.transcript_laws.proofs.Bounds.{AreUpTo, AreAbove, last_of_le, before_first_ge, up_to_later, up_to_with, before_up_to}
use Rattle.transcript_laws.proofs.Checked.{IsCheckedAct}
use Rattle.transcript_laws.proofs.Marked.{base, IsKnownMark, HaveMarks, have_later, marks_later, begun_marks, staged_marks, read_marks, marks_of_read}
use Rattle.transcript_laws.proofs.OpenFits.{opened_end, opened_up_to, opened_within, all_opened, stopped_at, refused_at, failed_at}
use Rattle.transcript_laws.proofs.Places.{AreUnresized}
use Rattle.transcript_laws.proofs.Refusing.{no_event, unresized_take, marks_within, never_shrunk, fetched_told, conflict_told}
use Rattle.transcript_laws.proofs.Seen.{AreFrom, sees}
use Rattle.transcript_laws.proofs.States.{same_mount}

-- what holds of a transaction when it is to be committed
pub record IsReady (owner : ℕ) (now : History) (os : List Numbered) (t : Transaction) : Type 0 where
  pub stands : IsTransaction finmap.empty now t
  pub quiet : os ≡ [] → IsQuiet owner (length now) now t
  pub refs : AllByRecursion (λ op. HasKnownRefs now (viewed op)) t.ops

same_ops : (line : ℕ) (t : Option Transaction) → (reader line (bare_of t)).ops ≡ (reader line t).ops
same_ops line None = refl
same_ops line (Some t) = refl

not_asked : IsTrue false → ⊥
not_asked e = absurd (cc)

module _ (owner : ℕ) (history : History) (legal : IsLegal finmap.empty history) (still : AreUnresized history) (on : AreOnMount mount history) (joint : AreJoint history) (s : SessionState) (m : ℕ) (rises : s.seen ≤ m) (within : m ≤ length history) (line : ℕ)
    (earlier : List Told) (later : List ℕ) (old : AreUpTo s.seen (numbers_of earlier)) (new : AreAbove m later) where
  abbrev fixed : Fixed
  fixed = single_store mount

  abbrev now : History
  now = take m history

  legal_now : IsLegal finmap.empty now
  legal_now = legal_take finmap.empty history m legal

  on_now : AreOnMount mount now
  on_now = front_on mount finmap.empty history m legal on

  on_then : (n : ℕ) → AreOnMount mount (take n now)
  on_then n = front_on mount finmap.empty now n legal_now on_now

  one : (n : ℕ) (t : Transaction) → commit_events fixed (take n now) owner t ≡ done owner t (kept_ops t) None ∷ []
  one n t = one_event fixed (take n now) owner t (commit_together mount (take n now) t.ops (on_then n))

  now_size : length now ≤ m
  now_size = omega (arith, length-take m history)

  -- the window of the line with an answer
  abbrev pub window : Body → Window
  window answer = record {
    from = last_of (numbers_of (lines_before (bare_of s.transaction) earlier) ++ serial.opened_in answer);
    upto = before_first (length history) ((serial.numbers_in answer ++ serial.failed_in answer) ++ later);
  }

  abbrev Fits : Act → Body → Type 0
  Fits act answer = IsActAnswer history owner (window answer) (bare_of s.transaction) line (serial.opened_in answer) (bare_act act) answer

  base_low : base (bare_of s.transaction) earlier ≤ s.seen
  base_low = last_of_le s.seen (numbers_of (lines_before (bare_of s.transaction) earlier)) (before_up_to s.seen (bare_of s.transaction) earlier old)

  -- a line without a commit or a failed call looks at events up to those seen at least
  high : (ns : List ℕ) → ns ≡ [] → m ≤ before_first (length history) (ns ++ later)
  high ns none = subst (λ l. m ≤ before_first (length history) (l ++ later)) (sym none) (before_first_ge m (length history) later within new)

  -- an open line's window begins no later than its last leaf was opened
  from_low : (end : ℕ) (os : List ℕ) → s.seen ≤ end → AreUpTo end os → last_of (numbers_of (lines_before (bare_of s.transaction) earlier) ++ os) ≤ end
  from_low end os low all =
      last_of_le end (numbers_of (lines_before (bare_of s.transaction) earlier) ++ os)
      (up_to_with end (numbers_of (lines_before (bare_of s.transaction) earlier)) os (up_to_later s.seen end (numbers_of (lines_before (bare_of s.transaction) earlier)) low (before_up_to s.seen (bare_of s.transaction) earlier old)) all)

  -- the transaction that a read belongs to
  reader_from : (t : Option Transaction) → HaveMarks history legal line earlier t → AreFrom (base (bare_of t) earlier) (reader line t).marks
  reader_from None has = tt
  reader_from (Some t) has = has.from

  reader_known : (t : Option Transaction) → HaveMarks history legal line earlier t → AllByRecursion (IsKnownMark history legal) (reader line t).marks
  reader_known None has = tt
  reader_known (Some t) has = has.known

  reader_covered : (t : Option Transaction) → HaveMarks history legal line earlier t → AllByRecursion (λ x. has_mark (reader line t).marks (chunk_of history x) ≡ true) (first_reads [] (reader line t).ops)
  reader_covered None has = tt
  reader_covered (Some t) has = has.covered

  reader_within : (t : Option Transaction) → ((u : Transaction) → t ≡ Some u → AreWithin (length now) u.marks) → AreWithin (length now) (reader line t).marks
  reader_within None each = tt
  reader_within (Some t) each = each t refl

  read_seen : (view : View) (words : List ℕ) (marks : Marks) → HasKnownRefs (take s.seen history) view → HaveMarks history legal line earlier s.transaction → AreWithin (length now) (reader line s.transaction).marks → IsRead fixed now s.seen (reader line s.transaction) view words marks
      → IsSeen history (window (values_body view None words)) (reader line (bare_of s.transaction)) view words
  read_seen view words marks refs has near read =
      let low : last_of (numbers_of (lines_before (bare_of s.transaction) earlier) ++ []) ≡ base (bare_of s.transaction) earlier = ap last_of (append-nil (numbers_of (lines_before (bare_of s.transaction) earlier))) in
      let ms =
      marks_of_read history legal s.seen m rises within (base (bare_of s.transaction) earlier) (reader line s.transaction) view marks refs base_low (reader_from s.transaction has) (reader_known s.transaction has) read.marked in
      let top = high [] refl in
      let seen =
      sees history m legal (base (bare_of s.transaction) earlier) (before_first (length history) later) s.seen (reader line s.transaction) view words marks (marks_within history legal still s.seen m rises within (reader line s.transaction) view marks near read.marked) ms.from_is
      (omega (arith, base_low, rises, top)) (omega (arith, top, now_size)) read in
      let here : IsSeen history (record { from = base (bare_of s.transaction) earlier; upto = before_first (length history) later }) (reader line (bare_of s.transaction)) view words =
      record { marks = seen.marks; within = seen.within; shown = subst (λ ops. map Some words ≡ visible_values finmap.empty history seen.marks ops view) (sym (same_ops line s.transaction)) seen.shown } in
      subst (λ from. IsSeen history (record { from = from; upto = before_first (length history) later }) (reader line (bare_of s.transaction)) view words) (sym low) here

  -- a failed call of a commit
  changed_then : (n : ℕ) (t u : Transaction) (other : Text) → n ≤ m → t.ops ≡ u.ops → IsChangedOn (take n now) t other → IsChangedOn (take (n + 0) history) u mount
  changed_then n t u other low same changed =
      let none : n + 0 ≡ n = omega arith in
      let place : other ≡ mount = same_mount (take n now) changed.put.0.array other (on_then n) changed.on_mount in
      let here : IsChangedOn (take n now) u mount =
      record { put = changed.put; among = subst (λ ops. Contains (puts_of ops) changed.put) same changed.among; on_mount = subst (λ name. IsOnMount name (known_after (take n now) changed.put.0.array)) place changed.on_mount } in
      subst (λ h. IsChangedOn h u mount) (take-take n m history low ∙ ap (λ k. take k history) (sym none)) here

  commit_fits : (t : Transaction) (left : Option Transaction) (answer : Body) (os : List Numbered) → AllByRecursion (λ (o : Numbered). o.number ≤ m) os → IsReady owner now os t → is_memory answer ≡ false → IsCommit fixed owner now t left answer os → Fits (commits t) answer
  commit_fits t left answer os upto ready goes_on (conflicts {key = key} {read = read} {now = changed} conflict) =
      fitting.conflicts (conflict_told history legal still owner m joint on t key read changed ready.stands (ready.quiet refl) conflict)
  commit_fits t left answer os upto ready goes_on (is_shrunk free shrunk) =
      let cut = cut_off now shrunk.cell legal_now (puts_lie now t.ops ready.refs shrunk.cell shrunk.is_outside.written) shrunk.is_outside.outside in
      absurd (no_event now _ cut.owner shrunk.cell.array cut.shape (unresized_take m history still) cut.event)
  commit_fits t left answer os upto ready goes_on (is_split free present split) = let all = commit_together mount now t.ops on_now in let none = split.apart in absurd (cc)
  commit_fits t left answer os upto ready goes_on (is_damaged may damage) = absurd (no_bytes _ damage.spoiled.damaged.bytes damage.spoiled.damaged.held)
  commit_fits t left answer os upto ready goes_on (is_done n may undamaged) =
      subst (λ es. Fits (commits t) (body.committed (own.numbers_of (numbered (n + 1) es)))) (sym (one n t)) (fitting.committed (n + 1))
  commit_fits t left answer os upto ready goes_on (is_failed n count other part changed) =
      let none = part.together (commit_together mount (take n now) t.ops (on_then n)) in
      let last = (all_parts (λ (o : Numbered). o.number ≤ m) (own_part fixed owner now n t count) (record { number = n + count + 1; event = fault owner other } ∷ []) upto).1.0 in
      subst (λ k. Fits (commits t) (body.store_failed (n + k + 1) (own.numbers_of (own_part fixed owner now n t k)) None)) (sym none) (fitting.commit_failed (n + 0) (changed_then n t (bare t) other (omega (arith, last)) refl changed))
  commit_fits t left answer os upto ready goes_on (is_wanting n count part) = absurd (cc)

  write_fits : (view : View) (words : List ℕ) (left : Option Transaction) (answer : Body) (os : List Numbered) → AllByRecursion (λ (o : Numbered). o.number ≤ m) os → HasKnownRefs now view → is_memory answer ≡ false → IsCommit fixed owner now (write_alone line view words) left answer os
      → Fits (writes view words) (as_written (length words) answer)
  write_fits view words left answer os upto refs goes_on (conflicts conflict) = absurd (not_asked conflict.conflict.asked)
  write_fits view words left answer os upto refs goes_on (is_shrunk free shrunk) =
      let cut = cut_off now shrunk.cell legal_now (puts_lie now (write_alone line view words).ops (refs, tt) shrunk.cell shrunk.is_outside.written) shrunk.is_outside.outside in
      absurd (no_event now _ cut.owner shrunk.cell.array cut.shape (unresized_take m history still) cut.event)
  write_fits view words left answer os upto refs goes_on (is_split free present split) = let all = commit_together mount now (write_alone line view words).ops on_now in let none = split.apart in absurd (cc)
  write_fits view words left answer os upto refs goes_on (is_damaged may damage) = absurd (no_bytes _ damage.spoiled.damaged.bytes damage.spoiled.damaged.held)
  write_fits view words left answer os upto refs goes_on (is_done n may undamaged) =
      subst (λ es. Fits (writes view words) (body.written (length words) (own.numbers_of (numbered (n + 1) es)))) (sym (one n (write_alone line view words))) (fitting.written (n + 1))
  write_fits view words left answer os upto refs goes_on (is_failed n count other part changed) =
      let t = write_alone line view words in
      let none = part.together (commit_together mount (take n now) t.ops (on_then n)) in
      let last = (all_parts (λ (o : Numbered). o.number ≤ m) (own_part fixed owner now n t count) (record { number = n + count + 1; event = fault owner other } ∷ []) upto).1.0 in
      subst (λ k. Fits (writes view words) (body.store_failed (n + k + 1) (own.numbers_of (own_part fixed owner now n t k)) None)) (sym none) (fitting.write_failed (n + 0) (changed_then n t t other (omega (arith, last)) refl changed))
  write_fits view words left answer os upto refs goes_on (is_wanting n count part) = absurd (cc)

  written_memory : (cells : ℕ) (inner : Body) → is_memory (as_written cells inner) ≡ false → is_memory inner ≡ false
  written_memory cells (body.committed events) goes_on = refl
  written_memory cells inner goes_on = goes_on

  row_fits : (act : Act) (names : Names) (left : Option Transaction) (answer : Body) (os : List Numbered) → AllByRecursion (λ (o : Numbered). o.number ≤ m) os → IsCheckedAct act → IsActIn s.transaction act → IsActKnown (take s.seen history) act
      → HaveMarks history legal line earlier s.transaction → ((t : Transaction) → s.transaction ≡ Some t → IsReady owner now os t) → is_memory answer ≡ false → IsRow fixed owner now s line act names left answer os → Fits act answer
  row_fits act names left answer os upto checked fits known has ready goes_on (open_done {now = end} opened built) =
      let top = high [] refl in
      let last : end ≤ m = opened_within m rises now_size upto opened in
      fitting.open_answer (opening.opened (all_opened owner history legal still m (window answer) (omega (arith, top, last)) opened) built)
  row_fits act names left answer os upto checked fits known has ready goes_on (open_refused {name = name} {leaves = leaves} {build = build} {now = end} {node = node} {leaf = leaf} opened refused) =
      let told = leaf_refusal node leaf refused.at (own.numbers_of os) refused.outcome answer refused.answered in
      let top : m ≤ (window answer).upto = high (serial.numbers_in answer ++ serial.failed_in answer) (ap₂ (λ x y. x ++ y) told.no_change told.no_fault) in
      let last : end ≤ m = opened_within m rises now_size upto opened in
      let low : (window answer).from ≤ end = subst (λ ns. last_of (numbers_of (lines_before (bare_of s.transaction) earlier) ++ ns) ≤ end) (sym told.openings) (from_low end (own.numbers_of os) (opened_end opened) (opened_up_to opened)) in
      subst (λ ns. IsActAnswer history owner (window answer) (bare_of s.transaction) line ns (opens name leaves build) answer) (sym told.openings)
      (fitting.open_answer (opening.refused (stopped_at owner history legal still m (window answer) (omega (arith, top, last)) opened) (refused_at owner history legal still m (window answer) low (omega (arith, top, now_size)) refused)))
  row_fits act names left answer os upto checked fits known has ready goes_on (open_unbuilt {now = end} opened built) =
      let top = high [] refl in
      let last : end ≤ m = opened_within m rises now_size upto opened in
      fitting.open_answer (opening.unbuilt (all_opened owner history legal still m (window answer) (omega (arith, top, last)) opened) built)
  row_fits act names left answer os upto checked fits known has ready goes_on (open_failed {own = added} {now = end} before opened failed) =
      let later_on = failed.not_older in
      let top : end ≤ before + 1 - 1 = omega (arith, later_on) in
      let low = from_low end (own.numbers_of added) (opened_end opened) (opened_up_to opened) in
      fitting.open_answer (opening.failed before (stopped_at owner history legal still m (window answer) top opened) (failed_at owner history legal still m (window answer) low failed))
  row_fits act names left answer os upto checked fits known has ready goes_on (open_wanting opened) = absurd (cc)
  row_fits act names left answer os upto checked fits known has ready goes_on view_done = fitting.viewed
  row_fits act names left answer os upto checked fits known has ready goes_on (read_done {view = view} {down = None} {words = words} {marks = marks} read) =
      fitting.read (read_seen view words marks known has (reader_within s.transaction (λ u is. (ready u is).stands.within)) read)
  row_fits act names left answer os upto checked fits known has ready goes_on (read_done {down = Some down} read) = absurd (cc)
  row_fits act names left answer os upto checked fits known has ready goes_on (read_shrunk {view = view} {key = key} {now = number} shrunk) =
      absurd (never_shrunk history legal still s.seen m rises within (reader line s.transaction) view key number known (reader_within s.transaction (λ u is. (ready u is).stands.within)) (reader_known s.transaction has) shrunk)
  row_fits act names left answer os upto checked fits known has ready goes_on (read_damaged damaged) = absurd (no_bytes _ damaged.damaged.bytes damaged.damaged.held)
  row_fits act names left answer os upto checked fits known has ready goes_on (read_failed {view = view} {down = None} {mount = other} before fetched) =
      let is = fetched_told history legal still s.seen m rises within (reader line s.transaction) view other on_now known (reader_covered s.transaction has) fetched in
      fitting.read_failed before (bare_fetched view is)
    where
      bare_fetched : (view : View) → fitting.IsFetched history (reader line s.transaction) view → fitting.IsFetched history (reader line (bare_of s.transaction)) view
      bare_fetched view is = record {
        chunk = is.chunk;
        needed = subst (λ ops. Contains (map (chunk_of history) (unwritten ops view)) is.chunk) (sym (same_ops line s.transaction)) is.needed;
        unread = λ there. is.unread (subst (λ ops. Contains (footprint_of history ops) is.chunk) (same_ops line s.transaction) there);
        on_mount = is.on_mount;
      }
  row_fits act names left answer os upto checked fits known has ready goes_on (read_failed {down = Some down} before fetched) = absurd (cc)
  row_fits act names left answer os upto checked fits known has ready goes_on write_staged = fitting.staged
  row_fits act names left answer os upto checked fits known has ready goes_on (write_done {view = view} {words = words} {left = rest} {answer = inner} commit) =
      write_fits view words rest inner os upto (view_later history s.seen m rises view known) (written_memory (length words) inner goes_on) commit
  row_fits act names left answer os upto checked fits known has ready goes_on begin_done = fitting.begun
  row_fits act names left answer os upto checked fits known has ready goes_on (commit_done {t = t} commit) = commit_fits t left answer os upto (ready t fits) goes_on commit
  row_fits act names left answer os upto checked fits known has ready goes_on abort_done = fitting.aborted
  row_fits act names left answer os upto checked fits known has ready goes_on (resize_done n may undamaged) = absurd checked
  row_fits act names left answer os upto checked fits known has ready goes_on (resize_many many) = absurd checked
  row_fits act names left answer os upto checked fits known has ready goes_on (resize_split few split) = absurd checked
  row_fits act names left answer os upto checked fits known has ready goes_on (resize_damaged may damaged) = absurd checked
  row_fits act names left answer os upto checked fits known has ready goes_on (resize_failed n may on_mount) = absurd checked
  row_fits act names left answer os upto checked fits known has ready goes_on (resolve_done k low top is) = absurd checked
  row_fits act names left answer os upto checked fits known has ready goes_on (resolve_refused k low top is) = absurd checked

  -- the answer of a line, refused or not
  pub answered_fits : (asked : Asked) (names : Names) (left : Option Transaction) (answer : Body) (os : List Numbered) → AllByRecursion (λ (o : Numbered). o.number ≤ m) os → IsAskedBy IsCheckedAct asked → IsAskedIn s.transaction asked → IsAskedBy (IsActKnown (take s.seen history)) asked
      → HaveMarks history legal line earlier s.transaction → ((t : Transaction) → s.transaction ≡ Some t → IsReady owner now os t) → is_memory answer ≡ false → IsAnswered fixed owner now s line asked names left answer os
      → IsAnswer history owner (window answer) (bare_of s.transaction) line (serial.opened_in answer) (bare_asked asked) answer
  answered_fits asked names left answer os upto checked fits known has ready goes_on refused_line = refl
  answered_fits asked names left answer os upto checked fits known has ready goes_on wanting = absurd (cc)
  answered_fits asked names left answer os upto checked fits known has ready goes_on (done_line {act = act} row) = row_fits act names left answer os upto checked fits known has ready goes_on row

  -- the marks of the transaction that stands behind the line
  by_left : (told : Told) (t : Transaction) (b : Bool) → told.number ≡ line → HaveMarks history legal line earlier (Some t) → HaveMarks history legal (line + 1) (earlier ++ told ∷ []) (cond b (Some t) None)
  by_left told t true number has = have_later history legal line earlier told (Some t) number has
  by_left told t false number has = tt

  commit_marks : (told : Told) (t : Transaction) (left : Option Transaction) (answer : Body) (os : List Numbered) → told.number ≡ line → HaveMarks history legal line earlier (Some t) → IsCommit fixed owner now t left answer os → HaveMarks history legal (line + 1) (earlier ++ told ∷ []) left
  commit_marks told t left answer os number has (conflicts conflict) = tt
  commit_marks told t left answer os number has (is_shrunk free shrunk) = tt
  commit_marks told t left answer os number has (is_split free present split) = tt
  commit_marks told t left answer os number has (is_damaged may damage) = have_later history legal line earlier told (Some t) number has
  commit_marks told t left answer os number has (is_done n may undamaged) = tt
  commit_marks told t left answer os number has (is_failed n count other part changed) = by_left told t (count == 0) number has
  commit_marks told t left answer os number has (is_wanting n count part) = by_left told t (count == 0) number has

  read_behind : (told : Told) (t : Option Transaction) (view : View) (words : List ℕ) (marks : Marks) → t ≡ s.transaction → told.number ≡ line → HasKnownRefs (take s.seen history) view → HaveMarks history legal line earlier t → IsRead fixed now s.seen (reader line t) view words marks
      → HaveMarks history legal (line + 1) (earlier ++ told ∷ []) (with_read t view words marks)
  read_behind told None view words marks same number refs has read = tt
  read_behind told (Some t) view words marks same number refs has read =
      let low : base (Some t) earlier ≤ s.seen = last_of_le s.seen (numbers_of (lines_before (Some t) earlier)) (before_up_to s.seen (Some t) earlier old) in
      have_later history legal line earlier told (with_read (Some t) view words marks) number (read_marks history legal s.seen m rises within line earlier t view words marks refs low read.marked has)

  row_marks : (told : Told) (act : Act) (names : Names) (left : Option Transaction) (answer : Body) (os : List Numbered) → told.number ≡ line → IsCheckedAct act → IsActIn s.transaction act → IsActKnown (take s.seen history) act → HaveMarks history legal line earlier s.transaction
      → IsRow fixed owner now s line act names left answer os → HaveMarks history legal (line + 1) (earlier ++ told ∷ []) left
  row_marks told act names left answer os number checked fits known has (open_done opened built) = have_later history legal line earlier told s.transaction number has
  row_marks told act names left answer os number checked fits known has (open_refused opened refused) = have_later history legal line earlier told s.transaction number has
  row_marks told act names left answer os number checked fits known has (open_unbuilt opened built) = have_later history legal line earlier told s.transaction number has
  row_marks told act names left answer os number checked fits known has (open_failed before opened failed) = have_later history legal line earlier told s.transaction number has
  row_marks told act names left answer os number checked fits known has (open_wanting opened) = have_later history legal line earlier told s.transaction number has
  row_marks told act names left answer os number checked fits known has view_done = have_later history legal line earlier told s.transaction number has
  row_marks told act names left answer os number checked fits known has (read_done {view = view} {words = words} {marks = marks} read) = read_behind told s.transaction view words marks refl number known has read
  row_marks told act names left answer os number checked fits known has (read_shrunk shrunk) = have_later history legal line earlier told s.transaction number has
  row_marks told act names left answer os number checked fits known has (read_damaged damaged) = have_later history legal line earlier told s.transaction number has
  row_marks told act names left answer os number checked fits known has (read_failed before fetched) = have_later history legal line earlier told s.transaction number has
  row_marks told act names left answer os number checked fits known has (write_staged {t = t} {view = view} {words = words}) =
      marks_later history legal line earlier told _ number (staged_marks history legal line earlier t view words (subst (HaveMarks history legal line earlier) fits has))
  row_marks told act names left answer os number checked fits known has (write_done commit) = tt
  row_marks told act names left answer os number checked fits known has (begin_done {mode = mode}) = begun_marks history legal line (earlier ++ told ∷ []) mode
  row_marks told act names left answer os number checked fits known has (commit_done {t = t} commit) = commit_marks told t left answer os number (subst (HaveMarks history legal line earlier) fits has) commit
  row_marks told act names left answer os number checked fits known has abort_done = tt
  row_marks told act names left answer os number checked fits known has (resize_done n may undamaged) = absurd checked
  row_marks told act names left answer os number checked fits known has (resize_many many) = absurd checked
  row_marks told act names left answer os number checked fits known has (resize_split few split) = absurd checked
  row_marks told act names left answer os number checked fits known has (resize_damaged may damaged) = absurd checked
  row_marks told act names left answer os number checked fits known has (resize_failed n may on_mount) = absurd checked
  row_marks told act names left answer os number checked fits known has (resolve_done k low top is) = absurd checked
  row_marks told act names left answer os number checked fits known has (resolve_refused k low top is) = absurd checked

  pub answered_marks : (told : Told) (asked : Asked) (names : Names) (left : Option Transaction) (answer : Body) (os : List Numbered) → told.number ≡ line → IsAskedBy IsCheckedAct asked → IsAskedIn s.transaction asked → IsAskedBy (IsActKnown (take s.seen history)) asked
      → HaveMarks history legal line earlier s.transaction → IsAnswered fixed owner now s line asked names left answer os → HaveMarks history legal (line + 1) (earlier ++ told ∷ []) left
  answered_marks told asked names left answer os number checked fits known has refused_line = have_later history legal line earlier told s.transaction number has
  answered_marks told asked names left answer os number checked fits known has wanting = have_later history legal line earlier told s.transaction number has
  answered_marks told asked names left answer os number checked fits known has (done_line {act = act} row) = row_marks told act names left answer os number checked fits known has row
