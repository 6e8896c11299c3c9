-- How a commit ends, over one mount whose store starts empty.
use Rattle.std.proofs.Common.{◌≡◌, ℕ, ◌+◌, List, [], ◌∷◌, ◌++◌, length, take, false, Option, None, refl, sym, ap, subst, ◌∙◌, append_assoc}
use Rattle.std.specs.Prelude.{IsTrue}
use Rattle.std.specs.List.{AllByRecursion}
use Rattle.std.specs.FinMap as finmap
use Rattle.stack_driver.specs.declared.view.View.{View}
use Rattle.history.specs.declared.event.Event.{Event}
use Rattle.history.specs.History.{History}
use Rattle.history.specs.Alone.{single_store, AreOnMount}
use Rattle.history.specs.Answers as body
use Rattle.history.specs.Answers.{Body, Text}
use Rattle.history.specs.Commit.{Key, Fixed, Transaction, CommitTogether, done, kept_ops, commit_events, IsConflict}
use Rattle.history.specs.CommitRows.{own_part, left_by, IsCommit, conflicts, is_shrunk, is_split, is_damaged, is_done, is_failed, is_wanting}
use Rattle.history.specs.Content.{world_after}
use Rattle.history.specs.Joint.{IsJointKind, IsJoint}
use Rattle.history.specs.Legal.{IsLegal, AreReads, viewed}
use Rattle.history.specs.Own.{Numbered, numbered, numbers_of, fault, resized_event}
use Rattle.history.specs.Plain.{plain_after}
use Rattle.history.specs.Refs.{HasKnownRefs}
use Rattle.history.specs.Staged.{IsTransaction}
use Rattle.history.specs.Steps.{as_written, write_alone, is_memory}
use Rattle.history.proofs.AloneCommits.{bare, one_event}
use Rattle.history.proofs.AloneKeys.{commit_together}
use Rattle.history.proofs.AloneMount.{front_on}
use Rattle.history.proofs.AloneOpens.{no_bytes}
use Rattle.history.proofs.AloneSteps.{bare_of}
use Rattle.history.proofs.Conflicts.{known_at_mark}
use Rattle.history.proofs.ForeignConflicts.{conflict_is_foreign}
use Rattle.history.proofs.Histories.{each_history, legal_step, joint_more}
use Rattle.history.proofs.Plain.{plain-world}
use Rattle.history.proofs.Presence.{IsLegal-front}
use Rattle.history.proofs.Quiet.{IsQuiet, all_parts}
use Rattle.history.proofs.Shrinks.{known_still}
use Rattle.history.proofs.StepsKnown.{legal_take}
use Rattle.history.specs.Reads.{mark_of}
use Rattle.serial_runs.specs.Attempts.{left_after}
use Rattle.serial_runs.specs.Ends.{IsSerialCommit, IsConflictWithOther, IsEnd}
use Rattle.serial_runs.specs.Numbered.{IsEvent}
use Rattle.serial_runs.proofs.Calm.{number_within, calm_marks}
use Rattle.serial_runs.proofs.Inside.{written_inside}
use Rattle.serial_runs.proofs.Later.{key_later, metadata_later, footprint_later, reads_later, read_later, event_later, foreign_later}
use Rattle.serial_runs.proofs.Numbers.{IsEventOf, ArePrinted}
use Rattle.serial_runs.proofs.Shrunk.{cut_off, puts_lie}

-- each commit of the events is one event
abbrev pub AreJoint : History → Type 0
AreJoint events = AllByRecursion (λ (e : Event). IsJointKind e.kind) events

joint_of_all : (h : History) → AreJoint h → IsJoint h
joint_of_all =
    each_history (λ h. AreJoint h → IsJoint h) (λ all. tt)
    (λ h e before all. let parts = all_parts (λ (f : Event). IsJointKind f.kind) h (e ∷ []) all in joint_more h e (before parts.0) parts.1.0)

pub joint_history : (h : History) → AreJoint h → IsJoint h
joint_history = joint_of_all

module _ (mount : Text) (owner : ℕ) (history : History) (m : ℕ) (legal : IsLegal finmap.empty history) (joint : AreJoint history) (on : AreOnMount mount history) where
  abbrev fixed : Fixed
  fixed = single_store mount

  abbrev now : History
  now = take m history

  legal_now : IsLegal finmap.empty now
  legal_now = legal_take finmap.empty history m legal

  on_now : AreOnMount mount now
  on_now = front_on mount finmap.empty history m legal on

  together : (n : ℕ) (t : Transaction) → CommitTogether fixed (take n now) t.ops
  together n t = commit_together mount (take n now) t.ops (front_on mount finmap.empty now n legal_now on_now)

  one : (n : ℕ) (t : Transaction) → commit_events fixed (take n now) owner t ≡ done owner t (kept_ops t) None ∷ []
  one n t = one_event fixed (take n now) owner t (together n t)

  -- what a commit's event has read is what the plain arrays hold before it
  serial_commit : (t : Transaction) (n : ℕ) → IsEvent history n (done owner t (kept_ops t) None) → IsSerialCommit history owner t (n ∷ [])
  serial_commit t n event =
      let e : Event = done owner t (kept_ops t) None in
      let here : IsLegal finmap.empty (event.before ++ e ∷ []) =
      IsLegal-front finmap.empty (event.before ++ e ∷ []) event.later (subst (IsLegal finmap.empty) (event.parts ∙ sym (append_assoc event.before (e ∷ []) event.later)) legal) in
      let parts = legal_step finmap.empty event.before e here in
      let all = all_parts (λ (f : Event). IsJointKind f.kind) event.before (e ∷ event.later) (subst AreJoint event.parts joint) in
      let same : (plain_after event.before).words ≡ world_after finmap.empty event.before = λ i x. plain-world x event.before parts.0 (joint_of_all event.before all.0) i in
      record { number = n; alone = refl; event = event; inside = written_inside event.before t parts.1.each; reads = subst (λ f. AreReads f [] (kept_ops t)) (sym same) parts.1.reads }

  -- a commit ends in one of the five ways
  pub commit_ends : (t : Transaction) (left : Option Transaction) (answer : Body) (own : List Numbered) → AllByRecursion (IsEventOf history) own → ((key : Key) (read changed : ℕ) → IsConflict now t key read changed → own ≡ [] → IsConflictWithOther history owner t key read changed)
      → AllByRecursion (λ op. HasKnownRefs now (viewed op)) t.ops → IsCommit fixed owner now t left answer own → IsEnd history owner t answer
  commit_ends t left answer own stand clash refs (conflicts {key = key} {read = read} {now = changed} conflict) = clash key read changed conflict refl
  commit_ends t left answer own stand clash refs (is_shrunk {key = key} free shrunk) =
      let cut = cut_off now shrunk.cell legal_now (puts_lie now t.ops refs shrunk.cell shrunk.is_outside.written) shrunk.is_outside.outside in
      record {
        cell = shrunk.cell;
        written = shrunk.is_outside.written;
        named = metadata_later history m legal shrunk.cell key shrunk.is_outside.named;
        moment = m;
        absent = shrunk.is_outside.outside;
        last = shrunk.number;
        resizer = cut.owner;
        shape = cut.shape;
        event = subst (λ k. IsEvent history k (resized_event cut.owner shrunk.cell.array cut.shape)) (sym shrunk.number) (event_later history m legal _ _ cut.event);
        outside = cut.outside;
      }
  commit_ends t left answer own stand clash refs (is_split free present split) = let all = commit_together mount now t.ops on_now in let none = split.apart in absurd (cc)
  commit_ends t left answer own stand clash refs (is_damaged may damage) = absurd (no_bytes _ damage.spoiled.damaged.bytes damage.spoiled.damaged.held)
  commit_ends t left answer own stand clash refs (is_done n may undamaged) =
      let all = subst (λ es. AllByRecursion (IsEventOf history) (numbered (n + 1) es)) (one n t) stand in
      subst (λ es. IsSerialCommit history owner t (numbers_of (numbered (n + 1) es))) (sym (one n t)) (serial_commit t (n + 1) all.0)
  commit_ends t left answer own stand clash refs (is_failed n count other part changed) =
      let none : count ≡ 0 = part.together (together n t) in
      let parts = all_parts (IsEventOf history) (own_part fixed owner now n t count) (record { number = n + count + 1; event = fault owner other } ∷ []) stand in
      record { nothing = ap (λ k. numbers_of (own_part fixed owner now n t k)) none; mount = other; event = parts.1.0 }
  commit_ends t left answer own stand clash refs (is_wanting n count part) = tt

  -- a conflict of a transaction during which its session made no change
  pub foreign_conflict : (t : Transaction) → IsTransaction finmap.empty now t → IsQuiet owner (length now) now t → (key : Key) (read changed : ℕ) → IsConflict now t key read changed → IsConflictWithOther history owner t key read changed
  foreign_conflict t reads quiet key read changed is =
      let at = known_at_mark finmap.empty now t is.chunk reads is.conflict.was_read in
      let known = known_still finmap.empty now is.chunk.array (mark_of t.marks is.chunk) at.0 legal_now at.1 in
      let foreign = conflict_is_foreign finmap.empty owner now t key read changed legal_now reads quiet is in
      record {
        asked = is.conflict.asked;
        chunk = is.chunk;
        named = key_later history m legal is.chunk key is.named;
        was_read = footprint_later history m legal t.ops is.chunk known.0 known.1 is.conflict.was_read;
        marks = t.marks;
        stands = reads_later history m legal t reads;
        calm = calm_marks owner history m changed (number_within owner now is.chunk read changed foreign) t quiet;
        read_at = is.read_at ∙ read_later history m legal t.marks is.chunk reads.within;
        changed = foreign_later history m legal owner is.chunk read changed foreign;
      }

  not_asked : IsTrue false → ⊥
  not_asked e = absurd (cc)

  -- a write of its own keeps no read
  pub no_conflict_alone : (line : ℕ) (view : View) (words : List ℕ) (key : Key) (read changed : ℕ) → IsConflict now (write_alone line view words) key read changed → IsConflictWithOther history owner (write_alone line view words) key read changed
  no_conflict_alone line view words key read changed is = absurd (not_asked is.conflict.asked)

  -- the transaction that stands behind a commit
  pub commit_left : (t : Transaction) (left : Option Transaction) (answer : Body) (own : List Numbered) → is_memory answer ≡ false → IsCommit fixed owner now t left answer own → left_after (bare t) answer ≡ bare_of left
  commit_left t left answer own goes_on (conflicts conflict) = refl
  commit_left t left answer own goes_on (is_shrunk free shrunk) = refl
  commit_left t left answer own goes_on (is_split free present split) = refl
  commit_left t left answer own goes_on (is_damaged may damage) = refl
  commit_left t left answer own goes_on (is_done n may undamaged) = refl
  commit_left t left answer own goes_on (is_failed n count other part changed) =
      subst (λ k. left_after (bare t) (body.store_failed (n + k + 1) (numbers_of (own_part fixed owner now n t k)) None) ≡ bare_of (left_by k t)) (sym (part.together (together n t))) refl
  commit_left t left answer own goes_on (is_wanting n count part) = absurd (cc)

  -- a commit's answer prints the events that it added
  pub commit_printed : (t : Transaction) (left : Option Transaction) (answer : Body) (own : List Numbered) → IsCommit fixed owner now t left answer own → ArePrinted own answer
  commit_printed t left answer own (conflicts conflict) = record { changes = refl; faults = refl; openings = λ goes_on. refl; whole = refl }
  commit_printed t left answer own (is_shrunk free shrunk) = record { changes = refl; faults = refl; openings = λ goes_on. refl; whole = refl }
  commit_printed t left answer own (is_split free present split) = record { changes = refl; faults = refl; openings = λ goes_on. refl; whole = refl }
  commit_printed t left answer own (is_damaged may damage) = record { changes = refl; faults = refl; openings = λ goes_on. refl; whole = refl }
  commit_printed t left answer own (is_done n may undamaged) =
      subst (λ es. ArePrinted (numbered (n + 1) es) (body.committed (numbers_of (numbered (n + 1) es)))) (sym (one n t)) (record { changes = refl; faults = refl; openings = λ goes_on. refl; whole = refl })
  commit_printed t left answer own (is_failed n count other part changed) =
      subst (λ k. ArePrinted (own_part fixed owner now n t k ++ record { number = n + k + 1; event = fault owner other } ∷ []) (body.store_failed (n + k + 1) (numbers_of (own_part fixed owner now n t k)) None)) (sym (part.together (together n t)))
      (record { changes = refl; faults = refl; openings = λ goes_on. refl; whole = refl })
  commit_printed t left answer own (is_wanting n count part) = subst (λ k. ArePrinted (own_part fixed owner now n t k) body.memory) (sym (part.together (together n t))) (record { changes = refl; faults = refl; openings = λ goes_on. refl; whole = refl })

-- the answer of a write prints what that of its own commit does
pub written_printed : (cells : ℕ) (own : List Numbered) (answer : Body) → ArePrinted own answer → ArePrinted own (as_written cells answer)
written_printed cells own (body.committed events) is = record { changes = is.changes; faults = is.faults; openings = is.openings; whole = is.whole }
written_printed cells own answer is = is

-- the marks play no part in how an attempt ends
pub bare_end : (history : History) (owner : ℕ) (t : Transaction) (answer : Body) → IsEnd history owner t answer → IsEnd history owner (bare t) answer
bare_end history owner t (body.committed numbers) end = record { number = end.number; alone = end.alone; event = end.event; inside = end.inside; reads = end.reads }
bare_end history owner t (body.conflict key read changed) end = record { asked = end.asked; chunk = end.chunk; named = end.named; was_read = end.was_read; marks = end.marks; stands = end.stands; calm = end.calm; read_at = end.read_at; changed = end.changed }
bare_end history owner t (body.shrunk key number) end = record { cell = end.cell; written = end.written; named = end.named; moment = end.moment; absent = end.absent; last = end.last; resizer = end.resizer; shape = end.shape; event = end.event; outside = end.outside }
bare_end history owner t (body.store_failed number done_before listed) end = end
bare_end history owner t answer end = end
