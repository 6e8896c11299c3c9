-- What holds of all events of a run whose lines are checked.
use Rattle.std.proofs.Common.{◌≡◌, ℕ, zero, suc, ◌+◌, ◌<◌, ◌≤◌, List, [], ◌∷◌, length, take, drop, Bool, true, false, cond, Option, None, refl, sym, subst, arith, eq-eqb, eqb-true}
use Rattle.std.specs.Prelude.{◌==◌}
use Rattle.std.specs.List.{AllByRecursion}
use Rattle.std.specs.FinMap as finmap
use Rattle.stack_driver.specs.References.{Reference}
use Rattle.history.specs.declared.event.Event.{Event}
use Rattle.history.specs.declared.event.Kind.{Kind}
use Rattle.history.specs.declared.event.Op.{Op}
use Rattle.history.specs.Acts.{Act, Asked, act_of}
use Rattle.history.specs.Alone.{single_store, AreOnMount, IsOn}
use Rattle.history.specs.Answers.{Body, Answer}
use Rattle.history.specs.Bound.{IsWithin}
use Rattle.history.specs.Commit.{Key, Fixed, Transaction, commit_events, kept_ops, done, done_each, changed_keys, stored_keys, are_together}
use Rattle.history.specs.CommitRows.{IsCommit, conflicts, is_shrunk, is_split, is_damaged, is_done, is_failed, is_wanting, own_after}
use Rattle.history.specs.History.{History}
use Rattle.history.specs.Joint.{IsJointKind}
use Rattle.history.specs.Legal.{IsLegal}
use Rattle.history.specs.Lines.{SpecLeaf}
use Rattle.history.specs.OpenRows.{AreOpened, no_leaf, known_leaf, new_leaf, given_leaf}
use Rattle.history.specs.Own.{Numbered, numbered, own_events, fault, fault_at}
use Rattle.history.specs.Sessions.{Names, SessionState}
use Rattle.history.specs.Steps.{IsRow, open_done, open_refused, open_unbuilt, open_failed, open_wanting, view_done, read_done, read_shrunk, read_damaged, read_failed, write_staged, write_done, begin_done, commit_done, abort_done, resize_done, resize_many, resize_split, resize_damaged, resize_failed, resolve_done, resolve_refused, IsAnswered, refused_line, wanting, done_line, IsSessionRun, no_line, blank_line, next_line, last_line}
use Rattle.history.proofs.AloneMount.{IsKindOn}
use Rattle.history.proofs.Asking.{IsAskedBy}
use Rattle.history.proofs.Transactions.{all_with}
use Rattle.serial_runs.specs.Runs.{Script}
use Rattle.serial_runs.proofs.Commits.{AreJoint}
use Rattle.serial_runs.proofs.Numbers.{own_parts, all_of_owned}
use Rattle.serial_runs.proofs.Together.{AreOwn, own_on, all_on, own_joint}
use Rattle.transcript_laws.specs.Transcript.{mount}
use Rattle.transcript_laws.proofs.Checked.{IsCheckedAct, AreCheckedLines, act_checked}
use Rattle.transcript_laws.proofs.Places.{IsUnresized, AreUnresized}
use Rattle.transcript_laws.proofs.Runs.{HasRunAll, HaveRunAll}

abbrev AreEvents : List Event → Type 0
AreEvents es = AllByRecursion (λ (e : Event). IsUnresized e.kind) es

each_done : (owner : ℕ) (t : Transaction) (ops : List Op) (keys : List Key) → AreEvents (done_each owner t ops keys)
each_done owner t ops [] = tt
each_done owner t ops (k ∷ keys) = (tt, each_done owner t _ keys)

commit_unresized : (fixed : Fixed) (before : History) (owner : ℕ) (t : Transaction) → AreEvents (commit_events fixed before owner t)
commit_unresized fixed before owner t = either (are_together fixed.prefixes (stored_keys before t.ops))
  where
    either : (b : Bool) → AreEvents (cond b (done owner t (kept_ops t) None ∷ []) (done_each owner t (kept_ops t) (changed_keys before t.ops)))
    either true = (tt, tt)
    either false = each_done owner t (kept_ops t) (changed_keys before t.ops)

numbered_all : (n : ℕ) (es : List Event) → AreEvents es → AreOwn IsUnresized (numbered n es)
numbered_all n [] all = tt
numbered_all n (e ∷ es) all = (all.0, numbered_all (n + 1) es all.1)

first_all : (n : ℕ) (os : List Numbered) → AreOwn IsUnresized os → AreOwn IsUnresized (take n os)
first_all zero os all = tt
first_all (suc n) [] all = tt
first_all (suc n) (o ∷ os) all = (all.0, first_all n os all.1)

opened_unresized : {owner : ℕ} {events : History} {seen : ℕ} {leaves : List SpecLeaf} {refs : List Reference} {os : List Numbered} {now : ℕ} {rest : List SpecLeaf} → AreOpened finmap.empty owner events seen leaves refs os now rest → AreOwn IsUnresized os
opened_unresized no_leaf = tt
opened_unresized (known_leaf at k older within outcome more) = opened_unresized more
opened_unresized (new_leaf at meta older within new more) = (tt, opened_unresized more)
opened_unresized (given_leaf at older within more) = (tt, opened_unresized more)

module _ (owner : ℕ) (events : History) where
  abbrev fixed : Fixed
  fixed = single_store mount

  committed_unresized : {t : Transaction} {left : Option Transaction} {answer : Body} {os : List Numbered} → IsCommit fixed owner events t left answer os → AreOwn IsUnresized os
  committed_unresized (conflicts conflict) = tt
  committed_unresized (is_shrunk free shrunk) = tt
  committed_unresized (is_split free present split) = tt
  committed_unresized (is_damaged may damage) = tt
  committed_unresized {t = t} (is_done n may undamaged) = numbered_all (n + 1) (commit_events fixed (take n events) owner t) (commit_unresized fixed (take n events) owner t)
  committed_unresized {t = t} (is_failed n count other part changed) =
      all_with (λ (o : Numbered). IsUnresized o.event.kind) (take count (own_after fixed owner events n t)) (record { number = n + count + 1; event = fault owner other } ∷ [])
      (first_all count (own_after fixed owner events n t) (numbered_all (n + 1) (commit_events fixed (take n events) owner t) (commit_unresized fixed (take n events) owner t))) (tt, tt)
  committed_unresized {t = t} (is_wanting n count part) =
      first_all count (own_after fixed owner events n t) (numbered_all (n + 1) (commit_events fixed (take n events) owner t) (commit_unresized fixed (take n events) owner t))

  row_unresized : {s : SessionState} {line : ℕ} (act : Act) (names : Names) (left : Option Transaction) (answer : Body) (os : List Numbered) → IsCheckedAct act → IsRow fixed owner events s line act names left answer os → AreOwn IsUnresized os
  row_unresized act names left answer os checked (open_done opened built) = opened_unresized opened
  row_unresized act names left answer os checked (open_refused opened refused) = opened_unresized opened
  row_unresized act names left answer os checked (open_unbuilt opened built) = opened_unresized opened
  row_unresized act names left answer os checked (open_failed {own = added} {leaf = leaf} before opened failed) =
      all_with (λ (o : Numbered). IsUnresized o.event.kind) added (fault_at (before + 1) owner leaf.mount) (opened_unresized opened) (tt, tt)
  row_unresized act names left answer os checked (open_wanting opened) = opened_unresized opened
  row_unresized act names left answer os checked view_done = tt
  row_unresized act names left answer os checked (read_done shown) = tt
  row_unresized act names left answer os checked (read_shrunk shrunk) = tt
  row_unresized act names left answer os checked (read_damaged damaged) = tt
  row_unresized act names left answer os checked (read_failed before fetched) = (tt, tt)
  row_unresized act names left answer os checked write_staged = tt
  row_unresized act names left answer os checked (write_done commit) = committed_unresized commit
  row_unresized act names left answer os checked begin_done = tt
  row_unresized act names left answer os checked (commit_done commit) = committed_unresized commit
  row_unresized act names left answer os checked abort_done = tt
  row_unresized act names left answer os checked (resize_done n may undamaged) = absurd checked
  row_unresized act names left answer os checked (resize_many many) = absurd checked
  row_unresized act names left answer os checked (resize_split few split) = absurd checked
  row_unresized act names left answer os checked (resize_damaged may damaged) = absurd checked
  row_unresized act names left answer os checked (resize_failed n may on_mount) = absurd checked
  row_unresized act names left answer os checked (resolve_done k low high is) = absurd checked
  row_unresized act names left answer os checked (resolve_refused k low high is) = absurd checked

  answered_unresized : {s : SessionState} {line : ℕ} (asked : Asked) (names : Names) (left : Option Transaction) (answer : Body) (os : List Numbered) → IsAskedBy IsCheckedAct asked → IsAnswered fixed owner events s line asked names left answer os → AreOwn IsUnresized os
  answered_unresized asked names left answer os checked refused_line = tt
  answered_unresized asked names left answer os checked wanting = tt
  answered_unresized asked names left answer os checked (done_line {act = act} row) = row_unresized act names left answer os checked row

-- no event of a session is a resize
own_unresized : (owner : ℕ) (history : History) {s last : SessionState} {n : ℕ} {lines : Script} {log : List Answer} → AreCheckedLines lines → IsSessionRun (single_store mount) owner history s n lines log last
    → own_events owner (last.seen + 1) (drop last.seen history) ≡ [] → AreOwn IsUnresized (own_events owner (s.seen + 1) (drop s.seen history))
own_unresized owner history checked no_line none = subst (AreOwn IsUnresized) (sym none) tt
own_unresized owner history checked (blank_line rest) none = own_unresized owner history checked.1 rest none
own_unresized owner history checked (next_line {s} {m} {last} {line} {asked} {answer} step goes_on rest) none =
    subst (AreOwn IsUnresized) (sym (own_parts owner history s.seen m.seen step.rises step.within))
    (all_with (λ (o : Numbered). IsUnresized o.event.kind) (own_events owner (s.seen + 1) (drop s.seen (take m.seen history))) (own_events owner (m.seen + 1) (drop m.seen history))
    (answered_unresized owner (take m.seen history) (act_of s.names s.transaction asked) m.names m.transaction answer _ (act_checked s.names s.transaction asked checked.0) step.row)
    (own_unresized owner history checked.1 rest none))
own_unresized owner history checked (last_line {s} {last} {line} {asked} step) none =
    subst (AreOwn IsUnresized) (sym (own_parts owner history s.seen last.seen step.rises step.within))
    (all_with (λ (o : Numbered). IsUnresized o.event.kind) (own_events owner (s.seen + 1) (drop s.seen (take last.seen history))) (own_events owner (last.seen + 1) (drop last.seen history))
    (answered_unresized owner (take last.seen history) (act_of s.names s.transaction asked) last.names last.transaction _ _ (act_checked s.names s.transaction asked checked.0) step.row)
    (subst (AreOwn IsUnresized) (sym none) tt))

-- what sessions ask, each by its script
pub record IsGoodScript (script : Script) : Type 0 where
  pub on : AllByRecursion (IsOn mount) script
  pub within : AllByRecursion IsWithin script
  pub checked : AreCheckedLines script

module _ (history : History) where
  -- what holds of the events of each session, the first being this one
  abbrev AreOwnAll : (Kind → Type 0) → ℕ → List Script → Type 0
  AreOwnAll Q session [] = Unit {0}
  AreOwnAll Q session (script ∷ scripts) = AreOwn Q (own_events session 1 history) × AreOwnAll Q (session + 1) scripts

  own_of : (Q : Kind → Type 0) (k session : ℕ) (scripts : List Script) → AreOwnAll Q session scripts → session ≤ k → k < session + length scripts → AreOwn Q (own_events k 1 history)
  own_of Q k session [] all low high = absurd (omega (arith, low, high))
  own_of Q k session (script ∷ scripts) all low high = by_session (session == k) refl (own_of Q k (session + 1) scripts all.1)
    where
      by_session : (b : Bool) → (session == k) ≡ b → (session + 1 ≤ k → k < session + 1 + length scripts → AreOwn Q (own_events k 1 history)) → AreOwn Q (own_events k 1 history)
      by_session true is more = subst (λ j. AreOwn Q (own_events j 1 history)) (eqb-true session k is) all.0
      by_session false is more =
          let other : session ≡ k → ⊥ = λ same. (let yes_is = eq-eqb session k same in absurd (cc)) in
          more (omega (arith, low, other)) (omega (arith, high))

  all_events : (Q : Kind → Type 0) (scripts : List Script) → AllByRecursion (λ (e : Event). e.owner < length scripts) history → AreOwnAll Q 0 scripts → AllByRecursion (λ (e : Event). Q e.kind) history
  all_events Q scripts owned all = all_of_owned Q (length scripts) 1 history owned (λ k low. own_of Q k 0 scripts all (omega arith) (omega (arith, low)))

  -- what holds of each session that ran its script
  each_session : (Q : Kind → Type 0) → ((session : ℕ) (script : Script) (log : List Answer) → IsGoodScript script → HasRunAll (single_store mount) history session script log → AreOwn Q (own_events session 1 history))
      → (session : ℕ) (scripts : List Script) (logs : List (List Answer)) → AllByRecursion IsGoodScript scripts → HaveRunAll (single_store mount) history session scripts logs → AreOwnAll Q session scripts
  each_session Q each session [] [] good ran = tt
  each_session Q each session [] (log ∷ logs) good ran = absurd ran
  each_session Q each session (script ∷ scripts) [] good ran = absurd ran
  each_session Q each session (script ∷ scripts) (log ∷ logs) good ran = (each session script log good.0 ran.0, each_session Q each (session + 1) scripts logs good.1 ran.1)

  module _ (legal : IsLegal finmap.empty history) (scripts : List Script) (logs : List (List Answer)) (owned : AllByRecursion (λ (e : Event). e.owner < length scripts) history) (good : AllByRecursion IsGoodScript scripts)
      (ran : HaveRunAll (single_store mount) history 0 scripts logs) where
    -- no array gets another shape
    pub none_resized : AreUnresized history
    none_resized = all_events IsUnresized scripts owned (each_session IsUnresized (λ session script log is has. own_unresized session history is.checked has.run has.no_more) 0 scripts logs good ran)

    -- all arrays lie on the mount
    pub arrays_on : AreOnMount mount history
    arrays_on = all_on mount history (all_events (IsKindOn mount) scripts owned (each_session (IsKindOn mount) (λ session script log is has. own_on mount session history legal is.on is.within has.run has.no_more) 0 scripts logs good ran))

    -- each commit is one event
    pub commits_joint : AreJoint history
    commits_joint = all_events IsJointKind scripts owned (each_session IsJointKind (λ session script log is has. own_joint mount session history legal arrays_on is.on is.within has.run has.no_more) 0 scripts logs good ran)
