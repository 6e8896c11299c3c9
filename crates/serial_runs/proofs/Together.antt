-- All arrays of a run over one mount lie on it, and each of its commits is one event.
use Rattle.std.proofs.Common.{◌≡◌, ℕ, ◌+◌, List, [], ◌∷◌, ◌++◌, take, drop, Option, None, refl, sym, subst}
use Rattle.std.specs.List.{AllByRecursion}
use Rattle.std.specs.FinMap as finmap
use Rattle.kv_face.specs.Store.{Contents}
use Rattle.stack_driver.specs.References.{Reference}
use Rattle.history.specs.declared.event.Event.{Event}
use Rattle.history.specs.declared.event.Kind.{Kind}
use Rattle.history.specs.History.{History}
use Rattle.history.specs.Acts.{Act, Asked, act_of}
use Rattle.history.specs.Alone.{single_store, AreOnMount, IsLineOn, IsOn}
use Rattle.history.specs.Answers as body
use Rattle.history.specs.Answers.{Body, Text, Answer}
use Rattle.history.specs.Bound.{IsLineWithin, IsWithin}
use Rattle.history.specs.Commit.{Fixed, Transaction, done, kept_ops, commit_events}
use Rattle.history.specs.CommitRows.{own_part, IsCommit, conflicts, is_shrunk, is_split, is_damaged, is_done, is_failed, is_wanting}
use Rattle.history.specs.Joint.{IsJointKind}
use Rattle.history.specs.Legal.{IsLegal}
use Rattle.history.specs.Lines.{SpecLeaf, Line}
use Rattle.history.specs.OpenRows.{AreOpened, no_leaf, known_leaf, new_leaf, given_leaf}
use Rattle.history.specs.Own.{Numbered, numbered, own_events, fault, fault_at}
use Rattle.history.specs.Sessions.{Names, SessionState, at_first}
use Rattle.history.specs.Steps.{IsRow, open_done, open_refused, open_unbuilt, open_failed, open_wanting, view_done, read_done, read_shrunk, read_damaged, read_failed, write_staged, write_done, begin_done, commit_done, abort_done, resize_done, resize_many, resize_split, resize_damaged, resize_failed, resolve_done, resolve_refused, IsAnswered, refused_line, wanting, done_line, SessionStep, IsSessionRun, no_line, blank_line, next_line, last_line}
use Rattle.history.proofs.AloneCommits.{one_event}
use Rattle.history.proofs.AloneKeys.{commit_together}
use Rattle.history.proofs.AloneMount.{IsKindOn, AreOwnOn, grown_on, row_on, IsActFit, act_of-fit, front_on}
use Rattle.history.proofs.AloneRuns.{none_known}
use Rattle.history.proofs.Asking.{IsAskedBy}
use Rattle.history.proofs.StepsKnown.{legal_take, AreKnown, step_known}
use Rattle.history.proofs.Transactions.{all_with}
use Rattle.serial_runs.proofs.Numbers.{own_parts}

-- what holds of the events of each step of a run, and of none behind it, holds of all that the session adds
abbrev pub AreOwn : (Kind → Type 0) → List Numbered → Type 0
AreOwn Q own = AllByRecursion (λ (o : Numbered). Q o.event.kind) own

module _ (Q : Kind → Type 0) (mount : Text) (owner : ℕ) (history : History) (legal : IsLegal finmap.empty history) where
  -- of the events that a step adds
  IsEachStep : Type 0
  IsEachStep =
      (s : SessionState) (line : ℕ) (asked : Line) (next : SessionState) (answer : Body) → IsLineOn mount asked → IsLineWithin asked → AreKnown (take s.seen history) s.names s.transaction → SessionStep (single_store mount) owner history s line asked next answer
      → AreOwn Q (own_events owner (s.seen + 1) (drop s.seen (take next.seen history)))

  own_from : (each : IsEachStep) {s last : SessionState} {line : ℕ} {lines : List (Option Line)} {answers : List Answer} → AllByRecursion (IsOn mount) lines → AllByRecursion IsWithin lines → AreKnown (take s.seen history) s.names s.transaction
      → IsSessionRun (single_store mount) owner history s line lines answers last → own_events owner (last.seen + 1) (drop last.seen history) ≡ [] → AreOwn Q (own_events owner (s.seen + 1) (drop s.seen history))
  unfolding IsEachStep
  own_from each on within known no_line none = subst (AreOwn Q) (sym none) tt
  own_from each on within known (blank_line rest) none = own_from each on.1 within.1 known rest none
  own_from each on within known (next_line {s} {m} {last} {line} {asked} {answer} step goes_on rest) none =
      subst (AreOwn Q) (sym (own_parts owner history s.seen m.seen step.rises step.within))
      (all_with (λ (o : Numbered). Q o.event.kind) (own_events owner (s.seen + 1) (drop s.seen (take m.seen history))) (own_events owner (m.seen + 1) (drop m.seen history)) (each s line asked m answer on.0 within.0 known step)
      (own_from each on.1 within.1 (step_known (single_store mount) owner history s line asked m answer legal within.0 step known) rest none))
  own_from each on within known (last_line {s} {last} {line} {asked} step) none =
      subst (AreOwn Q) (sym (own_parts owner history s.seen last.seen step.rises step.within))
      (all_with (λ (o : Numbered). Q o.event.kind) (own_events owner (s.seen + 1) (drop s.seen (take last.seen history))) (own_events owner (last.seen + 1) (drop last.seen history)) (each s line asked last body.memory on.0 within.0 known step)
      (subst (AreOwn Q) (sym none) tt))

answered_on : (mount : Text) (owner : ℕ) (events : History) (s : SessionState) (line : ℕ) (asked : Asked) (names : Names) (left : Option Transaction) (answer : Body) (own : List Numbered) (known : History) → IsAskedBy (IsActFit mount known) asked
    → IsAnswered (single_store mount) owner events s line asked names left answer own → AreOwnOn mount own
answered_on mount owner events s line asked names left answer own known fits refused_line = tt
answered_on mount owner events s line asked names left answer own known fits wanting = tt
answered_on mount owner events s line asked names left answer own known fits (done_line {act = act} row) = row_on mount (single_store mount) owner events s line act names left answer own row fits.0

-- what a session opens lies on the mount
pub own_on : (mount : Text) (owner : ℕ) (history : History) (legal : IsLegal finmap.empty history) {last : SessionState} {lines : List (Option Line)} {answers : List Answer} → AllByRecursion (IsOn mount) lines → AllByRecursion IsWithin lines
    → IsSessionRun (single_store mount) owner history at_first 1 lines answers last → own_events owner (last.seen + 1) (drop last.seen history) ≡ [] → AreOwnOn mount (own_events owner 1 history)
unfolding IsEachStep
own_on mount owner history legal on within run none =
    own_from (IsKindOn mount) mount owner history legal
    (λ s line asked next answer on_it within_it known step. answered_on mount owner (take next.seen history) s line (act_of s.names s.transaction asked) next.names next.transaction answer _ (take s.seen history) (act_of-fit mount (take s.seen history) s.names s.transaction asked known.0 on_it) step.row)
    on within ((λ name view is. absurd (cc)), tt) run none

numbered_on : (Q : Kind → Type 0) (n : ℕ) (es : History) → AllByRecursion (λ (e : Event). Q e.kind) es → AreOwn Q (numbered n es)
numbered_on Q n [] all = tt
numbered_on Q n (e ∷ es) all = (all.0, numbered_on Q (n + 1) es all.1)

-- so all arrays lie on it
pub all_on : (mount : Text) (history : History) → AllByRecursion (λ (e : Event). IsKindOn mount e.kind) history → AreOnMount mount history
all_on mount history all = grown_on mount 1 [] history (none_known mount) (numbered_on (IsKindOn mount) 1 history all)

opened_joint : {start : Contents} {owner : ℕ} {events : History} {seen : ℕ} {leaves : List SpecLeaf} {refs : List Reference} {own : List Numbered} {now : ℕ} {rest : List SpecLeaf} → AreOpened start owner events seen leaves refs own now rest → AreOwn IsJointKind own
opened_joint no_leaf = tt
opened_joint (known_leaf at k low high outcome more) = opened_joint more
opened_joint (new_leaf at meta low high new more) = (tt, opened_joint more)
opened_joint (given_leaf at low high more) = (tt, opened_joint more)

module _ (mount : Text) (owner : ℕ) (history : History) (m : ℕ) (legal : IsLegal finmap.empty history) (on : AreOnMount mount history) where
  abbrev fixed : Fixed
  fixed = single_store mount

  abbrev now : History
  now = take m history

  one : (n : ℕ) (t : Transaction) → commit_events fixed (take n now) owner t ≡ done owner t (kept_ops t) None ∷ []
  one n t =
      one_event fixed (take n now) owner t
      (commit_together mount (take n now) t.ops (front_on mount finmap.empty now n (legal_take finmap.empty history m legal) (front_on mount finmap.empty history m legal on)))

  commit_joint : {t : Transaction} {left : Option Transaction} {answer : Body} {own : List Numbered} → IsCommit fixed owner now t left answer own → AreOwn IsJointKind own
  commit_joint (conflicts conflict) = tt
  commit_joint (is_shrunk free shrunk) = tt
  commit_joint (is_split free present split) = tt
  commit_joint (is_damaged may damage) = tt
  commit_joint {t = t} (is_done n may undamaged) = subst (λ es. AreOwn IsJointKind (numbered (n + 1) es)) (sym (one n t)) (refl, tt)
  commit_joint {t = t} (is_failed n count other part changed) =
      let together = commit_together mount (take n now) t.ops (front_on mount finmap.empty now n (legal_take finmap.empty history m legal) (front_on mount finmap.empty history m legal on)) in
      subst (λ k. AreOwn IsJointKind (own_part fixed owner now n t k ++ record { number = n + k + 1; event = fault owner other } ∷ [])) (sym (part.together together)) (tt, tt)
  commit_joint {t = t} (is_wanting n count part) =
      let together = commit_together mount (take n now) t.ops (front_on mount finmap.empty now n (legal_take finmap.empty history m legal) (front_on mount finmap.empty history m legal on)) in
      subst (λ k. AreOwn IsJointKind (own_part fixed owner now n t k)) (sym (part.together together)) tt

  row_joint : {s : SessionState} {line : ℕ} {act : Act} {names : Names} {left : Option Transaction} {answer : Body} {own : List Numbered} → IsRow fixed owner now s line act names left answer own → AreOwn IsJointKind own
  row_joint (open_done opened built) = opened_joint opened
  row_joint (open_refused opened refused) = opened_joint opened
  row_joint (open_unbuilt opened built) = opened_joint opened
  row_joint (open_failed {own = added} {leaf = leaf} before opened failed) = all_with (λ (o : Numbered). IsJointKind o.event.kind) added (fault_at (before + 1) owner leaf.mount) (opened_joint opened) (tt, tt)
  row_joint (open_wanting opened) = opened_joint opened
  row_joint view_done = tt
  row_joint (read_done shown) = tt
  row_joint (read_shrunk shrunk) = tt
  row_joint (read_damaged damaged) = tt
  row_joint (read_failed before fetched) = (tt, tt)
  row_joint write_staged = tt
  row_joint (write_done commit) = commit_joint commit
  row_joint begin_done = tt
  row_joint (commit_done commit) = commit_joint commit
  row_joint abort_done = tt
  row_joint (resize_done n may undamaged) = (tt, tt)
  row_joint (resize_many many) = tt
  row_joint (resize_split few split) = tt
  row_joint (resize_damaged may damaged) = tt
  row_joint (resize_failed n may on_mount) = (tt, tt)
  row_joint (resolve_done k low high is) = tt
  row_joint (resolve_refused k low high is) = tt

  answered_joint : {s : SessionState} {line : ℕ} {asked : Asked} {names : Names} {left : Option Transaction} {answer : Body} {own : List Numbered} → IsAnswered fixed owner now s line asked names left answer own → AreOwn IsJointKind own
  answered_joint refused_line = tt
  answered_joint wanting = tt
  answered_joint (done_line row) = row_joint row

-- each commit of a session is one event
pub own_joint : (mount : Text) (owner : ℕ) (history : History) (legal : IsLegal finmap.empty history) {last : SessionState} {lines : List (Option Line)} {answers : List Answer} → AreOnMount mount history → AllByRecursion (IsOn mount) lines → AllByRecursion IsWithin lines
    → IsSessionRun (single_store mount) owner history at_first 1 lines answers last → own_events owner (last.seen + 1) (drop last.seen history) ≡ [] → AreOwn IsJointKind (own_events owner 1 history)
unfolding IsEachStep
own_joint mount owner history legal all on within run none =
    own_from IsJointKind mount owner history legal (λ s line asked next answer on_it within_it known step. answered_joint mount owner history next.seen legal all step.row) on within ((λ name view is. absurd (cc)), tt) run none
