-- The names and the operations of a session are of views that keep the rules.
use Rattle.std.proofs.Common.{◌≡◌, ℕ, List, [], ◌∷◌, ◌++◌, take, Bool, true, false, cond, Option, Some, None, Result, Ok, subst}
use Rattle.std.specs.Prelude.{◌==◌}
use Rattle.std.specs.List.{AllByRecursion}
use Rattle.std.specs.Str.{bytes_eq}
use Rattle.stack_driver.specs.Conditions.{IsView}
use Rattle.stack_driver.specs.Views.{look_of}
use Rattle.stack_driver.specs.declared.view.View.{View}
use Rattle.history.specs.declared.event.Op.{Op}
use Rattle.history.specs.declared.event.Op.TheVariants.{Write, Read}
use Rattle.history.specs.Acts.{Act, Asked, opens, binds, reads, stages, writes, begins, commits, aborts, resizes, resolves, outside, inside, changed, write_act, read_of, write_of, act_of}
use Rattle.history.specs.Answers.{Body, Text}
use Rattle.history.specs.Commit.{Fixed, Transaction}
use Rattle.history.specs.CommitRows.{IsCommit, conflicts, is_shrunk, is_split, is_damaged, is_done, is_failed, is_wanting}
use Rattle.history.specs.History.{History}
use Rattle.history.specs.Legal.{viewed}
use Rattle.history.specs.Lines.{ChangeError, Line, refused, opening, viewing, joining, reading, writing, beginning, committing, aborting, resizing, resolving}
use Rattle.history.specs.Own.{Numbered}
use Rattle.history.specs.ReadRows.{with_read}
use Rattle.history.specs.Reads.{Marks}
use Rattle.history.specs.Sessions.{Names, SessionState, bind}
use Rattle.history.specs.Steps.{IsRow, open_done, open_refused, open_unbuilt, open_failed, open_wanting, view_done, read_done, read_shrunk, read_damaged, read_failed, write_staged, write_done, begin_done, commit_done, abort_done, resize_done, resize_many, resize_split, resize_damaged, resize_failed, resolve_done, resolve_refused, IsAnswered, refused_line, wanting, done_line, SessionStep}
use Rattle.history.specs.Viewing.{shape_of, view_fault, cell_fault}
use Rattle.history.proofs.ActFits.{IsActIn, IsAskedIn, act_of-in}
use Rattle.history.proofs.Asking.{IsAskedBy, named_by, changes_by, without_by, values_by}
use Rattle.history.proofs.Transactions.{all_with}
use Rattle.transcript_laws.proofs.Checked.{IsCheckedLine, IsCheckedAct, act_checked}
use Rattle.transcript_laws.proofs.Views.{IsBuilding, IsViewLine, changed_view}

-- each name is bound to a view that keeps the rules
abbrev pub AreViewNames : Names → Type 0
AreViewNames names = (name : Text) (view : View) → names name ≡ Some view → IsView view

-- so is that of each operation
abbrev pub IsViewOp : Op → Type 0
IsViewOp op = IsView (viewed op)

abbrev pub AreViewOps : Option Transaction → Type 0
AreViewOps None = Unit {0}
AreViewOps (Some t) = AllByRecursion IsViewOp t.ops

-- so are the views of an act
abbrev pub IsViewAct : Act → Type 0
IsViewAct (opens name leaves build) = IsBuilding build
IsViewAct (binds name view) = IsView view
IsViewAct (reads view down) = IsView view
IsViewAct (stages t view words) = IsView view
IsViewAct (writes view words) = IsView view
IsViewAct (begins mode) = Unit {0}
IsViewAct (commits t) = Unit {0}
IsViewAct aborts = Unit {0}
IsViewAct (resizes array shape) = Unit {0}
IsViewAct (resolves name view array) = Unit {0}

outside_views : (t : Option Transaction) (asked : Asked) → IsAskedBy IsViewAct asked → IsAskedBy IsViewAct (outside t asked)
outside_views None asked is = is
outside_views (Some u) asked is = tt

inside_views : (t : Option Transaction) (act : Transaction → Act) → ((u : Transaction) → IsViewAct (act u)) → IsAskedBy IsViewAct (inside t act)
inside_views None act is = tt
inside_views (Some u) act is = is u

write_views : (t : Option Transaction) (v : View) (words : List ℕ) → IsView v → IsViewAct (write_act t v words)
write_views None v words valid = valid
write_views (Some u) v words valid = valid

-- one view is the other
abbrev AreSame : Result View ChangeError → Result View ChangeError → Type 0
AreSame a b = a ≡ b

one_view : (v w : View) → AreSame (Ok v) (Ok w) → IsView v → IsView w
one_view v w e valid = let same : v ≡ w = cc in subst IsView same valid

-- what a line does over such names
pub act_views : (names : Names) (t : Option Transaction) (line : Line) → AreViewNames names → IsCheckedLine line → IsViewLine line → IsAskedBy IsViewAct (act_of names t line)
act_views names t (refused error) each checked parts = tt
act_views names t (opening name leaves build) each checked parts = outside_views t (Ok (opens name leaves build)) parts
act_views names t (viewing name of changes) each checked parts =
    named_by IsViewAct of (names of) _ (λ v there. changes_by IsViewAct (changed (Ok v) changes) _ (λ made is. changed_view changes (Ok v) made parts (λ w e. one_view v w e (each of v there)) is))
act_views names t (joining name of join changes) each checked parts = absurd checked
act_views names t (reading name changes None) each checked parts =
    named_by IsViewAct name (names name) _
    (λ v there. changes_by IsViewAct (changed (Ok v) changes) (read_of None)
    (λ w is. without_by IsViewAct (view_fault w) _ (λ fits. without_by IsViewAct (cell_fault w) (Ok (reads w None)) (λ found. changed_view changes (Ok v) w parts (λ u e. one_view v u e (each name v there)) is))))
act_views names t (reading name changes (Some down)) each checked parts = absurd (cc)
act_views names t (writing name changes values) each checked parts =
    named_by IsViewAct name (names name) _
    (λ v there. changes_by IsViewAct (changed (Ok v) changes) (write_of t values)
    (λ w is. without_by IsViewAct (view_fault w) _ (λ fits. values_by IsViewAct (values (look_of w).dtype (shape_of w)) _
    (λ words given. without_by IsViewAct (cell_fault w) (Ok (write_act t w words)) (λ found. write_views t w words (changed_view changes (Ok v) w parts (λ u e. one_view v u e (each name v there)) is))))))
act_views names t (beginning mode) each checked parts = outside_views t (Ok (begins mode)) tt
act_views names t committing each checked parts = inside_views t commits (λ u. tt)
act_views names t aborting each checked parts = inside_views t (λ u. aborts) (λ u. tt)
act_views names t (resizing name shape) each checked parts = absurd checked
act_views names t (resolving name) each checked parts = absurd checked

bound_views : (names : Names) (name : Text) (view : View) → AreViewNames names → IsView view → AreViewNames (bind names name view)
bound_views names name view each valid = λ other v is. by other v (bytes_eq name other) is
  where
    by : (other : Text) (v : View) (b : Bool) → cond b (Some view) (names other) ≡ Some v → IsView v
    by other v true is = let same : view ≡ v = cc in subst IsView same valid
    by other v false is = each other v is

read_views : (t : Option Transaction) (view : View) (words : List ℕ) (marks : Marks) → IsView view → AreViewOps t → AreViewOps (with_read t view words marks)
read_views None view words marks valid all = tt
read_views (Some t) view words marks valid all = by t.mode.repeatable_read
  where
    by : (b : Bool) → AreViewOps (Some (cond b (record t { ops = t.ops ++ Read view words ∷ []; marks = marks }) t))
    by true = all_with IsViewOp t.ops (Read view words ∷ []) all (valid, tt)
    by false = all

left_views : (t : Transaction) (b : Bool) → AreViewOps (Some t) → AreViewOps (cond b (Some t) None)
left_views t true all = all
left_views t false all = tt

module _ (fixed : Fixed) (owner : ℕ) (events : History) where
  commit_views : {t : Transaction} {left : Option Transaction} {answer : Body} {os : List Numbered} → AreViewOps (Some t) → IsCommit fixed owner events t left answer os → AreViewOps left
  commit_views all (conflicts conflict) = tt
  commit_views all (is_shrunk free shrunk) = tt
  commit_views all (is_split free present split) = tt
  commit_views all (is_damaged may damage) = all
  commit_views all (is_done n may undamaged) = tt
  commit_views {t = t} all (is_failed n count other part changed) = left_views t (count == 0) all
  commit_views {t = t} all (is_wanting n count part) = left_views t (count == 0) all

  -- the names and the operations behind a row
  pub record AreViews (names : Names) (left : Option Transaction) : Type 0 where
    pub names_are : AreViewNames names
    pub ops_are : AreViewOps left

  row_views : (s : SessionState) (line : ℕ) (act : Act) (names : Names) (left : Option Transaction) (answer : Body) (os : List Numbered) → IsCheckedAct act → IsActIn s.transaction act → IsViewAct act → AreViews s.names s.transaction → IsRow fixed owner events s line act names left answer os
      → AreViews names left
  row_views s line act names left answer os checked fits parts all (open_done {name = name} {refs = refs} {view = view} opened built) = record { names_are = bound_views s.names name view all.names_are (parts refs view built); ops_are = all.ops_are }
  row_views s line act names left answer os checked fits parts all (open_refused opened refusal) = all
  row_views s line act names left answer os checked fits parts all (open_unbuilt opened built) = all
  row_views s line act names left answer os checked fits parts all (open_failed before opened failed) = all
  row_views s line act names left answer os checked fits parts all (open_wanting opened) = all
  row_views s line act names left answer os checked fits parts all (view_done {name = name} {view = view}) = record { names_are = bound_views s.names name view all.names_are parts; ops_are = all.ops_are }
  row_views s line act names left answer os checked fits parts all (read_done {view = view} {words = words} {marks = marks} read) = record { names_are = all.names_are; ops_are = read_views s.transaction view words marks parts all.ops_are }
  row_views s line act names left answer os checked fits parts all (read_shrunk shrunk) = all
  row_views s line act names left answer os checked fits parts all (read_damaged damaged) = all
  row_views s line act names left answer os checked fits parts all (read_failed before fetched) = all
  row_views s line act names left answer os checked fits parts all (write_staged {t = t} {view = view} {words = words}) =
      record { names_are = all.names_are; ops_are = all_with IsViewOp t.ops (Write view words ∷ []) (subst AreViewOps fits all.ops_are) (parts, tt) }
  row_views s line act names left answer os checked fits parts all (write_done commit) = record { names_are = all.names_are; ops_are = tt }
  row_views s line act names left answer os checked fits parts all begin_done = record { names_are = all.names_are; ops_are = tt }
  row_views s line act names left answer os checked fits parts all (commit_done {t = t} commit) = record { names_are = all.names_are; ops_are = commit_views (subst AreViewOps fits all.ops_are) commit }
  row_views s line act names left answer os checked fits parts all abort_done = record { names_are = all.names_are; ops_are = tt }
  row_views s line act names left answer os checked fits parts all (resize_done n may undamaged) = absurd checked
  row_views s line act names left answer os checked fits parts all (resize_many many) = absurd checked
  row_views s line act names left answer os checked fits parts all (resize_split few split) = absurd checked
  row_views s line act names left answer os checked fits parts all (resize_damaged may damaged) = absurd checked
  row_views s line act names left answer os checked fits parts all (resize_failed n may on_mount) = absurd checked
  row_views s line act names left answer os checked fits parts all (resolve_done k low top is) = absurd checked
  row_views s line act names left answer os checked fits parts all (resolve_refused k low top is) = absurd checked

  answered_views : (s : SessionState) (line : ℕ) (asked : Asked) (names : Names) (left : Option Transaction) (answer : Body) (os : List Numbered) → IsAskedBy IsCheckedAct asked → IsAskedIn s.transaction asked → IsAskedBy IsViewAct asked → AreViews s.names s.transaction
      → IsAnswered fixed owner events s line asked names left answer os → AreViews names left
  answered_views s line asked names left answer os checked fits parts all refused_line = all
  answered_views s line asked names left answer os checked fits parts all wanting = all
  answered_views s line asked names left answer os checked fits parts all (done_line {act = act} row) = row_views s line act names left answer os checked fits parts all row

-- from line to line
pub step_views : (fixed : Fixed) (owner : ℕ) (history : History) (s : SessionState) (line : ℕ) (asked : Line) (next : SessionState) (answer : Body) → IsCheckedLine asked → IsViewLine asked → AreViewNames s.names × AreViewOps s.transaction → SessionStep fixed owner history s line asked next answer
    → AreViewNames next.names × AreViewOps next.transaction
step_views fixed owner history s line asked next answer checked parts all step =
    let is =
    answered_views fixed owner (take next.seen history) s line (act_of s.names s.transaction asked) next.names next.transaction answer _ (act_checked s.names s.transaction asked checked) (act_of-in s.names s.transaction asked) (act_views s.names s.transaction asked all.0 checked parts)
    (record { names_are = all.0; ops_are = all.1 }) step.row in
    (is.names_are, is.ops_are)
