-- Line after line, all operations of a session's transaction are staged.
use Rattle.std.proofs.Common.{◌≡◌, ℕ, ◌+◌, List, [], ◌∷◌, ◌++◌, length, take, drop, Bool, true, false, cond, Option, Some, None, Result, Ok, Err, refl, sym, ap, subst, ◌∙◌, arith}
use Rattle.std.proofs.lemmas.List.{length-map}
use Rattle.std.specs.Prelude.{◌==◌, ◌&&◌, IsTrue, ℤ}
use Rattle.std.specs.List.{AllByRecursion, list_all}
use Rattle.stack_driver.specs.Bounds.{Bounds}
use Rattle.stack_driver.specs.Cells.{cells_of, is_finite}
use Rattle.stack_driver.proofs.Laws.{length-cells_of}
use Rattle.stack_driver.specs.Renewed.{array_of}
use Rattle.stack_driver.specs.Targets.{Target}
use Rattle.stack_driver.specs.Views.{look_of, targets_of}
use Rattle.stack_driver.specs.declared.error.TargetError.{TargetError}
use Rattle.stack_driver.specs.declared.view.View.{View}
use Rattle.history.specs.declared.event.Op.TheVariants.{Write, Read}
use Rattle.history.specs.History.{History}
use Rattle.history.specs.Acts.{Act, opens, binds, reads, stages, writes, begins, commits, aborts, resizes, resolves, Asked, outside, inside, changed, write_act, read_of, write_of, act_of}
use Rattle.history.specs.Answers as body
use Rattle.history.specs.Answers.{Body, Answer, refused_view}
use Rattle.history.specs.Commit.{Fixed, Transaction}
use Rattle.history.specs.CommitRows.{IsCommit, is_done, conflicts, is_failed, is_split, is_shrunk, is_damaged, is_wanting}
use Rattle.history.specs.Lines.{Values, Line, refused, opening, viewing, joining, reading, writing, beginning, committing, aborting, resizing, resolving}
use Rattle.history.specs.Own.{Numbered, own_events}
use Rattle.history.specs.ReadRows.{with_read}
use Rattle.history.specs.Reads.{Marks, mark_of, marked_world}
use Rattle.history.specs.Sessions.{Names, SessionState, reader}
use Rattle.history.specs.Shown.{IsRead}
use Rattle.history.specs.Staged.{IsFound, IsStaged, AreStaged, AreFitting, HasFittingValues, FitsInLine}
use Rattle.history.specs.Steps.{IsRow, open_done, open_refused, open_unbuilt, open_failed, open_wanting, view_done, read_done, read_shrunk, read_damaged, read_failed, write_staged, write_done, begin_done, commit_done, abort_done, resize_done, resize_many, resize_split, resize_damaged, resize_failed, resolve_done, resolve_refused, IsAnswered, refused_line, wanting, done_line, SessionStep, IsSessionRun, no_line, blank_line, next_line, last_line}
use Rattle.history.specs.Viewing.{shape_of, first_infinite, too_many, size_fault, view_fault, first_fault, cell_fault}
use Rattle.history.specs.Writes.{written, shown_in}
use Rattle.history.proofs.ActFits.{IsActIn, IsAskedIn, act_of-in}
use Rattle.history.proofs.Asking.{IsAskedBy, named_by, all_named_by, join_by, changes_by, without_by, values_by, leaf_by, cond_by, factors_by}
use Rattle.history.proofs.Transactions.{all_with}

-- the view of a line that reads or writes: it has finitely many cells, and each has a target
pub record IsWholeView (view : View) : Type 0 where
  pub finite : IsTrue (list_all is_finite (look_of view).dims)
  pub targets : AllByRecursion IsFound (targets_of view)

sizes_finite : (a b : Option ℕ) → size_fault a b ≡ None → a ≡ None
sizes_finite (Some dim) b none = absurd (cc)
sizes_finite None b none = refl

dims_finite : (k : ℕ) (dims : List Bounds) → first_infinite k dims ≡ None → IsTrue (list_all is_finite dims)
dims_finite k [] none = refl
dims_finite k (d ∷ dims) none = told (is_finite d) (dims_finite (k + 1) dims) none
  where
    told : (b : Bool) → (first_infinite (k + 1) dims ≡ None → IsTrue (list_all is_finite dims)) → cond b (first_infinite (k + 1) dims) (Some k) ≡ None → IsTrue (b && list_all is_finite dims)
    told true rest e = rest e
    told false rest e = absurd (cc)

all_found : (xs : List (List ℤ)) (ts : List (Result Target TargetError)) → length ts ≡ length xs → first_fault xs ts ≡ None → AllByRecursion IsFound ts
all_found xs [] same none = tt
all_found [] (t ∷ ts) same none = absurd (grind (arith, same))
all_found (x ∷ xs) (Ok t ∷ ts) same none = (tt, all_found xs ts (grind (arith, same)) none)
all_found (x ∷ xs) (Err e ∷ ts) same none = absurd (cc)

targets-count : (view : View) → length (targets_of view) ≡ length (cells_of (look_of view).dims)
unfolding targets_of
targets-count view = length-map (cells_of (look_of view).dims) (look_of view).target

pub whole_view : (view : View) → view_fault view ≡ None → cell_fault view ≡ None → IsWholeView view
whole_view view fits found = record {
  finite = dims_finite 0 (look_of view).dims (sizes_finite (first_infinite 0 (look_of view).dims) (too_many (shape_of view)) fits);
  targets = all_found (cells_of (look_of view).dims) (targets_of view) (targets-count view) found;
}

-- what an act reads is a whole view, and what it writes is staged
abbrev pub IsActWhole : Act → Type 0
IsActWhole (opens name leaves build) = Unit {0}
IsActWhole (binds name view) = Unit {0}
IsActWhole (reads view down) = IsWholeView view
IsActWhole (stages t view words) = IsStaged (Write view words)
IsActWhole (writes view words) = IsStaged (Write view words)
IsActWhole (begins mode) = Unit {0}
IsActWhole (commits t) = Unit {0}
IsActWhole aborts = Unit {0}
IsActWhole (resizes array shape) = Unit {0}
IsActWhole (resolves name view array) = Unit {0}

pub staged_write : (view : View) (values : Values) (words : List ℕ) → AreFitting values → values (look_of view).dtype (shape_of view) ≡ Ok words → IsWholeView view → IsStaged (Write view words)
staged_write view values words fitting given whole =
    let fit = fitting (look_of view).dtype (shape_of view) words given in
    record {
      finite = whole.finite;
      targets = whole.targets;
      count = fit.0 ∙ sym (length-cells_of (look_of view).dims) ∙ sym (targets-count view);
      words = fit.1;
    }

write_whole : (t : Option Transaction) (view : View) (words : List ℕ) → IsStaged (Write view words) → IsActWhole (write_act t view words)
write_whole None view words staged = staged
write_whole (Some t) view words staged = staged

outside_whole : (t : Option Transaction) (asked : Asked) → IsAskedBy IsActWhole asked → IsAskedBy IsActWhole (outside t asked)
outside_whole None asked whole = whole
outside_whole (Some t) asked whole = tt

inside_whole : (t : Option Transaction) (act : Transaction → Act) → ((u : Transaction) → IsActWhole (act u)) → IsAskedBy IsActWhole (inside t act)
inside_whole None act whole = tt
inside_whole (Some t) act whole = whole t

-- a line whose values fit reads whole views and writes what is staged
pub act_of-whole : (names : Names) (t : Option Transaction) (line : Line) → HasFittingValues line → IsAskedBy IsActWhole (act_of names t line)
act_of-whole names t (refused error) fitting = tt
act_of-whole names t (opening name leaves build) fitting = outside_whole t (Ok (opens name leaves build)) tt
act_of-whole names t (viewing name of changes) fitting = named_by IsActWhole of (names of) _ (λ v there. changes_by IsActWhole (changed (Ok v) changes) _ (λ made of_these. tt))
act_of-whole names t (joining name of join changes) fitting =
    all_named_by IsActWhole (λ v. Unit {0}) names (λ name v there. tt) of _ (λ views all. join_by IsActWhole (join views) _ (λ v joined. changes_by IsActWhole (changed (Ok v) changes) _ (λ made of_these. tt)))
act_of-whole names t (reading name changes down) fitting =
    named_by IsActWhole name (names name) _
    (λ v there. changes_by IsActWhole (changed (Ok v) changes) (read_of down)
    (λ w of_these. factors_by IsActWhole down w _ (without_by IsActWhole (view_fault w) _ (λ fits. without_by IsActWhole (cell_fault w) (Ok (reads w down)) (λ found. whole_view w fits found)))))
act_of-whole names t (writing name changes values) fitting =
    named_by IsActWhole name (names name) _
    (λ v there. changes_by IsActWhole (changed (Ok v) changes) (write_of t values)
    (λ w of_these. without_by IsActWhole (view_fault w) _ (λ fits. values_by IsActWhole (values (look_of w).dtype (shape_of w)) _
    (λ words given. without_by IsActWhole (cell_fault w) (Ok (write_act t w words)) (λ found. write_whole t w words (staged_write w values words fitting given (whole_view w fits found)))))))
act_of-whole names t (beginning mode) fitting = outside_whole t (Ok (begins mode)) tt
act_of-whole names t committing fitting = inside_whole t commits (λ u. tt)
act_of-whole names t aborting fitting = inside_whole t (λ u. aborts) (λ u. tt)
act_of-whole names t (resizing name shape) fitting =
    outside_whole t _ (named_by IsActWhole name (names name) _ (λ v there. leaf_by IsActWhole (array_of v) _
    (λ array leaf. cond_by IsActWhole array.local _ _ tt (cond_by IsActWhole (length shape == length array.shape) _ _ tt tt))))
act_of-whole names t (resolving name) fitting = outside_whole t _ (named_by IsActWhole name (names name) _ (λ v there. leaf_by IsActWhole (array_of v) (λ array. Ok (resolves name v array)) (λ array leaf. tt)))

-- a read has a word for each of its view's cells
staged_read : (fixed : Fixed) (events : History) (seen : ℕ) (t : Transaction) (view : View) (words : List ℕ) (marks : Marks) → IsRead fixed events seen t view words marks → IsWholeView view → IsStaged (Read view words)
staged_read fixed events seen t view words marks read whole = record {
  finite = whole.finite;
  targets = whole.targets;
  count = sym (length-map words Some) ∙ ap length read.shown ∙ length-map (targets_of view) (shown_in (written t.ops (marked_world fixed.start events (mark_of marks))));
  words = tt;
}

read_staged : (view : View) (words : List ℕ) (marks : Marks) (t : Transaction) (b : Bool) → IsStaged (Read view words) → AreStaged (Some t) → AreStaged (Some (cond b (record t { ops = t.ops ++ Read view words ∷ []; marks = marks }) t))
read_staged view words marks t true one all = all_with IsStaged t.ops (Read view words ∷ []) all (one, tt)
read_staged view words marks t false one all = all

after_staged : (fixed : Fixed) (events : History) (seen line : ℕ) (t : Option Transaction) (view : View) (words : List ℕ) (marks : Marks) → IsRead fixed events seen (reader line t) view words marks → IsWholeView view → AreStaged t → AreStaged (with_read t view words marks)
after_staged fixed events seen line None view words marks read whole all = tt
after_staged fixed events seen line (Some t) view words marks read whole all = read_staged view words marks t t.mode.repeatable_read (staged_read fixed events seen t view words marks read whole) all

left_staged : (b : Bool) (t : Transaction) → AreStaged (Some t) → AreStaged (cond b (Some t) None)
left_staged true t all = all
left_staged false t all = tt

commit_staged : {fixed : Fixed} {owner : ℕ} {events : History} {t : Transaction} {left : Option Transaction} {answer : Body} {own : List Numbered} → IsCommit fixed owner events t left answer own → AreStaged (Some t) → AreStaged left
commit_staged (conflicts conflict) all = tt
commit_staged (is_shrunk free shrunk) all = tt
commit_staged (is_split free present split) all = tt
commit_staged (is_damaged may damage) all = all
commit_staged (is_done n may undamaged) all = tt
commit_staged {t = t} (is_failed n count mount part changed) all = left_staged (count == 0) t all
commit_staged {t = t} (is_wanting n count part) all = left_staged (count == 0) t all

of_staged : (t : Option Transaction) (u : Transaction) → t ≡ Some u → AreStaged t → AreStaged (Some u)
of_staged t u is all = subst AreStaged is all

row_staged : (fixed : Fixed) (owner : ℕ) (events : History) (s : SessionState) (line : ℕ) (act : Act) (names : Names) (left : Option Transaction) (answer : Body) (own : List Numbered) → IsRow fixed owner events s line act names left answer own → IsActIn s.transaction act
    → IsActWhole act → AreStaged s.transaction → AreStaged left
row_staged fixed owner events s line act names left answer own (open_done opened built) fits whole all = all
row_staged fixed owner events s line act names left answer own (open_refused opened refusal) fits whole all = all
row_staged fixed owner events s line act names left answer own (open_unbuilt opened built) fits whole all = all
row_staged fixed owner events s line act names left answer own (open_failed before opened failed) fits whole all = all
row_staged fixed owner events s line act names left answer own (open_wanting opened) fits whole all = all
row_staged fixed owner events s line act names left answer own view_done fits whole all = all
row_staged fixed owner events s line act names left answer own (read_done {view = view} {words = words} {marks = marks} read) fits whole all = after_staged fixed events s.seen line s.transaction view words marks read whole all
row_staged fixed owner events s line act names left answer own (read_shrunk shrunk) fits whole all = all
row_staged fixed owner events s line act names left answer own (read_damaged damaged) fits whole all = all
row_staged fixed owner events s line act names left answer own (read_failed before fetched) fits whole all = all
row_staged fixed owner events s line act names left answer own (write_staged {t = t} {view = view} {words = words}) fits whole all = all_with IsStaged t.ops (Write view words ∷ []) (of_staged s.transaction t fits all) (whole, tt)
row_staged fixed owner events s line act names left answer own (write_done commit) fits whole all = tt
row_staged fixed owner events s line act names left answer own begin_done fits whole all = tt
row_staged fixed owner events s line act names left answer own (commit_done {t = t} commit) fits whole all = commit_staged commit (of_staged s.transaction t fits all)
row_staged fixed owner events s line act names left answer own abort_done fits whole all = tt
row_staged fixed owner events s line act names left answer own (resize_done n may undamaged) fits whole all = all
row_staged fixed owner events s line act names left answer own (resize_many many) fits whole all = all
row_staged fixed owner events s line act names left answer own (resize_split few split) fits whole all = all
row_staged fixed owner events s line act names left answer own (resize_damaged may damaged) fits whole all = all
row_staged fixed owner events s line act names left answer own (resize_failed n may on_mount) fits whole all = all
row_staged fixed owner events s line act names left answer own (resolve_done m low high renewed) fits whole all = all
row_staged fixed owner events s line act names left answer own (resolve_refused m low high renewed) fits whole all = all

answered_staged : (fixed : Fixed) (owner : ℕ) (events : History) (s : SessionState) (line : ℕ) (asked : Asked) (names : Names) (left : Option Transaction) (answer : Body) (own : List Numbered) → IsAnswered fixed owner events s line asked names left answer own → IsAskedIn s.transaction asked
    → IsAskedBy IsActWhole asked → AreStaged s.transaction → AreStaged left
answered_staged fixed owner events s line asked names left answer own refused_line fits whole all = all
answered_staged fixed owner events s line asked names left answer own wanting fits whole all = all
answered_staged fixed owner events s line asked names left answer own (done_line {act = act} row) fits whole all = row_staged fixed owner events s line act names left answer own row fits whole all

-- a step keeps that all operations of the transaction are staged, where the values of its line fit
pub step_staged : (fixed : Fixed) (owner : ℕ) (events : History) (s : SessionState) (line : ℕ) (asked : Line) (next : SessionState) (answer : Body) → HasFittingValues asked → SessionStep fixed owner events s line asked next answer → AreStaged s.transaction → AreStaged next.transaction
step_staged fixed owner events s line asked next answer fitting step all =
    let now : History = take next.seen events in
    answered_staged fixed owner now s line (act_of s.names s.transaction asked) next.names next.transaction answer (own_events owner (s.seen + 1) (drop s.seen now)) step.row (act_of-in s.names s.transaction asked)
    (act_of-whole s.names s.transaction asked fitting) all

-- so does a run
pub run_staged : {fixed : Fixed} {owner : ℕ} (events : History) {s : SessionState} {line : ℕ} {lines : List (Option Line)} {answers : List Answer} {last : SessionState} → AllByRecursion FitsInLine lines → IsSessionRun fixed owner events s line lines answers last → AreStaged s.transaction → AreStaged last.transaction
run_staged events fitting no_line all = all
run_staged events fitting (blank_line rest) all = run_staged events fitting.1 rest all
run_staged {fixed = fixed} {owner = owner} events fitting (next_line {s} {m} {last} {line} {asked} {answer} step goes_on rest) all = run_staged events fitting.1 rest (step_staged fixed owner events s line asked m answer fitting.0 step all)
run_staged {fixed = fixed} {owner = owner} events fitting (last_line {s} {last} {line} {asked} step) all = step_staged fixed owner events s line asked last body.memory fitting.0 step all
