-- The values that an output prints are along at most 32 dimensions.
use Rattle.std.proofs.Common.{◌≡◌, ◌≤◌, ℤ, ℕ, ◌+◌, List, [], ◌∷◌, length, map, take, Bool, true, false, cond, Option, Some, None, Result, Ok, Err, sym, ap, subst, arith}
use Rattle.std.specs.FinMap as finmap
use Rattle.std.specs.List.{AllByRecursion}
use Rattle.std.specs.Str.{bytes_eq}
use Rattle.std.proofs.lemmas.List.{length-map, length-take-le}
use Rattle.index_intervals.specs.Members.{size_of}
use Rattle.stack_driver.specs.Targets.{Target}
use Rattle.stack_driver.specs.Cells.{cells_of}
use Rattle.stack_driver.specs.Views.{look_of, targets_of, own_transform}
use Rattle.stack_driver.specs.declared.error.TargetError.{TargetError}
use Rattle.stack_driver.specs.declared.error.TargetError.TheVariants as target
use Rattle.stack_driver.specs.declared.view.View.{View}
use Rattle.stack_driver.proofs.Looks.{own_dims}
use Rattle.script_lines.specs.Script.{lines_of, is_blank}
use Rattle.history.specs.Acts.{Act, Asked, opens, binds, reads, stages, writes, begins, commits, aborts, resizes, resolves, form_body, change_body, outside, inside, named, with_changes, without, with_values, changed, write_act, read_of, write_of, act_of}
use Rattle.history.specs.Alone.{single_store}
use Rattle.history.specs.Answers as body
use Rattle.history.specs.Answers.{Body, Answer, Text}
use Rattle.history.specs.Commit.{Fixed, Transaction}
use Rattle.history.specs.CommitRows.{IsCommit, conflicts, is_shrunk, is_split, is_damaged, is_done, is_failed, is_wanting}
use Rattle.history.specs.History.{History}
use Rattle.history.specs.Leaves.{Leaf}
use Rattle.history.specs.Legal.{IsLegal}
use Rattle.history.specs.Lines.{FormError, ChangeError, unknown_dim, repeated_dim, refused_step, refused_view, bad_line, bad_spec, unsupported, bad_step, Line, refused, opening, viewing, joining, reading, writing, beginning, committing, aborting, resizing, resolving}
use Rattle.history.specs.OpenRows.{IsRefusal}
use Rattle.history.specs.Outcomes.{Outcome, path_taken, bad_metadata, exists, mismatch, there, found, not_found, bad_want, made}
use Rattle.history.specs.Own.{Numbered}
use Rattle.history.specs.Sessions.{Names, SessionState, bind}
use Rattle.history.specs.Steps.{as_written, IsRow, open_done, open_refused, open_unbuilt, open_failed, open_wanting, view_done, read_done, read_shrunk, read_damaged, read_failed, write_staged, write_done, begin_done, commit_done, abort_done, resize_done, resize_many, resize_split, resize_damaged, resize_failed, resolve_done, resolve_refused, IsAnswered, refused_line, wanting, done_line, SessionStep, IsSessionRun, no_line, blank_line, next_line, last_line}
use Rattle.history.specs.Viewing.{shape_of, size_fault, first_infinite, too_many, view_fault, target_body, first_fault, cell_fault}
use Rattle.history.proofs.Asking.{IsAskedBy, named_by, changes_by, without_by, values_by}
use Rattle.history.proofs.Laws.{legal_take}
use Rattle.history.proofs.StepsKnown.{IsEventOf}
use Rattle.transcript_laws.specs.Meanings.{line_of_bytes, asked_line}
use Rattle.transcript_laws.specs.Outputs.{scripts_of, IsOutput}
use Rattle.transcript_laws.specs.Transcript.{mount}
use Rattle.transcript_laws.proofs.Checked.{IsCheckedLine, IsCheckedAct, AreCheckedLines, act_checked, all_checked}
use Rattle.transcript_laws.proofs.Runs.{HasNoMemory, HaveRunAll, all_run}
use Rattle.output_laws.specs.Flat.{IsFlat, AreFlat}
use Rattle.output_laws.proofs.ViewRanks.{HasViewRank}
use Rattle.output_laws.proofs.LineRanks.{IsRankBuild, IsRankLine, bytes_rank, changed_rank}
use Rattle.output_laws.proofs.OpenedRanks.{own_are, opened_few}

-- a session's line, None being a blank one
abbrev pub Lines : Type 0
Lines = List (Option Line)

abbrev pub AreRankLines : Lines → Type 0
AreRankLines [] = Unit {0}
AreRankLines (None ∷ lines) = AreRankLines lines
AreRankLines (Some line ∷ lines) = IsRankLine line × AreRankLines lines

-- each name is bound to a view that has a rank
abbrev pub AreRankNames : Names → Type 0
AreRankNames names = (name : Text) (view : View) → names name ≡ Some view → HasViewRank view

-- so are the views of an act
abbrev IsRankAct : Act → Type 0
IsRankAct (opens name leaves build) = IsRankBuild build
IsRankAct (binds name view) = HasViewRank view
IsRankAct (reads view down) = HasViewRank view
IsRankAct (stages t view words) = Unit {0}
IsRankAct (writes view words) = Unit {0}
IsRankAct (begins mode) = Unit {0}
IsRankAct (commits t) = Unit {0}
IsRankAct aborts = Unit {0}
IsRankAct (resizes array shape) = Unit {0}
IsRankAct (resolves name view array) = Unit {0}

outside_rank : (t : Option Transaction) (asked : Asked) → IsAskedBy IsRankAct asked → IsAskedBy IsRankAct (outside t asked)
outside_rank None asked is = is
outside_rank (Some u) asked is = tt

inside_rank : (t : Option Transaction) (act : Transaction → Act) → ((u : Transaction) → IsRankAct (act u)) → IsAskedBy IsRankAct (inside t act)
inside_rank None act is = tt
inside_rank (Some u) act is = is u

write_rank : (t : Option Transaction) (v : View) (words : List ℕ) → IsRankAct (write_act t v words)
write_rank None v words = tt
write_rank (Some u) v words = tt

-- one view is the other
abbrev AreSame : Result View ChangeError → Result View ChangeError → Type 0
AreSame a b = a ≡ b

one_view : (v w : View) → AreSame (Ok v) (Ok w) → HasViewRank v → HasViewRank w
one_view v w e has = let same : v ≡ w = cc in subst HasViewRank same has

-- what a line does over such names
act_rank : (names : Names) (t : Option Transaction) (line : Line) → AreRankNames names → IsCheckedLine line → IsRankLine line → IsAskedBy IsRankAct (act_of names t line)
act_rank names t (refused error) each checked parts = tt
act_rank names t (opening name leaves build) each checked parts = outside_rank t (Ok (opens name leaves build)) parts
act_rank names t (viewing name of changes) each checked parts =
    named_by IsRankAct of (names of) _ (λ v at. changes_by IsRankAct (changed (Ok v) changes) _ (λ view is. changed_rank changes (Ok v) view parts (λ w e. one_view v w e (each of v at)) is))
act_rank names t (joining name of join changes) each checked parts = absurd checked
act_rank names t (reading name changes None) each checked parts =
    named_by IsRankAct name (names name) _
    (λ v at. changes_by IsRankAct (changed (Ok v) changes) (read_of None)
    (λ w is. without_by IsRankAct (view_fault w) _ (λ fits. without_by IsRankAct (cell_fault w) (Ok (reads w None)) (λ none. changed_rank changes (Ok v) w parts (λ u e. one_view v u e (each name v at)) is))))
act_rank names t (reading name changes (Some down)) each checked parts = absurd (cc)
act_rank names t (writing name changes values) each checked parts =
    named_by IsRankAct name (names name) _
    (λ v at. changes_by IsRankAct (changed (Ok v) changes) (write_of t values)
    (λ w is. without_by IsRankAct (view_fault w) _ (λ fits. values_by IsRankAct (values (look_of w).dtype (shape_of w)) _
    (λ words given. without_by IsRankAct (cell_fault w) (Ok (write_act t w words)) (λ none. write_rank t w words)))))
act_rank names t (beginning mode) each checked parts = outside_rank t (Ok (begins mode)) tt
act_rank names t committing each checked parts = inside_rank t commits (λ u. tt)
act_rank names t aborting each checked parts = inside_rank t (λ u. aborts) (λ u. tt)
act_rank names t (resizing name shape) each checked parts = absurd checked
act_rank names t (resolving name) each checked parts = absurd checked

-- ---- refusals by the line alone

abbrev IsFlatAsked : Asked → Type 0
IsFlatAsked (Ok act) = Unit {0}
IsFlatAsked (Err answer) = IsFlat answer

form_flat : (e : FormError) → IsFlat (form_body e)
form_flat (bad_line text) = tt
form_flat (bad_spec path) = tt
form_flat (unsupported path) = tt
form_flat (bad_step step) = tt

change_flat : (e : ChangeError) → IsFlat (change_body e)
change_flat (unknown_dim step) = tt
change_flat (repeated_dim step) = tt
change_flat (refused_step step cause) = tt
change_flat (refused_view cause) = tt

outside_flat : (t : Option Transaction) (act : Act) → IsFlatAsked (outside t (Ok act))
outside_flat None act = tt
outside_flat (Some u) act = tt

inside_flat : (t : Option Transaction) (act : Transaction → Act) → IsFlatAsked (inside t act)
inside_flat None act = tt
inside_flat (Some u) act = tt

named_flat : (name : Text) (o : Option View) (next : View → Asked) → ((v : View) → IsFlatAsked (next v)) → IsFlatAsked (named name o next)
named_flat name None next flat = tt
named_flat name (Some v) next flat = flat v

changes_flat : (r : Result View ChangeError) (next : View → Asked) → ((v : View) → IsFlatAsked (next v)) → IsFlatAsked (with_changes r next)
changes_flat (Err e) next flat = change_flat e
changes_flat (Ok v) next flat = flat v

values_flat : (r : Result (List ℕ) (List ℕ)) (next : List ℕ → Asked) → ((ws : List ℕ) → IsFlatAsked (next ws)) → IsFlatAsked (with_values r next)
values_flat (Err path) next flat = tt
values_flat (Ok ws) next flat = flat ws

abbrev MayBeFlat : Option Body → Type 0
MayBeFlat None = Unit {0}
MayBeFlat (Some fault) = IsFlat fault

without_flat : (fault : Option Body) (asked : Asked) → MayBeFlat fault → IsFlatAsked asked → IsFlatAsked (without fault asked)
without_flat None asked one other = other
without_flat (Some fault) asked one other = one

size_flat : (one other : Option ℕ) → MayBeFlat (size_fault one other)
size_flat (Some dim) other = tt
size_flat None (Some dim) = tt
size_flat None None = tt

target_flat : (x : List ℤ) (e : TargetError) → IsFlat (target_body x e)
target_flat x (target.OutOfRange dim) = tt
target_flat x target.Uncovered = tt
target_flat x target.Memory = tt

first_flat : (xs : List (List ℤ)) (ts : List (Result Target TargetError)) → MayBeFlat (first_fault xs ts)
first_flat [] ts = tt
first_flat (x ∷ xs) [] = tt
first_flat (x ∷ xs) (Ok t ∷ ts) = first_flat xs ts
first_flat (x ∷ xs) (Err e ∷ ts) = target_flat x e

view_flat : (v : View) → MayBeFlat (view_fault v)
view_flat v = size_flat (first_infinite 0 (look_of v).dims) (too_many (shape_of v))

cell_flat : (v : View) → MayBeFlat (cell_fault v)
cell_flat v = first_flat (cells_of (look_of v).dims) (targets_of v)

act_flat : (names : Names) (t : Option Transaction) (line : Line) → IsCheckedLine line → IsFlatAsked (act_of names t line)
act_flat names t (refused error) checked = form_flat error
act_flat names t (opening name leaves build) checked = outside_flat t (opens name leaves build)
act_flat names t (viewing name of changes) checked = named_flat of (names of) _ (λ v. changes_flat (changed (Ok v) changes) _ (λ w. tt))
act_flat names t (joining name of join changes) checked = absurd checked
act_flat names t (reading name changes None) checked =
    named_flat name (names name) _ (λ v. changes_flat (changed (Ok v) changes) _ (λ w. without_flat (view_fault w) _ (view_flat w) (without_flat (cell_fault w) (Ok (reads w None)) (cell_flat w) tt)))
act_flat names t (reading name changes (Some down)) checked = absurd (cc)
act_flat names t (writing name changes values) checked =
    named_flat name (names name) _
    (λ v. changes_flat (changed (Ok v) changes) _
    (λ w. without_flat (view_fault w) _ (view_flat w) (values_flat (values (look_of w).dtype (shape_of w)) _ (λ words. without_flat (cell_fault w) (Ok (write_act t w words)) (cell_flat w) tt))))
act_flat names t (beginning mode) checked = outside_flat t (begins mode)
act_flat names t committing checked = inside_flat t commits
act_flat names t aborting checked = inside_flat t (λ u. aborts)
act_flat names t (resizing name shape) checked = absurd checked
act_flat names t (resolving name) checked = absurd checked

-- ---- rows

refusal_flat : (node : List ℕ) (leaf : Leaf) (at : ℕ) (numbers : List ℕ) (outcome : Outcome) (answer : Body) → IsRefusal node leaf at numbers outcome answer → IsFlat answer
refusal_flat node leaf at numbers (path_taken other) answer is = subst IsFlat (sym is) tt
refusal_flat node leaf at numbers (bad_metadata bytes) answer is = subst IsFlat (sym is.2) tt
refusal_flat node leaf at numbers exists answer is = subst IsFlat (sym is) tt
refusal_flat node leaf at numbers (mismatch member) answer is = subst IsFlat (sym is) tt
refusal_flat node leaf at numbers (there array) answer is = absurd is
refusal_flat node leaf at numbers (found meta) answer is = absurd is
refusal_flat node leaf at numbers not_found answer is = subst IsFlat (sym is) tt
refusal_flat node leaf at numbers (bad_want member) answer is = subst IsFlat (sym is) tt
refusal_flat node leaf at numbers (made meta) answer is = absurd is

bound_rank : (names : Names) (name : Text) (view : View) → AreRankNames names → HasViewRank view → AreRankNames (bind names name view)
bound_rank names name view each has = λ other v is. by other v (bytes_eq name other) is
  where
    by : (other : Text) (v : View) (b : Bool) → cond b (Some view) (names other) ≡ Some v → HasViewRank v
    by other v true is = let same : view ≡ v = cc in subst HasViewRank same has
    by other v false is = each other v is

-- a view's values are along its dimensions
read_flat : (view : View) → HasViewRank view → length (shape_of view) ≤ 32
read_flat view has =
    let count = length-map (look_of view).dims size_of in
    let few = has.few in
    let same : length (own_transform view).domain.dims ≡ length (look_of view).dims = ap length (own_dims view) in
    omega (arith, count, few, same)

written_flat : (cells : ℕ) (answer : Body) → IsFlat answer → IsFlat (as_written cells answer)
written_flat cells (body.committed numbers) flat = tt
written_flat cells answer flat = flat

module _ (owner : ℕ) (history : History) (legal : IsLegal finmap.empty history) where
  abbrev fixed : Fixed
  fixed = single_store mount

  -- behind a row the names are as before it, and its answer is flat
  pub record Leaves (names : Names) (answer : Body) : Type 0 where
    pub names_are : AreRankNames names
    pub flat : IsFlat answer

  module _ (s : SessionState) (line : ℕ) (events : History) (now : IsLegal finmap.empty events) where
    commit_flat : (t : Transaction) (left : Option Transaction) (answer : Body) (os : List Numbered) → IsCommit fixed owner events t left answer os → IsFlat answer
    commit_flat t left answer os (conflicts conflict) = tt
    commit_flat t left answer os (is_shrunk free shrunk) = tt
    commit_flat t left answer os (is_split free present split) = tt
    commit_flat t left answer os (is_damaged may damage) = tt
    commit_flat t left answer os (is_done n may undamaged) = tt
    commit_flat t left answer os (is_failed n count other part changed_on) = tt
    commit_flat t left answer os (is_wanting n count part) = tt

    row_flat : (act : Act) (names : Names) (left : Option Transaction) (answer : Body) (os : List Numbered) → AllByRecursion (IsEventOf events) os → IsCheckedAct act → IsRankAct act → AreRankNames s.names
        → IsRow fixed owner events s line act names left answer os → Leaves names answer
    row_flat act names left answer os stand checked parts all (open_done {name = name} {refs = refs} {view = view} opened built) =
        record { names_are = bound_rank s.names name view all (parts refs view (opened_few now opened stand) built); flat = tt }
    row_flat act names left answer os stand checked parts all (open_refused {node = node} {leaf = leaf} opened refusal) = record { names_are = all; flat = refusal_flat node leaf refusal.at _ refusal.outcome answer refusal.answered }
    row_flat act names left answer os stand checked parts all (open_unbuilt opened built) = record { names_are = all; flat = tt }
    row_flat act names left answer os stand checked parts all (open_failed before opened failed) = record { names_are = all; flat = tt }
    row_flat act names left answer os stand checked parts all (open_wanting opened) = record { names_are = all; flat = tt }
    row_flat act names left answer os stand checked parts all (view_done {name = name} {view = view}) = record { names_are = bound_rank s.names name view all parts; flat = tt }
    row_flat act names left answer os stand checked parts all (read_done {view = view} {down = None} read) = record { names_are = all; flat = read_flat view parts }
    row_flat act names left answer os stand checked parts all (read_done {down = Some down} read) = absurd (cc)
    row_flat act names left answer os stand checked parts all (read_shrunk shrunk) = record { names_are = all; flat = tt }
    row_flat act names left answer os stand checked parts all (read_damaged damaged) = record { names_are = all; flat = tt }
    row_flat act names left answer os stand checked parts all (read_failed before fetched) = record { names_are = all; flat = tt }
    row_flat act names left answer os stand checked parts all write_staged = record { names_are = all; flat = tt }
    row_flat act names left answer os stand checked parts all (write_done {words = words} {left = rest} {answer = inner} commit) = record { names_are = all; flat = written_flat (length words) inner (commit_flat _ rest inner os commit) }
    row_flat act names left answer os stand checked parts all begin_done = record { names_are = all; flat = tt }
    row_flat act names left answer os stand checked parts all (commit_done {t = t} commit) = record { names_are = all; flat = commit_flat t left answer os commit }
    row_flat act names left answer os stand checked parts all abort_done = record { names_are = all; flat = tt }
    row_flat act names left answer os stand checked parts all (resize_done n may undamaged) = absurd checked
    row_flat act names left answer os stand checked parts all (resize_many many) = absurd checked
    row_flat act names left answer os stand checked parts all (resize_split few split) = absurd checked
    row_flat act names left answer os stand checked parts all (resize_damaged may damaged) = absurd checked
    row_flat act names left answer os stand checked parts all (resize_failed n may on_mount) = absurd checked
    row_flat act names left answer os stand checked parts all (resolve_done k first top is) = absurd checked
    row_flat act names left answer os stand checked parts all (resolve_refused k first top is) = absurd checked

    answered_flat : (asked : Asked) (names : Names) (left : Option Transaction) (answer : Body) (os : List Numbered) → AllByRecursion (IsEventOf events) os → IsFlatAsked asked → IsAskedBy IsCheckedAct asked → IsAskedBy IsRankAct asked → AreRankNames s.names
        → IsAnswered fixed owner events s line asked names left answer os → Leaves names answer
    answered_flat asked names left answer os stand refusal checked parts all refused_line = record { names_are = all; flat = refusal }
    answered_flat asked names left answer os stand refusal checked parts all wanting = record { names_are = all; flat = tt }
    answered_flat asked names left answer os stand refusal checked parts all (done_line {act = act} row) = row_flat act names left answer os stand checked parts all row

  pub step_flat : (s : SessionState) (line : ℕ) (asked : Line) (next : SessionState) (answer : Body) → IsCheckedLine asked → IsRankLine asked → AreRankNames s.names → SessionStep fixed owner history s line asked next answer → Leaves next.names answer
  step_flat s line asked next answer checked parts all step =
      let size = length-take-le next.seen history step.within in
      let rises = step.rises in
      answered_flat s line (take next.seen history) (legal_take finmap.empty history next.seen legal) (act_of s.names s.transaction asked) next.names next.transaction answer _ (own_are owner s.seen (take next.seen history) (omega (arith, size, rises)))
      (act_flat s.names s.transaction asked checked) (act_checked s.names s.transaction asked checked) (act_rank s.names s.transaction asked all checked parts) all step.row

  -- the answers of a run
  run_flat : {s last : SessionState} {n : ℕ} {lines : Lines} {log : List Answer} → AreCheckedLines lines → AreRankLines lines → AreRankNames s.names → HasNoMemory log → IsSessionRun fixed owner history s n lines log last → AllByRecursion (λ (a : Answer). IsFlat a.body) log
  run_flat checked parts all none no_line = tt
  run_flat checked parts all none (blank_line rest) = run_flat checked.1 parts all none rest
  run_flat checked parts all none (next_line {s} {m} {last} {line} {asked} {answer} step goes_on rest) =
      let leaves = step_flat s line asked m answer checked.0 parts.0 all step in
      (leaves.flat, run_flat checked.1 parts.1 leaves.names_are none.1 rest)
  run_flat checked parts all none (last_line step) = let wants : true ≡ false = none.0 in absurd (cc)

-- what scripts ask
script_ranks : (lines : List (List ℕ)) → AreRankLines (map (asked_line (mount ∷ [])) lines)
script_ranks [] = tt
script_ranks (bytes ∷ lines) = by (is_blank bytes) (script_ranks lines)
  where
    by : (b : Bool) → AreRankLines (map (asked_line (mount ∷ [])) lines) → AreRankLines (cond b None (Some (line_of_bytes (mount ∷ []) bytes)) ∷ map (asked_line (mount ∷ [])) lines)
    by true rest = rest
    by false rest = (bytes_rank bytes, rest)

pub all_ranks : (scripts : List (List ℕ)) → AllByRecursion AreRankLines (scripts_of scripts)
all_ranks [] = tt
all_ranks (script ∷ scripts) = (script_ranks (lines_of script), all_ranks scripts)

all_flat : (history : History) (legal : IsLegal finmap.empty history) (session : ℕ) (scripts : List Lines) (logs : List (List Answer)) → AllByRecursion AreCheckedLines scripts → AllByRecursion AreRankLines scripts → HaveRunAll (single_store mount) history session scripts logs → AreFlat logs
all_flat history legal session [] [] checked parts ran = tt
all_flat history legal session [] (log ∷ logs) checked parts ran = absurd ran
all_flat history legal session (script ∷ scripts) [] checked parts ran = absurd ran
all_flat history legal session (script ∷ scripts) (log ∷ logs) checked parts ran =
    (run_flat session history legal checked.0 parts.0 (λ name view at. absurd (cc)) ran.0.none ran.0.run, all_flat history legal (session + 1) scripts logs checked.1 parts.1 ran.1)

-- so are the values of an output
pub outputs_are_flat : (scripts : List (List ℕ)) (history : History) (logs : List (List Answer)) → IsOutput scripts history logs → AreFlat logs
outputs_are_flat scripts history logs is =
    let ran = all_run (single_store mount) history (scripts_of scripts) logs is.sessions is.whole is.memory in
    all_flat history is.legal 0 (scripts_of scripts) logs (all_checked scripts is.checked) (all_ranks scripts) ran
