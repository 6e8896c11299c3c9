-- Lines that take no turn, or one that adds nothing, tell of no failed call.
use Rattle.std.proofs.Common.{◌≡◌, ◌∙◌, ℕ, List, [], Option, Some, None, Result, Ok, refl, sym, ap}
use Rattle.std.specs.FinMap as finmap
use Rattle.history.specs.Acts.{Act, Asked, opens, binds, reads, stages, writes, begins, commits, aborts, resizes, resolves, act_of, changed, write_act, write_of}
use Rattle.history.specs.Answers as old
use Rattle.history.specs.Commit.{Fixed, Transaction}
use Rattle.history.specs.History.{History}
use Rattle.history.specs.Lines.{Line, viewing, joining, writing, beginning, aborting, resolving, Change, Values}
use Rattle.history.specs.Own.{Numbered}
use Rattle.history.specs.Sessions.{Names, SessionState}
use Rattle.history.specs.Steps.{IsRow, open_done, open_refused, open_unbuilt, open_failed, open_wanting, view_done, read_done, read_shrunk, read_damaged, read_failed, write_staged, write_done, begin_done, commit_done, abort_done, resize_done, resize_many, resize_split, resize_damaged, resize_failed, resolve_done, resolve_refused, IsAnswered, refused_line, wanting, done_line}
use Rattle.history.specs.Viewing.{cell_fault, shape_of, view_fault}
use Rattle.history.specs.declared.event.Event.{Event}
use Rattle.history.specs.declared.event.Mode.{Mode}
use Rattle.history.proofs.Asking.{IsAskedBy, named_by, all_named_by, join_by, changes_by, without_by, values_by, leaf_by}
use Rattle.serial_runs.proofs.Laws.{IsRefusedAsked, act_of-refused}
use Rattle.session_turns.specs.Agreement.{Opening}
use Rattle.session_turns.specs.Bodies.{body_of}
use Rattle.session_turns.specs.Failures.{TellsFailures, failures_in, failures_of}
use Rattle.session_turns.specs.Told.{IsTold, IsToldAlone}
use Rattle.session_turns.specs.Turns.{added_by}
use Rattle.session_turns.specs.declared.Body.{Body}
use Rattle.session_turns.proofs.Laws.{none_added}
use Rattle.sessions.proofs.Failures.{refusal_tells_none}
use Rattle.stack_driver.specs.Renewed.{array_of}
use Rattle.stack_driver.specs.Views.{look_of}
use Rattle.stack_driver.specs.declared.view.View.{View}
use Rattle.turn_book.specs.Passes.{PassView}

-- the act changes and looks at no store
abbrev pub IsPlainAct : Act → Type 0
IsPlainAct (opens name leaves build) = ⊥
IsPlainAct (binds name view) = Unit {0}
IsPlainAct (reads view down) = ⊥
IsPlainAct (stages t view words) = Unit {0}
IsPlainAct (writes view words) = ⊥
IsPlainAct (begins mode) = Unit {0}
IsPlainAct (commits t) = ⊥
IsPlainAct aborts = Unit {0}
IsPlainAct (resizes array shape) = ⊥
IsPlainAct (resolves name view array) = Unit {0}

abbrev pub IsPlainAsked : Asked → Type 0
IsPlainAsked asked = IsAskedBy IsPlainAct asked

module _ (names : Names) where
  pub plain_view : (t : Option Transaction) (name of : List ℕ) (changes : List Change) → IsPlainAsked (act_of names t (viewing name of changes))
  plain_view t name of changes = named_by IsPlainAct of (names of) _ (λ v there. changes_by IsPlainAct (changed (Ok v) changes) _ (λ made is. tt))

  pub plain_join : (t : Option Transaction) (name : List ℕ) (of : List (List ℕ)) (join : List View → Result View old.JoinCause) (changes : List Change) → IsPlainAsked (act_of names t (joining name of join changes))
  plain_join t name of join changes =
      all_named_by IsPlainAct (λ v. Unit {0}) names (λ name v there. tt) of _ (λ views all. join_by IsPlainAct (join views) _ (λ v joined. changes_by IsPlainAct (changed (Ok v) changes) _ (λ made is. tt)))

  pub plain_begin : (t : Option Transaction) (mode : Mode) → IsPlainAsked (act_of names t (beginning mode))
  plain_begin None mode = tt
  plain_begin (Some t) mode = tt

  pub plain_abort : (t : Option Transaction) → IsPlainAsked (act_of names t aborting)
  plain_abort None = tt
  plain_abort (Some t) = tt

  pub plain_stage : (t : Transaction) (name : List ℕ) (changes : List Change) (values : Values) → IsPlainAsked (act_of names (Some t) (writing name changes values))
  plain_stage t name changes values =
      named_by IsPlainAct name (names name) _
      (λ v there. changes_by IsPlainAct (changed (Ok v) changes) (write_of (Some t) values)
      (λ w is. without_by IsPlainAct (view_fault w) _
      (λ fits. values_by IsPlainAct (values (look_of w).dtype (shape_of w)) _ (λ words given. without_by IsPlainAct (cell_fault w) (Ok (write_act (Some t) w words)) (λ found. tt)))))

  pub plain_resolve : (t : Option Transaction) (name : List ℕ) → IsPlainAsked (act_of names t (resolving name))
  plain_resolve None name = named_by IsPlainAct name (names name) _ (λ v there. leaf_by IsPlainAct (array_of v) (λ array. Ok (resolves name v array)) (λ array leaf. tt))
  plain_resolve (Some t) name = tt

module _ (fixed : Fixed) (owner : ℕ) (events : History) (s : SessionState) (line : ℕ) where
  row_tells_none : (act : Act) (names : Names) (left : Option Transaction) (answer : old.Body) (own : List Numbered) → IsPlainAct act → IsRow fixed owner events s line act names left answer own → failures_in (body_of answer) ≡ []
  row_tells_none act names left answer own plain (open_done opened built) = absurd plain
  row_tells_none act names left answer own plain (open_refused opened refused) = absurd plain
  row_tells_none act names left answer own plain (open_unbuilt opened built) = absurd plain
  row_tells_none act names left answer own plain (open_failed before opened failed) = absurd plain
  row_tells_none act names left answer own plain (open_wanting opened) = absurd plain
  row_tells_none act names left answer own plain view_done = refl
  row_tells_none act names left answer own plain (read_done is) = absurd plain
  row_tells_none act names left answer own plain (read_shrunk is) = absurd plain
  row_tells_none act names left answer own plain (read_damaged is) = absurd plain
  row_tells_none act names left answer own plain (read_failed before is) = absurd plain
  row_tells_none act names left answer own plain write_staged = refl
  row_tells_none act names left answer own plain (write_done is) = absurd plain
  row_tells_none act names left answer own plain begin_done = refl
  row_tells_none act names left answer own plain (commit_done is) = absurd plain
  row_tells_none act names left answer own plain abort_done = refl
  row_tells_none act names left answer own plain (resize_done n may sound) = absurd plain
  row_tells_none act names left answer own plain (resize_many many) = absurd plain
  row_tells_none act names left answer own plain (resize_split few split) = absurd plain
  row_tells_none act names left answer own plain (resize_damaged may is) = absurd plain
  row_tells_none act names left answer own plain (resize_failed n may on) = absurd plain
  row_tells_none act names left answer own plain (resolve_done m low high is) = refl
  row_tells_none act names left answer own plain (resolve_refused m low high is) = refl

  answered_tells_none : (asked : Asked) (names : Names) (left : Option Transaction) (answer : old.Body) (own : List Numbered) → IsPlainAsked asked → IsRefusedAsked asked → IsAnswered fixed owner events s line asked names left answer own → failures_in (body_of answer) ≡ []
  answered_tells_none asked names left answer own plain fine refused_line = refusal_tells_none asked answer fine refl
  answered_tells_none asked names left answer own plain fine wanting = refl
  answered_tells_none asked names left answer own plain fine (done_line {act = act} row) = row_tells_none act names left answer own plain row

  -- what such a line is told
  pub told_tells_none : (asked : Line) (names : Names) (t : Option Transaction) (answer : Body) (own : List Numbered) → IsPlainAsked (act_of s.names s.transaction asked) → IsTold fixed owner events s line asked names t answer own → failures_in answer ≡ []
  told_tells_none asked names t answer own plain told =
      ap failures_in told.printed ∙ answered_tells_none (act_of s.names s.transaction asked) names t told.body own plain (act_of-refused s.names s.transaction asked) told.row

-- without a turn
pub alone_tells : (pass : PassView Event Opening) (s : SessionState) (line : ℕ) (asked : Line) (names : Names) (t : Option Transaction) (answer : Body) → IsPlainAsked (act_of s.names s.transaction asked) → IsToldAlone s line asked names t answer → TellsFailures (added_by pass pass) answer
alone_tells pass s line asked names t answer plain told =
    ap failures_of (none_added pass) ∙ sym (told_tells_none (record { start = finmap.empty; prefixes = [] }) 0 [] s line asked names t answer [] plain (told (record { start = finmap.empty; prefixes = [] }) 0 []))
