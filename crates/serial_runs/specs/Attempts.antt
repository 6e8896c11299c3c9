-- What the lines of a session and the answers to them show of its transactions. There are no marks, chunks or generations here.
use Rattle.std.specs.Prelude.{◌≡◌, ℕ, ◌+◌, List, [], ◌∷◌, ◌++◌, length, take, Bool, true, false, Option, Some, None, Ok, Err}
use Rattle.std.specs.FinMap as finmap
use Rattle.std.specs.List.{AllByRecursion}
use Rattle.stack_driver.specs.References.{Reference}
use Rattle.stack_driver.specs.Renewed.{renewed}
use Rattle.stack_driver.specs.declared.view.View.{View}
use Rattle.history.specs.declared.event.Mode.{Mode}
use Rattle.history.specs.History.{History}
use Rattle.history.specs.Acts.{Asked, opens, binds, reads, stages, writes, begins, commits, aborts, resizes, resolves, act_of}
use Rattle.history.specs.Answers as body
use Rattle.history.specs.Answers.{Body, Text, Answer}
use Rattle.history.specs.Commit.{Transaction}
use Rattle.history.specs.Lines.{SpecLeaf, Build, Downsampling, Line}
use Rattle.history.specs.OpenRows.{AreOpened}
use Rattle.history.specs.Own.{Numbered, numbers_of, resized_event}
use Rattle.history.specs.ReadRows.{with_read}
use Rattle.history.specs.ResizeRows.{shape_after}
use Rattle.history.specs.Sessions.{Names, bind, new_transaction}
use Rattle.history.specs.Steps.{as_written, is_memory, with_write, write_alone}
use Rattle.history.specs.Viewing.{opened_body, viewed_body, resolved_body, values_body}
use Rattle.serial_runs.specs.Numbered.{IsEvent}

-- a transaction that its session tried to commit, without marks, and what it was answered. Its operations are those that its lines
-- asked for and were answered: the words of a Read, there under repeatable read alone, were printed, or what a downsampling makes of
-- them. A write outside a transaction is one of its own
pub record Attempt : Type 0 where
  pub transaction : Transaction
  pub answer : Body

-- the line did what it asks for
abbrev pub is_ok : Body → Bool
is_ok (body.opened name dtype domain events) = true
is_ok (body.viewed name dtype transform) = true
is_ok (body.values origin shape dtype words) = true
is_ok (body.staged cells) = true
is_ok (body.written cells events) = true
is_ok body.begun = true
is_ok (body.committed events) = true
is_ok body.aborted = true
is_ok (body.resized event) = true
is_ok (body.resolved name dtype transform) = true
is_ok answer = false

-- an open is refused or fails so, having opened some of its leaves: over a store that starts empty no metadata is bad
abbrev pub is_open_refusal : Body → Bool
is_open_refusal (body.bad_spec path (Some events)) = true
is_open_refusal (body.refused_spec path cause events) = true
is_open_refusal (body.not_found at path events) = true
is_open_refusal (body.exists at path events) = true
is_open_refusal (body.path_taken at path events) = true
is_open_refusal (body.mismatch at member path events) = true
is_open_refusal (body.store_failed event [] (Some events)) = true
is_open_refusal answer = false

-- a read is refused or fails so: over a store that starts empty no chunk is damaged
abbrev pub is_read_refusal : Body → Bool
is_read_refusal (body.shrunk key now) = true
is_read_refusal (body.store_failed event [] None) = true
is_read_refusal answer = false

-- a resize is refused or fails so: a store that makes all changes together refuses none for the number of its keys
abbrev pub is_resize_refusal : Body → Bool
is_resize_refusal (body.too_many_chunks at) = true
is_resize_refusal (body.store_failed event [] None) = true
is_resize_refusal answer = false

-- the answer says that the store can't make changes together, or that it holds bytes which are no chunk or no metadata
abbrev pub blames_store : Body → Bool
blames_store (body.not_atomic keys) = true
blames_store (body.damaged key cause) = true
blames_store (body.bad_metadata key why events) = true
blames_store answer = false

-- a resolve is refused so
abbrev pub is_resolve_refusal : Body → Bool
is_resolve_refusal (body.refused_view cause) = true
is_resolve_refusal answer = false

-- the transaction that stands behind an attempt: it ends, unless a store call failed before anything was done, or a chunk is damaged
abbrev pub left_after : Transaction → Body → Option Transaction
left_after t (body.store_failed event [] listed) = Some t
left_after t (body.damaged key cause) = Some t
left_after t answer = None

-- a line of a session and its answer: the names and the transaction behind it, and the transaction that it tried to commit, if it is
-- such a line
pub data IsShown (history : History) (owner : ℕ) (names : Names) (t : Option Transaction) (line : ℕ) : Asked → Body → Names → Option Transaction → List Attempt → Type 0 where
  -- the line is refused by its form, the names, the transaction, the view or the values alone
  line_refused : {answer : Body} → IsShown history owner names t line (Err answer) answer names t []
  -- memory is wanting
  wanting : {asked : Asked} → IsShown history owner names t line asked body.memory names t []
  -- an open binds the name to the view over the arrays at the places that its leaves ask for; those that it made are events of the
  -- history, whose numbers it prints
  opened : {name : Text} {leaves : List SpecLeaf} {build : Build} {refs : List Reference} {own : List Numbered} {now : ℕ} {view : View}
      → AreOpened finmap.empty owner history 0 leaves refs own now []
      → AllByRecursion (λ (o : Numbered). IsEvent history o.number o.event) own → build refs ≡ Ok view
      → IsShown history owner names t line (Ok (opens name leaves build)) (opened_body name view (numbers_of own)) (bind names name view) t []
  open_refused : {name : Text} {leaves : List SpecLeaf} {build : Build} {answer : Body} → is_open_refusal answer ≡ true
      → IsShown history owner names t line (Ok (opens name leaves build)) answer names t []
  viewed : {name : Text} {view : View}
      → IsShown history owner names t line (Ok (binds name view)) (viewed_body name view) (bind names name view) t []
  -- a read prints words of its view, or what a downsampling makes of them; under repeatable read they are kept
  read : {view : View} {down : Option Downsampling} (words : List ℕ)
      → IsShown history owner names t line (Ok (reads view down)) (values_body view down words) names (with_read t view words []) []
  read_refused : {view : View} {down : Option Downsampling} {answer : Body} → is_read_refusal answer ≡ true
      → IsShown history owner names t line (Ok (reads view down)) answer names t []
  staged : {u : Transaction} {view : View} {words : List ℕ}
      → IsShown history owner names t line (Ok (stages u view words)) (body.staged (length words)) names (Some (with_write u view words)) []
  -- a write outside a transaction, whose own is committed at once, and whatever that is answered; `committed` is told as `written`
  written : {view : View} {words : List ℕ} {answer : Body}
      → IsShown history owner names t line (Ok (writes view words)) (as_written (length words) answer) names None (record { transaction = write_alone line view words; answer = answer } ∷ [])
  begun : {mode : Mode}
      → IsShown history owner names t line (Ok (begins mode)) body.begun names (Some (new_transaction line mode)) []
  -- a commit, and whatever it is answered
  tried : {u : Transaction} {answer : Body}
      → IsShown history owner names t line (Ok (commits u)) answer names (left_after u answer) (record { transaction = u; answer = answer } ∷ [])
  aborted : IsShown history owner names t line (Ok aborts) body.aborted names None []
  -- a resize is the event whose number it prints
  resized : {array : Reference} {shape : List ℕ} {number : ℕ}
      → IsEvent history number (resized_event owner array.number shape)
      → IsShown history owner names t line (Ok (resizes array shape)) (body.resized number) names t []
  resize_refused : {array : Reference} {shape : List ℕ} {answer : Body} → is_resize_refusal answer ≡ true
      → IsShown history owner names t line (Ok (resizes array shape)) answer names t []
  -- a resolve binds the name to its view by the shape that the array had after some of the events
  resolved : {name : Text} {view made : View} {array : Reference} (m : ℕ)
      → renewed (shape_after (take m history) array.number) view ≡ Ok made
      → IsShown history owner names t line (Ok (resolves name view array)) (resolved_body name made) (bind names name made) t []
  resolve_refused : {name : Text} {view : View} {array : Reference} {answer : Body} → is_resolve_refusal answer ≡ true
      → IsShown history owner names t line (Ok (resolves name view array)) answer names t []

-- the lines of a session from this one on, None being a blank one, the answers to the first of them, and the transactions that it
-- tried to commit; want of memory is the last answer
pub data AreShown (history : History) (owner : ℕ) : Names → Option Transaction → ℕ → List (Option Line) → List Answer → List Attempt → Type 0 where
  ends : {names : Names} {t : Option Transaction} {line : ℕ} {lines : List (Option Line)}
      → AreShown history owner names t line lines [] []
  blank : {names : Names} {t : Option Transaction} {line : ℕ} {lines : List (Option Line)} {answers : List Answer} {attempts : List Attempt}
      → AreShown history owner names t (line + 1) lines answers attempts
      → AreShown history owner names t line (None ∷ lines) answers attempts
  next : {names later : Names} {t u : Option Transaction} {line : ℕ} {asked : Line} {answer : Body} {lines : List (Option Line)} {answers : List Answer} {attempts more : List Attempt}
      → IsShown history owner names t line (act_of names t asked) answer later u attempts → is_memory answer ≡ false
      → AreShown history owner later u (line + 1) lines answers more
      → AreShown history owner names t line (Some asked ∷ lines) (record { line = line; body = answer } ∷ answers) (attempts ++ more)
  last : {names later : Names} {t u : Option Transaction} {line : ℕ} {asked : Line} {lines : List (Option Line)} {attempts : List Attempt}
      → IsShown history owner names t line (act_of names t asked) body.memory later u attempts
      → AreShown history owner names t line (Some asked ∷ lines) (record { line = line; body = body.memory } ∷ []) attempts
