-- What a line of a session is answered over any store: a row of the history's session, less what that says of bytes, and of what an open line found.
use Rattle.std.specs.Prelude.{◌≡◌, ◌≤◌, ℕ, ◌+◌, List, [], ◌∷◌, ◌++◌, length, take, Option, Some, None, Ok, Err}
use Rattle.std.specs.FinMap as finmap
use Rattle.std.specs.List.{AllByRecursion}
use Rattle.chunk_forms.specs.declared.form.Damage.{Damage}
use Rattle.history.specs.declared.event.Event.{Event}
use Rattle.history.specs.declared.event.Mode.{Mode}
use Rattle.history.specs.Acts.{Act, opens, binds, reads, stages, writes, begins, commits, aborts, resizes, resolves, act_of}
use Rattle.history.specs.Answers as old
use Rattle.history.specs.Answers.{Text}
use Rattle.history.specs.Arrays.{known_after}
use Rattle.history.specs.Commit.{Key, Fixed, Transaction}
use Rattle.history.specs.History.{History}
use Rattle.history.specs.Lines.{SpecLeaf, Build, Downsampling, Line}
use Rattle.history.specs.Own.{Numbered, numbers_of, fault, fault_at, resized_event}
use Rattle.history.specs.ReadRows.{IsFetched, IsOnMount, IsShrunkBy, with_read}
use Rattle.history.specs.Reads.{Marks}
use Rattle.history.specs.Refs.{IsKnownRef}
use Rattle.history.specs.Refusals.{HasTooManyCut, IsNotAtomicResize, cells_outside}
use Rattle.history.specs.ResizeRows.{MayResize, shape_after}
use Rattle.history.specs.Sessions.{Names, SessionState, bind, new_transaction, reader}
use Rattle.history.specs.Shown.{AreMarked}
use Rattle.history.specs.Steps.{as_written, with_write, write_alone}
use Rattle.history.specs.Viewing.{opened_body, resolved_body, values_body, viewed_body}
use Rattle.index_transform.specs.Cells.{count_answer}
use Rattle.session_turns.specs.declared.Body.{Body}
use Rattle.session_turns.specs.declared.Body.TheVariants.{Memory}
use Rattle.session_turns.specs.Agreement.{Opening}
use Rattle.session_turns.specs.Answers.{fixed_by}
use Rattle.session_turns.specs.Bodies.{body_of}
use Rattle.session_turns.specs.CommitCauses.{IsCausedCommit}
use Rattle.session_turns.specs.Turns.{added_by}
use Rattle.sessions.specs.OpenEvents.{AreTold, IsArrayOpened}
use Rattle.stack_driver.specs.declared.ComposeError.{ComposeError}
use Rattle.stack_driver.specs.declared.error.RenewError.TheVariants.{Refused}
use Rattle.stack_driver.specs.declared.view.View.{View}
use Rattle.stack_driver.specs.References.{Reference}
use Rattle.stack_driver.specs.Renewed.{renewed}
use Rattle.stack_driver.specs.Views.{look_of}
use Rattle.turn_book.specs.Passes.{BookView, PassView}

-- an answer to an open line that binds no name: what it asks for or the view over it is refused, a call of a store failed, or memory was wanting
abbrev pub IsOpenRefusal : old.Body → Type 0
IsOpenRefusal (old.bad_spec path (Some events)) = Unit {0}
IsOpenRefusal (old.refused_spec path cause events) = Unit {0}
IsOpenRefusal (old.not_found at path events) = Unit {0}
IsOpenRefusal (old.exists at path events) = Unit {0}
IsOpenRefusal (old.path_taken at path events) = Unit {0}
IsOpenRefusal (old.mismatch at member path events) = Unit {0}
IsOpenRefusal (old.bad_metadata key why events) = Unit {0}
IsOpenRefusal (old.store_failed event [] (Some events)) = Unit {0}
IsOpenRefusal old.memory = Unit {0}
IsOpenRefusal answer = ⊥

-- what an act is answered, over the events that are seen in the end: the names and the transaction then, and the events that are added
pub data IsCausedAct (fixed : Fixed) (owner : ℕ) (events : History) (s : SessionState) (line : ℕ) : Act → Names → Option Transaction → old.Body → List Numbered → Type 0 where
  -- open, Opened: the view that the Spec builds of known arrays, one for each leaf; the events are openings
  open_made : {name : Text} {leaves : List SpecLeaf} {build : Build} {view : View} {own : List Numbered} (refs : List Reference) → length refs ≡ length leaves → AllByRecursion (IsKnownRef events) refs → AllByRecursion IsArrayOpened own
      → build refs ≡ Ok view
      → IsCausedAct fixed owner events s line (opens name leaves build) (bind s.names name view) s.transaction (opened_body name view (numbers_of own)) own
  -- open, refused or failed, which tells its events; what it found is not said
  open_none : {name : Text} {leaves : List SpecLeaf} {build : Build} {answer : old.Body} {own : List Numbered} → AreTold own (body_of answer) → IsOpenRefusal answer
      → IsCausedAct fixed owner events s line (opens name leaves build) s.names s.transaction answer own
  -- view, Viewed
  view_made : {name : Text} {view : View} → IsCausedAct fixed owner events s line (binds name view) (bind s.names name view) s.transaction (viewed_body name view) []
  -- read, Values: a word for each cell, by marks that the read may have, by which no cell was outside that the transaction hadn't written
  read_given : {view : View} {down : Option Downsampling} {marks : Marks} (words : List ℕ) → AreMarked events s.seen (reader line s.transaction) view marks → cells_outside events marks (reader line s.transaction) view ≡ []
      → count_answer (look_of view).dims ≡ Ok (length words)
      → IsCausedAct fixed owner events s line (reads view down) s.names (with_read s.transaction view words marks) (values_body view down words) []
  -- read, Shrunk
  read_cut : {view : View} {down : Option Downsampling} {key : Key} {now : ℕ} → IsShrunkBy events s.seen (reader line s.transaction) view key now
      → IsCausedAct fixed owner events s line (reads view down) s.names s.transaction (old.shrunk key now) []
  -- read, Damaged; neither which chunk nor which bytes are is said
  read_spoilt : {view : View} {down : Option Downsampling} {key : Key} {cause : Damage} → IsCausedAct fixed owner events s line (reads view down) s.names s.transaction (old.damaged key cause) []
  -- read, StoreFailed: the failed call is the last event, of a mount of which the read fetches a chunk
  read_failing : {view : View} {down : Option Downsampling} {mount : Text} (before : History) → events ≡ before ++ fault owner mount ∷ [] → IsFetched before (reader line s.transaction) view mount
      → IsCausedAct fixed owner events s line (reads view down) s.names s.transaction (old.store_failed (length before + 1) [] None) (fault_at (length before + 1) owner mount)
  -- write in a transaction, Staged
  write_kept : {t : Transaction} {view : View} {words : List ℕ} → IsCausedAct fixed owner events s line (stages t view words) s.names (Some (with_write t view words)) (old.staged (length words)) []
  -- write outside of one: the answers of its commit
  write_made : {view : View} {words : List ℕ} {left : Option Transaction} {answer : old.Body} {own : List Numbered} → IsCausedCommit fixed owner events (write_alone line view words) left answer own
      → IsCausedAct fixed owner events s line (writes view words) s.names None (as_written (length words) answer) own
  -- begin, Begun
  begin_made : {mode : Mode} → IsCausedAct fixed owner events s line (begins mode) s.names (Some (new_transaction line mode)) old.begun []
  -- commit
  commit_made : {t : Transaction} {left : Option Transaction} {answer : old.Body} {own : List Numbered} → IsCausedCommit fixed owner events t left answer own → IsCausedAct fixed owner events s line (commits t) s.names left answer own
  -- abort, Aborted
  abort_made : IsCausedAct fixed owner events s line aborts s.names None old.aborted []
  -- resize, Resized
  resize_made : {array : Reference} {shape : List ℕ} (before : History) → events ≡ before ++ resized_event owner array.number shape ∷ [] → MayResize fixed before array.number shape
      → IsCausedAct fixed owner events s line (resizes array shape) s.names s.transaction (old.resized (length before + 1)) (record { number = length before + 1; event = resized_event owner array.number shape } ∷ [])
  -- resize, TooManyChunks
  resize_much : {array : Reference} {shape : List ℕ} → HasTooManyCut (known_after events array.number) shape
      → IsCausedAct fixed owner events s line (resizes array shape) s.names s.transaction (old.too_many_chunks (length events)) []
  -- resize, NotAtomic
  resize_apart : {array : Reference} {shape : List ℕ} {keys : ℕ} → ¬ HasTooManyCut (known_after events array.number) shape → IsNotAtomicResize fixed events array.number shape keys
      → IsCausedAct fixed owner events s line (resizes array shape) s.names s.transaction (old.not_atomic keys) []
  -- resize, Damaged; neither which chunk nor which bytes are is said
  resize_spoilt : {array : Reference} {shape : List ℕ} {key : Key} {cause : Damage} → MayResize fixed events array.number shape
      → IsCausedAct fixed owner events s line (resizes array shape) s.names s.transaction (old.damaged key cause) []
  -- resize, StoreFailed: the failed call is the last event, of the array's mount
  resize_failing : {array : Reference} {shape : List ℕ} {mount : Text} (before : History) → events ≡ before ++ fault owner mount ∷ [] → MayResize fixed before array.number shape → IsOnMount mount (known_after before array.number)
      → IsCausedAct fixed owner events s line (resizes array shape) s.names s.transaction (old.store_failed (length before + 1) [] None) (fault_at (length before + 1) owner mount)
  -- resolve, Resolved, by the array's shape after m events
  resolve_made : {name : Text} {view made : View} {array : Reference} (m : ℕ) → s.seen ≤ m → m ≤ length events → renewed (shape_after (take m events) array.number) view ≡ Ok made
      → IsCausedAct fixed owner events s line (resolves name view array) (bind s.names name made) s.transaction (resolved_body name made) []
  -- resolve, refused, by the array's shape after m events
  resolve_none : {name : Text} {view : View} {array : Reference} {cause : ComposeError} (m : ℕ) → s.seen ≤ m → m ≤ length events → renewed (shape_after (take m events) array.number) view ≡ Err (Refused cause)
      → IsCausedAct fixed owner events s line (resolves name view array) s.names s.transaction (old.refused_view cause) []

-- what a line is answered
pub data IsCaused (fixed : Fixed) (owner : ℕ) (events : History) (s : SessionState) (line : ℕ) : Line → Names → Option Transaction → Body → List Numbered → Type 0 where
  -- by its own refusal: nothing changes
  by_line : {asked : Line} {answer : old.Body} → act_of s.names s.transaction asked ≡ Err answer → IsCaused fixed owner events s line asked s.names s.transaction (body_of answer) []
  -- for a cause of what it does
  by_act : {asked : Line} {act : Act} {names : Names} {t : Option Transaction} {answer : old.Body} {own : List Numbered} → act_of s.names s.transaction asked ≡ Ok act → IsCausedAct fixed owner events s line act names t answer own
      → IsCaused fixed owner events s line asked names t (body_of answer) own
  -- Memory, without an event; after it nobody goes on
  by_memory : {asked : Line} {names : Names} {t : Option Transaction} → IsCaused fixed owner events s line asked names t Memory []

-- so is a line before which a pass was so, and behind which it is so: the events that it adds are the pass's own new ones
abbrev pub IsCausedBy : BookView Opening → PassView Event Opening → PassView Event Opening → SessionState → ℕ → Line → Names → Option Transaction → Body → Type 0
IsCausedBy book first now s line asked names t answer = IsCaused (fixed_by book.fixed finmap.empty) first.number now.seen s line asked names t answer (added_by first now)
