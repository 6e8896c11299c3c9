-- One step of a session, row by row, and a run of its lines.
use Rattle.std.specs.Prelude.{◌≡◌, ◌≤◌, ℕ, ◌+◌, List, [], ◌∷◌, ◌++◌, length, take, drop, Bool, true, false, Option, Some, None, Ok, Err}
use Rattle.chunk_forms.specs.declared.form.Damage.{Damage}
use Rattle.stack_driver.specs.declared.ComposeError.{ComposeError}
use Rattle.stack_driver.specs.References.{Reference}
use Rattle.stack_driver.specs.Renewed.{renewed}
use Rattle.stack_driver.specs.declared.error.RenewError.TheVariants.{Refused}
use Rattle.stack_driver.specs.declared.view.View.{View}
use Rattle.history.specs.declared.event.Mode.{Mode}
use Rattle.history.specs.declared.event.Op.TheVariants.{Write}
use Rattle.history.specs.History.{History}
use Rattle.history.specs.Arrays.{known_after}
use Rattle.history.specs.Answers as body
use Rattle.history.specs.Answers.{Body, Text, BuildCause, Answer}
use Rattle.history.specs.Acts.{Act, Asked, opens, binds, reads, stages, writes, begins, commits, aborts, resizes, resolves, act_of}
use Rattle.history.specs.Commit.{Key, Fixed, Transaction}
use Rattle.history.specs.CommitRows.{IsCommit}
use Rattle.history.specs.Leaves.{Leaf}
use Rattle.history.specs.Lines.{SpecLeaf, stored, Build, Downsampling, Line}
use Rattle.history.specs.OpenRows.{AreOpened, IsRefusedLeaf, IsFailedLeaf}
use Rattle.history.specs.Own.{Numbered, numbers_of, own_events, resized_event, fault_at}
use Rattle.history.specs.ReadRows.{IsShrunkBy, with_read, IsFetched, IsOnMount}
use Rattle.history.specs.Reads.{Marks}
use Rattle.history.specs.Refusals.{IsDamagedRead, HasTooManyCut, IsNotAtomicResize, IsDamagedResize}
use Rattle.history.specs.ResizeRows.{MayResize, HasNoDamagedPart, shape_after}
use Rattle.history.specs.Sessions.{Names, bind, SessionState, new_transaction, plain_mode, reader}
use Rattle.history.specs.Shown.{IsRead}
use Rattle.history.specs.Viewing.{opened_body, viewed_body, resolved_body, values_body}

-- a transaction with one more Write
abbrev pub with_write : Transaction → View → List ℕ → Transaction
with_write t view words = record t { ops = t.ops ++ Write view words ∷ [] }

-- a write outside a transaction, as one of its own
abbrev pub write_alone : ℕ → View → List ℕ → Transaction
write_alone line view words = with_write (new_transaction line plain_mode) view words

-- the answer of that transaction's commit, as the write's
abbrev pub as_written : ℕ → Body → Body
as_written cells (body.committed events) = body.written cells events
as_written cells answer = answer

-- an act over the events that are seen in the end: the names and the transaction then, the answer, and the events that are added
pub data IsRow (fixed : Fixed) (owner : ℕ) (events : History) (s : SessionState) (line : ℕ) : Act → Names → Option Transaction → Body → List Numbered → Type 0 where
  -- open, Opened
  open_done : {name : Text} {leaves : List SpecLeaf} {build : Build} {refs : List Reference} {own : List Numbered} {now : ℕ} {view : View} → AreOpened fixed.start owner events s.seen leaves refs own now [] → build refs ≡ Ok view
      → IsRow fixed owner events s line (opens name leaves build) (bind s.names name view) s.transaction (opened_body name view (numbers_of own)) own
  -- open, the first leaf that is refused
  open_refused : {name : Text} {leaves rest : List SpecLeaf} {build : Build} {refs : List Reference} {own : List Numbered} {now : ℕ} {node : Text} {leaf : Leaf} {answer : Body} → AreOpened fixed.start owner events s.seen leaves refs own now (stored node leaf ∷ rest)
      → IsRefusedLeaf fixed.start events now node leaf (numbers_of own) answer → IsRow fixed owner events s line (opens name leaves build) s.names s.transaction answer own
  -- open, refused: the view isn't built
  open_unbuilt : {name : Text} {leaves : List SpecLeaf} {build : Build} {refs : List Reference} {own : List Numbered} {now : ℕ} {path : Text} {cause : BuildCause} → AreOpened fixed.start owner events s.seen leaves refs own now []
      → build refs ≡ Err (path, cause) → IsRow fixed owner events s line (opens name leaves build) s.names s.transaction (body.refused_spec path cause (numbers_of own)) own
  -- open, StoreFailed
  open_failed : {name : Text} {leaves rest : List SpecLeaf} {build : Build} {refs : List Reference} {own : List Numbered} {now : ℕ} {node : Text} {leaf : Leaf} (before : ℕ) → AreOpened fixed.start owner events s.seen leaves refs own now (stored node leaf ∷ rest)
      → IsFailedLeaf events now leaf before → IsRow fixed owner events s line (opens name leaves build) s.names s.transaction (body.store_failed (before + 1) [] (Some (numbers_of own))) (own ++ fault_at (before + 1) owner leaf.mount)
  -- open, Memory
  open_wanting : {name : Text} {leaves rest : List SpecLeaf} {build : Build} {refs : List Reference} {own : List Numbered} {now : ℕ} → AreOpened fixed.start owner events s.seen leaves refs own now rest
      → IsRow fixed owner events s line (opens name leaves build) s.names s.transaction body.memory own
  -- view, Viewed
  view_done : {name : Text} {view : View} → IsRow fixed owner events s line (binds name view) (bind s.names name view) s.transaction (viewed_body name view) []
  -- read, Values
  read_done : {view : View} {down : Option Downsampling} {words : List ℕ} {marks : Marks} → IsRead fixed events s.seen (reader line s.transaction) view words marks
      → IsRow fixed owner events s line (reads view down) s.names (with_read s.transaction view words marks) (values_body view down words) []
  -- read, Shrunk
  read_shrunk : {view : View} {down : Option Downsampling} {key : Key} {now : ℕ} → IsShrunkBy events s.seen (reader line s.transaction) view key now
      → IsRow fixed owner events s line (reads view down) s.names s.transaction (body.shrunk key now) []
  -- read, Damaged
  read_damaged : {view : View} {down : Option Downsampling} {key : Key} {cause : Damage} → IsDamagedRead fixed events (reader line s.transaction) view key cause
      → IsRow fixed owner events s line (reads view down) s.names s.transaction (body.damaged key cause) []
  -- read, StoreFailed
  read_failed : {view : View} {down : Option Downsampling} {mount : Text} (before : ℕ) → IsFetched events (reader line s.transaction) view mount
      → IsRow fixed owner events s line (reads view down) s.names s.transaction (body.store_failed (before + 1) [] None) (fault_at (before + 1) owner mount)
  -- write in a transaction, Staged
  write_staged : {t : Transaction} {view : View} {words : List ℕ} → IsRow fixed owner events s line (stages t view words) s.names (Some (with_write t view words)) (body.staged (length words)) []
  -- write outside of one: all answers of a commit, and no transaction stands afterwards
  write_done : {view : View} {words : List ℕ} {left : Option Transaction} {answer : Body} {own : List Numbered} → IsCommit fixed owner events (write_alone line view words) left answer own
      → IsRow fixed owner events s line (writes view words) s.names None (as_written (length words) answer) own
  -- begin, Begun
  begin_done : {mode : Mode} → IsRow fixed owner events s line (begins mode) s.names (Some (new_transaction line mode)) body.begun []
  -- commit: all its answers
  commit_done : {t : Transaction} {left : Option Transaction} {answer : Body} {own : List Numbered} → IsCommit fixed owner events t left answer own → IsRow fixed owner events s line (commits t) s.names left answer own
  -- abort, Aborted
  abort_done : IsRow fixed owner events s line aborts s.names None body.aborted []
  -- resize, Resized, after n events
  resize_done : {array : Reference} {shape : List ℕ} (n : ℕ) → MayResize fixed (take n events) array.number shape → HasNoDamagedPart fixed (take n events) array.number shape
      → IsRow fixed owner events s line (resizes array shape) s.names s.transaction (body.resized (n + 1)) (record { number = n + 1; event = resized_event owner array.number shape } ∷ [])
  -- resize, TooManyChunks
  resize_many : {array : Reference} {shape : List ℕ} → HasTooManyCut (known_after events array.number) shape
      → IsRow fixed owner events s line (resizes array shape) s.names s.transaction (body.too_many_chunks (length events)) []
  -- resize, NotAtomic
  resize_split : {array : Reference} {shape : List ℕ} {keys : ℕ} → ¬ HasTooManyCut (known_after events array.number) shape → IsNotAtomicResize fixed events array.number shape keys
      → IsRow fixed owner events s line (resizes array shape) s.names s.transaction (body.not_atomic keys) []
  -- resize, Damaged
  resize_damaged : {array : Reference} {shape : List ℕ} {key : Key} {cause : Damage} → MayResize fixed events array.number shape → IsDamagedResize fixed events array.number shape key cause
      → IsRow fixed owner events s line (resizes array shape) s.names s.transaction (body.damaged key cause) []
  -- resize, StoreFailed, after n events
  resize_failed : {array : Reference} {shape : List ℕ} {mount : Text} (n : ℕ) → MayResize fixed (take n events) array.number shape → IsOnMount mount (known_after (take n events) array.number)
      → IsRow fixed owner events s line (resizes array shape) s.names s.transaction (body.store_failed (n + 1) [] None) (fault_at (n + 1) owner mount)
  -- resolve, Resolved, by the array's shape after m events
  resolve_done : {name : Text} {view made : View} {array : Reference} (m : ℕ) → s.seen ≤ m → m ≤ length events → renewed (shape_after (take m events) array.number) view ≡ Ok made
      → IsRow fixed owner events s line (resolves name view array) (bind s.names name made) s.transaction (resolved_body name made) []
  -- resolve, refused, by the array's shape after m events
  resolve_refused : {name : Text} {view : View} {array : Reference} {cause : ComposeError} (m : ℕ) → s.seen ≤ m → m ≤ length events → renewed (shape_after (take m events) array.number) view ≡ Err (Refused cause)
      → IsRow fixed owner events s line (resolves name view array) s.names s.transaction (body.refused_view cause) []

-- a line's answer: its own refusal, want of memory, or a row of what it does
pub data IsAnswered (fixed : Fixed) (owner : ℕ) (events : History) (s : SessionState) (line : ℕ) : Asked → Names → Option Transaction → Body → List Numbered → Type 0 where
  -- refused by the form, the names, the transaction, the view or the values alone: nothing changes
  refused_line : {answer : Body} → IsAnswered fixed owner events s line (Err answer) s.names s.transaction answer []
  -- any, Memory, no event being added
  wanting : {asked : Asked} → IsAnswered fixed owner events s line asked s.names s.transaction body.memory []
  done_line : {act : Act} {names : Names} {t : Option Transaction} {answer : Body} {own : List Numbered} → IsRow fixed owner events s line act names t answer own → IsAnswered fixed owner events s line (Ok act) names t answer own

-- a line takes a session from one state to the next with an answer. Only the events that are seen in the end count, and
-- those of the session among them, as far as they weren't seen before, are exactly those that the row adds
pub record SessionStep (fixed : Fixed) (owner : ℕ) (events : History) (s : SessionState) (line : ℕ) (asked : Line) (next : SessionState) (answer : Body) : Type 0 where
  pub rises : s.seen ≤ next.seen
  pub within : next.seen ≤ length events
  pub row : IsAnswered fixed owner (take next.seen events) s line (act_of s.names s.transaction asked) next.names next.transaction answer (own_events owner (s.seen + 1) (drop s.seen (take next.seen events)))

-- the answer is want of memory
abbrev pub is_memory : Body → Bool
is_memory body.memory = true
is_memory answer = false

-- the lines of a session from this one on, None being a blank one, and their answers; want of memory ends it
pub data IsSessionRun (fixed : Fixed) (owner : ℕ) (events : History) : SessionState → ℕ → List (Option Line) → List Answer → SessionState → Type 0 where
  no_line : {s : SessionState} {line : ℕ} → IsSessionRun fixed owner events s line [] [] s
  blank_line : {s last : SessionState} {line : ℕ} {lines : List (Option Line)} {answers : List Answer} → IsSessionRun fixed owner events s (line + 1) lines answers last → IsSessionRun fixed owner events s line (None ∷ lines) answers last
  next_line : {s m last : SessionState} {line : ℕ} {asked : Line} {answer : Body} {lines : List (Option Line)} {answers : List Answer} → SessionStep fixed owner events s line asked m answer → is_memory answer ≡ false
      → IsSessionRun fixed owner events m (line + 1) lines answers last → IsSessionRun fixed owner events s line (Some asked ∷ lines) (record { line = line; body = answer } ∷ answers) last
  last_line : {s last : SessionState} {line : ℕ} {asked : Line} {lines : List (Option Line)} → SessionStep fixed owner events s line asked last body.memory
      → IsSessionRun fixed owner events s line (Some asked ∷ lines) (record { line = line; body = body.memory } ∷ []) last
