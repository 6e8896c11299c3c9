-- Which answers fit.
use Rattle.std.specs.Prelude.{◌≡◌, ◌≢◌, ◌<◌, ◌⊎◌, ℕ, ◌+◌, List, [], ◌∷◌, ◌++◌, length, map, take, Option, Some, None, Ok, Err, IsTrue, Contains, codes}
use Rattle.std.specs.List.{AllByRecursion}
use Rattle.std.specs.FinMap as finmap
use Rattle.serde_json.specs.Data.{Data}
use Rattle.serde_json.specs.Find.{get}
use Rattle.answer_data.specs.Text.{answer_text}
use Rattle.answer_data.specs.declared.Answer.{Answer}
use Rattle.answer_data.specs.Answers.{answer_data}
use Rattle.line_meanings.specs.Bodies.{answer_of}
use Rattle.stack_driver.specs.declared.view.View.{View}
use Rattle.history.specs.declared.event.Mode.{Mode}
use Rattle.history.specs.Acts.{Act, Asked, opens, binds, reads, stages, writes, begins, commits, aborts}
use Rattle.history.specs.Answers as body
use Rattle.history.specs.Answers.{Body, Text}
use Rattle.history.specs.Arrays.{known_after}
use Rattle.history.specs.Chunks.{Chunk, key_of}
use Rattle.history.specs.Commit.{Key, Transaction}
use Rattle.history.specs.CommitRows.{IsChangedOn}
use Rattle.history.specs.Generations.{IsTouched}
use Rattle.history.specs.History.{History}
use Rattle.history.specs.Lines.{SpecLeaf, Build}
use Rattle.history.specs.ReadRows.{IsOnMount}
use Rattle.history.specs.Reads.{footprint_of, visible_values}
use Rattle.history.specs.Refusals.{IsNeeded}
use Rattle.history.specs.Sessions.{reader}
use Rattle.history.specs.Steps.{write_alone}
use Rattle.history.specs.Viewing.{viewed_body, values_body}
use Rattle.transcript_laws.specs.Claimed.{IsClaimed}
use Rattle.transcript_laws.specs.Standings.{Standing, standing_step, first_standing, act_at}
use Rattle.transcript_laws.specs.Takings.{takings}
use Rattle.transcript_laws.specs.Opening.{IsOpenAnswer}
use Rattle.transcript_laws.specs.Transcript.{mount, Told, IsCut}
use Rattle.transcript_laws.specs.Numbers.{opened_in, told_of, AreNumbered}
use Rattle.transcript_laws.specs.Windows.{Window, IsWithin, window_of}

-- a read of a view has these words: per chunk, what the transaction sees at one mark of the window. Weaker than a
-- session's read, where a chunk keeps its mark for all reads of a transaction under repeatable read, and no mark is
-- older than what the session has seen
pub record IsSeen (history : History) (w : Window) (t : Transaction) (view : View) (words : List ℕ) : Type 0 where
  pub marks : Chunk → ℕ
  pub within : (c : Chunk) → IsWithin w (marks c)
  pub shown : map Some words ≡ visible_values finmap.empty history marks t.ops view

-- a read calls the store: a stored chunk of the mount is needed, and no earlier read of the transaction keeps a mark
-- for it
pub record IsFetched (history : History) (t : Transaction) (view : View) : Type 0 where
  pub chunk : Chunk
  pub needed : IsNeeded history t view chunk
  pub unread : ¬ Contains (footprint_of history t.ops) chunk
  pub on_mount : IsOnMount mount (known_after history chunk.array)

-- the event is another session's, and touches the chunk; an opening touches each chunk of its array
pub record IsOthersTouch (history : History) (owner : ℕ) (chunk : Chunk) (number : ℕ) : Type 0 where
  pub touch : IsTouched history chunk number
  pub other : touch.event.owner ≢ owner

-- a conflict of a transaction under repeatable read: a key of its footprint, `read`, which is 0 or an event that
-- touches the key, and behind it `now`, another session's event that touches the key. Weaker than a session's
-- conflict, whose key is the least and whose numbers are generations
pub record IsConflictTold (history : History) (owner : ℕ) (t : Transaction) (key : Key) (read now : ℕ) : Type 0 where
  pub asked : IsTrue t.mode.repeatable_read
  pub chunk : Chunk
  pub was_read : Contains (footprint_of history t.ops) chunk
  pub named : key_of history chunk ≡ Some key
  pub later : read < now
  pub read_at : (read ≡ 0) ⊎ IsTouched history chunk read
  pub now_at : IsOthersTouch history owner chunk now

-- an answer that an act may have: of a session with a number, with this transaction and window, at a line of a
-- number, where the answer prints these numbers for new arrays. A commit is told by one number; that no chunk it read
-- was touched isn't asked for, but what part 3 says of its Reads, so that this is weaker than a session's row
pub data IsActAnswer (history : History) (owner : ℕ) (w : Window) (t : Option Transaction) (line : ℕ)
    (numbers : List ℕ) : Act → Body → Type 0 where
  open_answer : {name : Text} {leaves : List SpecLeaf} {build : Build} {answer : Body}
      → IsOpenAnswer history w name (takings history leaves numbers) build numbers answer
      → IsActAnswer history owner w t line numbers (opens name leaves build) answer
  viewed : {name : Text} {view : View}
      → IsActAnswer history owner w t line numbers (binds name view) (viewed_body name view)
  read : {view : View} {words : List ℕ} → IsSeen history w (reader line t) view words
      → IsActAnswer history owner w t line numbers (reads view None) (values_body view None words)
  read_failed : {view : View} (n : ℕ) → IsFetched history (reader line t) view
      → IsActAnswer history owner w t line numbers (reads view None) (body.store_failed (n + 1) [] None)
  staged : {u : Transaction} {view : View} {words : List ℕ}
      → IsActAnswer history owner w t line numbers (stages u view words) (body.staged (length words))
  written : {view : View} {words : List ℕ} (n : ℕ)
      → IsActAnswer history owner w t line numbers (writes view words) (body.written (length words) (n ∷ []))
  write_failed : {view : View} {words : List ℕ} (n : ℕ)
      → IsChangedOn (take n history) (write_alone line view words) mount
      → IsActAnswer history owner w t line numbers (writes view words) (body.store_failed (n + 1) [] None)
  begun : {mode : Mode} → IsActAnswer history owner w t line numbers (begins mode) body.begun
  committed : {u : Transaction} (n : ℕ)
      → IsActAnswer history owner w t line numbers (commits u) (body.committed (n ∷ []))
  conflicts : {u : Transaction} {key : Key} {read now : ℕ} → IsConflictTold history owner u key read now
      → IsActAnswer history owner w t line numbers (commits u) (body.conflict key read now)
  commit_failed : {u : Transaction} (n : ℕ) → IsChangedOn (take n history) u mount
      → IsActAnswer history owner w t line numbers (commits u) (body.store_failed (n + 1) [] None)
  aborted : IsActAnswer history owner w t line numbers aborts body.aborted

-- an answer that a line may have: the refusal by its form, the names, the transaction, the view or the values, where
-- there is one, and no other
abbrev pub IsAnswer : History → ℕ → Window → Option Transaction → ℕ → List ℕ → Asked → Body → Type 0
IsAnswer history owner w t line numbers (Err refusal) answer = answer ≡ refusal
IsAnswer history owner w t line numbers (Ok act) answer = IsActAnswer history owner w t line numbers act answer

-- an answer as it is printed, with the number of its line
abbrev pub printed_at : ℕ → Body → Answer
printed_at number answer = answer_of (record { line = number; body = answer })

-- part 4 of one line: its text is that of an answer that it may have, and the object that it reads as is this answer's.
-- So a number past 64 bits, which reads as a float, is that of no event
pub record IsFitting (history : History) (w : Window) (s : Standing) (told : Told) : Type 0 where
  pub answer : Body
  pub printed : told.text ≡ answer_text (printed_at told.number answer)
  pub object : told.answer ≡ answer_data (printed_at told.number answer)
  pub may : IsAnswer history told.session w s.transaction told.number (opened_in told.answer) (act_at s told) answer

-- the same of the lines of a session from one on, where it stands so behind those before
abbrev pub AreFitting : History → List Told → Standing → List Told → Type 0
AreFitting history earlier s [] = Unit {0}
AreFitting history earlier s (told ∷ more) =
    IsFitting history (window_of (length history) s.transaction earlier told more) s told
    × AreFitting history (earlier ++ told ∷ []) (standing_step history s told) more

-- part 4
abbrev pub IsAnswered : List Told → History → Type 0
IsAnswered told history = (session : ℕ) → AreFitting history [] first_standing (told_of session told)

-- the answer lacks a member
abbrev pub Lacks : List ℕ → Data → Type 0
Lacks name answer = get name answer ≡ None

-- the answer is none of a store that can't make all changes together or didn't start empty, nor of an array that shrank
pub record IsPlain (told : Told) : Type 0 where
  pub not_atomic : Lacks (codes "not_atomic") told.answer
  pub damaged : Lacks (codes "damaged") told.answer
  pub bad_meta : Lacks (codes "bad_meta") told.answer
  pub shrunk : Lacks (codes "shrunk") told.answer

-- part 5; where part 4 holds, so does this
abbrev pub ArePlain : List Told → Type 0
ArePlain told = AllByRecursion IsPlain told

-- what is told fits, by this history
pub record IsFit (told : List Told) (history : History) : Type 0 where
  pub numbered : AreNumbered told
  pub claimed : IsClaimed told history
  pub answered : IsAnswered told history
  pub plain : ArePlain told

-- a transcript fits its scripts, and states this history
pub record Fits (scripts : List (List ℕ)) (transcript : List ℕ) (history : History) : Type 0 where
  pub told : List Told
  pub cut : IsCut scripts transcript told
  pub fit : IsFit told history
