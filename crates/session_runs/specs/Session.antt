-- A session between two lines, and what it has answered.
use Rattle.std.specs.Prelude.{◌≡◌, ◌≢◌, ℕ, ◌+◌, List, [], ◌∷◌, map, length, Bool, false, Option, Some, None}
use Rattle.std.specs.FinMap as finmap
use Rattle.std.specs.List.{AllByRecursion}
use Rattle.session_openings.specs.declared.Answer.{Answer}
use Rattle.session_openings.specs.declared.Body.{Body}
use Rattle.session_openings.specs.declared.Body.TheVariants.{Memory}
use Rattle.history.specs.declared.event.Event.{Event}
use Rattle.history.specs.Answers as old
use Rattle.history.specs.Bound.{AreKnownNames}
use Rattle.history.specs.Commit.{Fixed, Transaction}
use Rattle.history.specs.Legal.{IsMount}
use Rattle.history.specs.Lines.{Line}
use Rattle.history.specs.Own.{own_events}
use Rattle.history.specs.Sessions.{Names, SessionState, at_first}
use Rattle.history.specs.Steps.{IsSessionRun, is_memory}
use Rattle.kv_face.specs.Store.{Contents}
use Rattle.session_openings.specs.Bodies.{answer_of}
use Rattle.session_openings.specs.Failures.{failures_by, failures_of}
use Rattle.session_openings.specs.Turns.{IsRested}
use Rattle.session_openings.specs.Commits.{HasSoundTxn}
use Rattle.session_openings.specs.Standing.{session_state, transaction_in, AreViews}
use Rattle.session_openings.specs.Told.{IsToldBy}
use Rattle.session_openings.specs.Agreement.{Opening, TakesMount}
use Rattle.session_openings.specs.Answers.{fixed_by}
use Rattle.session_openings.specs.Txn.{TxnSeen}
use Rattle.turn_book.specs.Passes.{BookView, PassView}
use Rattle.session_runs.specs.Causes.{AreCaused}

-- these are names of mounts, and the book's store takes every key below each
pub record HasMounts (book : BookView Opening) (mounts : List (List ℕ)) : Type 0 where
  pub valid : AllByRecursion IsMount mounts
  pub taken : AllByRecursion (TakesMount book.fixed.store.names) mounts

-- what a line may rest on: the pass rests, each name is bound to a view of arrays that it has seen, and the transaction that stands is sound
pub record MayGoOn (book : BookView Opening) (pass : PassView Event Opening) (names : Names) (t : Option TxnSeen) : Type 0 where
  pub rested : IsRested book pass
  pub views : AreViews names
  pub known : AreKnownNames pass.seen names
  pub txn : HasSoundTxn book.fixed pass.seen t

-- where the store told its contents at the start, the line is answered as a row of the history's session has it; the transaction that stands
-- then is the row's, but behind want of memory, after which nobody goes on
pub record IsLineTold (book : BookView Opening) (old_pass new : PassView Event Opening) (names : Names) (t : Option TxnSeen) (line : ℕ) (asked : Line) (later : Names) (after : Option TxnSeen) (answer : Body) : Type 0 where
  pub left : Option Transaction
  pub told : IsToldBy book old_pass new (session_state names (length old_pass.seen) t) line asked later left answer
  pub stands : answer ≢ Memory → left ≡ transaction_in after

-- what a contract sees of a session: its pass, its names' views, the transaction that stands, what it has answered, and whether it has ended
pub record SessionSeen : Type 0 where
  pub pass : PassView Event Opening
  pub names : Names
  pub txn : Option TxnSeen
  pub log : List Answer
  pub ended : Bool

-- a session with these parts
abbrev pub session_with : PassView Event Opening → Names → Option TxnSeen → List Answer → Bool → SessionSeen
session_with pass names t log ended = record { pass = pass; names = names; txn = t; log = log; ended = ended }

-- as the history speaks of it
abbrev pub state_of : SessionSeen → SessionState
state_of s = session_state s.names (length s.pass.seen) s.txn

-- no answer is want of memory, and the history's session stands as this one does
pub record IsOngoing (s : SessionSeen) (answers : List old.Answer) (last : SessionState) : Type 0 where
  pub none : AllByRecursion (λ a. is_memory a.body ≡ false) answers
  pub stands : last ≡ state_of s

-- the log is what a run of the history's session answers to the lines, printed; all that the pass has seen was seen by it
pub record IsRunTo (fixed : Fixed) (s : SessionSeen) (lines : List (Option Line)) : Type 0 where
  pub answers : List old.Answer
  pub printed : s.log ≡ map answer_of answers
  pub last : SessionState
  pub run : IsSessionRun fixed s.pass.number s.pass.seen at_first 1 lines answers last
  pub seen : last.seen ≡ length s.pass.seen
  pub ongoing : s.ended ≡ false → IsOngoing s answers last

-- over any store each line is answered for its cause, from where the lines before it left the session; the next one begins as it stands
pub record IsCausedTo (fixed : Fixed) (s : SessionSeen) (lines : List (Option Line)) : Type 0 where
  pub last : Option SessionState
  pub are : AreCaused fixed s.pass.number lines s.log s.pass.seen last
  pub ongoing : s.ended ≡ false → last ≡ Some (state_of s)

-- the numbers of the lines that aren't blank, the first line having this one
abbrev pub numbers_from : ℕ → List (Option Line) → List ℕ
numbers_from n [] = []
numbers_from n (None ∷ lines) = numbers_from (n + 1) lines
numbers_from n (Some line ∷ lines) = n ∷ numbers_from (n + 1) lines

-- a session that was given these lines: each that isn't blank has its answer, for its cause, and the failed calls that its answers tell are those
-- among its events; where the store told its contents at the start, its log is that of a run; and where it hasn't ended it may be given more
pub record IsSessionOn (book : BookView Opening) (s : SessionSeen) (lines : List (Option Line)) : Type 0 where
  pub rested : IsRested book s.pass
  pub answered : map (λ (a : Answer). a.line) s.log ≡ numbers_from 1 lines
  pub failed : failures_by s.log ≡ failures_of (own_events s.pass.number 1 s.pass.seen)
  pub caused : IsCausedTo (fixed_by book.fixed finmap.empty) s lines
  pub told : (start : Contents) → book.fixed.store.contents ≡ Some start → IsRunTo (fixed_by book.fixed start) s lines
  pub fit : s.ended ≡ false → MayGoOn book s.pass s.names s.txn
