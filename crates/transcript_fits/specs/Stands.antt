-- How a session stands before a line that is judged.
use Rattle.std.specs.Prelude.{◌≡◌, ◌≢◌, ◌<◌, ◌≤◌, ◌+◌, ◌-◌, ◌++◌, ◌∷◌, ℕ, suc, List, [], take, drop, length, codes, Option, Some, None, Ok}
use Rattle.std.specs.List.{AllByRecursion, slice_get}
use Rattle.cells.specs.Numbers.{IsWord}
use Rattle.serde_json.specs.Data.{Data}
use Rattle.serde_json.specs.Find.{get}
use Rattle.history.specs.declared.event.Op.{Op}
use Rattle.history.specs.declared.event.Op.TheVariants.{Read, Write}
use Rattle.history.specs.Acts.{Asked, opens, begins}
use Rattle.history.specs.Answers.{Text}
use Rattle.history.specs.Commit.{Transaction}
use Rattle.history.specs.History.{History}
use Rattle.history.specs.Lines.{SpecLeaf, Build}
use Rattle.history.specs.Refs.{HasKnownRefs}
use Rattle.open_fits.specs.Windows.{before_first, lines_up_to}
use Rattle.open_fits.specs.Owned.{AreOwn, IsThere}
use Rattle.open_fits.specs.declared.Own.{Own}
use Rattle.stack_driver.specs.Cells.{cells_of}
use Rattle.stack_driver.specs.Conditions.{IsView}
use Rattle.stack_driver.specs.Views.{look_of}
use Rattle.stack_driver.specs.declared.view.View.{View}
use Rattle.stated_history.specs.Acts.{IsActAt, IsActBy, IsSoundAct}
use Rattle.stated_history.specs.StatedCommits.{IsSoundOp}
use Rattle.stated_history.specs.Standings.{standing_of, IsSoundStanding}
use Rattle.stated_history.specs.ToldNumbers.{done_in, failed_in, numbers_of, told_of}
use Rattle.stated_history.specs.ToldStandings.{Standing, act_at, read_told, standing_asked, standing_step}
use Rattle.stated_history.specs.Transcript.{Told, asked_by}
use Rattle.open_fits.specs.declared.Window.{Window as WindowOf}
use Rattle.stated_history.specs.Spans.{bytes_at, line_at}
use Rattle.stated_history.specs.declared.Said.{Said}
use Rattle.stated_history.specs.declared.Act.{Act}
use Rattle.stated_history.specs.declared.Act.TheVariants.{Refused, Opens, Binds, Reads, Writes, Begins, Commits, Aborts}
use Rattle.stated_history.specs.Walks.{AreToldIn, IsAnswerAt, IsFacingLine, IsInSession, IsReached}
use Rattle.stated_history.specs.declared.walk.Walk.{Walk}
use Rattle.transcript_fits.specs.Changing.{PrintsLine}
use Rattle.transcript_fits.specs.LineFits.{IsAnsweredSo, IsLineFit, answer_of_line}
use Rattle.transcript_fits.specs.Judges.{history_of}
use Rattle.transcript_fits.specs.Openings.{IsOpenedBy}
use Rattle.transcript_fits.specs.declared.judge.Judge.{Judge}
use Rattle.transcript_fits.specs.declared.line_fit.LineFit.{LineFit}
use Rattle.transcript_fits.specs.declared.line_fit.LineFit.TheVariants.{Unfit, Fits, IfRefused, IfMet}
use Rattle.transcript_fits.specs.declared.line_fit.ToldLine.{ToldLine}
use Rattle.transcript_fits.specs.declared.stand.Stand.{Stand}

-- what the transaction that stands did so far; outside of one nothing
abbrev pub ops_in : Option Transaction → List Op
ops_in None = []
ops_in (Some t) = t.ops

-- by these operations this is staged, and these chunks were read, in arrays that are there after so many events
abbrev pub IsOwnOf : History → ℕ → List Op → Own → Type 0
IsOwnOf history upto ops own = AreOwn history upto ops own.staging own.reads.set.keys

-- names are bound to views, and operations are, of arrays that are there after so many events
pub record IsThereStanding (history : History) (upto : ℕ) (s : Standing) : Type 0 where
  pub views : (name : Text) (view : View) → s.names name ≡ Some view → IsView view × HasKnownRefs (take upto history) view
  pub ops : AllByRecursion (IsSoundOp (take upto history)) (ops_in s.transaction)

-- what an act reads or writes is sound after so many events
abbrev pub IsThereFor : History → ℕ → Option Transaction → Act → Type 0
IsThereFor history upto t (Refused body) = Unit {0}
IsThereFor history upto t (Opens name plan) = Unit {0}
IsThereFor history upto t (Binds name view) = Unit {0}
IsThereFor history upto t (Reads view) = (words : List ℕ) → IsSoundOp (take upto history) (Read view words)
IsThereFor history upto t (Writes view words) = IsSoundOp (take upto history) (Write view words)
IsThereFor history upto t (Begins mode) = Unit {0}
IsThereFor history upto t Commits = Unit {0}
IsThereFor history upto t Aborts = Unit {0}

-- a line that is told so does this, where a session stands so, whose operations did this
pub record IsFaced (j : Judge) (line : ToldLine) (place : ℕ) (s : Standing) (kept : Own) (asked : Asked) (act : Act) : Type 0 where
  pub opens : IsOpenedBy j line place act
  pub does : IsActBy s.transaction asked act
  pub sound : IsSoundAct act
  pub prints : PrintsLine (history_of j) line
  pub within : line.window.upto ≤ length (history_of j)
  pub there : IsThereFor (history_of j) line.window.upto s.transaction act
  pub ops : AllByRecursion (IsSoundOp (take line.window.upto (history_of j))) (ops_in s.transaction)
  pub own : IsOwnOf (history_of j) line.window.upto (ops_in s.transaction) kept

-- it opens nothing
abbrev pub IsNoOpening : Asked → Type 0
IsNoOpening asked = (name : Text) (leaves : List SpecLeaf) (build : Build) → asked ≢ Ok (opens name leaves build)

-- a line of which this is told may be gone behind: where it waits for a refusal its answer binds no name, and it opens nothing where it
-- waits for what was read
abbrev pub MayGoOn : Data → Asked → LineFit → Type 0
MayGoOn d asked Unfit = Unit {0}
MayGoOn d asked Fits = Unit {0}
MayGoOn d asked (IfRefused question) = get (codes "open") d ≡ None
MayGoOn d asked (IfMet waiting) = IsNoOpening asked

-- the line that began the transaction that stands is at a place, among those of its session, which begin at another
abbrev pub IsBegunAt : List Told → ℕ → ℕ → ℕ → Option Transaction → Type 0
IsBegunAt told begin place begun t =
    (u : Transaction) → t ≡ Some u → (begin ≤ begun) × (begun ≤ place)
    × ((n : ℕ) → begun - begin ≤ n → lines_up_to u.line (take n told) ≡ take (begun - begin) told)

-- behind a line that asks for this, where it stands at this place
abbrev pub IsBegunBy : Asked → ℕ → ℕ → ℕ → Type 0
IsBegunBy (Ok (begins mode)) old place new = new ≡ place
IsBegunBy asked old place new = new ≡ old

-- where the window of a session's line ends
abbrev pub upto_of : History → List Told → ℕ → Told → ℕ
upto_of history told at t =
    before_first (length history) ((done_in t.answer ++ failed_in t.answer) ++ numbers_of (drop (suc at) told))

-- this is told of the line at a place
pub record IsLineTold (j : Judge) (told : List Told) (place : ℕ) (t : Told) : Type 0 where
  pub told_in : AreToldIn j.source.now told
  pub there : slice_get told place ≡ Some t

-- a session stands before the line at a place, which does this
abbrev pub IsFacingOf : Judge → Stand → ℕ → Act → Type 0
IsFacingOf j stand place act = IsFacingLine j.source.now place stand.walk act

-- a session may go on behind the line at a place
pub record IsPassing (j : Judge) (stand : Stand) (line : ToldLine) (place : ℕ) : Type 0 where
  pub low : place < length j.source.now.said.now
  pub reached : IsReached j.source.now place stand.walk
  pub session : IsInSession j.source.now place stand.walk
  pub sound : IsSoundStanding stand.walk.standing
  pub within : stand.upto ≤ length (history_of j)
  pub there : IsThereStanding (history_of j) stand.upto (standing_of stand.walk.standing)
  pub own : IsOwnOf (history_of j) stand.upto (ops_in (standing_of stand.walk.standing).transaction) stand.own
  pub answer : IsAnswerAt j.source.now place (answer_of_line line)

-- a walk stands before the line at a place
pub record IsWalkAt (j : Judge) (walk : Walk) (place : ℕ) : Type 0 where
  pub low : place < length j.source.now.said.now
  pub reached : IsReached j.source.now place walk
  pub session : IsInSession j.source.now place walk
  pub sound : IsSoundStanding walk.standing

-- the line at a place does this, as the walk stands
abbrev pub IsActHere : Judge → Walk → ℕ → Act → Type 0
IsActHere j walk place act =
    (d : Said) → slice_get j.source.now.said.now place ≡ Some d
    → IsActAt (standing_of walk.standing) (asked_by (line_at j.source.now.scripts.now d.line)) act

abbrev pub IsRead : Act → Type 0
IsRead act = (view : View) × (act ≡ Reads view)

-- what is kept of a line is a read, where no transaction stands
pub record IsAlone (kept : Option Act) (walk : Walk) : Type 0 where
  pub view : View
  pub read : kept ≡ Some (Reads view)
  pub alone : (standing_of walk.standing).transaction ≡ None

-- the walk stands behind the line at a place
pub record HasWalked (j : Judge) (old new : Stand) (place : ℕ) : Type 0 where
  pub reached : IsReached j.source.now (place + 1) new.walk
  pub session : new.walk.session ≡ old.walk.session
  pub sound : IsSoundStanding new.walk.standing
  pub stands : (told : List Told) (t : Told) → IsLineTold j told place t
      → standing_of new.walk.standing ≡ standing_step (history_of j) (standing_of old.walk.standing) t

-- what an act reads or writes is there after so many events, and a word of the view's dtype is written to each of its cells
abbrev pub IsFollowable : History → ℕ → Act → Type 0
IsFollowable history upto (Refused body) = Unit {0}
IsFollowable history upto (Opens name plan) = Unit {0}
IsFollowable history upto (Binds name view) = Unit {0}
IsFollowable history upto (Reads view) = IsThere history upto view
IsFollowable history upto (Writes view words) =
    IsThere history upto view × (length words ≡ length (cells_of (look_of view).dims)) × AllByRecursion (IsWord (look_of view).dtype) words
IsFollowable history upto (Begins mode) = Unit {0}
IsFollowable history upto Commits = Unit {0}
IsFollowable history upto Aborts = Unit {0}

-- an act of which an operation may join the transaction that stands
pub record IsFollowing (history : History) (stand : Stand) (line : ToldLine) (asked : Asked) (act : Act) : Type 0 where
  pub does : IsActBy (standing_of stand.walk.standing).transaction asked act
  pub can : IsFollowable history stand.upto act
  pub own : IsOwnOf history stand.upto (ops_in (standing_of stand.walk.standing).transaction) stand.own

-- behind it, whatever the number of its line, the transaction that stands has this by its operations
pub record AreOwnBehind (history : History) (old new : Stand) (line : ToldLine) (asked : Asked) (place : ℕ) : Type 0 where
  pub own : (number : ℕ) (u : Transaction)
      → (standing_asked history (standing_of old.walk.standing) number asked (answer_of_line line)).transaction ≡ Some u
      → IsOwnOf history new.upto u.ops new.own
  pub begun : IsBegunBy asked old.begun place new.begun
  pub upto : new.upto ≡ old.upto
  pub walk : new.walk ≡ old.walk

-- a view is read, or written, where the transaction's operations did this
pub record IsReadingOf (history : History) (stand : Stand) (view : View) : Type 0 where
  pub there : IsThere history stand.upto view
  pub own : IsOwnOf history stand.upto (ops_in (standing_of stand.walk.standing).transaction) stand.own

-- what the transaction has behind the read, whatever it read
abbrev pub HasReadOf : History → Stand → Stand → Data → View → Type 0
HasReadOf history old new answer view =
    (u : Transaction) → read_told (standing_of old.walk.standing).transaction view (get (codes "values") answer) ≡ Some u
    → IsOwnOf history new.upto u.ops new.own

pub record IsWritingOf (history : History) (stand : Stand) (view : View) (words : List ℕ) : Type 0 where
  pub reading : IsReadingOf history stand view
  pub count : length words ≡ length (cells_of (look_of view).dims)
  pub typed : AllByRecursion (IsWord (look_of view).dtype) words

abbrev pub HasWrittenOf : History → Stand → Stand → View → List ℕ → Type 0
HasWrittenOf history old new view words =
    (u : Transaction) → (standing_of old.walk.standing).transaction ≡ Some u
    → IsOwnOf history new.upto (u.ops ++ Write view words ∷ []) new.own

-- and so does the session; the place of the line that began its transaction is kept
pub record HasPassed (j : Judge) (old new : Stand) (line : ToldLine) (place : ℕ) : Type 0 where
  pub walked : HasWalked j old new place
  pub own : IsOwnOf (history_of j) new.upto (ops_in (standing_of new.walk.standing).transaction) new.own
  pub upto : new.upto ≡ old.upto
  pub begun : (told : List Told) (t : Told) → IsLineTold j told place t
      → IsBegunBy (act_at (standing_of old.walk.standing) t) old.begun place new.begun

-- a session stands before its line of this number, from 0 on, where its lines begin at a place: behind lines that fit
pub record IsStandAt (j : Judge) (session begin at : ℕ) (stand : Stand) : Type 0 where
  pub session_is : stand.walk.session ≡ session
  pub reached : IsReached j.source.now (begin + at) stand.walk
  pub sound : IsSoundStanding stand.walk.standing
  pub within : stand.upto ≤ length (history_of j)
  pub there : IsThereStanding (history_of j) stand.upto (standing_of stand.walk.standing)
  pub own : IsOwnOf (history_of j) stand.upto (ops_in (standing_of stand.walk.standing).transaction) stand.own
  pub begun : (told : List Told) → AreToldIn j.source.now told
      → IsBegunAt (told_of session told) begin (begin + at) stand.begun (standing_of stand.walk.standing).transaction
  pub earlier : (told : List Told) (t : Told) → AreToldIn j.source.now told → slice_get (told_of session told) at ≡ Some t
      → stand.upto ≤ upto_of (history_of j) (told_of session told) at t

-- a line as it is kept, with where it may have looked and what its answer reads as
pub record IsLineKept (transcript : List ℕ) (d : Said) (window : WindowOf) (answer : Data) (line : ToldLine) : Type 0 where
  pub owner : line.owner ≡ d.line.session
  pub number : line.line ≡ d.line.number
  pub window_is : line.window ≡ window
  pub numbers : line.numbers.now ≡ d.numbers
  pub text : line.text.now ≡ bytes_at d.text transcript
  pub answer_is : answer_of_line line ≡ answer

-- a session may go on behind the line at a place, which is kept so, and whose window ends where its arrays are there
pub record IsLineAt (j : Judge) (stand : Stand) (line : ToldLine) (place : ℕ) : Type 0 where
  pub passing : IsPassing j stand line place
  pub prints : PrintsLine (history_of j) line
  pub upto : stand.upto ≡ line.window.upto
  pub kept : (d : Said) → slice_get j.source.now.said.now place ≡ Some d → IsLineKept j.source.now.transcript.now d line.window (answer_of_line line) line

-- this is so of the line at a place if its answer is one that it may have, as the session stands, whoever tells of it
abbrev pub IsFitAt : Judge → Stand → ToldLine → ℕ → LineFit → Type 0
IsFitAt j stand line place fit =
    (told : List Told) (t : Told) → IsLineTold j told place t
    → IsLineFit (history_of j)
    (IsAnsweredSo (history_of j) line (standing_of stand.walk.standing).transaction (act_at (standing_of stand.walk.standing) t)) fit

-- and the line may be gone behind
abbrev pub MayGoOnAt : Judge → Stand → ToldLine → ℕ → LineFit → Type 0
MayGoOnAt j stand line place fit =
    (told : List Told) (t : Told) → IsLineTold j told place t
    → MayGoOn (answer_of_line line) (act_at (standing_of stand.walk.standing) t) fit
