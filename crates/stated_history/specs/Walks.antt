-- The lines of all sessions, one after another.
use Rattle.std.specs.Prelude.{◌≡◌, ◌<◌, ◌≤◌, ℕ, ◌-◌, take, drop, List, [], ◌∷◌, ◌++◌, length, Option, Some, None, Ok, Err}
use Rattle.std.specs.List.{AllByRecursion, slice_get}
use Rattle.std.specs.Prelude.{slice_index_or, option_map}
use Rattle.json_forms.specs.Bytes.{data_of}
use Rattle.serde_json.specs.Data.{Data}
use Rattle.stated_acts.specs.SpecOpenings.{leaves_of, build_of}
use Rattle.stack_driver.specs.declared.view.View.{View}
use Rattle.history.specs.declared.event.Kind.{Kind}
use Rattle.history.specs.Acts.{Asked, writes, commits}
use Rattle.history.specs.Commit.{Transaction}
use Rattle.history.specs.History.{History}
use Rattle.history.specs.Own as own
use Rattle.history.specs.Steps.{write_alone}
use Rattle.stated_acts.specs.Claimed.{stated}
use Rattle.stated_acts.specs.Cuttings.{IsWholeCut}
use Rattle.stated_acts.specs.Openings.{AreStatedBy}
use Rattle.stated_acts.specs.Said.{AreSaid}
use Rattle.stated_acts.specs.ToldStandings.{Standing, act_at, standing}
use Rattle.stated_acts.specs.Takings.{opened_view}
use Rattle.stated_acts.specs.ToldNumbers.{numbers_in, done_in, told_of}
use Rattle.stated_acts.specs.Transcript.{mount, Told, IsCut}
use Rattle.stated_acts.specs.Unchecked.{AreChecked}
use Rattle.stated_acts.specs.Outcomes.{AreKeptOf}
use Rattle.stated_acts.specs.Outline.{outline}
use Rattle.stated_acts.specs.declared.Openings.{Openings}
use Rattle.stated_acts.specs.declared.Said.{Said}
use Rattle.stated_acts.specs.OpenedViews.{paired, AreGiven}
use Rattle.stated_acts.specs.Acts.{IsActAt}
use Rattle.stated_acts.specs.Standings.{standing_of}
use Rattle.stated_acts.specs.declared.Act.{Act}
use Rattle.stated_acts.specs.declared.Act.TheVariants.{Opens, Reads, Writes}
use Rattle.stated_history.specs.Commits.{commit_of, kind_in}
use Rattle.stated_history.specs.declared.commits.Source.{Source}
use Rattle.stated_history.specs.declared.putting.Commit.{Commit}
use Rattle.stated_history.specs.declared.walk.Walk.{Walk}

-- a transcript that is cut into these answers, of checked scripts over one mount, which states these arrays
pub record IsSource (s : Source) : Type 0 where
  pub cut : IsWholeCut s.scripts.now s.transcript.now s.said.now
  pub checked : AreChecked s.scripts.now
  pub stated : AreStatedBy s.scripts.now s.said.now s.openings.now
  pub mounts : s.mounts.now ≡ mount ∷ []

-- what is told of its lines
pub record AreToldIn (s : Source) (told : List Told) : Type 0 where
  pub cut : IsCut s.scripts.now s.transcript.now told
  pub said_of : AreSaid s.scripts.now s.transcript.now s.said.now told

-- the outline of its history
abbrev pub outlined : Source → History
outlined s = s.openings.now.events

-- the bytes of an answer, without the LF at its end
abbrev pub line_said : Said → List ℕ → List ℕ
line_said said transcript = take (said.text.upto - 1 - said.text.from) (drop said.text.from transcript)

-- how a line's session stands before it, where these lines are told before it
abbrev pub standing_before : History → List Told → Told → Standing
standing_before history earlier t = standing history (told_of t.session earlier)

-- the commit that an act states at a line of this number, if it states one
abbrev pub commit_by : ℕ → Asked → Option Kind
commit_by line (Err refusal) = None
commit_by line (Ok (writes view words)) = Some (commit_of (write_alone line view words))
commit_by line (Ok (commits t)) = Some (commit_of t)
commit_by line (Ok other) = None

-- the numbers that a line prints are those of the events that it states
abbrev pub HasItsNumbers : History → Standing → Told → Type 0
HasItsNumbers history s t = own.numbers_of (stated history s t) ≡ numbers_in t.answer

-- they are, and where it prints a number of a commit this is the commit
pub record IsWalked (history : History) (s : Standing) (t : Told) (commit : Option Commit) : Type 0 where
  pub numbers : HasItsNumbers history s t
  pub event : 0 < length (done_in t.answer) → option_map kind_in commit ≡ commit_by t.number (act_at s t)

-- so it is of each line, behind earlier ones
abbrev pub AreWalked : History → List Told → List Told → List (Option Commit) → Type 0
AreWalked history earlier [] [] = Unit {0}
AreWalked history earlier [] (commit ∷ more) = ⊥
AreWalked history earlier (t ∷ later) [] = ⊥
AreWalked history earlier (t ∷ later) (commit ∷ more) =
    IsWalked history (standing_before history earlier t) t commit
    × AreWalked history (earlier ++ t ∷ []) later more

-- each line, behind earlier ones, prints the numbers of its events
abbrev pub HaveTheirNumbers : History → List Told → List Told → Type 0
HaveTheirNumbers history earlier [] = Unit {0}
HaveTheirNumbers history earlier (t ∷ later) =
    HasItsNumbers history (standing_before history earlier t) t × HaveTheirNumbers history (earlier ++ t ∷ []) later

-- the commit of each line; or a line prints other numbers than those of its events
abbrev pub TellsCommits : History → List Told → Option (List (Option Commit)) → Type 0
TellsCommits history told None = ¬ HaveTheirNumbers history [] told
TellsCommits history told (Some each) = AreWalked history [] told each

-- the walk stands behind these lines
pub record IsBehind (history : History) (earlier : List Told) (w : Walk) : Type 0 where
  pub stands : standing_of w.standing ≡ standing history (told_of w.session earlier)
  pub before : AllByRecursion (λ (t : Told). t.session ≤ w.session) earlier

-- the walk stands before this line, behind these
pub record IsBefore (history : History) (earlier : List Told) (t : Told) (w : Walk) : Type 0 where
  pub session : w.session ≡ t.session
  pub stands : standing_of w.standing ≡ standing_before history earlier t
  pub before : AllByRecursion (λ (u : Told). u.session ≤ w.session) earlier

-- behind the first lines of a source, told so
abbrev pub IsReached : Source → ℕ → Walk → Type 0
IsReached s place w = (told : List Told) → AreToldIn s told → IsBehind (outlined s) (take place told) w

-- its session isn't behind that of the line at a place
abbrev pub IsNotPast : Source → ℕ → Walk → Type 0
IsNotPast s place w = (d : Said) → slice_get s.said.now place ≡ Some d → w.session ≤ d.line.session

-- its session is that of the line at a place
abbrev pub IsInSession : Source → ℕ → Walk → Type 0
IsInSession s place w = (d : Said) → slice_get s.said.now place ≡ Some d → w.session ≡ d.line.session

-- the answer to the line at a place reads as this object
abbrev pub IsAnswerAt : Source → ℕ → Data → Type 0
IsAnswerAt s place answer =
    (d : Said) → slice_get s.said.now place ≡ Some d → data_of (line_said d s.transcript.now) ≡ Some answer

-- before the line at a place, which does this
pub record IsFacing (s : Source) (told : List Told) (place : ℕ) (t : Told) (w : Walk) (act : Act) : Type 0 where
  pub told_of_it : AreToldIn s told
  pub there : slice_get told place ≡ Some t
  pub before : IsBefore (outlined s) (take place told) t w
  pub does : IsActAt (standing_of w.standing) t.asked act

-- so it stands before the line at a place, whoever tells of it
abbrev pub IsFacingLine : Source → ℕ → Walk → Act → Type 0
IsFacingLine s place w act =
    (told : List Told) (t : Told) → AreToldIn s told → slice_get told place ≡ Some t → IsFacing s told place t w act

-- where a line prints a number of a commit, this is the commit; and the walk stands behind the line
pub record IsGoneOn (history : History) (earlier : List Told) (t : Told) (w : Walk) (commit : Option Commit) : Type 0 where
  pub event : 0 < length (done_in t.answer)
      → option_map kind_in commit ≡ commit_by t.number (act_at (standing_before history earlier t) t)
  pub behind : IsBehind history (earlier ++ t ∷ []) w

-- so it is of the line at a place
abbrev pub IsGoneOnAt : Source → ℕ → Walk → Option Commit → Type 0
IsGoneOnAt s place w commit =
    (told : List Told) (t : Told) → AreToldIn s told → slice_get told place ≡ Some t
    → IsGoneOn (outlined s) (take place told) t w commit

-- what is told of the next line, and where the walk stands then
abbrev pub TellsNext : History → List Told → Told → Walk → Option (Option Commit) → Type 0
TellsNext history earlier t w None = ¬ HasItsNumbers history (standing_before history earlier t) t
TellsNext history earlier t w (Some commit) =
    IsWalked history (standing_before history earlier t) t commit × IsBehind history (earlier ++ t ∷ []) w

-- so it is of the line at a place
abbrev pub TellsAt : Source → ℕ → Walk → Option (Option Commit) → Type 0
TellsAt s place w next =
    (told : List Told) (t : Told) → AreToldIn s told → slice_get told place ≡ Some t
    → TellsNext (outlined s) (take place told) t w next

-- no commit stands in the outline, and the tables are those of its arrays
pub record IsKeptOutline (o : Openings) : Type 0 where
  pub kept : AreKeptOf o.events o.opened o.places
  pub flat : outline o.events ≡ o.events

-- the numbers that the leaves of a line take
abbrev pub takings_at : Source → ℕ → List (Option ℕ)
takings_at s place = slice_index_or s.openings.now.takings place []

-- each leaf of an open line takes one of these numbers or none, and one that does has the array that the event of its number opens
abbrev pub IsTakenBy : History → Act → List (Option ℕ) → Type 0
IsTakenBy history (Opens name plan) numbers =
    (length numbers ≡ length plan.leaves) × AreGiven history (paired (leaves_of plan) numbers)
IsTakenBy history _ numbers = Unit {0}

-- the view that an open line binds, whose leaves take these numbers, if there is one; other acts open none
abbrev pub IsViewTaken : History → Act → List (Option ℕ) → Option View → Type 0
IsViewTaken history (Opens name plan) numbers view =
    opened_view history (paired (leaves_of plan) numbers) (build_of plan) ≡ view
IsViewTaken history _ numbers view = view ≡ None

-- no line's session is before that of the line before it
abbrev pub AreInOrder : ℕ → List Said → Type 0
AreInOrder session [] = Unit {0}
AreInOrder session (s ∷ said) = (session ≤ s.line.session) × AreInOrder s.line.session said

-- it is no write
abbrev pub IsNoWrite : Act → Type 0
IsNoWrite (Writes view words) = ⊥
IsNoWrite _ = Unit {0}

-- it is a read where no transaction stands
abbrev pub IsReadAlone : Act → Option Transaction → Type 0
IsReadAlone (Reads view) t = t ≡ None
IsReadAlone _ t = ⊥
