-- What an answer tells, where its line did what it asks for.
use Rattle.std.proofs.Common.{◌≡◌, ℕ, ◌+◌, List, [], ◌∷◌, ◌++◌, true, false, Option, Some, Ok, Err, refl, sym, ap, ◌∙◌, append-nil}
use Rattle.stack_driver.specs.References.{Reference}
use Rattle.stack_driver.specs.declared.view.View.{View}
use Rattle.history.specs.declared.event.Mode.{Mode}
use Rattle.history.specs.History.{History}
use Rattle.history.specs.Acts.{Act, Asked, opens, reads, begins, commits, act_of}
use Rattle.history.specs.Answers as body
use Rattle.history.specs.Answers.{Body, Text, Answer}
use Rattle.history.specs.Commit.{Transaction}
use Rattle.history.specs.Lines.{SpecLeaf, Build, Downsampling, Line}
use Rattle.history.specs.ReadRows.{with_read}
use Rattle.history.specs.Sessions.{Names, bind, new_transaction}
use Rattle.history.specs.Viewing.{values_body}
use Rattle.serial_runs.specs.Attempts as told
use Rattle.serial_runs.specs.Attempts.{Attempt, is_ok, IsShown, AreShown}
use Rattle.serial_runs.proofs.Refused.{open_no_ok, read_no_ok}

-- a line that has an answer
pub record NextShown (history : History) (owner : ℕ) (names : Names) (t : Option Transaction) (line : ℕ) (asked : Line) (lines : List (Option Line)) (answer : Body) (answers : List Answer) (attempts : List Attempt) : Type 0 where
  pub later : Names
  pub left : Option Transaction
  pub first : List Attempt
  pub more : List Attempt
  pub shows : IsShown history owner names t line (act_of names t asked) answer later left first
  pub rest : AreShown history owner later left (line + 1) lines answers more
  pub parts : attempts ≡ first ++ more

pub next_shown : {history : History} {owner : ℕ} {names : Names} {t : Option Transaction} {line : ℕ} {asked : Line} {lines : List (Option Line)} {a : Answer} {answers : List Answer} {attempts : List Attempt} → AreShown history owner names t line (Some asked ∷ lines) (a ∷ answers) attempts
    → NextShown history owner names t line asked lines a.body answers attempts
next_shown (told.next shows goes_on rest) = record { later = _; left = _; first = _; more = _; shows = shows; rest = rest; parts = refl }
next_shown (told.last {attempts = attempts} shows) = record { later = _; left = _; first = attempts; more = []; shows = shows; rest = told.ends; parts = sym (append-nil attempts) }

-- an open binds its name to what is built
pub record OpenTold (names later : Names) (t u : Option Transaction) (attempts : List Attempt) (name : Text) (build : Build) : Type 0 where
  pub refs : List Reference
  pub view : View
  pub built : build refs ≡ Ok view
  pub names_are : later ≡ bind names name view
  pub left_is : u ≡ t
  pub none : attempts ≡ []

abbrev build_of : Build → Act → Build
build_of other (opens name leaves build) = build
build_of other act = other

abbrev name_of : Text → Act → Text
name_of other (opens name leaves build) = name
name_of other act = other

pub open_told : (history : History) (owner : ℕ) (names : Names) (t : Option Transaction) (line : ℕ) (asked : Asked) (answer : Body) (later : Names) (u : Option Transaction) (attempts : List Attempt) (name : Text) (leaves : List SpecLeaf) (build : Build) → asked ≡ Ok (opens name leaves build) → is_ok answer ≡ true
    → IsShown history owner names t line asked answer later u attempts → OpenTold names later t u attempts name build
open_told history owner names t line asked answer later u attempts name leaves build is ok told.line_refused = absurd (cc)
open_told history owner names t line asked answer later u attempts name leaves build is ok told.wanting = absurd (cc)
open_told history owner names t line asked answer later u attempts name leaves build is ok (told.opened {name = own_name} {leaves = ls} {build = b} {refs = refs} {view = view} opened_so stand built) =
    let names_are : ◌≡◌ {A = Act} (opens own_name ls b) (opens name leaves build) = cc in
    record { refs = refs; view = view; built = ap (λ f. f refs) (sym (ap (build_of b) names_are)) ∙ built; names_are = ap (λ n. bind names n view) (ap (name_of name) names_are); left_is = refl; none = refl }
open_told history owner names t line asked answer later u attempts name leaves build is ok (told.open_refused never) = let no_ok = open_no_ok answer never in absurd (cc)
open_told history owner names t line asked answer later u attempts name leaves build is ok told.viewed = absurd (cc)
open_told history owner names t line asked answer later u attempts name leaves build is ok (told.read words) = absurd (cc)
open_told history owner names t line asked answer later u attempts name leaves build is ok (told.read_refused never) = absurd (cc)
open_told history owner names t line asked answer later u attempts name leaves build is ok told.staged = absurd (cc)
open_told history owner names t line asked answer later u attempts name leaves build is ok told.written = absurd (cc)
open_told history owner names t line asked answer later u attempts name leaves build is ok told.begun = absurd (cc)
open_told history owner names t line asked answer later u attempts name leaves build is ok told.tried = absurd (cc)
open_told history owner names t line asked answer later u attempts name leaves build is ok told.aborted = absurd (cc)
open_told history owner names t line asked answer later u attempts name leaves build is ok (told.resized event) = absurd (cc)
open_told history owner names t line asked answer later u attempts name leaves build is ok (told.resize_refused never) = absurd (cc)
open_told history owner names t line asked answer later u attempts name leaves build is ok (told.resolved m is_made) = absurd (cc)
open_told history owner names t line asked answer later u attempts name leaves build is ok (told.resolve_refused never) = absurd (cc)

-- a begin makes a transaction stand
pub record BeginTold (names later : Names) (u : Option Transaction) (line : ℕ) (mode : Mode) (attempts : List Attempt) : Type 0 where
  pub names_are : later ≡ names
  pub left_is : u ≡ Some (new_transaction line mode)
  pub none : attempts ≡ []

abbrev mode_of : Mode → Act → Mode
mode_of other (begins mode) = mode
mode_of other act = other

pub begin_told : (history : History) (owner : ℕ) (names : Names) (t : Option Transaction) (line : ℕ) (asked : Asked) (answer : Body) (later : Names) (u : Option Transaction) (attempts : List Attempt) (mode : Mode) → asked ≡ Ok (begins mode) → is_ok answer ≡ true
    → IsShown history owner names t line asked answer later u attempts → BeginTold names later u line mode attempts
begin_told history owner names t line asked answer later u attempts mode is ok told.line_refused = absurd (cc)
begin_told history owner names t line asked answer later u attempts mode is ok told.wanting = absurd (cc)
begin_told history owner names t line asked answer later u attempts mode is ok (told.opened opened_so stand built) = absurd (cc)
begin_told history owner names t line asked answer later u attempts mode is ok (told.open_refused never) = absurd (cc)
begin_told history owner names t line asked answer later u attempts mode is ok told.viewed = absurd (cc)
begin_told history owner names t line asked answer later u attempts mode is ok (told.read words) = absurd (cc)
begin_told history owner names t line asked answer later u attempts mode is ok (told.read_refused never) = absurd (cc)
begin_told history owner names t line asked answer later u attempts mode is ok told.staged = absurd (cc)
begin_told history owner names t line asked answer later u attempts mode is ok told.written = absurd (cc)
begin_told history owner names t line asked answer later u attempts mode is ok (told.begun {mode = m}) =
    let acts : ◌≡◌ {A = Act} (begins m) (begins mode) = cc in
    record { names_are = refl; left_is = ap (λ k. Some (new_transaction line k)) (ap (mode_of mode) acts); none = refl }
begin_told history owner names t line asked answer later u attempts mode is ok told.tried = absurd (cc)
begin_told history owner names t line asked answer later u attempts mode is ok told.aborted = absurd (cc)
begin_told history owner names t line asked answer later u attempts mode is ok (told.resized event) = absurd (cc)
begin_told history owner names t line asked answer later u attempts mode is ok (told.resize_refused never) = absurd (cc)
begin_told history owner names t line asked answer later u attempts mode is ok (told.resolved m is_made) = absurd (cc)
begin_told history owner names t line asked answer later u attempts mode is ok (told.resolve_refused never) = absurd (cc)

-- a read prints words of its view
pub record ReadTold (names later : Names) (t u : Option Transaction) (view : View) (down : Option Downsampling) (answer : Body) (attempts : List Attempt) : Type 0 where
  pub words : List ℕ
  pub prints : answer ≡ values_body view down words
  pub names_are : later ≡ names
  pub left_is : u ≡ with_read t view words []
  pub none : attempts ≡ []

abbrev view_of : View → Act → View
view_of other (reads view down) = view
view_of other act = other

abbrev down_of : Option Downsampling → Act → Option Downsampling
down_of other (reads view down) = down
down_of other act = other

pub read_told : (history : History) (owner : ℕ) (names : Names) (t : Option Transaction) (line : ℕ) (asked : Asked) (answer : Body) (later : Names) (u : Option Transaction) (attempts : List Attempt) (view : View) (down : Option Downsampling) → asked ≡ Ok (reads view down) → is_ok answer ≡ true
    → IsShown history owner names t line asked answer later u attempts → ReadTold names later t u view down answer attempts
read_told history owner names t line asked answer later u attempts view down is ok told.line_refused = absurd (cc)
read_told history owner names t line asked answer later u attempts view down is ok told.wanting = absurd (cc)
read_told history owner names t line asked answer later u attempts view down is ok (told.opened opened_so stand built) = absurd (cc)
read_told history owner names t line asked answer later u attempts view down is ok (told.open_refused never) = absurd (cc)
read_told history owner names t line asked answer later u attempts view down is ok told.viewed = absurd (cc)
read_told history owner names t line asked answer later u attempts view down is ok (told.read {view = v} {down = d} words) =
    let acts : ◌≡◌ {A = Act} (reads v d) (reads view down) = cc in
    let views : v ≡ view = ap (view_of view) acts in
    let downs : d ≡ down = ap (down_of down) acts in
    record { words = words; prints = λ i. values_body (views i) (downs i) words; names_are = refl; left_is = ap (λ w. with_read t w words []) views; none = refl }
read_told history owner names t line asked answer later u attempts view down is ok (told.read_refused never) = let no_ok = read_no_ok answer never in absurd (cc)
read_told history owner names t line asked answer later u attempts view down is ok told.staged = absurd (cc)
read_told history owner names t line asked answer later u attempts view down is ok told.written = absurd (cc)
read_told history owner names t line asked answer later u attempts view down is ok told.begun = absurd (cc)
read_told history owner names t line asked answer later u attempts view down is ok told.tried = absurd (cc)
read_told history owner names t line asked answer later u attempts view down is ok told.aborted = absurd (cc)
read_told history owner names t line asked answer later u attempts view down is ok (told.resized event) = absurd (cc)
read_told history owner names t line asked answer later u attempts view down is ok (told.resize_refused never) = absurd (cc)
read_told history owner names t line asked answer later u attempts view down is ok (told.resolved m is_made) = absurd (cc)
read_told history owner names t line asked answer later u attempts view down is ok (told.resolve_refused never) = absurd (cc)

abbrev transaction_of : Transaction → Act → Transaction
transaction_of other (commits u) = u
transaction_of other act = other

-- a commit is an attempt
pub commit_told : (history : History) (owner : ℕ) (names : Names) (t : Option Transaction) (line : ℕ) (asked : Asked) (answer : Body) (later : Names) (u : Option Transaction) (attempts : List Attempt) (w : Transaction) → asked ≡ Ok (commits w) → is_ok answer ≡ true
    → IsShown history owner names t line asked answer later u attempts → attempts ≡ record { transaction = w; answer = answer } ∷ []
commit_told history owner names t line asked answer later u attempts w is ok told.line_refused = absurd (cc)
commit_told history owner names t line asked answer later u attempts w is ok told.wanting = absurd (cc)
commit_told history owner names t line asked answer later u attempts w is ok (told.opened opened_so stand built) = absurd (cc)
commit_told history owner names t line asked answer later u attempts w is ok (told.open_refused never) = absurd (cc)
commit_told history owner names t line asked answer later u attempts w is ok told.viewed = absurd (cc)
commit_told history owner names t line asked answer later u attempts w is ok (told.read words) = absurd (cc)
commit_told history owner names t line asked answer later u attempts w is ok (told.read_refused never) = absurd (cc)
commit_told history owner names t line asked answer later u attempts w is ok told.staged = absurd (cc)
commit_told history owner names t line asked answer later u attempts w is ok told.written = absurd (cc)
commit_told history owner names t line asked answer later u attempts w is ok told.begun = absurd (cc)
commit_told history owner names t line asked answer later u attempts w is ok (told.tried {u = v}) =
    let acts : ◌≡◌ {A = Act} (commits v) (commits w) = cc in
    ap (λ x. record { transaction = x; answer = answer } ∷ []) (ap (transaction_of w) acts)
commit_told history owner names t line asked answer later u attempts w is ok told.aborted = absurd (cc)
commit_told history owner names t line asked answer later u attempts w is ok (told.resized event) = absurd (cc)
commit_told history owner names t line asked answer later u attempts w is ok (told.resize_refused never) = absurd (cc)
commit_told history owner names t line asked answer later u attempts w is ok (told.resolved m is_made) = absurd (cc)
commit_told history owner names t line asked answer later u attempts w is ok (told.resolve_refused never) = absurd (cc)

abbrev refusal_in : Body → Asked → Body
refusal_in other (Err answer) = answer
refusal_in other (Ok act) = other

-- the words that an answer prints
abbrev pub words_in : Body → List ℕ
words_in (body.values origin shape dtype words) = words
words_in answer = []

-- a line that is refused isn't one that did what it asks for
pub refusal_told : (history : History) (owner : ℕ) (names : Names) (t : Option Transaction) (line : ℕ) (asked : Asked) (answer : Body) (later : Names) (u : Option Transaction) (attempts : List Attempt) (refusal : Body) → asked ≡ Err refusal → is_ok refusal ≡ false → is_ok answer ≡ true
    → IsShown history owner names t line asked answer later u attempts → ⊥
refusal_told history owner names t line asked answer later u attempts refusal is no_ok ok told.line_refused =
    let same : answer ≡ refusal = ap (refusal_in refusal) is in
    let clash : true ≡ false = sym ok ∙ ap is_ok same ∙ no_ok in
    absurd (cc)
refusal_told history owner names t line asked answer later u attempts refusal is no_ok ok told.wanting = absurd (cc)
refusal_told history owner names t line asked answer later u attempts refusal is no_ok ok (told.opened opened_so stand built) = absurd (cc)
refusal_told history owner names t line asked answer later u attempts refusal is no_ok ok (told.open_refused never) = absurd (cc)
refusal_told history owner names t line asked answer later u attempts refusal is no_ok ok told.viewed = absurd (cc)
refusal_told history owner names t line asked answer later u attempts refusal is no_ok ok (told.read words) = absurd (cc)
refusal_told history owner names t line asked answer later u attempts refusal is no_ok ok (told.read_refused never) = absurd (cc)
refusal_told history owner names t line asked answer later u attempts refusal is no_ok ok told.staged = absurd (cc)
refusal_told history owner names t line asked answer later u attempts refusal is no_ok ok told.written = absurd (cc)
refusal_told history owner names t line asked answer later u attempts refusal is no_ok ok told.begun = absurd (cc)
refusal_told history owner names t line asked answer later u attempts refusal is no_ok ok told.tried = absurd (cc)
refusal_told history owner names t line asked answer later u attempts refusal is no_ok ok told.aborted = absurd (cc)
refusal_told history owner names t line asked answer later u attempts refusal is no_ok ok (told.resized event) = absurd (cc)
refusal_told history owner names t line asked answer later u attempts refusal is no_ok ok (told.resize_refused never) = absurd (cc)
refusal_told history owner names t line asked answer later u attempts refusal is no_ok ok (told.resolved m is_made) = absurd (cc)
refusal_told history owner names t line asked answer later u attempts refusal is no_ok ok (told.resolve_refused never) = absurd (cc)
