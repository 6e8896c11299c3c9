-- A walk before and behind the line at a place of a source.
use Rattle.std.proofs.Common.{◌≡◌, ◌≢◌, ◌∙◌, ◌<◌, ◌≤◌, ℕ, ◌+◌, ◌-◌, zero, suc, List, [], ◌∷◌, ◌++◌, codes, Bool, true, false, cond, length, map, take, drop, Option, Some, None, Result, Ok, Err, refl, sym, ap, subst, arith, add-one, length-drop}
use Rattle.std.specs.Prelude.{slice_index_or, option_map, is_some, ◌↔◌, IsTrue, IfOk, OnOk}
use Rattle.std.specs.List.{AllByRecursion, slice_get}
use Rattle.serde_json.specs.Data.{Data}
use Rattle.serde_json.specs.Find.{get}
use Rattle.json_forms.specs.Bytes.{data_of}
use Rattle.history.specs.Acts as acts
use Rattle.history.specs.Acts.{Asked}
use Rattle.history.specs.Commit.{Transaction}
use Rattle.history.specs.History.{History}
use Rattle.history.specs.Lines.{SpecLeaf, given, stored}
use Rattle.history.specs.Own as own
use Rattle.history.proofs.Laws.{some_inj}
use Rattle.stated_acts.specs.SpecOpenings.{leaves_from, leaves_of, build_of}
use Rattle.stated_acts.specs.declared.KeptAnswer.{KeptAnswer}
use Rattle.stated_acts.specs.declared.OpenPlan.{OpenPlan}
use Rattle.stated_acts.specs.declared.SpecLeaf as spec
use Rattle.stated_acts.specs.declared.Tree.{Tree}
use Rattle.stack_driver.specs.declared.view.View.{View}
use Rattle.stated_acts.specs.Openings.{IsStatedBy, AreTakenBy}
use Rattle.stated_acts.specs.Outlined.{leaves_at, AreOpenedBy}
use Rattle.stated_acts.specs.Keeping.{data_kept, IsKeptOf}
use Rattle.stated_acts.specs.Said.{IsSaid, AreSaid}
use Rattle.stated_history.specs.Kept.{HoldsAnswer}
use Rattle.stated_acts.specs.Spans.{bytes_at, line_at, IsPlaced, IsSpanOf}
use Rattle.stated_acts.specs.Stances.{stance}
use Rattle.stated_acts.specs.ToldStandings.{Standing, first_standing, standing, standing_asked, act_at, read_told}
use Rattle.stated_acts.specs.Takings.{Taking, taking, takings, was_opened, opened_view}
use Rattle.stated_acts.specs.AnswerNumbers.{PrintsNumbers}
use Rattle.stated_acts.specs.Claimed.{stated_asked}
use Rattle.stated_acts.specs.ToldNumbers.{opened_in, done_in, numbers_in, told_of}
use Rattle.stated_acts.specs.Transcript.{Told, asked_by, lines_of_scripts}
use Rattle.stated_acts.specs.Unchecked.{is_unchecked}
use Rattle.stated_acts.specs.declared.Said.{Said}
use Rattle.stated_acts.proofs.Laws.{standing_stance}
use Rattle.stated_acts.specs.Acts.{IsActAt, IsActBy}
use Rattle.stated_acts.specs.OpenedViews.{paired, AreGiven}
use Rattle.stated_acts.specs.Printing.{OpensAll}
use Rattle.stated_acts.specs.Standings.{standing_of, transaction_in, IsSoundStanding, IsOpenedBy}
use Rattle.stated_history.specs.Walks.{IsSource, AreToldIn, outlined, line_said, standing_before, IsBehind, IsReached, IsNotPast, IsFacing, IsFacingLine, IsTakenBy, IsViewTaken, takings_at, IsKeptOutline, HasItsNumbers, IsGoneOn, commit_by, AreWalked, TellsAt, TellsCommits, IsInSession, IsReadAlone}
use Rattle.stated_acts.specs.declared.Act.{Act}
use Rattle.stated_acts.specs.declared.Act.TheVariants.{Refused, Opens, Binds, Reads, Writes, Begins, Commits, Aborts}
use Rattle.stated_history.specs.Commits.{kind_in}
use Rattle.stated_history.specs.declared.commits.Source.{Source}
use Rattle.stated_history.specs.declared.putting.Commit.{Commit}
use Rattle.stated_acts.specs.declared.Ongoing.{Ongoing}
use Rattle.stated_history.specs.declared.walk.Walk.{Walk}
use Rattle.stated_history.proofs.LineLaws.{take_got, got_low, told_at, line_told, line_got, checked_at, outlined_at, taken_at, walked_more, numbers_at, turned, gone_on, cut_in_order, order_next}
use Rattle.stated_history.proofs.OpenLines.{leaves_opened}
use Rattle.stated_acts.proofs.Laws.{pairs_of}
use Rattle.stated_acts.proofs.Laws.{outlined_given}

pub got_or : {A : Type 0} (xs : List A) (k : ℕ) (x d : A) → slice_get xs k ≡ Some x → slice_index_or xs k d ≡ x
got_or [] k x d is = absurd (cc)
got_or (y ∷ xs) zero x d is = let same : y ≡ x = cc in same
got_or (y ∷ xs) (suc k) x d is = got_or xs k x d is

pub takings_count : (h : History) (leaves : List SpecLeaf) (numbers : List ℕ) → length (takings h leaves numbers) ≡ length leaves
takings_count h [] numbers = refl
takings_count h (leaf ∷ leaves) [] = ap suc (takings_count h leaves [])
takings_count h (given cells ∷ leaves) (n ∷ numbers) = ap suc (takings_count h leaves numbers)
takings_count h (stored node leaf ∷ leaves) (n ∷ numbers) = by (was_opened h n leaf) (takings_count h leaves (n ∷ numbers)) (takings_count h leaves numbers)
  where
    by : (b : Bool) → length (takings h leaves (n ∷ numbers)) ≡ length leaves → length (takings h leaves numbers) ≡ length leaves
        → length (cond b (taking (stored node leaf) None ∷ takings h leaves (n ∷ numbers)) (taking (stored node leaf) (Some n) ∷ takings h leaves numbers)) ≡ suc (length leaves)
    by true one two = ap suc one
    by false one two = ap suc two

leaves_count : (tree : Tree) (k : ℕ) (leaves : List spec.SpecLeaf) → length (leaves_from tree k leaves) ≡ length leaves
leaves_count tree k [] = refl
leaves_count tree k (leaf ∷ leaves) = ap suc (leaves_count tree (suc k) leaves)

pub map_count : {A B : Type 0} (f : A → B) (xs : List A) → length (map f xs) ≡ length xs
map_count f [] = refl
map_count f (x ∷ xs) = ap suc (map_count f xs)

pub said_count : (scripts : List (List ℕ)) (transcript : List ℕ) (said : List Said) (told : List Told) → AreSaid scripts transcript said told → length told ≡ length said
said_count scripts transcript [] [] are = refl
said_count scripts transcript [] (t ∷ told) are = absurd are
said_count scripts transcript (s ∷ said) [] are = absurd are
said_count scripts transcript (s ∷ said) (t ∷ told) are = ap suc (said_count scripts transcript said told are.1)

taken_count : (h : History) (earlier told : List Told) (all : List (List (Option ℕ))) → AreTakenBy h earlier told all → length all ≡ length told
taken_count h earlier [] [] are = refl
taken_count h earlier [] (ns ∷ all) are = absurd are
taken_count h earlier (t ∷ told) [] are = absurd are
taken_count h earlier (t ∷ told) (ns ∷ all) are = ap suc (taken_count h (earlier ++ t ∷ []) told all are.1)

-- what is told, as the cut has it
pub told_in : (s : Source) → IsSource s → (told : List Told) × AreToldIn s told
told_in s is = (is.cut.told, record { cut = is.cut.cut; said_of = is.cut.said })

-- its tables are those of its outline
pub kept_outline : (s : Source) → IsSource s → IsKeptOutline s.openings.now
kept_outline s is = record {
  kept = record {
    legal = (is.stated.stated s.transcript.now is.cut.told is.cut.said).outlined.legal;
    still = is.stated.still;
    numbered = is.stated.opened.each;
    table = is.stated.places;
  };
  flat = is.stated.flat;
}

-- its leaves take numbers at as many lines as there are
pub takings_long : (s : Source) → IsSource s → length s.openings.now.takings ≡ length s.said.now
takings_long s is =
    taken_count (outlined s) [] is.cut.told s.openings.now.takings (is.stated.stated s.transcript.now is.cut.told is.cut.said).takings
    ∙ said_count s.scripts.now s.transcript.now s.said.now is.cut.told is.cut.said

-- what is told of the line at a place
pub said_is : (s : Source) (told : List Told) (place : ℕ) (d : Said) (t : Told) → AreToldIn s told → slice_get s.said.now place ≡ Some d → slice_get told place ≡ Some t → IsSaid s.scripts.now s.transcript.now d t
said_is s told place d t of_it at there = told_at s.scripts.now s.transcript.now s.said.now told place d t of_it.said_of at there

-- of a line that something is kept of, something is told
pub told_there : (s : Source) (told : List Told) (place : ℕ) → AreToldIn s told → place < length s.said.now → (t : Told) × (slice_get told place ≡ Some t)
told_there s told place of_it low =
    let count = said_count s.scripts.now s.transcript.now s.said.now told of_it.said_of in
    got_low told place (omega (arith, count, low))

-- a walk that was turned to the line at a place faces it
pub facing : (s : Source) (told : List Told) (place : ℕ) (d : Said) (t : Told) (w v : Walk) (act : Act) → AreToldIn s told → slice_get s.said.now place ≡ Some d → slice_get told place ≡ Some t
    → IsReached s place w → IsNotPast s place w → v.session ≡ d.line.session → (w.session ≡ d.line.session → v.standing ≡ w.standing) → (w.session ≢ d.line.session → standing_of v.standing ≡ first_standing)
    → IsActAt (standing_of v.standing) (asked_by (line_at s.scripts.now d.line)) act → IsFacing s told place t v act
facing s told place d t w v act of_it at there reached order session same first does =
    let said = said_is s told place d t of_it at there in
    let behind = reached told of_it in
    let low : w.session ≤ t.session = subst (λ n. w.session ≤ n) (sym said.session) (order d at) in
    record {
      told_of_it = of_it;
      there = there;
      before = record {
        session = session ∙ sym said.session;
        stands = turned (outlined s) (take place told) t w v behind low (session ∙ sym said.session) (λ one. same (one ∙ said.session)) (λ other. first (λ one. other (one ∙ sym said.session)));
        before = low_by w.session v.session (take place told) (subst (λ n. w.session ≤ n) (sym session) (order d at)) behind.before;
      };
      does = subst (λ l. IsActAt (standing_of v.standing) l act) (sym said.asked) does;
    }
  where
    low_by : (m n : ℕ) (earlier : List Told) → m ≤ n → AllByRecursion (λ (u : Told). u.session ≤ m) earlier → AllByRecursion (λ (u : Told). u.session ≤ n) earlier
    low_by m n [] low all = tt
    low_by m n (u ∷ earlier) low all = let one = all.0 in (omega (arith, one, low), low_by m n earlier low all.1)

-- the act of the line that a walk faces
pub act_faced : (s : Source) (told : List Told) (place : ℕ) (t : Told) (w : Walk) (act : Act) → IsFacing s told place t w act → IsActBy (standing_before (outlined s) (take place told) t).transaction (act_at (standing_before (outlined s) (take place told) t) t) act
act_faced s told place t w act is = subst (λ (x : Standing). IsActAt x t.asked act) is.before.stands is.does

-- an open line's leaves, by the outline
pub record IsOpenLine (s : Source) (told : List Told) (place : ℕ) (t : Told) (plan : OpenPlan) : Type 0 where
  pub opened : AreOpenedBy (outlined s) t.session (leaves_of plan) (opened_in t.answer)
  pub numbers : slice_get s.openings.now.takings place ≡ Some (map (λ (x : Taking). x.number) (takings (outlined s) (leaves_of plan) (opened_in t.answer)))

pub open_line : (s : Source) (told : List Told) (place : ℕ) (t : Told) (w : Walk) (name : List ℕ) (plan : OpenPlan) → IsSource s → IsFacing s told place t w (Opens name plan) → IsOpenLine s told place t plan
open_line s told place t w name plan is faces =
    let h = outlined s in
    let by : IsStatedBy told s.openings.now = is.stated.stated s.transcript.now told faces.told_of_it.said_of in
    let stands = standing_before h (take place told) t in
    let does = act_faced s told place t w (Opens name plan) faces in
    let leaves : leaves_at (stance (told_of t.session (take place told))) t.asked ≡ leaves_of plan =
    ap (λ x. leaves_at x t.asked) (sym (standing_stance h (told_of t.session (take place told)))) ∙ leaves_opened stands.names stands.transaction t.asked name (leaves_of plan) (build_of plan) does in
    record {
      opened = subst (λ ls. AreOpenedBy h t.session ls (opened_in t.answer)) leaves (outlined_at h [] told place t by.outlined.lines faces.there).openings;
      numbers = taken_at h [] told s.openings.now.takings place t by.takings faces.there ∙ ap (λ ls. Some (map (λ (x : Taking). x.number) (takings h ls (opened_in t.answer)))) leaves;
    }

-- so its leaves take the numbers that are kept for its place
pub taken_by : (s : Source) (told : List Told) (place : ℕ) (t : Told) (w : Walk) (act : Act) → IsSource s → IsFacing s told place t w act → IsTakenBy (outlined s) act (takings_at s place)
taken_by s told place t w (Opens name plan) is faces =
    let h = outlined s in
    let line = open_line s told place t w name plan is faces in
    let pairs = takings h (leaves_of plan) (opened_in t.answer) in
    let numbers : takings_at s place ≡ map (λ (x : Taking). x.number) pairs = got_or s.openings.now.takings place _ [] line.numbers in (
      ap length numbers ∙ map_count (λ (x : Taking). x.number) pairs ∙ takings_count h (leaves_of plan) (opened_in t.answer) ∙ leaves_count plan.tree 0 plan.leaves,
      subst (λ ns. AreGiven h (paired (leaves_of plan) ns)) (sym numbers) (subst (AreGiven h) (pairs_of h (leaves_of plan) (opened_in t.answer)) (outlined_given h t.session (leaves_of plan) (opened_in t.answer) line.opened)),
    )
taken_by s told place t w (Refused body) is faces = tt
taken_by s told place t w (Binds name view) is faces = tt
taken_by s told place t w (Reads view) is faces = tt
taken_by s told place t w (Writes view words) is faces = tt
taken_by s told place t w (Begins mode) is faces = tt
taken_by s told place t w Commits is faces = tt
taken_by s told place t w Aborts is faces = tt

-- the view over these arrays is the one that the line opens
pub opened_by : (s : Source) (told : List Told) (place : ℕ) (t : Told) (w : Walk) (act : Act) (view : Option View) → IsSource s → IsFacing s told place t w act → IsViewTaken (outlined s) act (takings_at s place) view → IsOpenedBy (outlined s) t.answer act view
opened_by s told place t w (Opens name plan) view is faces taken =
    let h = outlined s in
    let line = open_line s told place t w name plan is faces in
    let pairs = takings h (leaves_of plan) (opened_in t.answer) in
    let numbers : takings_at s place ≡ map (λ (x : Taking). x.number) pairs = got_or s.openings.now.takings place _ [] line.numbers in
    ap (λ ps. opened_view h ps (build_of plan)) (pairs_of h (leaves_of plan) (opened_in t.answer) ∙ ap (paired (leaves_of plan)) (sym numbers)) ∙ taken
opened_by s told place t w (Refused body) view is faces taken = taken
opened_by s told place t w (Binds name v) view is faces taken = taken
opened_by s told place t w (Reads v) view is faces taken = taken
opened_by s told place t w (Writes v words) view is faces taken = taken
opened_by s told place t w (Begins mode) view is faces taken = taken
opened_by s told place t w Commits view is faces taken = taken
opened_by s told place t w Aborts view is faces taken = taken

-- each number that it prints for a new array is that of one
pub opens_all : (s : Source) (told : List Told) (place : ℕ) (t : Told) (w : Walk) (act : Act) → IsSource s → IsFacing s told place t w act → OpensAll (outlined s) t.session act t.answer
opens_all s told place t w (Opens name plan) is faces = (open_line s told place t w name plan is faces).opened.numbers
opens_all s told place t w (Refused body) is faces = tt
opens_all s told place t w (Binds name v) is faces = tt
opens_all s told place t w (Reads v) is faces = tt
opens_all s told place t w (Writes v words) is faces = tt
opens_all s told place t w (Begins mode) is faces = tt
opens_all s told place t w Commits is faces = tt
opens_all s told place t w Aborts is faces = tt

-- whether the line's numbers are those of its events, by what a session that stands so states
pub numbers_faced : (s : Source) (told : List Told) (place : ℕ) (t : Told) (w : Walk) (act : Act) (P : Type 0) → IsFacing s told place t w act
    → ((asked : Asked) → IsActBy (standing_of w.standing).transaction asked act → P ↔ (own.numbers_of (stated_asked (outlined s) t.session t.number asked t.answer) ≡ numbers_in t.answer)) → P ↔ HasItsNumbers (outlined s) (standing_before (outlined s) (take place told) t) t
numbers_faced s told place t w act P faces tells =
    subst (λ (x : Standing). P ↔ HasItsNumbers (outlined s) x t) faces.before.stands (tells (act_at (standing_of w.standing) t) faces.does)

-- the text of an answer without its LF
front : (n : ℕ) (all bytes : List ℕ) → take (suc n) all ≡ bytes ++ 10 ∷ [] → n < length all → take n all ≡ bytes
front n [] bytes is low = absurd (omega (arith, low))
front zero (x ∷ all) [] is low = refl
front zero (x ∷ all) (b ∷ []) is low = absurd (cc)
front zero (x ∷ all) (b ∷ c ∷ bytes) is low = absurd (cc)
front (suc n) (x ∷ []) [] is low = absurd (omega (arith, low))
front (suc n) (x ∷ y ∷ all) [] is low = absurd (cc)
front (suc n) (x ∷ all) (b ∷ bytes) is low =
    let same : x ≡ b = cc in
    let tail : take (suc n) all ≡ bytes ++ 10 ∷ [] = cc in
    let rest = front n all bytes tail (omega (arith, low)) in
    (λ i. same i ∷ rest i)

none_cut : (bytes : List ℕ) → [] ≡ bytes ++ 10 ∷ [] → ⊥
none_cut [] is = cc
none_cut (b ∷ bytes) is = cc

text_some : (d : Said) (transcript bytes : List ℕ) → bytes_at d.text transcript ≡ bytes ++ 10 ∷ [] → d.text.from ≤ d.text.upto → d.text.from < d.text.upto
text_some d transcript bytes is order = by (d.text.upto - d.text.from) refl
  where
    by : (n : ℕ) → d.text.upto - d.text.from ≡ n → d.text.from < d.text.upto
    by zero none = absurd (none_cut bytes (sym (ap (λ n. take n (drop d.text.from transcript)) none) ∙ is))
    by (suc n) some = omega (arith, some, order)

-- what a line has: its text isn't empty, and it reads as the object that is told
pub record HasAnswer (s : Source) (d : Said) (t : Told) : Type 0 where
  pub some : d.text.from < d.text.upto
  pub reads : data_of (line_said d s.transcript.now) ≡ Some t.answer

pub has_answer : (s : Source) (told : List Told) (place : ℕ) (d : Said) (t : Told) → IsSource s → AreToldIn s told → slice_get s.said.now place ≡ Some d → slice_get told place ≡ Some t → HasAnswer s d t
has_answer s told place d t is of_it at there =
    let said = said_is s told place d t of_it at there in
    let line = line_told (lines_of_scripts 0 s.scripts.now) told place (line_at s.scripts.now d.line) t of_it.cut.each (line_got s.scripts.now s.transcript.now s.said.now place d is.cut at) there in
    let text : bytes_at d.text s.transcript.now ≡ line.answer.bytes ++ 10 ∷ [] = sym said.text ∙ line.answer.line in
    let some = text_some d s.transcript.now line.answer.bytes text said.within.order in
    let n = d.text.upto - 1 - d.text.from in
    let one : suc n ≡ d.text.upto - d.text.from = omega (arith, some) in
    let count = length-drop d.text.from s.transcript.now in
    let within = said.within.within in
    let bytes : line_said d s.transcript.now ≡ line.answer.bytes =
    front n (drop d.text.from s.transcript.now) line.answer.bytes (ap (λ m. take m (drop d.text.from s.transcript.now)) one ∙ text) (omega (arith, some, count, within)) in
    record { some = some; reads = ap data_of bytes ∙ line.answer.object.json }

-- the number of a line, and what is printed in its answer, are those that are told
pub answer_same : (s : Source) (told : List Told) (place : ℕ) (d : Said) (t : Told) (answer : Data) → IsSource s → AreToldIn s told → slice_get s.said.now place ≡ Some d → slice_get told place ≡ Some t → data_of (line_said d s.transcript.now) ≡ Some answer → answer ≡ t.answer
answer_same s told place d t answer is of_it at there read = some_inj answer t.answer (sym read ∙ (has_answer s told place d t is of_it at there).reads)

-- behind the line
pub gone : (s : Source) (told : List Told) (place : ℕ) (d : Said) (t : Told) (w v : Walk) (act : Act) (commit : Option Commit) → IsFacing s told place t w act → slice_get s.said.now place ≡ Some d → v.session ≡ w.session
    → ((asked : Asked) → IsActBy (standing_of w.standing).transaction asked act → standing_of v.standing ≡ standing_asked (outlined s) (standing_of w.standing) d.line.number asked t.answer)
    → ((asked : Asked) → IsActBy (standing_of w.standing).transaction asked act → 0 < length (done_in t.answer) → option_map kind_in commit ≡ commit_by d.line.number asked)
    → IsGoneOn (outlined s) (take place told) t v commit
gone s told place d t w v act commit faces at session stands event =
    let h = outlined s in
    let said = said_is s told place d t faces.told_of_it at faces.there in
    let before = standing_before h (take place told) t in
    let same : act_at (standing_of w.standing) t ≡ act_at before t = ap (λ (x : Standing). act_at x t) faces.before.stands in
    let asked = act_at (standing_of w.standing) t in
    record {
      event = λ some. event asked faces.does some ∙ (λ i. commit_by (sym said.number i) (same i));
      behind = gone_on h (take place told) t w v
          (record { stands = faces.before.stands ∙ ap (λ n. standing h (told_of n (take place told))) (sym faces.before.session); before = faces.before.before })
          (omega (arith, faces.before.session)) (session ∙ faces.before.session)
          (stands asked faces.does ∙ (λ i. standing_asked h (faces.before.stands i) (sym said.number i) (same i) t.answer));
    }

pub got_below : {A : Type 0} (xs : List A) (k : ℕ) (x : A) → slice_get xs k ≡ Some x → k < length xs
got_below [] k x is = absurd (cc)
got_below (y ∷ xs) zero x is = omega arith
got_below (y ∷ xs) (suc k) x is = let rest = got_below xs k x is in omega (arith, rest)

-- what is kept of an answer reads as it
kept_data : (d : Data) (kept : Option KeptAnswer) (answer : KeptAnswer) → kept ≡ Some answer → IsKeptOf d kept → data_kept answer ≡ d
kept_data d None answer is holds = absurd (cc)
kept_data d (Some v) answer is holds = ap data_kept (sym (some_inj v answer is)) ∙ holds

-- what is known of a line that something is kept of
pub record IsLineOf (s : Source) (d : Said) : Type 0 where
  pub placed : IsPlaced s.scripts.now d.line
  pub checked : is_unchecked (line_at s.scripts.now d.line) ≡ false
  pub within : IsSpanOf s.transcript.now d.text
  pub some : d.text.from < d.text.upto
  pub holds : HoldsAnswer s.transcript.now d
  pub reads : (answer : Data) × (data_of (line_said d s.transcript.now) ≡ Some answer)

pub line_of_source : (s : Source) (place : ℕ) (d : Said) → IsSource s → slice_get s.said.now place ≡ Some d → IsLineOf s d
line_of_source s place d is at =
    let of_it = told_in s is in
    let line = told_there s of_it.0 place of_it.1 (got_below s.said.now place d at) in
    let said = said_is s of_it.0 place d line.0 of_it.1 at line.1 in
    record {
      placed = said.placed;
      checked = checked_at s.scripts.now s.transcript.now s.said.now place d is.cut is.checked at;
      within = said.within;
      some = (has_answer s of_it.0 place d line.0 is of_it.1 at line.1).some;
      holds = λ answer kept. (has_answer s of_it.0 place d line.0 is of_it.1 at line.1).reads ∙ ap Some (sym (kept_data line.0.answer d.answer answer kept said.keeps));
      reads = (line.0.answer, (has_answer s of_it.0 place d line.0 is of_it.1 at line.1).reads);
    }

-- behind the line, by what a step of the walk leaves
pub gone_by : (s : Source) (told : List Told) (place : ℕ) (d : Said) (t : Told) (w v : Walk) (act : Act) (answer : Data) (view : Option View) (commit : Option Commit) → IsSource s → slice_get s.said.now place ≡ Some d → IsFacing s told place t w act
    → data_of (line_said d s.transcript.now) ≡ Some answer → IsViewTaken (outlined s) act (takings_at s place) view → v.session ≡ w.session
    → ((history : History) (asked : Asked) → IsActBy (standing_of w.standing).transaction asked act → IsOpenedBy history answer act view → standing_of v.standing ≡ standing_asked history (standing_of w.standing) d.line.number asked answer)
    → ((history : History) (asked : Asked) → IsActBy (standing_of w.standing).transaction asked act → IsOpenedBy history answer act view → 0 < length d.numbers.done → option_map kind_in commit ≡ commit_by d.line.number asked)
    → IsGoneOn (outlined s) (take place told) t v commit
gone_by s told place d t w v act answer view commit is at faces reads taken session stands event =
    let h = outlined s in
    let same = answer_same s told place d t answer is faces.told_of_it at faces.there reads in
    let opened : IsOpenedBy h answer act view = subst (λ a. IsOpenedBy h a act view) (sym same) (opened_by s told place t w act view is faces taken) in
    let prints = (said_is s told place d t faces.told_of_it at faces.there).prints in
    gone s told place d t w v act commit faces at session
    (λ asked does. stands h asked does opened ∙ ap (standing_asked h (standing_of w.standing) d.line.number asked) same)
    (λ asked does some. event h asked does opened (subst (λ ns. 0 < length ns) prints.done some))

-- its numbers are those that are kept
pub prints_at : (s : Source) (place : ℕ) (d : Said) (answer : Data) → IsSource s → slice_get s.said.now place ≡ Some d → data_of (line_said d s.transcript.now) ≡ Some answer → PrintsNumbers answer d.numbers
prints_at s place d answer is at reads =
    let of_it = told_in s is in
    let line = told_there s of_it.0 place of_it.1 (got_below s.said.now place d at) in
    subst (λ a. PrintsNumbers a d.numbers) (sym (answer_same s of_it.0 place d line.0 answer is of_it.1 at line.1 reads)) (said_is s of_it.0 place d line.0 of_it.1 at line.1).prints

-- its leaves take the numbers that are kept, whoever tells of it
pub taken_there : (s : Source) (place : ℕ) (w : Walk) (act : Act) → IsSource s → place < length s.said.now → IsFacingLine s place w act → IsTakenBy (outlined s) act (takings_at s place)
taken_there s place w act is low faces =
    let of_it = told_in s is in
    let line = told_there s of_it.0 place of_it.1 low in
    taken_by s of_it.0 place line.0 w act is (faces of_it.0 line.0 of_it.1 line.1)

-- whether a transaction stands
stands_in : (o : Option Ongoing) → is_some o ≡ is_some (transaction_in o)
stands_in None = refl
stands_in (Some t) = refl

-- what may be printed, by the line's numbers
pub prints_own : (s : Source) (told : List Told) (place : ℕ) (d : Said) (t : Told) (w : Walk) (act : Act) (stands answer : Bool) → IsSource s → slice_get s.said.now place ≡ Some d → IsFacing s told place t w act → stands ≡ is_some w.standing.transaction
    → ((history : History) (owner line : ℕ) (u : Option Transaction) (asked : Asked) (said : Data) → IsActBy u asked act → stands ≡ is_some u → PrintsNumbers said d.numbers → OpensAll history owner act said → IsTrue answer ↔ (own.numbers_of (stated_asked history owner line asked said) ≡ numbers_in said))
    → IsTrue answer ↔ HasItsNumbers (outlined s) (standing_before (outlined s) (take place told) t) t
prints_own s told place d t w act stands answer is at faces same tells =
    numbers_faced s told place t w act (IsTrue answer) faces
    (λ asked does. tells (outlined s) t.session t.number (transaction_in w.standing.transaction) asked t.answer does (same ∙ stands_in w.standing.transaction) (said_is s told place d t faces.told_of_it at faces.there).prints (opens_all s told place t w act is faces))

-- what holds of an answer and behind it
pub ok_both : {X E : Type 0} (r : Result X E) (P Q : X → Type 0) (B : Type 0) → IfOk r P → OnOk r B → ((x : X) → P x → B → Q x) → IfOk r Q
ok_both (Ok x) P Q B one two both = both x one two
ok_both (Err e) P Q B one two both = tt

-- where nothing is told of a line
pub none_told_on : {X E : Type 0} (r : Result (Option X) E) (P : Option X → Type 0) → r ≡ Ok None → P None → IfOk r P
none_told_on (Ok o) P is holds = let same : o ≡ None = cc in subst P (sym same) holds
none_told_on (Err e) P is holds = tt

-- no answer is true and false
pub never_true : (b : Bool) → b ≡ false → IsTrue b → ⊥
never_true b is told = let no : false ≡ true = sym is ∙ told in cc

-- a read leaves a session as it stands where no transaction does
read_alone : (h : History) (s : Standing) (line : ℕ) (view : View) (answer : Data) → s.transaction ≡ None → s ≡ standing_asked h s line (Ok (acts.reads view None)) answer
read_alone h s line view answer none = λ i. record { names = s.names; transaction = by (get (codes "values") answer) i }
  where
    by : (values : Option Data) → s.transaction ≡ read_told s.transaction view values
    by None = refl
    by (Some values) = none ∙ sym (ap (λ t. read_told t view (Some values)) none)

none_alone : (act : Act) (t : Option Transaction) → IsReadAlone act t → t ≡ None
none_alone (Reads view) t alone = alone
none_alone (Refused body) t alone = absurd alone
none_alone (Opens name plan) t alone = absurd alone
none_alone (Binds name view) t alone = absurd alone
none_alone (Writes view words) t alone = absurd alone
none_alone (Begins mode) t alone = absurd alone
none_alone Commits t alone = absurd alone
none_alone Aborts t alone = absurd alone

-- so a walk stands behind it where it stood before
pub read_gone : (s : Source) (told : List Told) (place : ℕ) (d : Said) (t : Told) (w : Walk) (act : Act) → IsFacing s told place t w act → slice_get s.said.now place ≡ Some d → IsReadAlone act (standing_of w.standing).transaction → IsGoneOn (outlined s) (take place told) t w None
read_gone s told place d t w (Reads view) faces at alone =
    gone s told place d t w w (Reads view) None faces at refl
    (λ asked does. subst (λ a. standing_of w.standing ≡ standing_asked (outlined s) (standing_of w.standing) d.line.number a t.answer) (sym does) (read_alone (outlined s) (standing_of w.standing) d.line.number view t.answer alone))
    (λ asked does some. subst (λ a. option_map kind_in None ≡ commit_by d.line.number a) (sym does) refl)
read_gone s told place d t w (Refused body) faces at alone = absurd alone
read_gone s told place d t w (Opens name plan) faces at alone = absurd alone
read_gone s told place d t w (Binds name view) faces at alone = absurd alone
read_gone s told place d t w (Writes view words) faces at alone = absurd alone
read_gone s told place d t w (Begins mode) faces at alone = absurd alone
read_gone s told place d t w Commits faces at alone = absurd alone
read_gone s told place d t w Aborts faces at alone = absurd alone

-- what is told of it, by whether it may print what it prints
pub read_tells : (s : Source) (place : ℕ) (d : Said) (w : Walk) (act : Act) (may : Bool) → IsSource s → slice_get s.said.now place ≡ Some d → IsFacingLine s place w act → IsReadAlone act (standing_of w.standing).transaction
    → ((history : History) (owner line : ℕ) (u : Option Transaction) (asked : Asked) (said : Data) → IsActBy u asked act → false ≡ is_some u → PrintsNumbers said d.numbers → OpensAll history owner act said → IsTrue may ↔ (own.numbers_of (stated_asked history owner line asked said) ≡ numbers_in said))
    → TellsAt s place w (cond may (Some None) None)
read_tells s place d w act may is at faces alone tells = by may (λ told t of_it there. prints_own s told place d t w act false may is at (faces told t of_it there) none tells)
  where
    none : false ≡ is_some w.standing.transaction
    none = sym (stands_in w.standing.transaction ∙ ap is_some (none_alone act (standing_of w.standing).transaction alone))

    by : (b : Bool) → ((told : List Told) (t : Told) → AreToldIn s told → slice_get told place ≡ Some t → IsTrue b ↔ HasItsNumbers (outlined s) (standing_before (outlined s) (take place told) t) t) → TellsAt s place w (cond b (Some None) None)
    by true has = λ told t of_it there.
        let gone = read_gone s told place d t w act (faces told t of_it there) at alone in
        (record { numbers = (has told t of_it there).0 refl; event = gone.event }, gone.behind)
    by false has = λ told t of_it there. λ numbers. never_true false refl ((has told t of_it there).1 numbers)

-- a walk behind the first lines of a source, with their commits
pub record AreWalkedUpTo (s : Source) (place : ℕ) (w : Walk) (commits : List (Option Commit)) : Type 0 where
  pub walked : (told : List Told) → AreToldIn s told → AreWalked (outlined s) [] (take place told) commits
  pub reached : IsReached s place w
  pub order : IsNotPast s place w
  pub sound : IsSoundStanding w.standing

pub walked_first : (s : Source) (w : Walk) → w.session ≡ 0 → standing_of w.standing ≡ first_standing → IsSoundStanding w.standing → AreWalkedUpTo s 0 w []
walked_first s w session stands sound = record {
  walked = λ told of_it. tt;
  reached = λ told of_it. record { stands = stands; before = tt };
  order = λ d at. omega (arith, session);
  sound = sound;
}

session_next : (s : Source) (place : ℕ) (d e : Said) → IsSource s → slice_get s.said.now place ≡ Some d → slice_get s.said.now (suc place) ≡ Some e → d.line.session ≤ e.line.session
session_next s place d e is at next = order_next 0 s.said.now place d e (cut_in_order s.scripts.now s.transcript.now s.said.now is.cut) at next

-- one line more
pub walked_line : (s : Source) (place : ℕ) (w v : Walk) (cs : List (Option Commit)) (c : Option Commit) (d : Said) → IsSource s → slice_get s.said.now place ≡ Some d → AreWalkedUpTo s place w cs → TellsAt s place v (Some c) → IsInSession s place v → IsSoundStanding v.standing
    → AreWalkedUpTo s (place + 1) v (cs ++ c ∷ [])
walked_line s place w v cs c d is at are next session sound = record {
  walked = λ told of_it.
      let line = told_there s told place of_it low in
      subst (λ ts. AreWalked (outlined s) [] ts (cs ++ c ∷ [])) (sym (more told line.0 line.1)) (walked_more (outlined s) [] (take place told) line.0 cs c (are.walked told of_it) (next told line.0 of_it line.1).0);
  reached = λ told of_it.
      let line = told_there s told place of_it low in
      subst (λ ts. IsBehind (outlined s) ts v) (sym (more told line.0 line.1)) (next told line.0 of_it line.1).1;
  order = λ e there.
      let here = session d at in
      let there_is : slice_get s.said.now (suc place) ≡ Some e = ap (slice_get s.said.now) (sym (add-one place)) ∙ there in
      let after = session_next s place d e is at there_is in
      omega (arith, here, after);
  sound = sound;
}
  where
    low : place < length s.said.now
    low = got_below s.said.now place d at

    more : (told : List Told) (t : Told) → slice_get told place ≡ Some t → take (place + 1) told ≡ take place told ++ t ∷ []
    more told t there = ap (λ n. take n told) (add-one place) ∙ take_got told place t there

pub whole_of : (told : List Told) (n : ℕ) → length told ≤ n → take n told ≡ told
whole_of [] zero long = refl
whole_of [] (suc n) long = refl
whole_of (t ∷ told) zero long = absurd (omega (arith, long))
whole_of (t ∷ told) (suc n) long = ap (λ ts. t ∷ ts) (whole_of told n (omega (arith, long)))

-- all lines
pub walked_all : (s : Source) (place : ℕ) (w : Walk) (cs : List (Option Commit)) → length s.said.now ≤ place → AreWalkedUpTo s place w cs → (told : List Told) → AreToldIn s told → TellsCommits (outlined s) told (Some cs)
walked_all s place w cs long are told of_it =
    let count = said_count s.scripts.now s.transcript.now s.said.now told of_it.said_of in
    subst (λ ts. AreWalked (outlined s) [] ts cs) (whole_of told place (omega (arith, count, long))) (are.walked told of_it)

-- a line that prints other numbers
pub walked_none : (s : Source) (place : ℕ) (v : Walk) → place < length s.said.now → TellsAt s place v None → (told : List Told) → AreToldIn s told → TellsCommits (outlined s) told None
walked_none s place v low next told of_it = λ all.
    let line = told_there s told place of_it low in
    next told line.0 of_it line.1 (numbers_at (outlined s) [] told place line.0 all line.1)
