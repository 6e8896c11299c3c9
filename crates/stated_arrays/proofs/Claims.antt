-- Each history that is claimed has an outline that is told.
use Rattle.std.proofs.Common.{◌≡◌, ℕ, ◌+◌, ◌-◌, ◌≤◌, List, [], ◌∷◌, ◌++◌, Bool, true, false, cond, Option, Some, None, Ok, Err, length, refl, sym, ap, subst, ◌∙◌, arith, append-nil, eq-eqb}
use Rattle.std.proofs.lemmas.Grind.{fold-append}
use Rattle.std.proofs.lemmas.List.{map-append, length-map, length-append}
use Rattle.std.specs.Prelude.{◌==◌, filter_map, option_map, is_some}
use Rattle.std.specs.List.{AllByRecursion, cons_option, take-map}
use Rattle.serde_json.specs.Data.{Data}
use Rattle.stack_driver.specs.Renewed.{array_of}
use Rattle.stack_driver.specs.Views.{look_of}
use Rattle.history.specs.declared.array.ArrayInfo.{ArrayInfo}
use Rattle.history.specs.declared.event.Event.{Event}
use Rattle.history.specs.Acts.{Act, Asked, outside, changed, write_act, on_stored, read_of, write_of, act_of}
use Rattle.history.specs.Answers.{Text}
use Rattle.history.specs.Commit.{Transaction}
use Rattle.history.specs.History.{History}
use Rattle.history.specs.Leaves.{Leaf, location_of_leaf}
use Rattle.history.specs.Lines.{Line, SpecLeaf, given, stored, Build, refused, opening, viewing, joining, reading, writing, beginning, committing, aborting, resizing, resolving}
use Rattle.history.specs.OpenRows.{next_array}
use Rattle.history.specs.Own as own
use Rattle.history.specs.Own.{Numbered, opened_event, fault}
use Rattle.history.specs.Places.{array_at}
use Rattle.history.specs.Sessions.{Names}
use Rattle.history.specs.Steps.{write_alone}
use Rattle.history.specs.Viewing.{shape_of, view_fault, cell_fault}
use Rattle.history.proofs.Asking.{IsAskedBy, named_by, all_named_by, join_by, changes_by, without_by, values_by, leaf_by, cond_by, factors_by}
use Rattle.transcript_cut.specs.StatedEvents.{IsEvent}
use Rattle.transcript_cut.specs.Outline.{outline, outlined_event}
use Rattle.transcript_cut.proofs.Laws.{array_at-outline, count-outline, length-outline}
use Rattle.transcript_cut.specs.Claimed.{at_number, opening_of, commits_at, faults_at, stated_by, stated_asked, AreStated, IsClaimed}
use Rattle.transcript_cut.specs.ToldNumbers.{opened_in, done_in, failed_in, numbers_in, told_of}
use Rattle.transcript_cut.specs.Stances.{Stance, stance, stance_of}
use Rattle.transcript_cut.specs.Standings.{Standing, first_standing, standing, standing_step}
use Rattle.transcript_cut.specs.Takings.{Taking, taking, takings, before, was_opened, opened_info}
use Rattle.transcript_cut.specs.Transcript.{mount, Told}
use Rattle.transcript_cut.proofs.Laws.{standing_stance}
use Rattle.stated_arrays.specs.Outlined.{leaves_asked, leaves_at, openings_by, AreOpenedBy, undone, IsOutlinedBy, AreOutlinedBy, IsStatedOutline}
use Rattle.stated_arrays.proofs.LeafLaws.{AreEvents, few}
use Rattle.stated_arrays.proofs.TableLaws.{outline_legal}

-- an event of a history in its outline
event_outlined : (h : History) (m : ℕ) (e : Event) → IsEvent h m e → IsEvent (outline h) m (outlined_event e)
event_outlined h m e is = record {
  before = outline is.before;
  later = outline is.later;
  parts = ap outline is.parts ∙ map-append outlined_event is.before (e ∷ is.later);
  numbered = is.numbered ∙ ap (λ n. n + 1) (sym (length-outline is.before));
}

module _ (h : History) where
  before_outlined : (n : ℕ) → before (outline h) n ≡ outline (before h n)
  before_outlined n = take-map outlined_event (n - 1) h

  was_outlined : (n : ℕ) (leaf : Leaf) → was_opened (outline h) n leaf ≡ was_opened h n leaf
  was_outlined n leaf = ap (λ g. is_some (array_at g (location_of_leaf leaf))) (before_outlined n) ∙ ap is_some (array_at-outline (location_of_leaf leaf) (before h n))

  -- leaves take the same numbers in the outline, and open the same arrays
  takings_outlined : (leaves : List SpecLeaf) (ns : List ℕ) → takings (outline h) leaves ns ≡ takings h leaves ns
  takings_outlined [] ns = refl
  takings_outlined (leaf ∷ leaves) [] = ap (λ ts. taking leaf None ∷ ts) (takings_outlined leaves [])
  takings_outlined (given cells ∷ leaves) (n ∷ ns) = ap (λ ts. taking (given cells) (Some n) ∷ ts) (takings_outlined leaves ns)
  takings_outlined (stored node leaf ∷ leaves) (n ∷ ns) =
      ap (λ b. cond b (taking (stored node leaf) None ∷ takings (outline h) leaves (n ∷ ns)) (taking (stored node leaf) (Some n) ∷ takings (outline h) leaves ns)) (was_outlined n leaf)
      ∙ ap (λ ts. cond (was_opened h n leaf) (taking (stored node leaf) None ∷ ts) (taking (stored node leaf) (Some n) ∷ takings (outline h) leaves ns)) (takings_outlined leaves (n ∷ ns))
      ∙ ap (λ ts. cond (was_opened h n leaf) (taking (stored node leaf) None ∷ takings h leaves (n ∷ ns)) (taking (stored node leaf) (Some n) ∷ ts)) (takings_outlined leaves ns)

  opening_outlined : (owner : ℕ) (leaf : SpecLeaf) (number : Option ℕ) → opening_of (outline h) owner (taking leaf number) ≡ opening_of h owner (taking leaf number)
  opening_outlined owner leaf None = refl
  opening_outlined owner leaf (Some n) =
      ap (λ a. option_map (λ info. at_number n (opened_event owner info)) (opened_info a leaf)) (ap next_array (before_outlined n) ∙ count-outline (before h n))

  filtered_outlined : (owner : ℕ) (ts : List Taking) → filter_map (opening_of (outline h) owner) ts ≡ filter_map (opening_of h owner) ts
  filtered_outlined owner [] = refl
  filtered_outlined owner (t ∷ ts) =
      ap (λ o. cons_option o (filter_map (opening_of (outline h) owner) ts)) (opening_outlined owner t.leaf t.number)
      ∙ ap (λ os. cons_option (opening_of h owner (taking t.leaf t.number)) os) (filtered_outlined owner ts)

  openings_outlined : (owner : ℕ) (leaves : List SpecLeaf) (ns : List ℕ) → openings_by (outline h) owner leaves ns ≡ openings_by h owner leaves ns
  openings_outlined owner leaves ns = filtered_outlined owner (takings (outline h) leaves ns) ∙ ap (filter_map (opening_of h owner)) (takings_outlined leaves ns)

  -- events that the outline keeps as they are
  openings_kept : (owner : ℕ) (ts : List Taking) → AreEvents h (filter_map (opening_of h owner) ts) → AreEvents (outline h) (filter_map (opening_of h owner) ts)
  openings_kept owner [] are = tt
  openings_kept owner (t ∷ ts) are = by t.leaf t.number (openings_kept owner ts) are
    where
      found : (n : ℕ) (o : Option ArrayInfo) → (AreEvents h (filter_map (opening_of h owner) ts) → AreEvents (outline h) (filter_map (opening_of h owner) ts))
          → AreEvents h (cons_option (option_map (λ info. at_number n (opened_event owner info)) o) (filter_map (opening_of h owner) ts))
          → AreEvents (outline h) (cons_option (option_map (λ info. at_number n (opened_event owner info)) o) (filter_map (opening_of h owner) ts))
      found n None rest are = rest are
      found n (Some info) rest are = (event_outlined h n (opened_event owner info) are.0, rest are.1)

      by : (leaf : SpecLeaf) (number : Option ℕ) → (AreEvents h (filter_map (opening_of h owner) ts) → AreEvents (outline h) (filter_map (opening_of h owner) ts))
          → AreEvents h (cons_option (opening_of h owner (taking leaf number)) (filter_map (opening_of h owner) ts)) → AreEvents (outline h) (cons_option (opening_of h owner (taking leaf number)) (filter_map (opening_of h owner) ts))
      by leaf None rest are = rest are
      by leaf (Some n) rest are = found n (opened_info (next_array (before h n)) leaf) rest are

  abbrev HasDone : ℕ → ℕ → Type 0
  HasDone owner n = IsEvent (outline h) n (undone owner)

  abbrev HasFault : ℕ → ℕ → Type 0
  HasFault owner n = IsEvent (outline h) n (fault owner mount)

  commits_kept : (owner : ℕ) (t : Transaction) (ns : List ℕ) → AreEvents h (commits_at owner t ns) → AllByRecursion (HasDone owner) ns
  commits_kept owner t [] are = tt
  commits_kept owner t (n ∷ ns) are = (event_outlined h n _ are.0, commits_kept owner t ns are.1)

  faults_kept : (owner : ℕ) (ns : List ℕ) → AreEvents h (faults_at owner ns) → AllByRecursion (HasFault owner) ns
  faults_kept owner [] are = tt
  faults_kept owner (n ∷ ns) are = (event_outlined h n (fault owner mount) are.0, faults_kept owner ns are.1)

events_front : (h : History) (os ps : List Numbered) → AreEvents h (os ++ ps) → AreEvents h os
events_front h [] ps is = tt
events_front h (o ∷ os) ps is = (is.0, events_front h os ps is.1)

events_back : (h : History) (os ps : List Numbered) → AreEvents h (os ++ ps) → AreEvents h ps
events_back h [] ps is = is
events_back h (o ∷ os) ps is = events_back h os ps is.1

numbers_of_commits : (owner : ℕ) (t : Transaction) (ns : List ℕ) → own.numbers_of (commits_at owner t ns) ≡ ns
numbers_of_commits owner t [] = refl
numbers_of_commits owner t (n ∷ ns) = ap (λ ms. n ∷ ms) (numbers_of_commits owner t ns)

numbers_of_faults : (owner : ℕ) (ns : List ℕ) → own.numbers_of (faults_at owner ns) ≡ ns
numbers_of_faults owner [] = refl
numbers_of_faults owner (n ∷ ns) = ap (λ ms. n ∷ ms) (numbers_of_faults owner ns)

numbers_of_both : (os ps : List Numbered) → own.numbers_of (os ++ ps) ≡ own.numbers_of os ++ own.numbers_of ps
numbers_of_both os ps = map-append (λ (o : Numbered). o.number) os ps

-- lists by their lengths
empty_by : (ns : List ℕ) → length ns ≤ 0 → ns ≡ []
empty_by [] low = refl
empty_by (n ∷ ns) low = let no : ⊥ = omega (arith, low) in absurd no

fronts : (ns ms us vs : List ℕ) → length ns ≡ length ms → ns ++ us ≡ ms ++ vs → ns ≡ ms
fronts [] [] us vs size same = refl
fronts [] (m ∷ ms) us vs size same = let no : ⊥ = omega (arith, size) in absurd no
fronts (n ∷ ns) [] us vs size same = let no : ⊥ = omega (arith, size) in absurd no
fronts (n ∷ ns) (m ∷ ms) us vs size same =
    let first : n ≡ m = cc in
    let rest : ns ++ us ≡ ms ++ vs = cc in
    ap (λ k. k ∷ ns) first ∙ ap (λ ks. m ∷ ks) (fronts ns ms us vs (omega (arith, size)) rest)

size_of : (opened done failed : List ℕ) → length (opened ++ (done ++ failed)) ≡ length opened + (length done + length failed)
size_of opened done failed = let inner = length-append done failed in length-append opened (done ++ failed) ∙ ap (λ n. length opened + n) inner

-- the events of a line that opens nothing
data IsOther (owner : ℕ) (answer : Data) (os : List Numbered) : Type 0 where
  none : os ≡ [] → IsOther owner answer os
  faults : os ≡ faults_at owner (failed_in answer) → IsOther owner answer os
  commits : (t : Transaction) → os ≡ commits_at owner t (done_in answer) ++ faults_at owner (failed_in answer) → IsOther owner answer os

module _ (h : History) (owner line : ℕ) (answer : Data) where
  abbrev OtherAct : Act → Type 0
  OtherAct act = IsOther owner answer (stated_by h owner line act answer)

  asked_other : (a : Asked) → IsAskedBy OtherAct a → IsOther owner answer (stated_asked h owner line a answer)
  asked_other (Ok act) is = is
  asked_other (Err refusal) is = none refl

  outside_other : (t : Option Transaction) (a : Asked) → IsAskedBy OtherAct a → IsAskedBy OtherAct (outside t a)
  outside_other None a is = is
  outside_other (Some t) a is = tt

  stored_other : (array : _) (shape : List ℕ) → IsAskedBy OtherAct (on_stored array shape)
  stored_other array shape = cond_by OtherAct array.local _ _ tt (cond_by OtherAct (length shape == length array.shape) _ _ (none refl) tt)

  write_other : (t : Option Transaction) (v : _) (words : List ℕ) → OtherAct (write_act t v words)
  write_other None v words = commits (write_alone line v words) refl
  write_other (Some t) v words = none refl

  commit_other : (names : Names) (t : Option Transaction) → IsAskedBy OtherAct (act_of names t committing)
  commit_other names None = tt
  commit_other names (Some t) = commits t refl

  begin_other : (names : Names) (mode : _) (t : Option Transaction) → IsAskedBy OtherAct (act_of names t (beginning mode))
  begin_other names mode None = none refl
  begin_other names mode (Some t) = tt

  abort_other : (names : Names) (t : Option Transaction) → IsAskedBy OtherAct (act_of names t aborting)
  abort_other names None = tt
  abort_other names (Some t) = none refl

  view_other : (names : Names) (t : Option Transaction) (name of : Text) (changes : _) → IsAskedBy OtherAct (act_of names t (viewing name of changes))
  view_other names t name of changes = named_by OtherAct of (names of) _ (λ v there. changes_by OtherAct (changed (Ok v) changes) _ (λ made of_these. none refl))

  join_other : (names : Names) (t : Option Transaction) (name : Text) (of : List Text) (join : _) (changes : _) → IsAskedBy OtherAct (act_of names t (joining name of join changes))
  join_other names t name of join changes =
      all_named_by OtherAct (λ v. Unit {0}) names (λ name v there. tt) of _ (λ views all. join_by OtherAct (join views) _ (λ v joined. changes_by OtherAct (changed (Ok v) changes) _ (λ made of_these. none refl)))

  read_other : (names : Names) (t : Option Transaction) (name : Text) (changes : _) (down : _) → IsAskedBy OtherAct (act_of names t (reading name changes down))
  read_other names t name changes down =
      named_by OtherAct name (names name) _
      (λ v there. changes_by OtherAct (changed (Ok v) changes) (read_of down)
      (λ w of_these. factors_by OtherAct down w _ (without_by OtherAct (view_fault w) _ (λ fits. without_by OtherAct (cell_fault w) _ (λ found. faults refl)))))

  writes_other : (names : Names) (t : Option Transaction) (name : Text) (changes : _) (values : _) → IsAskedBy OtherAct (act_of names t (writing name changes values))
  writes_other names t name changes values =
      named_by OtherAct name (names name) _
      (λ v there. changes_by OtherAct (changed (Ok v) changes) (write_of t values)
      (λ w of_these. without_by OtherAct (view_fault w) _ (λ fits. values_by OtherAct (values (look_of w).dtype (shape_of w)) _ (λ words given. without_by OtherAct (cell_fault w) _ (λ found. write_other t w words)))))

  resize_other : (names : Names) (t : Option Transaction) (name : Text) (shape : List ℕ) → IsAskedBy OtherAct (act_of names t (resizing name shape))
  resize_other names t name shape = outside_other t _ (named_by OtherAct name (names name) _ (λ v there. leaf_by OtherAct (array_of v) _ (λ array of_it. stored_other array shape)))

  resolve_other : (names : Names) (t : Option Transaction) (name : Text) → IsAskedBy OtherAct (act_of names t (resolving name))
  resolve_other names t name = outside_other t _ (named_by OtherAct name (names name) _ (λ v there. leaf_by OtherAct (array_of v) _ (λ array of_it. none refl)))

  -- what such a line prints
  pub record IsOutlinedOther : Type 0 where
    pub opened : opened_in answer ≡ []
    pub done : AllByRecursion (HasDone h owner) (done_in answer)
    pub failed : AllByRecursion (HasFault h owner) (failed_in answer)

  other_outlined : (os : List Numbered) → IsOther owner answer os → own.numbers_of os ≡ numbers_in answer → AreEvents h os → IsOutlinedOther
  other_outlined os (none is) numbers are =
      let all : [] ≡ numbers_in answer = ap own.numbers_of (sym is) ∙ numbers in
      let size : 0 ≡ length (opened_in answer) + (length (done_in answer) + length (failed_in answer)) = ap length all ∙ size_of (opened_in answer) (done_in answer) (failed_in answer) in
      record {
        opened = empty_by (opened_in answer) (omega (arith, size));
        done = subst (AllByRecursion (HasDone h owner)) (sym (empty_by (done_in answer) (omega (arith, size)))) tt;
        failed = subst (AllByRecursion (HasFault h owner)) (sym (empty_by (failed_in answer) (omega (arith, size)))) tt;
      }
  other_outlined os (faults is) numbers are =
      let all : failed_in answer ≡ numbers_in answer = sym (numbers_of_faults owner (failed_in answer)) ∙ ap own.numbers_of (sym is) ∙ numbers in
      let size : length (failed_in answer) ≡ length (opened_in answer) + (length (done_in answer) + length (failed_in answer)) = ap length all ∙ size_of (opened_in answer) (done_in answer) (failed_in answer) in
      record {
        opened = empty_by (opened_in answer) (omega (arith, size));
        done = subst (AllByRecursion (HasDone h owner)) (sym (empty_by (done_in answer) (omega (arith, size)))) tt;
        failed = faults_kept h owner (failed_in answer) (subst (AreEvents h) is are);
      }
  other_outlined os (commits t is) numbers are =
      let cs = commits_at owner t (done_in answer) in
      let fs = faults_at owner (failed_in answer) in
      let each : own.numbers_of (cs ++ fs) ≡ done_in answer ++ failed_in answer =
      numbers_of_both cs fs ∙ ap (λ ms. ms ++ own.numbers_of fs) (numbers_of_commits owner t (done_in answer)) ∙ ap (λ ms. done_in answer ++ ms) (numbers_of_faults owner (failed_in answer)) in
      let all : done_in answer ++ failed_in answer ≡ numbers_in answer = sym each ∙ ap own.numbers_of (sym is) ∙ numbers in
      let size : length (done_in answer) + length (failed_in answer) ≡ length (opened_in answer) + (length (done_in answer) + length (failed_in answer)) =
      sym (length-append (done_in answer) (failed_in answer)) ∙ ap length all ∙ size_of (opened_in answer) (done_in answer) (failed_in answer) in
      let whole = subst (AreEvents h) is are in
      record {
        opened = empty_by (opened_in answer) (omega (arith, size));
        done = commits_kept h owner t (done_in answer) (events_front h cs fs whole);
        failed = faults_kept h owner (failed_in answer) (events_back h cs fs whole);
      }

  -- an open line outside of a transaction
  pub record IsOutlinedOpen (leaves : List SpecLeaf) : Type 0 where
    pub openings : AreOpenedBy (outline h) owner leaves (opened_in answer)
    pub done : done_in answer ≡ []
    pub failed : AllByRecursion (HasFault h owner) (failed_in answer)

  open_outlined : (leaves : List SpecLeaf) → own.numbers_of (openings_by h owner leaves (opened_in answer) ++ faults_at owner (failed_in answer)) ≡ numbers_in answer
      → AreEvents h (openings_by h owner leaves (opened_in answer) ++ faults_at owner (failed_in answer)) → IsOutlinedOpen leaves
  open_outlined leaves numbers are =
      let os = openings_by h owner leaves (opened_in answer) in
      let fs = faults_at owner (failed_in answer) in
      let each : own.numbers_of (os ++ fs) ≡ own.numbers_of os ++ failed_in answer = numbers_of_both os fs ∙ ap (λ ms. own.numbers_of os ++ ms) (numbers_of_faults owner (failed_in answer)) in
      let all : own.numbers_of os ++ failed_in answer ≡ opened_in answer ++ (done_in answer ++ failed_in answer) = sym each ∙ numbers in
      let count : length (own.numbers_of os) ≡ length os = length-map os (λ (o : Numbered). o.number) in
      let low = few h owner leaves (opened_in answer) in
      let size : length (own.numbers_of os) + length (failed_in answer) ≡ length (opened_in answer) + (length (done_in answer) + length (failed_in answer)) =
      sym (length-append (own.numbers_of os) (failed_in answer)) ∙ ap length all ∙ size_of (opened_in answer) (done_in answer) (failed_in answer) in
      let same : length (own.numbers_of os) ≡ length (opened_in answer) = omega (arith, count, low, size) in
      let outlined_ = openings_outlined h owner leaves (opened_in answer) in
      record {
        openings = record {
          numbers = ap own.numbers_of outlined_ ∙ fronts (own.numbers_of os) (opened_in answer) (failed_in answer) (done_in answer ++ failed_in answer) same all;
          events = subst (AreEvents (outline h)) (sym outlined_) (openings_kept h owner (takings h leaves (opened_in answer)) (events_front h os fs are));
        };
        done = empty_by (done_in answer) (omega (arith, count, low, size));
        failed = faults_kept h owner (failed_in answer) (events_back h os fs are);
      }

nothing_opened : (p : History) (owner : ℕ) (ns : List ℕ) → ns ≡ [] → AreOpenedBy p owner [] ns
nothing_opened p owner ns lacks = subst (AreOpenedBy p owner []) (sym lacks) (record { numbers = refl; events = tt })

-- one line
module _ (h : History) (names : Names) (told : Told) where
  abbrev StatedAs : Asked → Type 0
  StatedAs a = (own.numbers_of (stated_asked h told.session told.number a told.answer) ≡ numbers_in told.answer) × AreEvents h (stated_asked h told.session told.number a told.answer)

  no_leaves : (s : Option Stance) (asked : Line) → leaves_asked asked ≡ [] → leaves_at s asked ≡ []
  no_leaves None asked lacks = lacks
  no_leaves (Some s) asked lacks = refl

  by_other : (s : Option Stance) (a : Asked) → leaves_at s told.asked ≡ [] → IsAskedBy (OtherAct h told.session told.number told.answer) a → StatedAs a → IsOutlinedBy (outline h) s told
  by_other s a lacks is are =
      let other = other_outlined h told.session told.number told.answer (stated_asked h told.session told.number a told.answer) (asked_other h told.session told.number told.answer a is) are.0 are.1 in
      record {
        openings = subst (λ ls. AreOpenedBy (outline h) told.session ls (opened_in told.answer)) (sym lacks) (nothing_opened (outline h) told.session (opened_in told.answer) other.opened);
        done = other.done;
        failed = other.failed;
      }

  by_open : (name : Text) (leaves : List SpecLeaf) (build : Build) (t : Option Transaction) → told.asked ≡ opening name leaves build → StatedAs (act_of names t (opening name leaves build)) → IsOutlinedBy (outline h) (stance_of t) told
  by_open name leaves build None asked are =
      let open_ = open_outlined h told.session told.number told.answer leaves are.0 are.1 in
      record {
        openings = subst (λ l. AreOpenedBy (outline h) told.session (leaves_at None l) (opened_in told.answer)) (sym asked) open_.openings;
        done = subst (AllByRecursion (HasDone h told.session)) (sym open_.done) tt;
        failed = open_.failed;
      }
  by_open name leaves build (Some t) asked are = by_other (stance_of (Some t)) (act_of names (Some t) (opening name leaves build)) refl tt are

  line_outlined : (t : Option Transaction) (asked : Line) → told.asked ≡ asked → StatedAs (act_of names t asked) → IsOutlinedBy (outline h) (stance_of t) told
  line_outlined t (opening name leaves build) is are = by_open name leaves build t is are
  line_outlined t (refused error) is are = by_other (stance_of t) (act_of names t (refused error)) (no_leaves (stance_of t) told.asked (ap leaves_asked is)) tt are
  line_outlined t (viewing name of changes) is are =
      by_other (stance_of t) (act_of names t (viewing name of changes)) (no_leaves (stance_of t) told.asked (ap leaves_asked is)) (view_other h told.session told.number told.answer names t name of changes) are
  line_outlined t (joining name of join changes) is are =
      by_other (stance_of t) (act_of names t (joining name of join changes)) (no_leaves (stance_of t) told.asked (ap leaves_asked is)) (join_other h told.session told.number told.answer names t name of join changes) are
  line_outlined t (reading name changes down) is are =
      by_other (stance_of t) (act_of names t (reading name changes down)) (no_leaves (stance_of t) told.asked (ap leaves_asked is)) (read_other h told.session told.number told.answer names t name changes down) are
  line_outlined t (writing name changes values) is are =
      by_other (stance_of t) (act_of names t (writing name changes values)) (no_leaves (stance_of t) told.asked (ap leaves_asked is)) (writes_other h told.session told.number told.answer names t name changes values) are
  line_outlined t (beginning mode) is are =
      by_other (stance_of t) (act_of names t (beginning mode)) (no_leaves (stance_of t) told.asked (ap leaves_asked is)) (begin_other h told.session told.number told.answer names mode t) are
  line_outlined t committing is are =
      by_other (stance_of t) (act_of names t committing) (no_leaves (stance_of t) told.asked (ap leaves_asked is)) (commit_other h told.session told.number told.answer names t) are
  line_outlined t aborting is are =
      by_other (stance_of t) (act_of names t aborting) (no_leaves (stance_of t) told.asked (ap leaves_asked is)) (abort_other h told.session told.number told.answer names t) are
  line_outlined t (resizing name shape) is are =
      by_other (stance_of t) (act_of names t (resizing name shape)) (no_leaves (stance_of t) told.asked (ap leaves_asked is)) (resize_other h told.session told.number told.answer names t name shape) are
  line_outlined t (resolving name) is are =
      by_other (stance_of t) (act_of names t (resolving name)) (no_leaves (stance_of t) told.asked (ap leaves_asked is)) (resolve_other h told.session told.number told.answer names t name) are

-- all lines
module _ (h : History) where
  -- a session's lines, one more at the front
  own_first : (t : Told) (more : List Told) → told_of t.session (t ∷ more) ≡ t ∷ told_of t.session more
  own_first t more = ap (λ b. cond b (t ∷ told_of t.session more) (told_of t.session more)) (eq-eqb t.session t.session refl)

  told_more : (session : ℕ) (earlier : List Told) (t : Told) (b : Bool) → (t.session == session) ≡ b → told_of session (earlier ++ t ∷ []) ≡ told_of session earlier ++ cond b (t ∷ []) []
  told_more session [] t b is = ap (λ c. cond c (t ∷ []) []) is
  told_more session (u ∷ earlier) t b is = by (u.session == session) (told_more session earlier t b is)
    where
      by : (c : Bool) → told_of session (earlier ++ t ∷ []) ≡ told_of session earlier ++ cond b (t ∷ []) []
          → cond c (u ∷ told_of session (earlier ++ t ∷ [])) (told_of session (earlier ++ t ∷ [])) ≡ cond c (u ∷ told_of session earlier) (told_of session earlier) ++ cond b (t ∷ []) []
      by true rest = ap (λ ts. u ∷ ts) rest
      by false rest = rest

  standing_more : (told : List Told) (t : Told) → standing h (told ++ t ∷ []) ≡ standing_step h (standing h told) t
  standing_more told t = fold-append (standing_step h) first_standing told (t ∷ [])

  abbrev StatedBehind : List Told → List Told → Type 0
  StatedBehind earlier later = (session : ℕ) → AreStated h (standing h (told_of session earlier)) (told_of session later)

  behind_one : (earlier : List Told) (t : Told) (later : List Told) → StatedBehind earlier (t ∷ later) → StatedBehind (earlier ++ t ∷ []) later
  behind_one earlier t later are session = by (t.session == session) refl (are session)
    where
      by : (b : Bool) → (t.session == session) ≡ b → AreStated h (standing h (told_of session earlier)) (cond (t.session == session) (t ∷ told_of session later) (told_of session later))
          → AreStated h (standing h (told_of session (earlier ++ t ∷ []))) (told_of session later)
      by true own all =
          let both = subst (λ b. AreStated h (standing h (told_of session earlier)) (cond b (t ∷ told_of session later) (told_of session later))) own all in
          subst (λ (s : Standing). AreStated h s (told_of session later)) (sym (ap (standing h) (told_more session earlier t true own) ∙ standing_more (told_of session earlier) t)) both.1
      by false other all =
          subst (λ (s : Standing). AreStated h s (told_of session later)) (sym (ap (standing h) (told_more session earlier t false other ∙ append-nil (told_of session earlier))))
          (subst (λ b. AreStated h (standing h (told_of session earlier)) (cond b (t ∷ told_of session later) (told_of session later))) other all)

  here_one : (earlier : List Told) (t : Told) (later : List Told) → StatedBehind earlier (t ∷ later) → IsOutlinedBy (outline h) (stance (told_of t.session earlier)) t
  here_one earlier t later are =
      let s = standing h (told_of t.session earlier) in
      let one = (subst (AreStated h s) (own_first t later) (are t.session)).0 in
      subst (λ u. IsOutlinedBy (outline h) u t) (standing_stance h (told_of t.session earlier)) (line_outlined h s.names t s.transaction t.asked refl (one.numbers, one.events))

  all_outlined : (earlier later : List Told) → StatedBehind earlier later → AreOutlinedBy (outline h) earlier later
  all_outlined earlier [] are = tt
  all_outlined earlier (t ∷ later) are = (here_one earlier t later are, all_outlined (earlier ++ t ∷ []) later (behind_one earlier t later are))

-- each history that is claimed has an outline that is told
pub claimed_outlined : (told : List Told) (h : History) → IsClaimed told h → IsStatedOutline told (outline h)
claimed_outlined told h is = record {
  lines = all_outlined h [] told is.sessions;
  count = length-outline h ∙ is.count;
  legal = outline_legal h is.legal;
}
