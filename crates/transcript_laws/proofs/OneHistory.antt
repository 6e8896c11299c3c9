-- What is told states one history at most.
use Rattle.std.proofs.Common.{◌≡◌, ℕ, ◌+◌, ◌-◌, ◌<◌, ◌≤◌, zero, suc, List, [], ◌∷◌, ◌++◌, Bool, true, false, cond, Option, Some, None, Ok, Err, map, take, take_all, take-take, length, length-append, ◌⊎◌, inl, inr, refl, sym, ap, subst, ◌∙◌, arith, append_assoc}
use Rattle.std.proofs.lemmas.List.{map-append}
use Rattle.std.proofs.Math.Seq.{take-append_seam}
use Rattle.std.specs.Prelude.{filter_map, option_map, Contains, ◌==◌}
use Rattle.std.specs.List.{AllByRecursion, cons_option, take-map}
use Rattle.serde_json.specs.Data.{Data}
use Rattle.stack_driver.specs.Renewed.{array_of}
use Rattle.stack_driver.specs.Views.{look_of}
use Rattle.stack_driver.specs.declared.view.View.{View}
use Rattle.history.specs.declared.array.ArrayInfo.{ArrayInfo}
use Rattle.history.specs.declared.event.Event.{Event}
use Rattle.history.specs.declared.event.Kind.TheVariants.{Fault}
use Rattle.history.specs.Acts.{Act, Asked, opens, reads, outside, changed, write_act, on_stored, read_of, write_of, act_of}
use Rattle.history.specs.Commit.{Transaction}
use Rattle.history.specs.History.{History}
use Rattle.history.specs.Lines.{Line, SpecLeaf, given, stored, Build, refused, opening, viewing, joining, reading, writing, beginning, committing, aborting, resizing, resolving}
use Rattle.history.specs.OpenRows.{next_array, given_info}
use Rattle.history.specs.Own as own
use Rattle.history.specs.Own.{Numbered, opened_event, fault}
use Rattle.history.specs.Sessions.{Names}
use Rattle.history.specs.Steps.{write_alone}
use Rattle.history.specs.Answers.{Text}
use Rattle.history.specs.declared.event.Mode.{Mode}
use Rattle.stack_driver.specs.References.{Reference}
use Rattle.history.specs.Viewing.{shape_of, view_fault, cell_fault}
use Rattle.history.proofs.Asking.{IsAskedBy, named_by, all_named_by, join_by, changes_by, without_by, values_by, leaf_by, cond_by, factors_by}
use Rattle.serial_runs.specs.Numbered.{IsEvent}
use Rattle.state_laws.specs.Outline.{outline, outlined_event}
use Rattle.state_laws.proofs.Outline.{outline-more}
use Rattle.transcript_laws.specs.Transcript.{mount, Told}
use Rattle.transcript_laws.specs.Numbers.{opened_in, failed_in, done_in, numbers_in, numbers_of, told_of, AreRising, AreNumbered}
use Rattle.transcript_laws.specs.Claimed.{opening_of, at_number, stated_by, stated_asked, stated, faults_at, commits_at, AreStated, IsClaimed, IsStatedHistory}
use Rattle.transcript_laws.specs.Standings.{Standing, first_standing, standing_step}
use Rattle.transcript_laws.specs.Takings.{Taking, taking, takings, was_opened, opened_info}
use Rattle.transcript_laws.specs.Stances.{Stance, stance_of, stance_by}
use Rattle.transcript_laws.proofs.SameOutline.{AreOutlined, count_same, was_same, opening_same, step_same, stated_same}
use Rattle.transcript_laws.proofs.Stances.{step_stance}

-- the number is among these
abbrev pub IsIn : ℕ → List ℕ → Type 0
IsIn m [] = ⊥
IsIn m (n ∷ ns) = (n ≡ m) ⊎ IsIn m ns

pub is_in : (ns : List ℕ) (m : ℕ) → Contains ns m → IsIn m ns
is_in [] m (j, low, is) = absurd (omega (arith, low))
is_in (n ∷ ns) m (zero, low, is) = inl is
is_in (n ∷ ns) m (suc j, low, is) = inr (is_in ns m (j, omega (arith, low), is))

in_front : (ns ms : List ℕ) (m : ℕ) → IsIn m ns → IsIn m (ns ++ ms)
in_front [] ms m is = absurd is
in_front (n ∷ ns) ms m (inl is) = inl is
in_front (n ∷ ns) ms m (inr is) = inr (in_front ns ms m is)

in_back : (ns ms : List ℕ) (m : ℕ) → IsIn m ms → IsIn m (ns ++ ms)
in_back [] ms m is = is
in_back (n ∷ ns) ms m is = inr (in_back ns ms m is)

pub in_either : (ns ms : List ℕ) (m : ℕ) → IsIn m (ns ++ ms) → IsIn m ns ⊎ IsIn m ms
in_either [] ms m is = inr is
in_either (n ∷ ns) ms m (inl is) = inl (inl is)
in_either (n ∷ ns) ms m (inr is) = elim (in_either ns ms m is) [ inl a ↦ inl (inr a) | inr b ↦ inr b ]

-- rising numbers
rising_tail : (n : ℕ) (ns : List ℕ) → AreRising (n ∷ ns) → AreRising ns
rising_tail n [] is = tt
rising_tail n (m ∷ ns) is = is.1

rising_back : (ns ms : List ℕ) → AreRising (ns ++ ms) → AreRising ms
rising_back [] ms is = is
rising_back (n ∷ ns) ms is = rising_back ns ms (rising_tail n (ns ++ ms) is)

rising_front : (ns ms : List ℕ) → AreRising (ns ++ ms) → AreRising ns
rising_front [] ms is = tt
rising_front (n ∷ []) ms is = tt
rising_front (n ∷ m ∷ ns) ms is = (is.0, rising_front (m ∷ ns) ms is.1)

not_below : (n : ℕ) (ns : List ℕ) (m : ℕ) → AreRising (n ∷ ns) → IsIn m (n ∷ ns) → n ≤ m
not_below n ns m is (inl same) = omega (arith, same)
not_below n [] m is (inr more) = absurd more
not_below n (k ∷ ns) m is (inr more) = let low = not_below k ns m is.1 more in let first = is.0 in omega (arith, low, first)

abbrev pub AreEvents : History → List Numbered → Type 0
AreEvents h os = AllByRecursion (λ (o : Numbered). IsEvent h o.number o.event) os

pub events_front : (h : History) (os ps : List Numbered) → AreEvents h (os ++ ps) → AreEvents h os
events_front h [] ps is = tt
events_front h (o ∷ os) ps is = (is.0, events_front h os ps is.1)

events_back : (h : History) (os ps : List Numbered) → AreEvents h (os ++ ps) → AreEvents h ps
events_back h [] ps is = is
events_back h (o ∷ os) ps is = events_back h os ps is.1

-- an event without what it did, with its number
abbrev bare : Numbered → Numbered
bare o = record { number = o.number; event = outlined_event o.event }

module _ (h k : History) where
  -- both have an event of the number, with one outline
  pub record Meet (m : ℕ) : Type 0 where
    pub one : Event
    pub other : Event
    pub in_one : IsEvent h m one
    pub in_other : IsEvent k m other
    pub same : outlined_event one ≡ outlined_event other

  meet_at : (o p : Numbered) (m : ℕ) → IsEvent h o.number o.event → IsEvent k p.number p.event → bare o ≡ bare p → o.number ≡ m → Meet m
  meet_at o p m is are same at =
      record {
        one = o.event;
        other = p.event;
        in_one = subst (λ n. IsEvent h n o.event) at is;
        in_other = subst (λ n. IsEvent k n p.event) (sym (ap (λ (x : Numbered). x.number) same) ∙ at) are;
        same = ap (λ (x : Numbered). x.event) same;
      }

  -- lists of one outline
  meet_among : (os ps : List Numbered) (m : ℕ) → AreEvents h os → AreEvents k ps → map bare os ≡ map bare ps → IsIn m (own.numbers_of os) → Meet m
  meet_among [] ps m is are same there = absurd there
  meet_among (o ∷ os) [] m is are same there = absurd (cc)
  meet_among (o ∷ os) (p ∷ ps) m is are same (inl at) = let first : bare o ≡ bare p = cc in meet_at o p m is.0 are.0 first at
  meet_among (o ∷ os) (p ∷ ps) m is are same (inr later) = let rest : map bare os ≡ map bare ps = cc in meet_among os ps m is.1 are.1 rest later

-- a leaf that may open an array by the number, and those behind it
opened_in_front : (n m : ℕ) (ns : List ℕ) (f : ArrayInfo → Event) (o : Option ArrayInfo) (rest : List Numbered) → (IsIn m (own.numbers_of rest) → IsIn m ns)
    → IsIn m (own.numbers_of (cons_option (option_map (λ info. at_number n (f info)) o) rest)) → IsIn m (n ∷ ns)
opened_in_front n m ns f None rest later is = inr (later is)
opened_in_front n m ns f (Some info) rest later (inl is) = inl is
opened_in_front n m ns f (Some info) rest later (inr is) = inr (later is)

stored_in : (h : History) (owner : ℕ) (leaf : SpecLeaf) (n m : ℕ) (ns : List ℕ) (b : Bool) (same next : List Taking)
    → (IsIn m (own.numbers_of (filter_map (opening_of h owner) same)) → IsIn m (n ∷ ns)) → (IsIn m (own.numbers_of (filter_map (opening_of h owner) next)) → IsIn m ns)
    → IsIn m (own.numbers_of (filter_map (opening_of h owner) (cond b (taking leaf None ∷ same) (taking leaf (Some n) ∷ next)))) → IsIn m (n ∷ ns)
stored_in h owner leaf n m ns true same next here later is = here is
stored_in h owner leaf n m ns false same next here later is = opened_in_front n m ns (opened_event owner) (opened_info (next_array (take (n - 1) h)) leaf) (filter_map (opening_of h owner) next) later is

-- numbers that leaves take are of those that are printed
taken_in : (h : History) (owner : ℕ) (leaves : List SpecLeaf) (ns : List ℕ) (m : ℕ) → IsIn m (own.numbers_of (filter_map (opening_of h owner) (takings h leaves ns))) → IsIn m ns
taken_in h owner [] ns m is = absurd is
taken_in h owner (leaf ∷ leaves) [] m is = taken_in h owner leaves [] m is
taken_in h owner (given cells ∷ leaves) (n ∷ ns) m (inl is) = inl is
taken_in h owner (given cells ∷ leaves) (n ∷ ns) m (inr is) = inr (taken_in h owner leaves ns m is)
taken_in h owner (stored node leaf ∷ leaves) (n ∷ ns) m is =
    stored_in h owner (stored node leaf) n m ns (was_opened h n leaf) (takings h leaves (n ∷ ns)) (takings h leaves ns) (taken_in h owner leaves (n ∷ ns) m) (taken_in h owner leaves ns m) is

module _ (h k : History) (m : ℕ) (outlined : (q : ℕ) → q ≤ m - 1 → AreOutlined h k q) where
  -- a leaf that may open an array by the number, in both
  front_meet : (n owner : ℕ) (o : Option ArrayInfo) (rest others : List Numbered) → (AreEvents h rest → AreEvents k others → IsIn m (own.numbers_of rest) → Meet h k m)
      → AreEvents h (cons_option (option_map (λ info. at_number n (opened_event owner info)) o) rest) → AreEvents k (cons_option (option_map (λ info. at_number n (opened_event owner info)) o) others)
      → IsIn m (own.numbers_of (cons_option (option_map (λ info. at_number n (opened_event owner info)) o) rest)) → Meet h k m
  front_meet n owner None rest others later is are there = later is are there
  front_meet n owner (Some info) rest others later is are (inl at) = meet_at h k _ _ m is.0 are.0 refl at
  front_meet n owner (Some info) rest others later is are (inr there) = later is.1 are.1 there

  stored_meet : (owner : ℕ) (leaf : SpecLeaf) (n : ℕ) (b : Bool) (same next others nexts : List Taking) → AreOutlined h k (n - 1)
      → (AreEvents h (filter_map (opening_of h owner) same) → AreEvents k (filter_map (opening_of k owner) others) → IsIn m (own.numbers_of (filter_map (opening_of h owner) same)) → Meet h k m)
      → (AreEvents h (filter_map (opening_of h owner) next) → AreEvents k (filter_map (opening_of k owner) nexts) → IsIn m (own.numbers_of (filter_map (opening_of h owner) next)) → Meet h k m)
      → AreEvents h (filter_map (opening_of h owner) (cond b (taking leaf None ∷ same) (taking leaf (Some n) ∷ next)))
      → AreEvents k (filter_map (opening_of k owner) (cond b (taking leaf None ∷ others) (taking leaf (Some n) ∷ nexts)))
      → IsIn m (own.numbers_of (filter_map (opening_of h owner) (cond b (taking leaf None ∷ same) (taking leaf (Some n) ∷ next)))) → Meet h k m
  stored_meet owner leaf n true same next others nexts low here later is are there = here is are there
  stored_meet owner leaf n false same next others nexts low here later is are there =
      front_meet n owner (opened_info (next_array (take (n - 1) h)) leaf) (filter_map (opening_of h owner) next) (filter_map (opening_of k owner) nexts) later is
      (subst (λ o. AreEvents k (cons_option o (filter_map (opening_of k owner) nexts))) (sym (opening_same h k owner n leaf low)) are) there

  lower : (n : ℕ) → n ≤ m → AreOutlined h k (n - 1)
  lower n low = outlined (n - 1) (omega (arith, low))

  openings_meet : (owner : ℕ) (leaves : List SpecLeaf) (ns : List ℕ) → AreRising ns → AreEvents h (filter_map (opening_of h owner) (takings h leaves ns)) → AreEvents k (filter_map (opening_of k owner) (takings k leaves ns))
      → IsIn m (own.numbers_of (filter_map (opening_of h owner) (takings h leaves ns))) → Meet h k m
  openings_meet owner [] ns rising is are there = absurd there
  openings_meet owner (leaf ∷ leaves) [] rising is are there = openings_meet owner leaves [] rising is are there
  openings_meet owner (given cells ∷ leaves) (n ∷ ns) rising is are (inl at) =
      meet_at h k _ _ m is.0 are.0 (ap (λ a. bare (at_number n (opened_event owner (given_info a cells)))) (count_same h k (n - 1) (lower n (omega (arith, at))))) at
  openings_meet owner (given cells ∷ leaves) (n ∷ ns) rising is are (inr there) = openings_meet owner leaves ns (rising_tail n ns rising) is.1 are.1 there
  openings_meet owner (stored node leaf ∷ leaves) (n ∷ ns) rising is are there =
      let low : n ≤ m = not_below n ns m rising (taken_in h owner (stored node leaf ∷ leaves) (n ∷ ns) m there) in
      stored_meet owner (stored node leaf) n (was_opened h n leaf) (takings h leaves (n ∷ ns)) (takings h leaves ns) (takings k leaves (n ∷ ns)) (takings k leaves ns) (lower n low)
      (openings_meet owner leaves (n ∷ ns) rising) (openings_meet owner leaves ns (rising_tail n ns rising)) is
      (subst (λ b. AreEvents k (filter_map (opening_of k owner) (cond b (taking (stored node leaf) None ∷ takings k leaves (n ∷ ns)) (taking (stored node leaf) (Some n) ∷ takings k leaves ns)))) (sym (was_same h k n leaf (lower n low))) are) there

-- commits without what they did
abbrev undone_at : ℕ → List ℕ → List Numbered
undone_at owner ns = map (λ n. at_number n (record { owner = owner; kind = Fault [] })) ns

bare_commits : (owner : ℕ) (t : Transaction) (ns : List ℕ) → map bare (commits_at owner t ns) ≡ undone_at owner ns
bare_commits owner t [] = refl
bare_commits owner t (n ∷ ns) = ap (λ os. at_number n (record { owner = owner; kind = Fault [] }) ∷ os) (bare_commits owner t ns)

bare_faults : (owner : ℕ) (ns : List ℕ) → map bare (faults_at owner ns) ≡ faults_at owner ns
bare_faults owner [] = refl
bare_faults owner (n ∷ ns) = ap (λ os. at_number n (fault owner mount) ∷ os) (bare_faults owner ns)

module _ (owner line : ℕ) (answer : Data) where
  -- a commit's events and a failed call's
  abbrev whole_shape : List Numbered
  whole_shape = undone_at owner (done_in answer) ++ faults_at owner (failed_in answer)

  committed_shape : (t : Transaction) → map bare (commits_at owner t (done_in answer) ++ faults_at owner (failed_in answer)) ≡ whole_shape
  committed_shape t =
      map-append bare (commits_at owner t (done_in answer)) (faults_at owner (failed_in answer))
      ∙ ap (λ os. os ++ map bare (faults_at owner (failed_in answer))) (bare_commits owner t (done_in answer)) ∙ ap (λ os. undone_at owner (done_in answer) ++ os) (bare_faults owner (failed_in answer))

  abbrev write_shape : Option Stance → List Numbered
  write_shape None = whole_shape
  write_shape (Some s) = []

  abbrev commit_shape : Option Stance → List Numbered
  commit_shape None = []
  commit_shape (Some s) = whole_shape

  -- the outline of what a line states that opens nothing
  abbrev shape_by : Line → Option Stance → List Numbered
  shape_by (refused error) s = []
  shape_by (opening name leaves build) s = []
  shape_by (viewing name of changes) s = []
  shape_by (joining name of join changes) s = []
  shape_by (reading name changes down) s = faults_at owner (failed_in answer)
  shape_by (writing name changes values) s = write_shape s
  shape_by (beginning mode) s = []
  shape_by committing s = commit_shape s
  shape_by aborting s = []
  shape_by (resizing name shape) s = []
  shape_by (resolving name) s = []

  abbrev Shapes : History → List Numbered → Act → Type 0
  Shapes h shape act = map bare (stated_by h owner line act answer) ≡ shape

  asked_shape : (h : History) (shape : List Numbered) (a : Asked) (m : ℕ) → IsAskedBy (Shapes h shape) a → IsIn m (own.numbers_of (stated_asked h owner line a answer)) → map bare (stated_asked h owner line a answer) ≡ shape
  asked_shape h shape (Ok act) m is there = is
  asked_shape h shape (Err refusal) m is there = absurd there

  shaped_meet : (h k : History) (m : ℕ) (shape : List Numbered) (a b : Asked) → IsAskedBy (Shapes h shape) a → IsAskedBy (Shapes k shape) b → AreEvents h (stated_asked h owner line a answer) → AreEvents k (stated_asked k owner line b answer)
      → IsIn m (own.numbers_of (stated_asked h owner line a answer)) → IsIn m (own.numbers_of (stated_asked k owner line b answer)) → Meet h k m
  shaped_meet h k m shape a b is are ones others there here = meet_among h k _ _ m ones others (asked_shape h shape a m is there ∙ sym (asked_shape k shape b m are here)) there

  module _ (h : History) (names : Names) (t : Option Transaction) where
    write_shaped : (v : View) (words : List ℕ) (u : Option Transaction) → Shapes h (write_shape (stance_of u)) (write_act u v words)
    write_shaped v words None = committed_shape (write_alone line v words)
    write_shaped v words (Some u) = refl

    commit_shaped : (u : Option Transaction) → IsAskedBy (Shapes h (commit_shape (stance_of u))) (act_of names u committing)
    commit_shaped None = tt
    commit_shaped (Some u) = committed_shape u

    begin_shaped : (mode : Mode) (u : Option Transaction) → IsAskedBy (Shapes h []) (act_of names u (beginning mode))
    begin_shaped mode None = refl
    begin_shaped mode (Some u) = tt

    abort_shaped : (u : Option Transaction) → IsAskedBy (Shapes h []) (act_of names u aborting)
    abort_shaped None = tt
    abort_shaped (Some u) = refl

    outside_shaped : (u : Option Transaction) (a : Asked) → IsAskedBy (Shapes h []) a → IsAskedBy (Shapes h []) (outside u a)
    outside_shaped None a is = is
    outside_shaped (Some u) a is = tt

    stored_shaped : (array : Reference) (shape : List ℕ) → IsAskedBy (Shapes h []) (on_stored array shape)
    stored_shaped array shape = cond_by (Shapes h []) array.local _ _ tt (cond_by (Shapes h []) (length shape == length array.shape) _ _ refl tt)

    shaped : (asked : Line) → (isnt : (name : Text) (leaves : List SpecLeaf) (build : Build) → asked ≡ opening name leaves build → ⊥) → IsAskedBy (Shapes h (shape_by asked (stance_of t))) (act_of names t asked)
    shaped (refused error) isnt = tt
    shaped (opening name leaves build) isnt = absurd (isnt name leaves build refl)
    shaped (viewing name of changes) isnt = named_by (Shapes h []) of (names of) _ (λ v there. changes_by (Shapes h []) (changed (Ok v) changes) _ (λ made of_these. refl))
    shaped (joining name of join changes) isnt =
        all_named_by (Shapes h []) (λ v. Unit {0}) names (λ name v there. tt) of _ (λ views all. join_by (Shapes h []) (join views) _ (λ v joined. changes_by (Shapes h []) (changed (Ok v) changes) _ (λ made of_these. refl)))
    shaped (reading name changes down) isnt =
        let P = Shapes h (faults_at owner (failed_in answer)) in
        named_by P name (names name) _
        (λ v there. changes_by P (changed (Ok v) changes) (read_of down)
        (λ w of_these. factors_by P down w _ (without_by P (view_fault w) _ (λ fits. without_by P (cell_fault w) (Ok (reads w down)) (λ found. bare_faults owner (failed_in answer))))))
    shaped (writing name changes values) isnt =
        let P = Shapes h (write_shape (stance_of t)) in
        named_by P name (names name) _
        (λ v there. changes_by P (changed (Ok v) changes) (write_of t values)
        (λ w of_these. without_by P (view_fault w) _ (λ fits. values_by P (values (look_of w).dtype (shape_of w)) _ (λ words given. without_by P (cell_fault w) (Ok (write_act t w words)) (λ found. write_shaped w words t)))))
    shaped (beginning mode) isnt = begin_shaped mode t
    shaped committing isnt = commit_shaped t
    shaped aborting isnt = abort_shaped t
    shaped (resizing name shape) isnt = outside_shaped t _ (named_by (Shapes h []) name (names name) _ (λ v there. leaf_by (Shapes h []) (array_of v) _ (λ array of_it. stored_shaped array shape)))
    shaped (resolving name) isnt = outside_shaped t _ (named_by (Shapes h []) name (names name) _ (λ v there. leaf_by (Shapes h []) (array_of v) _ (λ array of_it. refl)))

module _ (h k : History) (m : ℕ) (outlined : (q : ℕ) → q ≤ m - 1 → AreOutlined h k q) where
  abbrev Stated : History → ℕ → ℕ → Asked → Data → List Numbered
  Stated history owner line asked answer = stated_asked history owner line asked answer

  -- an open line, where neither session stands in a transaction
  open_meet : (owner line : ℕ) (answer : Data) (name : Text) (leaves : List SpecLeaf) (build : Build) → AreRising (numbers_in answer)
      → AreEvents h (Stated h owner line (Ok (opens name leaves build)) answer) → AreEvents k (Stated k owner line (Ok (opens name leaves build)) answer)
      → IsIn m (own.numbers_of (Stated h owner line (Ok (opens name leaves build)) answer)) → Meet h k m
  open_meet owner line answer name leaves build rising is are there =
      let os = filter_map (opening_of h owner) (takings h leaves (opened_in answer)) in
      let ps = filter_map (opening_of k owner) (takings k leaves (opened_in answer)) in
      let fs = faults_at owner (failed_in answer) in
      let parts : own.numbers_of (os ++ fs) ≡ own.numbers_of os ++ own.numbers_of fs = map-append (λ (o : Numbered). o.number) os fs in
      elim (in_either (own.numbers_of os) (own.numbers_of fs) m (subst (IsIn m) parts there)) [
        | inl front ↦ openings_meet h k m outlined owner leaves (opened_in answer) (rising_front (opened_in answer) _ rising) (events_front h os fs is) (events_front k ps fs are) front
        | inr back ↦ meet_among h k fs fs m (events_back h os fs is) (events_back k ps fs are) refl back
      ]

  opens_meet : (owner line : ℕ) (answer : Data) (name : Text) (leaves : List SpecLeaf) (build : Build) (t u : Option Transaction) → stance_of t ≡ stance_of u → AreRising (numbers_in answer)
      → AreEvents h (Stated h owner line (outside t (Ok (opens name leaves build))) answer) → AreEvents k (Stated k owner line (outside u (Ok (opens name leaves build))) answer)
      → IsIn m (own.numbers_of (Stated h owner line (outside t (Ok (opens name leaves build))) answer)) → Meet h k m
  opens_meet owner line answer name leaves build None None same rising is are there = open_meet owner line answer name leaves build rising is are there
  opens_meet owner line answer name leaves build None (Some u) same rising is are there = absurd (cc)
  opens_meet owner line answer name leaves build (Some t) u same rising is are there = absurd there

  is_opening_line : (asked : Line) → Bool
  is_opening_line (opening name leaves build) = true
  is_opening_line other = false

  line_meet : (owner line : ℕ) (answer : Data) (asked : Line) (names others : Names) (t u : Option Transaction) → stance_of t ≡ stance_of u → AreRising (numbers_in answer)
      → AreEvents h (Stated h owner line (act_of names t asked) answer) → AreEvents k (Stated k owner line (act_of others u asked) answer)
      → IsIn m (own.numbers_of (Stated h owner line (act_of names t asked) answer)) → IsIn m (own.numbers_of (Stated k owner line (act_of others u asked) answer)) → Meet h k m
  line_meet owner line answer (opening name leaves build) names others t u same rising is are there here = opens_meet owner line answer name leaves build t u same rising is are there
  line_meet owner line answer (refused error) names others t u same rising is are there here = absurd there
  line_meet owner line answer (viewing name of changes) names others t u same rising is are there here =
      let asked = viewing name of changes in
      shaped_meet owner line answer h k m [] _ _ (shaped owner line answer h names t asked (λ a b c e. absurd (cc))) (shaped owner line answer k others u asked (λ a b c e. absurd (cc))) is are there here
  line_meet owner line answer (joining name of join changes) names others t u same rising is are there here =
      let asked = joining name of join changes in
      shaped_meet owner line answer h k m [] _ _ (shaped owner line answer h names t asked (λ a b c e. absurd (cc))) (shaped owner line answer k others u asked (λ a b c e. absurd (cc))) is are there here
  line_meet owner line answer (reading name changes down) names others t u same rising is are there here =
      let asked = reading name changes down in
      shaped_meet owner line answer h k m (faults_at owner (failed_in answer)) _ _ (shaped owner line answer h names t asked (λ a b c e. absurd (cc))) (shaped owner line answer k others u asked (λ a b c e. absurd (cc))) is are there here
  line_meet owner line answer (writing name changes values) names others t u same rising is are there here =
      let asked = writing name changes values in
      shaped_meet owner line answer h k m (write_shape owner line answer (stance_of t)) _ _ (shaped owner line answer h names t asked (λ a b c e. absurd (cc)))
      (subst (λ s. IsAskedBy (Shapes owner line answer k (write_shape owner line answer s)) (act_of others u asked)) (sym same) (shaped owner line answer k others u asked (λ a b c e. absurd (cc)))) is are there here
  line_meet owner line answer (beginning mode) names others t u same rising is are there here =
      let asked = beginning mode in
      shaped_meet owner line answer h k m [] _ _ (shaped owner line answer h names t asked (λ a b c e. absurd (cc))) (shaped owner line answer k others u asked (λ a b c e. absurd (cc))) is are there here
  line_meet owner line answer committing names others t u same rising is are there here =
      shaped_meet owner line answer h k m (commit_shape owner line answer (stance_of t)) _ _ (shaped owner line answer h names t committing (λ a b c e. absurd (cc)))
      (subst (λ s. IsAskedBy (Shapes owner line answer k (commit_shape owner line answer s)) (act_of others u committing)) (sym same) (shaped owner line answer k others u committing (λ a b c e. absurd (cc)))) is are there here
  line_meet owner line answer aborting names others t u same rising is are there here =
      shaped_meet owner line answer h k m [] _ _ (shaped owner line answer h names t aborting (λ a b c e. absurd (cc))) (shaped owner line answer k others u aborting (λ a b c e. absurd (cc))) is are there here
  line_meet owner line answer (resizing name shape) names others t u same rising is are there here =
      let asked = resizing name shape in
      shaped_meet owner line answer h k m [] _ _ (shaped owner line answer h names t asked (λ a b c e. absurd (cc))) (shaped owner line answer k others u asked (λ a b c e. absurd (cc))) is are there here
  line_meet owner line answer (resolving name) names others t u same rising is are there here =
      let asked = resolving name in
      shaped_meet owner line answer h k m [] _ _ (shaped owner line answer h names t asked (λ a b c e. absurd (cc))) (shaped owner line answer k others u asked (λ a b c e. absurd (cc))) is are there here

  -- a number that a session prints
  session_meet : (told : List Told) (s u : Standing) → stance_of s.transaction ≡ stance_of u.transaction → AreStated h s told → AreStated k u told → AreRising (numbers_of told) → IsIn m (numbers_of told) → Meet h k m
  session_meet [] s u same is are rising there = absurd there
  session_meet (t ∷ told) s u same is are rising there =
      elim (in_either (numbers_in t.answer) (numbers_of told) m there) [
        | inl here ↦ line_meet t.session t.number t.answer t.asked s.names u.names s.transaction u.transaction same (rising_front (numbers_in t.answer) (numbers_of told) rising) is.0.events are.0.events
            (subst (IsIn m) (sym is.0.numbers) here) (subst (IsIn m) (sym are.0.numbers) here)
        | inr later ↦ session_meet told (standing_step h s t) (standing_step k u t)
            (step_stance h s t.number t.answer t.asked ∙ ap (stance_by t.number t.answer t.asked) same ∙ sym (step_stance k u t.number t.answer t.asked))
            is.1 are.1 (rising_back (numbers_in t.answer) (numbers_of told) rising) later
      ]

-- a number that is printed is one that some session prints
same_is : (n : ℕ) → (n == n) ≡ true
same_is n = grind arith

kept_in : (b : Bool) (t : Told) (ts : List Told) (m : ℕ) → IsIn m (numbers_of ts) → IsIn m (numbers_of (cond b (t ∷ ts) ts))
kept_in true t ts m is = in_back (numbers_in t.answer) (numbers_of ts) m is
kept_in false t ts m is = is

first_in : (b : Bool) (t : Told) (ts : List Told) (m : ℕ) → b ≡ true → IsIn m (numbers_in t.answer) → IsIn m (numbers_of (cond b (t ∷ ts) ts))
first_in true t ts m is there = in_front (numbers_in t.answer) (numbers_of ts) m there
first_in false t ts m is there = absurd (cc)

pub session_of : (told : List Told) (m : ℕ) → IsIn m (numbers_of told) → (p : ℕ) × IsIn m (numbers_of (told_of p told))
session_of [] m is = absurd is
session_of (t ∷ told) m is =
    elim (in_either (numbers_in t.answer) (numbers_of told) m is) [
      | inl here ↦ (t.session, first_in (t.session == t.session) t (told_of t.session told) m (same_is t.session) here)
      | inr later ↦ let found = session_of told m later in (found.0, kept_in (t.session == found.0) t (told_of found.0 told) m found.1)
    ]

-- the events up to a number, and the one before it
pub grows : (h : History) (n : ℕ) (e : Event) → IsEvent h (n + 1) e → take (n + 1) h ≡ take n h ++ e ∷ []
grows h n e is =
    let numbered = is.numbered in
    let size : n ≡ length is.before = omega (arith, numbered) in
    let more : n + 1 ≡ length (is.before ++ e ∷ []) = numbered ∙ sym (length-append is.before (e ∷ [])) in
    let front : take n h ≡ is.before = ap (λ j. take j h) size ∙ ap (take (length is.before)) is.parts ∙ take-append_seam is.before (e ∷ is.later) in
    let longer : take (n + 1) h ≡ is.before ++ e ∷ [] =
    ap (λ j. take j h) more ∙ ap (take (length (is.before ++ e ∷ []))) (is.parts ∙ sym (append_assoc is.before (e ∷ []) is.later)) ∙ take-append_seam (is.before ++ e ∷ []) is.later in
    longer ∙ ap (λ xs. xs ++ e ∷ []) (sym front)

module _ (told : List Told) (h k : History) (numbered : AreNumbered told) (is : IsStatedHistory told h) (are : IsStatedHistory told k) where
  abbrev total : ℕ
  total = length (numbers_of told)

  shrinks : (n q : ℕ) → q ≤ n → AreOutlined h k n → AreOutlined h k q
  shrinks n q low same =
      ap outline (sym (take-take q n h low)) ∙ sym (take-map outlined_event q (take n h)) ∙ ap (take q) same ∙ take-map outlined_event q (take n k) ∙ ap outline (take-take q n k low)

  met : (n : ℕ) → n < total → AreOutlined h k n → Meet h k (n + 1)
  met n low same =
      let found = session_of told (n + 1) (is_in (numbers_of told) (n + 1) (numbered.each n low)) in
      session_meet h k (n + 1) (λ q below. shrinks n q (omega (arith, below)) same) (told_of found.0 told) first_standing first_standing refl (is.sessions found.0) (are.sessions found.0) (numbered.rising found.0) found.1

  outlined_more : (n : ℕ) → Meet h k (n + 1) → AreOutlined h k n → AreOutlined h k (n + 1)
  outlined_more n m same =
      ap outline (grows h n m.one m.in_one) ∙ outline-more (take n h) m.one ∙ ap (λ o. o ++ outlined_event m.one ∷ []) same ∙ ap (λ e. outline (take n k) ++ e ∷ []) m.same
      ∙ sym (outline-more (take n k) m.other) ∙ ap outline (sym (grows k n m.other m.in_other))

  all_outlined : (n : ℕ) → n ≤ total → AreOutlined h k n
  all_outlined zero low = refl
  all_outlined (suc n) low =
      let same = all_outlined n (omega (arith, low)) in
      let next : n + 1 ≡ suc n = omega arith in
      subst (AreOutlined h k) next (outlined_more n (met n (omega (arith, low)) same) same)

  whole_h : take total h ≡ h
  whole_h = let count = is.count in take_all total h (omega (arith, count))

  whole_k : take total k ≡ k
  whole_k = let count = are.count in take_all total k (omega (arith, count))

  -- the same arrays, so the same names, the same operations and the same events
  one_outline : outline h ≡ outline k
  one_outline = ap outline (sym whole_h) ∙ all_outlined total (omega arith) ∙ ap outline whole_k

  abbrev Both : ℕ → Type 0
  Both m = (e : Event) × IsEvent h m e × IsEvent k m e

  both_among : (os : List Numbered) (m : ℕ) → AreEvents h os → AreEvents k os → IsIn m (own.numbers_of os) → Both m
  both_among [] m ones others there = absurd there
  both_among (o ∷ os) m ones others (inl at) = (o.event, subst (λ n. IsEvent h n o.event) at ones.0, subst (λ n. IsEvent k n o.event) at others.0)
  both_among (o ∷ os) m ones others (inr later) = both_among os m ones.1 others.1 later

  session_both : (ts : List Told) (s : Standing) (m : ℕ) → AreStated h s ts → AreStated k s ts → IsIn m (numbers_of ts) → Both m
  session_both [] s m ones others there = absurd there
  session_both (t ∷ ts) s m ones others there =
      elim (in_either (numbers_in t.answer) (numbers_of ts) m there) [
        | inl here ↦ both_among (stated h s t) m ones.0.events (subst (AreEvents k) (sym (stated_same h k one_outline s t)) others.0.events) (subst (IsIn m) (sym ones.0.numbers) here)
        | inr later ↦ session_both ts (standing_step h s t) m ones.1 (subst (λ (u : Standing). AreStated k u ts) (sym (step_same h k one_outline s t)) others.1) later
      ]

  both_at : (n : ℕ) → n < total → Both (n + 1)
  both_at n low =
      let found = session_of told (n + 1) (is_in (numbers_of told) (n + 1) (numbered.each n low)) in
      session_both (told_of found.0 told) first_standing (n + 1) (is.sessions found.0) (are.sessions found.0) found.1

  all_same : (n : ℕ) → n ≤ total → take n h ≡ take n k
  all_same zero low = refl
  all_same (suc n) low =
      let same = all_same n (omega (arith, low)) in
      let next : n + 1 ≡ suc n = omega arith in
      let both = both_at n (omega (arith, low)) in
      subst (λ j. take j h ≡ take j k) next (grows h n both.0 both.1 ∙ ap (λ xs. xs ++ both.0 ∷ []) same ∙ sym (grows k n both.0 both.2))

  -- one history at most is stated
  pub stated_is_one : h ≡ k
  stated_is_one = sym whole_h ∙ all_same total (omega arith) ∙ whole_k

stated_of : (told : List Told) (h : History) → IsClaimed told h → IsStatedHistory told h
stated_of told h is = record { sessions = is.sessions; count = is.count }

-- so one at most is claimed
pub history_is_one : (told : List Told) (h k : History) → AreNumbered told → IsClaimed told h → IsClaimed told k → h ≡ k
history_is_one told h k numbered is are = stated_is_one told h k numbered (stated_of told h is) (stated_of told k are)
