-- A session whose lines fit is sound by the events up to where its windows end.
use Rattle.std.proofs.Common.{◌≡◌, ◌∙◌, ◌<◌, ◌≤◌, ◌+◌, ◌-◌, ℕ, zero, suc, List, [], ◌∷◌, ◌++◌, Bool, true, false, cond, map, take, drop, length, Option, Some, None, Result, Ok, Err, refl, sym, ap, subst, arith, take-append-drop}
use Rattle.std.specs.Prelude.{codes, option_map, option_and_then, filter_map}
use Rattle.std.specs.List.{AllByRecursion, cons_option}
use Rattle.std.specs.FinMap as finmap
use Rattle.history.specs.declared.array.ArrayInfo.{ArrayInfo}
use Rattle.history.specs.declared.event.Op.{Op}
use Rattle.history.specs.declared.event.Op.TheVariants.{Write}
use Rattle.history.specs.Acts.{Act, Asked, opens, binds, reads, stages, writes, begins, commits, aborts, resizes, resolves}
use Rattle.history.specs.Answers as body
use Rattle.history.specs.Answers.{Text, Body, BuildCause}
use Rattle.meta_forms.specs.declared.error.MetaError.{MetaError}
use Rattle.meta_forms.specs.declared.error.MetaError.TheVariants.{NotJson, BadMember, Unsupported, Memory}
use Rattle.history.specs.Commit.{Transaction}
use Rattle.history.specs.History.{History}
use Rattle.history.specs.Legal.{IsLegal, viewed}
use Rattle.history.specs.Leaves.{Leaf, location_of_leaf}
use Rattle.history.specs.Bound.{IsBuildWithin}
use Rattle.history.specs.OpenRows.{next_array}
use Rattle.history.specs.Lines.{SpecLeaf, given, stored, Build}
use Rattle.history.specs.Arrays.{ref_of, Known}
use Rattle.history.specs.Own.{Numbered, opened_event}
use Rattle.history.specs.Places.{array_at}
use Rattle.history.specs.Refs.{IsKnownRef}
use Rattle.history.proofs.Asking.{IsAskedBy}
use Rattle.history.proofs.KnownViews.{view_later}
use Rattle.history.proofs.Laws.{legal_take, some_inj, none_is_none}
use Rattle.history.proofs.Transactions.{all_with}
use Rattle.serde_json.specs.Data.{Data}
use Rattle.serde_json.specs.Find.{get}
use Rattle.stack_driver.specs.References.{Reference}
use Rattle.stack_driver.specs.Views.{targets_of}
use Rattle.stack_driver.specs.declared.view.View.{View}
use Rattle.history.specs.OpenRows.{IsRefusal}
use Rattle.history.specs.Outcomes as outcomes
use Rattle.open_fits.specs.Answers.{answer_data}
use Rattle.open_fits.specs.Fits.{IsAnsweredBy}
use Rattle.open_fits.specs.Fitting as fitting
use Rattle.open_fits.specs.Fitting.{IsActAnswer, printed_at}
use Rattle.open_fits.specs.ToldNumbers.{opened_in, done_in, failed_in, damaged_in}
use Rattle.stated_history.specs.Outline.{outline}
use Rattle.stated_history.specs.StatedEvents.{IsEvent}
use Rattle.stated_history.specs.Takings.{Taking, taking, takings, before, opened_info, ref_of_leaf, all_refs, built_view, opened_view, was_opened}
use Rattle.stated_history.specs.ToldStandings.{Standing, names_opened, standing_by, standing_asked}
use Rattle.stated_history.proofs.Laws.{AreSoundOps, IsSoundStanding, IsSoundAct, read_sound, left_sound, found_of, IsViewOf, AreViewsOf, new_known, lies_known, built_known, view_present, bound_views, opened_names, IsBuilding, AreUnresized, unresized_front, outline_legal}
use Rattle.stated_history.specs.StatedCommits.{IsSoundOp}
use Rattle.history.specs.Outcomes.{IsOutcome, there}
use Rattle.open_fits.specs.Opening as opening
use Rattle.open_fits.specs.Opening.{IsSettledLeaf, AreSettled, IsOpenAnswer}
use Rattle.open_fits.specs.Windows.{Window}
use Rattle.open_fits.proofs.Laws.{stays, there_at}
use Rattle.stated_history.specs.Claimed.{opening_of, at_number}

-- the items behind the first ones of a list, and one more
take_past : {A : Type 0} (xs ys : List A) (y : A) (n : ℕ) → length xs < n → take n (xs ++ y ∷ ys) ≡ xs ++ y ∷ take (n - (length xs + 1)) ys
take_past [] ys y zero low = absurd (omega (arith, low))
take_past [] ys y (suc n) low = let same : n ≡ suc n - (0 + 1) = omega arith in ap (λ m. y ∷ take m ys) same
take_past (x ∷ xs) ys y zero low = absurd (omega (arith, low))
take_past (x ∷ xs) ys y (suc n) low =
    let same : n - (length xs + 1) ≡ suc n - (suc (length xs) + 1) = omega arith in
    ap (λ zs. x ∷ zs) (take_past xs ys y n (omega (arith, low)) ∙ ap (λ m. xs ++ y ∷ take m ys) same)

-- a leaf's number, if it takes one, is so
abbrev IsNumberedSo : (ℕ → Type 0) → Taking → Type 0
IsNumberedSo P t = (n : ℕ) → t.number ≡ Some n → P n

-- what leaves take are numbers of the line
takings_among : (h : History) (P : ℕ → Type 0) (leaves : List SpecLeaf) (numbers : List ℕ) → AllByRecursion P numbers → AllByRecursion (IsNumberedSo P) (takings h leaves numbers)
takings_among h P [] numbers all = tt
takings_among h P (leaf ∷ leaves) [] all = (λ n is. absurd (none_is_none n is), takings_among h P leaves [] all)
takings_among h P (given cells ∷ leaves) (m ∷ numbers) all = (λ n is. subst P (some_inj m n is) all.0, takings_among h P leaves numbers all.1)
takings_among h P (stored node leaf ∷ leaves) (m ∷ numbers) all = by (was_opened h m leaf) (takings_among h P leaves (m ∷ numbers) all) (takings_among h P leaves numbers all.1)
  where
    by : (b : Bool) → AllByRecursion (IsNumberedSo P) (takings h leaves (m ∷ numbers)) → AllByRecursion (IsNumberedSo P) (takings h leaves numbers)
        → AllByRecursion (IsNumberedSo P) (cond b (taking (stored node leaf) None ∷ takings h leaves (m ∷ numbers)) (taking (stored node leaf) (Some m) ∷ takings h leaves numbers))
    by true one two = (λ n is. absurd (none_is_none n is), one)
    by false one two = (λ n is. subst P (some_inj m n is) all.0, two)

module _ (h : History) (legal : IsLegal finmap.empty h) (still : AreUnresized h) where
  pub front_legal : (n : ℕ) → IsLegal finmap.empty (outline (take n h))
  front_legal n = outline_legal (take n h) (legal_take finmap.empty h n legal)

  pub front_still : (n : ℕ) → AreUnresized (take n h)
  front_still n = unresized_front (take n h) (drop n h) (subst AreUnresized (sym (take-append-drop n h)) still)

  -- what is sound stays so
  pub op_later : (n m : ℕ) → n ≤ m → (op : Op) → IsSoundOp (take n h) op → IsSoundOp (take m h) op
  op_later n m le op is =
      let refs = view_later h n m le (viewed op) is.refs in
      record {
        view = is.view;
        finite = is.finite;
        few = is.few;
        refs = refs;
        targets = view_present (take m h) (front_legal m) (front_still m) (viewed op) refs (found_of (take n h) (targets_of (viewed op)) is.targets);
        count = is.count;
        words = is.words;
      }

  pub ops_later : (n m : ℕ) → n ≤ m → (ops : List Op) → AllByRecursion (IsSoundOp (take n h)) ops → AllByRecursion (IsSoundOp (take m h)) ops
  ops_later n m le [] all = tt
  ops_later n m le (op ∷ ops) all = (op_later n m le op all.0, ops_later n m le ops all.1)

  staged_later : (n m : ℕ) → n ≤ m → (t : Option Transaction) → AreSoundOps (take n h) t → AreSoundOps (take m h) t
  staged_later n m le None all = tt
  staged_later n m le (Some t) all = ops_later n m le t.ops all

  pub sound_later : (n m : ℕ) → n ≤ m → (s : Standing) → IsSoundStanding (take n h) s → IsSoundStanding (take m h) s
  sound_later n m le s so = record {
    bound = λ name view there. ((so.bound name view there).0, view_later h n m le view (so.bound name view there).1);
    staged = staged_later n m le s.transaction so.staged;
  }

  -- the event of a number stands among those up to a later one
  event_front : (n u : ℕ) (owner : ℕ) (info : ArrayInfo) → n ≤ u → IsEvent h n (opened_event owner info) → IsEvent (take u h) n (opened_event owner info)
  event_front n u owner info low is =
      let count = is.numbered in
      record {
        before = is.before;
        later = take (u - (length is.before + 1)) is.later;
        parts = ap (take u) is.parts ∙ take_past is.before is.later (opened_event owner info) u (omega (arith, low, count));
        numbered = is.numbered;
      }

  -- what an opening is, by the array that a leaf opens
  abbrev opening_by : ℕ → ℕ → Option ArrayInfo → Option Numbered
  opening_by owner n o = option_map (λ (info : ArrayInfo). at_number n (opened_event owner info)) o

  module _ (owner : ℕ) (w : Window) where
    -- the event that a leaf states is one of the history
    abbrev IsEventIn : Option Numbered → Type 0
    IsEventIn None = Unit {0}
    IsEventIn (Some o) = IsEvent h o.number o.event

    abbrev AreEventsIn : List Taking → Type 0
    AreEventsIn ts = AllByRecursion (λ (t : Taking). IsEventIn (opening_of h owner t)) ts

    pub events_in : (ts : List Taking) → AllByRecursion (λ (o : Numbered). IsEvent h o.number o.event) (filter_map (opening_of h owner) ts) → AreEventsIn ts
    events_in [] are = tt
    events_in (t ∷ ts) are = by (opening_of h owner t) refl (events_in ts) are
      where
        by : (o : Option Numbered) → opening_of h owner t ≡ o → (AllByRecursion (λ (p : Numbered). IsEvent h p.number p.event) (filter_map (opening_of h owner) ts) → AreEventsIn ts)
            → AllByRecursion (λ (p : Numbered). IsEvent h p.number p.event) (cons_option o (filter_map (opening_of h owner) ts)) → IsEventIn (opening_of h owner t) × AreEventsIn ts
        by None is rest all = (subst IsEventIn (sym is) tt, rest all)
        by (Some o) is rest all = (subst IsEventIn (sym is) all.0, rest all.1)

    -- the array of a leaf is among those of the first events, up to the window's end
    abbrev IsThereBy : Taking → Type 0
    IsThereBy t = (ref : Reference) → ref_of_leaf h t ≡ Some ref → IsKnownRef (take w.upto h) ref

    new_there : (leaf : SpecLeaf) (n : ℕ) (o : Option ArrayInfo) → n ≤ w.upto → IsEventIn (opening_by owner n o)
        → (ref : Reference) → option_map ref_of (option_map (λ (info : ArrayInfo). record { info = info; opened = n; shape = info.shape }) o) ≡ Some ref → IsKnownRef (take w.upto h) ref
    new_there leaf n None low event ref is = absurd (none_is_none ref is)
    new_there leaf n (Some info) low event ref is =
        subst (IsKnownRef (take w.upto h)) (some_inj _ ref is) (new_known (take w.upto h) owner n info (event_front n w.upto owner info low event))

    found_there : (node : Text) (leaf : Leaf) (o : Option Known) → array_at h (location_of_leaf leaf) ≡ o → IsSettledLeaf h w (stored node leaf) None → (ref : Reference) → option_map ref_of o ≡ Some ref → IsKnownRef (take w.upto h) ref
    found_there node leaf o at settled ref is =
        let early = there_at (take w.upto h) leaf settled.0 settled.1 in
        let late : array_at h (location_of_leaf leaf) ≡ Some settled.0 = stays (location_of_leaf leaf) finmap.empty h w.upto settled.0 legal still early in
        let same : ref_of settled.0 ≡ ref = some_inj (ref_of settled.0) ref (ap (option_map ref_of) (sym late ∙ at) ∙ is) in
        subst (IsKnownRef (take w.upto h)) same (lies_known (take w.upto h) (front_legal w.upto) (location_of_leaf leaf) settled.0 early)

    leaf_there : (leaf : SpecLeaf) (number : Option ℕ) → ((n : ℕ) → number ≡ Some n → n ≤ w.upto) → IsSettledLeaf h w leaf number → IsEventIn (opening_of h owner (taking leaf number)) → IsThereBy (taking leaf number)
    leaf_there (given cells) None low settled event = absurd settled
    leaf_there (stored node leaf) None low settled event = found_there node leaf (array_at h (location_of_leaf leaf)) refl settled
    leaf_there leaf (Some n) low settled event = new_there leaf n (opened_info (next_array (before h n)) leaf) (low n refl) event

    pub taken_there : (ts : List Taking) → AllByRecursion (λ (t : Taking). (n : ℕ) → t.number ≡ Some n → n ≤ w.upto) ts → AreSettled h w ts → AreEventsIn ts → AllByRecursion IsThereBy ts
    taken_there [] low settled events = tt
    taken_there (t ∷ ts) low settled events = (leaf_there t.leaf t.number low.0 settled.0 events.0, taken_there ts low.1 settled.1 events.1)

    refs_there : (ts : List Taking) (refs : List Reference) → AllByRecursion IsThereBy ts → all_refs (map (ref_of_leaf h) ts) ≡ Some refs → AllByRecursion (IsKnownRef (take w.upto h)) refs
    refs_there [] refs all is = subst (AllByRecursion (IsKnownRef (take w.upto h))) (some_inj [] refs is) tt
    refs_there (t ∷ ts) refs all is = by (ref_of_leaf h t) refl (all_refs (map (ref_of_leaf h) ts)) refl (λ rs more. refs_there ts rs all.1 more) is
      where
        by : (o : Option Reference) → ref_of_leaf h t ≡ o → (rest : Option (List Reference)) → all_refs (map (ref_of_leaf h) ts) ≡ rest
            → ((rs : List Reference) → all_refs (map (ref_of_leaf h) ts) ≡ Some rs → AllByRecursion (IsKnownRef (take w.upto h)) rs) → all_refs (o ∷ map (ref_of_leaf h) ts) ≡ Some refs → AllByRecursion (IsKnownRef (take w.upto h)) refs
        by None one rest more each told = absurd (none_is_none refs told)
        by (Some ref) one None more each told = absurd (none_is_none refs (sym (ap (option_map (λ rs. ref ∷ rs)) more) ∙ told))
        by (Some ref) one (Some rest) more each told =
            let same : ref ∷ rest ≡ refs = some_inj (ref ∷ rest) refs (sym (ap (option_map (λ rs. ref ∷ rs)) more) ∙ told) in
            subst (AllByRecursion (IsKnownRef (take w.upto h))) same (all.0 ref one, each rest more)

    -- so is the view that is built over them
    pub view_there : (ts : List Taking) (refs : List Reference) (build : Build) (view : View) → IsBuilding build → IsBuildWithin build → AllByRecursion IsThereBy ts → all_refs (map (ref_of_leaf h) ts) ≡ Some refs → build refs ≡ Ok view → IsViewOf (take w.upto h) view
    view_there ts refs build view rules within all arrays made =
        built_known (take w.upto h) (front_legal w.upto) build rules within view refs (Ok view) (refs_there ts refs all arrays) made refl

    module _ (line : ℕ) (d : Data) where
      meta_lacks : (key : List ℕ) (why : MetaError) (numbers : List ℕ) → get (codes "open") (answer_data (printed_at line (body.bad_metadata key why numbers))) ≡ None
      meta_lacks key NotJson numbers = refl
      meta_lacks key (BadMember name) numbers = refl
      meta_lacks key (Unsupported name) numbers = refl
      meta_lacks key Memory numbers = refl

      -- no answer that refuses a leaf says that a view was opened
      refusal_lacks : (node : Text) (leaf : Leaf) (at : ℕ) (numbers : List ℕ) (outcome : outcomes.Outcome) (answer : Body) → IsRefusal node leaf at numbers outcome answer → get (codes "open") (answer_data (printed_at line answer)) ≡ None
      refusal_lacks node leaf at numbers (outcomes.path_taken other) answer is = ap (λ a. get (codes "open") (answer_data (printed_at line a))) is
      refusal_lacks node leaf at numbers (outcomes.bad_metadata bytes) answer is = ap (λ a. get (codes "open") (answer_data (printed_at line a))) is.2 ∙ meta_lacks _ is.0 numbers
      refusal_lacks node leaf at numbers outcomes.exists answer is = ap (λ a. get (codes "open") (answer_data (printed_at line a))) is
      refusal_lacks node leaf at numbers (outcomes.mismatch member) answer is = ap (λ a. get (codes "open") (answer_data (printed_at line a))) is
      refusal_lacks node leaf at numbers (outcomes.there k) answer is = absurd is
      refusal_lacks node leaf at numbers (outcomes.found meta) answer is = absurd is
      refusal_lacks node leaf at numbers outcomes.not_found answer is = ap (λ a. get (codes "open") (answer_data (printed_at line a))) is
      refusal_lacks node leaf at numbers (outcomes.bad_want member) answer is = ap (λ a. get (codes "open") (answer_data (printed_at line a))) is
      refusal_lacks node leaf at numbers (outcomes.made meta) answer is = absurd is

      -- a view that an open line binds is of arrays that are there when its window ends
      abbrev pub OpensThere : List Taking → Build → Type 0
      OpensThere ts build = (said : Data) → get (codes "open") d ≡ Some said → (view : View) → opened_view h ts build ≡ Some view → IsViewOf (take w.upto h) view

      module _ (ts : List Taking) (build : Build) (rules : IsBuilding build) (within : IsBuildWithin build) (low : AllByRecursion (λ (t : Taking). (n : ℕ) → t.number ≡ Some n → n ≤ w.upto) ts) (events : AreEventsIn ts) where
        built_is : (refs : List Reference) (r : Result View (Text × BuildCause)) → all_refs (map (ref_of_leaf h) ts) ≡ Some refs → build refs ≡ r → opened_view h ts build ≡ built_view r
        built_is refs r arrays made = ap (option_and_then (λ rs. built_view (build rs))) arrays ∙ ap built_view made

        lacks : (answer : Body) (said : Data) → d ≡ answer_data (printed_at line answer) → get (codes "open") (answer_data (printed_at line answer)) ≡ None → get (codes "open") d ≡ Some said → ⊥
        lacks answer said object none is = none_is_none said (sym none ∙ ap (get (codes "open")) (sym object) ∙ is)

        open_cases : (name : Text) (numbers : List ℕ) (answer : Body) → IsOpenAnswer h w name ts build numbers answer → d ≡ answer_data (printed_at line answer) → OpensThere ts build
        open_cases name numbers answer (opening.opened all made) object said is view opened =
            let same = some_inj _ view (sym (built_is _ _ all.arrays made) ∙ opened) in
            subst (IsViewOf (take w.upto h)) same (view_there ts _ build _ rules within (taken_there ts low all.settled events) all.arrays made)
        open_cases name numbers answer (opening.unbuilt all made) object said is view opened = absurd (none_is_none view (sym (built_is _ _ all.arrays made) ∙ opened))
        open_cases name numbers answer (opening.refused {node} {leaf} stopped refused) object said is view opened =
            absurd (lacks answer said object (refusal_lacks node leaf refused.at numbers refused.outcome answer refused.answered) is)
        open_cases name numbers answer (opening.failed n stopped leaf) object said is view opened = absurd (lacks answer said object refl is)

      pub opens_there : (t : Option Transaction) (name : Text) (leaves : List SpecLeaf) (build : Build) (text : List ℕ) → IsBuilding build → IsBuildWithin build
          → AllByRecursion (λ n. n ≤ w.upto) (opened_in d) → AreEventsIn (takings h leaves (opened_in d)) → IsAnsweredBy h owner w t line (Ok (opens name leaves build)) text d → OpensThere (takings h leaves (opened_in d)) build
      opens_there t name leaves build text rules within low events by = from by.answer by.may by.object
        where
          from : (answer : Body) → IsActAnswer h owner w t line (opened_in d) (opens name leaves build) answer → d ≡ answer_data (printed_at line answer) → OpensThere (takings h leaves (opened_in d)) build
          from answer (fitting.open_answer is) object =
              open_cases (takings h leaves (opened_in d)) build rules within (takings_among h (λ n. n ≤ w.upto) leaves (opened_in d) low) events name (opened_in d) answer is object

      -- the same of any act
      abbrev pub ActsThere : Act → Type 0
      ActsThere (opens name leaves build) = OpensThere (takings h leaves (opened_in d)) build
      ActsThere (binds name view) = Unit {0}
      ActsThere (reads view down) = Unit {0}
      ActsThere (stages t view words) = Unit {0}
      ActsThere (writes view words) = Unit {0}
      ActsThere (begins mode) = Unit {0}
      ActsThere (commits t) = Unit {0}
      ActsThere aborts = Unit {0}
      ActsThere (resizes array shape) = Unit {0}
      ActsThere (resolves name view array) = Unit {0}

      named_there : (s : Standing) (name : Text) (ts : List Taking) (build : Build) → AreViewsOf (take w.upto h) s.names → OpensThere ts build → AreViewsOf (take w.upto h) (names_opened s.names name (get (codes "open") d) (opened_view h ts build))
      named_there s name ts build bound well = by (get (codes "open") d) refl
        where
          by : (o : Option Data) → get (codes "open") d ≡ o → AreViewsOf (take w.upto h) (names_opened s.names name o (opened_view h ts build))
          by None is = bound
          by (Some said) is = opened_names (take w.upto h) s.names name (Some said) (opened_view h ts build) bound (λ view there. well said is view there)

      -- behind a line the session is sound too
      pub act_steps : (s : Standing) (act : Act) → IsSoundAct (take w.upto h) act → IsSoundStanding (take w.upto h) s → ActsThere act → IsSoundStanding (take w.upto h) (standing_by h s line act d)
      act_steps s (opens name leaves build) sound so well = record { bound = named_there s name (takings h leaves (opened_in d)) build so.bound well; staged = so.staged }
      act_steps s (binds name view) sound so well = record { bound = bound_views (take w.upto h) s.names name view so.bound sound; staged = so.staged }
      act_steps s (reads view down) sound so well = record { bound = so.bound; staged = read_sound (take w.upto h) s.transaction view (get (codes "values") d) sound so.staged }
      act_steps s (stages t view words) sound so well = record { bound = so.bound; staged = all_with (IsSoundOp (take w.upto h)) t.ops (Write view words ∷ []) sound.0 (sound.1, tt) }
      act_steps s (writes view words) sound so well = so
      act_steps s (begins mode) sound so well = record { bound = so.bound; staged = tt }
      act_steps s (commits t) sound so well = record { bound = so.bound; staged = left_sound (take w.upto h) t (done_in d) (failed_in d) (damaged_in d) sound }
      act_steps s aborts sound so well = record { bound = so.bound; staged = tt }
      act_steps s (resizes array shape) sound so well = so
      act_steps s (resolves name view array) sound so well = so

      pub asked_steps : (s : Standing) (asked : Asked) → IsAskedBy (IsSoundAct (take w.upto h)) asked → IsSoundStanding (take w.upto h) s → IsAskedBy ActsThere asked → IsSoundStanding (take w.upto h) (standing_asked h s line asked d)
      asked_steps s (Ok act) sound so well = act_steps s act sound so well
      asked_steps s (Err refusal) sound so well = so
