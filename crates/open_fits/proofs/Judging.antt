-- Whether the answer to an open line fits, by the leaves that were opened and by one moment.
use Rattle.std.proofs.Common.{◌≡◌, ◌≢◌, ℕ, zero, suc, ◌+◌, ◌-◌, ◌<◌, ◌≤◌, inl, inr, List, [], ◌∷◌, ◌++◌, length, map, take, take-take, Bool, true, false, cond, Option, Some, None, Result, Ok, Err, refl, sym, ap, ap₂, subst, ◌∙◌, length-take, arith}
use Rattle.std.specs.Prelude.{is_some, nat_le, unwrap_or}
use Rattle.std.specs.List.{slice_get, take-map}
use Rattle.std.specs.FinMap as finmap
use Rattle.std.proofs.lemmas.Bool.Decides.{nat_tests}
use Rattle.std.proofs.lemmas.List.{length-map}
use Rattle.serde_json.specs.Data.{Data}
use Rattle.json_forms.specs.Bytes.{data_of}
use Rattle.read_fits.specs.Answers.{answer_data}
use Rattle.read_fits.specs.AnswerLines.{IsAnswerText}
use Rattle.stack_driver.specs.References.{Reference}
use Rattle.stack_driver.specs.declared.view.View.{View}
use Rattle.chunk_forms.specs.Wants.{mismatch_of}
use Rattle.history.specs.Acts.{opens}
use Rattle.history.specs.Answers as body
use Rattle.history.specs.Answers.{Body, Text, BuildCause, layers}
use Rattle.history.specs.Arrays.{Known, form_of}
use Rattle.history.specs.Commit.{Transaction}
use Rattle.history.specs.History.{History}
use Rattle.history.specs.Leaves.{Leaf, nothing, location_of_leaf}
use Rattle.history.specs.Lines.{SpecLeaf, given, stored, Build, member_of_node}
use Rattle.history.specs.OpenRows.{IsFailedLeaf, IsRefusal}
use Rattle.history.specs.Outcomes.{Outcome, path_taken, bad_metadata, exists, mismatch, there, found, not_found, bad_want, made, IsOutcome, unless_differs, making_outcome, outcome_at, unless_taken}
use Rattle.history.specs.Places.{array_at, taken}
use Rattle.history.specs.SingleOpen.{outcome_alone}
use Rattle.history.proofs.Known.{some_inj}
use Rattle.history.proofs.Tests.{equal_or_not}
use Rattle.read_fits.specs.Built.{built}
use Rattle.read_fits.specs.declared.OpenPlan.{OpenPlan}
use Rattle.read_fits.specs.Outline.{outline, outlined_event}
use Rattle.read_fits.proofs.Laws.{array_at-outline, length-outline, pairs_of}
use Rattle.read_fits.specs.Fitting.{IsActAnswer, open_answer, printed_at}
use Rattle.read_fits.specs.ToldNumbers.{opened_in, failed_in, single}
use Rattle.read_fits.specs.Opening.{IsStopped, AreAllOpened, IsOpenAnswer, opened, unbuilt, refused, failed}
use Rattle.read_fits.specs.Openings.{leaf_of, leaves_from, leaves_of, by_built, build_of, node_of}
use Rattle.read_fits.specs.Takings.{Taking, taking, takings, was_opened}
use Rattle.read_fits.specs.Windows.{Window}
use Rattle.read_fits.specs.Asked.{leaf_asked, wanted_leaf}
use Rattle.read_fits.specs.Lines.{bare}
use Rattle.read_fits.specs.declared.Wanted.{Wanted}
use Rattle.read_fits.specs.declared.Wanted.TheVariants.{Stored, Given}
use Rattle.read_fits.specs.declared.Openings.{Openings}
use Rattle.read_fits.specs.OpenedViews.{paired}
use Rattle.open_fits.specs.Built.{IsPrintedAs, built_body, IsBuiltAs, IsTakenEnd, IsEndOf, IsInWindow}
use Rattle.read_fits.specs.Fits.{IsAnsweredBy}
use Rattle.open_fits.specs.Moments.{moment_by, told_at}
use Rattle.open_fits.specs.Opens.{leaf_at, leaves_at, window_told, IsOpenLine, IsFront, IsStopAt, IsRefusedFrom, IsRefusedAt}
use Rattle.open_fits.specs.declared.moments.Moment.{Moment}
use Rattle.open_fits.specs.declared.questions.OpenQuestion.{OpenQuestion}
use Rattle.open_fits.specs.declared.questions.OpenTold.{OpenTold}
use Rattle.open_fits.specs.declared.questions.WantedPlan.{WantedPlan}
use Rattle.open_fits.proofs.Fronts.{leaves_wanted, pair_at, of_pair, number_of_pair, pair_of_number, length-paired, length-leaves_at, all_front, front_all, stop_in, stopped_at}
use Rattle.open_fits.proofs.Outcomes.{as_outcome, of_outcome, outcome_by_outline, undetermined_earlier}

-- over a store that starts empty there is no metadata that can't be read
pub never_bad : (h : History) (leaf : Leaf) (bytes : List ℕ) → outcome_alone h leaf ≢ bad_metadata bytes
never_bad h leaf bytes = by (taken h (location_of_leaf leaf)) (array_at h (location_of_leaf leaf))
  where
    making : (r : Result _ (List ℕ)) → making_outcome r ≢ bad_metadata bytes
    making (Ok other) = λ is. absurd (cc)
    making (Err member) = λ is. absurd (cc)

    there_or : (o : Option (List ℕ)) (k : Known) → unless_differs o (there k) ≢ bad_metadata bytes
    there_or None k = λ is. absurd (cc)
    there_or (Some member) k = λ is. absurd (cc)

    either : (b : Bool) (x y : Outcome) → x ≢ bad_metadata bytes → y ≢ bad_metadata bytes → cond b x y ≢ bad_metadata bytes
    either true x y p q = p
    either false x y p q = q

    by : (t : Option (List ℕ)) (o : Option Known) → unless_taken t (outcome_at leaf nothing o) ≢ bad_metadata bytes
    by (Some other) o = λ is. absurd (cc)
    by None None = either leaf.may_create _ not_found (making _) (λ is. absurd (cc))
    by None (Some k) = either leaf.may_open _ exists (there_or (mismatch_of leaf.want (form_of k.info.home) k.shape) k) (λ is. absurd (cc))

-- a text reads as one object
same_bytes : (xs ys : List ℕ) → xs ++ 10 ∷ [] ≡ ys ++ 10 ∷ [] → xs ≡ ys
same_bytes [] [] is = refl
same_bytes [] (y ∷ []) is = absurd (cc)
same_bytes [] (y ∷ z ∷ ys) is = absurd (cc)
same_bytes (x ∷ []) [] is = absurd (cc)
same_bytes (x ∷ z ∷ xs) [] is = absurd (cc)
same_bytes (x ∷ xs) (y ∷ ys) is =
    let first : x ≡ y = cc in
    let rest : xs ++ 10 ∷ [] ≡ ys ++ 10 ∷ [] = cc in
    ap (λ z. z ∷ xs) first ∙ ap (λ zs. y ∷ zs) (same_bytes xs ys rest)

pub one_reading : (n : ℕ) (text : List ℕ) (d e : Data) → IsAnswerText n text d → IsAnswerText n text e → d ≡ e
one_reading n text d e is other =
    let bytes = same_bytes is.bytes other.bytes (sym is.line ∙ other.line) in
    some_inj d e (sym is.object.json ∙ ap data_of bytes ∙ other.object.json)

-- of which moment each answer speaks
no_failure : (o : Option ℕ) → [] ≡ single o → o ≡ None
no_failure None is = refl
no_failure (Some n) is = let no : ⊥ = cc in absurd no

one_failure : (n : ℕ) (o : Option ℕ) → n ∷ [] ≡ single o → o ≡ Some n
one_failure n None is = let no : ⊥ = cc in absurd no
one_failure n (Some m) is = let same : n ≡ m = cc in ap Some (sym same)

module _ (told : OpenTold) (d : Data) (fails : failed_in d ≡ single told.failed) where
  abbrev the_moment : Moment
  the_moment = moment_by (told_at d) told.failed told.from

  at_moment : (n at : ℕ) (b : Body) → d ≡ answer_data (printed_at n b) → told_at (answer_data (printed_at n b)) ≡ Some at → the_moment ≡ record { events = at; is_failed = false }
  at_moment n at b is tells = ap (λ o. moment_by o told.failed told.from) (ap told_at is ∙ tells)

  begin_moment : (n : ℕ) (b : Body) → d ≡ answer_data (printed_at n b) → told_at (answer_data (printed_at n b)) ≡ None → failed_in (answer_data (printed_at n b)) ≡ [] → the_moment ≡ record { events = told.from; is_failed = false }
  begin_moment n b is tells none =
      ap (λ o. moment_by o told.failed told.from) (ap told_at is ∙ tells)
      ∙ ap (λ o. moment_by None o told.from) (no_failure told.failed (sym none ∙ sym (ap failed_in is) ∙ fails))

  failed_moment : (n event : ℕ) (b : Body) → d ≡ answer_data (printed_at n b) → told_at (answer_data (printed_at n b)) ≡ None → failed_in (answer_data (printed_at n b)) ≡ event ∷ [] → the_moment ≡ record { events = event - 1; is_failed = true }
  failed_moment n event b is tells one =
      ap (λ o. moment_by o told.failed told.from) (ap told_at is ∙ tells)
      ∙ ap (λ o. moment_by None o told.from) (one_failure event told.failed (sym one ∙ sym (ap failed_in is) ∙ fails))

of_act : {h : History} {owner : ℕ} {w : Window} {t : Option Transaction} {line : ℕ} {numbers : List ℕ} {name : Text} {leaves : List SpecLeaf} {build : Build} {answer : Body} → IsActAnswer h owner w t line numbers (opens name leaves build) answer
    → IsOpenAnswer h w name (takings h leaves numbers) build numbers answer
of_act (open_answer is) = is

module _ (plan : OpenPlan) (numbers : List (Option ℕ)) (openings : Openings) (told : OpenTold) (d : Data) (line : IsOpenLine plan numbers openings told d) (wanted : WantedPlan) (leaves_same : map wanted_leaf wanted.leaves ≡ bare plan.leaves) (tree_same : wanted.tree ≡ plan.tree)
    (h : History) (same : outline h ≡ openings.events) where
  abbrev w : Window
  w = window_told told

  abbrev leaves : List SpecLeaf
  leaves = leaves_at wanted.tree 0 wanted.leaves

  abbrev ts : List Taking
  ts = paired leaves numbers

  abbrev build : Build
  build = build_of plan

  leaves_are : leaves ≡ leaves_of plan
  leaves_are = leaves_wanted wanted.tree 0 wanted.leaves plan.leaves leaves_same ∙ ap (λ t. leaves_from t 0 plan.leaves) tree_same

  -- takings are those by the outline
  was_outlined : (n : ℕ) (leaf : Leaf) → was_opened h n leaf ≡ was_opened openings.events n leaf
  was_outlined n leaf =
      ap is_some (sym (array_at-outline (location_of_leaf leaf) (take (n - 1) h)) ∙ ap (λ (g : History). array_at g (location_of_leaf leaf)) (sym (take-map outlined_event (n - 1) h) ∙ ap (take (n - 1)) same))

  takings_outlined : (ls : List SpecLeaf) (ns : List ℕ) → takings h ls ns ≡ takings openings.events ls ns
  takings_outlined [] ns = refl
  takings_outlined (l ∷ ls) [] = ap (λ xs. taking l None ∷ xs) (takings_outlined ls [])
  takings_outlined (given cells ∷ ls) (n ∷ ns) = ap (λ xs. taking (given cells) (Some n) ∷ xs) (takings_outlined ls ns)
  takings_outlined (stored node leaf ∷ ls) (n ∷ ns) =
      ap (λ b. cond b (taking (stored node leaf) None ∷ takings h ls (n ∷ ns)) (taking (stored node leaf) (Some n) ∷ takings h ls ns)) (was_outlined n leaf)
      ∙ ap₂ (λ xs ys. cond (was_opened openings.events n leaf) (taking (stored node leaf) None ∷ xs) (taking (stored node leaf) (Some n) ∷ ys)) (takings_outlined ls (n ∷ ns)) (takings_outlined ls ns)

  ts_are : takings h (leaves_of plan) (opened_in d) ≡ ts
  ts_are =
      ap (takings h (leaves_of plan)) line.opened ∙ takings_outlined (leaves_of plan) told.numbers ∙ pairs_of openings.events (leaves_of plan) told.numbers
      ∙ ap (paired (leaves_of plan)) line.taken ∙ ap (λ ls. paired ls numbers) (sym leaves_are)

  -- as many numbers as leaves
  pub count : length numbers ≡ length leaves
  count =
      ap length (sym line.taken) ∙ length-map (takings openings.events (leaves_of plan) told.numbers) (λ (t : Taking). t.number)
      ∙ ap length (pairs_of openings.events (leaves_of plan) told.numbers) ∙ length-paired (leaves_of plan) _ ∙ ap length (sym leaves_are)

  -- what the answer is
  pub record HasOpenAnswer : Type 0 where
    pub answer : Body
    pub printed : IsPrintedAs told d answer
    pub may : IsOpenAnswer h w told.name ts build told.numbers answer

  module _ (owner : ℕ) (t : Option Transaction) where
    abbrev pub Fit : Type 0
    Fit = IsAnsweredBy h owner w t told.line (Ok (opens told.name (leaves_of plan) build)) told.text d

    pub answer_of_fit : Fit → HasOpenAnswer
    answer_of_fit is = record {
      answer = is.answer;
      printed = record { text = is.printed; object = is.object };
      may =
          subst (λ ns. IsOpenAnswer h w told.name ts build ns is.answer) line.opened
          (subst (λ xs. IsOpenAnswer h w told.name xs build (opened_in d) is.answer) ts_are (of_act is.may));
    }

    pub fit_of_answer : HasOpenAnswer → Fit
    fit_of_answer is = record {
      answer = is.answer;
      printed = is.printed.text;
      object = is.printed.object;
      may = open_answer
          (subst (λ xs. IsOpenAnswer h w told.name xs build (opened_in d) is.answer) (sym ts_are)
          (subst (λ ns. IsOpenAnswer h w told.name ts build ns is.answer) (sym line.opened) is.may));
    }

  ts_count : length ts ≡ length wanted.leaves
  ts_count = length-paired leaves numbers ∙ length-leaves_at wanted.tree 0 wanted.leaves

  plan_count : length wanted.leaves ≡ length plan.leaves
  plan_count = sym (length-map wanted.leaves wanted_leaf) ∙ ap length leaves_same ∙ length-map plan.leaves (leaf_of [])

  module _ (arrays : List Reference) (front : IsFront h w ts arrays) (b : Bool) (all : length arrays ≡ length wanted.leaves → IsBuiltAs wanted.tree arrays told b) (lack : length arrays ≢ length wanted.leaves → b ≡ false) where
    build_is : length arrays ≡ length wanted.leaves → build arrays ≡ by_built (built arrays wanted.tree)
    build_is size =
        let whole : length arrays ≡ length plan.leaves = size ∙ plan_count in
        let test : nat_le (length plan.leaves) (length arrays) ≡ true = let le : length plan.leaves ≤ length arrays = omega (arith, whole) in grind (arith, nat_tests, le) in
        ap (λ c. cond c (by_built (built arrays plan.tree)) (Err ([], layers))) test ∙ ap (λ t. by_built (built arrays t)) (sym tree_same)

    built_answer : (r : Result View (Text × BuildCause)) → build arrays ≡ r → AreAllOpened h w ts arrays → IsOpenAnswer h w told.name ts build told.numbers (built_body told.name told.numbers r)
    built_answer (Ok view) is opened_all = opened opened_all is
    built_answer (Err refusal) is opened_all = unbuilt opened_all is

    -- each leaf has its array, and the answer says so
    pub fits_built : b ≡ true → HasOpenAnswer
    fits_built is =
        let size : length arrays ≡ length wanted.leaves = elim (equal_or_not (length arrays) (length wanted.leaves)) [
          | inl full ↦ full
          | inr other ↦ let never : true ≡ false = sym is ∙ lack other in absurd (let nothing_left : ⊥ = cc in nothing_left)
        ] in
        let whole = all_front h w ts arrays front (size ∙ sym ts_count) in
        record {
          answer = built_body told.name told.numbers (by_built (built arrays wanted.tree));
          printed = (all size d line.text).0 is;
          may = built_answer (by_built (built arrays wanted.tree)) (build_is size) (record { settled = whole.0; arrays = whole.1 });
        }

    one_built : (refs : List Reference) (answer : Body) (r : Result View (Text × BuildCause)) → AreAllOpened h w ts refs → build refs ≡ r → answer ≡ built_body told.name told.numbers r → IsPrintedAs told d answer → b ≡ true
    one_built refs answer r opened_all is body_is printed =
        let full : length arrays ≡ length ts = front_all h w ts arrays front opened_all.settled in
        let size : length arrays ≡ length wanted.leaves = full ∙ ts_count in
        let mine = all_front h w ts arrays front full in
        let both : Some refs ≡ Some arrays = sym opened_all.arrays ∙ mine.1 in
        let refs_same : refs ≡ arrays = cc in
        let r_is : r ≡ by_built (built arrays wanted.tree) = sym is ∙ ap build refs_same ∙ build_is size in
        let answer_is : answer ≡ built_body told.name told.numbers (by_built (built arrays wanted.tree)) = body_is ∙ ap (built_body told.name told.numbers) r_is in
        (all size d line.text).1 (subst (IsPrintedAs told d) answer_is printed)

    -- a leaf at which the line stopped, as it was at the moment of which the answer speaks
    pub record HasStopped (answer : Body) : Type 0 where
      pub node : Text
      pub leaf : Leaf
      pub stopped : IsStopped h w ts node leaf
      pub window : IsInWindow told (length openings.events) (moment_by (told_at d) told.failed told.from)
      pub stops : IsStopAt h (moment_by (told_at d) told.failed told.from).events (moment_by (told_at d) told.failed told.from).is_failed node leaf told.numbers answer

    count_events : length h ≡ length openings.events
    count_events = sym (length-outline h) ∙ ap length same

    module _ (answer : Body) (printed : IsPrintedAs told d answer) (node : Text) (leaf : Leaf) (stopped : IsStopped h w ts node leaf) where
      -- a moment of the window
      stop_refused : (m : ℕ) → w.from ≤ m → m ≤ length (take w.upto h) → IsStopAt h m false node leaf told.numbers answer → moment_by (told_at d) told.failed told.from ≡ record { events = m; is_failed = false } → HasStopped answer
      stop_refused m low within stop is = record {
        node = node;
        leaf = leaf;
        stopped = stopped;
        window = subst (IsInWindow told (length openings.events)) (sym is) (record {
          not_older = low;
          within = omega (arith, within, count_events, length-take w.upto h);
          early = λ isnt. omega (arith, within, length-take w.upto h);
        });
        stops = subst (λ (n : Moment). IsStopAt h n.events n.is_failed node leaf told.numbers answer) (sym is) stop;
      }

      module _ (at : ℕ) (low : w.from ≤ at) (within : at ≤ length (take w.upto h)) where
        near : at ≤ w.upto
        near = omega (arith, within, length-take w.upto h)

        by_refusal : (outcome : Outcome) → IsOutcome finmap.empty (take at (take w.upto h)) leaf outcome → IsRefusal node leaf at told.numbers outcome answer → HasStopped answer
        by_refusal outcome comes refusal = by outcome (subst (λ g. IsOutcome finmap.empty g leaf outcome) (take-take at w.upto h near) comes) refusal
          where
            tells : (b : Body) → answer ≡ b → d ≡ answer_data (printed_at told.line b)
            tells b is = printed.object ∙ ap (λ x. answer_data (printed_at told.line x)) is

            by : (o : Outcome) → IsOutcome finmap.empty (take at h) leaf o → IsRefusal node leaf at told.numbers o answer → HasStopped answer
            by (path_taken other) came is = stop_refused at low within (path_taken other, came, is) (at_moment told d line.failed told.line at (body.path_taken at other told.numbers) (tells (body.path_taken at other told.numbers) is) refl)
            by (bad_metadata bytes) came is = absurd (never_bad (take at h) leaf bytes (of_outcome (take at h) leaf (bad_metadata bytes) came))
            by exists came is = stop_refused at low within (exists, came, is) (at_moment told d line.failed told.line at (body.exists at (location_of_leaf leaf) told.numbers) (tells (body.exists at (location_of_leaf leaf) told.numbers) is) refl)
            by (mismatch member) came is = stop_refused at low within (mismatch member, came, is) (at_moment told d line.failed told.line at (body.mismatch at member (location_of_leaf leaf) told.numbers) (tells (body.mismatch at member (location_of_leaf leaf) told.numbers) is) refl)
            by (there k) came is = absurd is
            by (found meta) came is = absurd is
            by not_found came is = stop_refused at low within (not_found, came, is) (at_moment told d line.failed told.line at (body.not_found at (location_of_leaf leaf) told.numbers) (tells (body.not_found at (location_of_leaf leaf) told.numbers) is) refl)
            by (bad_want member) came is =
                let now : outcome_alone (take at openings.events) leaf ≡ bad_want member = sym (outcome_by_outline h openings.events same at leaf) ∙ of_outcome (take at h) leaf (bad_want member) came in
                let was = undetermined_earlier openings.events line.arrays.legal line.arrays.still w.from at leaf member low now in
                stop_refused w.from (omega arith) (omega (arith, low, within))
                (bad_want member, as_outcome (take w.from h) leaf (bad_want member) (outcome_by_outline h openings.events same w.from leaf ∙ was), is)
                (begin_moment told d line.failed told.line (body.bad_spec (member_of_node node member) (Some told.numbers)) (tells (body.bad_spec (member_of_node node member) (Some told.numbers)) is) refl refl)
            by (made meta) came is = absurd is

      stop_failed : (n : ℕ) → IsFailedLeaf h w.from leaf n → answer ≡ body.store_failed (n + 1) [] (Some told.numbers) → HasStopped answer
      stop_failed n is body_is =
          let first : moment_by (told_at d) told.failed told.from ≡ record { events = n + 1 - 1; is_failed = true } =
          failed_moment told d line.failed told.line (n + 1) (body.store_failed (n + 1) [] (Some told.numbers)) (printed.object ∙ ap (λ x. answer_data (printed_at told.line x)) body_is) refl refl in
          let back : n + 1 - 1 ≡ n = omega arith in
          let moment : moment_by (told_at d) told.failed told.from ≡ record { events = n; is_failed = true } = first ∙ ap (λ m. record { events = m; is_failed = true }) back in
          let low = is.not_older in
          let within = is.within in
          record {
            node = node;
            leaf = leaf;
            stopped = stopped;
            window = subst (IsInWindow told (length openings.events)) (sym moment) (record { not_older = low; within = omega (arith, within, count_events); early = λ isnt. absurd (cc) });
            stops = subst (λ (m : Moment). IsStopAt h m.events m.is_failed node leaf told.numbers answer) (sym moment) (is.free, body_is);
          }

    -- where the answer isn't the one over all arrays, the line stopped
    pub stop_of_answer : b ≡ false → (is : HasOpenAnswer) → HasStopped is.answer
    stop_of_answer isnt is = by is.answer is.printed is.may
      where
        clash : b ≡ true → ⊥
        clash built_so = let never : true ≡ false = sym built_so ∙ isnt in cc

        by : (answer : Body) → IsPrintedAs told d answer → IsOpenAnswer h w told.name ts build told.numbers answer → HasStopped answer
        by answer printed (opened {refs = refs} {view = view} opened_all built_is) = absurd (clash (one_built refs answer (Ok view) opened_all built_is refl printed))
        by answer printed (unbuilt {refs = refs} {path = path} {cause = cause} opened_all built_is) = absurd (clash (one_built refs answer (Err (path, cause)) opened_all built_is refl printed))
        by answer printed (refused {node = node} {leaf = leaf} stopped is) = by_refusal answer printed node leaf stopped is.at is.not_older is.within is.outcome is.comes is.answered
        by answer printed (failed {node = node} {leaf = leaf} n stopped is) = stop_failed answer printed node leaf stopped n is refl

    -- and where it stopped so, it is answered so
    answer_of_stop : (m : Moment) (answer : Body) (node : Text) (leaf : Leaf) → IsInWindow told (length openings.events) m → IsStopped h w ts node leaf → IsStopAt h m.events m.is_failed node leaf told.numbers answer → IsOpenAnswer h w told.name ts build told.numbers answer
    answer_of_stop m answer node leaf window stopped stops = by m.is_failed refl stops
      where
        low : w.from ≤ m.events
        low = window.not_older

        within : m.events ≤ length h
        within = let few = window.within in omega (arith, few, count_events)

        by : (f : Bool) → m.is_failed ≡ f → IsStopAt h m.events f node leaf told.numbers answer → IsOpenAnswer h w told.name ts build told.numbers answer
        by true is stop =
            subst (IsOpenAnswer h w told.name ts build told.numbers) (sym stop.1) (failed m.events stopped (record { not_older = low; within = within; free = stop.0 }))
        by false is stop =
            let early = window.early is in
            refused stopped (record {
              at = m.events;
              not_older = low;
              within = omega (arith, within, early, length-take w.upto h);
              outcome = stop.0;
              comes = subst (λ g. IsOutcome finmap.empty g leaf stop.0) (sym (take-take m.events w.upto h early)) stop.1;
              answered = stop.2;
            })

    -- the question that is asked
    module _ (first end : ℕ) (taken_end : IsTakenEnd numbers first) (end_of : IsEndOf (length arrays) (length wanted.leaves) end) where
      abbrev pub the_question : OpenQuestion
      the_question = record {
        plan = wanted;
        first = first;
        end = end;
        moment = (moment_by (told_at d) told.failed told.from).events;
        is_failed = (moment_by (told_at d) told.failed told.from).is_failed;
        told = told;
      }

      last : (k : ℕ) → first ≡ suc k → (t : Taking) × (n : ℕ) × (slice_get ts k ≡ Some t) × (t.number ≡ Some n)
      last k is =
          let number = taken_end.last k is in
          let pair = pair_of_number leaves numbers k (Some number.0) count number.1 in
          (pair.0, number.0, pair.1, pair.2)

      untaken : (k : ℕ) (u : Taking) → first ≤ k → slice_get ts k ≡ Some u → u.number ≡ None
      untaken k u low at = taken_end.behind k u.number low (number_of_pair leaves numbers k u count at)

      place_less : (k : ℕ) (xs : List Wanted) (x : Wanted) → slice_get xs k ≡ Some x → k < length xs
      place_less k [] x at = let no : ⊥ = cc in absurd no
      place_less zero (y ∷ xs) x at = omega arith
      place_less (suc k) (y ∷ xs) x at = let rest = place_less k xs x at in omega (arith, rest)

      refused_of_stop : (answer : Body) → IsPrintedAs told d answer → HasStopped answer → IsRefusedAt h the_question
      refused_of_stop answer printed is =
          let stop = stop_in h w ts arrays first is.node is.leaf front last is.stopped in
          let pair = of_pair wanted.tree 0 wanted.leaves numbers stop.place stop.place (taking (stored is.node is.leaf) None) (omega arith) stop.at in
          record {
            place = stop.place;
            behind = stop.behind;
            below = end_of.below stop.place stop.within (place_less stop.place wanted.leaves pair.wanted pair.at);
            refused = by stop.place pair.wanted pair.at pair.leaf;
          }
        where
          by : (place : ℕ) (x : Wanted) → slice_get wanted.leaves place ≡ Some x → stored is.node is.leaf ≡ leaf_at (unwrap_or (node_of place wanted.tree) []) x → IsRefusedFrom h the_question place
          by place (Given start) at leaf_is = let no : ⊥ = cc in absurd no
          by place (Stored asked) at leaf_is =
              let node_same : is.node ≡ unwrap_or (node_of place wanted.tree) [] = cc in
              let leaf_same : is.leaf ≡ leaf_asked asked = cc in
              record {
                asked = asked;
                leaf = at;
                refused = record {
                  answer = answer;
                  printed = printed.text;
                  object = subst (IsAnswerText told.line told.text) printed.object line.text;
                  stops =
                      subst (λ l. IsStopAt h the_question.moment the_question.is_failed (unwrap_or (node_of place wanted.tree) []) l told.numbers answer) leaf_same
                      (subst (λ n. IsStopAt h the_question.moment the_question.is_failed n is.leaf told.numbers answer) node_same is.stops);
                };
              }

      pub asked_of_answer : b ≡ false → HasOpenAnswer → IsRefusedAt h the_question
      asked_of_answer isnt is = refused_of_stop is.answer is.printed (stop_of_answer isnt is)

      pub answer_of_asked : IsInWindow told (length openings.events) (moment_by (told_at d) told.failed told.from) → IsRefusedAt h the_question → HasOpenAnswer
      answer_of_asked window is =
          let from = is.refused in
          let refused_so = from.refused in
          let node = unwrap_or (node_of is.place wanted.tree) [] in
          let number = slice_number (Stored from.asked) from.leaf in
          let pair : slice_get ts is.place ≡ Some (taking (stored node (leaf_asked from.asked)) None) =
          pair_at wanted.tree 0 wanted.leaves numbers is.place is.place (Stored from.asked) None (omega arith) from.leaf number in
          let stopped = stopped_at h w ts arrays first is.place node (leaf_asked from.asked) front untaken (end_of.only is.place is.below) is.behind pair in
          let one = one_reading told.line told.text d (answer_data (printed_at told.line refused_so.answer)) line.text refused_so.object in
          record {
            answer = refused_so.answer;
            printed = record { text = refused_so.printed; object = one };
            may = answer_of_stop (moment_by (told_at d) told.failed told.from) refused_so.answer node (leaf_asked from.asked) window stopped refused_so.stops;
          }
        where
          some_number : (ns : List (Option ℕ)) (k : ℕ) → k < length ns → (n : Option ℕ) × (slice_get ns k ≡ Some n)
          some_number [] k low = absurd (omega (arith, low))
          some_number (n ∷ ns) zero low = (n, refl)
          some_number (n ∷ ns) (suc k) low = some_number ns k (omega (arith, low))

          slice_number : (x : Wanted) → slice_get wanted.leaves is.place ≡ Some x → slice_get numbers is.place ≡ Some None
          slice_number x at =
              let low = place_less is.place wanted.leaves x at in
              let size : length numbers ≡ length wanted.leaves = count ∙ length-leaves_at wanted.tree 0 wanted.leaves in
              let there_is = some_number numbers is.place (omega (arith, low, size)) in
              there_is.1 ∙ ap Some (taken_end.behind is.place there_is.0 is.behind there_is.1)
