-- Rows of lines that open, and the names behind them.
use Rattle.std.proofs.Common.{◌≡◌, ◌∙◌, ℕ, ◌+◌, suc, Bool, List, [], ◌∷◌, length, ◌⊎◌, inl, inr, Option, Some, None, Result, Ok, Err, refl, sym, ap, subst, arith, is_some}
use Rattle.std.specs.Prelude.{false}
use Rattle.std.specs.FinMap as finmap
use Rattle.std.specs.List.{AllByRecursion}
use Rattle.sessions.specs.Status.{is_ok_body}
use Rattle.sessions.specs.declared.Body as printed
use Rattle.sessions.specs.declared.Body.TheVariants as body
use Rattle.history.specs.declared.event.Event.{Event}
use Rattle.history.specs.Acts.{Asked, opens, act_of}
use Rattle.history.specs.Answers as old
use Rattle.history.specs.Answers.{Body, Text}
use Rattle.history.specs.Commit.{Fixed}
use Rattle.history.specs.Lines.{SpecLeaf, Build, opening}
use Rattle.history.specs.OpenRows.{AreOpened, no_leaf}
use Rattle.history.specs.Own.{Numbered, numbers_of}
use Rattle.history.specs.Refs.{IsKnownRef, HasKnownRefs}
use Rattle.history.specs.Sessions.{Names, bind}
use Rattle.history.specs.Steps.{IsRow, IsAnswered, done_line, open_done, open_unbuilt, open_wanting}
use Rattle.history.specs.Viewing.{opened_body}
use Rattle.kv_face.specs.Store.{Contents}
use Rattle.sessions.specs.AnswerBodies.{body_of}
use Rattle.sessions.specs.Caused.{IsCausedAct, IsCausedBy, IsOpenRefusal, by_act, open_made, open_none}
use Rattle.sessions.specs.Causes.{build_cause}
use Rattle.sessions.specs.MeaningOpenings.{leaf_of, node_of, leaves_from, leaves_of, build_cause_of, by_built, build_of}
use Rattle.sessions.proofs.Laws.{build_within}
use Rattle.sessions.specs.OpenEvents.{IsArrayOpened, TellsOpenings, failure_in, AreTold}
use Rattle.session_openings.specs.Opened.{IsUnbuilt, IsBuiltBy, IsBoundToPlan, IsBoundOrNot, IsLineOpened}
use Rattle.session_openings.specs.Openings.{AreAllOpened, IsLeafRefused}
use Rattle.session_openings.proofs.EventLaws.{openings_told}
use Rattle.session_openings.proofs.PlanLaws.{length-leaves, build-full}
use Rattle.session_openings.proofs.RefusalLaws.{memory_with, unbound_not_ok}
use Rattle.sessions.specs.Opening.{AreOpenedBy}
use Rattle.sessions.specs.Turns.{IsRested, HasPassed, added_by}
use Rattle.sessions.proofs.Laws.{none_added, passed_alone, kept_bound, outside_none}
use Rattle.sessions.specs.Standing.{session_state, transaction_in}
use Rattle.sessions.specs.Told.{IsTold, IsBoundAs, IsToldBy}
use Rattle.spec_open.specs.Built.{built}
use Rattle.spec_open.specs.Conditions.{IsTree}
use Rattle.spec_open.specs.declared.error.BuildCause as build_causes
use Rattle.spec_open.specs.declared.error.BuildCause.TheVariants as build_cause_is
use Rattle.spec_open.specs.declared.error.BuildError.{BuildError}
use Rattle.spec_open.specs.declared.error.BuildError.TheVariants as build_error
use Rattle.spec_open.specs.declared.plan.OpenPlan.{OpenPlan}
use Rattle.stack_driver.specs.Conditions.{IsView}
use Rattle.stack_driver.specs.References.{Reference}
use Rattle.stack_driver.specs.Views.{look_of, own_transform}
use Rattle.stack_driver.specs.declared.view.View.{View}
use Rattle.sessions.specs.Agreement.{Opening}
use Rattle.sessions.specs.Answers.{fixed_by}
use Rattle.sessions.specs.Txn.{TxnSeen}
use Rattle.turn_book.specs.Passes.{BookView, PassView}

same_cause : (cause : build_causes.BuildCause) → build_cause (build_cause_of cause) ≡ cause
same_cause (build_cause_is.Transform cause) = refl
same_cause build_cause_is.Layers = refl

-- before its first leaf a line has opened none
pub none_opened : (book : BookView Opening) (pass : PassView Event Opening) (leaves : List SpecLeaf) → IsRested book pass → AreAllOpened book pass pass leaves leaves [] []
none_opened book pass leaves rested = record {
  opened = record {
    passed = passed_alone book pass rested;
    count = omega arith;
    known = tt;
    events_are = ap numbers_of (none_added pass);
    told = λ start is. (length pass.seen, omega arith, subst (λ own. AreOpened start pass.number pass.seen (length pass.seen) leaves [] own (length pass.seen) leaves) (sym (none_added pass)) no_leaf);
  };
  openings = subst (AllByRecursion IsArrayOpened) (sym (none_added pass)) tt;
}

-- there is an array for each leaf of a plan whose leaves are all opened
pub opened_count : (book : BookView Opening) (first now : PassView Event Opening) (plan : OpenPlan) (arrays : List Reference) (events : List ℕ) → AreAllOpened book first now (leaves_of plan) [] arrays events → length arrays ≡ length plan.leaves
opened_count book first now plan arrays events so = let sum = so.opened.count in let leaves = length-leaves plan.tree 0 plan.leaves in omega (arith, sum, leaves)

-- where they are
module _ (book : BookView Opening) (first now : PassView Event Opening) (plan : OpenPlan) (arrays : List Reference) (events : List ℕ) (so : AreAllOpened book first now (leaves_of plan) [] arrays events)
    (names later : Names) (name : Text) (answer : printed.Body) where
  count : length arrays ≡ length plan.leaves
  count = opened_count book first now plan arrays events so

  abbrev Row : Contents → Names → Body → List Numbered → Type 0
  Row start ns b own = (t : Option TxnSeen) (line : ℕ) → IsRow (fixed_by book.fixed start) first.number now.seen (session_state names (length first.seen) t) line (opens name (leaves_of plan) (build_of plan)) ns (transaction_in t) b own

  abbrev Told : Contents → Type 0
  Told start = (b : Body) × (answer ≡ body_of b) × Row start later b (added_by first now)

  told_wanting : (start : Contents) → book.fixed.store.contents ≡ Some start → answer ≡ body.Memory → later ≡ names → Told start
  told_wanting start is wants same =
      (old.memory, wants, subst (λ ns. Row start ns old.memory (added_by first now)) (sym same) (λ t line. open_wanting (so.opened.told start is).2))

  told_bound : (start : Contents) (view : View) → book.fixed.store.contents ≡ Some start → built arrays plan.tree ≡ Ok view → answer ≡ body.Opened name (look_of view).dtype (own_transform view).domain events → later ≡ bind names name view → Told start
  told_bound start view is made told bound = (
    opened_body name view events,
    told,
    subst (λ ns. Row start ns (opened_body name view events) (added_by first now)) (sym bound)
        (subst (λ es. Row start (bind names name view) (opened_body name view es) (added_by first now)) so.opened.events_are
        (λ t line. open_done (so.opened.told start is).2 (build-full plan arrays count ∙ ap by_built made))),
  )

  told_unbuilt : (start : Contents) (path : Text) (cause : build_causes.BuildCause) → book.fixed.store.contents ≡ Some start → built arrays plan.tree ≡ Err (build_error.Refused path cause) → answer ≡ body.RefusedSpec path cause events → later ≡ names → Told start
  told_unbuilt start path cause is made told same = (
    old.refused_spec path (build_cause_of cause) events,
    told ∙ ap (λ c. body.RefusedSpec path c events) (sym (same_cause cause)),
    subst (λ ns. Row start ns (old.refused_spec path (build_cause_of cause) events) (added_by first now)) (sym same)
        (subst (λ es. Row start names (old.refused_spec path (build_cause_of cause) es) (added_by first now)) so.opened.events_are
        (λ t line. open_unbuilt (so.opened.told start is).2 (build-full plan arrays count ∙ ap by_built made))),
  )

  abbrev Cause : Names → Body → Type 0
  Cause ns b = (t : Option TxnSeen) (line : ℕ) → IsCausedAct (fixed_by book.fixed finmap.empty) first.number now.seen (session_state names (length first.seen) t) line (opens name (leaves_of plan) (build_of plan)) ns (transaction_in t) b (added_by first now)

  abbrev Caused : Type 0
  Caused = (b : Body) × (answer ≡ body_of b) × Cause later b

  caused_none : (b : Body) → answer ≡ body_of b → IsOpenRefusal b → AreTold (added_by first now) answer → later ≡ names → Caused
  caused_none b told refusal is same = (b, told, subst (λ ns. Cause ns b) (sym same) (λ t line. open_none (subst (AreTold (added_by first now)) told is) refusal))

  count_leaves : length arrays ≡ length (leaves_of plan)
  count_leaves = let sum = so.opened.count in omega (arith, sum)

  caused_bound : (view : View) → built arrays plan.tree ≡ Ok view → answer ≡ body.Opened name (look_of view).dtype (own_transform view).domain (numbers_of (added_by first now)) → later ≡ bind names name view → Caused
  caused_bound view made told bound =
      let b : Body = opened_body name view (numbers_of (added_by first now)) in
      (b, told, subst (λ ns. Cause ns b) (sym bound) (λ t line. open_made arrays count_leaves so.opened.known so.openings (build-full plan arrays count ∙ ap by_built made)))

  told_with : TellsOpenings events answer → failure_in answer ≡ None → AreTold (added_by first now) answer
  told_with told none = openings_told (added_by first now) events answer so.openings so.opened.events_are told none

  tells : (es : List ℕ) → Some events ≡ Some es → es ≡ events
  tells es is = cc

  wants_told : answer ≡ body.Memory → AreTold (added_by first now) answer
  wants_told wants = told_with (subst (TellsOpenings events) (sym wants) (memory_with events).told) (ap failure_in wants)

  no_view : answer ≡ body.Memory → later ≡ names → IsLineOpened book first now names later name plan answer
  no_view wants same = record {
    passed = so.opened.passed;
    events = wants_told wants;
    bound = inr (same, ap is_ok_body wants);
    caused = caused_none old.memory wants tt (wants_told wants) same;
    told = λ start is. told_wanting start is wants same;
  }

  with_view : (view : View) → built arrays plan.tree ≡ Ok view → IsView view → answer ≡ body.Opened name (look_of view).dtype (own_transform view).domain events → later ≡ bind names name view → IsLineOpened book first now names later name plan answer
  with_view view made rules told bound = record {
    passed = so.opened.passed;
    events = told_with (subst (TellsOpenings events) (sym told) (λ es is. tells es is)) (ap failure_in told);
    bound = inl (record {
      arrays = arrays;
      view = view;
      count = count;
      known = so.opened.known;
      made = made;
      rules = rules;
      bound = bound;
      told = told ∙ ap (λ es. body.Opened name (look_of view).dtype (own_transform view).domain es) (sym so.opened.events_are);
    });
    caused = caused_bound view made (told ∙ ap (λ es. body.Opened name (look_of view).dtype (own_transform view).domain es) (sym so.opened.events_are)) bound;
    told = λ start is. told_bound start view is made told bound;
  }

  unbuilt : (e : BuildError) → built arrays plan.tree ≡ Err e → IsUnbuilt e events answer → later ≡ names → IsLineOpened book first now names later name plan answer
  unbuilt (build_error.Refused path cause) made told same = record {
    passed = so.opened.passed;
    events = refusal_told;
    bound = inr (same, ap is_ok_body told);
    caused = caused_none (old.refused_spec path (build_cause_of cause) events) (told ∙ ap (λ c. body.RefusedSpec path c events) (sym (same_cause cause))) tt refusal_told same;
    told = λ start is. told_unbuilt start path cause is made told same;
  }
    where
      refusal_told : AreTold (added_by first now) answer
      refusal_told = told_with (subst (TellsOpenings events) (sym told) (λ es is. tells es is)) (ap failure_in told)
  unbuilt build_error.Memory made told same = no_view told same

  pub line_opened : IsBuiltBy (built arrays plan.tree) events name names later answer → IsLineOpened book first now names later name plan answer
  line_opened (inl p) = by p.3
    where
      by : IsBoundAs (body.Opened name (look_of p.0).dtype (own_transform p.0).domain events) names name p.0 later answer → IsLineOpened book first now names later name plan answer
      by (inl done) = with_view p.0 p.1 p.2 done.0 done.1
      by (inr wants) = no_view wants.0 wants.1
  line_opened (inr p) = by p.1
    where
      by : (answer ≡ body.Memory) ⊎ ((e : BuildError) × (built arrays plan.tree ≡ Err e) × IsUnbuilt e events answer) → IsLineOpened book first now names later name plan answer
      by (inl wants) = no_view wants p.0
      by (inr q) = unbuilt q.0 q.1 q.2 p.0

-- where a leaf isn't
pub line_refused : (book : BookView Opening) (first now : PassView Event Opening) (plan : OpenPlan) (names : Names) (name : Text) (answer : printed.Body) → IsLeafRefused book first now (leaves_of plan) answer → IsLineOpened book first now names names name plan answer
line_refused book first now plan names name answer refused = record {
  passed = refused.passed;
  events = refused.events;
  bound = inr (refl, ap is_ok_body refused.refused.1 ∙ unbound_not_ok refused.refused.0 refused.refused.2);
  caused = (refused.refused.0, refused.refused.1, λ t line. open_none (subst (AreTold (added_by first now)) refused.refused.1 refused.events) refused.refused.2);
  told = λ start is. let p = refused.told start is in (p.0, p.1, λ t line. p.2 names t line name (build_of plan));
}

-- outside of a transaction the row is the line's answer
pub told_opened : (book : BookView Opening) (first now : PassView Event Opening) (plan : OpenPlan) (names later : Names) (name : Text) (answer : printed.Body) (t : Option TxnSeen) (line : ℕ) → is_some t ≡ false → IsLineOpened book first now names later name plan answer
    → IsToldBy book first now (session_state names (length first.seen) t) line (opening name (leaves_of plan) (build_of plan)) later (transaction_in t) answer
told_opened book first now plan names later name answer t line none opened start is =
    let p = opened.told start is in
    record {
      body = p.0;
      printed = p.1;
      row =
          subst (λ (a : Asked). IsAnswered (fixed_by book.fixed start) first.number now.seen (session_state names (length first.seen) t) line a later (transaction_in t) p.0 (added_by first now)) (sym (outside_none t (Ok (opens name (leaves_of plan) (build_of plan))) none))
          (done_line (p.2 t line));
    }

-- what every name's view keeps, names keep behind it
pub opened_keeps : (P : View → Type 0) (first now : PassView Event Opening) (plan : OpenPlan) (name : Text) (names later : Names) (answer : printed.Body) → IsBoundOrNot first now plan name names later answer
    → ((bound : IsBoundToPlan first now plan name names later answer) → P bound.view) → ((other : Text) (v : View) → names other ≡ Some v → P v) → (other : Text) (v : View) → later other ≡ Some v → P v
opened_keeps P first now plan name names later answer (inl bound) holds all other v is = kept_bound P answer answer names later name bound.view (inl (refl, bound.bound)) (holds bound) all other v is
opened_keeps P first now plan name names later answer (inr same) holds all other v is = all other v (sym (ap (λ f. f other) same.0) ∙ is)

-- the view is of known arrays
pub view_known : (first now : PassView Event Opening) (plan : OpenPlan) (name : Text) (names later : Names) (answer : printed.Body) → IsTree (length plan.leaves) plan.tree → (bound : IsBoundToPlan first now plan name names later answer) → HasKnownRefs now.seen bound.view
view_known first now plan name names later answer over bound =
    build_within plan over now.seen bound.arrays bound.view bound.known (build-full plan bound.arrays bound.count ∙ ap by_built bound.made)

-- without a turn nothing is added, and nothing is told
pub refused_alone : (pass : PassView Event Opening) → AreTold (added_by pass pass) body.InTransaction
refused_alone pass = subst (λ own. AreTold own body.InTransaction) (sym (none_added pass)) (inl (record { are = tt; told = λ events is. absurd (let no_such : ⊥ = cc in no_such); none = refl }))

-- over any store, outside of a transaction, the line is answered for its cause
pub opening_caused : (book : BookView Opening) (first now : PassView Event Opening) (plan : OpenPlan) (names later : Names) (name : Text) (answer : printed.Body) (t : Option TxnSeen) (line : ℕ) → is_some t ≡ false → IsLineOpened book first now names later name plan answer
    → IsCausedBy book first now (session_state names (length first.seen) t) line (opening name (leaves_of plan) (build_of plan)) later (transaction_in t) answer
opening_caused book first now plan names later name answer t line none opened =
    let cause = opened.caused in
    subst (IsCausedBy book first now (session_state names (length first.seen) t) line (opening name (leaves_of plan) (build_of plan)) later (transaction_in t)) (sym cause.1)
    (by_act (outside_none t (Ok (opens name (leaves_of plan) (build_of plan))) none) (cause.2 t line))
