use Rattle.std.proofs.Common.{◌≡◌, [], ◌∷◌, length, Some, None, sym, ap, subst, refl, ◌∙◌}
use Rattle.std.specs.Prelude.{option_map}
use Rattle.std.specs.List.{AllByRecursion}
use Rattle.std.proofs.lemmas.Result.{IfOk-weaker}
use Rattle.history.specs.History.{History}
use Rattle.line_acts.specs.Openings.{leaves_of, build_of}
use Rattle.stated_arrays.specs.Leaves.{IsSoundLeaf}
use Rattle.stated_arrays.specs.Lines.{bare}
use Rattle.stated_arrays.specs.Outline.{outline}
use Rattle.stated_arrays.specs.Takings.{all_refs, opened_view}
use Rattle.stated_arrays.specs.Transcript.{mount}
use Rattle.stated_arrays.specs.OpenedViews.{AreGiven, paired}
use Rattle.stated_acts.proofs.OpenedLaws.{refs, given_bare, arrays_count, opened_over}
use Rattle.stated_acts.proofs.opened_views.view_opened.Goals as goal

pub arrays_of-requires-clause-leaves : goal.arrays_of-requires-clause-leaves
arrays_of-requires-clause-leaves c = subst (AllByRecursion (IsSoundLeaf (mount ∷ []))) (sym c.items.ensures) c.requires.plan.each

pub arrays_of-requires-clause-count : goal.arrays_of-requires-clause-count
arrays_of-requires-clause-count c = c.requires.count ∙ ap length (sym c.items.ensures)

pub arrays_of-requires-clause-given : goal.arrays_of-requires-clause-given
arrays_of-requires-clause-given c =
    subst (λ ls. AreGiven c.args.openings.now.events (paired (bare ls) c.args.takings.now)) (sym c.items.ensures)
    (given_bare c.args.openings.now.events c.args.plan.now.tree 0 c.args.plan.now.leaves c.args.takings.now c.requires.given)

pub built-requires-clause-count : goal.built-requires-clause-count
built-requires-clause-count c =
    ap length c.deref.ensures.value
    ∙ arrays_count c.args.openings.now.events c.args.plan.now.leaves c.args.takings.now c.in-Some.arrays.items
    (ap (λ ls. all_refs (refs c.args.openings.now.events ls c.args.takings.now)) (sym c.items.ensures) ∙ c.in_ok-found.ensures ∙ ap (option_map (λ a. a.items)) c.in-Some.is)

pub returns-in-Some-clause-view : goal.returns-in-Some-clause-view
returns-in-Some-clause-view c =
    IfOk-weaker c.built.result _ (λ v. (history : History) → outline history ≡ c.args.openings.now.events → opened_view history (paired (leaves_of c.args.plan.now) c.args.takings.now) (build_of c.args.plan.now) ≡ v)
    (λ v is. opened_over c.args.openings.now.events c.args.plan.now c.args.takings.now (Some c.deref.result.now) v
    (ap (λ ls. all_refs (refs c.args.openings.now.events ls c.args.takings.now)) (sym c.items.ensures) ∙ c.in_ok-found.ensures ∙ ap (option_map (λ a. a.items)) c.in-Some.is ∙ ap Some (sym c.deref.ensures.value)) is) c.built.ensures.view

pub returns-in-None-clause-view : goal.returns-in-None-clause-view
returns-in-None-clause-view c =
    opened_over c.args.openings.now.events c.args.plan.now c.args.takings.now None None
    (ap (λ ls. all_refs (refs c.args.openings.now.events ls c.args.takings.now)) (sym c.items.ensures) ∙ c.in_ok-found.ensures ∙ ap (option_map (λ a. a.items)) c.in-None.is) refl
