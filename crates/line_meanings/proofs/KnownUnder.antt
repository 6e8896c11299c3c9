-- Views of known arrays stay such under another transform.
use Rattle.std.proofs.Common.{◌≡◌, List, [], ◌∷◌, map, Option, Some, None, Result, Ok, Err, refl, sym, subst}
use Rattle.std.specs.List.{AllByRecursion}
use Rattle.index_transform.specs.Transforms.{DomainAndMaps}
use Rattle.transform_composition.specs.Composing.{composed}
use Rattle.transform_composition.specs.declared.error.ComposeError.{ComposeError}
use Rattle.step_forms.specs.declared.act.Step.{Step}
use Rattle.dim_expressions.specs.Applying.{applied}
use Rattle.dim_expressions.specs.declared.error.ApplyError.{ApplyError}
use Rattle.stack_driver.specs.Changes.{under, under_result, moved}
use Rattle.stack_driver.specs.Views.{own_transform}
use Rattle.stack_driver.specs.declared.view.View.{View, ind-View, roll-View, map-View}
use Rattle.stack_driver.specs.declared.view.View.TheOpen.{View-F}
use Rattle.stack_driver.specs.declared.view.View.TheVariants as view
use Rattle.stack_driver.proofs.Laws.{every_base, every_layer}
use Rattle.stack_driver.proofs.Unders.{under-Leaf, under-Cast, under-Stack}
use Rattle.line_answers.specs.History.{History}
use Rattle.line_answers.specs.Bound.{IsChangeWithin}
use Rattle.line_answers.specs.Refs.{HasKnownRef, HasKnownRefs}
use Rattle.line_meanings.proofs.KnownForms.{known_leaf, known_cast, known_stack, leaf_known}
use Rattle.line_meanings.specs.Changes.{by_view, by_transform, under_steps, by_steps, steps_of, changes_of}

module _ (events : History) (t : DomainAndMaps) where
  Stays : View → Type 0
  Stays v = HasKnownRefs events v → HasKnownRefs events (under t v)

  stays_step : (x : View-F View) (y : View-F ((z : View) × Stays z)) → map-View ((z : View) × Stays z) View (λ e. e.0) y ≡ x → Stays (roll-View x)
  unfolding Stays
  stays_step x (View-F.Leaf array u) e =
      subst (λ z. Stays (roll-View z)) e
      (subst Stays (sym (view.rolls-Leaf array u))
      (λ refs. subst (HasKnownRefs events) (sym (under-Leaf t array u)) (known_leaf events array t (leaf_known events array u refs))))
  stays_step x (View-F.Cast to p) e =
      subst (λ z. Stays (roll-View z)) e
      (subst Stays (sym (view.rolls-Cast to p.0))
      (λ refs. subst (HasKnownRefs events) (sym (under-Cast t to p.0)) (known_cast events to (under t p.0) (p.1 (every_base (HasKnownRef events) to p.0 refs)))))
  stays_step x (View-F.Stack ys u) e =
      let layers = map (λ (y : (z : View) × Stays z). y.0) ys in
      subst (λ z. Stays (roll-View z)) e
      (subst Stays (sym (view.rolls-Stack layers u))
      (λ refs. subst (HasKnownRefs events) (sym (under-Stack t layers u)) (known_stack events layers t (every_layer (HasKnownRef events) layers u refs))))

  -- the same view under another transform is of the same arrays
  pub under_known : (v : View) → HasKnownRefs events v → HasKnownRefs events (under t v)
  unfolding Stays
  under_known v = ind-View Stays stays_step v

-- so it is seen through a further one
pub moved_known : (events : History) (v made : View) (t : DomainAndMaps) → HasKnownRefs events v → moved v t ≡ Ok made → HasKnownRefs events made
moved_known events v made t refs e = by (composed (own_transform v) t) e
  where
    by : (r : Result DomainAndMaps ComposeError) → under_result v r ≡ Ok made → HasKnownRefs events made
    by (Ok u) given = let same : under u v ≡ made = cc in subst (HasKnownRefs events) same (under_known events u v refs)
    by (Err cause) given = absurd (cc)

transform_within : (t : DomainAndMaps) → IsChangeWithin (by_transform t)
transform_within t events v made refs e = by (moved v t) refl e
  where
    by : (r : Result View ComposeError) → moved v t ≡ r → by_view r ≡ Ok made → HasKnownRefs events made
    by (Ok w) is given = let same : w ≡ made = cc in subst (HasKnownRefs events) same (moved_known events v w t refs is)
    by (Err cause) is given = absurd (cc)

by_steps_within : (steps : List Step) → IsChangeWithin (by_steps steps)
by_steps_within steps events v made refs e = by (applied (own_transform v) steps) e
  where
    by : (r : Result DomainAndMaps ApplyError) → under_steps v r ≡ Ok made → HasKnownRefs events made
    by (Ok u) given = let same : under u v ≡ made = cc in subst (HasKnownRefs events) same (under_known events u v refs)
    by (Err cause) given = absurd (cc)

steps_within : (steps : List Step) → AllByRecursion IsChangeWithin (steps_of steps)
steps_within [] = tt
steps_within (first ∷ steps) = (by_steps_within (first ∷ steps), tt)

-- no transform and no step brings in an array
pub changes_within : (transform : Option DomainAndMaps) (steps : List Step) → AllByRecursion IsChangeWithin (changes_of transform steps)
changes_within None steps = steps_within steps
changes_within (Some t) steps = (transform_within t, steps_within steps)
