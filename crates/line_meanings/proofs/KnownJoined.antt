-- Views of known arrays are joined to one of such.
use Rattle.std.proofs.Common.{◌≡◌, ℕ, ◌+◌, ℤ, List, [], ◌∷◌, map, Option, Some, None, Result, Ok, Err, refl, subst}
use Rattle.std.specs.List.{AllByRecursion, zip}
use Rattle.index_transform.specs.Identity.{identity_over}
use Rattle.stack_driver.specs.Views.{own_transform}
use Rattle.stack_driver.specs.declared.view.View.{View}
use Rattle.stack_driver.specs.declared.view.View.TheVariants as view
use Rattle.layer_join.specs.Joins as joins
use Rattle.layer_join.specs.Joins.{moved_layers, joined_layers, joined_domain, join_refusal, unless_refused, join_answer}
use Rattle.layer_join.specs.Placed.{placed_transform, placed_from}
use Rattle.layer_join.specs.Slid.{slid_transform, slid_view, shifts}
use Rattle.layer_join.specs.declared.error.JoinError.{JoinError}
use Rattle.line_forms.specs.declared.command.JoinForm.{JoinForm}
use Rattle.line_answers.specs.History.{History}
use Rattle.line_answers.specs.Bound.{IsJoinWithin}
use Rattle.line_answers.specs.Refs.{HasKnownRefs}
use Rattle.line_meanings.specs.Joins.{form_of, by_join, join_of}
use Rattle.line_meanings.proofs.KnownForms.{known_stack}
use Rattle.line_meanings.proofs.KnownUnder.{under_known}

module _ (events : History) where
  abbrev AreKnown : List View → Type 0
  AreKnown layers = AllByRecursion (HasKnownRefs events) layers

  slid_known : (axis : ℕ) (bys : List ℤ) (layers : List View) → AreKnown layers → AreKnown (map (λ p. slid_view axis p.0 p.1) (zip bys layers))
  slid_known axis [] layers all = tt
  slid_known axis (by ∷ bys) [] all = tt
  slid_known axis (by ∷ bys) (l ∷ ls) all = (under_known events (slid_transform axis by (own_transform l)) l all.0, slid_known axis bys ls all.1)

  placed_known : (place axis : ℕ) (layers : List View) → AreKnown layers → AreKnown (placed_from place axis layers)
  placed_known place axis [] all = tt
  placed_known place axis (l ∷ ls) all = (under_known events (placed_transform axis place (own_transform l)) l all.0, placed_known (place + 1) axis ls all.1)

  layers_known : (kind : joins.Join) (layers : List View) → AreKnown layers → AreKnown (joined_layers kind layers)
  layers_known joins.overlay layers all = all
  layers_known (joins.concat axis) layers all = slid_known axis (shifts axis layers) layers all
  layers_known (joins.stack axis) layers all = placed_known 0 axis layers all

  join_known : (kind : joins.Join) (layers : List View) (made : View) → AreKnown layers → join_answer kind layers ≡ Ok made → HasKnownRefs events made
  join_known kind layers made all e = by (join_refusal kind layers) e
    where
      by : (o : Option JoinError) → unless_refused o (view.Stack (joined_layers kind layers) (identity_over (joined_domain kind layers))) ≡ Ok made → HasKnownRefs events made
      by None given =
          let same : view.Stack (joined_layers kind layers) (identity_over (joined_domain kind layers)) ≡ made = cc in
          subst (HasKnownRefs events) same (known_stack events (joined_layers kind layers) (identity_over (joined_domain kind layers)) (layers_known kind layers all))
      by (Some cause) given = absurd (cc)

-- no join brings in an array
pub join_within : (kind : JoinForm) → IsJoinWithin (join_of kind)
join_within kind events views made all e = by (join_answer (form_of kind) views) refl e
  where
    by : (r : Result View JoinError) → join_answer (form_of kind) views ≡ r → by_join r ≡ Ok made → HasKnownRefs events made
    by (Ok v) is given = let same : v ≡ made = cc in subst (HasKnownRefs events) same (join_known events (form_of kind) views v all is)
    by (Err cause) is given = absurd (cc)
