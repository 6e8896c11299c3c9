-- Steps leave a transform as many outputs as it had.
use Rattle.std.proofs.Common.{◌≡◌, ◌∙◌, ℕ, ◌+◌, Bool, true, false, cond, List, [], ◌∷◌, length, Option, Some, None, Result, Ok, Err, refl, sym, ap}
use Rattle.std.proofs.lemmas.List.{length-map}
use Rattle.std.specs.Prelude.{not, ◌==◌}
use Rattle.json_forms.specs.Lists.{all_of}
use Rattle.index_transform.specs.Transforms.{DomainAndMaps}
use Rattle.transform_composition.specs.Composing.{composed_map, joined, unless_large, unless_passed, joined_answer}
use Rattle.transform_composition.specs.declared.error.ComposeError.{ComposeError}
use Rattle.step_forms.specs.Selection.{selected_of}
use Rattle.step_forms.specs.declared.act.Act.{Act}
use Rattle.step_forms.specs.declared.act.Act.TheVariants as act
use Rattle.step_forms.specs.declared.act.Step.{Step}
use Rattle.step_forms.specs.declared.selection.SelectError.{SelectError}
use Rattle.dim_changes.specs.Causes.{unless_refused, or_cause, over}
use Rattle.dim_changes.specs.Marks.{with_labels, with_marks}
use Rattle.dim_changes.specs.CutViews.{cut_answer, cut_view}
use Rattle.dim_changes.specs.Dims.{position_of}
use Rattle.dim_changes.specs.declared.cause.Cause.{Cause}
use Rattle.dim_changes.specs.declared.cause.Cause.TheVariants.{Count}
use Rattle.dim_expressions.specs.Answers.{step_answer}
use Rattle.dim_expressions.specs.Applying.{numbered, answer_on, after_step, applied_from, applied}
use Rattle.dim_expressions.specs.Diagonal.{diagonal_view}
use Rattle.dim_expressions.specs.Left.{rank_of}
use Rattle.dim_expressions.specs.Transpose.{to_targets, transpose_view}
use Rattle.dim_expressions.specs.Vindex.{vindex_view}
use Rattle.dim_expressions.specs.declared.error.ApplyError.{ApplyError}

-- what it gives has as many outputs
record Keeps {E : Type 0} (u : DomainAndMaps) (r : Result DomainAndMaps E) : Type 0 where
  count : (t : DomainAndMaps) → r ≡ Ok t → length t.maps ≡ length u.maps

refused : {E : Type 0} (u : DomainAndMaps) (e : E) → Keeps u (Err e)
refused u e = record { count = λ t is. absurd (cc) }

same_maps : {E : Type 0} (u v : DomainAndMaps) → length v.maps ≡ length u.maps → Keeps {E = E} u (Ok v)
same_maps u v same = record { count = λ t is. let e : v ≡ t = cc in ap (λ (w : DomainAndMaps). length w.maps) (sym e) ∙ same }

either : {E : Type 0} (u : DomainAndMaps) (test : Bool) (a b : Result DomainAndMaps E) → Keeps u a → Keeps u b → Keeps u (cond test a b)
either u true a b one other = one
either u false a b one other = other

unless_kept : (u : DomainAndMaps) (o : Option Cause) (r : Result DomainAndMaps Cause) → Keeps u r → Keeps u (unless_refused o r)
unless_kept u None r k = k
unless_kept u (Some c) r k = refused u c

over_kept : (u v : DomainAndMaps) → Keeps u (over u v)
over_kept u v = by (joined_answer u v) refl
  where
    large : (o : Option ℕ) (j t : DomainAndMaps) → unless_large o j ≡ Ok t → j ≡ t
    large None j t e = cc
    large (Some k) j t e = absurd (cc)

    passed : (o : Option ℕ) (answer : Result DomainAndMaps ComposeError) (t : DomainAndMaps) → unless_passed o answer ≡ Ok t → answer ≡ Ok t
    passed None answer t e = e
    passed (Some k) answer t e = absurd (cc)

    by : (r : Result DomainAndMaps ComposeError) → joined_answer u v ≡ r → Keeps u (or_cause r)
    by (Ok t) is =
        same_maps u t
        (ap (λ (w : DomainAndMaps). length w.maps) (sym (large _ (joined u v) t (passed _ _ t is))) ∙ length-map u.maps (composed_map u.domain.dims v.domain.dims v.maps))
    by (Err e) is = refused u _

cut_kept : (u : DomainAndMaps) (selected : List ℕ) (a : Act) → Keeps u (cut_answer u selected a)
cut_kept u selected a = either u _ _ _ (refused u _) (unless_kept u _ _ (over_kept u (cut_view u selected a)))

targets_kept : (u : DomainAndMaps) (selected : List ℕ) (o : Option (List ℕ)) → Keeps u (to_targets u selected o)
targets_kept u selected None = refused u _
targets_kept u selected (Some targets) = either u _ _ _ (refused u _) (over_kept u (transpose_view u selected targets))

step_kept : (u : DomainAndMaps) (selected : List ℕ) (a : Act) → Keeps u (step_answer u selected a)
step_kept u selected (act.Label labels) = either u _ _ _ (refused u _) (either u _ _ _ (same_maps u (with_labels u _) refl) (refused u _))
step_kept u selected (act.TranslateTo by) = cut_kept u selected (act.TranslateTo by)
step_kept u selected (act.TranslateBy by) = cut_kept u selected (act.TranslateBy by)
step_kept u selected (act.TranslateBackwardBy by) = cut_kept u selected (act.TranslateBackwardBy by)
step_kept u selected (act.Stride by) = cut_kept u selected (act.Stride by)
step_kept u selected (act.Transpose targets) =
    let given = all_of (position_of (rank_of u)) targets in
    either u (not (length targets == length selected)) (Err Count) (to_targets u selected given) (refused u Count) (targets_kept u selected given)
step_kept u selected act.Diagonal = either u _ _ _ (refused u _) (over_kept u (diagonal_view u selected))
step_kept u selected (act.At by) = either u _ _ _ (refused u _) (unless_kept u _ _ (over_kept u _))
step_kept u selected (act.Slice by) = cut_kept u selected (act.Slice by)
step_kept u selected (act.Oindex arrays) = either u _ _ _ (refused u _) (unless_kept u _ _ (over_kept u _))
step_kept u selected (act.Vindex arrays) = either u _ _ _ (refused u _) (unless_kept u _ _ (over_kept u (vindex_view u selected arrays)))
step_kept u selected act.Newaxis = either u _ _ _ (over_kept u _) (refused u _)
step_kept u selected (act.MarkBoundsImplicit lower upper) = either u _ _ _ (refused u _) (same_maps u (with_marks u selected lower upper) refl)

numbered_kept : (number : ℕ) (u : DomainAndMaps) (r : Result DomainAndMaps Cause) → Keeps u r → Keeps u (numbered number r)
numbered_kept number u (Ok t) k = same_maps u t (k.count t refl)
numbered_kept number u (Err cause) k = refused u _

after_kept : (number : ℕ) (u : DomainAndMaps) (step : Step) → Keeps u (after_step number u step)
after_kept number u step = by (selected_of step u.domain)
  where
    by : (r : Result (List ℕ) SelectError) → Keeps u (answer_on number u step r)
    by (Ok dims) = numbered_kept number u (step_answer u dims step.act) (step_kept u dims step.act)
    by (Err e) = refused u _

from_kept : (number : ℕ) (u : DomainAndMaps) (steps : List Step) → Keeps u (applied_from number u steps)
from_kept number u [] = same_maps u u refl
from_kept number u (step ∷ steps) = by (after_step number u step) (after_kept number u step) (λ t. from_kept (number + 1) t steps)
  where
    by : (r : Result DomainAndMaps ApplyError) → Keeps u r → ((t : DomainAndMaps) → Keeps t (applied_from (number + 1) t steps)) → Keeps u (elim r [ Ok t ↦ applied_from (number + 1) t steps | Err e ↦ Err e ])
    by (Ok t) k rest = record { count = λ v is. (rest t).count v is ∙ k.count t refl }
    by (Err e) k rest = refused u e

-- the transform after the last of some steps has as many outputs
pub applied-outputs : (u t : DomainAndMaps) (steps : List Step) → applied u steps ≡ Ok t → length t.maps ≡ length u.maps
applied-outputs u t steps e = (from_kept 0 u steps).count t e
