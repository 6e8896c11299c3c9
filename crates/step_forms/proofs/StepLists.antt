-- Steps that were read, and those that are left.
use Rattle.std.proofs.Common.{◌≡◌, ◌<◌, ◌≤◌, ℕ, ◌+◌, List, [], ◌∷◌, ◌++◌, length, map, drop, get_or, Some, None, Result, Ok, Err, refl, sym, ap, ◌∙◌}
use Rattle.std.proofs.lemmas.List.{drop_more}
use Rattle.std.proofs.Math.ListN.{drop_of_length-le}
use Rattle.serde_json.specs.View.{view}
use Rattle.serde_json.specs.declared.value.Value.{Value}
use Rattle.step_forms.specs.Steps.{before, steps_from, step_of_json}
use Rattle.step_forms.specs.declared.act.Step.{Step}
use Rattle.step_forms.specs.declared.error.StepsError.{StepsError}
use Rattle.step_forms.specs.declared.error.StepsError.TheVariants.{BadStep}

-- steps before what comes of the rest
abbrev pub onto : List Step → Result (List Step) StepsError → Result (List Step) StepsError
onto [] r = r
onto (step ∷ steps) r = before step (onto steps r)

pub onto-more : (steps : List Step) (step : Step) (r : Result (List Step) StepsError) → onto (steps ++ step ∷ []) r ≡ onto steps (before step r)
onto-more [] step r = refl
onto-more (s ∷ steps) step r = ap (before s) (onto-more steps step r)

pub onto-Err : (steps : List Step) (e : StepsError) → onto steps (Err e) ≡ Err e
onto-Err [] e = refl
onto-Err (s ∷ steps) e = ap (before s) (onto-Err steps e)

pub onto-Ok : (steps : List Step) → onto steps (Ok []) ≡ Ok steps
onto-Ok [] = refl
onto-Ok (s ∷ steps) = ap (before s) (onto-Ok steps)

-- steps that were read of the items before i, and what comes of the others, are what comes of all
abbrev pub IsRead : List Value → ℕ → List Step → Type 0
IsRead items i steps = onto steps (steps_from i (map view (drop i items))) ≡ steps_from 0 (map view items)

pub read_more : (items : List Value) (i : ℕ) (steps : List Step) (d : Value) (step : Step) → i < length items → step_of_json (view (get_or items i d)) ≡ Some step → IsRead items i steps → IsRead items (i + 1) (steps ++ step ∷ [])
read_more items i steps d step less is read =
    onto-more steps step (steps_from (i + 1) (map view (drop (i + 1) items)))
    ∙ sym (ap (λ vs. onto steps (steps_from i (map view vs))) (drop_more items i d less) ∙ ap (λ o. onto steps (elim o [ None ↦ Err (BadStep i) | Some n ↦ before n (steps_from (i + 1) (map view (drop (i + 1) items))) ])) is) ∙ read

pub read_none : (items : List Value) (i : ℕ) (steps : List Step) (d : Value) → i < length items → step_of_json (view (get_or items i d)) ≡ None → IsRead items i steps → steps_from 0 (map view items) ≡ Err (BadStep i)
read_none items i steps d less is read =
    sym read ∙ ap (λ vs. onto steps (steps_from i (map view vs))) (drop_more items i d less) ∙ ap (λ o. onto steps (elim o [ None ↦ Err (BadStep i) | Some n ↦ before n (steps_from (i + 1) (map view (drop (i + 1) items))) ])) is
    ∙ onto-Err steps (BadStep i)

pub read_all : (items : List Value) (i : ℕ) (steps : List Step) → length items ≤ i → IsRead items i steps → steps_from 0 (map view items) ≡ Ok steps
read_all items i steps past read = sym read ∙ ap (λ vs. onto steps (steps_from i (map view vs))) (drop_of_length-le items past) ∙ onto-Ok steps
