use Rattle.std.proofs.Common.{◌≡◌, ◌∙◌, suc, ℕ, ◌+◌, ◌-◌, ◌<◌, ◌≤◌, List, ◌∷◌, Option, Result, Ok, Err, length, map, drop, get_or, refl, sym, ap, arith}
use Rattle.std.proofs.Math.Seq.{drop-cons}
use Rattle.std.specs.List.{enumerate_from}
use Rattle.std.specs.Result.{result_err}
use Rattle.index_intervals.specs.Bounds.{Bounds}
use Rattle.transform_composition.specs.Reading.{point}
use Rattle.transform_composition.proofs.Laws.{get_or-inside}
use Rattle.step_forms.specs.declared.act.Act.{Act}
use Rattle.dim_changes.specs.declared.cause.Cause.{Cause}
use Rattle.dim_changes.specs.declared.cut.Cut.{Cut}
use Rattle.dim_changes.specs.Causes.{with_cause, first_cause}
use Rattle.dim_changes.specs.Cuts.{cut_for}
use Rattle.dim_changes.specs.CutViews.{cause_at}
use Rattle.dim_changes.specs.Dims.{dim_at}
use Rattle.dim_changes.proofs.cutting.cut_causes.Goals as goal

result_err-cause_at : (r : Result Cut Cause) → result_err r ≡ cause_at r
result_err-cause_at (Ok cut) = refl
result_err-cause_at (Err c) = refl

-- the cause at one selected dimension, and those behind it
step : (a : Act) (dims : List Bounds) (selected : List ℕ) (k x : ℕ) (dim : Bounds) (r : Result Cut Cause) (here cause : Option Cause)
    → 0 < k → k ≤ length selected → x ≡ get_or selected (k - 1) 0 → x < length dims → dim ≡ get_or dims x dim → r ≡ cut_for a (k - 1) dim
    → here ≡ result_err r → cause ≡ first_cause (map (λ p. cause_at (cut_for a p.0 (dim_at dims p.1))) (enumerate_from k (drop k selected)))
    → with_cause here cause ≡ first_cause (map (λ p. cause_at (cut_for a p.0 (dim_at dims p.1))) (enumerate_from (k - 1) (drop (k - 1) selected)))
step a dims selected k x dim r here cause some most ex less ed er eh ec =
    let f : ℕ × ℕ → Option Cause = λ p. cause_at (cut_for a p.0 (dim_at dims p.1)) in
    let z : suc (k - 1) ≡ k = omega (arith, some) in
    let y : k - 1 + 1 ≡ k = omega (arith, some) in
    let h : k - 1 < length selected = omega (arith, some, most) in
    let d : dim ≡ dim_at dims x = ed ∙ get_or-inside dims x dim point less in
    let at : here ≡ f (k - 1, x) = eh ∙ result_err-cause_at r ∙ ap cause_at (er ∙ ap (cut_for a (k - 1)) d) in
    let front : drop (k - 1) selected ≡ x ∷ drop k selected =
    drop-cons selected (k - 1) 0 h ∙ ap (λ (n : ℕ). n ∷ drop (suc (k - 1)) selected) (sym ex) ∙ ap (λ (n : ℕ). x ∷ drop n selected) z in
    let more : first_cause (map f (enumerate_from (k - 1) (drop (k - 1) selected))) ≡ with_cause (f (k - 1, x)) (first_cause (map f (enumerate_from k (drop k selected)))) =
    ap (λ (xs : List ℕ). first_cause (map f (enumerate_from (k - 1) xs))) front
    ∙ ap (λ (n : ℕ). with_cause (f (k - 1, x)) (first_cause (map f (enumerate_from n (drop k selected))))) y in
    ap (λ c. with_cause c cause) at ∙ ap (with_cause (f (k - 1, x))) ec ∙ sym more

pub loop-k-preserved : goal.loop-k-preserved
loop-k-preserved c =
    let h : c.loop-k.k - 1 < length c.args.selected.now = omega (arith, c.loop-k-test.true, c.loop-k.invariant.0) in
    let x : ℕ = get_or c.args.selected.now (c.loop-k.k - 1) 0 in (
      omega (arith, c.loop-k.invariant.0),
      c.with_cause-cause.ensures
          ∙ step c.args.act.now c.args.dims.now c.args.selected.now c.loop-k.k x c.index-dims-selected.result c.cut_for.result c.err.result c.loop-k.cause
          c.loop-k-test.true c.loop-k.invariant.0 refl (c.requires.known (c.loop-k.k - 1) 0 h) c.index-dims-selected.is c.cut_for.ensures c.err.ensures.value
          c.loop-k.invariant.1,
    )
