use Rattle.std.proofs.Common.{◌≡◌, ◌∙◌, ℕ, ◌==◌, true, List, [], length, ap, refl, sym, subst, arith, Option, Some, option_map}
use Rattle.std.proofs.lemmas.Bool.Decides.{nat_tests}
use Rattle.std.specs.Option.{unwrap_or}
use Rattle.index_intervals.specs.Bounds.{Bounds}
use Rattle.index_transform.specs.Transforms.{DomainAndMaps}
use Rattle.json_forms.specs.Lists.{all_of}
use Rattle.dim_changes.specs.Causes.{Gives}
use Rattle.dim_changes.proofs.Laws.{gives-same}
use Rattle.dim_changes.specs.Dims.{position_of}
use Rattle.dim_expressions.specs.Transpose.{to_targets, transpose_view, transpose_answer}
use Rattle.dim_expressions.proofs.TargetLaws.{length-all_of}
use Rattle.dim_expressions.proofs.transpose.transpose.Goals as goal

-- the answer for positions that were found
to-found : (u : DomainAndMaps) (selected found : List ℕ) (targets : List _) → all_of (position_of (length u.domain.dims)) targets ≡ Some found
    → length targets ≡ length selected → to_targets u selected (Some found) ≡ transpose_answer u selected targets
to-found u selected found targets e l =
    let same : (length targets == length selected) ≡ true = grind (arith, nat_tests, l) in
    ap (to_targets u selected) (sym e) ∙ rw same refl

pub to_targets-requires-clause-same : goal.to_targets-requires-clause-same
to_targets-requires-clause-same c =
    let u = c.args.u.now in
    let l : length c.args.targets.now ≡ length c.args.selected.now = grind (arith, nat_tests, c.if-targets-selected.false) in
    let found = sym c.in_ok-positions.ensures.value ∙ ap (option_map (λ v. v.items)) c.in-Some.is in
    ap length c.deref.ensures.value ∙ length-all_of (position_of (length c.items-rank.result.now)) c.args.targets.now c.in-Some.positions.items found ∙ l

pub returns-in-Some : goal.returns-in-Some
returns-in-Some c =
    let u = c.args.u.now in
    let l : length c.args.targets.now ≡ length c.args.selected.now = grind (arith, nat_tests, c.if-targets-selected.false) in
    let olds = c.items-rank.ensures ∙ ap (λ d. d.dims) c.domain.ensures.value in
    let found = ap (λ (ds : List Bounds). all_of (position_of (length ds)) c.args.targets.now) (sym olds) ∙ sym c.in_ok-positions.ensures.value ∙ ap (option_map (λ v. v.items)) c.in-Some.is in
    let positions = c.deref.ensures.value ∙ sym (ap (λ (o : Option (List ℕ)). unwrap_or o []) found) in
    let answer = ap (λ (xs : List ℕ). to_targets u c.args.selected.now (Some xs)) c.deref.ensures.value ∙ to-found u c.args.selected.now c.in-Some.positions.items c.args.targets.now found l in
    gives-same u _ (to_targets u c.args.selected.now (Some c.deref.result.now)) (transpose_answer u c.args.selected.now c.args.targets.now) c.to_targets.result answer
    (subst (λ (xs : List ℕ). Gives u (transpose_view u c.args.selected.now xs) (to_targets u c.args.selected.now (Some c.deref.result.now)) c.to_targets.result) positions c.to_targets.ensures)
