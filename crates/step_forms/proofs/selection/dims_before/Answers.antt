use Rattle.std.proofs.Common.{◌≡◌, ◌≢◌, ◌<◌, ℤ, ◌++◌, ◌∷◌, [], sym, subst, rules, arith, pos, ◌+ℤ◌, to_z, of_z, w64}
use Rattle.std.specs.Int.{w128}
use Rattle.std.proofs.lemmas.Int.{ints, to_z-of_z}
use Rattle.std.proofs.lemmas.List.Elements.{All-push}
use Rattle.json_forms.specs.Lists.{all_of}
use Rattle.step_forms.specs.Selection.{dim_numbered, all_before}
use Rattle.step_forms.proofs.Gathered.{Gathered}
use Rattle.step_forms.proofs.Ranges.{reach, reach_falls, range_found, range_unknown, range_ended}
use Rattle.step_forms.proofs.selection.dims_before.Goals as goal

pub returns-in_default-clause-value : goal.returns-in_default-clause-value
returns-in_default-clause-value c =
    let st = to_z-of_z w64 c.args.step c.ranges.step in
    let sp = to_z-of_z w128 c.args.stop c.ranges.stop in
    let sa = to_z-of_z w128 c.args.start c.ranges.start in
    let moves : (to_z w64 (of_z w64 c.args.step)) ≢ pos 0 = omega (arith, ints) in
    rw (← st, ← sp, ← sa)
    (range_unknown c.args.rank (to_z w64 (of_z w64 c.args.step)) (to_z w128 (of_z w128 c.args.stop)) (to_z w128 c.loop-dim.x-bits) c.loop-dim.dims.items (all_of (dim_numbered c.args.rank) (all_before (to_z w64 (of_z w64 c.args.step)) (to_z w128 (of_z w128 c.args.stop)) (to_z w128 (of_z w128 c.args.start)))) moves (sym c.loop-dim-test.ensures) (search rules) c.loop-dim.invariant.found)

pub returns-clause-value : goal.returns-clause-value
returns-clause-value c =
    let st = to_z-of_z w64 c.args.step c.ranges.step in
    let sp = to_z-of_z w128 c.args.stop c.ranges.stop in
    let sa = to_z-of_z w128 c.args.start c.ranges.start in
    let moves : (to_z w64 (of_z w64 c.args.step)) ≢ pos 0 = omega (arith, ints) in
    rw (← st, ← sp, ← sa)
    (range_ended c.args.rank (to_z w64 (of_z w64 c.args.step)) (to_z w128 (of_z w128 c.args.stop)) (to_z w128 c.loop-dim.x-bits) c.loop-dim.dims.items (all_of (dim_numbered c.args.rank) (all_before (to_z w64 (of_z w64 c.args.step)) (to_z w128 (of_z w128 c.args.stop)) (to_z w128 (of_z w128 c.args.start)))) (sym c.loop-dim-test.ensures) c.loop-dim.invariant.found)

pub loop-dim-smaller : goal.loop-dim-smaller
loop-dim-smaller c =
    let st = to_z-of_z w64 c.args.step c.ranges.step in
    let sp = to_z-of_z w128 c.args.stop c.ranges.stop in
    let sa = to_z-of_z w128 c.args.start c.ranges.start in
    let moves : (to_z w64 (of_z w64 c.args.step)) ≢ pos 0 = omega (arith, ints) in
    let sum : (to_z w128 (of_z w128 ((to_z w128 c.loop-dim.x-bits) +ℤ to_z w128 (of_z w128 c.from-x.result)))) ≡ (to_z w128 c.loop-dim.x-bits) +ℤ (to_z w64 (of_z w64 c.args.step)) = omega (arith, ints, c.in-Some.ensures.bound.0, c.in-Some.ensures.bound.1) in
    subst (λ (z : ℤ). reach (to_z w64 (of_z w64 c.args.step)) (to_z w128 (of_z w128 c.args.stop)) z < reach (to_z w64 (of_z w64 c.args.step)) (to_z w128 (of_z w128 c.args.stop)) (to_z w128 c.loop-dim.x-bits)) (sym sum) (reach_falls (to_z w64 (of_z w64 c.args.step)) (to_z w128 (of_z w128 c.args.stop)) (to_z w128 c.loop-dim.x-bits) moves (sym c.loop-dim-test.ensures))

pub loop-dim-preserved : goal.loop-dim-preserved
loop-dim-preserved c =
    let st = to_z-of_z w64 c.args.step c.ranges.step in
    let sp = to_z-of_z w128 c.args.stop c.ranges.stop in
    let sa = to_z-of_z w128 c.args.start c.ranges.start in
    let moves : (to_z w64 (of_z w64 c.args.step)) ≢ pos 0 = omega (arith, ints) in
    let sum : (to_z w128 (of_z w128 ((to_z w128 c.loop-dim.x-bits) +ℤ to_z w128 (of_z w128 c.from-x.result)))) ≡ (to_z w128 c.loop-dim.x-bits) +ℤ (to_z w64 (of_z w64 c.args.step)) = omega (arith, ints, c.in-Some.ensures.bound.0, c.in-Some.ensures.bound.1) in
    let pushed : c.push.new.self.items ≡ c.loop-dim.dims.items ++ c.in-Some.dim ∷ [] = search rules in
    let more = range_found c.args.rank (to_z w64 (of_z w64 c.args.step)) (to_z w128 (of_z w128 c.args.stop)) (to_z w128 c.loop-dim.x-bits) c.in-Some.dim c.loop-dim.dims.items (all_of (dim_numbered c.args.rank) (all_before (to_z w64 (of_z w64 c.args.step)) (to_z w128 (of_z w128 c.args.stop)) (to_z w128 (of_z w128 c.args.start)))) moves (sym c.loop-dim-test.ensures) (sym c.in-Some.ensures.value) c.loop-dim.invariant.found in
    record {
      found = subst (λ (z : ℤ). Gathered c.push.new.self.items (all_of (dim_numbered c.args.rank) (all_before (to_z w64 (of_z w64 c.args.step)) (to_z w128 (of_z w128 c.args.stop)) z)) (all_of (dim_numbered c.args.rank) (all_before (to_z w64 (of_z w64 c.args.step)) (to_z w128 (of_z w128 c.args.stop)) (to_z w128 (of_z w128 c.args.start))))) (sym sum)
          (subst (λ ds. Gathered ds (all_of (dim_numbered c.args.rank) (all_before (to_z w64 (of_z w64 c.args.step)) (to_z w128 (of_z w128 c.args.stop)) ((to_z w128 c.loop-dim.x-bits) +ℤ (to_z w64 (of_z w64 c.args.step))))) (all_of (dim_numbered c.args.rank) (all_before (to_z w64 (of_z w64 c.args.step)) (to_z w128 (of_z w128 c.args.stop)) (to_z w128 (of_z w128 c.args.start))))) (sym pushed) more);
      known = rw pushed (All-push (λ dim. dim < c.args.rank) c.loop-dim.dims.items c.in-Some.dim c.loop-dim.invariant.known c.in-Some.ensures.bound.0);
    }
