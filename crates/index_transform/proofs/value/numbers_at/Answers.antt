use Rattle.std.proofs.Common.{◌≡◌, ◌∙◌, ◌++◌, ◌∷◌, [], not, sym, ap, arith, ℤ, List, map, take, to_z, of_z, w64}
use Rattle.std.proofs.lemmas.Int.{ints}
use Rattle.std.specs.Int.{w128}
use Rattle.index_intervals.specs.Bounds.{is_index}
use Rattle.index_transform.specs.Values.{map_value}
use Rattle.index_transform.proofs.ListLemmas.{map-take-more, position_from-more}
use Rattle.index_transform.proofs.value.numbers_at.Goals as goal

pub loop-output-preserved : goal.loop-output-preserved
loop-output-preserved c =
    let n : to_z w128 (of_z w128 c.value-number.result) ≡ c.value-number.result = omega (arith, ints) in
    let i = (rw n at (c.is_index.ensures.meaning.0 c.if-not-is_index.false)) in
    let cast : to_z w64 (of_z w64 (to_z w128 (of_z w128 c.value-number.result))) ≡ c.value-number.result = omega (arith, ints, i.above, i.below) in
    let stored = c.is_err.ensures.negation ∙ ap not c.if-is_err.false in
    let pushed = (rw (stored, cast) at c.push.ensures.items) in
    let test = sym (rw n at c.is_index.ensures.value) ∙ c.if-not-is_index.false in
    let fails = ap not (sym (ap is_index c.value-number.ensures) ∙ test) in (
      pushed ∙ ap (λ (xs : List ℤ). xs ++ c.value-number.result ∷ []) c.loop-output.invariant.0
          ∙ ap (λ (z : ℤ). map (map_value c.args.dims.now c.args.index.now) (take c.loop-output.output c.args.maps.now) ++ z ∷ []) c.value-number.ensures
          ∙ sym (map-take-more (map_value c.args.dims.now c.args.index.now) c.args.maps.now c.loop-output.output c.index-maps-output.result c.loop-output-test.true c.index-maps-output.is),
      c.loop-output.invariant.1 ∙ position_from-more (λ x. not (is_index x)) (map_value c.args.dims.now c.args.index.now) c.args.maps.now c.loop-output.output c.index-maps-output.result c.loop-output-test.true c.index-maps-output.is fails,
    )
