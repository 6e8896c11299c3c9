use Rattle.std.proofs.Common.{◌≡◌, ◌<◌, length, get_or, pos, false, arith}
use Rattle.std.proofs.lemmas.List.{length-map}
use Rattle.index_intervals.specs.Bounds.{is_index}
use Rattle.index_transform.specs.Values.{value_at}
use Rattle.stack_targets.proofs.Members.{length-has_index, inside-has_index, no_domain}
use Rattle.stack_targets.proofs.landing.finite_values.Goals as goal

pub number-number-requires-clause-rank : goal.number-number-requires-clause-rank
number-number-requires-clause-rank c = length-has_index c.args.transform.now.domain.dims c.args.index.now c.requires.inside

pub number-number-requires-clause-inside : goal.number-number-requires-clause-inside
number-number-requires-clause-inside c = inside-has_index c.args.transform.now.domain.dims c.args.index.now 0 c.requires.inside

pub returns-then-not-is_index-clause-infinite : goal.returns-then-not-is_index-clause-infinite
returns-then-not-is_index-clause-infinite c = λ same dims.
    let values = value_at c.args.transform.now c.args.index.now in
    let ranks : length values ≡ length c.args.transform.now.maps = length-map c.args.transform.now.maps _ in
    let inside : c.loop-output.output < length values = omega (arith, c.loop-output-test.true, c.loop-output.auto.output-end, c.requires.room, c.loop-output.invariant.room, ranks) in
    let isnt : is_index (get_or values c.loop-output.output (pos 0)) ≡ false = grind (arith, c.number-number.ensures, c.is_index.ensures.value, c.if-not-is_index.true) in
    no_domain dims values c.loop-output.output (pos 0) inside isnt
