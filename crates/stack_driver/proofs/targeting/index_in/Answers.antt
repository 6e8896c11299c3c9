use Rattle.std.proofs.Common.{◌≡◌, ◌∙◌, ◌+◌, ◌++◌, ◌∷◌, [], not, ℤ, List, ◌≤ℤ◌, ◌<ℤ◌, pos, map, get_or, drop, sym, ap, subst, arith, unsigned_abs, to_z, of_z, w64}
use Rattle.std.specs.Int.{w128}
use Rattle.std.specs.List.{All}
use Rattle.std.proofs.lemmas.List.{length-map}
use Rattle.std.proofs.lemmas.List.Elements.{All-append}
use Rattle.std.proofs.lemmas.Int.{ints}
use Rattle.transform_composition.specs.Values.{value_at}
use Rattle.stack_driver.specs.Targets.{in_shape}
use Rattle.stack_driver.proofs.Members.{length-has_index, inside-has_index}
use Rattle.stack_driver.proofs.Shapes.{behind, behind-none, next, one}
use Rattle.stack_driver.proofs.targeting.index_in.Goals as goal

pub loop-dim-init : goal.loop-dim-init
loop-dim-init c =
    let none = (c.in_ok-numbers.ensures).items in
    subst (λ (xs : List ℤ). (in_shape 0 (value_at c.args.transform.now c.args.index.now) c.args.shape.now ≡ behind (map unsigned_abs xs) (in_shape 0 (value_at c.args.transform.now c.args.index.now) c.args.shape.now)) × All (λ x. pos 0 ≤ℤ x) xs) (sym none)
    (behind-none (in_shape 0 (value_at c.args.transform.now c.args.index.now) c.args.shape.now), λ k d h. absurd (omega (arith, h)))

pub number-number-requires-clause-rank : goal.number-number-requires-clause-rank
number-number-requires-clause-rank c = length-has_index c.args.transform.now.domain.dims c.args.index.now c.requires.inside

pub number-number-requires-clause-inside : goal.number-number-requires-clause-inside
number-number-requires-clause-inside c = inside-has_index c.args.transform.now.domain.dims c.args.index.now 0 c.requires.inside

pub loop-dim-preserved : goal.loop-dim-preserved
loop-dim-preserved c =
    let r = c.number-number.result in
    let k = c.loop-dim.dim in
    let n : to_z w128 (of_z w128 r) ≡ r = omega (arith, ints) in
    let size = get_or c.args.shape.now k 0 in
    let from : pos 0 ≤ℤ r = omega (arith, ints, n, c.if-number-lt0.false) in
    let to : r <ℤ pos size = omega (arith, ints, n, c.from.ensures, c.if-from-number.false) in
    let z : to_z w64 (of_z w64 (to_z w128 (of_z w128 r))) ≡ r = omega (arith, ints, n, from, to, c.type_inv.shape k) in
    let pushed : c.push.new.self.items ≡ c.loop-dim.numbers.items ++ r ∷ [] = (let stored = c.is_err.ensures.negation ∙ ap not c.if-is_err.false in rw (stored, z) at c.push.ensures.items) in
    let values = value_at c.args.transform.now c.args.index.now in
    let ranks = length-map c.args.transform.now.maps _ ∙ c.requires.ranks in
    subst (λ (xs : List ℤ). (in_shape 0 values c.args.shape.now ≡ behind (map unsigned_abs xs) (in_shape (k + 1) (drop (k + 1) values) (drop (k + 1) c.args.shape.now))) × All (λ x. pos 0 ≤ℤ x) xs) (sym pushed)
    (next values c.loop-dim.numbers.items c.args.shape.now k (in_shape 0 values c.args.shape.now) r c.loop-dim-test.true ranks c.number-number.ensures from to c.loop-dim.invariant.0, All-append (λ x. pos 0 ≤ℤ x) c.loop-dim.numbers.items (r ∷ []) c.loop-dim.invariant.1 (one (λ x. pos 0 ≤ℤ x) r from))
