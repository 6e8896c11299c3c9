use Rattle.std.proofs.Common.{rules, ap, sym, subst, false, FitsSigned, ◌∙◌, ◌≡◌, ◌+◌, ◌-◌, pos, ◌-ℤ◌, arith, Bool, to_z, of_z, w64}
use Rattle.std.proofs.lemmas.Int.{ints, to_z-of_z}
use Rattle.index_intervals.specs.Bounds.{Bounds, AreBounds}
use Rattle.chunk_grid.proofs.BoxBounds.{bounds-narrowed, narrowed-part}
use Rattle.chunk_grid.specs.BoxSteps.{index_after, part_after}
use Rattle.chunk_grid.proofs.boxes.part_after.Goals as goal

pub invariant_of-result : goal.invariant_of-result
invariant_of-result c =
    let d = c.args.dim.now in
    let first = c.index_after-first.ensures ∙ ap (λ (b : Bool). index_after d b c.args.done) c.if-up.false in
    let last = c.index_after-last.ensures ∙ ap (λ (b : Bool). index_after d b (c.args.done + (c.args.len - 1))) c.if-up.false in
    let fits_first : FitsSigned w64 c.index_after-first.result = search rules in
    let fits_last : FitsSigned w64 c.index_after-last.result = search rules in
    let stored_first = to_z-of_z w64 c.index_after-first.result fits_first in
    let stored_last = to_z-of_z w64 c.index_after-last.result fits_last in
    let is = c.dim.view_is in
    let some = c.requires.some in
    let lo : to_z w64 (of_z w64 c.index_after-last.result) ≡ (d.hi -ℤ pos c.args.done) -ℤ (pos c.args.len -ℤ pos 1) = omega (arith, ints, last, stored_last, some) in
    let hi = stored_first ∙ first in
    let same : (let b : Bounds = record { lo = to_z w64 (of_z w64 c.index_after-last.result); hi = to_z w64 (of_z w64 c.index_after-first.result); lo_implicit = c.dim.inside.lo_implicit; hi_implicit = c.dim.inside.hi_implicit } in b) ≡ part_after d false c.args.done c.args.len = λ i. record { lo = lo i; hi = hi i; lo_implicit = (is i).lo_implicit; hi_implicit = (is i).hi_implicit } in
    subst AreBounds (sym same) (bounds-narrowed d (part_after d false c.args.done c.args.len) c.requires.finite (narrowed-part d false c.args.done c.args.len some c.requires.within))

pub returns-else-up : goal.returns-else-up
returns-else-up c =
    let d = c.args.dim.now in
    let first = c.index_after-first.ensures ∙ ap (λ (b : Bool). index_after d b c.args.done) c.if-up.false in
    let last = c.index_after-last.ensures ∙ ap (λ (b : Bool). index_after d b (c.args.done + (c.args.len - 1))) c.if-up.false in
    let fits_first : FitsSigned w64 c.index_after-first.result = search rules in
    let fits_last : FitsSigned w64 c.index_after-last.result = search rules in
    let stored_first = to_z-of_z w64 c.index_after-first.result fits_first in
    let stored_last = to_z-of_z w64 c.index_after-last.result fits_last in
    let is = c.dim.view_is in
    let some = c.requires.some in
    let lo : to_z w64 (of_z w64 c.index_after-last.result) ≡ (d.hi -ℤ pos c.args.done) -ℤ (pos c.args.len -ℤ pos 1) = omega (arith, ints, last, stored_last, some) in
    let hi = stored_first ∙ first in
    (λ i. record { lo = lo i; hi = hi i; lo_implicit = (is i).lo_implicit; hi_implicit = (is i).hi_implicit })
    ∙ ap (λ (b : Bool). part_after d b c.args.done c.args.len) (sym c.if-up.false)
