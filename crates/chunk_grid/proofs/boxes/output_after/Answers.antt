use Rattle.std.proofs.Common.{◌≡◌, ◌∙◌, ◌+ℤ◌, ◌*ℤ◌, w64, FitsSigned, rules, arith}
use Rattle.std.proofs.lemmas.Int.{ints, to_z-of_z}
use Rattle.chunk_grid.specs.BoxSteps.{index_after}
use Rattle.chunk_grid.proofs.BoxCuts.{index-within}
use Rattle.chunk_grid.proofs.boxes.output_after.Goals as goal

pub overflow_cast-result : goal.overflow_cast-result
overflow_cast-result c =
    let d = c.args.dim.now in
    let within = index-within d c.args.up c.args.steps c.requires.within in
    let place = c.requires.values (index_after d c.args.up c.args.steps) within.0 within.1 in
    let from = place.from_zero in
    let below = place.below in
    let fits_offset : FitsSigned w64 c.args.offset = search rules in
    let fits_stride : FitsSigned w64 c.args.stride = search rules in
    let fits_index : FitsSigned w64 c.index_after.result = search rules in
    let offset = to_z-of_z w64 c.args.offset fits_offset in
    let stride = to_z-of_z w64 c.args.stride fits_stride in
    let index = to_z-of_z w64 c.index_after.result fits_index ∙ c.index_after.ensures in
    let is : c.output_at.result ≡ c.args.offset +ℤ c.args.stride *ℤ index_after d c.args.up c.args.steps = c.output_at.ensures ∙ (λ i. offset i +ℤ stride i *ℤ index i) in
    omega (arith, ints)
