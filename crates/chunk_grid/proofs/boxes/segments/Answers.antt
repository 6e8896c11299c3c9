use Rattle.std.proofs.Common.{rules, ◌≡◌, ◌∙◌, ◌≤◌, ◌<◌, ◌+◌, ◌-◌, ◌/◌, ◌*◌, ℕ, ℤ, ◌+ℤ◌, ◌*ℤ◌, unsigned_abs, List, Bool, FitsSigned, to_z, of_z, w64, arith, sym, ap, subst, refl}
use Rattle.std.proofs.lemmas.Int.{ints, to_z-of_z}
use Rattle.index_transform.specs.Maps.{size_of}
use Rattle.chunk_grid.specs.declared.boxes.Segment.{Segment}
use Rattle.chunk_grid.specs.BoxSteps.{IsCut, IsPlaceAlong, strided_number, goes_up, index_after, part_after}
use Rattle.chunk_grid.proofs.BoxCuts.{AreSegments, index-within, segments-step, cut-all}
use Rattle.chunk_grid.proofs.boxes.segments.Goals as goal

pub loop-done-preserved : goal.loop-done-preserved
loop-done-preserved c =
    let d = c.args.dim.now in
    let done = c.loop-done.done in
    let len = c.reach_from-len.result in
    let fits_offset : FitsSigned w64 c.args.offset = search rules in
    let fits_stride : FitsSigned w64 c.args.stride = search rules in
    let offset = to_z-of_z w64 c.args.offset fits_offset in
    let stride = to_z-of_z w64 c.args.stride fits_stride in
    let o = to_z w64 (of_z w64 c.args.offset) in
    let s = to_z w64 (of_z w64 c.args.stride) in
    let count = c.size_of-count.ensures in
    let under : done < size_of d = omega (arith, count, c.loop-done-test.true) in
    let most : len ≤ size_of d - done = omega (arith, count, c.reach_from-len.ensures.most) in
    let filled = c.requires.filled in
    let within = index-within d (goes_up s) done (omega (arith, ints, under, filled)) in
    let place = subst IsPlaceAlong (λ i. (sym offset) i +ℤ (sym stride) i *ℤ index_after d (goes_up s) done) (c.requires.values (index_after d (goes_up s) done) within.0 within.1) in
    let by = c.unsigned_abs.ensures.value in
    let output = c.output_after-output.ensures ∙ ap (λ (b : Bool). unsigned_abs (o +ℤ s *ℤ index_after d b done)) c.goes_up-up.ensures in
    let next : Segment = record { number = c.output_after-output.result / c.args.size; dim = c.part_after.result } in
    let more = segments-step o s c.args.size d done len c.output_after-output.result c.loop-done.segments.items next c.loop-done.invariant.cut under c.reach_from-len.ensures.some most filled place.from_zero output
    (subst (λ (n : ℕ). (k : ℕ) → k < len → (c.output_after-output.result + n * k) / c.args.size ≡ c.output_after-output.result / c.args.size) by c.reach_from-len.ensures.stays)
    (λ k low high. subst (λ (n : ℕ). c.output_after-output.result / c.args.size < (c.output_after-output.result + n * k) / c.args.size) by (c.reach_from-len.ensures.leaves k low (omega (arith, high, count))))
    refl (c.part_after.ensures ∙ ap (λ (b : Bool). part_after d b done len) c.goes_up-up.ensures) in
    record {
      within = omega (arith, most, under);
      cut = subst (λ (xs : List Segment). AreSegments (strided_number o s c.args.size) d (goes_up s) (done + len) xs) (sym c.in_ok-push.ensures.items) more;
    }

pub returns : goal.returns
returns c =
    let d = c.args.dim.now in
    let fits_offset : FitsSigned w64 c.args.offset = search rules in
    let fits_stride : FitsSigned w64 c.args.stride = search rules in
    let offset = to_z-of_z w64 c.args.offset fits_offset in
    let stride = to_z-of_z w64 c.args.stride fits_stride in
    let count = c.size_of-count.ensures in
    let o = to_z w64 (of_z w64 c.args.offset) in
    let s = to_z w64 (of_z w64 c.args.stride) in
    let all = cut-all (strided_number o s c.args.size) d (goes_up s) c.loop-done.done c.loop-done.segments.items c.loop-done.invariant.cut (omega (arith, count, c.loop-done-test.false)) in
    subst (λ (f : ℤ → ℕ). IsCut f d c.loop-done.segments.items) (λ i. strided_number (offset i) (stride i) c.args.size) all
