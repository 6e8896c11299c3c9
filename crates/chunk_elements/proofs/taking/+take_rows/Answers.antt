use Rattle.std.proofs.Common.{◌≡◌, ◌≤◌, ◌+◌, ◌*◌, ◌-◌, length, get_or, drop, ap, sym, subst, ◌∙◌, arith}
use Rattle.std.proofs.lemmas.List.{length-drop, length-replicate, length-take-le}
use Rattle.cells.specs.Bytes.{byte_count}
use Rattle.cells.specs.Places.{cell_count}
use Rattle.chunk_elements.specs.Rows.{items_of, words_of_rows}
use Rattle.chunk_elements.proofs.RowSteps.{behind, behind_fits, reads_row}
use Rattle.chunk_elements.proofs.TakeLaws.{IsTaken, all_taken, taken_more, takes_part, zero_part}
use Rattle.chunk_elements.proofs.taking.+take_rows.Goals as goal

pub overflow_mul-next : goal.overflow_mul-next
overflow_mul-next t c =
    let row = reads_row c.args.block.now c.args.sizes.now c.args.step.stride c.args.step.from c.loop-i.i (byte_count c.args.kind.dtype) (length c.args.elements.now) (omega arith) (omega arith) c.requires.within c.requires.cells c.requires.room c.requires.stride c.requires.small c.loop-i-test.true in
    omega (arith, row.2.stride_fits)

pub overflow_mul-next-in-loop-i : goal.overflow_mul-next-in-loop-i
overflow_mul-next-in-loop-i t c =
    let row = reads_row c.args.block.now c.args.sizes.now c.args.step.stride c.args.step.from c.loop-i.i (byte_count c.args.kind.dtype) (length c.args.elements.now) (omega arith) (omega arith) c.requires.within c.requires.cells c.requires.room c.requires.stride c.requires.small c.loop-i-test.true in
    omega (arith, row.2.step_fits)

pub overflow_add-next : goal.overflow_add-next
overflow_add-next t c =
    let row = reads_row c.args.block.now c.args.sizes.now c.args.step.stride c.args.step.from c.loop-i.i (byte_count c.args.kind.dtype) (length c.args.elements.now) (omega arith) (omega arith) c.requires.within c.requires.cells c.requires.room c.requires.stride c.requires.small c.loop-i-test.true in
    omega (arith, row.2.from_fits)

pub overflow_mul-i : goal.overflow_mul-i
overflow_mul-i t c =
    let part = takes_part c.args.block.now c.args.sizes.now c.loop-i.i c.byte_count.result (omega arith) (omega arith) c.requires.within c.requires.volume c.byte_count.ensures.greatest c.loop-i-test.true in
    let same : c.cells_of.result ≡ cell_count (behind c.args.block.now) = c.cells_of.ensures in
    rw same (omega (arith, part.0, part.1))

pub overflow_mul-i-in-loop-i : goal.overflow_mul-i-in-loop-i
overflow_mul-i-in-loop-i t c =
    let part = takes_part c.args.block.now c.args.sizes.now c.loop-i.i c.byte_count.result (omega arith) (omega arith) c.requires.within c.requires.volume c.byte_count.ensures.greatest c.loop-i-test.true in
    let same : c.cells_of.result ≡ cell_count (behind c.args.block.now) = c.cells_of.ensures in
    rw same (omega (arith, part.0, part.1))

pub overflow_add-i : goal.overflow_add-i
overflow_add-i t c =
    let part = takes_part c.args.block.now c.args.sizes.now c.loop-i.i c.byte_count.result (omega arith) (omega arith) c.requires.within c.requires.volume c.byte_count.ensures.greatest c.loop-i-test.true in
    let same : c.cells_of.result ≡ cell_count (behind c.args.block.now) = c.cells_of.ensures in
    rw same (omega (arith, part.0, part.1))

pub slice_bounds-take_rows-end : goal.slice_bounds-take_rows-end
slice_bounds-take_rows-end t c =
    let part = takes_part c.args.block.now c.args.sizes.now c.loop-i.i c.byte_count.result (omega arith) (omega arith) c.requires.within c.requires.volume c.byte_count.ensures.greatest c.loop-i-test.true in
    let same : c.cells_of.result ≡ cell_count (behind c.args.block.now) = c.cells_of.ensures in
    let len : length c.loop-i.out ≡ cell_count c.args.block.now * byte_count c.args.kind.dtype = c.loop-i.auto.out ∙ ap length c.requires.zeros ∙ length-replicate (cell_count c.args.block.now * byte_count c.args.kind.dtype) 0 in
    let long : length c.loop-i.out ≡ cell_count c.args.block.now * c.byte_count.result = len ∙ ap (λ n. cell_count c.args.block.now * n) (sym c.byte_count.ensures.value) in
    rw same (omega (arith, part.0, long))

pub take_rows-requires : goal.take_rows-requires
take_rows-requires t c =
    let row = reads_row c.args.block.now c.args.sizes.now c.args.step.stride c.args.step.from c.loop-i.i (byte_count c.args.kind.dtype) (length c.args.elements.now) (omega arith) (omega arith) c.requires.within c.requires.cells c.requires.room c.requires.stride c.requires.small c.loop-i-test.true in
    let part = takes_part c.args.block.now c.args.sizes.now c.loop-i.i c.byte_count.result (omega arith) (omega arith) c.requires.within c.requires.volume c.byte_count.ensures.greatest c.loop-i-test.true in
    let same : c.cells_of.result ≡ cell_count (behind c.args.block.now) = c.cells_of.ensures in
    let len : length c.loop-i.out ≡ cell_count c.args.block.now * byte_count c.args.kind.dtype = c.loop-i.auto.out ∙ ap length c.requires.zeros ∙ length-replicate (cell_count c.args.block.now * byte_count c.args.kind.dtype) 0 in
    let long : length c.loop-i.out ≡ cell_count c.args.block.now * c.byte_count.result = len ∙ ap (λ n. cell_count c.args.block.now * n) (sym c.byte_count.ensures.value) in
    let one : 1 ≤ length c.args.block.now = omega arith in
    let here : c.cells_of.result * c.byte_count.result ≡ cell_count (behind c.args.block.now) * byte_count c.args.kind.dtype = ap (λ n. n * c.byte_count.result) same ∙ ap (λ n. cell_count (behind c.args.block.now) * n) c.byte_count.ensures.value in
    let fits : c.cells_of.result * c.byte_count.result ≤ length c.args.out.now - c.loop-i.i * (c.cells_of.result * c.byte_count.result) = rw same (omega (arith, part.0, long, c.loop-i.auto.out)) in
    let zeros = zero_part (c.loop-i.i * (c.cells_of.result * c.byte_count.result)) (c.cells_of.result * c.byte_count.result) (cell_count (behind c.args.block.now) * byte_count c.args.kind.dtype) _ c.loop-i.out c.loop-i.invariant.rest here fits in
    (omega (arith, row.0), (row.1, (row.2.cells, (behind_fits c.args.block.now one c.requires.cells c.requires.volume, (row.2.room, (row.2.fits, (c.requires.small, zeros)))))))

pub loop-i-preserved : goal.loop-i-preserved
loop-i-preserved t c =
    let part = takes_part c.args.block.now c.args.sizes.now c.loop-i.i c.byte_count.result (omega arith) (omega arith) c.requires.within c.requires.volume c.byte_count.ensures.greatest c.loop-i-test.true in
    let same : c.cells_of.result ≡ cell_count (behind c.args.block.now) = c.cells_of.ensures in
    let len : length c.loop-i.out ≡ cell_count c.args.block.now * byte_count c.args.kind.dtype = c.loop-i.auto.out ∙ ap length c.requires.zeros ∙ length-replicate (cell_count c.args.block.now * byte_count c.args.kind.dtype) 0 in
    let long : length c.loop-i.out ≡ cell_count c.args.block.now * c.byte_count.result = len ∙ ap (λ n. cell_count c.args.block.now * n) (sym c.byte_count.ensures.value) in
    let within : c.loop-i.i * (c.cells_of.result * c.byte_count.result) ≤ length c.loop-i.out = rw same (omega (arith, part.0, long)) in
    let room : c.loop-i.i * (c.cells_of.result * c.byte_count.result) + c.cells_of.result * c.byte_count.result ≤ length c.loop-i.out = rw same (omega (arith, part.0, long)) in
    taken_more _ _ c.loop-i.i (c.cells_of.result * c.byte_count.result) c.loop-i.out c.take_rows.new.out c.loop-i.invariant c.take_rows.ensures (c.take_rows.auto.out ∙ length-take-le (c.loop-i.i * (c.cells_of.result * c.byte_count.result) + c.cells_of.result * c.byte_count.result - c.loop-i.i * (c.cells_of.result * c.byte_count.result)) (drop (c.loop-i.i * (c.cells_of.result * c.byte_count.result)) c.loop-i.out) (rw length-drop (omega (arith, room)))) within

pub returns : goal.returns
returns t c =
    let one : 1 ≤ length c.args.block.now = omega arith in
    let end : c.loop-i.i ≡ get_or c.args.sizes.now 0 0 = omega arith in
    let here : c.cells_of.result * c.byte_count.result ≡ cell_count (behind c.args.block.now) * byte_count c.args.kind.dtype = ap (λ n. n * c.byte_count.result) c.cells_of.ensures ∙ ap (λ n. cell_count (behind c.args.block.now) * n) c.byte_count.ensures.value in
    let len : length c.args.out.now ≡ cell_count c.args.block.now * byte_count c.args.kind.dtype = ap length c.requires.zeros ∙ length-replicate (cell_count c.args.block.now * byte_count c.args.kind.dtype) 0 in
    all_taken c.args.kind.dtype c.args.kind.big c.args.block.now c.args.sizes.now c.args.step.stride c.args.step.from c.args.elements.now c.loop-i.out c.loop-i.i (c.cells_of.result * c.byte_count.result) one (omega arith) c.requires.within end here
    (subst (λ n. IsTaken (λ k. items_of c.args.kind.dtype (words_of_rows c.args.kind.dtype c.args.kind.big (behind c.args.block.now) (behind c.args.sizes.now) (c.args.step.stride * get_or c.args.sizes.now 0 0) (c.args.step.from + k * c.args.step.stride) c.args.elements.now)) n c.loop-i.i (c.cells_of.result * c.byte_count.result) c.loop-i.out) len c.loop-i.invariant)
