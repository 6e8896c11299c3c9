use Rattle.std.proofs.Common.{◌≡◌, ◌≤◌, ◌<◌, ◌+◌, ◌*◌, ◌-◌, ◌^◌, length, get_or, drop, ap, sym, ◌∙◌, arith}
use Rattle.std.proofs.lemmas.List.{length-drop, length-take-le}
use Rattle.cells.specs.Bytes.{byte_count}
use Rattle.cells.specs.Places.{cell_count}
use Rattle.chunk_elements.proofs.FitLaws.{within-same}
use Rattle.chunk_elements.proofs.RowSteps.{behind, behind_fits, reads_row}
use Rattle.std.proofs.Math.Nat.{mul-le-mul}
use Rattle.chunk_elements.proofs.PutLaws.{all_put, few_behind, part_length, put_more, puts_part}
use Rattle.chunk_elements.proofs.putting.+put_rows.Goals as goal

pub overflow_mul-next : goal.overflow_mul-next
overflow_mul-next t c =
    let least : c.loop-i.i < get_or c.args.block.now 0 0 = omega (arith, c.requires.within.fit 0 (omega arith), c.loop-i-test.true) in
    let row = reads_row c.args.block.now c.args.block.now c.args.step.stride c.args.step.from c.loop-i.i (byte_count c.args.kind.dtype) (length c.args.items.now) (omega arith) (omega arith) (within-same c.args.block.now) c.requires.cells c.requires.room c.requires.stride c.requires.small least in
    omega (arith, row.2.stride_fits)

pub overflow_mul-next-in-loop-i : goal.overflow_mul-next-in-loop-i
overflow_mul-next-in-loop-i t c =
    let least : c.loop-i.i < get_or c.args.block.now 0 0 = omega (arith, c.requires.within.fit 0 (omega arith), c.loop-i-test.true) in
    let row = reads_row c.args.block.now c.args.block.now c.args.step.stride c.args.step.from c.loop-i.i (byte_count c.args.kind.dtype) (length c.args.items.now) (omega arith) (omega arith) (within-same c.args.block.now) c.requires.cells c.requires.room c.requires.stride c.requires.small least in
    omega (arith, row.2.step_fits)

pub overflow_add-next : goal.overflow_add-next
overflow_add-next t c =
    let least : c.loop-i.i < get_or c.args.block.now 0 0 = omega (arith, c.requires.within.fit 0 (omega arith), c.loop-i-test.true) in
    let row = reads_row c.args.block.now c.args.block.now c.args.step.stride c.args.step.from c.loop-i.i (byte_count c.args.kind.dtype) (length c.args.items.now) (omega arith) (omega arith) (within-same c.args.block.now) c.requires.cells c.requires.room c.requires.stride c.requires.small least in
    omega (arith, row.2.from_fits)

pub overflow_mul-i : goal.overflow_mul-i
overflow_mul-i t c =
    let part = puts_part c.args.block.now c.args.sizes.now c.loop-i.i c.byte_count.result (omega arith) (omega arith) c.requires.within c.requires.volume c.byte_count.ensures.greatest c.loop-i-test.true in
    let same : c.cells_of.result ≡ cell_count (behind c.args.sizes.now) = c.cells_of.ensures in
    rw same (omega (arith, part.0, part.1))

pub overflow_mul-i-in-loop-i : goal.overflow_mul-i-in-loop-i
overflow_mul-i-in-loop-i t c =
    let part = puts_part c.args.block.now c.args.sizes.now c.loop-i.i c.byte_count.result (omega arith) (omega arith) c.requires.within c.requires.volume c.byte_count.ensures.greatest c.loop-i-test.true in
    let same : c.cells_of.result ≡ cell_count (behind c.args.sizes.now) = c.cells_of.ensures in
    rw same (omega (arith, part.0, part.1))

pub overflow_add-i : goal.overflow_add-i
overflow_add-i t c =
    let part = puts_part c.args.block.now c.args.sizes.now c.loop-i.i c.byte_count.result (omega arith) (omega arith) c.requires.within c.requires.volume c.byte_count.ensures.greatest c.loop-i-test.true in
    let same : c.cells_of.result ≡ cell_count (behind c.args.sizes.now) = c.cells_of.ensures in
    rw same (omega (arith, part.0, part.1))

pub slice_bounds-put_rows-end : goal.slice_bounds-put_rows-end
slice_bounds-put_rows-end t c =
    let part = puts_part c.args.block.now c.args.sizes.now c.loop-i.i c.byte_count.result (omega arith) (omega arith) c.requires.within c.requires.volume c.byte_count.ensures.greatest c.loop-i-test.true in
    let same : c.cells_of.result ≡ cell_count (behind c.args.sizes.now) = c.cells_of.ensures in
    let len : length c.loop-i.out ≡ cell_count c.args.sizes.now * c.byte_count.result = c.loop-i.auto.out ∙ c.requires.full ∙ ap (λ n. cell_count c.args.sizes.now * n) (sym c.byte_count.ensures.value) in
    rw same (omega (arith, part.0, len))

pub cells_of-requires : goal.cells_of-requires
cells_of-requires t c =
    let few = few_behind c.args.block.now c.args.sizes.now (omega arith) (omega arith) c.requires.within c.requires.cells c.requires.volume in
    few.1

pub overflow_mul-part : goal.overflow_mul-part
overflow_mul-part t c =
    let few = few_behind c.args.block.now c.args.sizes.now (omega arith) (omega arith) c.requires.within c.requires.cells c.requires.volume in
    let same : c.cells_of.result ≡ cell_count (behind c.args.sizes.now) = c.cells_of.ensures in
    let least : c.cells_of.result ≤ 2 ^ 24 = omega (arith, same, few.1) in
    let bytes : c.cells_of.result * c.byte_count.result ≤ 2 ^ 24 * 8 = mul-le-mul least c.byte_count.ensures.greatest in
    omega (arith, bytes)

pub put_rows-requires : goal.put_rows-requires
put_rows-requires t c =
    let least : c.loop-i.i < get_or c.args.block.now 0 0 = omega (arith, c.requires.within.fit 0 (omega arith), c.loop-i-test.true) in
    let row = reads_row c.args.block.now c.args.block.now c.args.step.stride c.args.step.from c.loop-i.i (byte_count c.args.kind.dtype) (length c.args.items.now) (omega arith) (omega arith) (within-same c.args.block.now) c.requires.cells c.requires.room c.requires.stride c.requires.small least in
    let part = puts_part c.args.block.now c.args.sizes.now c.loop-i.i c.byte_count.result (omega arith) (omega arith) c.requires.within c.requires.volume c.byte_count.ensures.greatest c.loop-i-test.true in
    let same : c.cells_of.result ≡ cell_count (behind c.args.sizes.now) = c.cells_of.ensures in
    let len : length c.loop-i.out ≡ cell_count c.args.sizes.now * c.byte_count.result = c.loop-i.auto.out ∙ c.requires.full ∙ ap (λ n. cell_count c.args.sizes.now * n) (sym c.byte_count.ensures.value) in
    let few = few_behind c.args.block.now c.args.sizes.now (omega arith) (omega arith) c.requires.within c.requires.cells c.requires.volume in
    let room : c.loop-i.i * (c.cells_of.result * c.byte_count.result) + c.cells_of.result * c.byte_count.result ≤ length c.loop-i.out = rw same (omega (arith, part.0, len)) in
    let one : 1 ≤ length c.args.block.now = omega arith in
    let here : c.cells_of.result * c.byte_count.result ≡ cell_count (behind c.args.sizes.now) * byte_count c.args.kind.dtype = ap (λ n. n * c.byte_count.result) same ∙ ap (λ n. cell_count (behind c.args.sizes.now) * n) c.byte_count.ensures.value in
    let full = part_length (c.loop-i.i * (c.cells_of.result * c.byte_count.result)) (c.cells_of.result * c.byte_count.result) (cell_count (behind c.args.sizes.now) * byte_count c.args.kind.dtype) c.loop-i.out room here in
    (omega (arith, row.0), (few.0, (row.2.cells, (behind_fits c.args.block.now one c.requires.cells c.requires.volume, (row.2.room, (row.2.fits, (c.requires.small, full)))))))

pub loop-i-preserved : goal.loop-i-preserved
loop-i-preserved t c =
    let part = puts_part c.args.block.now c.args.sizes.now c.loop-i.i c.byte_count.result (omega arith) (omega arith) c.requires.within c.requires.volume c.byte_count.ensures.greatest c.loop-i-test.true in
    let same : c.cells_of.result ≡ cell_count (behind c.args.sizes.now) = c.cells_of.ensures in
    let len : length c.loop-i.out ≡ cell_count c.args.sizes.now * c.byte_count.result = c.loop-i.auto.out ∙ c.requires.full ∙ ap (λ n. cell_count c.args.sizes.now * n) (sym c.byte_count.ensures.value) in
    let room : c.loop-i.i * (c.cells_of.result * c.byte_count.result) + c.cells_of.result * c.byte_count.result ≤ length c.loop-i.out = rw same (omega (arith, part.0, len)) in
    let within : c.loop-i.i * (c.cells_of.result * c.byte_count.result) ≤ length c.loop-i.out = omega (arith, room) in
    put_more _ c.loop-i.i (c.cells_of.result * c.byte_count.result) c.loop-i.out c.put_rows.new.out c.loop-i.invariant c.put_rows.ensures
    (c.put_rows.auto.out ∙ length-take-le (c.loop-i.i * (c.cells_of.result * c.byte_count.result) + c.cells_of.result * c.byte_count.result - c.loop-i.i * (c.cells_of.result * c.byte_count.result)) (drop (c.loop-i.i * (c.cells_of.result * c.byte_count.result)) c.loop-i.out) (rw length-drop (omega (arith, room)))) within

pub returns : goal.returns
returns t c =
    let len : length c.loop-i.out ≡ cell_count c.args.sizes.now * c.byte_count.result = c.loop-i.auto.out ∙ c.requires.full ∙ ap (λ n. cell_count c.args.sizes.now * n) (sym c.byte_count.ensures.value) in
    let end : c.loop-i.i ≡ get_or c.args.sizes.now 0 0 = omega arith in
    let same : c.cells_of.result * c.byte_count.result ≡ cell_count (behind c.args.sizes.now) * c.byte_count.result = ap (λ n. n * c.byte_count.result) c.cells_of.ensures in
    all_put c.args.kind.dtype c.args.kind.big c.args.block.now c.args.sizes.now c.args.step.stride c.args.step.from c.args.items.now c.loop-i.out c.loop-i.i (c.cells_of.result * c.byte_count.result) c.byte_count.result (omega arith) (omega arith) end same len c.loop-i.invariant
