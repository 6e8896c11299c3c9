use Rattle.std.proofs.Common.{◌≡◌, ◌≤◌, ◌*◌, ◌^◌, ◌++◌, length, drop, refl, ap, sym, ◌∙◌, arith}
use Rattle.std.proofs.Math.Nat.{mul-le-mul}
use Rattle.cells.specs.Bytes.{byte_count}
use Rattle.cells.specs.Places.{cell_count}
use Rattle.chunk_elements.specs.Rows.{moved_rows, of_long}
use Rattle.chunk_elements.proofs.BlockLaws.{long}
use Rattle.chunk_elements.proofs.FitLaws.{cell_count-within}
use Rattle.chunk_elements.proofs.PutLaws.{before_place, put_long}
use Rattle.chunk_elements.proofs.RowSteps.{whole_over}
use Rattle.chunk_elements.proofs.dense.put_behind.Goals as goal

pub cells_of-requires : goal.cells_of-requires
cells_of-requires c =
    let stored : c.as_slice.result.now ≡ of_long c.args.sizes.now c.args.block.now c.args.sizes.now = c.as_slice.ensures.value ∙ c.in_ok-stored.ensures in
    let left = long c.args.block.now c.args.sizes.now (of_long c.args.block.now c.args.block.now c.args.sizes.now) c.as_slice.result.now c.requires.within refl stored in
    let few : cell_count c.as_slice.result.now ≤ 2 ^ 24 = omega (arith, left.stored_cells, cell_count-within c.args.block.now c.args.sizes.now c.requires.within, c.requires.volume) in
    few

pub overflow_mul-room : goal.overflow_mul-room
overflow_mul-room c =
    let stored : c.as_slice.result.now ≡ of_long c.args.sizes.now c.args.block.now c.args.sizes.now = c.as_slice.ensures.value ∙ c.in_ok-stored.ensures in
    let left = long c.args.block.now c.args.sizes.now (of_long c.args.block.now c.args.block.now c.args.sizes.now) c.as_slice.result.now c.requires.within refl stored in
    let few : cell_count c.as_slice.result.now ≤ 2 ^ 24 = omega (arith, left.stored_cells, cell_count-within c.args.block.now c.args.sizes.now c.requires.within, c.requires.volume) in
    let least : c.cells_of.result ≤ 2 ^ 24 = omega (arith, c.cells_of.ensures, few) in
    let bytes : c.cells_of.result * c.byte_count.result ≤ 2 ^ 24 * 8 = mul-le-mul least c.byte_count.ensures.greatest in
    omega (arith, bytes)

pub grown-requires : goal.grown-requires
grown-requires c =
    let stored : c.as_slice.result.now ≡ of_long c.args.sizes.now c.args.block.now c.args.sizes.now = c.as_slice.ensures.value ∙ c.in_ok-stored.ensures in
    let left = long c.args.block.now c.args.sizes.now (of_long c.args.block.now c.args.block.now c.args.sizes.now) c.as_slice.result.now c.requires.within refl stored in
    let few : cell_count c.as_slice.result.now ≤ 2 ^ 24 = omega (arith, left.stored_cells, cell_count-within c.args.block.now c.args.sizes.now c.requires.within, c.requires.volume) in
    let least : c.cells_of.result ≤ 2 ^ 24 = omega (arith, c.cells_of.ensures, few) in
    let bytes : c.cells_of.result * c.byte_count.result ≤ 2 ^ 24 * 8 = mul-le-mul least c.byte_count.ensures.greatest in
    omega (arith, bytes)

pub put_at-requires-clause-within : goal.put_at-requires-clause-within
put_at-requires-clause-within c =
    let most : c.as_slice-2.result.now ≡ of_long c.args.block.now c.args.block.now c.args.sizes.now = c.as_slice-2.ensures.value ∙ c.in_ok-most.ensures in
    let stored : c.as_slice-3.result.now ≡ of_long c.args.sizes.now c.args.block.now c.args.sizes.now = c.as_slice-3.ensures.value ∙ c.in_ok-stored.ensures in
    let left = long c.args.block.now c.args.sizes.now c.as_slice-2.result.now c.as_slice-3.result.now c.requires.within most stored in
    left.within

pub put_at-requires-clause-cells : goal.put_at-requires-clause-cells
put_at-requires-clause-cells c =
    let most : c.as_slice-2.result.now ≡ of_long c.args.block.now c.args.block.now c.args.sizes.now = c.as_slice-2.ensures.value ∙ c.in_ok-most.ensures in
    let stored : c.as_slice-3.result.now ≡ of_long c.args.sizes.now c.args.block.now c.args.sizes.now = c.as_slice-3.ensures.value ∙ c.in_ok-stored.ensures in
    let left = long c.args.block.now c.args.sizes.now c.as_slice-2.result.now c.as_slice-3.result.now c.requires.within most stored in
    omega (arith, left.cells, c.requires.cells)

pub put_at-requires-clause-volume : goal.put_at-requires-clause-volume
put_at-requires-clause-volume c =
    let most : c.as_slice-2.result.now ≡ of_long c.args.block.now c.args.block.now c.args.sizes.now = c.as_slice-2.ensures.value ∙ c.in_ok-most.ensures in
    let stored : c.as_slice-3.result.now ≡ of_long c.args.sizes.now c.args.block.now c.args.sizes.now = c.as_slice-3.ensures.value ∙ c.in_ok-stored.ensures in
    let left = long c.args.block.now c.args.sizes.now c.as_slice-2.result.now c.as_slice-3.result.now c.requires.within most stored in
    omega (arith, left.cells, c.requires.volume)

pub put_at-requires-clause-full : goal.put_at-requires-clause-full
put_at-requires-clause-full c =
    let most : c.as_slice-2.result.now ≡ of_long c.args.block.now c.args.block.now c.args.sizes.now = c.as_slice-2.ensures.value ∙ c.in_ok-most.ensures in
    let stored : c.as_slice-3.result.now ≡ of_long c.args.sizes.now c.args.block.now c.args.sizes.now = c.as_slice-3.ensures.value ∙ c.in_ok-stored.ensures in
    let left = long c.args.block.now c.args.sizes.now c.as_slice-2.result.now c.as_slice-3.result.now c.requires.within most stored in
    c.requires.full ∙ ap (λ n. n * byte_count c.args.kind.dtype) (sym left.cells)

pub returns : goal.returns
returns c = λ words spells are.
    let most : c.as_slice-2.result.now ≡ of_long c.args.block.now c.args.block.now c.args.sizes.now = c.as_slice-2.ensures.value ∙ c.in_ok-most.ensures in
    let stored : c.as_slice-3.result.now ≡ of_long c.args.sizes.now c.args.block.now c.args.sizes.now = c.as_slice-3.ensures.value ∙ c.in_ok-stored.ensures in
    whole_over c.in_ok-all.all.len c.put_at.new.out (drop (length c.put_at.new.out) c.in_ok-all.all.items) (c.put_at.auto.out ∙ c.deref_mut.ensures.len)
    ∙ c.put_at.ensures
    ∙ ap (λ l. l ++ moved_rows c.args.kind.dtype c.args.kind.big c.as_slice-2.result.now c.as_slice-3.result.now (byte_count c.args.kind.dtype) 0 c.args.items.now)
    (before_place c.len-start.result (c.cells_of.result * c.byte_count.result) c.args.bytes.items c.deref_mut.result.now (c.len-start.ensures ∙ c.args.bytes.ok.0) (c.deref_mut.ensures.value ∙ c.in_ok-all.ensures))
    ∙ ap (λ l. c.args.bytes.items ++ l) (put_long c.args.kind.dtype c.args.kind.big c.args.block.now c.args.sizes.now c.as_slice-2.result.now c.as_slice-3.result.now c.args.items.now words c.requires.within most stored spells are)
