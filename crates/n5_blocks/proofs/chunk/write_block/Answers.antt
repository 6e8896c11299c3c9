use Rattle.std.proofs.Common.{◌≤◌, ◌*◌, ◌^◌, length, arith}
use Rattle.std.proofs.Math.Nat.{mul-le-mul}
use Rattle.chunk_elements.proofs.Laws.{cell_count-pos, cell_count-within}
use Rattle.n5_blocks.proofs.chunk.write_block.Goals as goal

pub header_len-requires : goal.header_len-requires
header_len-requires c = omega (arith, c.dtype.ensures.well_formed.rank, c.requires.within.ranks)

pub cells_of-requires : goal.cells_of-requires
cells_of-requires c = omega (arith, cell_count-within c.args.d.now.shape c.args.sizes.now c.requires.within, c.requires.block.volume)

pub overflow_mul-len : goal.overflow_mul-len
overflow_mul-len c =
    let few : c.cells_of.result ≤ 2 ^ 24 = omega (arith, cell_count-within c.args.d.now.shape c.args.sizes.now c.requires.within, c.requires.block.volume, c.cells_of.ensures) in
    let item : c.byte_count-item.result ≤ 8 = omega arith in
    let all : c.cells_of.result * c.byte_count-item.result ≤ 2 ^ 24 * 8 = mul-le-mul few item in
    omega (arith, all)

pub overflow_add-len : goal.overflow_add-len
overflow_add-len c =
    let few : c.cells_of.result ≤ 2 ^ 24 = omega (arith, cell_count-within c.args.d.now.shape c.args.sizes.now c.requires.within, c.requires.block.volume, c.cells_of.ensures) in
    let item : c.byte_count-item.result ≤ 8 = omega arith in
    let all : c.cells_of.result * c.byte_count-item.result ≤ 2 ^ 24 * 8 = mul-le-mul few item in
    let rank : length c.args.sizes.now ≤ 32 = omega (arith, c.requires.within.ranks, c.dtype.ensures.well_formed.rank) in
    omega (arith, all, rank, c.header_len.ensures)

pub put_dense-requires-clause-cells : goal.put_dense-requires-clause-cells
put_dense-requires-clause-cells c = cell_count-pos c.args.d.now.shape c.requires.block.least
