use Rattle.std.proofs.Common.{◌≡◌, ◌<◌, ◌^◌, length, take, get_or, sym, ap, subst, ◌∙◌, arith, zero-add}
use Rattle.std.proofs.lemmas.List.FromFn.{length-map-range_with_len, get_or-map-range_with_len}
use Rattle.n5_blocks.specs.Faults.{size_in}
use Rattle.n5_blocks.proofs.SizeLaws.{size_in-lt, within_from_no_fault}
use Rattle.chunk_elements.proofs.Laws.{cell_count-within}
use Rattle.n5_blocks.proofs.faults.cells_fault.Goals as goal

pub size_fault-requires-clause-small : goal.size_fault-requires-clause-small
size_fault-requires-clause-small c k less =
    subst (λ l. get_or l k 0 < 2 ^ 32) (sym c.sizes_in-buffer.ensures)
    (subst (λ n. n < 2 ^ 32) (sym (get_or-map-range_with_len (size_in c.args.bytes.now) 0 (length c.args.block.now) k k 0 less (zero-add k)))
    (size_in-lt c.args.bytes.now k))

pub length_fault-requires-clause-volume : goal.length_fault-requires-clause-volume
length_fault-requires-clause-volume c =
    let sizes = take (length c.args.block.now) c.sizes_in-buffer.result in
    let ranks : length sizes ≡ length c.args.block.now = ap length c.sizes_in-buffer.ensures ∙ length-map-range_with_len (size_in c.args.bytes.now) 0 (length c.args.block.now) in
    omega (arith, cell_count-within c.args.block.now sizes (within_from_no_fault 0 c.args.block.now sizes ranks (sym c.in-None.ensures)), c.requires.volume)
