use Rattle.std.proofs.Common.{◌≡◌, ◌*◌, length, drop, replicate, ap, sym, ◌∙◌, arith}
use Rattle.cells.specs.Places.{cell_count}
use Rattle.chunk_elements.specs.Rows.{of_long}
use Rattle.chunk_elements.proofs.BlockLaws.{few, long}
use Rattle.chunk_elements.proofs.TakeLaws.{taken_long}
use Rattle.chunk_elements.proofs.RowSteps.{whole_over}
use Rattle.chunk_elements.proofs.dense.taken.Goals as goal

pub take_rows-requires-clause-within : goal.take_rows-requires-clause-within
take_rows-requires-clause-within c =
    let most : c.as_slice.result.now ≡ of_long c.args.block.now c.args.block.now c.args.sizes.now = c.as_slice.ensures.value ∙ c.in_ok-most.ensures in
    let stored : c.as_slice-2.result.now ≡ of_long c.args.sizes.now c.args.block.now c.args.sizes.now = c.as_slice-2.ensures.value ∙ c.in_ok-stored.ensures in
    let left = long c.args.block.now c.args.sizes.now c.as_slice.result.now c.as_slice-2.result.now c.requires.within most stored in
    left.within

pub take_rows-requires-clause-cells : goal.take_rows-requires-clause-cells
take_rows-requires-clause-cells c =
    let most : c.as_slice.result.now ≡ of_long c.args.block.now c.args.block.now c.args.sizes.now = c.as_slice.ensures.value ∙ c.in_ok-most.ensures in
    let stored : c.as_slice-2.result.now ≡ of_long c.args.sizes.now c.args.block.now c.args.sizes.now = c.as_slice-2.ensures.value ∙ c.in_ok-stored.ensures in
    let left = long c.args.block.now c.args.sizes.now c.as_slice.result.now c.as_slice-2.result.now c.requires.within most stored in
    omega (arith, left.cells, c.requires.cells)

pub take_rows-requires-clause-volume : goal.take_rows-requires-clause-volume
take_rows-requires-clause-volume c =
    let most : c.as_slice.result.now ≡ of_long c.args.block.now c.args.block.now c.args.sizes.now = c.as_slice.ensures.value ∙ c.in_ok-most.ensures in
    let stored : c.as_slice-2.result.now ≡ of_long c.args.sizes.now c.args.block.now c.args.sizes.now = c.as_slice-2.ensures.value ∙ c.in_ok-stored.ensures in
    let left = long c.args.block.now c.args.sizes.now c.as_slice.result.now c.as_slice-2.result.now c.requires.within most stored in
    omega (arith, left.cells, c.requires.volume)

pub take_rows-requires-clause-room : goal.take_rows-requires-clause-room
take_rows-requires-clause-room c =
    let most : c.as_slice.result.now ≡ of_long c.args.block.now c.args.block.now c.args.sizes.now = c.as_slice.ensures.value ∙ c.in_ok-most.ensures in
    let stored : c.as_slice-2.result.now ≡ of_long c.args.sizes.now c.args.block.now c.args.sizes.now = c.as_slice-2.ensures.value ∙ c.in_ok-stored.ensures in
    let left = long c.args.block.now c.args.sizes.now c.as_slice.result.now c.as_slice-2.result.now c.requires.within most stored in
    let fits = few c.args.block.now c.args.sizes.now c.as_slice.result.now c.as_slice-2.result.now c.args.bytes.now c.byte_count-size.result _ c.requires.within c.requires.volume c.byte_count-size.ensures.value c.byte_count-size.ensures.greatest c.requires.full left in
    fits.room

pub take_rows-requires-clause-stride : goal.take_rows-requires-clause-stride
take_rows-requires-clause-stride c =
    let most : c.as_slice.result.now ≡ of_long c.args.block.now c.args.block.now c.args.sizes.now = c.as_slice.ensures.value ∙ c.in_ok-most.ensures in
    let stored : c.as_slice-2.result.now ≡ of_long c.args.sizes.now c.args.block.now c.args.sizes.now = c.as_slice-2.ensures.value ∙ c.in_ok-stored.ensures in
    let left = long c.args.block.now c.args.sizes.now c.as_slice.result.now c.as_slice-2.result.now c.requires.within most stored in
    let fits = few c.args.block.now c.args.sizes.now c.as_slice.result.now c.as_slice-2.result.now c.args.bytes.now c.byte_count-size.result _ c.requires.within c.requires.volume c.byte_count-size.ensures.value c.byte_count-size.ensures.greatest c.requires.full left in
    fits.stride

pub take_rows-requires-clause-small : goal.take_rows-requires-clause-small
take_rows-requires-clause-small c =
    let most : c.as_slice.result.now ≡ of_long c.args.block.now c.args.block.now c.args.sizes.now = c.as_slice.ensures.value ∙ c.in_ok-most.ensures in
    let stored : c.as_slice-2.result.now ≡ of_long c.args.sizes.now c.args.block.now c.args.sizes.now = c.as_slice-2.ensures.value ∙ c.in_ok-stored.ensures in
    let left = long c.args.block.now c.args.sizes.now c.as_slice.result.now c.as_slice-2.result.now c.requires.within most stored in
    let fits = few c.args.block.now c.args.sizes.now c.as_slice.result.now c.as_slice-2.result.now c.args.bytes.now c.byte_count-size.result _ c.requires.within c.requires.volume c.byte_count-size.ensures.value c.byte_count-size.ensures.greatest c.requires.full left in
    fits.small

pub take_rows-requires-clause-zeros : goal.take_rows-requires-clause-zeros
take_rows-requires-clause-zeros c =
    let most : c.as_slice.result.now ≡ of_long c.args.block.now c.args.block.now c.args.sizes.now = c.as_slice.ensures.value ∙ c.in_ok-most.ensures in
    let stored : c.as_slice-2.result.now ≡ of_long c.args.sizes.now c.args.block.now c.args.sizes.now = c.as_slice-2.ensures.value ∙ c.in_ok-stored.ensures in
    let left = long c.args.block.now c.args.sizes.now c.as_slice.result.now c.as_slice-2.result.now c.requires.within most stored in
    c.deref_mut.ensures.value ∙ c.in_ok-items.ensures.items_if_clones_equal (λ y e. e)
    ∙ ap (λ n. replicate n 0) (ap (λ n. n * c.byte_count-size.result) (c.cells_of.ensures ∙ sym left.cells) ∙ ap (λ n. cell_count c.as_slice.result.now * n) c.byte_count-size.ensures.value)

pub returns : goal.returns
returns c =
    let most : c.as_slice.result.now ≡ of_long c.args.block.now c.args.block.now c.args.sizes.now = c.as_slice.ensures.value ∙ c.in_ok-most.ensures in
    let stored : c.as_slice-2.result.now ≡ of_long c.args.sizes.now c.args.block.now c.args.sizes.now = c.as_slice-2.ensures.value ∙ c.in_ok-stored.ensures in
    whole_over c.in_ok-items.items.len c.take_rows.new.out (drop (length c.take_rows.new.out) c.in_ok-items.items.items) (c.take_rows.auto.out ∙ c.deref_mut.ensures.len)
    ∙ c.take_rows.ensures
    ∙ taken_long c.args.kind.dtype c.args.kind.big c.args.block.now c.args.sizes.now c.as_slice.result.now c.as_slice-2.result.now c.args.bytes.now c.byte_count-size.result c.requires.within most stored c.byte_count-size.ensures.value
