use Rattle.std.proofs.Common.{◌*◌, All, reverse, ap, sym, subst, ◌∙◌, arith}
use Rattle.std.proofs.lemmas.Result.{IfOk-weaker}
use Rattle.cells.specs.Bytes.{byte_count}
use Rattle.cells.specs.Items.{SpellsItems}
use Rattle.cells.specs.Numbers.{IsWord}
use Rattle.cells.specs.Places.{cell_count}
use Rattle.chunk_elements.specs.Blocks.{AddsBlock}
use Rattle.chunk_elements.proofs.BlockLaws.{AddsBlock-backwards, backwards}
use Rattle.chunk_elements.proofs.dense.put_dense.Goals as goal

pub put_behind-requires-clause-cells : goal.put_behind-requires-clause-cells
put_behind-requires-clause-cells c =
    let most = c.as_slice.ensures.value ∙ c.in_ok-most.ensures ∙ ap (λ l. reverse l) c.shape.ensures.value in
    let turned = backwards c.args.d.now.shape c.args.sizes.now c.as_slice.result.now c.as_slice-2.result.now c.requires.within most (c.as_slice-2.ensures.value ∙ c.in_ok-stored.ensures) in
    omega (arith, turned.1, c.requires.cells)

pub put_behind-requires-clause-volume : goal.put_behind-requires-clause-volume
put_behind-requires-clause-volume c =
    let most = c.as_slice.ensures.value ∙ c.in_ok-most.ensures ∙ ap (λ l. reverse l) c.shape.ensures.value in
    let turned = backwards c.args.d.now.shape c.args.sizes.now c.as_slice.result.now c.as_slice-2.result.now c.requires.within most (c.as_slice-2.ensures.value ∙ c.in_ok-stored.ensures) in
    omega (arith, turned.1, c.bytes.ensures.well_formed.small)

pub put_behind-requires-clause-full : goal.put_behind-requires-clause-full
put_behind-requires-clause-full c =
    let most = c.as_slice.ensures.value ∙ c.in_ok-most.ensures ∙ ap (λ l. reverse l) c.shape.ensures.value in
    let turned = backwards c.args.d.now.shape c.args.sizes.now c.as_slice.result.now c.as_slice-2.result.now c.requires.within most (c.as_slice-2.ensures.value ∙ c.in_ok-stored.ensures) in
    c.bytes.ensures.spells.count ∙ ap (λ n. n * byte_count c.args.d.now.dtype) (c.bytes.ensures.well_formed.full ∙ sym turned.1) ∙ ap (λ t. cell_count c.as_slice.result.now * byte_count t) (sym c.dtype.ensures.value)

pub returns : goal.returns
returns c =
    let most = c.as_slice.ensures.value ∙ c.in_ok-most.ensures ∙ ap (λ l. reverse l) c.shape.ensures.value in
    let words = c.args.d.now.words in
    let dtype = c.dtype.result in
    let spells : SpellsItems dtype c.bytes.result.now words = subst (λ t. SpellsItems t c.bytes.result.now words) (sym c.dtype.ensures.value) c.bytes.ensures.spells in
    let are : All (IsWord dtype) words = subst (λ t. All (IsWord t) words) (sym c.dtype.ensures.value) c.bytes.ensures.well_formed.of_dtype in
    IfOk-weaker c.put_behind.result _ _
    (λ all is. subst (λ t. AddsBlock t c.args.big c.args.d.now.shape c.args.sizes.now words c.args.bytes.items all.items) c.dtype.ensures.value
    (AddsBlock-backwards dtype c.args.big c.args.d.now.shape c.args.sizes.now words c.as_slice.result.now c.as_slice-2.result.now c.args.bytes.items all.items c.requires.within most (c.as_slice-2.ensures.value ∙ c.in_ok-stored.ensures) (is words spells are)))
    c.put_behind.ensures
