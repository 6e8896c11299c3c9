use Rattle.std.proofs.Common.{◌≡◌, ◌<◌, ◌*◌, ℕ, All, length, get_or, ap, subst, ◌∙◌, arith}
use Rattle.cells.specs.Bytes.{byte_count}
use Rattle.cells.specs.Numbers.{IsWord}
use Rattle.cells.specs.Places.{cell_count}
use Rattle.chunk_elements.specs.Rows.{items_of, words_of_rows}
use Rattle.chunk_elements.proofs.BlockLaws.{AreStored-words_of_rows}
use Rattle.chunk_elements.proofs.MoveLaws.{length-items_of}
use Rattle.chunk_elements.proofs.TakeLaws.{stored_taken}
use Rattle.chunk_elements.proofs.dense.dense_of_block.Goals as goal

pub from_bytes-requires-clause-full : goal.from_bytes-requires-clause-full
from_bytes-requires-clause-full c =
    let small : (i : ℕ) → get_or c.args.bytes.now i 0 < 256 = λ i. omega (arith, c.type_inv.bytes i) in
    let block = c.args.block in
    let items : c.in_ok-items.items.items ≡ items_of c.args.dtype (words_of_rows c.args.dtype c.args.big block c.args.sizes.now (byte_count c.args.dtype) 0 c.args.bytes.now) =
    c.in_ok-items.ensures ∙ ap (λ l. items_of c.args.dtype (words_of_rows c.args.dtype c.args.big l c.args.sizes.now (byte_count c.args.dtype) 0 c.args.bytes.now)) c.items.ensures in
    ap length items ∙ length-items_of c.args.dtype _ ∙ ap (λ n. n * byte_count c.args.dtype) (AreStored-words_of_rows c.args.dtype c.args.big block c.args.sizes.now c.args.bytes.now c.requires.within small c.requires.full).full

pub returns-clause-words : goal.returns-clause-words
returns-clause-words c =
    let small : (i : ℕ) → get_or c.args.bytes.now i 0 < 256 = λ i. omega (arith, c.type_inv.bytes i) in
    let block = c.args.block in
    let d = c.from_bytes.result in
    let items : c.in_ok-items.items.items ≡ items_of c.args.dtype (words_of_rows c.args.dtype c.args.big block c.args.sizes.now (byte_count c.args.dtype) 0 c.args.bytes.now) =
    c.in_ok-items.ensures ∙ ap (λ l. items_of c.args.dtype (words_of_rows c.args.dtype c.args.big l c.args.sizes.now (byte_count c.args.dtype) 0 c.args.bytes.now)) c.items.ensures in
    stored_taken c.args.dtype c.args.big block c.args.sizes.now c.args.bytes.now c.in_ok-items.items.items d.words c.requires.within small c.requires.full items c.from_bytes.ensures.spells
    (c.from_bytes.ensures.well_formed.full ∙ ap cell_count c.from_bytes.ensures.shape)
    (subst (λ t. All (IsWord t) d.words) c.from_bytes.ensures.dtype c.from_bytes.ensures.well_formed.of_dtype)
