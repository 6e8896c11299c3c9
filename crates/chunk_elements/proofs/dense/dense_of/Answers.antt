use Rattle.std.proofs.Common.{◌<◌, ℕ, false, All, length, get_or, ap, subst, ◌∙◌, arith}
use Rattle.cells.specs.Bytes.{byte_count}
use Rattle.cells.specs.Numbers.{IsWord}
use Rattle.cells.specs.Places.{cell_count}
use Rattle.chunk_elements.proofs.MoveLaws.{length-moved_row, read_moved}
use Rattle.chunk_elements.proofs.dense.dense_of.Goals as goal

pub from_bytes-requires-clause-full : goal.from_bytes-requires-clause-full
from_bytes-requires-clause-full c =
    let count = cell_count c.args.shape in
    ap length (c.in_ok-items.ensures count c.requires.full) ∙ length-moved_row c.args.dtype c.args.big false count (byte_count c.args.dtype) 0 c.args.bytes.now

pub returns-clause-words : goal.returns-clause-words
returns-clause-words c =
    let count = cell_count c.args.shape in
    let d = c.from_bytes.result in
    let small : (i : ℕ) → get_or c.args.bytes.now i 0 < 256 = λ i. omega (arith, c.type_inv.bytes i) in
    read_moved c.args.dtype c.args.big count c.args.bytes.now c.in_ok-items.items.items d.words small c.requires.full (c.in_ok-items.ensures count c.requires.full) c.from_bytes.ensures.spells
    (c.from_bytes.ensures.well_formed.full ∙ ap cell_count c.from_bytes.ensures.shape)
    (subst (λ t. All (IsWord t) d.words) c.from_bytes.ensures.dtype c.from_bytes.ensures.well_formed.of_dtype)
