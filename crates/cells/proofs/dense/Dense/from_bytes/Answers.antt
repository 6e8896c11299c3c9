use Rattle.std.proofs.Common.{◌≡◌, ◌<◌, ℕ, List, get_or, subst}
use Rattle.cells.specs.Bytes.{byte_count}
use Rattle.cells.specs.Dense.{DenseCells, IsDense}
use Rattle.cells.specs.Numbers.{IsWord}
use Rattle.cells.specs.Places.{cell_count}
use Rattle.cells.specs.Items.{item_at, words_in, SpellsItems}
use Rattle.cells.proofs.ItemLaws.{SpellsItems-words_in, IsDense-items}
use Rattle.cells.proofs.dense.Dense.from_bytes.Goals as goal

pub returns-clause-spells : goal.returns-clause-spells
returns-clause-spells c =
    let small : (i : ℕ) → get_or c.args.bytes.items i 0 < 256 = rw c.as_slice.ensures.value at c.look.ensures in
    SpellsItems-words_in c.args.dtype (cell_count c.args.shape) c.args.bytes.items small c.requires.full

pub returns-clause-well_formed : goal.returns-clause-well_formed
returns-clause-well_formed c = IsDense-items c.args.dtype c.args.shape c.args.bytes.items (record { rank = c.requires.rank; small = c.requires.small; full = c.requires.full })
