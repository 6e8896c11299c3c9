use Rattle.std.proofs.Common.{◌≡◌, ◌<◌, ℕ, List, get_or, subst}
use Rattle.cells.specs.Bytes.{byte_count}
use Rattle.cells.specs.Dense.{DenseCells, IsDense}
use Rattle.cells.specs.Numbers.{IsWord}
use Rattle.cells.specs.Places.{cell_count}
use Rattle.cells.specs.Items.{item_at, words_in, SpellsItems}
use Rattle.cells.proofs.ItemLaws.{SpellsItems-words_in, IsDense-items}
use Rattle.cells.proofs.dense.Dense.into_bytes.Goals as goal

pub returns-clause-spells : goal.returns-clause-spells
returns-clause-spells c =
    let small : (i : ℕ) → get_or c.self.inside.bytes.items i 0 < 256 = rw c.as_slice.ensures.value at c.look.ensures in
    let is : SpellsItems c.self.inside.dtype c.self.inside.bytes.items (words_in c.self.inside.dtype (cell_count c.self.inside.shape) c.self.inside.bytes.items) =
    SpellsItems-words_in c.self.inside.dtype (cell_count c.self.inside.shape) c.self.inside.bytes.items small c.self.invariant.full in
    subst (λ (d : DenseCells). SpellsItems d.dtype c.self.inside.bytes.items d.words) c.self.view_is is

pub returns-clause-well_formed : goal.returns-clause-well_formed
returns-clause-well_formed c = subst IsDense c.self.view_is (IsDense-items c.self.inside.dtype c.self.inside.shape c.self.inside.bytes.items c.self.invariant)
