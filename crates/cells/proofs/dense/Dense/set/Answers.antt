use Rattle.std.proofs.Common.{◌≡◌, ◌∙◌, List, ap, sym, subst, length, arith}
use Rattle.cells.specs.Bytes.{byte_count}
use Rattle.cells.specs.Dense.{DenseCells, IsDense}
use Rattle.cells.specs.Numbers.{IsWord}
use Rattle.cells.specs.Places.{cell_count}
use Rattle.cells.specs.Items.{item_at, words_in, SpellsItems}
use Rattle.cells.proofs.ItemLaws.{place_fits}
use Rattle.cells.proofs.dense.Dense.set.Goals as goal

pub put_item-requires : goal.put_item-requires
put_item-requires c =
    omega (arith, ap length c.deref_mut.ensures.value, place_fits c.self.inside.dtype c.self.inside.shape c.self.inside.bytes.items c.args.self.now c.args.place c.self.view_is c.self.invariant c.requires.place)
