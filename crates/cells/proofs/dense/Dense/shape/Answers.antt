use Rattle.std.proofs.Common.{subst}
use Rattle.cells.specs.Bytes.{byte_count}
use Rattle.cells.specs.Dense.{DenseCells, IsDense}
use Rattle.cells.specs.Numbers.{IsWord}
use Rattle.cells.specs.Places.{cell_count}
use Rattle.cells.specs.Items.{words_in, SpellsItems}
use Rattle.cells.proofs.ItemLaws.{IsDense-items}
use Rattle.cells.proofs.dense.Dense.shape.Goals as goal

pub returns-clause-well_formed : goal.returns-clause-well_formed
returns-clause-well_formed c = subst IsDense c.self.view_is (IsDense-items c.self.inside.dtype c.self.inside.shape c.self.inside.bytes.items c.self.invariant)
