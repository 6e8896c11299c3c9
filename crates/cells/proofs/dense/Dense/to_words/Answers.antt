use Rattle.std.proofs.Common.{◌≡◌, ◌∙◌, ◌*◌, sym, subst, arith}
use Rattle.cells.specs.Bytes.{byte_count}
use Rattle.cells.specs.Dense.{IsDense}
use Rattle.cells.specs.Places.{cell_count}
use Rattle.cells.proofs.ItemLaws.{count_of, sized, IsDense-items}
use Rattle.cells.proofs.dense.Dense.to_words.Goals as goal

pub returns-in_err-words-clause-well_formed : goal.returns-in_err-words-clause-well_formed
returns-in_err-words-clause-well_formed c = subst IsDense c.self.view_is (IsDense-items c.self.inside.dtype c.self.inside.shape c.self.inside.bytes.items c.self.invariant)

pub returns-clause-well_formed : goal.returns-clause-well_formed
returns-clause-well_formed c = subst IsDense c.self.view_is (IsDense-items c.self.inside.dtype c.self.inside.shape c.self.inside.bytes.items c.self.invariant)
