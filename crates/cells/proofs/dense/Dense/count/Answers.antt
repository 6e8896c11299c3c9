use Rattle.std.proofs.Common.{◌≡◌, ◌∙◌, ◌*◌, sym, subst, arith}
use Rattle.cells.specs.Bytes.{byte_count}
use Rattle.cells.specs.Dense.{IsDense}
use Rattle.cells.specs.Places.{cell_count}
use Rattle.cells.proofs.ItemLaws.{count_of, sized, IsDense-items}
use Rattle.cells.proofs.dense.Dense.count.Goals as goal

pub returns-clause-value : goal.returns-clause-value
returns-clause-value c =
    let len : c.len.result ≡ cell_count c.self.inside.shape * byte_count c.self.inside.dtype = omega (arith, c.len.ensures, c.self.invariant.full) in
    count_of c.self.inside.dtype (cell_count c.self.inside.shape) c.len.result c.byte_count.result len c.byte_count.ensures.value
    ∙ sym (sized c.self.inside.dtype c.self.inside.shape c.self.inside.bytes.items c.args.self.now c.self.view_is)

pub returns-clause-well_formed : goal.returns-clause-well_formed
returns-clause-well_formed c = subst IsDense c.self.view_is (IsDense-items c.self.inside.dtype c.self.inside.shape c.self.inside.bytes.items c.self.invariant)
