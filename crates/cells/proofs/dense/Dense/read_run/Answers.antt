use Rattle.std.proofs.Common.{◌≡◌, ◌∙◌, ◌*◌, ◌/◌, List, ap, sym, subst, length, arith}
use Rattle.cells.specs.Bytes.{byte_count}
use Rattle.cells.specs.Dense.{DenseCells, IsDense}
use Rattle.cells.specs.Numbers.{IsWord}
use Rattle.cells.specs.Places.{cell_count}
use Rattle.cells.specs.Runs.{IsRunInside}
use Rattle.cells.specs.Items.{item_at, words_in, SpellsItems}
use Rattle.cells.proofs.ItemLaws.{sized, count_of}
use Rattle.cells.proofs.dense.Dense.read_run.Goals as goal

pub take_items-requires-clause-run : goal.take_items-requires-clause-run
take_items-requires-clause-run c =
    let len : c.len.result ≡ cell_count c.self.inside.shape * byte_count c.self.inside.dtype = omega (arith, c.len.ensures, c.self.invariant.full) in
    let count : c.len.result / c.byte_count.result ≡ length c.args.self.now.words =
    count_of c.self.inside.dtype (cell_count c.self.inside.shape) c.len.result c.byte_count.result len c.byte_count.ensures.value
    ∙ sym (sized c.self.inside.dtype c.self.inside.shape c.self.inside.bytes.items c.args.self.now c.self.view_is) in
    rw count c.requires
