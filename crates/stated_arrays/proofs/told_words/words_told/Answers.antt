use Rattle.std.proofs.Common.{◌∙◌, length, sym, ap, arith}
use Rattle.cells.specs.Places.{cell_count}
use Rattle.index_transform.specs.Cells.{cells_of}
use Rattle.index_transform.proofs.Laws.{length-cells_of}
use Rattle.stack_driver.specs.Views.{look_of}
use Rattle.stated_arrays.proofs.WordLaws.{counted_few}
use Rattle.stated_arrays.proofs.told_words.words_told.Goals as goal

pub nested-requires : goal.nested-requires
nested-requires c =
    let dims = (look_of c.args.v.now).dims in
    let few = counted_few c.args.v.now (length (cells_of dims)) c.requires in
    let same = ap cell_count (c.deref.ensures.value ∙ c.in_ok-shape.ensures) ∙ sym (length-cells_of dims) in
    omega (arith, few, same)
