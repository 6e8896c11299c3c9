use Rattle.std.proofs.Common.{All, length, sym, subst}
use Rattle.std.proofs.lemmas.Result.{IfOk-weaker}
use Rattle.cells.specs.Items.{SpellsItems}
use Rattle.cells.specs.Numbers.{IsWord}
use Rattle.chunk_elements.specs.Words.{SpellsWords}
use Rattle.chunk_elements.proofs.MoveLaws.{written_moved}
use Rattle.chunk_elements.proofs.dense.bytes_of_dense.Goals as goal

pub returns-clause-spells : goal.returns-clause-spells
returns-clause-spells c =
    let words = c.args.d.now.words in
    let dtype = c.dtype.result in
    let spells : SpellsItems dtype c.bytes.result.now words = subst (λ t. SpellsItems t c.bytes.result.now words) (sym c.dtype.ensures.value) c.bytes.ensures.spells in
    let are : All (IsWord dtype) words = subst (λ t. All (IsWord t) words) (sym c.dtype.ensures.value) c.bytes.ensures.well_formed.of_dtype in
    IfOk-weaker c.moved.result _ _
    (λ bytes all. subst (λ t. SpellsWords t c.args.big bytes.items words) c.dtype.ensures.value
    (written_moved dtype c.args.big c.bytes.result.now bytes.items words spells are (all (length words) spells.count)))
    c.moved.ensures
