use Rattle.std.proofs.Common.{◌*◌, ◌∙◌, sym, ap, length, replicate}
use Rattle.std.proofs.lemmas.List.{length-replicate}
use Rattle.cells.specs.Bytes.{byte_count}
use Rattle.cells.specs.Items.{words_in}
use Rattle.cells.proofs.ItemLaws.{words_in-zeros}
use Rattle.cells.proofs.items.fill_zeros.Goals as goal

pub fill_items-requires-clause-full : goal.fill_items-requires-clause-full
fill_items-requires-clause-full c = ap length c.requires.zeros ∙ length-replicate (c.args.cells * byte_count c.args.dtype) 0

pub returns-then-word-eq0 : goal.returns-then-word-eq0
returns-then-word-eq0 c =
    ap (words_in c.args.dtype c.args.cells) c.requires.zeros ∙ words_in-zeros c.args.dtype c.args.cells
    ∙ ap (replicate c.args.cells) (sym c.if-word-eq0.true)
