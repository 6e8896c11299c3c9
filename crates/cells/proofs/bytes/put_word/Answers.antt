-- The word reads back from the bytes that were written.
use Rattle.std.proofs.Common.{ap, ◌∙◌, arith}
use Rattle.std.proofs.lemmas.Grind.{common_steps}
use Rattle.cells.specs.Bytes.{word_of_bytes}
use Rattle.cells.proofs.ByteLaws.{word_of_bytes-word_bytes}
use Rattle.cells.proofs.bytes.put_word.Goals as goal

pub returns-then-big-clause-bytes : goal.returns-then-big-clause-bytes
returns-then-big-clause-bytes c = grind (arith, common_steps)

pub returns-else-big-clause-bytes : goal.returns-else-big-clause-bytes
returns-else-big-clause-bytes c = grind (arith, common_steps)

pub returns-then-big-clause-back : goal.returns-then-big-clause-back
returns-then-big-clause-back c =
    ap (word_of_bytes c.args.dtype c.args.big) (returns-then-big-clause-bytes c)
    ∙ word_of_bytes-word_bytes c.args.dtype c.args.big c.args.word c.requires.word

pub returns-else-big-clause-back : goal.returns-else-big-clause-back
returns-else-big-clause-back c =
    ap (word_of_bytes c.args.dtype c.args.big) (returns-else-big-clause-bytes c)
    ∙ word_of_bytes-word_bytes c.args.dtype c.args.big c.args.word c.requires.word
