-- Twice the last bit, without the bits below the first.
use Rattle.rebase_writes.proofs.MarkLaws.{first_to_last, bits_between}
use Rattle.rebase_writes.proofs.marks.bits.Goals as goal

pub overflow_sub-result : goal.overflow_sub-result
overflow_sub-result c = first_to_last c.args.first c.args.end c.requires.some c.requires.few

pub returns : goal.returns
returns c = bits_between c.args.first c.args.end c.requires.some c.requires.few
