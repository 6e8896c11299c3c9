use Rattle.std.proofs.Common.{◌%◌, ◌/◌, ◌∙◌, sym, ap, get_or}
use Rattle.std.proofs.lemmas.Nat.Bits.{shr_and_one}
use Rattle.std.specs.Prelude.{nat_eq}
use Rattle.rebase_writes.proofs.MarkLaws.{mark_is}
use Rattle.rebase_writes.proofs.marks.is_marked.Goals as goal

pub returns : goal.returns
returns c = ap (λ b. nat_eq b 1) (shr_and_one (get_or c.args.marks.now (c.args.place / 64) 0) (c.args.place % 64)) ∙ sym (mark_is c.args.marks.now c.args.place)
