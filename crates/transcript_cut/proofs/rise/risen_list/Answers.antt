use Rattle.std.proofs.Common.{subst}
use Rattle.transcript_cut.specs.Risen.{IsRise}
use Rattle.transcript_cut.proofs.rise.risen_list.Goals as goal

pub returns : goal.returns
returns c = subst (λ ns. IsRise c.args.last ns c.risen_all.result) c.items.ensures c.risen_all.ensures
