use Rattle.std.proofs.Common.{sym, subst}
use Rattle.transcript_laws.specs.Numbers.{single}
use Rattle.transcript_cut.specs.Risen.{IsRise}
use Rattle.transcript_cut.specs.declared.rise.Rise.TheVariants.{Up}
use Rattle.transcript_cut.proofs.Rising.{none_goes}
use Rattle.transcript_cut.proofs.rise.risen_one.Goals as goal

pub returns-in-Some : goal.returns-in-Some
returns-in-Some c = subst (λ o. IsRise c.args.last (single o) c.risen_to.result) (sym c.in-Some.is) c.risen_to.ensures

pub returns-in-None : goal.returns-in-None
returns-in-None c = subst (λ o. IsRise c.args.last (single o) (Up c.args.last)) (sym c.in-None.is) (none_goes c.args.last)
