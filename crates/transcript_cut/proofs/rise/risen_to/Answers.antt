use Rattle.std.proofs.Common.{[], ◌∷◌, Some, sym, subst}
use Rattle.transcript_cut.specs.Risen.{IsRise}
use Rattle.transcript_cut.specs.declared.rise.Rise.TheVariants.{Up}
use Rattle.transcript_cut.proofs.Rising.{first_goes}
use Rattle.transcript_cut.proofs.rise.risen_to.Goals as goal

pub returns-in-Some : goal.returns-in-Some
returns-in-Some c = subst (λ o. IsRise o (c.args.next ∷ []) c.risen_from.result) (sym c.in-Some.is) c.risen_from.ensures

pub returns-in-None : goal.returns-in-None
returns-in-None c = subst (λ o. IsRise o (c.args.next ∷ []) (Up (Some c.args.next))) (sym c.in-None.is) (first_goes c.args.next)
