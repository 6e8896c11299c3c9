use Rattle.std.proofs.Common.{[], ◌∷◌, ◌++◌, ap, subst}
use Rattle.std.proofs.lemmas.Result.{on_ok_weaker}
use Rattle.history.specs.declared.event.Op.TheVariants.{Write}
use Rattle.stated_history.specs.Standings.{standing_of}
use Rattle.transcript_fits.specs.Stands.{IsOwnOf, ops_in}
use Rattle.transcript_fits.proofs.stand.Stand.write.Goals as goal

pub returns-in-Some-clause-kept : goal.returns-in-Some-clause-kept
returns-in-Some-clause-kept c =
    on_ok_weaker c.write.result
    (λ joins. λ h writing. λ u some.
    subst (λ ops. IsOwnOf h c.args.self.now.upto (ops ++ Write c.args.view.now c.args.words.now ∷ []) c.write.new.self) (ap ops_in some)
    (joins h c.args.self.now.upto (ops_in (standing_of c.args.self.now.walk.standing).transaction) writing.reading.there writing.reading.own))
    c.write.ensures
