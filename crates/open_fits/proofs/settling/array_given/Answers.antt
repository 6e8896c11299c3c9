use Rattle.std.proofs.Common.{refl, sym, subst}
use Rattle.std.proofs.lemmas.Result.{IfOk-weaker}
use Rattle.open_fits.specs.Settling.{MayBeNamedBy, IsNamedBy}
use Rattle.open_fits.proofs.settling.array_given.Goals as goal

pub array_by-requires : goal.array_by-requires
array_by-requires c = subst (MayBeNamedBy c.args.events.now) c.in-Some.is c.requires

pub returns-in-Some : goal.returns-in-Some
returns-in-Some c =
    IfOk-weaker c.array_by.result _ (IsNamedBy c.args.events.now c.args.taking) (λ array is. subst (λ n. IsNamedBy c.args.events.now n array) (sym c.in-Some.is) is) c.array_by.ensures

pub returns-in-None : goal.returns-in-None
returns-in-None c = subst (λ n. IsNamedBy c.args.events.now n _) (sym c.in-None.is) refl
