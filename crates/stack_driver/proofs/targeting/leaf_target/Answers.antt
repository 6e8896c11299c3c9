use Rattle.std.proofs.Common.{subst, sym, refl, List}
use Rattle.cast_driver.specs.declared.cast.Cast.{Cast}
use Rattle.stack_driver.specs.Targets.{LeadTo}
use Rattle.stack_driver.proofs.targeting.leaf_target.Goals as goal

pub returns-clause-casts : goal.returns-clause-casts
returns-clause-casts c = subst (λ (casts : List Cast). LeadTo casts c.args.array.now.dtype) (sym c.new.ensures) (record { base = c.args.array.now.dtype; begins = tt; ends = refl })
