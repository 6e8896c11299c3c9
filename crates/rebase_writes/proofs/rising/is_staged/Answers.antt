use Rattle.std.proofs.Common.{◌≡◌, ◌∙◌, None, Option, ℕ, replicate, IsSome, sym, subst, refl}
use Rattle.rebase_writes.proofs.RisingLaws.{none_at, rising_over}
use Rattle.rebase_writes.proofs.rising.is_staged.Goals as goal

pub returns-in-Some-clause-some : goal.returns-in-Some-clause-some
returns-in-Some-clause-some c is_true cells are =
    subst (λ (o : Option ℕ). IsSome o) (sym (c.in-Some.ensures.some (replicate cells None) (rising_over _ cells c.args.runs.now are))) refl

pub returns-in-None-clause-none : goal.returns-in-None-clause-none
returns-in-None-clause-none c is_false cells = c.in-None.ensures.none (replicate cells None) ∙ none_at cells c.args.place
