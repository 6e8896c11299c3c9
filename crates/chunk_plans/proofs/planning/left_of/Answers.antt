use Rattle.std.proofs.Common.{refl, sym, subst}
use Rattle.history.proofs.Laws.{some_inj}
use Rattle.chunk_plans.specs.Leaving.{AreOfForm}
use Rattle.chunk_plans.proofs.planning.left_of.Goals as goal

pub returns-then-not-is_of_form : goal.returns-then-not-is_of_form
returns-then-not-is_of_form c = (refl, λ d is. absurd (cc))

pub returns : goal.returns
returns c = (
  refl,
  λ d is.
      let same = some_inj c.args.ready.cells d is in
      (sym same, subst (AreOfForm c.args.form.now) same (c.is_of_form.ensures c.if-not-is_of_form.false)),
)
