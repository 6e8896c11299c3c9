use Rattle.std.proofs.Common.{length, sym, ap, subst, ◌∙◌}
use Rattle.cells.specs.Shapes.{IsShape}
use Rattle.state_resizes.proofs.Begin.{may_have}
use Rattle.state_resizes.proofs.keys.form_by.Goals as goal

pub reshaped-requires-clause-shape : goal.reshaped-requires-clause-shape
reshaped-requires-clause-shape g c = subst IsShape (sym c.in_ok-sizes.ensures) (may_have c.args.array c.args.shape.now c.in_ok-form.form c.requires.agrees c.requires.cut c.in_ok-form.ensures).0

pub reshaped-requires-clause-rank : goal.reshaped-requires-clause-rank
reshaped-requires-clause-rank g c = ap length c.in_ok-sizes.ensures ∙ (may_have c.args.array c.args.shape.now c.in_ok-form.form c.requires.agrees c.requires.cut c.in_ok-form.ensures).1
