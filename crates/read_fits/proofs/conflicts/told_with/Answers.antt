use Rattle.std.proofs.Common.{refl}
use Rattle.read_fits.proofs.ConflictAnswers.{none_told, one_told}
use Rattle.read_fits.proofs.conflicts.told_with.Goals as goal

pub returns-then-not-same : goal.returns-then-not-same
returns-then-not-same c = λ number d found line_is there key read now.
    none_told c.args.line c.args.text.now d found there c.args.key.now c.args.read c.args.touch key read now c.in_ok-same.same c.if-not-same.true (c.in_ok-same.ensures number d line_is)

pub returns : goal.returns
returns c = λ number d found line_is there key read now.
    one_told c.args.line c.args.text.now d found there c.args.key.now c.args.read c.args.touch key read now _ c.in_ok-same.same c.if-not-same.false c.in_ok-key.ensures refl refl (c.in_ok-same.ensures number d line_is)
