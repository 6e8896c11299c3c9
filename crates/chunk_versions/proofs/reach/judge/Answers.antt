use Rattle.std.proofs.Common.{arith}
use Rattle.cells.proofs.Laws.{not_both}
use Rattle.chunk_versions.proofs.Candidates.{none_ruled, ruled_if}
use Rattle.chunk_versions.proofs.reach.judge.Goals as goal

pub returns-then-until-begin-clause-judged : goal.returns-then-until-begin-clause-judged
returns-then-until-begin-clause-judged c = none_ruled _ _ (λ k good isnt high. omega (arith, high))

pub returns-then-fits-clause-judged : goal.returns-then-fits-clause-judged
returns-then-fits-clause-judged c = none_ruled _ _ (λ k good isnt. not_both c.args.fits c.if-fits.true isnt)

pub returns-clause-judged : goal.returns-clause-judged
returns-clause-judged c = ruled_if _ _ c.args.begin c.args.until c.args.fits c.if-fits.false c.rule.ensures
