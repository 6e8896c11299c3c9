use Rattle.std.proofs.Common.{arith}
use Rattle.open_fits.proofs.AskingLaws.{refused_here, not_here, not_at_all}
use Rattle.open_fits.proofs.asking.is_refused.Goals as goal

pub loop-place-init : goal.loop-place-init
loop-place-init c = λ history same k low less. absurd (omega (arith, low, less))

pub is_leaf_refused-requires-clause-place : goal.is_leaf_refused-requires-clause-place
is_leaf_refused-requires-clause-place c = let end = c.requires.question.end in omega (arith, end)

pub returns-then-refused : goal.returns-then-refused
returns-then-refused c = λ history same.
    refused_here history c.args.question.now c.loop-place.place c.in_ok-refused.refused (omega arith) (omega arith) (c.in_ok-refused.ensures history same) c.if-refused.true

pub loop-place-preserved : goal.loop-place-preserved
loop-place-preserved c = λ history same.
    not_here history c.args.question.now c.loop-place.place c.in_ok-refused.refused (c.loop-place.invariant history same) (c.in_ok-refused.ensures history same) c.if-refused.false

pub returns : goal.returns
returns c = λ history same. not_at_all history c.args.question.now c.loop-place.place (omega arith) (c.loop-place.invariant history same)
