use Rattle.std.proofs.Common.{◌∙◌, length, slice_index_or, sym, ap, arith}
use Rattle.made_scripts.specs.Summary.{commit_of}
use Rattle.made_scripts.proofs.Sums.{first_found}
use Rattle.made_scripts.proofs.telling.first_commit.Goals as goal

pub returns-in-len1-up : goal.returns-in-len1-up
returns-in-len1-up c =
    ap (λ t. slice_index_or t 0 0) c.commit_of.ensures
    ∙ sym (first_found (λ answer. commit_of answer.body) c.args.log.now c.loop-answer.answer-index c.answer-item.result c.answer-item.result 0 (omega (arith, c.loop-answer-test.true)) c.answer-item.is c.loop-answer.invariant (omega (arith, c.in-len1-up.len_at_least, ap length c.commit_of.ensures)))
