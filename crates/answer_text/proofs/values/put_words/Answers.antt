use Rattle.answer_text.specs.Nested.{word_text}
use Rattle.answer_text.proofs.Items.{none_put, one_put, all_put, when_ok}
use Rattle.answer_text.proofs.values.put_words.Goals as goal

pub loop-k-init : goal.loop-k-init
loop-k-init c = none_put (word_text c.args.dtype) c.args.words.now c.args.out.now.items c.put.new.out.items c.in_ok-put.ensures

pub loop-k-preserved : goal.loop-k-preserved
loop-k-preserved c =
    one_put (word_text c.args.dtype) c.args.words.now c.loop-k.k c.args.out.now.items c.loop-k.out.items c.put_comma.new.out.items c.put_word.new.out.items 0 c.loop-k-test.true
    c.in_ok-put_comma.ensures c.in_ok-put_word.ensures c.loop-k.invariant

pub returns : goal.returns
returns c =
    when_ok _ _ c.put-2.result
    (λ h. all_put (word_text c.args.dtype) c.args.words.now c.loop-k.k c.args.out.now.items c.loop-k.out.items c.put-2.new.out.items c.loop-k-test.false h c.loop-k.invariant)
    c.put-2.ensures
