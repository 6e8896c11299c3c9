use Rattle.std.proofs.Common.{◌++◌, append_assoc}
use Rattle.std.specs.Prelude.{codes, decimal}
use Rattle.answer_text.specs.Text.{store_text}
use Rattle.answer_text.specs.Pieces.{numbers_text}
use Rattle.answer_text.proofs.Items.{two_put, when_ok}
use Rattle.answer_text.proofs.behind.put_failed.Goals as goal

pub returns : goal.returns
unfolding store_text
returns c = when_ok _ _ c.put_around.result (λ h. two_put (store_text c.args.done.now c.args.event) c.args.out.now.items
    (codes ",\"store_failed\":{\"done\":" ++ numbers_text c.args.done.now ++ codes ",\"event\":")
    (decimal c.args.event ++ codes "}")
    c.put_numbers_around.new.out.items c.put_around.new.out.items
    c.in_ok-put_numbers_around.ensures h (simp append_assoc)) c.put_around.ensures
