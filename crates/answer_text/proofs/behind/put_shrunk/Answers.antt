use Rattle.std.proofs.Common.{◌++◌, append_assoc}
use Rattle.std.specs.Prelude.{codes, decimal}
use Rattle.answer_text.specs.Text.{shrunk_text}
use Rattle.answer_text.specs.Pieces.{text_of}
use Rattle.answer_text.proofs.Items.{two_put, when_ok}
use Rattle.answer_text.proofs.behind.put_shrunk.Goals as goal

pub returns : goal.returns
unfolding shrunk_text
returns c = when_ok _ _ c.put_around.result (λ h. two_put (shrunk_text c.args.key.now c.args.now) c.args.out.now.items
    (codes ",\"shrunk\":{\"key\":" ++ text_of c.args.key.now ++ codes ",\"now\":")
    (decimal c.args.now ++ codes "}")
    c.put_text_around.new.out.items c.put_around.new.out.items
    c.in_ok-put_text_around.ensures h (simp append_assoc)) c.put_around.ensures
