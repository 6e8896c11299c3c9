use Rattle.std.proofs.Common.{◌++◌, append_assoc}
use Rattle.std.specs.Prelude.{codes}
use Rattle.answer_text.specs.Text.{transform_text}
use Rattle.answer_text.specs.Pieces.{text_of}
use Rattle.answer_text.proofs.Items.{four_put, when_ok}
use Rattle.answer_text.proofs.behind.put_viewed.Goals as goal

pub returns : goal.returns
returns c = when_ok _ _ c.put_text.result (λ h. four_put (codes ",\"transform\":" ++ transform_text c.args.transform.now ++ codes ",\"view\":" ++ text_of c.args.name.now) c.args.out.now.items
    (codes ",\"transform\":")
    (transform_text c.args.transform.now)
    (codes ",\"view\":")
    (text_of c.args.name.now)
    c.put.new.out.items c.put_transform.new.out.items c.put-2.new.out.items c.put_text.new.out.items
    c.in_ok-put.ensures c.in_ok-put_transform.ensures c.in_ok-put-2.ensures h (simp append_assoc)) c.put_text.ensures
