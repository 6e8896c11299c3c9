use Rattle.std.proofs.Common.{◌++◌, append_assoc}
use Rattle.std.specs.Prelude.{codes}
use Rattle.answer_text.specs.Text.{transform_text}
use Rattle.answer_text.specs.Pieces.{text_of}
use Rattle.answer_text.proofs.Items.{two_put, when_ok}
use Rattle.answer_text.proofs.behind.put_resolved.Goals as goal

pub returns : goal.returns
returns c = when_ok _ _ c.put_transform.result (λ h. two_put (codes ",\"resolve\":" ++ text_of c.args.name.now ++ codes ",\"transform\":" ++ transform_text c.args.transform.now) c.args.out.now.items
    (codes ",\"resolve\":" ++ text_of c.args.name.now ++ codes ",\"transform\":")
    (transform_text c.args.transform.now)
    c.put_text_around.new.out.items c.put_transform.new.out.items
    c.in_ok-put_text_around.ensures h (simp append_assoc)) c.put_transform.ensures
