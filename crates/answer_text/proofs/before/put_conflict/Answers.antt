use Rattle.std.proofs.Common.{◌++◌}
use Rattle.std.specs.Prelude.{codes, decimal}
use Rattle.answer_text.specs.Text.{conflict_text}
use Rattle.answer_text.specs.Pieces.{text_of}
use Rattle.answer_text.proofs.Items.{three_put, seven_joined, when_ok}
use Rattle.answer_text.proofs.before.put_conflict.Goals as goal

pub returns : goal.returns
unfolding conflict_text
returns c = when_ok _ _ c.put_around-2.result (λ h. three_put (conflict_text c.args.key.now c.args.read c.args.now) c.args.out.now.items
    (codes "\"conflict\":{\"key\":" ++ text_of c.args.key.now ++ codes ",\"now\":")
    (decimal c.args.now ++ codes ",\"read\":")
    (decimal c.args.read ++ codes "},")
    c.put_text_around.new.out.items c.put_around.new.out.items c.put_around-2.new.out.items
    c.in_ok-put_text_around.ensures c.in_ok-put_around.ensures h
    (seven_joined (codes "\"conflict\":{\"key\":") (text_of c.args.key.now) (codes ",\"now\":") (decimal c.args.now) (codes ",\"read\":") (decimal c.args.read) (codes "},"))) c.put_around-2.ensures
