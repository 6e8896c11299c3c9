use Rattle.std.proofs.Common.{◌++◌}
use Rattle.std.specs.Prelude.{codes, decimal}
use Rattle.answer_text.specs.Pieces.{text_of}
use Rattle.answer_text.proofs.Items.{three_put, seven_joined, when_ok}
use Rattle.answer_text.proofs.causes.put_size_why.Goals as goal

pub returns : goal.returns
returns c = when_ok _ _ c.put_text_around.result (λ h. three_put (codes "{\"dim\":" ++ decimal c.args.dim ++ codes ",\"have\":" ++ decimal c.args.have ++ codes ",\"key\":" ++ text_of c.args.key.now ++ codes ",\"why\":\"size\"}") c.args.out.now.items
    (codes "{\"dim\":" ++ decimal c.args.dim ++ codes ",\"have\":")
    (decimal c.args.have ++ codes ",\"key\":")
    (text_of c.args.key.now ++ codes ",\"why\":\"size\"}")
    c.put_around.new.out.items c.put_around-2.new.out.items c.put_text_around.new.out.items
    c.in_ok-put_around.ensures c.in_ok-put_around-2.ensures h
    (seven_joined (codes "{\"dim\":") (decimal c.args.dim) (codes ",\"have\":") (decimal c.args.have) (codes ",\"key\":") (text_of c.args.key.now) (codes ",\"why\":\"size\"}"))) c.put_text_around.ensures
