use Rattle.std.proofs.Common.{◌++◌, append_assoc}
use Rattle.std.specs.Prelude.{codes}
use Rattle.answer_text.specs.Pieces.{indices_text}
use Rattle.answer_text.proofs.Items.{three_put, when_ok}
use Rattle.answer_text.proofs.behind.put_uncovered.Goals as goal

pub returns : goal.returns
returns c = when_ok _ _ c.put-2.result (λ h. three_put (codes ",\"uncovered\":{\"cell\":" ++ indices_text c.args.cell.now ++ codes "}") c.args.out.now.items
    (codes ",\"uncovered\":{\"cell\":")
    (indices_text c.args.cell.now)
    (codes "}")
    c.put.new.out.items c.put_indices.new.out.items c.put-2.new.out.items
    c.in_ok-put.ensures c.in_ok-put_indices.ensures h (simp append_assoc)) c.put-2.ensures
