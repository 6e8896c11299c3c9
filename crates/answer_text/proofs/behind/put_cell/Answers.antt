use Rattle.std.proofs.Common.{◌++◌, append_assoc}
use Rattle.std.specs.Prelude.{codes, decimal}
use Rattle.answer_text.specs.Text.{cell_text}
use Rattle.answer_text.specs.Pieces.{indices_text}
use Rattle.answer_text.proofs.Items.{three_put, when_ok}
use Rattle.answer_text.proofs.behind.put_cell.Goals as goal

pub returns : goal.returns
unfolding cell_text
returns c = when_ok _ _ c.put_around.result (λ h. three_put (cell_text c.args.cell.now c.args.dim) c.args.out.now.items
    (codes ",\"out_of_range\":{\"cell\":")
    (indices_text c.args.cell.now)
    (codes ",\"dim\":" ++ decimal c.args.dim ++ codes "}")
    c.put.new.out.items c.put_indices.new.out.items c.put_around.new.out.items
    c.in_ok-put.ensures c.in_ok-put_indices.ensures h (simp append_assoc)) c.put_around.ensures
