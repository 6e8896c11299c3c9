use Rattle.std.specs.Prelude.{codes}
use Rattle.std.proofs.lemmas.Result.{on_ok_weaker}
use Rattle.made_scripts.specs.Scripts.{row_text, write_own}
use Rattle.made_scripts.proofs.Loops.{three_put}
use Rattle.made_scripts.proofs.scripts.put_write_own.Goals as goal

pub returns : goal.returns
unfolding write_own
returns c =
    on_ok_weaker c.put-2.result
    (three_put c.args.out.now.items (codes "{\"values\":") (row_text c.args.number 0) (codes ",\"write\":\"o\"}\n") c.put.new.out.items c.put_row.new.out.items c.put-2.new.out.items
    c.in_ok-put.ensures c.in_ok-put_row.ensures)
    c.put-2.ensures
