use Rattle.std.proofs.Common.{◌+◌, ◌*◌}
use Rattle.std.proofs.lemmas.Result.{on_ok_weaker}
use Rattle.made_scripts.specs.Scripts.{begin, commit, write_rows, write_block}
use Rattle.made_scripts.proofs.Loops.{three_put}
use Rattle.made_scripts.proofs.scripts.put_block.Goals as goal

pub returns : goal.returns
unfolding write_block
returns c =
    on_ok_weaker c.put-2.result
    (three_put c.args.out.now.items begin (write_rows c.args.number (100 * c.args.block + c.args.session) (100 * c.args.block + 100)) commit c.put.new.out.items c.put_write.new.out.items c.put-2.new.out.items
    c.in_ok-put.ensures c.in_ok-put_write.ensures)
    c.put-2.ensures
