use Rattle.std.proofs.lemmas.Result.{on_ok_weaker}
use Rattle.stated_arrays.proofs.Kept.{kept_behind}
use Rattle.stated_arrays.proofs.lines.keep_line.Goals as goal

pub returns-in-Ok : goal.returns-in-Ok
returns-in-Ok c =
    on_ok_weaker c.keep_act.result
    (λ new_line. kept_behind c.args.scripts.now c.args.line.now c.in-Ok.act c.args.standing.now c.keep_act.new.standing c.args.lines.now.items c.keep_act.new.lines.items c.in-Ok.ensures.asked c.in-Ok.ensures.sound c.keep_act.ensures.standing new_line)
    c.keep_act.ensures.line
