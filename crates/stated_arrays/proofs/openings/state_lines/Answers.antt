use Rattle.std.proofs.Common.{◌≡◌, true, false, subst}
use Rattle.std.proofs.lemmas.Result.{IfOk-weaker}
use Rattle.stated_arrays.specs.Stating.{IsStatingAll, IsStatingOf, IsWholeFor}
use Rattle.stated_arrays.proofs.openings.state_lines.Goals as goal

pub returns-then-not-is_stated : goal.returns-then-not-is_stated
returns-then-not-is_stated c =
    let down : c.in_ok-is_stated.is_stated ≡ false = cc in
    subst (IsStatingAll c.args.said.now c.args.lines.now c.state_all.new.lines c.state_all.new.arrays) down c.in_ok-is_stated.ensures.stated

pub returns : goal.returns
returns c =
    let up : c.in_ok-is_stated.is_stated ≡ true = cc in
    IfOk-weaker c.whole.result (IsWholeFor c.state_all.new.lines c.state_all.new.arrays.events.items) (IsStatingOf c.args.said.now c.args.lines.now)
    (λ found is. is c.args.said.now c.args.lines.now (subst (IsStatingAll c.args.said.now c.args.lines.now c.state_all.new.lines c.state_all.new.arrays) up c.in_ok-is_stated.ensures.stated)) c.whole.ensures
