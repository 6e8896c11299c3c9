use Rattle.std.proofs.Common.{sym, ◌∙◌}
use Rattle.commits.proofs.FormLaws.{tells_outside}
use Rattle.commits.proofs.Steps.{ok_to}
use Rattle.commits.proofs.outside.beyond.Goals as goal

pub returns : goal.returns
returns g c =
    ok_to _ _ c.told.result
    (λ found told k known.
    tells_outside c.args.state.now.log.events c.args.write.now k c.is_within.result found (sym (c.is_local.ensures k known) ∙ c.if-is_local.false) (c.is_within.ensures k known) c.if-is_within.false (told k known)) c.told.ensures
