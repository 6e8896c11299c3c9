use Rattle.std.proofs.Common.{List, sym, ap, subst}
use Rattle.cast_driver.specs.declared.cast.Cast.{Cast}
use Rattle.cast_driver.proofs.Laws.{AreJoined-push}
use Rattle.stack_driver.specs.Targets.{LeadTo}
use Rattle.transaction_cells.specs.Lanes.{LaneSeen}
use Rattle.transaction_cells.proofs.lanes.with_cast.Goals as goal

pub push-requires : goal.push-requires
push-requires c =
    let lead : LeadTo c.lane.inside.casts c.args.cast.from = subst (λ (casts : List Cast). LeadTo casts c.args.cast.from) (sym (ap (λ (l : LaneSeen). l.casts) c.lane.view_is)) c.requires in
    AreJoined-push c.lane.inside.casts lead.base c.args.cast c.casts.ensures.joined (sym lead.ends)
