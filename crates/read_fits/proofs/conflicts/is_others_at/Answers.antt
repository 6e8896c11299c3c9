use Rattle.std.proofs.Common.{◌∙◌, Some, ap, sym}
use Rattle.read_fits.proofs.ConflictLaws.{item_at, others_at}
use Rattle.read_fits.proofs.conflicts.is_others_at.Goals as goal

pub returns : goal.returns
returns c =
    let e = c.index-events-at.result in
    others_at c.args.events.now c.args.owner c.args.at e c.has_other_owner.result (item_at c.args.events.now c.args.at e c.requires ∙ ap Some (sym c.index-events-at.is)) c.has_other_owner.ensures
