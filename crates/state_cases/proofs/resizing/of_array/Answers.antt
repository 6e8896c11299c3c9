use Rattle.std.proofs.Common.{length, ap, ◌∙◌}
use Rattle.state_cases.proofs.Resizable.{asked_by}
use Rattle.state_cases.proofs.resizing.of_array.Goals as goal

pub resized-requires-clause-asked : goal.resized-requires-clause-asked
resized-requires-clause-asked g c =
    let seen = g.K.KvStore.seen in
    asked_by (seen c.args.state.now.store) c.args.state.now.log c.args.array c.args.shape.now c.is_local.result c.in_ok-bounds.bounds c.requires (c.has_array.ensures.0 c.if-not-has_array.false) c.is_local.ensures c.if-is_local.false c.in_ok-bounds.ensures
    (c.may_follow.ensures.rank c.if-not-may_follow.false ∙ ap length c.items.ensures) (c.may_follow.ensures.shape c.if-not-may_follow.false)
