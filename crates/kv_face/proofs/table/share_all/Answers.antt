use Rattle.std.proofs.Common.{◌++◌, map, sym, ap, ◌∙◌}
use Rattle.kv_face.specs.Table.{change_of}
use Rattle.kv_face.proofs.Shared.{shared_more}
use Rattle.kv_face.proofs.table.share_all.Goals as goal

pub loop-change-preserved : goal.loop-change-preserved
loop-change-preserved c =
    let rest = c.next.new.self.rest.items in
    ap (λ all. map change_of all ++ rest) c.in_ok-push.ensures.items
    ∙ shared_more c.loop-change.all.items _ _ rest c.in_ok-share.ensures
    ∙ ap (λ xs. map change_of c.loop-change.all.items ++ xs) (sym c.in-Some.ensures.steps.0)
    ∙ c.loop-change.invariant
