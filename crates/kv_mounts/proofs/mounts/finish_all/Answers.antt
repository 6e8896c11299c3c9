use Rattle.std.proofs.Common.{◌<◌, length, take, ap, sym, subst, ◌∙◌, ◌||◌, arith}
use Rattle.std.specs.List.{list_any}
use Rattle.kv_mounts.specs.Union.{has_failed}
use Rattle.kv_mounts.specs.Finish.{IsFinished}
use Rattle.kv_mounts.proofs.UnionLaws.{length-set}
use Rattle.kv_mounts.proofs.Finishing.{finished_more, left_more, any_failed_more}
use Rattle.kv_mounts.proofs.mounts.finish_all.Goals as goal

pub loop-place-preserved : goal.loop-place-preserved
loop-place-preserved g c =
    let old = c.args.mounts.now in
    let new = c.loop-place.mounts in
    let i = c.loop-place.place in
    let p = c.index-mounts-place.result in
    let q = c.finish-failed.new.self in
    let less : i < length new = omega (arith, c.loop-place-test.true, c.loop-place.invariant.long) in
    let more : IsFinished p q = subst (λ r. IsFinished r q) (sym c.index-mounts-place.is) c.finish-failed.ensures.finished in
    record {
      done = finished_more old new i p q less c.loop-place.invariant.long c.index-mounts-place.is c.loop-place.invariant.left c.loop-place.invariant.done more;
      left = left_more old new i q c.loop-place.invariant.left;
      long = length-set new i q ∙ c.loop-place.invariant.long;
      failed = ap (λ t. t || c.finish-failed.result) c.loop-place.invariant.failed ∙ ap (λ t. list_any has_failed (take i new) || t) c.finish-failed.ensures.failed ∙ sym (any_failed_more new i q less);
    }
