use Rattle.std.proofs.Common.{◌≡◌, ◌<◌, ◌≤◌, ◌++◌, ◌∷◌, [], length, take, ap, sym, subst, ◌∙◌, arith}
use Rattle.std.specs.Prelude.{if◌then◌else◌}
use Rattle.kv_mounts.specs.Finish.{IsFinished, Places, failed_places}
use Rattle.kv_mounts.proofs.UnionLaws.{length-set}
use Rattle.kv_mounts.proofs.Finishing.{finished_more, left_more, failed_places-more, room_more}
use Rattle.kv_mounts.proofs.mounts.finish_into.Goals as goal

pub note-requires : goal.note-requires
note-requires g c =
    let new = c.loop-place.mounts in
    let i = c.loop-place.place in
    let less : i < length new = omega (arith, c.loop-place-test.true, c.loop-place.invariant.long) in
    let fits : length new ≤ c.args.list.now.room = omega (arith, c.requires.room, c.loop-place.invariant.long) in
    let count : length c.loop-place.list.places ≡ length (failed_places (take i new)) = ap (λ (l : Places). length l.places) c.loop-place.invariant.places in
    let room : c.loop-place.list.room ≡ c.args.list.now.room = ap (λ (l : Places). l.room) c.loop-place.invariant.places in
    omega (arith, room_more new i c.args.list.now.room less fits, count, room)

pub loop-place-preserved : goal.loop-place-preserved
loop-place-preserved g c =
    let old = c.args.mounts.now in
    let new = c.loop-place.mounts in
    let i = c.loop-place.place in
    let p = c.index-mounts-place.result in
    let q = c.finish-failed.new.self in
    let room = c.args.list.now.room in
    let failed = failed_places (take i new) in
    let less : i < length new = omega (arith, c.loop-place-test.true, c.loop-place.invariant.long) in
    let more : IsFinished p q = subst (λ r. IsFinished r q) (sym c.index-mounts-place.is) c.finish-failed.ensures.finished in
    record {
      done = finished_more old new i p q less c.loop-place.invariant.long c.index-mounts-place.is c.loop-place.invariant.left c.loop-place.invariant.done more;
      left = left_more old new i q c.loop-place.invariant.left;
      long = length-set new i q ∙ c.loop-place.invariant.long;
      places = c.note.ensures
          ∙ ap {B = Places} (λ (l : Places). record { places = if c.finish-failed.result then l.places ++ i ∷ [] else l.places; room = l.room }) c.loop-place.invariant.places
          ∙ ap {B = Places} (λ b. record { places = if b then failed ++ i ∷ [] else failed; room = room }) c.finish-failed.ensures.failed
          ∙ ap {B = Places} (λ xs. record { places = xs; room = room }) (sym (failed_places-more new i q less));
    }
