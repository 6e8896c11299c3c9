use Rattle.std.proofs.Common.{◌≤◌, arith}
use Rattle.version_store.proofs.Written.{new_room}
use Rattle.version_store.proofs.filling.room_in_new.Goals as goal

pub returns-clause-has : goal.returns-clause-has
returns-clause-has c =
    let low : c.args.opening.opened ≤ c.args.number = omega arith in
    λ so v new. new_room c.args.opening c.args.number c.args.words.now v low (c.are_places.ensures.are so) new
