use Rattle.std.proofs.Common.{sym, subst}
use Rattle.version_store.specs.Openings.{IsNew}
use Rattle.version_store.specs.declared.opening.Opening.{Opening}
use Rattle.version_store.proofs.Written.{AreInNew, has_room, kept_has, new_has, room_kept, room_new}
use Rattle.version_store.proofs.store.VersionStore.has_room.Goals as goal

pub returns-in-Some-clause-room : goal.returns-in-Some-clause-room
returns-in-Some-clause-room c = λ so. room_kept c.args.self.now c.args.number c.args.id.now c.args.words.now c.in-Some.chunk.now c.in-Some.ensures.value (c.room_in.ensures.has so)

pub returns-in-Some-clause-commits : goal.returns-in-Some-clause-commits
returns-in-Some-clause-commits c =
    λ h puts k chunk ps store put.
    c.room_in.ensures.lacks
    (kept_has c.args.self.now c.args.number c.args.id.now c.args.words.now c.in-Some.chunk.now c.in-Some.ensures.value c.room_in.ensures.valid
    (has_room c.args.self.now h puts k chunk ps c.args.number c.args.id.now c.args.words.now store put))

pub returns-in-None-clause-room : goal.returns-in-None-clause-room
returns-in-None-clause-room c =
    λ so.
    room_new c.args.self.now c.args.number c.args.id.now c.args.words.now c.in-None.ensures.value
    (λ v new. c.room_in_new.ensures.has so v (subst (λ (o : Opening). IsNew o v) (sym c.opening_under.ensures) new))

pub returns-in-None-clause-commits : goal.returns-in-None-clause-commits
returns-in-None-clause-commits c =
    λ h puts k chunk ps store put.
    let number = c.args.number in
    let words = c.args.words.now in
    let room = has_room c.args.self.now h puts k chunk ps number c.args.id.now words store put in
    let new = subst (λ (o : Opening). AreInNew o number words) (sym c.opening_under.ensures) (new_has c.args.self.now number c.args.id.now words c.in-None.ensures.value room) in
    c.room_in_new.ensures.lacks new.opened new.places
