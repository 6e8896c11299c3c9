use Rattle.std.proofs.Common.{sym, subst, refl}
use Rattle.std.specs.Option.{IsSome}
use Rattle.turn_book.specs.Steps.{Ends}
use Rattle.turn_book.proofs.Closing.{ends, last_slot, last_state}
use Rattle.turn_book.proofs.seats.finish.Goals as goal

pub unwrap-requires : goal.unwrap-requires
unwrap-requires g c =
    let last = ends g.S.Book.owner g.S.Book.history g.S.Book.agrees c.args.table.shared.key.passes (g.S.Book.opening c.args.table.shared.key.start.value) c.args.seat.id c.args.seat.me.0 _ _ c.requires.idle c.requires.all c.close_with-closed.ensures.values.2 in
    let t = last_slot _ _ _ c.take-slot.ensures.value last in
    subst IsSome (sym t.1) refl

pub returns : goal.returns
returns g c =
    let last = ends g.S.Book.owner g.S.Book.history g.S.Book.agrees c.args.table.shared.key.passes (g.S.Book.opening c.args.table.shared.key.start.value) c.args.seat.id c.args.seat.me.0 _ _ c.requires.idle c.requires.all c.close_with-closed.ensures.values.2 in
    last_state (Ends g.S.Book.owner g.S.Book.history g.S.Book.agrees c.args.table.shared.key.passes (g.S.Book.opening c.args.table.shared.key.start.value) c.args.seat.me.0) c.take-slot.result c.unwrap.result c.unwrap.ensures
    (last_slot _ _ _ c.take-slot.ensures.value last)
