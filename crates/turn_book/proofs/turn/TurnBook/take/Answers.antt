use Rattle.std.proofs.Common.{◌∙◌, ap, sym}
use Rattle.turn_book.proofs.Turning.{taken_slot}
use Rattle.turn_book.proofs.turn.TurnBook.take.Goals as goal

pub exchange-requires : goal.exchange-requires
exchange-requires g c = (
  c.win.ensures.same.0 ∙ (ap (λ p. p.book) c.pass.view_is ∙ (c.requires.pass.0.0 ∙ sym (ap (λ b. b.id) c.self.view_is))),
  taken_slot _ _ _ c.pass.inside.seat.me c.win.new.seat.me c.win.ensures.turn,
)
