use Rattle.std.proofs.Common.{arith}
use Rattle.turn_book.proofs.Dealing.{deals_at}
use Rattle.turn_book.proofs.seats.deal_one.Goals as goal

pub split_seat-other-requires : goal.split_seat-other-requires
split_seat-other-requires g c = (
  c.requires.at.0,
  (let w = c.requires.at.1 in omega arith),
  deals_at _ _ _ _ _ _ c.args.number c.requires.more.0 _ c.args.seat.now.me c.requires.more.1,
)
