use Rattle.std.proofs.Common.{ap, ◌∙◌, arith}
use mathlib.Core.Option.{none}
use Rattle.atomic_table.specs.Table.{step}
use Rattle.turn_book.proofs.Turning.{tries_at, locks}
use Rattle.turn_book.proofs.seats.try_turn.Goals as goal

pub compare_exchange-requires : goal.compare_exchange-requires
compare_exchange-requires g c = let me = c.loop.invariant.me in (
  c.loop.invariant.table ∙ c.requires.at.0,
  (let w = c.requires.one_word in omega arith),
  tries_at _ _ _ _ _ _ _ c.loop.seat.me _ _ (step c.args.shared.now.table_id.slots 0 0 1 none) (ap (λ m. m.0.fixed) me ∙ c.requires.at.1) (ap (λ m. m.1) me ∙ c.requires.idle) locks,
)
