use Rattle.std.proofs.Common.{◌∙◌, arith}
use mathlib.Core.Option.{none}
use Rattle.atomic_table.specs.Table.{step}
use Rattle.turn_book.proofs.Turning.{gives_at}
use Rattle.turn_book.proofs.seats.put.Goals as goal

pub swap-requires : goal.swap-requires
swap-requires g c =
    let h = c.exchange-empty.ensures in
    let turn = c.requires.turn in (
      h.0 ∙ c.requires.at.0,
      (let w = c.requires.one_word in omega arith),
      gives_at _ _ _ _ _ _ _ c.args.seat.now.me _ _ c.args.state (step c.args.shared.now.table_id.slots 0 0 0 none) c.requires.at.1 turn.0 turn.1 turn.2 c.requires.agrees c.requires.added h.3,
    )
