use Rattle.std.proofs.lemmas.Result.{on_ok_weaker}
use Rattle.history.specs.declared.event.Op.TheVariants.{Write}
use Rattle.event_replay.proofs.OpLaws.{can_locate}
use Rattle.event_replay.proofs.writing.put_write.Goals as goal

pub located-requires : goal.located-requires
located-requires c = can_locate c.requires.0 (Write c.args.view.now c.args.words.now) c.requires.3

pub put_cells-requires : goal.put_cells-requires
put_cells-requires c = (c.requires.0, c.requires.1, c.args.view.now, c.requires.2, c.requires.3, c.in_ok-cells.ensures.sites, c.in_ok-cells.ensures.cells)

pub returns : goal.returns
returns c = on_ok_weaker c.put_cells.result (λ all. λ h done behind may. all h done c.args.view.now behind may c.in_ok-cells.ensures.sites c.in_ok-cells.ensures.cells) c.put_cells.ensures
