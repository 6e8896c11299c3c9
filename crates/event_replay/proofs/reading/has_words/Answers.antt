use Rattle.std.proofs.Common.{ℕ, List}
use Rattle.std.specs.Prelude.{◌↔◌, IsTrue}
use Rattle.std.proofs.lemmas.Result.{IfOk-weaker}
use Rattle.history.specs.History.{History}
use Rattle.history.specs.declared.event.Op.{Op}
use Rattle.history.specs.declared.event.Op.TheVariants.{Read}
use Rattle.stack_driver.specs.declared.view.View.{View}
use Rattle.transaction_cells.specs.Operations.{HasSites}
use Rattle.transaction_cells.specs.Pieces.{AreCells}
use Rattle.transaction_cells.specs.Sites.{sites_of}
use Rattle.event_replay.specs.Replays.{MayFollow, IsBehind, HasWords}
use Rattle.event_replay.proofs.OpLaws.{can_locate}
use Rattle.event_replay.proofs.reading.has_words.Goals as goal

pub located-requires : goal.located-requires
located-requires c = can_locate c.requires.1.0 (Read c.args.view.now c.args.words.now) c.requires.1.3

pub show_cells-requires : goal.show_cells-requires
show_cells-requires c = (c.requires.1.0, c.requires.0, c.requires.1.1, c.args.view.now, c.requires.1.2, c.requires.1.3, c.in_ok-cells.ensures.sites, c.in_ok-cells.ensures.cells)

pub returns : goal.returns
returns c =
    let words = c.args.words.now in
    let s = c.args.store.now in
    IfOk-weaker c.show_cells.result
    (λ has. (history : History) (number : ℕ) (done : List Op) (view : View) → IsBehind history number done s → MayFollow history (Read view words) → HasSites view → AreCells (sites_of view) c.in_ok-cells.cells → IsTrue has ↔ HasWords history done view words)
    (λ has. (history : History) (number : ℕ) (done : List Op) → IsBehind history number done s → MayFollow history (Read c.args.view.now words) → IsTrue has ↔ HasWords history done c.args.view.now words)
    (λ answer tells. λ h number done behind may. tells h number done c.args.view.now behind may c.in_ok-cells.ensures.sites c.in_ok-cells.ensures.cells) c.show_cells.ensures
