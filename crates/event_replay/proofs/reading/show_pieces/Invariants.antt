use Rattle.std.proofs.Common.{List, take}
use Rattle.std.specs.List.{AllByRecursion}
use Rattle.history.specs.History.{History}
use Rattle.history.specs.Writes.{Put}
use Rattle.stack_driver.specs.declared.view.View.{View}
use Rattle.transaction_cells.specs.Sites.{sites_of}
use Rattle.transaction_cells.specs.declared.view_cells.Piece.{Piece}
use Rattle.version_store.specs.Asked.{content_with}
use Rattle.event_replay.specs.Pieces.{AreAskedIn}
use Rattle.event_replay.specs.Placed.{AreShownIn}
use Rattle.event_replay.proofs.reading.show_pieces.Given as goal

-- the cells of the pieces so far are shown
abbrev pub invariant-loop-i : goal.invariant-loop-i
invariant-loop-i l = (h : History) (puts : List Put) (v : View) → AreAskedIn h puts v l.words l.leaves l.casts l.pieces l.store
    → AllByRecursion (λ (p : Piece). AreShownIn (content_with h puts) p.id (sites_of v) l.words) (take l.i l.pieces)
