use Rattle.std.proofs.Common.{◌++◌, ℕ, List, take}
use Rattle.history.specs.History.{History}
use Rattle.history.specs.Writes.{Put}
use Rattle.stack_driver.specs.declared.view.View.{View}
use Rattle.version_store.specs.Stores.{IsPartStoreOf}
use Rattle.event_replay.specs.Pieces.{ArePut}
use Rattle.event_replay.proofs.PutLaws.{pieces_so_far}
use Rattle.event_replay.proofs.writing.put_pieces.Given as goal

-- the words of the pieces so far are put
abbrev pub invariant-loop-i : goal.invariant-loop-i
invariant-loop-i l = (h : History) (puts : List Put) (v : View) (words : List ℕ) → ArePut h l.number puts v words l.kept l.pieces l.initial.store
    → IsPartStoreOf h (puts ++ pieces_so_far h v words (take l.i l.pieces)) l.store
