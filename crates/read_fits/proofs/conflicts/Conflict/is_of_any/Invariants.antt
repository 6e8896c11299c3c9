use Rattle.std.proofs.Common.{◌<◌, ℕ, get_or}
use Rattle.history.specs.History.{History}
use Rattle.read_fits.specs.Conflicts.{AreChunks, AreTablesOf, IsMetAt}
use Rattle.read_fits.specs.Owned.{Id}
use Rattle.read_fits.proofs.conflicts.Conflict.is_of_any.Given as goal

-- none of the chunks so far is met
abbrev pub invariant-loop-i : goal.invariant-loop-i
invariant-loop-i l = (history : History) → AreTablesOf history l.openings l.store → AreChunks history l.ids.set.keys
    → (j : ℕ) (d : Id) → j < l.i → IsMetAt history l.self.key l.self.read l.self.touch (get_or l.ids.set.keys j d).items → ⊥
