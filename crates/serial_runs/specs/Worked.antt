-- A run worked out by hand: two sessions over one array in memory. The first reads a cell under repeatable read and commits, and behind
-- that the second writes this cell.
use Rattle.std.specs.Prelude.{ℕ, List, [], ◌∷◌, codes, true, Some, None, Ok, Err}
use Rattle.cells.specs.declared.dtype.Dtype.TheVariants.{I32}
use Rattle.history.specs.declared.Want.TheVariants as want
use Rattle.stack_driver.specs.declared.view.View.TheVariants.{Leaf}
use Rattle.history.specs.declared.event.Event.{Event}
use Rattle.history.specs.declared.event.Kind.TheVariants.{Done}
use Rattle.history.specs.declared.event.Op.TheVariants.{Write, Read}
use Rattle.history.specs.History.{History}
use Rattle.history.specs.Answers as body
use Rattle.history.specs.Answers.{Answer, BuildCause, layers}
use Rattle.history.specs.Leaves as leaves
use Rattle.history.specs.Lines.{stored, Build, Values, Line, opening, reading, writing, beginning, committing}
use Rattle.history.specs.Sessions.{plain_mode}
use Rattle.history.specs.Viewing.{opened_body, values_body}
use Rattle.history.specs.Worked.{one_cell, at, repeatable, event1}
use Rattle.serial_runs.specs.Runs.{Script}

-- the array `a` of the mount `memory`: four cells of int32 in chunks of two, found or made
abbrev pub asked_leaf : leaves.Leaf
asked_leaf = record {
  mount = codes "memory";
  path = codes "a";
  want = want.Zarr (record { shape = Some (4 ∷ []); chunks = Some (2 ∷ []); dtype = Some I32; big = None; fill = None; order = None; slash = None });
  may_open = true;
  may_create = true;
}

-- its cell 1 alone
abbrev pub cell_1 : Build
cell_1 [] = Err ([], layers)
cell_1 (array ∷ arrays) = Ok (Leaf array (one_cell 1))

-- a line that opens it as `c`
abbrev pub open_cell : Line
open_cell = opening (codes "c") (stored [] asked_leaf ∷ []) cell_1

-- one word 7
abbrev pub seven : Values
seven dtype shape = Ok (7 ∷ [])

-- the first session's lines: it opens the cell, and reads it in a transaction under repeatable read
abbrev pub reads_cell : Script
reads_cell = Some open_cell ∷ Some (beginning repeatable) ∷ Some (reading (codes "c") [] None) ∷ Some committing ∷ []

-- the second session's lines: it opens the cell and writes 7 to it
abbrev pub writes_cell : Script
writes_cell = Some open_cell ∷ Some (writing (codes "c") [] seven) ∷ []

-- both scripts
abbrev pub scripts : List Script
scripts = reads_cell ∷ writes_cell ∷ []

-- the first session's commit, where it has read this word
abbrev pub commit_of : ℕ → Event
commit_of word = record { owner = 0; kind = Done 2 repeatable (Read (at 1) (word ∷ []) ∷ []) None }

-- the second session's write
abbrev pub write_of_7 : Event
write_of_7 = record { owner = 1; kind = Done 2 plain_mode (Write (at 1) (7 ∷ []) ∷ []) None }

-- the events: the first session opens the array and commits, and then the second writes
abbrev pub events : History
events = event1 ∷ commit_of 0 ∷ write_of_7 ∷ []

-- the first session's log, where it printed this word
abbrev pub log_of : ℕ → List Answer
log_of word =
    record { line = 1; body = opened_body (codes "c") (at 1) (1 ∷ []) } ∷ record { line = 2; body = body.begun } ∷ record { line = 3; body = values_body (at 1) None (word ∷ []) } ∷ record { line = 4; body = body.committed (2 ∷ []) } ∷ []

-- the second session's log
abbrev pub second_log : List Answer
second_log = record { line = 1; body = opened_body (codes "c") (at 1) [] } ∷ record { line = 2; body = body.written 1 (3 ∷ []) } ∷ []

-- both logs: the first session has read 0, which was there when it committed
abbrev pub logs : List (List Answer)
logs = log_of 0 ∷ second_log ∷ []

-- a history that says that the first session read 7, which is there only behind event 3
abbrev pub wrong_events : History
wrong_events = event1 ∷ commit_of 7 ∷ write_of_7 ∷ []
