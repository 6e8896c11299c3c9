-- Histories worked out by hand: two sessions over one array in memory, as docs/transactions.md tells them, and what befalls
-- commits over stores that fail, or that can't change several keys at once.
use Rattle.std.specs.Prelude.{ℕ, List, [], ◌∷◌, take, codes, pos, true, false, Some, None, Ok}
use Rattle.std.specs.FinMap as finmap
use Rattle.cells.specs.declared.dtype.Dtype.TheVariants.{I32}
use Rattle.cells.specs.declared.order.Order.TheVariants.{C}
use Rattle.stack_driver.specs.Transforms.{DomainAndMaps}
use Rattle.stack_driver.specs.declared.OutMap.TheVariants.{Constant, Strided}
use Rattle.stack_driver.specs.References.{Reference}
use Rattle.stack_driver.specs.Targets.{Cell}
use Rattle.stack_driver.specs.declared.view.View.{View}
use Rattle.stack_driver.specs.declared.view.View.TheVariants.{Leaf}
use Rattle.history.specs.declared.array.ArrayInfo.{ArrayInfo}
use Rattle.history.specs.declared.array.Home.TheVariants.{Zarr}
use Rattle.history.specs.declared.event.Event.{Event}
use Rattle.history.specs.declared.event.Kind.TheVariants.{Opened, Done, Resized, Fault}
use Rattle.history.specs.declared.event.Mode.{Mode}
use Rattle.history.specs.declared.event.Op.TheVariants.{Write, Read}
use Rattle.history.specs.History.{History}
use Rattle.history.specs.Alone.{single_store}
use Rattle.history.specs.Chunks.{Chunk}
use Rattle.history.specs.Commit.{Key, Fixed, Transaction}
use Rattle.history.specs.Lines.{Values}
use Rattle.history.specs.Reads.{Marks}
use Rattle.history.specs.Sessions.{Names, SessionState, plain_mode}

-- an empty store at `memory` that changes all its keys together
abbrev pub joint : Fixed
joint = single_store (codes "memory")

-- an empty store that changes each key alone
abbrev pub split : Fixed
split = record { start = finmap.empty; prefixes = [] }

-- four cells of int32 in two chunks
abbrev pub array : ArrayInfo
array = record {
  number = 0;
  home = Zarr (codes "memory") (codes "a") (record { shape = 4 ∷ []; chunks = 2 ∷ []; dtype = I32; big = false; fill = None; order = C; slash = false });
  dtype = I32;
  shape = 4 ∷ [];
  fill = 0;
}

-- the key of the array's metadata
abbrev pub metadata : Key
metadata = codes "memory/a/.zarray"

-- the key of its first chunk, of cells 0 and 1
abbrev pub first_key : Key
first_key = codes "memory/a/0"

-- the key of its second chunk, of cells 2 and 3
abbrev pub second_key : Key
second_key = codes "memory/a/1"

-- the chunk of the array with this index
abbrev pub chunk : ℕ → Chunk
chunk index = record { array = 0; index = index ∷ [] }

-- the cell of the array with this index
abbrev pub cell : ℕ → Cell
cell index = record { array = 0; index = index ∷ [] }

-- how a view names the array that knows it with so many cells
abbrev pub of_shape : ℕ → Reference
of_shape size = record { number = 0; dtype = I32; shape = size ∷ []; chunk = 2 ∷ []; local = false }

-- the cells from 0 to this one, where the upper bound is implicit
abbrev pub first_cells : ℕ → DomainAndMaps
first_cells last = record {
  domain = record { dims = record { lo = pos 0; hi = pos last; lo_implicit = false; hi_implicit = true } ∷ []; labels = [] ∷ [] };
  maps = Strided (pos 0) (pos 1) 0 ∷ [];
}

-- this cell alone, without a dimension
abbrev pub one_cell : ℕ → DomainAndMaps
one_cell index = record { domain = record { dims = []; labels = [] }; maps = Constant (pos index) ∷ [] }

-- the whole array, as a view knows it that was opened when it had four cells
abbrev pub whole : View
whole = Leaf (of_shape 4) (first_cells 3)

-- one cell of it, as such a view knows it
abbrev pub at : ℕ → View
at index = Leaf (of_shape 4) (one_cell index)

-- the flags of a transaction under repeatable read
abbrev pub repeatable : Mode
repeatable = record { atomic = false; repeatable_read = true }

-- session 0 opens the array
abbrev pub event1 : Event
event1 = record { owner = 0; kind = Opened array }

-- session 0 writes 1, 2, 3 and 4 at its line 2
abbrev pub event2 : Event
event2 = record { owner = 0; kind = Done 2 plain_mode (Write whole (1 ∷ 2 ∷ 3 ∷ 4 ∷ []) ∷ []) None }

-- session 1 writes 7 to cell 1 at its line 2
abbrev pub event3 : Event
event3 = record { owner = 1; kind = Done 2 plain_mode (Write (at 1) (7 ∷ []) ∷ []) None }

-- session 1 writes 8 to cell 1 at its line 3
abbrev pub event4 : Event
event4 = record { owner = 1; kind = Done 3 plain_mode (Write (at 1) (8 ∷ []) ∷ []) None }

-- session 0 commits the transaction begun at its line 8, which wrote 5 to cell 0
abbrev pub event5 : Event
event5 = record { owner = 0; kind = Done 8 repeatable (Write (at 0) (5 ∷ []) ∷ []) None }

-- session 1 cuts the array to three cells
abbrev pub event6 : Event
event6 = record { owner = 1; kind = Resized 0 (3 ∷ []) }

-- session 1 lets it grow to four cells again
abbrev pub event7 : Event
event7 = record { owner = 1; kind = Resized 0 (4 ∷ []) }

-- the events of both sessions
abbrev pub events : History
events = event1 ∷ event2 ∷ event3 ∷ event4 ∷ event5 ∷ event6 ∷ event7 ∷ []

-- the first so many of them
abbrev pub first_events : ℕ → History
first_events n = take n events

-- a name bound to the whole array
abbrev pub names : Names
names name = Some whole

-- a session that has seen so many events and stands in this transaction
abbrev pub within : ℕ → Transaction → SessionState
within seen t = record { names = names; seen = seen; transaction = Some t }

-- a session that has seen so many events and stands in no transaction
abbrev pub outside : ℕ → SessionState
outside seen = record { names = names; seen = seen; transaction = None }

-- the first chunk was read behind event 2
abbrev pub mark2 : Marks
mark2 = (chunk 0, 2) ∷ []

-- session 0's first transaction, begun at line 3
abbrev pub begun3 : Transaction
begun3 = record { line = 3; mode = repeatable; ops = []; marks = [] }

-- the same with cell 0 read at line 4
abbrev pub read4 : Transaction
read4 = record { line = 3; mode = repeatable; ops = Read (at 0) (1 ∷ []) ∷ []; marks = mark2 }

-- the same with cell 1 read at line 5
abbrev pub read5 : Transaction
read5 = record { line = 3; mode = repeatable; ops = Read (at 0) (1 ∷ []) ∷ Read (at 1) (2 ∷ []) ∷ []; marks = mark2 }

-- the same with cell 3 written at line 6
abbrev pub written6 : Transaction
written6 = record { line = 3; mode = repeatable; ops = Read (at 0) (1 ∷ []) ∷ Read (at 1) (2 ∷ []) ∷ Write (at 3) (9 ∷ []) ∷ []; marks = mark2 }

-- session 0's second transaction: cell 0 written, and nothing read
abbrev pub written9 : Transaction
written9 = record { line = 8; mode = repeatable; ops = Write (at 0) (5 ∷ []) ∷ []; marks = [] }

-- the same with cell 0 read back at line 9, behind its own write
abbrev pub reread : Transaction
reread = record { line = 8; mode = repeatable; ops = Write (at 0) (5 ∷ []) ∷ Read (at 0) (5 ∷ []) ∷ []; marks = [] }

-- the commit of that one
abbrev pub rereading : Event
rereading = record { owner = 0; kind = Done 8 repeatable (Write (at 0) (5 ∷ []) ∷ Read (at 0) (5 ∷ []) ∷ []) None }

-- this commit behind events 1 to 4
abbrev pub with_rereading : History
with_rereading = event1 ∷ event2 ∷ event3 ∷ event4 ∷ rereading ∷ []

-- session 0's third transaction: cell 3 written
abbrev pub written12 : Transaction
written12 = record { line = 11; mode = plain_mode; ops = Write (at 3) (9 ∷ []) ∷ []; marks = [] }

-- a store call fails at the commit of session 0's second transaction
abbrev pub fault5 : Event
fault5 = record { owner = 0; kind = Fault (codes "memory") }

-- events 1 to 4, the failed store call, and the commit behind it
abbrev pub failing : History
failing = event1 ∷ event2 ∷ event3 ∷ event4 ∷ fault5 ∷ event5 ∷ []

-- a word for each of the four cells
abbrev pub fives : List ℕ
fives = 5 ∷ 5 ∷ 5 ∷ 5 ∷ []

-- a transaction that writes both chunks, all its changes together or not at all
abbrev pub all_or_none : Transaction
all_or_none = record { line = 2; mode = record { atomic = true; repeatable_read = false }; ops = Write whole fives ∷ []; marks = [] }

-- what a write of its own at line 5 does under one key, where it writes the same
abbrev pub of_key : Key → Event
of_key key = record { owner = 0; kind = Done 5 plain_mode (Write whole fives ∷ []) (Some key) }

-- this write behind event 1, an event for each chunk
abbrev pub by_key : History
by_key = event1 ∷ of_key first_key ∷ of_key second_key ∷ []

-- the values of this write
abbrev pub all_fives : Values
all_fives dtype shape = Ok fives

-- the array's first three cells, as a view knows them once it was cut
abbrev pub three : View
three = Leaf (of_shape 3) (first_cells 2)
