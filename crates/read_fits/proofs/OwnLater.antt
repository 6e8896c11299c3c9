-- What a transaction has by its operations, at a later number of events.
use Rattle.std.proofs.Common.{◌∙◌, ◌≤◌, ℕ, List, take, take-take, ap}
use Rattle.std.specs.FinMap as finmap
use Rattle.history.specs.declared.event.Op.{Op}
use Rattle.history.specs.Arrays.{known_after}
use Rattle.history.specs.History.{History}
use Rattle.history.specs.Legal.{IsLegal}
use Rattle.history.proofs.Laws.{known_still, legal_take}
use Rattle.transaction_cells.specs.Operations.{KeepsArrays}
use Rattle.transaction_cells.specs.Staging.{StagedChunk}
use Rattle.transaction_cells.proofs.Laws.{staged_later}
use Rattle.read_fits.specs.Owned.{AreOwn, Id}

module _ (h : History) (legal : IsLegal finmap.empty h) (n m : ℕ) (order : n ≤ m) where
  -- arrays that are there after so many events are there after more of them
  keeps : KeepsArrays (take n h) (take m h)
  keeps a k is = known_still finmap.empty (take m h) a n k (legal_take finmap.empty h m legal) (ap (λ g. known_after g a) (take-take n m h order) ∙ is)

  pub own_later : (ops : List Op) (staged : List StagedChunk) (ids : List Id) → AreOwn h n ops staged ids → AreOwn h m ops staged ids
  own_later ops staged ids own = record { writes = staged_later (take n h) (take m h) keeps ops staged own.writes; reads = own.reads }
