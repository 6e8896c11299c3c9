-- What holds of a transaction beside what its pass has seen.
use Rattle.std.specs.FinMap as finmap
use Rattle.std.specs.List.{AllByRecursion}
use Rattle.history.specs.History.{History}
use Rattle.history.specs.Legal.{IsLegal, viewed}
use Rattle.history.specs.Refs.{HasKnownRefs}
use Rattle.history.specs.declared.event.Op.{Op}
use Rattle.stack_driver.specs.declared.view.View.{View}
use Rattle.chunk_fetches.specs.Agreement.{Opening}
use Rattle.chunk_fetches.specs.Outline.{outline}
use Rattle.chunk_fetches.specs.Operations.{AreStaged}
use Rattle.transactions.specs.Txn.{TxnSeen}
use Rattle.chunk_fetches.specs.Kept.{IsKeptIn}

abbrev pub IsKnownOp : History → Op → Type 0
IsKnownOp events op = HasKnownRefs events (viewed op)

-- arrays were opened as a history may, the transaction's views are of them, what is staged is staged by its operations, and each chunk
-- that it keeps is the one after its mark
pub record IsTxnIn (opening : Opening) (events : History) (t : TxnSeen) : Type 0 where
  pub outline : IsLegal finmap.empty (outline events)
  pub known : AllByRecursion (IsKnownOp events) t.ops
  pub staged : AreStaged events t.ops t.staged
  pub kept : AllByRecursion (IsKeptIn opening events) t.kept

-- so it is beside some events, in which the view's arrays are known
pub record MayUse (v : View) (t : TxnSeen) : Type 0 where
  pub opening : Opening
  pub events : History
  pub txn : IsTxnIn opening events t
  pub refs : HasKnownRefs events v
