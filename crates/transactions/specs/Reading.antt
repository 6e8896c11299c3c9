-- What a read gives, and what it leaves.
use Rattle.std.specs.Prelude.{◌≡◌, ◌++◌, ◌+◌, ℕ, List, [], ◌∷◌, length, map, false, Option, Some, Ok}
use Rattle.std.specs.List.{AllByRecursion}
use Rattle.cells.specs.Numbers.{IsWord}
use Rattle.history.specs.Arrays.{Known, known_after, is_local}
use Rattle.history.specs.Refs.{HasKnownRefs}
use Rattle.stack_driver.specs.Conditions.{IsView}
use Rattle.chunk_fetches.specs.Operations.{HasSites}
use Rattle.chunk_fetches.specs.Pieces.{AreCells}
use Rattle.chunk_fetches.specs.Sites.{sites_of}
use Rattle.chunk_fetches.specs.declared.ViewCells.{ViewCells}
use Rattle.transactions.specs.Conditions.{IsTxnIn}
use Rattle.chunk_fetches.specs.Fetched.{AreFetched}
use Rattle.transactions.specs.Had.{had_from}
use Rattle.chunk_fetches.specs.Sources.{new_pieces, sources_of}
use Rattle.transactions.specs.Strays.{HasLastNumber, HasLeastKey, strays_of}
use Rattle.chunk_fetches.specs.declared.kept.Kept.{Kept}
use Rattle.transactions.specs.declared.stray.Stray.{Stray}
use Rattle.history.specs.Commit.{Fixed}
use Rattle.history.specs.History.{History}
use Rattle.history.specs.ReadRows.{IsFetched, IsShrunkBy}
use Rattle.history.specs.Reads.{Marks, mark_of, visible_values}
use Rattle.history.specs.Refusals.{IsDamagedRead, cells_outside}
use Rattle.history.specs.Shown.{AreMarked, after_read}
use Rattle.history.specs.Own.{fault}
use Rattle.history.specs.Staged.{IsFound, IsStaged}
use Rattle.history.specs.declared.event.Event.{Event}
use Rattle.history.specs.declared.event.Op.TheVariants.{Read}
use Rattle.index_transform.specs.Cells.{count_answer}
use Rattle.kv_face.specs.Store.{Contents}
use Rattle.stack_driver.specs.Views.{look_of, targets_of}
use Rattle.stack_driver.specs.declared.view.View.{View}
use Rattle.chunk_fetches.specs.Agreement.{Opening}
use Rattle.turn_book.specs.Passes.{BookView, PassView}
use Rattle.transactions.specs.Faults.{IsFaultOf}
use Rattle.chunk_fetches.specs.Turns.{HasPassed, HasTurned}
use Rattle.transactions.specs.Txn.{TxnSeen, transaction_of}
use Rattle.chunk_fetches.specs.declared.error.ReadError.{ReadError}
use Rattle.transactions.specs.declared.error.WriteError.{WriteError}
use Rattle.transactions.specs.declared.error.WriteError.TheVariants as write
use Rattle.chunk_fetches.specs.declared.error.ReadError.TheVariants as read

-- words of a read, by marks that it may have, by which no cell was outside that the transaction hadn't written: one for each cell of the view,
-- of its dtype, and where the store told its contents at the start what the transaction sees by the marks. Under repeatable read the read and
-- the marks are kept
pub record HasRead (opening : Opening) (seen : ℕ) (events : History) (old new : TxnSeen) (v : View) (words : List ℕ) : Type 0 where
  pub marks : Marks
  pub marked : AreMarked events seen (transaction_of old) v marks
  pub inside : cells_outside events marks (transaction_of old) v ≡ []
  pub shown : (start : Contents) → opening.store.contents ≡ Some start → map Some words ≡ visible_values start events (mark_of marks) old.ops v
  pub count : count_answer (look_of v).dims ≡ Ok (length words)
  pub sound : IsStaged (Read v words)
  pub typed : AllByRecursion (IsWord (look_of v).dtype) words
  pub after : transaction_of new ≡ after_read (transaction_of old) v words marks

-- a store call failed for a chunk that the read fetches, which the last event says; before it, others' events may have come
pub record HasFailedRead (book : BookView Opening) (old new : PassView Event Opening) (t : TxnSeen) (v : View) (event : ℕ) : Type 0 where
  pub before : History
  pub mount : List ℕ
  pub fetched : IsFetched before (transaction_of t) v mount
  pub added : new.seen ≡ before ++ fault old.number mount ∷ []
  pub number : event ≡ length before + 1
  pub turned : HasTurned book old new (fault old.number mount ∷ [])

-- the same fault, of a read
abbrev pub as_read_fault : WriteError → ReadError
as_read_fault (write.View fault) = read.View fault
as_read_fault write.Memory = read.Memory

-- why a view was not read: what is wrong with it, before any turn; a failed store; where the store told its contents at the start a damaged
-- chunk that the read needs; cells that were outside their arrays' shapes when their chunks were read; or want of memory
abbrev pub IsReadError : BookView Opening → PassView Event Opening → PassView Event Opening → TxnSeen → View → ReadError → Type 0
IsReadError book old new t v (read.View fault) = IsFaultOf v fault × (new ≡ old)
IsReadError book old new t v (read.StoreFailed event) = HasFailedRead book old new t v event
IsReadError book old new t v (read.Damaged key cause) =
    HasTurned book old new [] × ((fixed : Fixed) → book.fixed.store.contents ≡ Some fixed.start → IsDamagedRead fixed new.seen (transaction_of t) v key cause)
IsReadError book old new t v (read.Shrunk key now) = HasTurned book old new [] × IsShrunkBy new.seen (length old.seen) (transaction_of t) v key now
IsReadError book old new t v read.Memory = HasPassed book old new []

-- each cell of the view has a target, but where the view was refused for what is wrong with it, or memory was wanting
abbrev pub IsFoundUnless : View → ReadError → Type 0
IsFoundUnless v (read.View fault) = Unit {0}
IsFoundUnless v (read.StoreFailed event) = AllByRecursion IsFound (targets_of v)
IsFoundUnless v (read.Damaged key cause) = AllByRecursion IsFound (targets_of v)
IsFoundUnless v (read.Shrunk key now) = AllByRecursion IsFound (targets_of v)
IsFoundUnless v read.Memory = Unit {0}

-- a view that a transaction reads beside these events, and its cells
pub record IsReadOf (opening : Opening) (events : History) (t : TxnSeen) (v : View) (cells : ViewCells) : Type 0 where
  pub view : IsView v
  pub txn : IsTxnIn opening events t
  pub refs : HasKnownRefs events v
  pub sites : HasSites v
  pub located : AreCells (sites_of v) cells
  pub count : count_answer (look_of v).dims ≡ Ok (length cells.leaves)

-- with the chunks that were fetched for it, at a number of events no less than this one
pub record IsReadBy (opening : Opening) (seen : ℕ) (events : History) (t : TxnSeen) (v : View) (cells : ViewCells) (fetched : List Kept) : Type 0 where
  pub of_view : IsReadOf opening events t v cells
  pub was_fetched : AreFetched opening seen events (new_pieces (sources_of t.staged t.kept cells.pieces) cells.pieces) fetched

-- the chunks that it has of the view's pieces
abbrev pub had_by : TxnSeen → ViewCells → List Kept → List (Option Kept)
had_by t cells fetched = had_from (sources_of t.staged t.kept cells.pieces) t.kept fetched 0

-- what it needs of them outside the bounds then
abbrev pub strays_by : TxnSeen → ViewCells → List Kept → List Stray
strays_by t cells fetched = strays_of t.staged cells.pieces (had_by t cells fetched)

-- the array lies in a store
abbrev pub IsStoredIn : History → Stray → Type 0
IsStoredIn events s = (k : Known) × (known_after events s.array ≡ Some k) × (is_local k.info.home ≡ false)

-- cells were outside: the least key and the last number of these, as they are told in a turn; or want of memory
abbrev pub IsStrayRefusal : BookView Opening → PassView Event Opening → PassView Event Opening → List Stray → ReadError → Type 0
IsStrayRefusal book old new strays (read.View fault) = ⊥
IsStrayRefusal book old new strays (read.StoreFailed event) = ⊥
IsStrayRefusal book old new strays (read.Damaged key cause) = ⊥
IsStrayRefusal book old new strays (read.Shrunk key now) = HasTurned book old new [] × ((array : ℕ) × HasLeastKey new.seen strays array key × HasLastNumber strays array now)
IsStrayRefusal book old new strays read.Memory = HasPassed book old new []
