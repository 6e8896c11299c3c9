-- A transaction's commit, in one turn.
use Rattle.std.specs.Prelude.{◌≡◌, ◌⊎◌, ℕ, Bool, true, false, List, [], ◌∷◌, ◌++◌, Option, Some, None, Result, Ok, Err, Contains}
use Rattle.std.specs.FinMap as finmap
use mathlib.Core.List.{IsPrefix}
use Rattle.commits.specs.Answers.{IsCommitRow, IsCommitted, IsTold}
use Rattle.commits.specs.Prepared.{AreMarks, AreWrites, WasReadAt}
use Rattle.commits.specs.declared.prepared.Prepared.{Prepared}
use Rattle.commits.specs.declared.refused.CommitRefused.{CommitRefused}
use Rattle.commits.specs.declared.refused.CommitRefused.TheVariants as refused
use Rattle.history.specs.Chunks.{Chunk}
use Rattle.history.specs.Commit.{Transaction, kept_ops}
use Rattle.history.specs.History.{History}
use Rattle.history.specs.Legal.{IsLegal}
use Rattle.history.specs.Reads.{footprint_of}
use Rattle.history.specs.declared.event.Event.{Event}
use Rattle.kv_face.specs.Store.{Contents}
use Rattle.chunk_fetches.specs.Agreement.{Opening, Agrees}
use Rattle.chunk_fetches.specs.Log.{Log}
use Rattle.chunk_fetches.specs.Outline.{outline}
use Rattle.chunk_fetches.specs.Seen.{StoreSeen}
use Rattle.turn_book.specs.History.{entries_of}
use Rattle.turn_book.specs.Passes.{BookView, PassView}
use Rattle.chunk_fetches.specs.Turns.{HasTurned, owner_of}
use Rattle.transactions.specs.Txn.{TxnSeen}
use Rattle.transactions.specs.declared.error.CommitError.{CommitError}

-- what was prepared is the transaction's, whatever the store tells
pub record IsPreparedOf (events : History) (t : Transaction) (p : Prepared) : Type 0 where
  pub line : p.line ≡ t.line
  pub mode : p.mode ≡ t.mode
  pub ops : p.ops ≡ t.ops
  -- Reads are among its operations under repeatable read alone
  pub reads : kept_ops t ≡ t.ops
  pub writes : AreWrites events t.ops p.writes.items
  -- there is one mark for each chunk that it read, by the generation at which it read the chunk, whose array was known then
  pub marks : AreMarks events t p.footprint.now
  pub was_read : (c : Chunk) → Contains (footprint_of events t.ops) c → WasReadAt events t c

-- in a turn behind these events a state that agreed with the opening answered a transaction's commit, and added these events of its own
pub record IsCommittedIn (opening : Opening) (owner : ℕ) (t : Transaction) (before : History) (own : List Event) (result : Result (List ℕ) CommitRefused) : Type 0 where
  pub store : StoreSeen
  pub next : StoreSeen
  pub log : Log
  pub later : Log
  pub prepared : Prepared
  pub agrees : Agrees opening store log
  pub at : log.events ≡ before
  pub added : later.events ≡ before ++ own
  pub of : IsPreparedOf before t prepared
  pub told : IsTold owner store next log later prepared result
  pub row : (start : Contents) → opening.store.contents ≡ Some start → IsCommitRow (record { start = start; prefixes = opening.store.prefixes }) owner before (before ++ own) t result

-- turns of a commit: others' events up to some moment, and behind them the pass's own, which the commit added; none where memory was wanting
-- before it was tried
pub record IsCommitTurn (book : BookView Opening) (old new : PassView Event Opening) (t : Transaction) (result : Result (List ℕ) CommitRefused) : Type 0 where
  pub before : History
  pub grown : IsPrefix old.seen before
  pub others : entries_of owner_of old.number before ≡ old.mine
  pub own : List Event
  pub seen : new.seen ≡ before ++ own
  pub turned : HasTurned book old new own
  pub committed : IsCommittedIn book.fixed old.number t before own result ⊎ ((result ≡ Err refused.Memory) × (own ≡ []))

-- memory was wanting before any turn, or these were the turns
abbrev pub HasCommitted : BookView Opening → PassView Event Opening → PassView Event Opening → Transaction → Result (List ℕ) CommitRefused → Type 0
HasCommitted book old new t result = ((new ≡ old) × (result ≡ Err refused.Memory)) ⊎ IsCommitTurn book old new t result

-- the answer of a commit, as that of the state's call
abbrev pub answer_of : Result (List ℕ) CommitError → Result (List ℕ) CommitRefused
answer_of (Ok numbers) = Ok numbers
answer_of (Err e) = Err e.why

-- the transaction stands on where a chunk was damaged, and where the store failed before any of its events was done
abbrev pub left_after : TxnSeen → CommitRefused → Option TxnSeen
left_after t (refused.Conflict key read now) = None
left_after t (refused.Shrunk key now) = None
left_after t (refused.NotAtomic keys) = None
left_after t (refused.Damaged key cause) = Some t
left_after t (refused.StoreFailed event []) = Some t
left_after t (refused.StoreFailed event (number ∷ done)) = None
left_after t refused.Memory = None

-- whether it stands on
abbrev pub stands_after : CommitRefused → Bool
stands_after (refused.Conflict key read now) = false
stands_after (refused.Shrunk key now) = false
stands_after (refused.NotAtomic keys) = false
stands_after (refused.Damaged key cause) = true
stands_after (refused.StoreFailed event []) = true
stands_after (refused.StoreFailed event (number ∷ done)) = false
stands_after refused.Memory = false

-- what was prepared is the transaction's over each longer history; where the store told its contents at the start, it may be committed by
-- each state that agrees with the opening
pub record MayCommitLater (opening : Opening) (seen : History) (t : Transaction) (p : Prepared) : Type 0 where
  pub prepared : (events : History) → IsPrefix seen events → IsLegal finmap.empty (outline events) → IsPreparedOf events t p
  pub committed : (store : StoreSeen) (log : Log) (start : Contents) → IsPrefix seen log.events → Agrees opening store log → opening.store.contents ≡ Some start → IsCommitted start log t p
