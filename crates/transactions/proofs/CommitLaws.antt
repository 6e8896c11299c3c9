-- What a transaction prepared may be committed in each later turn.
use Rattle.std.proofs.Common.{◌≡◌, List, [], ◌∷◌, ◌++◌, map, Some, sym, subst}
use Rattle.std.specs.FinMap as finmap
use Rattle.std.specs.List.{AllByRecursion, IsDistinct}
use Rattle.std.specs.List.Sorted.{IsPermutation, IsSortedByKey}
use Rattle.std.specs.Cmp.Lexicographic.{slice_cmp}
use Rattle.std.specs.Ordering.{nat_cmp}
use Rattle.std.specs.Str.{bytes_eq}
use mathlib.Core.List.{IsPrefix}
use Rattle.commits.specs.PlanWrites.{IsReadyWrite}
use Rattle.commits.specs.declared.ChunkWrite.{ChunkWrite}
use Rattle.commits.specs.Answers.{IsCommitted}
use Rattle.commits.specs.Prepared.{AreWrites}
use Rattle.commits.specs.declared.prepared.Prepared.{Prepared}
use Rattle.history.specs.Arrays.{Known, known_after}
use Rattle.history.specs.History.{History}
use Rattle.history.specs.Legal.{IsLegal}
use Rattle.history.specs.declared.event.Event.{Event}
use Rattle.kv_face.specs.Store.{Contents}
use Rattle.commits.specs.Asking.{IsAsked, IsPart, part_in}
use Rattle.commits.specs.Readying.{IsWriteFor}
use Rattle.commits.specs.Sorting.{key_of_mark, key_of_write}
use Rattle.commits.specs.declared.Asked.{Asked}
use Rattle.commits.specs.declared.Part.{Part}
use Rattle.commits.proofs.Laws.{may_ready, ready_right}
use Rattle.chunk_fetches.specs.Agreement.{Opening, Agrees}
use Rattle.chunk_fetches.specs.Log.{Log}
use Rattle.chunk_fetches.specs.Outline.{outline}
use Rattle.chunk_fetches.specs.Seen.{StoreSeen}
use Rattle.chunk_fetches.specs.Staging.{StagedChunk}
use Rattle.transactions.specs.Committing.{IsPreparedOf, MayCommitLater}
use Rattle.transactions.specs.Conditions.{IsTxnIn}
use Rattle.transactions.specs.Marking.{mark_of_kept}
use Rattle.transactions.specs.Preparing.{AreWritesFor, MayWriteOf, seen_chunk, seen_part}
use Rattle.transactions.specs.Recording.{AreOfFootprint, IsRecorded}
use Rattle.chunk_fetches.specs.Turns.{HasTurned}
use Rattle.transactions.specs.Txn.{TxnSeen, transaction_of}
use Rattle.turn_book.specs.Passes.{BookView, PassView}
use Rattle.transactions.proofs.MarkLaws.{are_marks, was_read}
use Rattle.transactions.proofs.RecordLaws.{footprint_later, recorded_later}
use Rattle.transactions.proofs.TxnLaws.{txn_later}
use Rattle.transactions.proofs.WriteLaws.{are_parts, are_writes, moved_all}

-- what was prepared of a transaction, over the events behind which its chunks were asked for
pub record HasPrepared (opening : Opening) (seen : History) (t : TxnSeen) (p : Prepared) : Type 0 where
  pub asked : List Asked
  pub unsorted : List ChunkWrite
  pub line : p.line ≡ t.line
  pub mode : p.mode ≡ t.mode
  pub ops : p.ops ≡ t.ops
  pub distinct : IsDistinct bytes_eq (map (λ (c : StagedChunk). c.id) t.staged)
  pub are_asked : AllByRecursion (IsAsked opening seen) asked
  pub are_for : AreWritesFor asked unsorted
  pub parts : map seen_part (map part_in asked) ≡ map seen_chunk t.staged
  pub moves : IsPermutation unsorted p.writes.items
  pub sorted : IsSortedByKey key_of_write (slice_cmp nat_cmp) p.writes.items
  pub marks : IsPermutation (map mark_of_kept t.kept) p.footprint.now
  pub marks_sorted : IsSortedByKey key_of_mark (slice_cmp nat_cmp) p.footprint.now

module _ (opening : Opening) (seen : History) (t : TxnSeen) (p : Prepared) (txn : IsTxnIn opening seen t) (recorded : IsRecorded opening seen (transaction_of t)) (has : HasPrepared opening seen t p) where
  txn_at : (events : History) → IsPrefix seen events → IsLegal finmap.empty (outline events) → IsTxnIn opening events t
  txn_at events before legal = subst (λ h. IsTxnIn opening h t) before.1 (txn_later opening seen before.0 t (subst (λ h. IsLegal finmap.empty (outline h)) (sym before.1) legal) txn)

  writes_at : (events : History) → IsPrefix seen events → IsLegal finmap.empty (outline events) → AreWrites events t.ops p.writes.items
  writes_at events before legal =
      let now = txn_at events before legal in
      are_writes events legal t.ops t.staged now.known now.staged opening seen before.0 (sym before.1) has.asked has.unsorted p.writes.items has.distinct has.are_asked has.are_for has.parts has.moves has.sorted

  prepared_at : (events : History) → IsPrefix seen events → IsLegal finmap.empty (outline events) → IsPreparedOf events (transaction_of t) p
  prepared_at events before legal =
      let split : IsLegal finmap.empty (outline (seen ++ before.0)) = subst (λ h. IsLegal finmap.empty (outline h)) (sym before.1) legal in
      let footprint : AreOfFootprint events (transaction_of t) = subst (λ h. AreOfFootprint h (transaction_of t)) before.1 (footprint_later opening seen before.0 (transaction_of t) split txn.known recorded.footprint) in
      record {
        line = has.line;
        mode = has.mode;
        ops = has.ops;
        reads = recorded.modes;
        writes = writes_at events before legal;
        marks = are_marks opening events t p.footprint.now (txn_at events before legal) footprint has.marks has.marks_sorted;
        was_read = was_read opening events t (txn_at events before legal) footprint;
      }

  module _ (store : StoreSeen) (log : Log) (start : Contents) (before : IsPrefix seen log.events) (agrees : Agrees opening store log) (told : opening.store.contents ≡ Some start) where
    ready_from : (asked : List Asked) (ws : List ChunkWrite) → AllByRecursion (IsAsked opening seen) asked → AreWritesFor asked ws
        → AllByRecursion (λ (w : ChunkWrite). (k : Known) → known_after log.events w.array ≡ Some k → IsReadyWrite start log k w) ws
    ready_from [] [] are for = tt
    ready_from [] (w ∷ ws) are for = absurd for
    ready_from (a ∷ asked) [] are for = tt
    ready_from (a ∷ asked) (w ∷ ws) are for =
        (λ k is. ready_right opening start store log seen before.0 a agrees told (sym before.1) are.0 w for.0 k is, ready_from asked ws are.1 for.1)

    committed_at : IsCommitted start log (transaction_of t) p
    committed_at =
        let legal : IsLegal finmap.empty (outline (seen ++ before.0)) = subst (λ h. IsLegal finmap.empty (outline h)) (sym before.1) agrees.outline in
        let made = prepared_at log.events before agrees.outline in
        let later = recorded_later opening seen before.0 (transaction_of t) legal (λ s is. subst (IsLegal s) (sym before.1) (agrees.holds s is).legal) txn.known recorded in
        let record_now : IsRecorded opening log.events (transaction_of t) = subst (λ h. IsRecorded opening h (transaction_of t)) before.1 later in
        record {
          prepared = record { line = made.line; mode = made.mode; ops = made.ops; reads = made.reads; marks = made.marks };
          staged = record_now.sound;
          known = (txn_at log.events before agrees.outline).known;
          reads = record_now.reads start told;
          ready = moved_all (λ (w : ChunkWrite). (k : Known) → known_after log.events w.array ≡ Some k → IsReadyWrite start log k w) has.unsorted p.writes.items has.moves (ready_from has.asked has.unsorted has.are_asked has.are_for);
        }

  pub may_commit_later : MayCommitLater opening seen (transaction_of t) p
  may_commit_later = record { prepared = prepared_at; committed = λ store log start before agrees told. committed_at store log start before agrees told }

-- what is staged may be asked for in each later turn
pub parts_later : (opening : Opening) (seen : History) (t : TxnSeen) (parts : List Part) → IsTxnIn opening seen t → IsDistinct bytes_eq (map (λ (c : StagedChunk). c.id) t.staged) → map seen_part parts ≡ map seen_chunk t.staged
    → (events : History) → IsPrefix seen events → IsLegal finmap.empty (outline events) → AllByRecursion (IsPart events) parts
parts_later opening seen t parts txn distinct same events before legal =
    let now : IsTxnIn opening events t = subst (λ h. IsTxnIn opening h t) before.1 (txn_later opening seen before.0 t (subst (λ h. IsLegal finmap.empty (outline h)) (sym before.1) legal) txn) in
    are_parts events legal t.ops t.staged now.known now.staged parts distinct same

-- bytes may be prepared of what was asked for
pub all_ready : (opening : Opening) (events : History) (asked : List Asked) → AllByRecursion (IsAsked opening events) asked → AllByRecursion MayWriteOf asked
all_ready opening events [] are = tt
all_ready opening events (a ∷ asked) are = (may_ready opening events a are.0, all_ready opening events asked are.1)

-- what a transaction has and has recorded stays behind turns
pub txn_turned : (book : BookView Opening) (old new : PassView Event Opening) (added : List Event) (t : TxnSeen) → HasTurned book old new added → IsTxnIn book.fixed old.seen t → IsTxnIn book.fixed new.seen t
txn_turned book old new added t turned txn =
    subst (λ h. IsTxnIn book.fixed h t) turned.before.1 (txn_later book.fixed old.seen turned.before.0 t (subst (λ h. IsLegal finmap.empty (outline h)) (sym turned.before.1) turned.past.outline) txn)

pub recorded_turned : (book : BookView Opening) (old new : PassView Event Opening) (added : List Event) (t : TxnSeen) → HasTurned book old new added → IsTxnIn book.fixed old.seen t → IsRecorded book.fixed old.seen (transaction_of t) → IsRecorded book.fixed new.seen (transaction_of t)
recorded_turned book old new added t turned txn recorded =
    let more = turned.before.0 in
    subst (λ h. IsRecorded book.fixed h (transaction_of t)) turned.before.1
    (recorded_later book.fixed old.seen more (transaction_of t) (subst (λ h. IsLegal finmap.empty (outline h)) (sym turned.before.1) turned.past.outline)
    (λ start told. subst (IsLegal start) (sym turned.before.1) (turned.past.legal start told)) txn.known recorded)

-- one write more
pub writes_more : (asked : List Asked) (ws : List ChunkWrite) (a : Asked) (w : ChunkWrite) → AreWritesFor asked ws → IsWriteFor a w → AreWritesFor (asked ++ a ∷ []) (ws ++ w ∷ [])
writes_more [] [] a w for one = (one, tt)
writes_more [] (v ∷ ws) a w for one = absurd for
writes_more (b ∷ asked) [] a w for one = absurd for
writes_more (b ∷ asked) (v ∷ ws) a w for one = (for.0, writes_more asked ws a w for.1 one)
