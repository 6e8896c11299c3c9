-- Reads, from what was fetched to what is given and kept.
use Rattle.std.proofs.Common.{◌≡◌, ◌≢◌, ◌∙◌, ◌⊎◌, inl, inr, ℕ, zero, suc, ◌+◌, ◌<◌, ◌≤◌, not, Bool, true, false, cond, List, [], ◌∷◌, ◌++◌, length, map, take, drop, Option, Some, None, Result, Ok, Err, refl, sym, ap, subst, arith, append_assoc, append-nil, length-append}
use Rattle.std.specs.Prelude.{Contains, IfOk, IfErr, OnErr, IsTrue}
use Rattle.std.specs.FinMap as finmap
use Rattle.std.specs.List.{AllByRecursion, IsDistinct, flat_map, fold, list_all, list_any}
use Rattle.std.specs.Str.{bytes_eq}
use Rattle.std.proofs.Math.Seq.{take-append_seam, take-length}
use Rattle.std.proofs.lemmas.List.{length-map, map-append, take-append-le}
use Rattle.std.proofs.lemmas.Slice.Eq.{bytes_eq-Decides}
use mathlib.Core.List.{IsPrefix}
use Rattle.cells.specs.Numbers.{IsWord}
use Rattle.cells.specs.Shapes.{is_inside}
use Rattle.history.specs.Arrays.{known_after}
use Rattle.history.specs.Chunks.{chunk_of, is_chunk, key_of}
use Rattle.history.specs.Commit.{Fixed}
use Rattle.history.specs.History.{History}
use Rattle.history.specs.Legal.{IsLegal}
use Rattle.history.specs.Own.{fault}
use Rattle.history.specs.ReadRows.{IsFetched, IsOnMount, IsShrunkBy}
use Rattle.history.specs.Reads.{Marks, has_mark, mark_of, marked_world, unwritten, visible_values}
use Rattle.history.specs.Refs.{HasKnownRefs}
use Rattle.history.specs.Refusals.{IsDamagedRead, IsNeeded, cells_outside}
use Rattle.history.specs.Shown.{AreMarked, after_read}
use Rattle.history.specs.Staged.{IsFound, IsStaged}
use Rattle.history.specs.Writes.{put, puts_of, puts_of_op}
use Rattle.history.specs.declared.event.Event.{Event}
use Rattle.history.specs.declared.event.Op.{Op}
use Rattle.history.specs.declared.event.Op.TheVariants.{Read}
use Rattle.history.proofs.Laws.{IsLegal-front, LiesOf, WasInside, targets_lie, view_later}
use Rattle.index_transform.specs.Cells.{count_answer, is_finite}
use Rattle.kv_face.specs.Store.{Contents}
use Rattle.stack_driver.specs.Conditions.{IsView}
use Rattle.stack_driver.specs.Targets.{Cell, Target}
use Rattle.stack_driver.specs.Views.{look_of, targets_of}
use Rattle.stack_driver.specs.declared.error.TargetError.{TargetError}
use Rattle.stack_driver.specs.declared.view.View.{View}
use Rattle.stack_targets.specs.Landings.{leaves_of}
use Rattle.chunk_fetches.specs.Agreement.{Opening}
use Rattle.chunk_fetches.specs.Outline.{outline, outlined_event}
use Rattle.chunk_fetches.specs.Gathered.{AreChunksOf, AreTypedChunks, IsTold}
use Rattle.chunk_fetches.specs.Operations.{AreStaged, HasSites, IsInArray, IsLeafIn, no_content}
use Rattle.chunk_fetches.specs.Pieces.{AreCells, IsPiece, ids_of}
use Rattle.chunk_fetches.specs.Sites.{Site, id_of, sites_of}
use Rattle.chunk_fetches.specs.Staging.{CanStage, StagedChunk}
use Rattle.chunk_fetches.specs.declared.Piece.{Piece}
use Rattle.chunk_fetches.specs.declared.ViewCells.{ViewCells}
use Rattle.chunk_fetches.proofs.Laws.{can_stage, count_of, known_sites}
use Rattle.chunk_fetches.specs.Kept.{IsChunkThen, IsKeptIn, chunk_at, place_from}
use Rattle.transactions.specs.Conditions.{IsKnownOp, IsTxnIn}
use Rattle.chunk_fetches.specs.Decoding.{HasDamagedAmong}
use Rattle.chunk_fetches.specs.Fetching.{IsFetchError}
use Rattle.chunk_fetches.specs.Fetched.{AreFetched, AreFetchedAt, IsFetchedFor}
use Rattle.transactions.specs.Had.{AreHad, IsDenseOrNone, snapshots_of}
use Rattle.transactions.specs.Keeping.{AreNewTo, IsUnkept, with_read}
use Rattle.chunk_fetches.specs.Looking.{AreChunks, HasFailedAmong, HasFailedAt}
use Rattle.transactions.specs.Reading.{as_read_fault, HasFailedRead, HasRead, IsReadBy, IsReadError, IsReadOf, IsStoredIn, IsStrayRefusal, had_by, strays_by}
use Rattle.chunk_fetches.specs.Sources.{new_pieces, sources_of}
use Rattle.transactions.specs.Strays.{AreFitting}
use Rattle.chunk_fetches.specs.Turns.{HasFailedTurn, HasPassed, HasTurned}
use Rattle.transactions.specs.Txn.{TxnSeen, marks_of, transaction_of}
use Rattle.chunk_fetches.specs.declared.error.ReadError.{ReadError}
use Rattle.chunk_fetches.specs.declared.error.ReadError.TheVariants as read
use Rattle.transactions.specs.declared.error.WriteError.{WriteError}
use Rattle.transactions.specs.declared.error.WriteError.TheVariants as write
use Rattle.transactions.specs.Faults.{IsLocateFault}
use Rattle.chunk_fetches.specs.declared.kept.Kept.{Kept}
use Rattle.chunk_fetches.specs.declared.source.Source.{Source}
use Rattle.transactions.specs.declared.stray.Stray.{Stray}
use Rattle.chunk_fetches.proofs.Laws.{passed_turned, passed_twice, prefix_on, IsNamed, failed_adds}
use Rattle.transactions.proofs.HadLaws.{at_one, had_all}
use Rattle.transactions.proofs.KeepLaws.{flip, place_behind}
use Rattle.transactions.proofs.PieceLaws.{known_pieces, new_chunks}
use Rattle.transactions.proofs.ReadMarks.{IsNewTo, all_apart, are_marked, chunk_needed, each_needed, each_unmarked, news_are, of_news, sorted_apart}
use Rattle.transactions.proofs.StrayLaws.{IsStrayIn, found_of, outside_stray, shrunk_read, stray_or_inside, strays_are}
use Rattle.transactions.proofs.TellingLaws.{IsPieceOf, all_fit, all_sized, all_typed, pieces_are, told_at}
use Rattle.transactions.proofs.TxnLaws.{all_with, txn_later}
use Rattle.transactions.proofs.ViewCellLaws.{IsCellOf, cells_of_view, each_of, one_of}
use Rattle.transactions.proofs.ViewLaws.{counted_view, leaves_of_known}
use Rattle.turn_book.specs.Passes.{BookView, PassView}

-- the cells at sites once were inside
sites_lie : (events : History) (sites : List Site) (ts : List (Result Target TargetError)) → ts ≡ map (λ (s : Site). Ok s.target) sites → AllByRecursion (LiesOf events) ts → AllByRecursion (λ (s : Site). WasInside events s.target.cell) sites
sites_lie events sites ts same lie = by sites (subst (AllByRecursion (LiesOf events)) same lie)
  where
    by : (ss : List Site) → AllByRecursion (LiesOf events) (map (λ (s : Site). Ok s.target) ss) → AllByRecursion (λ (s : Site). WasInside events s.target.cell) ss
    by [] lies = tt
    by (s ∷ ss) lies = (lies.0, by ss lies.1)

names_of : (events : History) (pieces : List Piece) → AllByRecursion (IsPieceOf events) pieces → AllByRecursion (λ (p : Piece). IsNamed p.id) pieces
names_of events [] is = tt
names_of events (p ∷ pieces) is = (is.0.named, names_of events pieces is.1)

-- references of a view stay known
refs_later : (early more : History) (v : View) → HasKnownRefs early v → HasKnownRefs (early ++ more) v
refs_later early more v refs =
    let sum = length-append early more in
    subst (λ h. HasKnownRefs h v) (take-length (early ++ more))
    (view_later (early ++ more) (length early) (length (early ++ more)) (omega (arith, sum)) v (subst (λ h. HasKnownRefs h v) (sym (take-append_seam early more)) refs))

-- a transaction stands behind a turn
turned_txn : (book : BookView Opening) (old new : PassView Event Opening) (t : TxnSeen) (added : List Event) → IsTxnIn book.fixed old.seen t → HasTurned book old new added → IsTxnIn book.fixed new.seen t
turned_txn book old new t added txn turned =
    subst (λ h. IsTxnIn book.fixed h t) turned.before.1 (txn_later book.fixed old.seen turned.before.0 t (subst (λ h. IsLegal finmap.empty (outline h)) (sym turned.before.1) turned.past.outline) txn)

pub passed_txn : (book : BookView Opening) (old new : PassView Event Opening) (t : TxnSeen) → IsTxnIn book.fixed old.seen t → HasPassed book old new [] → IsTxnIn book.fixed new.seen t
passed_txn book old new t txn (inl same) = subst (λ (p : PassView Event Opening). IsTxnIn book.fixed p.seen t) (sym same) txn
passed_txn book old new t txn (inr turned) = turned_txn book old new t [] txn turned

-- a view that is read, beside its events
module _ (opening : Opening) (events : History) (t : TxnSeen) (v : View) (cells : ViewCells) (r : IsReadOf opening events t v cells) where
  pub leaves_are : AllByRecursion (IsLeafIn events) (leaves_of v)
  leaves_are = leaves_of_known events v r.txn.outline r.refs

  pub may_stage : CanStage t.staged cells (length cells.leaves)
  may_stage = subst (CanStage t.staged cells) (count_of (sites_of v) cells.lanes cells.leaves r.located.casts) (can_stage events v t.ops t.staged cells leaves_are r.sites r.located r.txn.staged)

  pub pieces_in : AllByRecursion (IsPieceOf events) cells.pieces
  pieces_in = pieces_are events r.txn.outline (sites_of v) cells.pieces (known_sites events v leaves_are r.sites.grids) (sites_lie events (sites_of v) (targets_of v) r.sites.targets (targets_lie events v r.refs)) r.located.pieces.each

  pub names_in : AllByRecursion (λ (p : Piece). IsNamed p.id) cells.pieces
  names_in = names_of events cells.pieces pieces_in

  pub new_names : AllByRecursion (λ (p : Piece). IsNamed p.id) (new_pieces (sources_of t.staged t.kept cells.pieces) cells.pieces)
  new_names = of_news (λ (p : Piece). IsNamed p.id) (sources_of t.staged t.kept cells.pieces) cells.pieces names_in

  pub needed_cells : AllByRecursion (IsCellOf events cells.pieces) (unwritten t.ops v)
  needed_cells = cells_of_view events v t.ops cells r.txn.outline r.refs r.sites r.located

  -- it is so as events follow
  pub read_later : (later : History) → IsPrefix events later → IsLegal finmap.empty (outline later) → IsReadOf opening later t v cells
  read_later later on legal = record {
    view = r.view;
    txn = subst (λ h. IsTxnIn opening h t) on.1 (txn_later opening events on.0 t (subst (λ h. IsLegal finmap.empty (outline h)) (sym on.1) legal) r.txn);
    refs = subst (λ h. HasKnownRefs h v) on.1 (refs_later events on.0 v r.refs);
    sites = r.sites;
    located = r.located;
    count = r.count;
  }

  pub chunks_later : (later : History) → IsPrefix events later → IsLegal finmap.empty (outline later) → AreChunks later (new_pieces (sources_of t.staged t.kept cells.pieces) cells.pieces)
  chunks_later later on legal =
      let s = read_later later on legal in
      new_chunks later (sources_of t.staged t.kept cells.pieces) cells.pieces (known_pieces later v cells legal s.refs r.sites r.located)

-- chunks that were fetched stay so as events follow
module _ (opening : Opening) (early more : History) (mark : ℕ) where
  kept_on : (k : Kept) → IsKeptIn opening early k → IsKeptIn opening (early ++ more) k
  kept_on k kept =
      let sum = length-append early more in
      let within = kept.within in
      let front = sym (take-append-le k.mark early more within) in
      record {
        within = omega (arith, sum, within);
        named = kept.named;
        key = subst (λ h. key_of h (chunk_at k.id) ≡ Some k.key) front kept.key;
        chunk = subst (λ h. IsChunkThen opening h (chunk_at k.id) k.snapshot k.bounds) front kept.chunk;
      }

  fetched_on : (pieces : List Piece) (fetched : List Kept) → AreFetchedAt opening early mark pieces fetched → AreFetchedAt opening (early ++ more) mark pieces fetched
  fetched_on [] [] are = tt
  fetched_on [] (k ∷ fetched) are = absurd are
  fetched_on (p ∷ pieces) [] are = absurd are
  fetched_on (p ∷ pieces) (k ∷ fetched) are = (record { same = are.0.same; at_mark = are.0.at_mark; kept = kept_on k are.0.kept }, fetched_on pieces fetched are.1)

-- chunks that were fetched are none of those that are kept, and none is twice there
new_to : (opening : Opening) (events : History) (mark : ℕ) (kept : List Kept) (pieces : List Piece) (fetched : List Kept) → AreFetchedAt opening events mark pieces fetched → AllByRecursion (λ (p : Piece). place_from 0 kept p.id ≡ None) pieces
    → IsDistinct bytes_eq (ids_of pieces) → AreNewTo kept fetched
unfolding IsDistinct
new_to opening events mark kept [] [] are unkept apart = tt
new_to opening events mark kept [] (k ∷ fetched) are unkept apart = absurd are
new_to opening events mark kept (p ∷ pieces) [] are unkept apart = absurd are
new_to opening events mark kept (p ∷ pieces) (k ∷ fetched) are unkept apart = (
  subst (λ id. place_from 0 kept id ≡ None) (sym are.0.same) unkept.0,
  new_to opening events mark (kept ++ k ∷ []) pieces fetched are.1 (behind pieces unkept.1 apart.0) apart.1,
)
  where
    behind : (qs : List Piece) → AllByRecursion (λ (q : Piece). place_from 0 kept q.id ≡ None) qs → AllByRecursion (λ y. bytes_eq p.id y ≡ false) (ids_of qs) → AllByRecursion (λ (q : Piece). place_from 0 (kept ++ k ∷ []) q.id ≡ None) qs
    behind [] none other = tt
    behind (q ∷ qs) none other = (
      place_behind 0 kept (k ∷ []) q.id none.0
          ∙ ap (λ b. cond b (Some (0 + length kept)) None) (ap (bytes_eq q.id) are.0.same ∙ flip q.id p.id ∙ other.0),
      behind qs none.1 other.1,
    )

unkept_of : (staged : List StagedChunk) (kept : List Kept) (pieces : List Piece) → AllByRecursion (IsNewTo staged kept) pieces → AllByRecursion (λ (p : Piece). place_from 0 kept p.id ≡ None) pieces
unkept_of staged kept [] new = tt
unkept_of staged kept (p ∷ pieces) new = (new.0.unkept, unkept_of staged kept pieces new.1)

kept_of : (opening : Opening) (events : History) (mark : ℕ) (pieces : List Piece) (fetched : List Kept) → AreFetchedAt opening events mark pieces fetched → AllByRecursion (IsKeptIn opening events) fetched
kept_of opening events mark [] [] are = tt
kept_of opening events mark [] (k ∷ fetched) are = absurd are
kept_of opening events mark (p ∷ pieces) [] are = absurd are
kept_of opening events mark (p ∷ pieces) (k ∷ fetched) are = (are.0.kept, kept_of opening events mark pieces fetched are.1)

-- a read puts nothing
puts_more : (ops : List Op) (v : View) (words : List ℕ) → puts_of (ops ++ Read v words ∷ []) ≡ puts_of ops
puts_more [] v words = refl
puts_more (op ∷ ops) v words = ap (λ ps. puts_of_op op ++ ps) (puts_more ops v words)

-- so what is staged is staged by the operations with it
staged_read : (events : History) (ops : List Op) (v : View) (words : List ℕ) (staged : List StagedChunk) → AreStaged events ops staged → AreStaged events (ops ++ Read v words ∷ []) staged
staged_read events ops v words staged h =
    let same = sym (puts_more ops v words) in
    record {
      words = λ x k known rank. h.words x k known rank ∙ ap (λ ps. fold put no_content ps x) same;
      there = λ id. h.there id ∙ ap (list_any (λ p. bytes_eq (id_of (chunk_of events p.0)) id)) same;
      sizes = h.sizes;
      typed = h.typed;
      known = subst (AllByRecursion (IsInArray events)) same h.known;
    }

-- a view that is read with the chunks that were fetched for it
module _ (opening : Opening) (seen : ℕ) (events : History) (t : TxnSeen) (v : View) (cells : ViewCells) (fetched : List Kept) (r : IsReadBy opening seen events t v cells fetched) where
  abbrev srcs : List Source
  srcs = sources_of t.staged t.kept cells.pieces

  abbrev pub read_marks : Marks
  read_marks = marks_of t.kept ++ marks_of fetched

  pub have : AreHad opening events t.staged read_marks cells.pieces (had_by t cells fetched)
  have = had_all opening events t.staged t.kept fetched r.was_fetched.mark r.of_view.txn.kept (at_one opening events r.was_fetched.mark (new_pieces srcs cells.pieces) fetched r.was_fetched.each) cells.pieces (names_in opening events t v cells r.of_view) r.was_fetched.each

  pub read_by_later : (later : History) → IsPrefix events later → IsLegal finmap.empty (outline later) → IsReadBy opening seen later t v cells fetched
  read_by_later later on legal = record {
    of_view = read_later opening events t v cells r.of_view later on legal;
    was_fetched = record {
      mark = r.was_fetched.mark;
      since = r.was_fetched.since;
      each = subst (λ h. AreFetchedAt opening h r.was_fetched.mark (new_pieces srcs cells.pieces) fetched) on.1 (fetched_on opening events on.0 r.was_fetched.mark (new_pieces srcs cells.pieces) fetched r.was_fetched.each);
    };
  }

  pub marked : AreMarked events seen (transaction_of t) v read_marks
  marked =
      are_marked opening events v t (leaves_are opening events t v cells r.of_view) r.of_view.sites r.of_view.txn.staged seen r.was_fetched.mark cells.pieces fetched (had_by t cells fetched) r.was_fetched.since r.of_view.txn.kept r.of_view.located.pieces.each
      (names_in opening events t v cells r.of_view) r.of_view.located.pieces.sorted (needed_cells opening events t v cells r.of_view) r.was_fetched.each have

  pub fit : AreFitting cells.pieces (had_by t cells fetched)
  fit = all_fit events r.of_view.txn.outline opening t.staged read_marks cells.pieces (had_by t cells fetched) (pieces_in opening events t v cells r.of_view) have

  pub sized : AllByRecursion IsDenseOrNone (snapshots_of (had_by t cells fetched)) → AreChunksOf cells.pieces (snapshots_of (had_by t cells fetched))
  sized full = all_sized events r.of_view.txn.outline opening t.staged read_marks cells.pieces (had_by t cells fetched) (pieces_in opening events t v cells r.of_view) have full

  pub new_are : AreNewTo t.kept fetched
  new_are =
      new_to opening events r.was_fetched.mark t.kept (new_pieces srcs cells.pieces) fetched r.was_fetched.each (unkept_of t.staged t.kept (new_pieces srcs cells.pieces) (news_are t.staged t.kept cells.pieces))
      (all_apart srcs cells.pieces (sorted_apart cells.pieces r.of_view.located.pieces.sorted))

  pub typed : AllByRecursion IsDenseOrNone (snapshots_of (had_by t cells fetched)) → AreTypedChunks events cells.pieces (snapshots_of (had_by t cells fetched))
  typed dense = all_typed events r.of_view.txn.outline opening t.staged read_marks cells.pieces (had_by t cells fetched) (pieces_in opening events t v cells r.of_view) have dense

  strays_in : AllByRecursion (IsStrayIn events read_marks (transaction_of t) v) (strays_by t cells fetched)
  strays_in =
      strays_are opening events v t read_marks r.of_view.txn.outline (leaves_are opening events t v cells r.of_view) r.of_view.sites r.of_view.txn.staged cells.pieces (needed_cells opening events t v cells r.of_view) cells.pieces (had_by t cells fetched)
      (pieces_in opening events t v cells r.of_view) r.of_view.located.pieces.each have

  pub stored_in : AllByRecursion (IsStoredIn events) (strays_by t cells fetched)
  stored_in = all (strays_by t cells fetched) strays_in
    where
      all : (ss : List Stray) → AllByRecursion (IsStrayIn events read_marks (transaction_of t) v) ss → AllByRecursion (IsStoredIn events) ss
      all [] is = tt
      all (s ∷ ss) is = ((is.0.array, is.0.known, is.0.stored), all ss is.1)

  -- where nothing lay outside, the chunks tell the cells
  pub all_told : (start : Contents) → opening.store.contents ≡ Some start → strays_by t cells fetched ≡ [] → AllByRecursion (IsTold events (marked_world start events (mark_of read_marks)) cells.pieces (snapshots_of (had_by t cells fetched))) (unwritten t.ops v)
  all_told start told none =
      each_of (IsTold events (marked_world start events (mark_of read_marks)) cells.pieces (snapshots_of (had_by t cells fetched))) (unwritten t.ops v) (λ x there.
      let leaves = leaves_are opening events t v cells r.of_view in
      let needed = needed_cells opening events t v cells r.of_view in
      let f = found_of opening events v t read_marks r.of_view.txn.outline leaves r.of_view.sites r.of_view.txn.staged cells.pieces (had_by t cells fetched) needed r.of_view.located.pieces.each have x there in
      elim (stray_or_inside opening events v t read_marks r.of_view.txn.outline leaves r.of_view.sites r.of_view.txn.staged cells.pieces (had_by t cells fetched) needed (pieces_in opening events t v cells r.of_view) r.of_view.located.pieces.each have x there f) [
        | inl inside ↦ told_at events r.of_view.txn.outline opening t.staged read_marks cells.pieces (had_by t cells fetched) start x told (one_of (IsCellOf events cells.pieces) (unwritten t.ops v) x needed there) f inside.0
        | inr stray ↦ let no : Contains [] stray.0 = subst (λ ss. Contains ss stray.0) none stray.1 in let lt = no.1 in absurd (omega (arith, lt))
      ])

  -- so by the marks no cell that it reads did
  pub none_outside : strays_by t cells fetched ≡ [] → cells_outside events read_marks (transaction_of t) v ≡ []
  none_outside none =
      empty_if (cells_outside events read_marks (transaction_of t) v) (λ x there.
      let stray = outside_stray opening events v t read_marks r.of_view.txn.outline (leaves_are opening events t v cells r.of_view) r.of_view.sites r.of_view.txn.staged cells.pieces (had_by t cells fetched)
      (needed_cells opening events t v cells r.of_view) (pieces_in opening events t v cells r.of_view) r.of_view.located.pieces.each have x there in
      let no : Contains [] stray.0 = subst (λ ss. Contains ss stray.0) none stray.1 in let lt = no.1 in omega (arith, lt))
    where
      empty_if : (xs : List Cell) → ((x : Cell) → Contains xs x → ⊥) → xs ≡ []
      empty_if [] never = refl
      empty_if (x ∷ xs) never = absurd (never x (0, omega arith, refl))

  -- what is kept of it
  pub txn_read : (words : List ℕ) → IsTxnIn opening events (with_read t v words fetched)
  txn_read words = by t.mode.repeatable_read
    where
      by : (b : Bool) → IsTxnIn opening events (cond b (record t { ops = t.ops ++ Read v words ∷ []; kept = t.kept ++ fetched }) t)
      by false = r.of_view.txn
      by true = record {
        outline = r.of_view.txn.outline;
        known = all_with (IsKnownOp events) t.ops (Read v words ∷ []) r.of_view.txn.known (r.of_view.refs, tt);
        staged = staged_read events t.ops v words t.staged r.of_view.txn.staged;
        kept = all_with (IsKeptIn opening events) t.kept fetched r.of_view.txn.kept (kept_of opening events r.was_fetched.mark (new_pieces srcs cells.pieces) fetched r.was_fetched.each);
      }

  pub after_is : (words : List ℕ) → transaction_of (with_read t v words fetched) ≡ after_read (transaction_of t) v words read_marks
  after_is words = by t.mode.repeatable_read
    where
      by : (b : Bool) → transaction_of (cond b (record t { ops = t.ops ++ Read v words ∷ []; kept = t.kept ++ fetched }) t)
          ≡ cond b (record (transaction_of t) { ops = t.ops ++ Read v words ∷ []; marks = read_marks }) (transaction_of t)
      by false = refl
      by true = λ i. record { line = t.line; mode = t.mode; ops = t.ops ++ Read v words ∷ []; marks = map-append (λ (k : Kept). (chunk_at k.id, k.mark)) t.kept fetched i }

  -- the read that it was
  pub has_read : (new : TxnSeen) (words : List ℕ) → new ≡ with_read t v words fetched → length words ≡ length cells.leaves → AllByRecursion (IsWord (look_of v).dtype) words → strays_by t cells fetched ≡ []
      → ((start : Contents) → opening.store.contents ≡ Some start → map Some words ≡ visible_values start events (mark_of read_marks) t.ops v) → HasRead opening seen events t new v words
  has_read new words is count words_typed none shown = record {
    marks = read_marks;
    marked = marked;
    inside = none_outside none;
    shown = shown;
    count = r.of_view.count ∙ ap Ok (sym count);
    sound = record {
      finite = (counted_view (look_of v).dims (length cells.leaves) r.of_view.count).0;
      targets = found_all (sites_of v) (targets_of v) r.of_view.sites.targets;
      count = count ∙ sym (count_of (sites_of v) cells.lanes cells.leaves r.of_view.located.casts) ∙ sym (ap (λ (ts : List (Result Target TargetError)). length ts) r.of_view.sites.targets ∙ length-map (sites_of v) (λ (s : Site). Ok s.target));
      words = tt;
    };
    typed = words_typed;
    after = ap transaction_of is ∙ after_is words;
  }
    where
      found_all : (sites : List Site) (ts : List (Result Target TargetError)) → ts ≡ map (λ (s : Site). Ok s.target) sites → AllByRecursion IsFound ts
      found_all sites ts same = subst (AllByRecursion IsFound) (sym same) (by sites)
        where
          by : (ss : List Site) → AllByRecursion IsFound (map (λ (s : Site). Ok s.target) ss)
          by [] = tt
          by (s ∷ ss) = (tt, by ss)

-- a refusal for cells outside is the history's
pub stray_refused : (book : BookView Opening) (old mid new : PassView Event Opening) (t : TxnSeen) (v : View) (cells : ViewCells) (fetched : List Kept) (e : ReadError) → IsReadBy book.fixed (length old.seen) mid.seen t v cells fetched → HasPassed book old mid []
    → IsStrayRefusal book mid new (strays_by t cells fetched) e → IsReadError book old new t v e
stray_refused book old mid new t v cells fetched (read.View fault) r passed is = absurd is
stray_refused book old mid new t v cells fetched (read.StoreFailed event) r passed is = absurd is
stray_refused book old mid new t v cells fetched (read.Damaged key cause) r passed is = absurd is
stray_refused book old mid new t v cells fetched (read.Shrunk key now) r passed is =
    let turned = is.0 in
    let s = read_by_later book.fixed (length old.seen) mid.seen t v cells fetched r new.seen turned.before turned.past.outline in
    let marks = read_marks book.fixed (length old.seen) new.seen t v cells fetched s in (
      passed_turned book old mid new [] passed turned,
      record {
        marks = marks;
        marked = marked book.fixed (length old.seen) new.seen t v cells fetched s;
        shrunk =
            shrunk_read book.fixed new.seen v t marks s.of_view.txn.outline (leaves_are book.fixed new.seen t v cells s.of_view) s.of_view.sites s.of_view.txn.staged cells.pieces (had_by t cells fetched) is.1.0 now key
            (needed_cells book.fixed new.seen t v cells s.of_view) (pieces_in book.fixed new.seen t v cells s.of_view) s.of_view.located.pieces.each (have book.fixed (length old.seen) new.seen t v cells fetched s) is.1.1 is.1.2;
      },
    )
stray_refused book old mid new t v cells fetched read.Memory r passed is = passed_twice book old mid new passed is

-- one of some pieces
at_split : (P : Piece → Type 0) (done : List Piece) (p : Piece) (rest : List Piece) → AllByRecursion P (done ++ p ∷ rest) → P p
at_split P [] p rest all = all.0
at_split P (q ∷ done) p rest all = at_split P done p rest all.1

-- a failed call is for a chunk that the read fetches
failed_fetch : (opening : Opening) (owner event : ℕ) (before new : History) (t : TxnSeen) (v : View) (ps : List Piece) → AllByRecursion (λ (p : Piece). list_any (λ x. is_chunk (chunk_of before x) (chunk_at p.id)) (unwritten t.ops v) ≡ true) ps
    → AllByRecursion (λ (p : Piece). has_mark (marks_of t.kept) (chunk_at p.id) ≡ false) ps → HasFailedAmong owner ps before new event → (mount : List ℕ) × IsFetched before (transaction_of t) v mount × (new ≡ before ++ fault owner mount ∷ []) × (event ≡ length before + 1)
failed_fetch opening owner event before new t v [] needed unmarked failed = absurd failed
failed_fetch opening owner event before new t v (p ∷ ps) needed unmarked (inl here) = (
  here.mount,
  record {
    chunk = chunk_at p.id;
    needed = chunk_needed before (transaction_of t) v (chunk_at p.id) needed.0;
    unmarked = unmarked.0;
    on_mount = subst (IsOnMount here.mount) (sym here.known) here.on_mount;
  },
  here.added,
  here.number,
)
failed_fetch opening owner event before new t v (p ∷ ps) needed unmarked (inr rest) = failed_fetch opening owner event before new t v ps needed.1 unmarked.1 rest

-- a refusal of fetching is the history's
pub fetch_refused : (book : BookView Opening) (old new : PassView Event Opening) (t : TxnSeen) (v : View) (cells : ViewCells) (e : ReadError) → IsReadOf book.fixed old.seen t v cells → IsFetchError book old new (new_pieces (sources_of t.staged t.kept cells.pieces) cells.pieces) e
    → IsReadError book old new t v e
fetch_refused book old new t v cells (read.View fault) r is = absurd is
fetch_refused book old new t v cells (read.Shrunk key now) r is = absurd is
fetch_refused book old new t v cells read.Memory r is = inr is
fetch_refused book old new t v cells (read.Damaged key cause) r is =
    let turned = is.0 in
    let d = is.1 in
    let srcs = sources_of t.staged t.kept cells.pieces in
    let s = read_later book.fixed old.seen t v cells r new.seen turned.before turned.past.outline in
    let needed = each_needed book.fixed new.seen v t (leaves_are book.fixed new.seen t v cells s) s.sites s.txn.staged (new_pieces srcs cells.pieces) (of_news (IsPiece (sites_of v)) srcs cells.pieces s.located.pieces.each) (new_names book.fixed new.seen t v cells s) (news_are t.staged t.kept cells.pieces) in (
      turned,
      λ fixed told. record {
        chunk = chunk_at d.piece.id;
        needed = chunk_needed new.seen (transaction_of t) v (chunk_at d.piece.id)
            (at_split (λ (p : Piece). list_any (λ x. is_chunk (chunk_of new.seen x) (chunk_at p.id)) (unwritten t.ops v) ≡ true) d.done d.piece d.rest
            (subst (AllByRecursion (λ (p : Piece). list_any (λ x. is_chunk (chunk_of new.seen x) (chunk_at p.id)) (unwritten t.ops v) ≡ true)) d.split needed));
        damaged = d.damaged fixed.start told;
      },
    )
fetch_refused book old new t v cells (read.StoreFailed event) r is =
    let srcs = sources_of t.staged t.kept cells.pieces in
    let news = new_pieces srcs cells.pieces in
    let adds = failed_adds old.number news is.before new.seen event is.failed in
    let turned = is.turned adds.0 adds.1 in
    let legal : IsLegal finmap.empty (outline is.before) =
    IsLegal-front finmap.empty (outline is.before) (outline (fault old.number adds.0 ∷ [])) (subst (IsLegal finmap.empty) (ap outline adds.1 ∙ map-append outlined_event is.before (fault old.number adds.0 ∷ [])) turned.past.outline) in
    let s = read_later book.fixed old.seen t v cells r is.before is.grown legal in
    let names = new_names book.fixed is.before t v cells s in
    let new_are = news_are t.staged t.kept cells.pieces in
    let f = failed_fetch book.fixed old.number event is.before new.seen t v news
    (each_needed book.fixed is.before v t (leaves_are book.fixed is.before t v cells s) s.sites s.txn.staged news (of_news (IsPiece (sites_of v)) srcs cells.pieces s.located.pieces.each) names new_are)
    (each_unmarked book.fixed is.before v t (leaves_are book.fixed is.before t v cells s) s.sites s.txn.staged news s.txn.kept names new_are) is.failed in
    record {
      before = is.before;
      mount = f.0;
      fetched = f.1;
      added = f.2;
      number = f.3;
      turned = is.turned f.0 f.2;
    }

-- the transaction stands beside what its pass has seen after a refusal
pub txn_after : (book : BookView Opening) (old new : PassView Event Opening) (t : TxnSeen) (v : View) (cells : ViewCells) (e : ReadError) → IsTxnIn book.fixed old.seen t → IsReadError book old new t v e → IsTxnIn book.fixed new.seen t
txn_after book old new t v cells (read.View fault) txn is = subst (λ (p : PassView Event Opening). IsTxnIn book.fixed p.seen t) (sym is.1) txn
txn_after book old new t v cells (read.StoreFailed event) txn is = turned_txn book old new t (fault old.number is.mount ∷ []) txn is.turned
txn_after book old new t v cells (read.Damaged key cause) txn is = turned_txn book old new t [] txn is.0
txn_after book old new t v cells (read.Shrunk key now) txn is = turned_txn book old new t [] txn is.0
txn_after book old new t v cells read.Memory txn is = passed_txn book old new t txn is

-- a view that can't be read
pub locate_refused : (book : BookView Opening) (old : PassView Event Opening) (t : TxnSeen) (v : View) (e : WriteError) → IsLocateFault v e → IsReadError book old old t v (as_read_fault e)
locate_refused book old t v (write.View fault) is = (is, refl)
locate_refused book old t v write.Memory is = inl refl

pub stray_passed : (book : BookView Opening) (old new : PassView Event Opening) (strays : List Stray) (e : ReadError) → IsStrayRefusal book old new strays e → HasPassed book old new []
stray_passed book old new strays (read.View fault) is = absurd is
stray_passed book old new strays (read.StoreFailed event) is = absurd is
stray_passed book old new strays (read.Damaged key cause) is = absurd is
stray_passed book old new strays (read.Shrunk key now) is = inr is.0
stray_passed book old new strays read.Memory is = is

-- a view is read behind a turn as before it
pub passed_read : (book : BookView Opening) (old new : PassView Event Opening) (t : TxnSeen) (v : View) (cells : ViewCells) → IsReadOf book.fixed old.seen t v cells → HasPassed book old new [] → IsReadOf book.fixed new.seen t v cells
passed_read book old new t v cells r (inl same) = subst (λ (p : PassView Event Opening). IsReadOf book.fixed p.seen t v cells) (sym same) r
passed_read book old new t v cells r (inr turned) = read_later book.fixed old.seen t v cells r new.seen turned.before turned.past.outline

pub if_ok_four : {T E : Type 0} {P Q S U R : T → Type 0} (r : Result T E) → IfOk r P → IfOk r Q → IfOk r S → IfOk r U → ((x : T) → P x → Q x → S x → U x → R x) → IfOk r R
if_ok_four (Ok x) p q s u f = f x p q s u
if_ok_four (Err e) p q s u f = tt

-- the transaction after the words were shown, or not
pub shown_txn : {E : Type 0} (opening : Opening) (seen : ℕ) (events : History) (t : TxnSeen) (v : View) (cells : ViewCells) (fetched : List Kept) → IsReadBy opening seen events t v cells fetched → (new : TxnSeen) (r : Result (List ℕ) E)
    → IfOk r (λ words. new ≡ with_read t v words fetched) → OnErr r (new ≡ t) → IsTxnIn opening events new
shown_txn opening seen events t v cells fetched is new (Ok words) ok err = subst (IsTxnIn opening events) (sym ok) (txn_read opening seen events t v cells fetched is words)
shown_txn opening seen events t v cells fetched is new (Err e) ok err = subst (IsTxnIn opening events) (sym err) is.of_view.txn

-- what was fetched for the pieces by their sources
pub read_by_is : (book : BookView Opening) (old mid : PassView Event Opening) (t : TxnSeen) (v : View) (cells : ViewCells) (sources : List Source) (pieces : List Piece) (fetched : List Kept) → IsReadOf book.fixed old.seen t v cells → HasPassed book old mid []
    → sources ≡ sources_of t.staged t.kept cells.pieces → pieces ≡ cells.pieces → AreFetched book.fixed (length old.seen) mid.seen (new_pieces sources pieces) fetched → IsReadBy book.fixed (length old.seen) mid.seen t v cells fetched
read_by_is book old mid t v cells sources pieces fetched r passed srcs_are same are = record {
  of_view = passed_read book old mid t v cells r passed;
  was_fetched = subst (λ (p : List Source × List Piece). AreFetched book.fixed (length old.seen) mid.seen (new_pieces p.0 p.1) fetched) (λ i. (srcs_are i, same i)) are;
}
