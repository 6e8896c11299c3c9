-- Chunks that were decoded may be kept.
use Rattle.std.proofs.Common.{◌≡◌, ◌∙◌, ◌∷◌, [], ◌+◌, ◌<◌, ◌++◌, ◌==◌, ℕ, suc, length, get_or, arith, append_assoc, List, Bool, true, false, cond, Result, Ok, Err, refl, sym, ap, subst}
use Rattle.std.specs.Prelude.{OnOk, OnErr}
use Rattle.std.specs.FinMap as finmap
use Rattle.cells.specs.Elements.{word_at}
use Rattle.chunk_cache.specs.Cache.{after_keep}
use Rattle.chunk_cache.specs.Snapshot.{SnapshotCells}
use Rattle.history.specs.Arrays.{Known, known_after, is_local}
use Rattle.history.specs.Chunks.{Chunk}
use Rattle.history.specs.History.{History}
use Rattle.history.specs.Legal.{IsLegal}
use Rattle.history.specs.Snapshots.{chunk_box}
use Rattle.history.specs.Touch.{generation_of}
use Rattle.history.specs.declared.array.ArrayInfo.{ArrayInfo}
use Rattle.history.proofs.Laws.{some_inj, snapshot_longer}
use Rattle.std.proofs.lemmas.List.{length-append}
use Rattle.shared_state.specs.Agreement.{Opening, Agrees}
use Rattle.transaction_cells.specs.declared.view_cells.Piece.{Piece}
use Rattle.chunk_fetches.specs.Looking.{IsFresh, AreFresh, AreChunks}
use Rattle.chunk_fetches.specs.Kept.{chunk_at, IsChunkThen}
use Rattle.chunk_fetches.specs.declared.looked.Fresh.{Fresh}
use Rattle.shared_state.specs.Fetches.{IsChunkOf, MaySettle, settled, generation_in}
use Rattle.shared_state.specs.Kept.{IsCurrent}
use Rattle.shared_state.specs.Log.{Log}
use Rattle.shared_state.specs.Outline.{outline}
use Rattle.shared_state.specs.Seen.{StoreSeen}
use Rattle.shared_state.specs.declared.Bounds.{Bounds}
use Rattle.chunk_fetches.proofs.GrowLaws.{keeps_front}

-- a chunk as it was may be settled in a later state of the same opening
pub may_settle : (opening : Opening) (store : StoreSeen) (log : Log) (early more : History) (c : Chunk) (snapshot : SnapshotCells) (bounds : Bounds) → log.events ≡ early ++ more → Agrees opening store log → IsChunkThen opening early c snapshot bounds → MaySettle opening log c snapshot
may_settle opening store log early more c snapshot bounds grown agrees chunk = record {
  cells = λ l there.
      let k = chunk.array in
      let later = keeps_front early more (subst (λ (h : History). IsLegal finmap.empty (outline h)) grown agrees.outline) c.array k chunk.known in
      let one : later.0 ≡ l = some_inj later.0 l (sym later.1 ∙ ap (λ h. known_after h c.array) (sym grown) ∙ there) in
      let info : k.info ≡ l.info = sym later.2 ∙ ap (λ (m : Known). m.info) one in
      record { dtype = chunk.cells.dtype ∙ ap (λ (i : ArrayInfo). i.dtype) info; shape = chunk.cells.shape ∙ ap chunk_box info };
  now = λ start l told there same.
      let k = chunk.array in
      let now = chunk.now start told in
      let legal = subst (IsLegal start) grown (agrees.holds start told).legal in
      let more_is = snapshot_longer start early more k c snapshot.generation (word_at snapshot.cells) legal now (same ∙ ap (λ h. generation_of h c) grown) in
      let one : more_is.0 ≡ l = some_inj more_is.0 l (sym more_is.2.known ∙ ap (λ h. known_after h c.array) (sym grown) ∙ there) in
      subst (λ (h : History). IsCurrent start h l c snapshot) (sym grown) (subst (λ m. IsCurrent start (early ++ more) m c snapshot) one more_is.2);
}

-- what was settled adds no event
pub settled_events : (log : Log) (k : Known) (key : List ℕ) (snapshot : SnapshotCells) → (settled log k key snapshot).events ≡ log.events
settled_events log k key snapshot = by (is_local k.info.home) (generation_in log k key == snapshot.generation)
  where
    by : (b g : Bool) → (cond b log (cond g (record log { cache = record log.cache { entries = after_keep log.cache.limit key snapshot log.cache.entries } }) log)).events ≡ log.events
    by true g = refl
    by false true = refl
    by false false = refl

pub either_way : {T E A B C : Type 0} (r : Result T E) → OnOk r A → OnErr r B → (A → C) → (B → C) → C
either_way (Ok x) a b f g = f a
either_way (Err e) a b f g = g b

-- the chunks before the next one are settled, and no event was added
pub record AreSettledUpTo (store last : StoreSeen) (log later : Log) (rest all : List Piece) (fresh : List Fresh) (next : ℕ) : Type 0 where
  pub events : later.events ≡ log.events
  pub done : List Piece
  pub split : all ≡ done ++ rest
  pub count : length done ≡ next
  pub kept : (opening : Opening) (early more : History) → log.events ≡ early ++ more → AreFresh opening early all fresh → Agrees opening store log → Agrees opening last later

pub none_settled : (store : StoreSeen) (log : Log) (all : List Piece) (fresh : List Fresh) → AreSettledUpTo store store log log all all fresh 0
none_settled store log all fresh = record { events = refl; done = []; split = refl; count = refl; kept = λ opening early more grown are agrees. agrees }

-- the cells of a piece among all
fresh_at : (opening : Opening) (events : History) (done : List Piece) (p : Piece) (rest : List Piece) (fresh : List Fresh) (d : Fresh) → AreFresh opening events (done ++ p ∷ rest) fresh → IsFresh opening events (chunk_at p.id) (get_or fresh (length done) d)
fresh_at opening events [] p rest [] d are = absurd are
fresh_at opening events [] p rest (f ∷ fresh) d are = are.0
fresh_at opening events (q ∷ done) p rest [] d are = absurd are
fresh_at opening events (q ∷ done) p rest (f ∷ fresh) d are = fresh_at opening events done p rest fresh d are.1

pub settled_same : (store last : StoreSeen) (log later : Log) (rest other all : List Piece) (fresh : List Fresh) (next : ℕ) → rest ≡ other → AreSettledUpTo store last log later rest all fresh next → AreSettledUpTo store last log later other all fresh next
settled_same store last log later rest other all fresh next same h = subst (λ r. AreSettledUpTo store last log later r all fresh next) same h

-- there is one left for the next piece
pub settled_below : (store last : StoreSeen) (log later : Log) (rest all : List Piece) (fresh : List Fresh) (next : ℕ) (p : Piece) → length fresh ≡ length all → AreSettledUpTo store last log later (p ∷ rest) all fresh next → next < length fresh
settled_below store last log later rest all fresh next p same h =
    let long = ap (λ (ps : List Piece). length ps) h.split ∙ length-append h.done (p ∷ rest) in
    let count = h.count in
    omega (arith, same, long, count)

chunk_among : (events : History) (done : List Piece) (p : Piece) (rest : List Piece) → AreChunks events (done ++ p ∷ rest) → IsChunkOf events (chunk_at p.id)
chunk_among events [] p rest all = all.0
chunk_among events (q ∷ done) p rest all = chunk_among events done p rest all.1

pub settled_chunk : (store last : StoreSeen) (log later : Log) (rest all : List Piece) (fresh : List Fresh) (next : ℕ) (p : Piece) → AreSettledUpTo store last log later (p ∷ rest) all fresh next → AreChunks log.events all → IsChunkOf later.events (chunk_at p.id)
settled_chunk store last log later rest all fresh next p h chunks = subst (λ x. IsChunkOf x (chunk_at p.id)) (sym h.events) (chunk_among log.events h.done p rest (subst (AreChunks log.events) h.split chunks))

-- the state as far as it is settled, with one more or not
module _ (store last end : StoreSeen) (log later final : Log) (rest all : List Piece) (fresh : List Fresh) (next : ℕ) (p : Piece) (d : Fresh) (h : AreSettledUpTo store last log later (p ∷ rest) all fresh next) (events : final.events ≡ later.events)
    (kept : (opening : Opening) (early more : History) → later.events ≡ early ++ more → IsFresh opening early (chunk_at p.id) (get_or fresh next d) → Agrees opening last later → Agrees opening end final) where
  pub settled_kept : (opening : Opening) (early more : History) → log.events ≡ early ++ more → AreFresh opening early all fresh → Agrees opening store log → Agrees opening end final
  settled_kept opening early more grown are agrees =
      let one = subst (λ n. IsFresh opening early (chunk_at p.id) (get_or fresh n d)) h.count (fresh_at opening early h.done p rest fresh d (subst (λ ps. AreFresh opening early ps fresh) h.split are)) in
      kept opening early more (h.events ∙ grown) one (h.kept opening early more grown are agrees)

  pub settled_next : AreSettledUpTo store end log final rest all fresh (next + 1)
  settled_next = record {
    events = events ∙ h.events;
    done = h.done ++ p ∷ [];
    split = h.split ∙ sym (append_assoc h.done (p ∷ []) rest);
    count = length-append h.done (p ∷ []) ∙ ap (λ n. n + 1) h.count;
    kept = settled_kept;
  }

pub length-fresh : (opening : Opening) (events : History) (pieces : List Piece) (fresh : List Fresh) → AreFresh opening events pieces fresh → length fresh ≡ length pieces
length-fresh opening events [] [] are = refl
length-fresh opening events [] (f ∷ fresh) are = absurd are
length-fresh opening events (p ∷ pieces) [] are = absurd are
length-fresh opening events (p ∷ pieces) (f ∷ fresh) are = ap suc (length-fresh opening events pieces fresh are.1)
