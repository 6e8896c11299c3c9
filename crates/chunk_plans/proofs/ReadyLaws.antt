-- Prepared bytes that a later commit may use are what it leaves of the chunk.
use Rattle.std.proofs.Common.{◌≡◌, ℕ, ◌≤◌, List, ◌++◌, length, true, Option, Some, None, sym, ap, subst, ◌∙◌, eqb-true}
use Rattle.std.specs.Prelude.{◌==◌}
use Rattle.cells.specs.Elements.{word_at}
use Rattle.cells.proofs.Laws.{both}
use Rattle.chunk_cache.specs.Snapshot.{SnapshotCells}
use Rattle.kv_face.specs.Store.{Contents}
use Rattle.history.specs.Arrays.{Known, known_after}
use Rattle.history.specs.History.{History}
use Rattle.history.specs.Legal.{IsLegal}
use Rattle.history.specs.Snapshots.{IsSnapshotOf}
use Rattle.history.specs.Store.{resized_after}
use Rattle.history.specs.Touch.{generation_of}
use Rattle.history.proofs.Laws.{known_unresized, resized_after-le-length, snapshot_longer, some_inj}
use Rattle.shared_state.specs.Agreement.{Opening, Agrees}
use Rattle.shared_state.specs.Fetches.{IsNamed, generation_in}
use Rattle.shared_state.specs.Kept.{IsCurrent}
use Rattle.shared_state.specs.Log.{Log}
use Rattle.shared_state.specs.Seen.{StoreSeen}
use Rattle.shared_state.proofs.Laws.{generation_now}
use Rattle.chunk_plans.specs.Left.{IsLeftAs}
use Rattle.chunk_plans.specs.Under.{IsLeftNow}
use Rattle.chunk_plans.specs.Writes.{IsReadyBy, IsReadyWrite, chunk_of_write, is_base, is_usable}
use Rattle.chunk_plans.specs.declared.write.ChunkWrite.{ChunkWrite}
use Rattle.chunk_plans.specs.declared.write.Ready.{Ready}
use Rattle.chunk_plans.specs.Asking.{IsAsked, IsUnderAt, chunk_of_part}
use Rattle.chunk_plans.specs.Readying.{IsReadyOf, IsWriteFor, cells_under, generation_under, is_told}
use Rattle.chunk_plans.specs.declared.asked.Asked.{Asked}
use Rattle.chunk_plans.specs.declared.asked.Under.{Under}
use Rattle.chunk_plans.specs.declared.asked.Under.TheVariants.{Covered, Kept, Unknown}

module _ (opening : Opening) (start : Contents) (store : StoreSeen) (log : Log) (early more : History) (a : Asked) (agrees : Agrees opening store log)
    (told : opening.store.contents ≡ Some start) (grown : log.events ≡ early ++ more) (asked : IsAsked opening early a) where
  legal : IsLegal start (early ++ more)
  legal = subst (IsLegal start) grown (agrees.holds start told).legal

  module _ (unresized : resized_after log.events a.part.array ≡ resized_after early a.part.array) where
    known_now : known_after log.events a.part.array ≡ Some asked.array
    known_now =
        let low : resized_after (early ++ more) a.part.array ≤ length early =
        subst (λ n. n ≤ length early) (sym unresized ∙ ap (λ h. resized_after h a.part.array) grown) (resized_after-le-length early a.part.array) in
        ap (λ h. known_after h a.part.array) grown ∙ known_unresized start early a.part.array asked.array asked.part.known more legal low

    kept_now : (s : SnapshotCells) → IsCurrent start early asked.array (chunk_of_part a.part) s → s.generation ≡ generation_in log asked.array a.key
        → IsSnapshotOf start log.events asked.array (chunk_of_part a.part) s.generation (word_at s.cells)
    kept_now s current now =
        let c = chunk_of_part a.part in
        let named : IsNamed log.events c a.key = record { array = asked.array; known = known_now; valid = asked.part.valid; named = asked.named } in
        let generation : s.generation ≡ generation_of (early ++ more) c =
        now ∙ generation_now opening store log c a.key asked.array agrees named known_now ∙ ap (λ h. generation_of h c) grown in
        let later = snapshot_longer start early more asked.array c s.generation (word_at s.cells) legal current generation in
        let same : later.0 ≡ asked.array = some_inj later.0 asked.array (sym later.2.known ∙ ap (λ h. known_after h a.part.array) (sym grown) ∙ known_now) in
        subst (λ h. IsSnapshotOf start h asked.array c s.generation (word_at s.cells)) (sym grown)
        (subst (λ m. IsSnapshotOf start (early ++ more) m c s.generation (word_at s.cells)) same later.2)

    left_by : (u : Under) (r : Ready) → is_told u ≡ true → IsUnderAt opening early asked.array a.part a.form u → r.generation ≡ generation_under u
        → is_base (generation_in log asked.array a.key) r.generation ≡ true → IsLeftAs a.form a.part.chunk.now a.part.staged.now (cells_under u) r.cells r.bytes
        → IsLeftNow start log.events asked.array (chunk_of_part a.part) a.part.staged.now r.cells r.bytes
    left_by Covered r it under generation base left = record {
      base = None;
      under = under.1;
      left = subst (λ f. IsLeftAs f a.part.chunk.now a.part.staged.now None r.cells r.bytes) asked.form_is left;
    }
    left_by (Kept s) r it under generation base left =
        let equal : (s.generation == generation_in log asked.array a.key) ≡ true = ap (is_base (generation_in log asked.array a.key)) (sym generation) ∙ base in
        record {
          base = Some s.cells;
          under = (s.generation, kept_now s (under.2 start told) (eqb-true s.generation (generation_in log asked.array a.key) equal));
          left = subst (λ f. IsLeftAs f a.part.chunk.now a.part.staged.now (Some s.cells) r.cells r.bytes) asked.form_is left;
        }
    left_by Unknown r it under generation base left = absurd (cc)

  -- prepared bytes that may be used are right
  right_by : (k : Known) → known_after log.events a.part.array ≡ Some k → (r : Ready) → is_usable (generation_in log k a.key) (resized_after log.events a.part.array) (Some r) ≡ true
      → IsReadyOf a (Some r) → IsLeftNow start log.events k (chunk_of_part a.part) a.part.staged.now r.cells r.bytes
  right_by k is r usable ready =
      let parts = both (is_base (generation_in log k a.key) r.generation) (resized_after log.events a.part.array == r.resized) usable in
      let unresized : resized_after log.events a.part.array ≡ resized_after early a.part.array =
      eqb-true (resized_after log.events a.part.array) r.resized parts.1 ∙ ready.2 ∙ asked.resized in
      let same : asked.array ≡ k = some_inj asked.array k (sym (known_now unresized) ∙ is) in
      let base : is_base (generation_in log asked.array a.key) r.generation ≡ true = ap (λ m. is_base (generation_in log m a.key) r.generation) same ∙ parts.0 in
      subst (λ m. IsLeftNow start log.events m (chunk_of_part a.part) a.part.staged.now r.cells r.bytes) same (left_by unresized a.under r ready.0 asked.under ready.1 base ready.3)

  module _ (w : ChunkWrite) (write : IsWriteFor a w) where
    same_chunk : chunk_of_part a.part ≡ chunk_of_write w
    same_chunk = λ i. record { array = sym write.array i; index = sym write.chunk i }

    ready_by : (k : Known) → known_after log.events w.array ≡ Some k → (o : Option Ready) → is_usable (generation_in log k w.key) (resized_after log.events w.array) o ≡ true
        → IsReadyOf a o → IsReadyBy start log.events k w o
    ready_by k is None usable ready = tt
    ready_by k is (Some r) usable ready =
        let here : is_usable (generation_in log k a.key) (resized_after log.events a.part.array) (Some r) ≡ true =
        ap (λ n. is_usable (generation_in log k a.key) (resized_after log.events n) (Some r)) (sym write.array)
        ∙ ap (λ key. is_usable (generation_in log k key) (resized_after log.events w.array) (Some r)) (sym write.key) ∙ usable in
        subst (λ c. IsLeftNow start log.events k c w.staged.now r.cells r.bytes) same_chunk
        (subst (λ (ws : List (Option ℕ)). IsLeftNow start log.events k (chunk_of_part a.part) ws r.cells r.bytes) (sym write.staged)
        (right_by k (ap (known_after log.events) (sym write.array) ∙ is) r here ready))

    -- so they are where a state agrees with the same opening later
    pub ready_right : (k : Known) → known_after log.events w.array ≡ Some k → IsReadyWrite start log k w
    ready_right k is = λ usable. ready_by k is w.ready usable write.ready
