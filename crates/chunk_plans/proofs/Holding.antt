-- A local array's cells, and what staged words over them are.
use Rattle.std.proofs.Common.{◌≡◌, ℕ, ◌*◌, ◌<◌, List, [], ◌∷◌, length, map, max, true, cond, Some, None, refl, sym, ap, subst, ◌∙◌, arith}
use Rattle.std.specs.Prelude.{nat_lt, unwrap_or}
use Rattle.std.specs.FinMap as finmap
use Rattle.cells.specs.Dense.{DenseCells}
use Rattle.cells.specs.Elements.{word_at}
use Rattle.cells.specs.Places.{IsInside, cell_count, c_place}
use Rattle.cells.proofs.Laws.{both}
use Rattle.kv_face.specs.Store.{Contents}
use Rattle.chunk_cache.specs.Cache.{kept}
use Rattle.chunk_cache.specs.Snapshot.{SnapshotCells}
use Rattle.history.specs.declared.array.Home.{Home}
use Rattle.history.specs.declared.array.Home.TheVariants.{Zarr, N5, Zarr3, Local}
use Rattle.history.specs.Arrays.{Known, known_after, is_local, chunk_shape, chunk_shape_in}
use Rattle.history.specs.Resizes.{reaches_into}
use Rattle.history.specs.Snapshots.{chunk_box}
use Rattle.history.proofs.Laws.{local_shape}
use Rattle.rebase_writes.specs.Staged.{AreWords, staged_at}
use Rattle.shared_state.specs.Agreement.{Opening, Agrees, IsState}
use Rattle.shared_state.specs.Fetches.{IsAnswered, kept_of}
use Rattle.shared_state.specs.Log.{Log, cells_held}
use Rattle.shared_state.specs.Outline.{outline}
use Rattle.shared_state.specs.Seen.{StoreSeen}
use Rattle.shared_state.proofs.Laws.{known-outline}
use Rattle.chunk_plans.specs.declared.write.ChunkWrite.{ChunkWrite}
use Rattle.chunk_plans.specs.Under.{IsHeldOver}
use Rattle.chunk_plans.specs.Writes.{IsWrite, chunk_of_write}
use Rattle.chunk_plans.proofs.Reached.{below}

-- the run holds the cells of a local array
pub held_there : {store : StoreSeen} {log : Log} (a : ℕ) (k : Known) (key : List ℕ) → IsState store log → known_after log.events a ≡ Some k → is_local k.info.home ≡ true → None ≡ kept_of log a k key → ⊥
held_there {store} {log} a k key state known local none =
    let held = state.1.held a k known local in
    let clash : None ≡ Some held.snapshot = none ∙ ap (λ b. cond b (cells_held log a) (kept key log.cache.entries)) local ∙ held.held in cc

-- a local array keeps the shape that it was opened with
pub local_whole : {store : StoreSeen} {log : Log} (a : ℕ) (k : Known) → IsState store log → known_after log.events a ≡ Some k → is_local k.info.home ≡ true → k.shape ≡ k.info.shape
local_whole {store} {log} a k state known local = local_shape finmap.empty a (outline log.events) state.1.outline k (known-outline a log.events ∙ known) local

above : (from size : ℕ) → from < size → max 1 size ≡ size
above from size less = omega (arith, less)

-- where a chunk of it has a cell, no size is 0
reached_full : (shape index : List ℕ) → reaches_into (map (max 1) shape) shape index ≡ true → map (max 1) shape ≡ shape
reached_full [] index r = refl
reached_full (s ∷ shape) [] r = absurd (cc)
reached_full (s ∷ shape) (c ∷ index) r =
    let parts = both (nat_lt (c * max 1 s) s) (reaches_into (map (max 1) shape) shape index) r in
    ap (λ n. n ∷ map (max 1) shape) (above (c * max 1 s) s (below (c * max 1 s) s parts.0)) ∙ ap (λ ns. s ∷ ns) (reached_full shape index parts.1)

full_by : (home : Home) (shape index : List ℕ) → is_local home ≡ true → reaches_into (chunk_shape_in home shape) shape index ≡ true → chunk_shape_in home shape ≡ shape
full_by (Zarr mount path meta) shape index local r = absurd (cc)
full_by (N5 mount path meta) shape index local r = absurd (cc)
full_by (Zarr3 mount path meta) shape index local r = absurd (cc)
full_by (Local start) shape index local r = reached_full shape index r

module _ {store : StoreSeen} {log : Log} (w : ChunkWrite) (base : SnapshotCells) (state : IsState store log) (write : IsWrite log.events w) (all_local : (k : Known) → known_after log.events w.array ≡ Some k → is_local k.info.home ≡ true) (answered : IsAnswered store log (chunk_of_write w) base) where
  abbrev k : Known
  k = write.0

  local : is_local k.info.home ≡ true
  local = all_local k write.1.known

  sizes : chunk_shape k.info ≡ k.info.shape
  sizes =
      full_by k.info.home k.info.shape w.chunk.now local
      (ap (λ s. reaches_into (chunk_shape k.info) s w.chunk.now) (sym (local_whole w.array k state write.1.known local)) ∙ write.1.reached)

  box : chunk_box k.info ≡ k.info.shape
  box = ap (λ b. cond b k.info.shape (chunk_shape k.info)) local

  pub held_size : length w.staged.now ≡ cell_count base.cells.shape
  held_size = write.1.size ∙ ap cell_count (sizes ∙ sym box ∙ sym (answered.cells k write.1.known).shape)

  pub held_words : AreWords base.cells.dtype w.staged.now
  held_words = subst (λ d. AreWords d w.staged.now) (sym (answered.cells k write.1.known).dtype) write.1.words

  pub held_plan : (opening : Opening) (start : Contents) (l : Known) (cells : DenseCells) → Agrees opening store log → opening.store.contents ≡ Some start → known_after log.events w.array ≡ Some l
      → ((at : List ℕ) → IsInside base.cells.shape at → word_at cells at ≡ unwrap_or (staged_at w.staged.now (c_place base.cells.shape at)) (word_at base.cells at)) → IsHeldOver start log.events l (chunk_of_write w) w.staged.now cells
  held_plan opening start l cells agrees told known words = record {
    base = base.cells;
    generation = base.generation;
    snapshot = answered.now opening start l agrees told known;
    words = subst (λ (ns : List ℕ). (at : List ℕ) → IsInside ns at → word_at cells at ≡ unwrap_or (staged_at w.staged.now (c_place ns at)) (word_at base.cells at)) (answered.cells l known).shape words;
  }
