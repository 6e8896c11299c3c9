-- What was laid over a chunk is what is left of it.
use Rattle.std.proofs.Common.{◌≡◌, ℕ, List, false, Option, Some, None, sym, ap, subst, ◌∙◌}
use Rattle.cells.specs.Dense.{DenseCells}
use Rattle.kv_face.specs.Store.{Contents}
use Rattle.chunk_cache.specs.Snapshot.{SnapshotCells}
use Rattle.chunk_forms.specs.declared.form.Form.{Form}
use Rattle.chunk_forms.specs.declared.form.Damage.{Damage}
use Rattle.chunk_forms.specs.Metadata.{shape_of, chunk_shape_of, dtype_of, with_shape}
use Rattle.history.specs.Arrays.{Known, known_after, form_of, is_local, chunk_shape}
use Rattle.chunk_laying.specs.Laid.{IsChunkOf, IsCovered}
use Rattle.shared_state.specs.Agreement.{Opening, Agrees, IsState}
use Rattle.shared_state.specs.Fetches.{IsAnswered, IsDamagedThere}
use Rattle.shared_state.specs.Log.{Log}
use Rattle.shared_state.specs.Seen.{StoreSeen}
use Rattle.chunk_plans.specs.declared.write.ChunkWrite.{ChunkWrite}
use Rattle.chunk_plans.specs.Left.{IsLeftAs}
use Rattle.chunk_plans.specs.Under.{IsLeftNow}
use Rattle.chunk_plans.specs.Writes.{IsWrite, chunk_of_write}
use Rattle.chunk_plans.proofs.Forms.{dtype_told, kept_as}
use Rattle.chunk_plans.proofs.Kept.{shape_told, chunk_told}

-- over the chunk that was read
pub left_over_read : (opening : Opening) (start : Contents) (store : StoreSeen) (log : Log) (w : ChunkWrite) (k : Known) (f : Form) (snapshot : SnapshotCells) (cells : DenseCells) (bytes : Option (List ℕ)) → IsAnswered store log (chunk_of_write w) snapshot → Agrees opening store log
    → opening.store.contents ≡ Some start → known_after log.events w.array ≡ Some k → f ≡ with_shape (form_of k.info.home) k.shape → IsLeftAs f w.chunk.now w.staged.now (Some snapshot.cells) cells bytes → IsLeftNow start log.events k (chunk_of_write w) w.staged.now cells bytes
left_over_read opening start store log w k f snapshot cells bytes answered agrees told known same left = record {
  base = Some snapshot.cells;
  under = (snapshot.generation, answered.now opening start k agrees told known);
  left = subst (λ g. IsLeftAs g w.chunk.now w.staged.now (Some snapshot.cells) cells bytes) same left;
}

-- the words cover the chunk by the form that is told, and so by the array
pub covered_told : (k : Known) (w : ChunkWrite) (f : Form) → is_local k.info.home ≡ false → f ≡ with_shape (form_of k.info.home) k.shape → IsCovered (shape_of f) (chunk_shape_of f) w.chunk.now w.staged.now → IsCovered k.shape (chunk_shape k.info) w.chunk.now w.staged.now
covered_told k w f stored same covered =
    let g : Form = with_shape (form_of k.info.home) k.shape in
    let now : IsCovered (shape_of g) (chunk_shape_of g) w.chunk.now w.staged.now = subst (λ h. IsCovered (shape_of h) (chunk_shape_of h) w.chunk.now w.staged.now) same covered in
    subst (λ s. IsCovered s (chunk_shape k.info) w.chunk.now w.staged.now) (shape_told k.info.home k.shape stored) (subst (λ n. IsCovered (shape_of g) n w.chunk.now w.staged.now) (chunk_told k.info.home k.info.shape k.shape stored) now)

pub covered_back : (k : Known) (w : ChunkWrite) (f : Form) → is_local k.info.home ≡ false → f ≡ with_shape (form_of k.info.home) k.shape → IsCovered k.shape (chunk_shape k.info) w.chunk.now w.staged.now → IsCovered (shape_of f) (chunk_shape_of f) w.chunk.now w.staged.now
covered_back k w f stored same covered =
    let g : Form = with_shape (form_of k.info.home) k.shape in
    let now : IsCovered (shape_of g) (chunk_shape_of g) w.chunk.now w.staged.now =
    subst (λ n. IsCovered (shape_of g) n w.chunk.now w.staged.now) (sym (chunk_told k.info.home k.info.shape k.shape stored)) (subst (λ s. IsCovered s (chunk_shape k.info) w.chunk.now w.staged.now) (sym (shape_told k.info.home k.shape stored)) covered) in
    subst (λ h. IsCovered (shape_of h) (chunk_shape_of h) w.chunk.now w.staged.now) (sym same) now

-- over none, where every cell in the array's shape is staged
pub left_over_none : (start : Contents) (log : Log) (w : ChunkWrite) (k : Known) (f : Form) (cells : DenseCells) (bytes : Option (List ℕ)) → is_local k.info.home ≡ false → f ≡ with_shape (form_of k.info.home) k.shape → IsCovered (shape_of f) (chunk_shape_of f) w.chunk.now w.staged.now
    → IsLeftAs f w.chunk.now w.staged.now None cells bytes → IsLeftNow start log.events k (chunk_of_write w) w.staged.now cells bytes
left_over_none start log w k f cells bytes stored same covered left = record { base = None; under = covered_told k w f stored same covered; left = subst (λ g. IsLeftAs g w.chunk.now w.staged.now None cells bytes) same left }

-- the words of a chunk that was read are of the dtype of its form
pub base_dtype : {store : StoreSeen} {log : Log} (w : ChunkWrite) (form : Form) (snapshot : SnapshotCells) → IsState store log → (write : IsWrite log.events w)
    → ((k : Known) → known_after log.events w.array ≡ Some k → (is_local k.info.home ≡ false) × (form ≡ with_shape (form_of k.info.home) k.shape)) → IsAnswered store log (chunk_of_write w) snapshot → snapshot.cells.dtype ≡ dtype_of form
base_dtype {store} {log} w form snapshot state write told answered =
    let k = write.0 in
    let is = told k write.1.known in
    (answered.cells k write.1.known).dtype ∙ sym (dtype_told k.info k.info.home k.shape (kept_as store log w.array k state write.1.known) is.0) ∙ ap dtype_of (sym is.1)

-- an index and cells by other names
pub left_told : (form : Form) (i j : List ℕ) (staged : List (Option ℕ)) (b d cells : DenseCells) (bytes : Option (List ℕ)) → i ≡ j → b ≡ d → IsLeftAs form i staged (Some b) cells bytes → IsLeftAs form j staged (Some d) cells bytes
left_told form i j staged b d cells bytes e f left = subst (λ h. IsLeftAs form h staged (Some d) cells bytes) e (subst (λ h. IsLeftAs form i staged (Some h) cells bytes) f left)

pub left_none : (form : Form) (i j : List ℕ) (staged : List (Option ℕ)) (cells : DenseCells) (bytes : Option (List ℕ)) → i ≡ j → IsLeftAs form i staged None cells bytes → IsLeftAs form j staged None cells bytes
left_none form i j staged cells bytes e left = subst (λ h. IsLeftAs form h staged None cells bytes) e left

pub chunk_by : (s n i s2 n2 i2 : List ℕ) → s ≡ s2 → n ≡ n2 → i ≡ i2 → IsChunkOf s2 n2 i2 → IsChunkOf s n i
chunk_by s n i s2 n2 i2 a b c is = subst (λ t. IsChunkOf t n i) (sym a) (subst (λ t. IsChunkOf s2 t i) (sym b) (subst (λ t. IsChunkOf s2 n2 t) (sym c) is))

-- damage that is told of the index of a write is that of its chunk
pub damaged_of : {store : StoreSeen} {log : Log} (w : ChunkWrite) (index name : List ℕ) (cause : Damage) → IsState store log → index ≡ w.chunk.now → IsDamagedThere store log (record { array = w.array; index = index }) name cause
    → IsDamagedThere store log (chunk_of_write w) name cause
damaged_of {store} {log} w index name cause state same = subst (λ i. IsDamagedThere store log (record { array = w.array; index = i }) name cause) same
