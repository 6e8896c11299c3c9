-- Writes by the form of their array, as a state tells it.
use Rattle.std.proofs.Common.{◌≡◌, ℕ, List, length, Bool, true, false, Option, Some, None, sym, ap, subst, ◌∙◌}
use Rattle.std.specs.Prelude.{◌↔◌, IsTrue}
use Rattle.cells.specs.Places.{cell_count}
use Rattle.chunk_forms.specs.declared.form.Form.{Form}
use Rattle.chunk_forms.specs.Metadata.{shape_of, chunk_shape_of, with_shape}
use Rattle.history.specs.History.{History}
use Rattle.history.specs.Arrays.{Known, form_of, is_local, chunk_shape}
use Rattle.chunk_plans.specs.Laid.{IsChunkOf, IsStagedWithin}
use Rattle.chunk_plans.specs.Agreement.{IsState}
use Rattle.chunk_plans.specs.Log.{Log}
use Rattle.chunk_plans.specs.Seen.{StoreSeen}
use Rattle.chunk_plans.proofs.Laws.{good_in}
use Rattle.chunk_plans.specs.declared.write.ChunkWrite.{ChunkWrite}
use Rattle.chunk_plans.proofs.Laws.{chunk_told, shape_told, valid_chunks, valid_ranks}
use Rattle.commits.specs.declared.outside.Outside.{Outside}
use Rattle.commits.specs.Outside.{IsToldOf, TellsOutside}
use Rattle.commits.specs.Writes.{IsSizedFor}

module _ (k : Known) (form : Form) (shape chunks : List ℕ) (stored : is_local k.info.home ≡ false) (same : form ≡ with_shape (form_of k.info.home) k.shape) (s : shape ≡ shape_of form) (c : chunks ≡ chunk_shape_of form) where
  shape_is : shape ≡ k.shape
  shape_is = s ∙ ap shape_of same ∙ shape_told k.info.home k.shape stored

  chunks_are : chunks ≡ chunk_shape k.info
  chunks_are = c ∙ ap chunk_shape_of same ∙ chunk_told k.info.home k.info.shape k.shape stored

  pub chunk_by_form : {store : StoreSeen} {log : Log} (w : ChunkWrite) → IsState store log → IsSizedFor log.events w k → IsChunkOf shape chunks w.chunk.now
  chunk_by_form {store} {log} w state is =
      let good = good_in log.events state.1.outline w.array k is.known in
      subst (λ t. IsChunkOf t chunks w.chunk.now) (sym shape_is)
      (subst (λ t. IsChunkOf k.shape t w.chunk.now) (sym chunks_are)
      (record {
        chunks = valid_chunks k.info k.info.home good.kept stored;
        shape_rank = good.rank ∙ sym (valid_ranks k.info k.info.home good.kept stored);
        chunk_rank = is.valid.rank;
        starts = is.valid.starts;
      }))

  pub size_by_form : {events : History} (w : ChunkWrite) → IsSizedFor events w k → length w.staged.now ≡ cell_count chunks
  size_by_form {events} w is = is.size ∙ ap cell_count (sym chunks_are)

  pub within_by_form : (w : ChunkWrite) (b : Bool) → IsTrue b ↔ IsStagedWithin shape chunks w.chunk.now w.staged.now → IsTrue b ↔ IsStagedWithin k.shape (chunk_shape k.info) w.chunk.now w.staged.now
  within_by_form w b is =
      subst (λ t. IsTrue b ↔ IsStagedWithin t (chunk_shape k.info) w.chunk.now w.staged.now) shape_is (subst (λ t. IsTrue b ↔ IsStagedWithin shape t w.chunk.now w.staged.now) chunks_are is)

-- a write that isn't within, and what is told of its array
pub tells_outside : (events : History) (w : ChunkWrite) (k : Known) (b : Bool) (found : Option Outside) → is_local k.info.home ≡ false → IsTrue b ↔ IsStagedWithin k.shape (chunk_shape k.info) w.chunk.now w.staged.now → b ≡ false → IsToldOf events w.array k found
    → TellsOutside events k w found
tells_outside events w k b None stored is isnt told = absurd told
tells_outside events w k b (Some o) stored is isnt told = record {
  stored = stored;
  beyond = λ within. let clash : false ≡ true = sym isnt ∙ is.1 within in absurd (cc);
  named = told.0;
  number = told.1;
}
