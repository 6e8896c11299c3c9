-- What is left of a chunk that was laid.
use Rattle.std.proofs.Common.{◌≡◌, ℕ, ◌<◌, List, length, true, cond, Option, Some, None, inl, inr, refl, sym, ap, subst, ◌∙◌}
use Rattle.std.specs.Prelude.{◌↔◌, IfOk, IfSome, Result, Ok, Err, EachIndex, slice_index, unwrap_or}
use Rattle.cells.specs.Dense.{DenseCells}
use Rattle.cells.specs.Elements.{word_at}
use Rattle.cells.specs.Places.{IsInside, c_place, c_index, cell_count}
use Rattle.cells.proofs.Laws.{true_or_false, c_place-lt, IsInside-c_index, c_place-c_index}
use Rattle.chunk_forms.specs.declared.form.Form.{Form}
use Rattle.chunk_forms.specs.declared.form.Form.TheVariants as form
use Rattle.chunk_forms.specs.Grammar.{MayWrite, WritesChunk}
use Rattle.chunk_forms.specs.Metadata.{shape_of, chunk_shape_of, dtype_of, fill_of}
use Rattle.chunk_forms.specs.Words.{is_inside}
use Rattle.history.specs.Chunks.{in_array}
use Rattle.history.specs.Resizes.{reaches_into}
use Rattle.rebase_writes.specs.Staged.{staged_at}
use Rattle.chunk_laying.specs.Laid.{laid_word, word_under}
use Rattle.chunk_plans.specs.Left.{AreBytesOf, IsLeft, IsLeftAs}
use Rattle.chunk_plans.proofs.Reached.{reached_ranks, reached_begins, within_cut}

-- the words are the staged ones over a base's
abbrev pub IsLaidBy : Form → List ℕ → List (Option ℕ) → Option DenseCells → DenseCells → Type 0
IsLaidBy form index staged base cells = (at : List ℕ) → IsInside (chunk_shape_of form) at → word_at cells at ≡ laid_word (shape_of form) (chunk_shape_of form) index (fill_of form) staged base at

-- shapes and fill as they are told
pub laid_of : (form : Form) (index : List ℕ) (staged : List (Option ℕ)) (base : Option DenseCells) (cells : DenseCells) (shape chunk_shape : List ℕ) (fill : ℕ) → shape ≡ shape_of form → chunk_shape ≡ chunk_shape_of form → fill ≡ fill_of form
    → ((at : List ℕ) → IsInside chunk_shape at → word_at cells at ≡ laid_word shape chunk_shape index fill staged base at) → IsLaidBy form index staged base cells
laid_of form index staged base cells shape chunk_shape fill s c f laid =
    subst (λ (t : List ℕ). (at : List ℕ) → IsInside (chunk_shape_of form) at → word_at cells at ≡ laid_word t (chunk_shape_of form) index (fill_of form) staged base at) s
    (subst (λ (t : List ℕ). (at : List ℕ) → IsInside t at → word_at cells at ≡ laid_word shape t index (fill_of form) staged base at) c
    (subst (λ (w : ℕ). (at : List ℕ) → IsInside chunk_shape at → word_at cells at ≡ laid_word shape chunk_shape index w staged base at) f laid))

-- nothing is lost of a chunk that reaches into its array's shape, since past the shape it has the fill
pub may_write : (form : Form) (index : List ℕ) (staged : List (Option ℕ)) (base : Option DenseCells) (cells : DenseCells) → reaches_into (chunk_shape_of form) (shape_of form) index ≡ true → IsLaidBy form index staged base cells → MayWrite form index (word_at cells)
may_write (form.Zarr meta) index staged base cells reached laid = tt
may_write (form.Zarr3 meta) index staged base cells reached laid = tt
may_write form.Local index staged base cells reached laid = tt
may_write (form.N5 meta) index staged base cells reached laid = (
  record { rank = (reached_ranks meta.block meta.dimensions index reached).0; inside = reached_begins meta.block meta.dimensions index reached },
  λ cell inside past.
      let here = is_inside meta.dimensions (in_array meta.block index cell) in
      elim (true_or_false here) [
        | inl t ↦ absurd (past (within_cut meta.block meta.dimensions index cell inside t (reached_ranks meta.block meta.dimensions index reached).1))
        | inr f ↦ laid cell inside ∙ ap (λ b. cond b (unwrap_or (staged_at staged (c_place meta.block cell)) (word_under base 0 cell)) 0) f
      ],
)

-- where every cell has the fill, every word is the fill
each_fill : (cells : DenseCells) (fill : ℕ) → length cells.words ≡ cell_count cells.shape → ((at : List ℕ) → IsInside cells.shape at → word_at cells at ≡ fill) → EachIndex cells.words (λ k. slice_index cells.words k ≡ fill)
each_fill cells fill full all = λ k less.
    let low : k < cell_count cells.shape = subst (λ n. k < n) full less in
    ap (slice_index cells.words) (sym (c_place-c_index cells.shape k low)) ∙ all (c_index cells.shape k) (IsInside-c_index cells.shape k low)

fill_each : (cells : DenseCells) (fill : ℕ) → length cells.words ≡ cell_count cells.shape → EachIndex cells.words (λ k. slice_index cells.words k ≡ fill) → (at : List ℕ) → IsInside cells.shape at → word_at cells at ≡ fill
fill_each cells fill full each at inside = each (c_place cells.shape at) (subst (λ n. c_place cells.shape at < n) (sym full) (c_place-lt cells.shape at inside))

-- what is written for a chunk's cells are the bytes of its words
pub bytes_of_cells : (form : Form) (index : List ℕ) (cells : DenseCells) (fill : ℕ) (o : Option (List ℕ)) → cells.shape ≡ chunk_shape_of form → fill ≡ fill_of form → length cells.words ≡ cell_count cells.shape
    → o ≡ None ↔ EachIndex cells.words (λ k. slice_index cells.words k ≡ fill) → IfSome o (λ bytes. WritesChunk form index (shape_of form) bytes (word_at cells)) → AreBytesOf form index (word_at cells) o
bytes_of_cells form index cells fill None sizes is full absent written =
    λ at inside. fill_each cells fill full (absent.0 refl) at (subst (λ ns. IsInside ns at) (sym sizes) inside) ∙ is
bytes_of_cells form index cells fill (Some bytes) sizes is full absent written = (
  written,
  λ all. let none : Some bytes ≡ None = absent.1 (each_fill cells fill full (λ at inside. all at (subst (λ ns. IsInside ns at) sizes inside) ∙ sym is)) in absurd (cc),
)

-- so it is what is left of the chunk
pub is_left : {E : Type 0} (form : Form) (index : List ℕ) (staged : List (Option ℕ)) (base : Option DenseCells) (cells : DenseCells) (fill : ℕ) (r : Result (Option (List ℕ)) E) → IsLaidBy form index staged base cells → cells.shape ≡ chunk_shape_of form
    → fill ≡ fill_of form → length cells.words ≡ cell_count cells.shape → IfOk r (λ o. o ≡ None ↔ EachIndex cells.words (λ k. slice_index cells.words k ≡ fill))
    → IfOk r (λ o. IfSome o (λ bytes. WritesChunk form index (shape_of form) bytes (word_at cells))) → IfOk r (λ bytes. IsLeft form index staged base bytes)
is_left form index staged base cells fill (Ok o) laid sizes is full absent written = record { cells = cells; laid = laid; written = bytes_of_cells form index cells fill o sizes is full absent written }
is_left form index staged base cells fill (Err e) laid sizes is full absent written = tt

pub is_left_as : (form : Form) (index : List ℕ) (staged : List (Option ℕ)) (base : Option DenseCells) (cells : DenseCells) (fill : ℕ) (o : Option (List ℕ)) → IsLaidBy form index staged base cells → cells.dtype ≡ dtype_of form → cells.shape ≡ chunk_shape_of form
    → fill ≡ fill_of form → length cells.words ≡ cell_count cells.shape → o ≡ None ↔ EachIndex cells.words (λ k. slice_index cells.words k ≡ fill) → IfSome o (λ bytes. WritesChunk form index (shape_of form) bytes (word_at cells)) → IsLeftAs form index staged base cells o
is_left_as form index staged base cells fill o laid dtype sizes is full absent written = record {
  dtype = dtype;
  shape = sizes;
  laid = laid;
  written = bytes_of_cells form index cells fill o sizes is full absent written;
}

-- a word once staged words are laid over others
pub over_word : (base laid : DenseCells) (staged : List (Option ℕ)) (at : List ℕ) → length staged ≡ cell_count base.shape → laid.shape ≡ base.shape
    → ((place : ℕ) → place < length staged → slice_index laid.words place ≡ unwrap_or (staged_at staged place) (slice_index base.words place)) → IsInside base.shape at
    → word_at laid at ≡ unwrap_or (staged_at staged (c_place base.shape at)) (word_at base at)
over_word base laid staged at size same each inside =
    ap (λ ns. slice_index laid.words (c_place ns at)) same ∙ each (c_place base.shape at) (subst (λ n. c_place base.shape at < n) (sym size) (c_place-lt base.shape at inside))
