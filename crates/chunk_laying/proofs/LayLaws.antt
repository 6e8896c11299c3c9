-- The words of a chunk that was laid or cut, cell by cell.
use Rattle.std.proofs.Common.{◌≡◌, ℕ, ◌<◌, List, length, slice_index, cond, Option, Some, None, Result, Ok, Err, refl, sym, ap, subst, ◌∙◌}
use Rattle.std.specs.Prelude.{unwrap_or, IfOk}
use Rattle.cells.specs.Dense.{DenseCells}
use Rattle.cells.specs.Elements.{word_at}
use Rattle.cells.specs.Places.{cell_count, IsInside, c_place}
use Rattle.cells.proofs.Laws.{c_place-lt}
use Rattle.rebase_writes.specs.Staged.{staged_at}
use Rattle.chunk_laying.specs.Laid.{word_within, cut_word, word_under}
use Rattle.chunk_laying.specs.Rows.{is_place_inside}
use Rattle.chunk_laying.proofs.RowLaws.{inside-place}

-- what is said of places is said of index vectors
pub word-within : (ns ss cs : List ℕ) (fill : ℕ) (before after : DenseCells) → length ss ≡ length ns → length cs ≡ length ns → before.shape ≡ ns → after.shape ≡ before.shape
    → ((p : ℕ) → p < cell_count ns → slice_index after.words p ≡ cond (is_place_inside ns ss cs p) (slice_index before.words p) fill)
    → (index : List ℕ) → IsInside ns index → word_at after index ≡ word_within ss ns cs fill index (word_at before index)
word-within ns ss cs fill before after e f shape same words index inside =
    let place = c_place ns index in
    ap (λ sizes. slice_index after.words (c_place sizes index)) (same ∙ shape)
    ∙ words place (c_place-lt ns index inside)
    ∙ ap (λ b. cond b (slice_index before.words place) fill) (sym (inside-place ns ss cs index e f inside))
    ∙ ap (λ sizes. word_within ss ns cs fill index (slice_index before.words (c_place sizes index))) (sym shape)

-- words over a base, or over the fill
pub over-base : (ns : List ℕ) (staged : List (Option ℕ)) (fill : ℕ) (base laid : DenseCells) → base.shape ≡ ns → laid.shape ≡ ns
    → ((p : ℕ) → p < cell_count ns → slice_index laid.words p ≡ unwrap_or (staged_at staged p) (slice_index base.words p))
    → (index : List ℕ) → IsInside ns index → word_at laid index ≡ unwrap_or (staged_at staged (c_place ns index)) (word_under (Some base) fill index)
over-base ns staged fill base laid shape same words index inside =
    ap (λ sizes. slice_index laid.words (c_place sizes index)) same ∙ words (c_place ns index) (c_place-lt ns index inside)
    ∙ ap (λ sizes. unwrap_or (staged_at staged (c_place ns index)) (slice_index base.words (c_place sizes index))) (sym shape)

pub over-fill : (ns : List ℕ) (staged : List (Option ℕ)) (fill : ℕ) (laid : DenseCells) → laid.shape ≡ ns
    → ((p : ℕ) → p < cell_count ns → slice_index laid.words p ≡ unwrap_or (staged_at staged p) fill)
    → (index : List ℕ) → IsInside ns index → word_at laid index ≡ unwrap_or (staged_at staged (c_place ns index)) (word_under None fill index)
over-fill ns staged fill laid same words index inside = ap (λ sizes. slice_index laid.words (c_place sizes index)) same ∙ words (c_place ns index) (c_place-lt ns index inside)

-- a copy of a base, with the fill past the shape
pub cut-words : (sizes ss cs : List ℕ) (fill : ℕ) (base cells after : DenseCells) → length ss ≡ length base.shape → length cs ≡ length base.shape → sizes ≡ base.shape → cells ≡ base → after.shape ≡ cells.shape
    → ((p : ℕ) → p < cell_count sizes → slice_index after.words p ≡ cond (is_place_inside sizes ss cs p) (slice_index cells.words p) fill)
    → (index : List ℕ) → IsInside base.shape index → word_at after index ≡ cut_word ss cs fill base index
cut-words sizes ss cs fill base cells after e f sizes_are cells_are same words =
    let of_sizes = subst (λ ns. (p : ℕ) → p < cell_count ns → slice_index after.words p ≡ cond (is_place_inside ns ss cs p) (slice_index cells.words p) fill) sizes_are words in
    let of_base = subst (λ (d : DenseCells). (p : ℕ) → p < cell_count base.shape → slice_index after.words p ≡ cond (is_place_inside base.shape ss cs p) (slice_index d.words p) fill) cells_are of_sizes in
    word-within base.shape ss cs fill base after e f refl (same ∙ ap (λ (d : DenseCells). d.shape) cells_are) of_base

pub over-base-ok : {E : Type 0} (r : Result DenseCells E) (ns : List ℕ) (staged : List (Option ℕ)) (fill : ℕ) (base : DenseCells) → base.shape ≡ ns → IfOk r (λ d. d.shape ≡ ns)
    → IfOk r (λ d. (p : ℕ) → p < cell_count ns → slice_index d.words p ≡ unwrap_or (staged_at staged p) (slice_index base.words p))
    → IfOk r (λ d. (index : List ℕ) → IsInside ns index → word_at d index ≡ unwrap_or (staged_at staged (c_place ns index)) (word_under (Some base) fill index))
over-base-ok (Ok laid) ns staged fill base shape same words = over-base ns staged fill base laid shape same words
over-base-ok (Err e) ns staged fill base shape same words = tt

pub over-fill-ok : {E : Type 0} (r : Result DenseCells E) (ns : List ℕ) (staged : List (Option ℕ)) (fill : ℕ) → IfOk r (λ d. d.shape ≡ ns)
    → IfOk r (λ d. (p : ℕ) → p < cell_count ns → slice_index d.words p ≡ unwrap_or (staged_at staged p) fill)
    → IfOk r (λ d. (index : List ℕ) → IsInside ns index → word_at d index ≡ unwrap_or (staged_at staged (c_place ns index)) (word_under None fill index))
over-fill-ok (Ok laid) ns staged fill same words = over-fill ns staged fill laid same words
over-fill-ok (Err e) ns staged fill same words = tt
