-- A chunk that the store doesn't have: the fill in every cell, before a new shape and behind it.
use Rattle.std.proofs.Common.{◌≡◌, ℕ, zero, suc, ◌<◌, List, [], replicate, Bool, true, false, cond, Some, None, refl, sym, ap, subst, ◌∙◌, arith}
use Rattle.std.specs.Prelude.{slice_index}
use Rattle.cells.specs.Dense.{DenseCells}
use Rattle.cells.specs.Elements.{word_at}
use Rattle.cells.specs.Places.{IsInside, c_place, cell_count}
use Rattle.cells.proofs.Laws.{c_place-lt}
use Rattle.chunk_forms.specs.declared.form.Form.{Form}
use Rattle.chunk_forms.specs.Metadata.{shape_of, chunk_shape_of, dtype_of, fill_of}
use Rattle.cells.specs.Shapes.{is_inside}
use Rattle.history.specs.Chunks.{in_array}
use Rattle.chunk_plans.specs.Laid.{cut_word, word_within}
use Rattle.chunk_plans.specs.Left.{IsLeft}
use Rattle.chunk_plans.proofs.Laws.{IsLaidBy}

-- the cells of such a chunk
abbrev pub of_fill : Form → DenseCells
of_fill form = record { dtype = dtype_of form; shape = chunk_shape_of form; words = replicate (cell_count (chunk_shape_of form)) (fill_of form) }

each_word : (n word place : ℕ) → place < n → slice_index (replicate n word) place ≡ word
each_word zero word place below = absurd (omega (arith, below))
each_word (suc n) word zero below = refl
each_word (suc n) word (suc place) below = each_word n word place (omega (arith, below))

pub fill_at : (form : Form) (at : List ℕ) → IsInside (chunk_shape_of form) at → word_at (of_fill form) at ≡ fill_of form
fill_at form at inside = each_word (cell_count (chunk_shape_of form)) (fill_of form) (c_place (chunk_shape_of form) at) (c_place-lt (chunk_shape_of form) at inside)

-- what is laid is what is cut, with nothing staged
pub laid_cut : (form : Form) (index : List ℕ) (base cells : DenseCells) (shape : List ℕ) (fill : ℕ) → shape ≡ shape_of form → fill ≡ fill_of form → base.shape ≡ chunk_shape_of form
    → ((at : List ℕ) → IsInside base.shape at → word_at cells at ≡ cut_word shape index fill base at) → IsLaidBy form index [] (Some base) cells
laid_cut form index base cells shape fill s f sizes cut = λ at inside.
    cut at (subst (λ ns. IsInside ns at) (sym sizes) inside)
    ∙ ap (λ t. word_within t base.shape index fill at (word_at base at)) s ∙ ap (λ ns. word_within (shape_of form) ns index fill at (word_at base at)) sizes
    ∙ ap (λ w. word_within (shape_of form) (chunk_shape_of form) index w at (word_at base at)) f

same_within : (within : Bool) (word fill : ℕ) → word ≡ fill → word ≡ cond within word fill
same_within true word fill same = refl
same_within false word fill same = same

-- cut to any shape it is as it was, so nothing is left of it
pub left_fill : (form : Form) (index : List ℕ) → IsLeft form index [] (Some (of_fill form)) None
left_fill form index = record {
  cells = of_fill form;
  laid = laid_cut form index (of_fill form) (of_fill form) (shape_of form) (fill_of form) refl refl refl
      (λ at inside. same_within (is_inside (shape_of form) (in_array (chunk_shape_of form) index at)) (word_at (of_fill form) at) (fill_of form) (fill_at form at inside));
  written = fill_at form;
}
