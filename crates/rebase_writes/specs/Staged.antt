-- Cells that are staged over a chunk: at each place a word, or none.
use Rattle.std.specs.Prelude.{◌≡◌, ℕ, Bool, true, if◌then◌else◌, List, [], ◌∷◌, Option, Some, None, IsSome, slice_get, slice_index_or}
use Rattle.std.specs.Prelude.{All, unwrap_or}
use Rattle.std.specs.Option.{ForSome}
use Rattle.cells.specs.Numbers.{IsWord}
use Rattle.cells.specs.declared.dtype.Dtype.{Dtype}

-- what a mask and words keep: a word counts where the mask is set
abbrev pub staged_cells : List Bool → List ℕ → List (Option ℕ)
staged_cells [] words = []
staged_cells (covered ∷ mask) [] = []
staged_cells (covered ∷ mask) (word ∷ words) = (if covered then Some word else None) ∷ staged_cells mask words

-- the word that is staged at a place, if there is one
abbrev pub staged_at : List (Option ℕ) → ℕ → Option ℕ
staged_at cells place = slice_index_or cells place None

-- each staged word is one of the dtype
abbrev pub AreWords : Dtype → List (Option ℕ) → Type 0
AreWords dtype cells = All (λ cell. ForSome cell (IsWord dtype)) cells

-- each place that lies inside has a staged word
abbrev pub CoverAll : List (Option ℕ) → List Bool → Type 0
CoverAll cells inside = (place : ℕ) → slice_get inside place ≡ Some true → IsSome (staged_at cells place)

-- cell by cell the staged word, or the base's where none is staged
abbrev pub laid_over : List (Option ℕ) → List ℕ → List ℕ
laid_over [] base = []
laid_over (cell ∷ cells) [] = []
laid_over (cell ∷ cells) (word ∷ base) = unwrap_or cell word ∷ laid_over cells base
