-- Numbers of one dtype in a shape, as contracts see them.
use Rattle.std.specs.Prelude.{◌≡◌, ℕ, ◌≤◌, ◌^◌, List, length, All}
use Rattle.cells.specs.Numbers.{IsWord}
use Rattle.cells.specs.Places.{cell_count}
use Rattle.cells.specs.declared.dtype.Dtype.{Dtype}

-- the words of a shape's cells, in C order
pub record DenseCells : Type 0 where
  pub dtype : Dtype
  pub shape : List ℕ
  pub words : List ℕ

-- a rank of at most 32, at most 2 ^ 24 cells, and a word of the dtype for each
pub record IsDense (cells : DenseCells) : Type 0 where
  pub rank : length cells.shape ≤ 32
  pub small : cell_count cells.shape ≤ 2 ^ 24
  pub full : length cells.words ≡ cell_count cells.shape
  pub of_dtype : All (IsWord cells.dtype) cells.words
