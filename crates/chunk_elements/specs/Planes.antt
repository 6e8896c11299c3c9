-- Rows of bytes over which elements are moved.
use Rattle.std.specs.Prelude.{ℕ, ◌+◌, ◌*◌, Bool, List, ◌++◌, take, drop}
use Rattle.std.specs.List.{flat_map, range_with_len}
use Rattle.cells.specs.Bytes.{byte_count}
use Rattle.cells.specs.declared.dtype.Dtype.{Dtype}
use Rattle.chunk_elements.specs.Rows.{moved_row}

-- a row over which so many elements were moved, behind the first `done`: the first of them begins at the byte `from`, and each further one
-- `stride` bytes behind the one before it
abbrev pub over_row : Dtype → Bool → Bool → ℕ → ℕ → ℕ → ℕ → List ℕ → List ℕ → List ℕ
over_row dtype big to done count stride from elements row =
    take (done * byte_count dtype) row ++ moved_row dtype big to count stride from elements ++ drop ((done + count) * byte_count dtype) row

-- a row of so many bytes
abbrev pub nth_row : ℕ → List ℕ → ℕ → List ℕ
nth_row width bytes i = take width (drop (i * width) bytes)

-- so many rows, each moved over like this: the elements of each row begin `step` bytes behind those of the row before it
abbrev pub over_rows : Dtype → Bool → Bool → ℕ → ℕ → ℕ → ℕ → ℕ → ℕ → ℕ → List ℕ → List ℕ → List ℕ
over_rows dtype big to rows width done count step stride from elements bytes =
    flat_map (λ i. over_row dtype big to done count stride (from + i * step) elements (nth_row width bytes i)) (range_with_len 0 rows)
    ++ drop (rows * width) bytes
