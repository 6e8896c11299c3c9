-- The numbers of the leaves of a view's cells.
use Rattle.std.specs.Prelude.{ℕ, List, replicate}
use Rattle.transaction_cells.specs.declared.cell_leaves.Held.{Held}
use Rattle.transaction_cells.specs.declared.cell_leaves.Held.TheVariants.{Each, First}

-- the numbers, in C order
abbrev pub leaves_held : Held → List ℕ
leaves_held (Each leaves) = leaves
leaves_held (First count) = replicate count 0
