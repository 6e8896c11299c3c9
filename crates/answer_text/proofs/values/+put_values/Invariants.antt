use Rattle.std.proofs.Common.{◌≡◌, ◌-◌, ◌≤◌, ◌++◌, length}
use Rattle.std.specs.Prelude.{nat_lt}
use Rattle.cells.specs.Places.{cell_count}
use Rattle.answer_text.specs.Nested.{rows, values_text}
use Rattle.answer_text.specs.Pieces.{items_text, list_text}
use Rattle.answer_text.proofs.values.+put_values.Given as goal

abbrev pub decreases-put_values : goal.decreases-put_values
decreases-put_values l = length l.shape.now

abbrev pub invariant-loop-done : goal.invariant-loop-done
invariant-loop-done l = record {
  less : length l.rest ≤ length l.words;
  so_far : l.fn.out.items ++ list_text (values_text l.dtype l.shape) (rows l.count (cell_count l.shape) l.words)
      ≡ l.out.items ++ items_text (values_text l.dtype l.shape) (nat_lt 0 l.done) (rows (l.count - l.done) (cell_count l.shape) l.rest);
}
