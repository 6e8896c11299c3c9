use Rattle.std.proofs.Common.{◌≡◌, length}
use Rattle.case_lines.proofs.locals.dense.Given as goal

abbrev pub invariant-loop-place : goal.invariant-loop-place
invariant-loop-place l = record {
  dtype : l.dense.dtype ≡ l.dtype;
  shape : l.dense.shape ≡ l.initial.dense.shape;
  count : length l.dense.words ≡ length l.initial.dense.words;
}
