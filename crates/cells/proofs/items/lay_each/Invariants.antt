use Rattle.cells.specs.Items.{words_in}
use Rattle.cells.proofs.ItemLaws.{IsWhereUpTo}
use Rattle.cells.proofs.items.lay_each.Given as goal

abbrev pub invariant-loop-place : goal.invariant-loop-place
invariant-loop-place l = IsWhereUpTo l.mask l.staged (words_in l.dtype l.cells l.initial.bytes) (words_in l.dtype l.cells l.bytes) l.place
