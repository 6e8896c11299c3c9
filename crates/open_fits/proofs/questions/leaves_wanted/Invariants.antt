use Rattle.std.proofs.Common.{◌≡◌, ◌++◌, map}
use Rattle.read_fits.specs.Asked.{wanted_leaf}
use Rattle.read_fits.specs.Lines.{bare}
use Rattle.open_fits.proofs.questions.leaves_wanted.Given as goal

abbrev pub invariant-loop-leaf : goal.invariant-loop-leaf
invariant-loop-leaf l = map wanted_leaf l.wanted.items ++ bare l.leaf-iterator.rest.items ≡ bare l.fn.leaves.items
