use Rattle.stated_arrays.proofs.TableLaws.{no_arrays}
use Rattle.stated_arrays.proofs.arrays.StatedArrays.none.Goals as goal

pub returns-clause-arrays : goal.returns-clause-arrays
returns-clause-arrays c = no_arrays _ c.new.ensures.items c.new-2.ensures.items c.new-3.ensures
