use Rattle.std.proofs.Common.{take}
use Rattle.std.specs.List.{AllByRecursion}
use Rattle.transform_json.specs.Written.{HasFewLists}
use Rattle.transform_json.proofs.write.have_few_lists.Given as goal

-- the first maps take few lists
abbrev pub invariant-loop-one : goal.invariant-loop-one
invariant-loop-one l = AllByRecursion HasFewLists (take l.one-index l.maps)
