use Rattle.std.proofs.Common.{rules}
use Rattle.std.specs.Cmp.Lexicographic.{slice_cmp}
use Rattle.std.specs.Ordering.{nat_cmp, is_lt}
use Rattle.std.proofs.lemmas.Cmp.{nat_list_cmp_total}
use Rattle.std.proofs.lemmas.List.Sorted.{ranks_by, answers_always}
use Rattle.chunk_plans.specs.Sorting.{key_of_write}
use Rattle.chunk_plans.proofs.sorting.sort_writes.Goals as goal

pub returns-clause-sorted : goal.returns-clause-sorted
returns-clause-sorted c =
    c.sort_unstable_by.ensures.sorted (λ x y. is_lt (slice_cmp nat_cmp (key_of_write x) (key_of_write y))) (ranks_by nat_list_cmp_total key_of_write) (answers_always _ _ _ (λ f a r g called. search rules))
