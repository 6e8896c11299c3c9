use Rattle.std.proofs.Common.{rules}
use Rattle.std.specs.Ordering.{nat_cmp, is_lt}
use Rattle.std.proofs.lemmas.Cmp.{nat_cmp_total}
use Rattle.std.proofs.lemmas.List.Sorted.{ranks_by, answers_always}
use Rattle.open_fits.specs.Asking.{moment_of_question}
use Rattle.open_fits.proofs.asking.sort_questions.Goals as goal

pub returns-clause-sorted : goal.returns-clause-sorted
returns-clause-sorted c =
    c.sort_unstable_by.ensures.sorted (λ x y. is_lt (nat_cmp (moment_of_question x) (moment_of_question y))) (ranks_by nat_cmp_total moment_of_question) (answers_always _ _ _ (λ f a r g called. search rules))
