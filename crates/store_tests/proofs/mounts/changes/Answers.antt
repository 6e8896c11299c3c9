use Rattle.store_tests.proofs.Mounted.{one_distinct}
use Rattle.store_tests.proofs.mounts.changes.Goals as goal

pub apply-requires-clause-distinct : goal.apply-requires-clause-distinct
apply-requires-clause-distinct g c = one_distinct c.from_ref.result.now _ c.from_ref.ensures.value
