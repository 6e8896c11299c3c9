-- What crates above rest on. Each law with what it says; where it stands, it has its premises.

-- whatever a commit answers, it adds events of its owner alone
pub use Rattle.commits.proofs.AddedLaws.{IsOwn, HasAdded, told_added}
-- and what it may add is no failed call
pub use Rattle.commits.proofs.CalmLaws.{IsCalm, may_calm}
-- whatever the store tells, a commit's answer has its cause
pub use Rattle.commits.proofs.CauseLaws.{caused}
-- laws of crates below, given on to those above
pub use Rattle.chunk_plans.proofs.Laws.{may_ready, ready_right, rising_sorted}
