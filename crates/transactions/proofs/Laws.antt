-- Laws that crates above rest on.

-- what holds of a transaction beside some events holds as others' events follow
pub use Rattle.transactions.proofs.TxnLaws.{txn_later}
-- what it has recorded is recorded: when it is begun, behind a write, behind a read, and as others' events follow
pub use Rattle.transactions.proofs.RecordLaws.{recorded_begun, recorded_written, recorded_read, recorded_later}
-- behind a turn a pass rests, and has seen events that may have happened
pub use Rattle.chunk_fetches.proofs.Laws.{has_turned, past_of}
-- by no operations nothing is staged
pub use Rattle.chunk_fetches.proofs.Laws.{none_staged}
-- whatever the store tells, a commit's answer has its cause
pub use Rattle.transactions.proofs.CauseLaws.{commit_caused}
-- what a commit may add is no failed call
pub use Rattle.commits.proofs.Laws.{IsCalm, may_calm}
