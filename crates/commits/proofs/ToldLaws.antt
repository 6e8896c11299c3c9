-- What a commit tells of the events and the store.
use Rattle.std.proofs.Common.{ℕ, List, Result, Ok, Err, inl, inr, refl}
use Rattle.history.specs.declared.event.Event.{Event}
use Rattle.chunk_plans.specs.Log.{Log}
use Rattle.chunk_plans.specs.Seen.{StoreSeen}
use Rattle.commits.specs.Answers.{MayAdd, IsTold}
use Rattle.commits.specs.Made.{IsMade, whole_event}
use Rattle.commits.specs.Ways.{IsWay}
use Rattle.commits.specs.declared.prepared.Prepared.{Prepared}
use Rattle.commits.specs.declared.refused.CommitRefused.{CommitRefused}
use Rattle.commits.specs.declared.refused.CommitRefused.TheVariants as refused

module _ (owner : ℕ) (store next : StoreSeen) (log later : Log) (p : Prepared) where
  -- of a commit that was made
  pub told_of_made : (step : ℕ) (all : List Event) (result : Result (List ℕ) CommitRefused) → MayAdd store.prefixes log owner p all → IsMade owner store next log later step p.writes.items all result → IsTold owner store next log later p result
  told_of_made step all (Ok numbers) is made = (all, is, made.added, made.counted)
  told_of_made step all (Err (refused.Conflict key read now)) is made = absurd made
  told_of_made step all (Err (refused.Shrunk key now)) is made = absurd made
  told_of_made step all (Err (refused.NotAtomic keys)) is made = absurd made
  told_of_made step all (Err (refused.Damaged key cause)) is made = ((all, is), made.0, (step, made.1))
  told_of_made step all (Err (refused.StoreFailed event done)) is made = (all, is, made.count, made.fewer, made.counted, made.failed)
  told_of_made step all (Err refused.Memory) is made = inr (all, is, made.count, made.fewer, made.added)

-- of one that was refused before
pub told_of_way : (owner : ℕ) (store : StoreSeen) (log : Log) (p : Prepared) (error : CommitRefused) → IsWay store.prefixes log p (Err error) → IsTold owner store store log log p (Err error)
told_of_way owner store log p (refused.Conflict key read now) way = (refl, refl, way)
told_of_way owner store log p (refused.Shrunk key now) way = (refl, refl, way)
told_of_way owner store log p (refused.NotAtomic keys) way = (refl, refl, way)
told_of_way owner store log p (refused.Damaged key cause) way = absurd way
told_of_way owner store log p (refused.StoreFailed event done) way = absurd way
told_of_way owner store log p refused.Memory way = inl refl
