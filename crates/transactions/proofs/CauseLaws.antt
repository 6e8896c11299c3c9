-- A commit's answer over any store.
use Rattle.std.proofs.Common.{ℕ, List, ◌++◌, Result, sym, subst}
use Rattle.std.specs.FinMap as finmap
use Rattle.commits.specs.Caused.{IsCommitCaused}
use Rattle.commits.specs.declared.refused.CommitRefused.{CommitRefused}
use Rattle.commits.proofs.Laws.{caused}
use Rattle.history.specs.Commit.{Fixed, Transaction}
use Rattle.history.specs.History.{History}
use Rattle.history.specs.declared.event.Event.{Event}
use Rattle.chunk_fetches.specs.Agreement.{Opening}
use Rattle.transactions.specs.Committing.{IsCommittedIn, IsPreparedOf}

-- it has its cause
pub commit_caused : (opening : Opening) (owner : ℕ) (t : Transaction) (before : History) (own : List Event) (result : Result (List ℕ) CommitRefused) → IsCommittedIn opening owner t before own result
    → IsCommitCaused (record { start = finmap.empty; prefixes = opening.store.prefixes }) owner before (before ++ own) t result
commit_caused opening owner t before own result c =
    let fixed : Fixed = record { start = finmap.empty; prefixes = opening.store.prefixes } in
    let made : IsPreparedOf c.log.events t c.prepared = subst (λ h. IsPreparedOf h t c.prepared) (sym c.at) c.of in
    subst (λ h. IsCommitCaused fixed owner h (before ++ own) t result) c.at
    (subst (λ h. IsCommitCaused fixed owner c.log.events h t result) c.added
    (caused opening c.store c.log owner t c.prepared c.agrees made.line made.mode made.ops made.reads made.writes made.marks made.was_read c.next c.later result c.told))
