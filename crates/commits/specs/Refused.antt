-- Errors of the calls below as refusals of a commit.
use Rattle.std.specs.Prelude.{◌≡◌, ℕ, List, [], Result, Err}
use Rattle.chunk_plans.specs.declared.ChangeError.{ChangeError}
use Rattle.chunk_plans.specs.declared.ChangeError.TheVariants as change
use Rattle.chunk_plans.specs.declared.FetchError.{FetchError}
use Rattle.chunk_plans.specs.declared.FetchError.TheVariants as fetch
use Rattle.commits.specs.declared.refused.CommitRefused.{CommitRefused}
use Rattle.commits.specs.declared.refused.CommitRefused.TheVariants as refused

-- a chunk can't be planned, before anything is done
abbrev pub unplanned : FetchError → CommitRefused
unplanned (fetch.StoreFailed event) = refused.StoreFailed event []
unplanned (fetch.Damaged key cause) = refused.Damaged key cause
unplanned fetch.Memory = refused.Memory

-- a change isn't made, once the events of these numbers were done
abbrev pub unmade : List ℕ → ChangeError → CommitRefused
unmade done (change.StoreFailed event) = refused.StoreFailed event done
unmade done change.Memory = refused.Memory

-- the store failed, which one event tells
abbrev pub HasStoreFailed : Result (List ℕ) CommitRefused → Type 0
HasStoreFailed result = (event : ℕ) × (done : List ℕ) × (result ≡ Err (refused.StoreFailed event done))
