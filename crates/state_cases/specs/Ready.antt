-- A state on which calls may be made.
use Rattle.std.specs.Prelude.{◌≡◌, None}
use Rattle.state_laws.specs.Seen.{StoreSeen}
use Rattle.state_laws.specs.Log.{Log}
use Rattle.state_laws.specs.Agreement.{Opening, Agrees}

-- it agrees with an opening, and its store takes every key
pub record IsReady (store : StoreSeen) (log : Log) : Type 0 where
  pub opening : Opening
  pub agrees : Agrees opening store log
  pub every : opening.store.names ≡ None
