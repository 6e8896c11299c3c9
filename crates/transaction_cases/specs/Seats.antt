-- A session between its calls.
use Rattle.std.specs.Prelude.{◌≡◌, ℕ, List, [], Option, Some, None, codes}
use Rattle.std.specs.List.{AllByRecursion}
use Rattle.history.specs.History.{History}
use Rattle.history.specs.Refs.{IsKnownRef}
use Rattle.history.specs.declared.event.Event.{Event}
use Rattle.session_runs.specs.Turns.{IsRested}
use Rattle.stack_driver.specs.References.{Reference}
use Rattle.state_laws.specs.Agreement.{Opening, TakesMount}
use Rattle.session_runs.specs.Conditions.{IsTxnIn}
use Rattle.session_runs.specs.Recording.{IsRecorded}
use Rattle.session_runs.specs.Txn.{TxnSeen, transaction_of}
use Rattle.turn_book.specs.Passes.{BookView, PassView}

-- where a transaction stands, what is staged and kept is right beside these events, and what its commit asks for is recorded
abbrev pub HasSound : Opening → History → Option TxnSeen → Type 0
HasSound opening events None = Unit {0}
HasSound opening events (Some t) = IsTxnIn opening events t × IsRecorded opening events (transaction_of t)

-- the pass rests, the arrays that the session has opened are known, and the transaction that stands is sound
pub record IsSeat (book : BookView Opening) (pass : PassView Event Opening) (arrays : List Reference) (t : Option TxnSeen) : Type 0 where
  pub rested : IsRested book pass
  pub known : AllByRecursion (IsKnownRef pass.seen) arrays
  pub sound : HasSound book.fixed pass.seen t

-- so it is behind a call, and the pass has the same number
pub record IsSeatThen (book : BookView Opening) (old new : PassView Event Opening) (arrays : List Reference) (t : Option TxnSeen) : Type 0 where
  pub seat : IsSeat book new arrays t
  pub number : new.number ≡ old.number

-- the store takes every key below the two mounts of a line
abbrev pub TakesBoth : Option (List (List ℕ)) → Type 0
TakesBoth names = TakesMount names (codes "a") × TakesMount names (codes "b")
