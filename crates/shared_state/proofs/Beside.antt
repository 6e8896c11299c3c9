-- What stays beside an opening.
use Rattle.std.proofs.Common.{◌≡◌, ℕ, List, Option, Some, None, inl, inr, refl, sym, subst, ◌∙◌}
use Rattle.std.specs.Prelude.{Result, Ok, Err, OnOk, OnErr, IsSome, IfOk}
use Rattle.state_laws.specs.declared.ArrayInfo.{ArrayInfo}
use Rattle.state_laws.specs.Seen.{StoreSeen, IsQuiet, IsRead}
use Rattle.state_laws.specs.declared.opening.Opened.{Opened}
use Rattle.state_laws.specs.declared.opening.OpenError.{OpenError}
use Rattle.state_laws.specs.declared.opening.OpenError.TheVariants as error
use Rattle.state_laws.specs.Fetches.{HasFailed}
use Rattle.state_laws.specs.Log.{Log}
use Rattle.state_laws.specs.Openings.{IsBeside, IsStoreError}
use Rattle.state_laws.specs.Placed.{entered}
use Rattle.state_laws.proofs.Laws.{frame_same, frame_then}

pub beside_same : (log : Log) → IsBeside log log
beside_same log = record { generations = refl; cache = refl; locals = inl refl }

pub beside_is : (log later : Log) → later ≡ log → IsBeside log later
beside_is log later is = subst (IsBeside log) (sym is) (beside_same log)

pub beside_entered : (log later : Log) (owner : ℕ) (info : ArrayInfo) → later ≡ entered log owner info None → IsBeside log later
beside_entered log later owner info is = subst (IsBeside log) (sym is) (record { generations = refl; cache = refl; locals = inr refl })

pub beside_failed : (owner : ℕ) (mount : List ℕ) (store next : StoreSeen) (log later : Log) (event : ℕ) → HasFailed owner mount store next log later event → IsBeside log later
beside_failed owner mount store next log later event failed = subst (IsBeside log) (sym failed.added) (record { generations = refl; cache = refl; locals = inl refl })

-- an array that was found, or no memory
pub beside_found : (r : Result Opened OpenError) (log later : Log) (owner : ℕ) (info : ArrayInfo) → OnOk r (later ≡ entered log owner info None) → OnErr r ((r ≡ Err error.Memory) × (later ≡ log)) → IsBeside log later
beside_found (Ok o) log later owner info ok err = beside_entered log later owner info ok
beside_found (Err e) log later owner info ok err = beside_is log later err.1

-- an array that was made, a store that failed, or no memory
pub beside_made : (r : Result Opened OpenError) (store next : StoreSeen) (log later : Log) (owner : ℕ) (mount : List ℕ) (info : ArrayInfo) → OnOk r (later ≡ entered log owner info None)
    → ((event : ℕ) → r ≡ Err (error.StoreFailed event) → HasFailed owner mount store next log later event) → (r ≡ Err error.Memory → later ≡ log) → OnErr r (IsStoreError r) → IsBeside log later
beside_made (Ok o) store next log later owner mount info ok failed memory errors = beside_entered log later owner info ok
beside_made (Err (error.StoreFailed event)) store next log later owner mount info ok failed memory errors = beside_failed owner mount store next log later event (failed event refl)
beside_made (Err error.Memory) store next log later owner mount info ok failed memory errors = beside_is log later (memory refl)
beside_made (Err (error.PathTaken path at)) store next log later owner mount info ok failed memory errors = absurd errors
beside_made (Err (error.BadMeta key cause)) store next log later owner mount info ok failed memory errors = absurd errors
beside_made (Err (error.Exists at)) store next log later owner mount info ok failed memory errors = absurd errors
beside_made (Err (error.Mismatch member at)) store next log later owner mount info ok failed memory errors = absurd errors
beside_made (Err (error.NotFound at)) store next log later owner mount info ok failed memory errors = absurd errors
beside_made (Err (error.BadWant member)) store next log later owner mount info ok failed memory errors = absurd errors

-- an answer with a new array names its event
pub has_event : (r : Result Opened OpenError) (a : Opened → Type 0) (n : ℕ) → IfOk r (λ o. a o × (o.event ≡ Some n)) → IfOk r (λ o. IsSome o.event)
has_event (Ok o) a n is = subst IsSome (sym is.1) refl
has_event (Err e) a n is = tt

-- so it is none of an array that was there
pub never_there : (X : Type 0) (r : Result Opened OpenError) → IfOk r (λ o. IsSome o.event) → IfOk r (λ o. o.event ≡ None → X)
never_there X (Ok o) is = λ none. no_event (o.event) none is
  where
    no_event : (e : Option ℕ) → e ≡ None → IsSome e → X
    no_event None none some = absurd (cc)
    no_event (Some n) none some = absurd (cc)
never_there X (Err e) is = tt

pub quiet_same : (store : StoreSeen) → IsQuiet store store
quiet_same store = record { frame = frame_same store; contents = refl; changes = refl }

-- a call that read, and then one that changed nothing
pub quiet_then : (old middle new : StoreSeen) → IsRead old middle → IsQuiet middle new → IsQuiet old new
quiet_then old middle new first then = record {
  frame = frame_then old middle new first.frame then.frame;
  contents = then.contents ∙ first.contents;
  changes = then.changes ∙ first.changes;
}
