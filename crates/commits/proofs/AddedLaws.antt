-- The events that a commit adds are its owner's own.
use Rattle.std.proofs.Common.{◌≡◌, ◌∙◌, inl, inr, ℕ, zero, suc, List, [], ◌∷◌, ◌++◌, take, filter, Result, Ok, Err, refl, sym, ap, subst, append_assoc, append-nil}
use Rattle.std.specs.List.{AllByRecursion}
use Rattle.history.specs.Commit.{Key, Transaction, done_each, is_write}
use Rattle.history.specs.History.{History}
use Rattle.history.specs.Own.{fault}
use Rattle.history.specs.Sessions.{new_transaction}
use Rattle.history.specs.declared.event.Event.{Event}
use Rattle.history.specs.declared.event.Op.{Op}
use Rattle.chunk_plans.specs.Log.{Log}
use Rattle.chunk_plans.specs.Seen.{StoreSeen}
use Rattle.commits.specs.Answers.{IsTold, MayAdd, all_of}
use Rattle.commits.specs.Prepared.{write_keys}
use Rattle.commits.specs.declared.prepared.Prepared.{Prepared}
use Rattle.commits.specs.declared.refused.CommitRefused.{CommitRefused}
use Rattle.commits.specs.declared.refused.CommitRefused.TheVariants as refused
use Rattle.commits.specs.declared.way.Way.{Way}
use Rattle.commits.specs.declared.way.Way.TheVariants.{Whole, ByKeys}

all_with : {A : Type 0} (P : A → Type 0) (xs ys : List A) → AllByRecursion P xs → AllByRecursion P ys → AllByRecursion P (xs ++ ys)
all_with P [] ys all rest = rest
all_with P (x ∷ xs) ys all rest = (all.0, all_with P xs ys all.1 rest)

module _ (owner : ℕ) where
  -- the event is the owner's
  abbrev pub IsOwn : Event → Type 0
  IsOwn e = e.owner ≡ owner

  each_own : (t : Transaction) (ops : List Op) (keys : List Key) → AllByRecursion IsOwn (done_each owner t ops keys)
  each_own t ops [] = tt
  each_own t ops (key ∷ keys) = (refl, each_own t (filter is_write ops) keys)

  way_own : (p : Prepared) (way : Way) → AllByRecursion IsOwn (all_of owner p way)
  way_own p Whole = (refl, tt)
  way_own p ByKeys = each_own (new_transaction p.line p.mode) p.ops (write_keys p.writes.items)

  take_own : (n : ℕ) (es : List Event) → AllByRecursion IsOwn es → AllByRecursion IsOwn (take n es)
  take_own zero es own = tt
  take_own (suc n) [] own = tt
  take_own (suc n) (e ∷ es) own = (own.0, take_own n es own.1)

  may_own : (prefixes : List (List ℕ)) (log : Log) (p : Prepared) (all : List Event) → MayAdd prefixes log owner p all → AllByRecursion IsOwn all
  may_own prefixes log p all may = subst (AllByRecursion IsOwn) (sym may.2) (way_own p may.0)

  -- events of the owner were added, and no other
  pub record HasAdded (old new : History) : Type 0 where
    pub own : List Event
    pub added : new ≡ old ++ own
    pub are_own : AllByRecursion IsOwn own

  same_added : (old new : History) → new ≡ old → HasAdded old new
  same_added old new same = record { own = []; added = same ∙ sym (append-nil old); are_own = tt }

  -- whatever a commit answers, it adds events of its owner alone
  pub told_added : (store next : StoreSeen) (log later : Log) (p : Prepared) (result : Result (List ℕ) CommitRefused) → IsTold owner store next log later p result → HasAdded log.events later.events
  told_added store next log later p (Ok numbers) told = record { own = told.0; added = told.2; are_own = may_own store.prefixes log p told.0 told.1 }
  told_added store next log later p (Err (refused.Conflict key read now)) told = same_added log.events later.events (ap (λ (l : Log). l.events) told.1)
  told_added store next log later p (Err (refused.Shrunk key now)) told = same_added log.events later.events (ap (λ (l : Log). l.events) told.1)
  told_added store next log later p (Err (refused.NotAtomic keys)) told = same_added log.events later.events (ap (λ (l : Log). l.events) told.1)
  told_added store next log later p (Err (refused.Damaged key cause)) told = same_added log.events later.events told.1
  told_added store next log later p (Err (refused.StoreFailed event done)) told =
      let some = take told.2 told.0 in
      record {
        own = some ++ fault owner told.5.mount ∷ [];
        added = told.5.added ∙ append_assoc log.events some (fault owner told.5.mount ∷ []);
        are_own = all_with IsOwn some (fault owner told.5.mount ∷ []) (take_own told.2 told.0 (may_own store.prefixes log p told.0 told.1)) (refl, tt);
      }
  told_added store next log later p (Err refused.Memory) (inl same) = same_added log.events later.events same
  told_added store next log later p (Err refused.Memory) (inr made) = record { own = take made.2 made.0; added = made.4; are_own = take_own made.2 made.0 (may_own store.prefixes log p made.0 made.1) }
