-- The events that a commit may add are no failed calls.
use Rattle.std.proofs.Common.{◌≡◌, ℕ, List, [], ◌∷◌, false, filter, refl, sym, subst}
use Rattle.std.specs.List.{AllByRecursion}
use Rattle.history.specs.Commit.{Key, Transaction, done_each, is_write}
use Rattle.history.specs.Sessions.{new_transaction}
use Rattle.history.specs.declared.event.Event.{Event}
use Rattle.history.specs.declared.event.Op.{Op}
use Rattle.chunk_plans.specs.Agreement.{is_fault}
use Rattle.chunk_plans.specs.Log.{Log}
use Rattle.commits.specs.Answers.{MayAdd, all_of}
use Rattle.commits.specs.Prepared.{write_keys}
use Rattle.commits.specs.declared.prepared.Prepared.{Prepared}
use Rattle.commits.specs.declared.way.Way.{Way}
use Rattle.commits.specs.declared.way.Way.TheVariants.{Whole, ByKeys}

-- the event is no failed call
abbrev pub IsCalm : Event → Type 0
IsCalm e = is_fault e ≡ false

each_calm : (owner : ℕ) (t : Transaction) (ops : List Op) (keys : List Key) → AllByRecursion IsCalm (done_each owner t ops keys)
each_calm owner t ops [] = tt
each_calm owner t ops (key ∷ keys) = (refl, each_calm owner t (filter is_write ops) keys)

way_calm : (owner : ℕ) (p : Prepared) (way : Way) → AllByRecursion IsCalm (all_of owner p way)
way_calm owner p Whole = (refl, tt)
way_calm owner p ByKeys = each_calm owner (new_transaction p.line p.mode) p.ops (write_keys p.writes.items)

-- so are all that it may add
pub may_calm : (prefixes : List (List ℕ)) (log : Log) (owner : ℕ) (p : Prepared) (all : List Event) → MayAdd prefixes log owner p all → AllByRecursion IsCalm all
may_calm prefixes log owner p all may = subst (AllByRecursion IsCalm) (sym may.2) (way_calm owner p may.0)
