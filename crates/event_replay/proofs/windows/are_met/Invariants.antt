use Rattle.std.proofs.Common.{◌≡◌, ◌≤◌, ◌<◌, ◌-◌, ℕ, length, get_or}
use Rattle.std.specs.List.{AllByRecursion}
use Rattle.history.specs.History.{History}
use Rattle.version_store.specs.Stores.{IsStoreOf}
use Rattle.event_replay.specs.Sweeps.{IsFront, IsMetIn, IsWaitingIn}
use Rattle.event_replay.specs.declared.waiting.Waiting.{Waiting}
use Rattle.event_replay.proofs.windows.are_met.Given as goal

-- of the windows that end at the number, those of the demands behind the link are met
abbrev pub invariant-links : goal.invariant-links
invariant-links l = record {
  low : l.link ≤ length l.waiting;
  own : (d : Waiting) → 0 < l.link → (get_or l.waiting (l.link - 1) d).upto ≡ l.number;
  met : (events before : History) → IsFront events before l.opened → IsStoreOf before l.store → length before ≡ l.number → AllByRecursion (IsWaitingIn events) l.waiting
      → (i : ℕ) (d : Waiting) → l.link ≤ i → i < length l.waiting → (get_or l.waiting i d).upto ≡ l.number → IsMetIn events (get_or l.waiting i d);
}

abbrev pub decreases-links : goal.decreases-links
decreases-links l = l.link
