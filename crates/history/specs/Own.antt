-- The events that a session adds, each with its number.
use Rattle.std.specs.Prelude.{ℕ, ◌+◌, List, [], ◌∷◌, map, ◌==◌, if◌then◌else◌}
use Rattle.history.specs.declared.array.ArrayInfo.{ArrayInfo}
use Rattle.history.specs.declared.event.Kind.TheVariants.{Opened, Resized, Fault}
use Rattle.history.specs.declared.event.Event.{Event}
use Rattle.history.specs.History.{History}
use Rattle.history.specs.Answers.{Text}

-- an event and its number in the history
pub record Numbered : Type 0 where
  pub number : ℕ
  pub event : Event

-- events one after another, the first with the number n
abbrev pub numbered : ℕ → List Event → List Numbered
numbered n [] = []
numbered n (e ∷ es) = record { number = n; event = e } ∷ numbered (n + 1) es

-- the numbers of events without the events
abbrev pub numbers_of : List Numbered → List ℕ
numbers_of own = map (λ (o : Numbered). o.number) own

-- those of them that are the session's
abbrev pub own_events : ℕ → ℕ → History → List Numbered
own_events owner n [] = []
own_events owner n (e ∷ es) = if e.owner == owner then record { number = n; event = e } ∷ own_events owner (n + 1) es else own_events owner (n + 1) es

-- a session opens an array
abbrev pub opened_event : ℕ → ArrayInfo → Event
opened_event owner info = record { owner = owner; kind = Opened info }

-- a session gives the array of a number another shape
abbrev pub resized_event : ℕ → ℕ → List ℕ → Event
resized_event owner a shape = record { owner = owner; kind = Resized a shape }

-- a session's store call on a mount fails
abbrev pub fault : ℕ → Text → Event
fault owner mount = record { owner = owner; kind = Fault mount }

-- a failed store call as the event with the number n
abbrev pub fault_at : ℕ → ℕ → Text → List Numbered
fault_at n owner mount = record { number = n; event = fault owner mount } ∷ []
