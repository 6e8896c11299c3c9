-- Histories in which no array gets another shape.
use Rattle.std.specs.Prelude.{Bool}
use Rattle.std.specs.List.{AllByRecursion}
use Rattle.history.specs.declared.event.Event.{Event}
use Rattle.history.specs.declared.event.Kind.{Kind}
use Rattle.history.specs.declared.event.Kind.TheVariants.{Opened, Done, Resized, Fault}
use Rattle.history.specs.History.{History}

-- the event gives no array another shape
abbrev pub IsStill : Kind → Type 0
IsStill (Opened info) = Unit {0}
IsStill (Done line mode ops key) = Unit {0}
IsStill (Resized a shape) = ⊥
IsStill (Fault mount) = Unit {0}

-- none of the events does
abbrev pub AreStill : History → Type 0
AreStill events = AllByRecursion (λ (e : Event). IsStill e.kind) events
