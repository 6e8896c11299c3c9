-- A history without what its commits did: the arrays in it, where they lie and the shapes that they get.
use Rattle.std.specs.Prelude.{[], map}
use Rattle.history.specs.declared.event.Kind.{Kind}
use Rattle.history.specs.declared.event.Kind.TheVariants.{Opened, Done, Resized, Fault}
use Rattle.history.specs.declared.event.Event.{Event}
use Rattle.history.specs.History.{History}

-- a commit counts as an event that changes nothing
abbrev pub outlined : Kind → Kind
outlined (Opened info) = Opened info
outlined (Done line mode ops key) = Fault []
outlined (Resized a shape) = Resized a shape
outlined (Fault mount) = Fault mount

abbrev pub outlined_event : Event → Event
outlined_event e = record { owner = e.owner; kind = outlined e.kind }

abbrev pub outline : History → History
outline events = map outlined_event events
