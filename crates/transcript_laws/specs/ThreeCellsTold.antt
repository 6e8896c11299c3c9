-- What a transcript of three cells tells of its lines, and the events that it states.
use Rattle.std.specs.Prelude.{ℕ, List, [], ◌∷◌, ◌++◌, codes, false, None}
use Rattle.serde_json.specs.Data.{Data, string}
use Rattle.json_forms.specs.Lists.{list_of}
use Rattle.json_forms.specs.Members.{object_of}
use Rattle.json_forms.specs.Numbers.{natural}
use Rattle.cells.specs.declared.dtype.Dtype.TheVariants.{I32}
use Rattle.cells.specs.declared.order.Order.TheVariants.{C}
use Rattle.stack_driver.specs.References.{Reference}
use Rattle.stack_driver.specs.Arrays.{whole_view}
use Rattle.stack_driver.specs.declared.view.View.{View}
use Rattle.history.specs.declared.array.ArrayInfo.{ArrayInfo}
use Rattle.history.specs.declared.array.Home.TheVariants.{Zarr}
use Rattle.history.specs.declared.event.Event.{Event}
use Rattle.history.specs.declared.event.Kind.TheVariants.{Opened, Done}
use Rattle.history.specs.declared.event.Op.TheVariants.{Write}
use Rattle.history.specs.History.{History}
use Rattle.history.specs.Sessions.{plain_mode}
use Rattle.transcript_laws.specs.Transcript.{mount, ScriptLine, Told, asked_by}
use Rattle.transcript_laws.specs.ThreeCells.{bytes_1, bytes_2, bytes_3, text_1, text_2, text_3}

-- the objects that its lines are
abbrev pub object_1 : Data
object_1 = object_of ((
  codes "domain",
  object_of
      ((codes "exclusive_max", list_of (list_of (natural 3 ∷ []) ∷ []))
      ∷ (codes "inclusive_min", list_of (natural 0 ∷ [])) ∷ []),
)
    ∷ (codes "dtype", string (codes "int32")) ∷ (codes "events", list_of (natural 1 ∷ []))
    ∷ (codes "line", natural 1) ∷ (codes "open", string (codes "a")) ∷ [])

abbrev pub object_2 : Data
object_2 = object_of ((codes "commit", list_of (natural 2 ∷ [])) ∷ (codes "line", natural 2)
    ∷ (codes "write", natural 3) ∷ [])

abbrev pub object_3 : Data
object_3 = object_of ((codes "line", natural 3) ∷ (codes "origin", list_of (natural 0 ∷ []))
    ∷ (codes "values", list_of (natural 1 ∷ natural 2 ∷ natural 3 ∷ [])) ∷ [])

-- a line of the script
abbrev pub line : ℕ → List ℕ → ScriptLine
line number bytes = record { session = 0; number = number; bytes = bytes }

-- what is told of a line
abbrev pub told : ℕ → List ℕ → List ℕ → Data → Told
told number bytes text object_is =
    record {
      session = 0;
      number = number;
      asked = asked_by (line number bytes);
      text = text ++ 10 ∷ [];
      answer =
          object_is;
    }

abbrev pub told_1 : Told
told_1 = told 1 bytes_1 text_1 object_1

abbrev pub told_2 : Told
told_2 = told 2 bytes_2 text_2 object_2

abbrev pub told_3 : Told
told_3 = told 3 bytes_3 text_3 object_3

abbrev pub told_all : List Told
told_all = told_1 ∷ told_2 ∷ told_3 ∷ []

-- the array, and the view of it
abbrev pub array : ArrayInfo
array = record {
  number = 0;
  home = Zarr mount (codes "a")
      (record { shape = 3 ∷ []; chunks = 2 ∷ []; dtype = I32; big = false; fill = None; order = C; slash = false });
  dtype = I32;
  shape = 3 ∷ [];
  fill = 0;
}

abbrev pub reference : Reference
reference = record { number = 0; dtype = I32; shape = 3 ∷ []; chunk = 2 ∷ []; local = false }

abbrev pub whole : View
whole = whole_view reference

-- the events
abbrev pub event_1 : Event
event_1 = record { owner = 0; kind = Opened array }

abbrev pub event_2 : Event
event_2 = record { owner = 0; kind = Done 2 plain_mode (Write whole (1 ∷ 2 ∷ 3 ∷ []) ∷ []) None }

abbrev pub events : History
events = event_1 ∷ event_2 ∷ []
