-- What a transcript with a conflict tells of its lines, and the events that it states.
use Rattle.std.specs.Prelude.{ℕ, List, [], ◌∷◌, ◌++◌, codes, false, true, None}
use Rattle.serde_json.specs.Data.{Data, string, boolean}
use Rattle.json_forms.specs.Lists.{list_of}
use Rattle.json_forms.specs.Members.{object_of}
use Rattle.json_forms.specs.Numbers.{natural}
use Rattle.cells.specs.declared.dtype.Dtype.TheVariants.{I32}
use Rattle.cells.specs.declared.order.Order.TheVariants.{C}
use Rattle.stack_driver.specs.References.{Reference}
use Rattle.stack_driver.specs.Arrays.{whole_view}
use Rattle.stack_driver.specs.declared.view.View.{View}
use Rattle.history.specs.declared.array.ArrayInfo.{ArrayInfo}
use Rattle.history.specs.declared.array.Home.TheVariants.{Zarr}
use Rattle.history.specs.declared.event.Event.{Event}
use Rattle.history.specs.declared.event.Kind.TheVariants.{Opened, Done}
use Rattle.history.specs.declared.event.Op.TheVariants.{Write}
use Rattle.history.specs.History.{History}
use Rattle.history.specs.Sessions.{plain_mode}
use Rattle.transcript_laws.specs.Transcript.{mount, ScriptLine, Told, asked_by}
use Rattle.transcript_laws.specs.ReadConflict.{bytes_1, bytes_2, bytes_3, bytes_4, bytes_5, bytes_6, text_1, text_2, text_3, text_4, text_5, text_6, late_4, same_4, own_4}

-- the objects that the lines are
abbrev pub domain : Data
domain =
    object_of ((codes "exclusive_max", list_of (list_of (natural 2 ∷ []) ∷ []))
    ∷ (codes "inclusive_min", list_of (natural 0 ∷ [])) ∷ [])

abbrev pub open_object : List Data → Data
open_object numbers =
    object_of ((codes "domain", domain) ∷ (codes "dtype", string (codes "int32"))
    ∷ (codes "events", list_of numbers) ∷ (codes "line", natural 1) ∷ (codes "open", string (codes "a")) ∷ [])

abbrev pub object_2 : Data
object_2 = object_of ((codes "begin", boolean true) ∷ (codes "line", natural 2) ∷ [])

abbrev pub object_3 : Data
object_3 =
    object_of ((codes "line", natural 3) ∷ (codes "origin", list_of (natural 0 ∷ []))
    ∷ (codes "values", list_of (natural 0 ∷ natural 0 ∷ [])) ∷ [])

abbrev pub object_4 : ℕ → ℕ → Data
object_4 now read =
    object_of ((
      codes "conflict",
      object_of ((codes "key", string (codes "memory/a/0"))
          ∷ (codes "now", natural now) ∷ (codes "read", natural read) ∷ []),
    ) ∷ (codes "line", natural 4) ∷ [])

abbrev pub object_6 : Data
object_6 =
    object_of ((codes "commit", list_of (natural 2 ∷ [])) ∷ (codes "line", natural 2) ∷ (codes "write", natural 2) ∷ [])

-- a line of a session's script
abbrev pub line : ℕ → ℕ → List ℕ → ScriptLine
line session number bytes = record { session = session; number = number; bytes = bytes }

-- what is told of it
abbrev pub told : ℕ → ℕ → List ℕ → List ℕ → Data → Told
told session number bytes text object_is = record {
  session = session;
  number = number;
  asked = asked_by (line session number bytes);
  text = text ++ 10 ∷ [];
  answer = object_is;
}

abbrev pub told_1 : Told
told_1 = told 0 1 bytes_1 text_1 (open_object (natural 1 ∷ []))

abbrev pub told_2 : Told
told_2 = told 0 2 bytes_2 text_2 object_2

abbrev pub told_3 : Told
told_3 = told 0 3 bytes_3 text_3 object_3

-- the conflict, told by this text with these numbers
abbrev pub conflict_told : List ℕ → ℕ → ℕ → Told
conflict_told text now read = told 0 4 bytes_4 text (object_4 now read)

abbrev pub told_4 : Told
told_4 = conflict_told text_4 2 1

abbrev pub late_told_4 : Told
late_told_4 = conflict_told late_4 1 1

abbrev pub same_told_4 : Told
same_told_4 = conflict_told same_4 2 2

abbrev pub own_told_4 : Told
own_told_4 = conflict_told own_4 1 0

abbrev pub told_5 : Told
told_5 = told 1 1 bytes_5 text_5 (open_object [])

abbrev pub told_6 : Told
told_6 = told 1 2 bytes_6 text_6 object_6

-- all of it, with this for the conflict
abbrev pub told_with : Told → List Told
told_with conflict = told_1 ∷ told_2 ∷ told_3 ∷ conflict ∷ told_5 ∷ told_6 ∷ []

-- the array, the view of it, and the events
abbrev pub array : ArrayInfo
array = record {
  number = 0;
  home = Zarr mount (codes "a")
      (record { shape = 2 ∷ []; chunks = 2 ∷ []; dtype = I32; big = false; fill = None; order = C; slash = false });
  dtype = I32;
  shape = 2 ∷ [];
  fill = 0;
}

abbrev pub reference : Reference
reference = record { number = 0; dtype = I32; shape = 2 ∷ []; chunk = 2 ∷ []; local = false }

abbrev pub whole : View
whole = whole_view reference

abbrev pub event_1 : Event
event_1 = record { owner = 0; kind = Opened array }

abbrev pub event_2 : Event
event_2 = record { owner = 1; kind = Done 2 plain_mode (Write whole (0 ∷ 6 ∷ []) ∷ []) None }

abbrev pub events : History
events = event_1 ∷ event_2 ∷ []
