-- The arrays of a history, as they are kept by their numbers.
use Rattle.std.specs.Prelude.{◌≡◌, ◌<◌, ℕ, ◌+◌, List, length, Option, Some, None, count_by, if◌then◌else◌}
use Rattle.std.specs.List.{slice_get, AllByRecursion}
use Rattle.std.specs.Option.{option_map_or}
use Rattle.history.specs.declared.Form.{Form}
use Rattle.history.specs.Metadata.{shape_of, with_shape}
use Rattle.history.specs.declared.array.ArrayInfo.{ArrayInfo}
use Rattle.history.specs.declared.array.Home.{Home}
use Rattle.history.specs.declared.event.Kind.{Kind}
use Rattle.history.specs.declared.event.Kind.TheVariants.{Opened, Done, Resized, Fault}
use Rattle.history.specs.declared.event.Event.{Event}
use Rattle.history.specs.History.{History}
use Rattle.history.specs.Arrays.{Known, known_after, form_of, is_local}
use Rattle.history.specs.Legal.{is_opening}
use Rattle.history.specs.Places.{array_at}
use Rattle.history.specs.Store.{resized_after}
use Rattle.state_laws.specs.declared.arrays.Entry.{Entry}

-- an array's present shape: that of its form, and of a local array the one that it was opened with
abbrev pub shape_in : Home → List ℕ → Form → List ℕ
shape_in home shape form = if is_local home then shape else shape_of form

abbrev pub shape_now : ArrayInfo → Form → List ℕ
shape_now info form = shape_in info.home info.shape form

abbrev pub opened_by : Entry → Kind → Option Known
opened_by entry (Opened info) = Some (record { info = info; opened = entry.place + 1; shape = shape_now info entry.form })
opened_by entry (Done line mode ops key) = None
opened_by entry (Resized a shape) = None
opened_by entry (Fault mount) = None

abbrev pub opened_at_event : Entry → Option Event → Option Known
opened_at_event entry None = None
opened_at_event entry (Some e) = opened_by entry e.kind

-- the array of an entry: that which the event at its place opened
abbrev pub known_of : History → Option Entry → Option Known
known_of events None = None
known_of events (Some entry) = opened_at_event entry (slice_get events entry.place)

abbrev pub resized_of : Option Entry → ℕ
resized_of entry = option_map_or (λ (e : Entry). e.resized) entry 0

-- an array has the form of its home, with its present shape
abbrev pub IsFormOf : Option Known → Entry → Type 0
IsFormOf None entry = Unit {0}
IsFormOf (Some k) entry = entry.form ≡ with_shape (form_of k.info.home) k.shape

-- the a-th entry is of the array of number a, and there are no others
pub record AreArrays (events : History) (entries : List Entry) : Type 0 where
  pub known : (a : ℕ) → known_after events a ≡ known_of events (slice_get entries a)
  pub resized : (a : ℕ) → resized_after events a ≡ resized_of (slice_get entries a)
  pub forms : (a : ℕ) (entry : Entry) → slice_get entries a ≡ Some entry → IsFormOf (known_after events a) entry
  pub within : AllByRecursion (λ (e : Entry). e.place < length events) entries
  pub count : count_by is_opening events ≡ length entries
  -- an array that lies somewhere is the one of its number
  pub there : (here : List ℕ) (k : Known) → array_at events here ≡ Some k → known_after events k.info.number ≡ Some k
