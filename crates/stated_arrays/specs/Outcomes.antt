-- What opening a leaf gives, over the arrays that were opened so far.
use Rattle.std.specs.Prelude.{◌≡◌, ℕ, ◌+◌, List, [], ◌∷◌, ◌++◌, Option, Some, None}
use Rattle.std.specs.List.{AllByRecursion, slice_get}
use Rattle.std.specs.FinMap as finmap
use Rattle.locations.specs.Paths.{Located}
use Rattle.history.specs.declared.array.ArrayInfo.{ArrayInfo}
use Rattle.history.specs.declared.event.Event.{Event}
use Rattle.history.specs.declared.event.Kind.{Kind}
use Rattle.history.specs.declared.event.Kind.TheVariants.{Opened, Resized}
use Rattle.history.specs.Arrays.{Known, known_after}
use Rattle.history.specs.History.{History}
use Rattle.history.specs.Legal.{IsLegal}
use Rattle.history.specs.Members.{member_name}
use Rattle.history.specs.Outcomes.{Outcome, path_taken, exists, mismatch, there, not_found, bad_want, made}
use Rattle.history.specs.Places.{IsTable}
use Rattle.stated_arrays.specs.declared.outcomes.LeafOutcome.{LeafOutcome}
use Rattle.stated_arrays.specs.declared.outcomes.LeafOutcome.TheVariants.{Taken, There, Exists, Mismatch, NotFound, BadWant, Made}
pub use Rattle.stated_arrays.specs.Still.{IsStill, AreStill}

-- for each array the number of the event that opened it
abbrev pub HasOpenings : History → List ℕ → Type 0
HasOpenings events opened = (a : ℕ) (k : Known) → known_after events a ≡ Some k → slice_get opened a ≡ Some k.opened

-- arrays were opened as they may be, and none got another shape; the tables are those of the events, and the first
-- maybe of later ones
pub record AreKeptOf (events : History) (opened : List ℕ) (places : Located) : Type 0 where
  pub legal : IsLegal finmap.empty events
  pub still : AreStill events
  pub numbered : HasOpenings events opened
  pub table : IsTable events places

-- the event of a number opens the array so
pub record IsOpenedAt (events : History) (number : ℕ) (info : ArrayInfo) : Type 0 where
  pub at : ℕ
  pub event : Event
  pub place : number ≡ at + 1
  pub there : slice_get events at ≡ Some event
  pub kind : event.kind ≡ Opened info

-- the event whose number the table has opens the array of this number so
abbrev pub IsOpenedAs : History → List ℕ → ℕ → ArrayInfo → Type 0
IsOpenedAs events opened array info =
    (number : ℕ) × (slice_get opened array ≡ Some number) × IsOpenedAt events number info

-- the array at a location, as it was opened
abbrev pub IsArrayAt : Option Known → Option ArrayInfo → Type 0
IsArrayAt None None = Unit {0}
IsArrayAt None (Some info) = ⊥
IsArrayAt (Some k) None = ⊥
IsArrayAt (Some k) (Some info) = (k.info ≡ info) × (k.shape ≡ info.shape)

-- the outcome by what is told
abbrev pub IsToldAs : History → LeafOutcome → Outcome → Type 0
IsToldAs events (Taken other) outcome = outcome ≡ path_taken other
IsToldAs events (There number) outcome = (k : Known) × (known_after events number ≡ Some k) × (outcome ≡ there k)
IsToldAs events Exists outcome = outcome ≡ exists
IsToldAs events (Mismatch member) outcome = outcome ≡ mismatch member.now
IsToldAs events NotFound outcome = outcome ≡ not_found
IsToldAs events (BadWant member) outcome = outcome ≡ bad_want (member_name member)
IsToldAs events (Made form) outcome = outcome ≡ made form

-- the places with an array more, if it lies somewhere
abbrev pub placed_by : Option (List ℕ) → ℕ → Located → Located
placed_by None number places = places
placed_by (Some here) number places = finmap.insert places here number
