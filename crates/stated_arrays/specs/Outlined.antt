-- The outline of the history that is told of some lines: which arrays are opened, at which numbers. A commit counts as nothing.
use Rattle.std.specs.Prelude.{◌≡◌, ℕ, List, [], ◌∷◌, ◌++◌, length, filter_map, Option, None, Some}
use Rattle.std.specs.List.{AllByRecursion}
use Rattle.std.specs.FinMap as finmap
use Rattle.history.specs.declared.event.Event.{Event}
use Rattle.history.specs.declared.event.Kind.TheVariants.{Fault}
use Rattle.history.specs.History.{History}
use Rattle.history.specs.Legal.{IsLegal}
use Rattle.history.specs.Lines.{Line, SpecLeaf, opening}
use Rattle.history.specs.Own as own
use Rattle.history.specs.Own.{Numbered, fault}
use Rattle.transcript_cut.specs.StatedEvents.{IsEvent}
use Rattle.transcript_cut.specs.Claimed.{opening_of}
use Rattle.transcript_cut.specs.ToldNumbers.{opened_in, done_in, failed_in, numbers_of, told_of}
use Rattle.transcript_cut.specs.Stances.{Stance, stance}
use Rattle.transcript_cut.specs.Takings.{takings}
use Rattle.transcript_cut.specs.Transcript.{mount, Told}

-- what a line asks to be opened
abbrev pub leaves_asked : Line → List SpecLeaf
leaves_asked (opening name leaves build) = leaves
leaves_asked _ = []

-- what it opens: an open line does so where no transaction stands
abbrev pub leaves_at : Option Stance → Line → List SpecLeaf
leaves_at None asked = leaves_asked asked
leaves_at (Some s) asked = []

-- the openings by leaves that are given these numbers, in order
abbrev pub openings_by : History → ℕ → List SpecLeaf → List ℕ → List Numbered
openings_by history owner leaves numbers = filter_map (opening_of history owner) (takings history leaves numbers)

-- each of the numbers is that of a new array of a leaf, which the history opens there
pub record AreOpenedBy (history : History) (owner : ℕ) (leaves : List SpecLeaf) (printed : List ℕ) : Type 0 where
  pub numbers : own.numbers_of (openings_by history owner leaves printed) ≡ printed
  pub events : AllByRecursion (λ (o : Numbered). IsEvent history o.number o.event)
      (openings_by history owner leaves printed)

-- a commit of a session, without what it did
abbrev pub undone : ℕ → Event
undone owner = record { owner = owner; kind = Fault [] }

-- at the numbers that a line prints, where this transaction stands before it: openings of its leaves, commits, and a failed call
pub record IsOutlinedBy (outlined : History) (s : Option Stance) (told : Told) : Type 0 where
  pub openings : AreOpenedBy outlined told.session (leaves_at s told.asked) (opened_in told.answer)
  pub done : AllByRecursion (λ n. IsEvent outlined n (undone told.session)) (done_in told.answer)
  pub failed : AllByRecursion (λ n. IsEvent outlined n (fault told.session mount)) (failed_in told.answer)

-- so it is of lines behind earlier ones
abbrev pub AreOutlinedBy : History → List Told → List Told → Type 0
AreOutlinedBy outlined earlier [] = Unit {0}
AreOutlinedBy outlined earlier (told ∷ later) =
    IsOutlinedBy outlined (stance (told_of told.session earlier)) told
    × AreOutlinedBy outlined (earlier ++ told ∷ []) later

-- the outline that is told of lines: at each number the event that its line states, and no other; arrays are opened as they may be
pub record IsStatedOutline (told : List Told) (outlined : History) : Type 0 where
  pub lines : AreOutlinedBy outlined [] told
  pub count : length outlined ≡ length (numbers_of told)
  pub legal : IsLegal finmap.empty outlined
