-- The events that a line adds when it opens a Spec, and what its answer tells of them.
use Rattle.std.specs.Prelude.{◌≡◌, ◌⊎◌, ℕ, List, [], ◌∷◌, ◌++◌, Option, Some, None}
use Rattle.std.specs.List.{AllByRecursion}
use Rattle.history.specs.declared.array.ArrayInfo.{ArrayInfo}
use Rattle.history.specs.declared.event.Kind.TheVariants.{Opened, Fault}
use Rattle.history.specs.Answers.{Text}
use Rattle.history.specs.Own.{Numbered, numbers_of}
use Rattle.session_turns.specs.declared.Body.{Body}
use Rattle.session_turns.specs.declared.Body.TheVariants as body

-- an array was opened
abbrev pub IsArrayOpened : Numbered → Type 0
IsArrayOpened o = (info : ArrayInfo) × (o.event.kind ≡ Opened info)

-- the number of the failed call of a store that an answer tells
abbrev pub failure_in : Body → Option ℕ
failure_in (body.StoreFailed event done events) = Some event
failure_in answer = None

-- the numbers of openings that an answer tells
abbrev pub openings_in : Body → Option (List ℕ)
openings_in (body.Opened name dtype domain events) = Some events
openings_in (body.BadSpec path events) = events
openings_in (body.RefusedSpec path cause events) = Some events
openings_in (body.NotFound at path events) = Some events
openings_in (body.Exists at path events) = Some events
openings_in (body.PathTaken at path events) = Some events
openings_in (body.Mismatch at member path events) = Some events
openings_in (body.BadMeta key why events) = Some events
openings_in answer = None

-- where an answer tells some, it tells these
abbrev pub TellsOpenings : List ℕ → Body → Type 0
TellsOpenings numbers answer = (events : List ℕ) → openings_in answer ≡ Some events → events ≡ numbers

-- the last of a line's events is a failed call of a store, and those before are openings; the answer tells the numbers of both
pub record HasFailed (own : List Numbered) (answer : Body) : Type 0 where
  pub openings : List Numbered
  pub failed : Numbered
  pub mount : Text
  pub are : AllByRecursion IsArrayOpened openings
  pub fault : failed.event.kind ≡ Fault mount
  pub all : own ≡ openings ++ failed ∷ []
  pub told : answer ≡ body.StoreFailed failed.number [] (Some (numbers_of openings))

-- all of them are openings, whose numbers are told, and the answer tells no failed call
pub record AreOpenings (own : List Numbered) (answer : Body) : Type 0 where
  pub are : AllByRecursion IsArrayOpened own
  pub told : TellsOpenings (numbers_of own) answer
  pub none : failure_in answer ≡ None

-- one of these: so a failed call is always told, and want of memory never is where there was one
abbrev pub AreTold : List Numbered → Body → Type 0
AreTold own answer = AreOpenings own answer ⊎ HasFailed own answer
