-- What is answered to a leaf that is refused.
use Rattle.std.specs.Prelude.{◌≡◌, ℕ, List, [], Bool, true, false, Option, Some, None, unwrap_or}
use Rattle.read_fits.specs.declared.Body as printed_body
use Rattle.history.specs.Answers.{Body, Text}
use Rattle.history.specs.History.{History}
use Rattle.history.specs.Leaves.{Leaf}
use Rattle.history.specs.OpenRows.{IsRefusal}
use Rattle.history.specs.Outcomes.{Outcome}
use Rattle.read_fits.specs.Bodies.{body_of}
use Rattle.read_fits.specs.Openings.{node_of}
use Rattle.read_fits.specs.Asked.{leaf_asked}
use Rattle.read_fits.specs.Outcomes.{IsToldAs}
use Rattle.read_fits.specs.declared.Asked.{Asked}
use Rattle.read_fits.specs.declared.LeafOutcome.{LeafOutcome}
use Rattle.read_fits.specs.declared.LeafOutcome.TheVariants.{Taken, There, Exists, Mismatch, NotFound, BadWant, Made}
use Rattle.open_fits.specs.declared.questions.OpenQuestion.{OpenQuestion}

-- the answer by which a leaf is refused, if it is
abbrev pub IsRefusalBody : Text → Leaf → ℕ → List ℕ → Outcome → Option printed_body.Body → Type 0
IsRefusalBody node leaf at numbers outcome None = (answer : Body) → ¬ IsRefusal node leaf at numbers outcome answer
IsRefusalBody node leaf at numbers outcome (Some body) =
    (answer : Body) × (body ≡ body_of answer) × IsRefusal node leaf at numbers outcome answer
    × ((other : Body) → IsRefusal node leaf at numbers outcome other → other ≡ answer)

-- so it is of a leaf of a question that comes to this
abbrev pub IsRefusalFor : OpenQuestion → ℕ → Asked → LeafOutcome → Option printed_body.Body → Type 0
IsRefusalFor q place asked outcome body =
    (events : History) (o : Outcome) → IsToldAs events outcome o
    → IsRefusalBody (unwrap_or (node_of place q.plan.tree) []) (leaf_asked asked) q.moment q.told.numbers o body

-- the outcome is one where nothing lies at the place, above or below
abbrev pub is_free_told : LeafOutcome → Bool
is_free_told (Taken other) = false
is_free_told (There number) = false
is_free_told Exists = false
is_free_told (Mismatch member) = false
is_free_told NotFound = true
is_free_told (BadWant member) = true
is_free_told (Made form) = true
