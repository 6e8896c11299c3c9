-- Questions in the order of their moments.
use Rattle.std.specs.Prelude.{◌≡◌, ◌↔◌, ℕ, take, Bool, IsTrue}
use Rattle.history.specs.History.{History}
use Rattle.history.specs.Outcomes.{Outcome}
use Rattle.history.specs.SingleOpen.{outcome_alone}
use Rattle.read_fits.specs.Asked.{leaf_asked}
use Rattle.read_fits.specs.Outcomes.{IsToldAs}
use Rattle.read_fits.specs.declared.Asked.{Asked}
use Rattle.read_fits.specs.declared.LeafOutcome.{LeafOutcome}
use Rattle.open_fits.specs.Opens.{IsRefusedFor}
use Rattle.open_fits.specs.declared.questions.OpenQuestion.{OpenQuestion}

-- the number of events of which it speaks
abbrev pub moment_of_question : OpenQuestion → ℕ
moment_of_question q = q.moment

-- whether the answer is the one where the leaf comes to this at the question's moment
abbrev pub IsOutcomeTold : OpenQuestion → ℕ → Asked → LeafOutcome → Bool → Type 0
IsOutcomeTold q place asked outcome is =
    (events history : History) (o : Outcome) → IsToldAs events outcome o
    → outcome_alone (take q.moment history) (leaf_asked asked) ≡ o → IsTrue is ↔ IsRefusedFor history q place asked
