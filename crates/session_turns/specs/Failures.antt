-- The failed calls of stores among the events that a line adds, and what its answer tells of them.
use Rattle.std.specs.Prelude.{◌≡◌, ℕ, List, [], ◌∷◌, filter}
use Rattle.std.specs.List.{flat_map}
use Rattle.history.specs.Own.{Numbered, numbers_of}
use Rattle.line_acts.specs.declared.Answer.{Answer}
use Rattle.line_acts.specs.declared.Body.{Body}
use Rattle.line_acts.specs.declared.Body.TheVariants.{StoreFailed}
use Rattle.state_resizes.specs.Agreement.{is_fault}

-- the numbers of the failed calls among events
abbrev pub failures_of : List Numbered → List ℕ
failures_of own = numbers_of (filter (λ (o : Numbered). is_fault o.event) own)

-- the number of the failed call that an answer tells
abbrev pub failures_in : Body → List ℕ
failures_in (StoreFailed event done events) = event ∷ []
failures_in answer = []

-- those that a log tells, in order
abbrev pub failures_by : List Answer → List ℕ
failures_by log = flat_map (λ (a : Answer). failures_in a.body) log

-- the answer tells the failed calls among these events, one or none, and no other
abbrev pub TellsFailures : List Numbered → Body → Type 0
TellsFailures own answer = failures_of own ≡ failures_in answer
