-- An answer to an open line that binds no name, and what it tells.
use Rattle.std.specs.Prelude.{◌≡◌, ℕ, List, None}
use Rattle.sessions.specs.declared.Body.{Body}
use Rattle.history.specs.Answers as old
use Rattle.sessions.specs.AnswerBodies.{body_of}
use Rattle.sessions.specs.Caused.{IsOpenRefusal}
use Rattle.sessions.specs.OpenEvents.{TellsOpenings, failure_in}

-- the printed answer to an open line that binds no name
abbrev pub IsUnbound : Body → Type 0
IsUnbound answer = (refusal : old.Body) × (answer ≡ body_of refusal) × IsOpenRefusal refusal

-- an answer that binds no name, tells no failed call, and of openings these numbers
pub record IsRefusalWith (numbers : List ℕ) (answer : Body) : Type 0 where
  pub refused : IsUnbound answer
  pub none : failure_in answer ≡ None
  pub told : TellsOpenings numbers answer
