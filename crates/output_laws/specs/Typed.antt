-- What the type of a printed answer says of it.
use Rattle.std.specs.Prelude.{◌<◌, ◌≤◌, ◌^◌, ℕ, List, length}
use Rattle.std.specs.List.{AllByRecursion}
use Rattle.transcript_laws.specs.Printable.{IsPrintable}
use Rattle.transcript_laws.specs.declared.Answer.{Answer}
use Rattle.transcript_laws.specs.declared.Body.{Body}
use Rattle.transcript_laws.specs.declared.Body.TheVariants.{Values}

-- printed values are along at most 32 dimensions
abbrev pub IsFlatBody : Body → Type 0
IsFlatBody (Values origin shape dtype words) = length shape ≤ 32
IsFlatBody body = Unit {0}

-- where its values are, it reads back: its texts are UTF-8 and its numbers take 64 bits
pub record IsTypedAnswer (answer : Answer) : Type 0 where
  pub printable : IsFlatBody answer.body → IsPrintable answer

-- so does an answer with this body, at whatever line of 64 bits
pub record IsTypedBody (body : Body) : Type 0 where
  pub at_line : (line : ℕ) → line < 2 ^ 64 → IsTypedAnswer (record { line = line; body = body })

-- so do all answers of logs
abbrev pub AreTyped : List (List Answer) → Type 0
AreTyped logs = AllByRecursion (AllByRecursion IsTypedAnswer) logs
