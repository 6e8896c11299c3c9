-- What is answered where a line is refused.
use Rattle.std.specs.Prelude.{◌≡◌, ◌⊎◌, Err}
use Rattle.history.specs.Acts.{Asked}
use Rattle.history.specs.Answers as old
use Rattle.line_meanings.specs.Bodies.{body_of}
use Rattle.line_meanings.specs.declared.Body.{Body}
use Rattle.line_meanings.specs.declared.Body.TheVariants.{Memory}

-- want of memory, or the printed answer of a refusal
abbrev pub IsAnswerTo : Asked → Body → Type 0
IsAnswerTo asked answer = (answer ≡ Memory) ⊎ ((body : old.Body) × (asked ≡ Err body) × (answer ≡ body_of body))
