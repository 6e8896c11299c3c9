-- What calls answer, as a line has it.
use Rattle.std.specs.Prelude.{ℕ, [], None, Result, Ok, Err}
use Rattle.history.specs.Answers as body
use Rattle.history.specs.Answers.{Body}
use Rattle.session_turns.specs.declared.ResizeError.{ResizeError}
use Rattle.session_turns.specs.declared.ResizeError.TheVariants as error

-- the answer of a resize
abbrev pub resized_answer : Result ℕ ResizeError → Body
resized_answer (Ok n) = body.resized n
resized_answer (Err (error.TooManyChunks at)) = body.too_many_chunks at
resized_answer (Err (error.NotAtomic keys)) = body.not_atomic keys
resized_answer (Err (error.Damaged key cause)) = body.damaged key cause
resized_answer (Err (error.StoreFailed event)) = body.store_failed event [] None
resized_answer (Err error.Memory) = body.memory
