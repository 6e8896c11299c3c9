-- The history's answers as they are printed.
use Rattle.std.specs.Prelude.{ℕ, List, map}
use Rattle.answer_text.specs.Text.{text_of_log}
use Rattle.answer_text.specs.declared.answer.Answer.{Answer}
use Rattle.answer_text.specs.declared.answer.Body.{Body}
use Rattle.answer_text.specs.declared.answer.Body.TheVariants as body
use Rattle.history.specs.Answers as old
use Rattle.line_answers.specs.Causes.{step_cause, join_error, build_cause, metadata_body, damage_body}

-- what a line is answered, for what the history says of it
abbrev pub body_of : old.Body → Body
body_of (old.opened name dtype domain events) = body.Opened name dtype domain events
body_of (old.viewed name dtype transform) = body.Viewed name dtype transform
body_of (old.values origin shape dtype words) = body.Values origin shape dtype words
body_of (old.staged cells) = body.Staged cells
body_of (old.written cells events) = body.Written cells events
body_of old.begun = body.Begun
body_of (old.committed events) = body.Committed events
body_of old.aborted = body.Aborted
body_of (old.resized event) = body.Resized event
body_of (old.resolved name dtype transform) = body.Resolved name dtype transform
body_of (old.bad_line text) = body.BadLine text
body_of (old.bad_spec path events) = body.BadSpec path events
body_of (old.unsupported path) = body.Unsupported path
body_of (old.bad_step step) = body.BadStep step
body_of (old.unknown_name name) = body.UnknownName name
body_of old.in_transaction = body.InTransaction
body_of old.no_transaction = body.NoTransaction
body_of (old.unknown_dim step) = body.UnknownDim step
body_of (old.repeated_dim step) = body.RepeatedDim step
body_of (old.refused_step step cause) = body.RefusedStep step (step_cause cause)
body_of (old.refused_view cause) = body.RefusedView cause
body_of (old.refused_join cause) = body.RefusedJoin (join_error cause)
body_of (old.refused_spec path cause events) = body.RefusedSpec path (build_cause cause) events
body_of (old.not_found at path events) = body.NotFound at path events
body_of (old.exists at path events) = body.Exists at path events
body_of (old.path_taken at path events) = body.PathTaken at path events
body_of (old.mismatch at member path events) = body.Mismatch at member path events
body_of (old.bad_metadata key why events) = metadata_body key why events
body_of (old.unbounded dim) = body.Unbounded dim
body_of (old.too_many dim) = body.TooMany dim
body_of (old.out_of_range cell dim) = body.OutOfRange cell dim
body_of (old.uncovered cell) = body.Uncovered cell
body_of (old.bad_values path) = body.BadValues path
body_of (old.conflict key read now) = body.Conflict key read now
body_of (old.shrunk key now) = body.Shrunk key now
body_of (old.not_atomic keys) = body.NotAtomic keys
body_of old.not_array = body.NotArray
body_of (old.too_many_chunks at) = body.TooManyChunks at
body_of (old.store_failed event done events) = body.StoreFailed event done events
body_of (old.damaged key cause) = damage_body key cause
body_of old.memory = body.Memory

-- the answer to the line of a number
abbrev pub answer_of : old.Answer → Answer
answer_of answer = record { line = answer.line; body = body_of answer.body }

-- the output of a log: its answers' lines, one after another
abbrev pub text_of : List old.Answer → List ℕ
text_of answers = text_of_log (map answer_of answers)
