-- The text of answers: each is one line of compact JSON, with its members in byte order.
use Rattle.std.specs.Prelude.{ℕ, ℤ, List, [], ◌++◌, codes, decimal, Option, Some, None}
use Rattle.std.specs.List.{flat_map}
use Rattle.serde_json.specs.Written.{compact_text}
use Rattle.cells.specs.DtypeNames.{dtype_name}
use Rattle.cells.specs.declared.dtype.Dtype.{Dtype}
use Rattle.index_transform.specs.Transforms.{DomainAndMaps}
use Rattle.index_transform.specs.declared.domain.Domain.{Domain}
use Rattle.transform_json.specs.Written.{domain_data, transform_data}
use Rattle.answer_text.specs.Causes.{step_cause, compose_cause, build_cause, join_cause, meta_why, chunk_why}
use Rattle.answer_text.specs.Nested.{values_text}
use Rattle.answer_text.specs.Pieces.{numbers_text, indices_text, text_of}
use Rattle.answer_text.specs.declared.answer.Answer.{Answer}
use Rattle.answer_text.specs.declared.answer.Body.{Body}
use Rattle.answer_text.specs.declared.answer.Body.TheVariants.{Opened, Viewed, Values, Staged, Written, Begun, Committed, Aborted, Resized, Resolved, BadLine, BadSpec, Unsupported, BadStep, UnknownName, InTransaction, NoTransaction, UnknownDim, RepeatedDim, RefusedStep, RefusedView, RefusedJoin, RefusedSpec, NotFound, Exists, PathTaken, Mismatch, BadMeta, Unbounded, TooMany, OutOfRange, Uncovered, BadValues, Conflict, Shrunk, NotAtomic, NotArray, TooManyChunks, StoreFailed, Damaged, Memory}

unfoldable pub domain_text : Domain → List ℕ
domain_text domain = compact_text (domain_data domain)

unfoldable pub transform_text : DomainAndMaps → List ℕ
transform_text t = compact_text (transform_data t)

-- the events that a line added
unfoldable pub events_text : List ℕ → List ℕ
events_text events = codes "\"events\":" ++ numbers_text events ++ codes ","

abbrev pub events_if : Option (List ℕ) → List ℕ
events_if None = []
events_if (Some events) = events_text events

-- how many events there are, and the path of an array
unfoldable pub met_text : ℕ → List ℕ → List ℕ
met_text at path = codes "{\"at\":" ++ decimal at ++ codes ",\"path\":" ++ text_of path ++ codes "}"

unfoldable pub dtype_text : Dtype → List ℕ
dtype_text dtype = codes "\"dtype\":\"" ++ dtype_name dtype ++ codes "\","

-- a chunk that was read, the event that touched it since, and the generation at which it was read
unfoldable pub conflict_text : List ℕ → ℕ → ℕ → List ℕ
conflict_text key read now =
    codes "\"conflict\":{\"key\":" ++ text_of key ++ codes ",\"now\":" ++ decimal now ++ codes ",\"read\":" ++ decimal read ++ codes "},"

unfoldable pub mismatch_text : ℕ → List ℕ → List ℕ → List ℕ
mismatch_text at member path =
    codes ",\"mismatch\":{\"at\":" ++ decimal at ++ codes ",\"member\":" ++ text_of member ++ codes ",\"path\":" ++ text_of path ++ codes "}"

unfoldable pub cell_text : List ℤ → ℕ → List ℕ
cell_text cell dim = codes ",\"out_of_range\":{\"cell\":" ++ indices_text cell ++ codes ",\"dim\":" ++ decimal dim ++ codes "}"

unfoldable pub shrunk_text : List ℕ → ℕ → List ℕ
shrunk_text key now = codes ",\"shrunk\":{\"key\":" ++ text_of key ++ codes ",\"now\":" ++ decimal now ++ codes "}"

-- which event a failure is, and which events were done before it
unfoldable pub store_text : List ℕ → ℕ → List ℕ
store_text done event = codes ",\"store_failed\":{\"done\":" ++ numbers_text done ++ codes ",\"event\":" ++ decimal event ++ codes "}"

-- the members before `line`, each with a comma behind it
abbrev pub before_line : Body → List ℕ
before_line (Opened name dtype domain events) = codes "\"domain\":" ++ domain_text domain ++ codes "," ++ dtype_text dtype ++ events_text events
before_line (Viewed name dtype transform) = dtype_text dtype
before_line (Values origin shape dtype words) = []
before_line (Staged cells) = []
before_line (Written cells events) = codes "\"commit\":" ++ numbers_text events ++ codes ","
before_line Begun = codes "\"begin\":true,"
before_line (Committed events) = codes "\"commit\":" ++ numbers_text events ++ codes ","
before_line Aborted = codes "\"abort\":true,"
before_line (Resized event) = []
before_line (Resolved name dtype transform) = dtype_text dtype
before_line (BadLine text) = codes "\"bad_line\":" ++ text_of text ++ codes ","
before_line (BadSpec path events) = codes "\"bad_spec\":" ++ text_of path ++ codes "," ++ events_if events
before_line (Unsupported path) = []
before_line (BadStep step) = codes "\"bad_step\":{\"step\":" ++ decimal step ++ codes "},"
before_line (UnknownName name) = []
before_line InTransaction = codes "\"in_transaction\":true,"
before_line NoTransaction = []
before_line (UnknownDim step) = []
before_line (RepeatedDim step) = []
before_line (RefusedStep step cause) = []
before_line (RefusedView cause) = []
before_line (RefusedJoin cause) = []
before_line (RefusedSpec path cause events) = events_text events
before_line (NotFound at path events) = events_text events
before_line (Exists at path events) = events_text events ++ codes "\"exists\":" ++ met_text at path ++ codes ","
before_line (PathTaken at path events) = events_text events
before_line (Mismatch at member path events) = events_text events
before_line (BadMeta key why events) = codes "\"bad_meta\":" ++ meta_why key why ++ codes "," ++ events_text events
before_line (Unbounded dim) = []
before_line (TooMany dim) = []
before_line (OutOfRange cell dim) = []
before_line (Uncovered cell) = []
before_line (BadValues path) = codes "\"bad_values\":" ++ numbers_text path ++ codes ","
before_line (Conflict key read now) = conflict_text key read now
before_line (Shrunk key now) = []
before_line (NotAtomic keys) = []
before_line NotArray = []
before_line (TooManyChunks at) = []
before_line (StoreFailed event done events) = events_if events
before_line (Damaged key why) = codes "\"damaged\":" ++ chunk_why key why ++ codes ","
before_line Memory = []

-- the members behind `line`, each with a comma before it
abbrev pub behind_line : Body → List ℕ
behind_line (Opened name dtype domain events) = codes ",\"open\":" ++ text_of name
behind_line (Viewed name dtype transform) = codes ",\"transform\":" ++ transform_text transform ++ codes ",\"view\":" ++ text_of name
behind_line (Values origin shape dtype words) = codes ",\"origin\":" ++ indices_text origin ++ codes ",\"values\":" ++ values_text dtype shape words
behind_line (Staged cells) = codes ",\"write\":" ++ decimal cells
behind_line (Written cells events) = codes ",\"write\":" ++ decimal cells
behind_line Begun = []
behind_line (Committed events) = []
behind_line Aborted = []
behind_line (Resized event) = codes ",\"resize\":" ++ decimal event
behind_line (Resolved name dtype transform) = codes ",\"resolve\":" ++ text_of name ++ codes ",\"transform\":" ++ transform_text transform
behind_line (BadLine text) = []
behind_line (BadSpec path events) = []
behind_line (Unsupported path) = codes ",\"unsupported\":" ++ text_of path
behind_line (BadStep step) = []
behind_line (UnknownName name) = codes ",\"unknown_name\":" ++ text_of name
behind_line InTransaction = []
behind_line NoTransaction = codes ",\"no_transaction\":true"
behind_line (UnknownDim step) = codes ",\"unknown_dim\":{\"step\":" ++ decimal step ++ codes "}"
behind_line (RepeatedDim step) = codes ",\"repeated_dim\":{\"step\":" ++ decimal step ++ codes "}"
behind_line (RefusedStep step cause) = codes ",\"refused\":" ++ step_cause cause step
behind_line (RefusedView cause) = codes ",\"refused\":" ++ compose_cause cause
behind_line (RefusedJoin cause) = codes ",\"refused\":" ++ join_cause cause
behind_line (RefusedSpec path cause events) = codes ",\"refused\":" ++ build_cause cause path
behind_line (NotFound at path events) = codes ",\"not_found\":" ++ met_text at path
behind_line (Exists at path events) = []
behind_line (PathTaken at path events) = codes ",\"path_taken\":" ++ met_text at path
behind_line (Mismatch at member path events) = mismatch_text at member path
behind_line (BadMeta key why events) = []
behind_line (Unbounded dim) = codes ",\"unbounded\":{\"dim\":" ++ decimal dim ++ codes "}"
behind_line (TooMany dim) = codes ",\"too_many\":{\"dim\":" ++ decimal dim ++ codes "}"
behind_line (OutOfRange cell dim) = cell_text cell dim
behind_line (Uncovered cell) = codes ",\"uncovered\":{\"cell\":" ++ indices_text cell ++ codes "}"
behind_line (BadValues path) = []
behind_line (Conflict key read now) = []
behind_line (Shrunk key now) = shrunk_text key now
behind_line (NotAtomic keys) = codes ",\"not_atomic\":{\"keys\":" ++ decimal keys ++ codes "}"
behind_line NotArray = codes ",\"not_array\":true"
behind_line (TooManyChunks at) = codes ",\"too_many_chunks\":{\"at\":" ++ decimal at ++ codes "}"
behind_line (StoreFailed event done events) = store_text done event
behind_line (Damaged key why) = []
behind_line Memory = codes ",\"memory\":true"

-- the line of an answer, with its LF
abbrev pub answer_text : Answer → List ℕ
answer_text answer = codes "{" ++ before_line answer.body ++ codes "\"line\":" ++ decimal answer.line ++ behind_line answer.body ++ codes "}\n"

-- the lines of answers, one after another
abbrev pub text_of_log : List Answer → List ℕ
text_of_log answers = flat_map answer_text answers
