-- The texts of answers are those of their data.
use Rattle.std.proofs.Common.{◌≡◌, ℕ, ℤ, List, [], ◌∷◌, ◌++◌, Option, Some, None, decimal, refl, sym, ap, ◌∙◌, append_assoc}
use Rattle.std.specs.Prelude.{codes}
use Rattle.json.specs.Print.{escape_byte}
use Rattle.serde_json.specs.Data.{string}
use Rattle.serde_json.specs.Written.{compact_text}
use Rattle.json_forms.specs.Members.{object_of}
use Rattle.json_forms.specs.Numbers.{natural}
use Rattle.cells.specs.declared.dtype.Dtype.{Dtype}
use Rattle.index_transform.specs.Transforms.{DomainAndMaps}
use Rattle.index_transform.specs.declared.domain.Domain.{Domain}
use Rattle.dim_changes.specs.declared.cause.Cause.{Cause}
use Rattle.answer_text.specs.declared.JoinError.{JoinError}
use Rattle.transform_composition.specs.declared.error.ComposeError.{ComposeError}
use Rattle.answer_text.specs.declared.BuildCause.{BuildCause}
use Rattle.answer_text.specs.Pieces.{text_of}
use Rattle.answer_text.specs.Text.{answer_text, before_line, behind_line, domain_text, transform_text, events_text, met_text, conflict_text, mismatch_text, cell_text, shrunk_text, store_text}
use Rattle.answer_text.specs.declared.answer.Answer.{Answer}
use Rattle.answer_text.specs.declared.answer.Body.{Body}
use Rattle.answer_text.specs.declared.answer.Body.TheVariants.{Opened, Viewed, Values, Staged, Written, Begun, Committed, Aborted, Resized, Resolved, BadLine, BadSpec, Unsupported, BadStep, UnknownName, InTransaction, NoTransaction, UnknownDim, RepeatedDim, RefusedStep, RefusedView, RefusedJoin, RefusedSpec, NotFound, Exists, PathTaken, Mismatch, BadMeta, Unbounded, TooMany, OutOfRange, Uncovered, BadValues, Conflict, Shrunk, NotAtomic, NotArray, TooManyChunks, StoreFailed, Damaged, Memory}
use Rattle.answer_text.specs.declared.answer.MetaWhy.{MetaWhy}
use Rattle.answer_text.specs.declared.answer.Why.{Why}
use Rattle.answer_data.specs.Answers.{met_data, conflict_data, mismatch_data, cell_data, shrunk_data, store_data, answer_data}
use Rattle.answer_data.specs.Causes.{step_members, compose_members, build_members, join_members, meta_members, chunk_members}
use Rattle.answer_data.specs.Members.{numbers_data, indices_data, dtype_data, values_data}
use Rattle.answer_data.proofs.Bracketing.{part, both, row, text-onto, text-flat, whole}
use Rattle.answer_data.proofs.CauseTexts.{step_same, compose_same, build_same, join_same, meta_same, chunk_same}
use Rattle.answer_data.proofs.Pieces.{numbers_same, indices_same, values_same, dtype_same}

-- its text is that of its data, with an LF
abbrev Same : ℕ → Body → Type 0
Same line body = answer_text (record { line = line; body = body }) ≡ compact_text (answer_data (record { line = line; body = body })) ++ 10 ∷ []

met_same : (at : ℕ) (path : List ℕ) → met_text at path ≡ compact_text (met_data at path)
unfolding met_text text_of escape_byte
met_same at path = text-flat (row (part (codes "{\"at\":")) (decimal at ∷ codes ",\"path\":" ∷ text_of path ∷ codes "}" ∷ []))

conflict_same : (key : List ℕ) (read now : ℕ) → conflict_text key read now ≡ codes "\"conflict\":" ++ compact_text (conflict_data key read now) ++ codes ","
unfolding conflict_text text_of escape_byte
conflict_same key read now =
    let members = row (part (codes "\"conflict\":{\"key\":")) (text_of key ∷ codes ",\"now\":" ∷ decimal now ∷ codes ",\"read\":" ∷ decimal read ∷ codes "}" ∷ []) in
    text-flat (row (part (codes "\"conflict\":{\"key\":")) (text_of key ∷ codes ",\"now\":" ∷ decimal now ∷ codes ",\"read\":" ∷ decimal read ∷ codes "}," ∷ []))
    ∙ sym (text-onto members (codes ",")) ∙ ap (λ t. t ++ codes ",") (text-flat members)

mismatch_same : (at : ℕ) (member path : List ℕ) → mismatch_text at member path ≡ codes ",\"mismatch\":" ++ compact_text (mismatch_data at member path)
unfolding mismatch_text text_of escape_byte
mismatch_same at member path =
    text-flat (row (part (codes ",\"mismatch\":{\"at\":")) (decimal at ∷ codes ",\"member\":" ∷ text_of member ∷ codes ",\"path\":" ∷ text_of path ∷ codes "}" ∷ []))

cell_same : (cell : List ℤ) (dim : ℕ) → cell_text cell dim ≡ codes ",\"out_of_range\":" ++ compact_text (cell_data cell dim)
unfolding cell_text escape_byte
cell_same cell dim =
    ap (λ t. codes ",\"out_of_range\":{\"cell\":" ++ t ++ codes ",\"dim\":" ++ decimal dim ++ codes "}") (indices_same cell)
    ∙ text-flat (row (part (codes ",\"out_of_range\":{\"cell\":")) (compact_text (indices_data cell) ∷ codes ",\"dim\":" ∷ decimal dim ∷ codes "}" ∷ []))

shrunk_same : (key : List ℕ) (now : ℕ) → shrunk_text key now ≡ codes ",\"shrunk\":" ++ compact_text (shrunk_data key now)
unfolding shrunk_text text_of escape_byte
shrunk_same key now = text-flat (row (part (codes ",\"shrunk\":{\"key\":")) (text_of key ∷ codes ",\"now\":" ∷ decimal now ∷ codes "}" ∷ []))

store_same : (done : List ℕ) (event : ℕ) → store_text done event ≡ codes ",\"store_failed\":" ++ compact_text (store_data done event)
unfolding store_text escape_byte
store_same done event =
    ap (λ t. codes ",\"store_failed\":{\"done\":" ++ t ++ codes ",\"event\":" ++ decimal event ++ codes "}") (numbers_same done)
    ∙ text-flat (row (part (codes ",\"store_failed\":{\"done\":")) (compact_text (numbers_data done) ∷ codes ",\"event\":" ∷ decimal event ∷ codes "}" ∷ []))

opened : (line : ℕ) (name : List ℕ) (dtype : Dtype) (domain : Domain) (events : List ℕ) → Same line (Opened name dtype domain events)
unfolding escape_byte text_of domain_text events_text
opened line name dtype domain events =
    whole (both (both (both (both (part (codes "\"domain\":")) (part (domain_text domain))) (part (codes ","))) (row (part (codes "\"dtype\":")) (compact_text (dtype_data dtype) ∷ codes "," ∷ []))) (row (part (codes "\"events\":")) (compact_text (numbers_data events) ∷ codes "," ∷ [])))
    (both (part (codes ",\"open\":")) (part (text_of name))) line
    (before_line (Opened name dtype domain events)) (behind_line (Opened name dtype domain events)) (rw (dtype_same dtype, numbers_same events) refl) refl

viewed : (line : ℕ) (name : List ℕ) (dtype : Dtype) (transform : DomainAndMaps) → Same line (Viewed name dtype transform)
unfolding escape_byte text_of transform_text
viewed line name dtype transform =
    whole (row (part (codes "\"dtype\":")) (compact_text (dtype_data dtype) ∷ codes "," ∷ []))
    (both (both (both (part (codes ",\"transform\":")) (part (transform_text transform))) (part (codes ",\"view\":"))) (part (text_of name))) line
    (before_line (Viewed name dtype transform)) (behind_line (Viewed name dtype transform)) (rw (dtype_same dtype) refl) refl

values : (line : ℕ) (origin : List ℤ) (shape : List ℕ) (dtype : Dtype) (words : List ℕ) → Same line (Values origin shape dtype words)
unfolding escape_byte
values line origin shape dtype words =
    whole (part [])
    (both (both (both (part (codes ",\"origin\":")) (part (compact_text (indices_data origin)))) (part (codes ",\"values\":"))) (part (compact_text (values_data dtype shape words)))) line
    (before_line (Values origin shape dtype words)) (behind_line (Values origin shape dtype words)) refl (rw (indices_same origin, values_same dtype shape words) refl)

staged : (line : ℕ) (cells : ℕ) → Same line (Staged cells)
unfolding escape_byte
staged line cells = whole (part []) (both (part (codes ",\"write\":")) (part (decimal cells))) line (before_line (Staged cells)) (behind_line (Staged cells)) refl refl

written : (line : ℕ) (cells : ℕ) (events : List ℕ) → Same line (Written cells events)
unfolding escape_byte
written line cells events =
    whole (both (both (part (codes "\"commit\":")) (part (compact_text (numbers_data events)))) (part (codes ",")))
    (both (part (codes ",\"write\":")) (part (decimal cells))) line
    (before_line (Written cells events)) (behind_line (Written cells events)) (rw (numbers_same events) refl) refl

begun : (line : ℕ) → Same line Begun
unfolding escape_byte
begun line = whole (part (codes "\"begin\":true,")) (part []) line (before_line Begun) (behind_line Begun) refl refl

committed : (line : ℕ) (events : List ℕ) → Same line (Committed events)
unfolding escape_byte
committed line events =
    whole (both (both (part (codes "\"commit\":")) (part (compact_text (numbers_data events)))) (part (codes ",")))
    (part []) line
    (before_line (Committed events)) (behind_line (Committed events)) (rw (numbers_same events) refl) refl

aborted : (line : ℕ) → Same line Aborted
unfolding escape_byte
aborted line = whole (part (codes "\"abort\":true,")) (part []) line (before_line Aborted) (behind_line Aborted) refl refl

resized : (line : ℕ) (event : ℕ) → Same line (Resized event)
unfolding escape_byte
resized line event = whole (part []) (both (part (codes ",\"resize\":")) (part (decimal event))) line (before_line (Resized event)) (behind_line (Resized event)) refl refl

resolved : (line : ℕ) (name : List ℕ) (dtype : Dtype) (transform : DomainAndMaps) → Same line (Resolved name dtype transform)
unfolding escape_byte text_of transform_text
resolved line name dtype transform =
    whole (row (part (codes "\"dtype\":")) (compact_text (dtype_data dtype) ∷ codes "," ∷ []))
    (both (both (both (part (codes ",\"resolve\":")) (part (text_of name))) (part (codes ",\"transform\":"))) (part (transform_text transform))) line
    (before_line (Resolved name dtype transform)) (behind_line (Resolved name dtype transform)) (rw (dtype_same dtype) refl) refl

bad_line : (line : ℕ) (text : List ℕ) → Same line (BadLine text)
unfolding escape_byte text_of
bad_line line text =
    whole (both (both (part (codes "\"bad_line\":")) (part (text_of text))) (part (codes ",")))
    (part []) line
    (before_line (BadLine text)) (behind_line (BadLine text)) refl refl

bad_spec : (line : ℕ) (path : List ℕ) (events : Option (List ℕ)) → Same line (BadSpec path events)
unfolding escape_byte text_of events_text
bad_spec line path None =
    whole (both (both (both (part (codes "\"bad_spec\":")) (part (text_of path))) (part (codes ","))) (part []))
    (part []) line
    (before_line (BadSpec path None)) (behind_line (BadSpec path None)) refl refl
bad_spec line path (Some events) =
    whole (both (both (both (part (codes "\"bad_spec\":")) (part (text_of path))) (part (codes ","))) (row (part (codes "\"events\":")) (compact_text (numbers_data events) ∷ codes "," ∷ [])))
    (part []) line
    (before_line (BadSpec path (Some events))) (behind_line (BadSpec path (Some events))) (rw (numbers_same events) refl) refl

unsupported : (line : ℕ) (path : List ℕ) → Same line (Unsupported path)
unfolding escape_byte text_of
unsupported line path =
    whole (part [])
    (both (part (codes ",\"unsupported\":")) (part (text_of path))) line
    (before_line (Unsupported path)) (behind_line (Unsupported path)) refl refl

bad_step : (line : ℕ) (step : ℕ) → Same line (BadStep step)
unfolding escape_byte
bad_step line step =
    whole (both (both (part (codes "\"bad_step\":{\"step\":")) (part (decimal step ++ codes "}"))) (part (codes ",")))
    (part []) line
    (before_line (BadStep step)) (behind_line (BadStep step)) (ap (λ t. codes "\"bad_step\":{\"step\":" ++ t) (sym (append_assoc (decimal step) (codes "}") (codes ",")))) refl

unknown_name : (line : ℕ) (name : List ℕ) → Same line (UnknownName name)
unfolding escape_byte text_of
unknown_name line name =
    whole (part [])
    (both (part (codes ",\"unknown_name\":")) (part (text_of name))) line
    (before_line (UnknownName name)) (behind_line (UnknownName name)) refl refl

in_transaction : (line : ℕ) → Same line InTransaction
unfolding escape_byte
in_transaction line = whole (part (codes "\"in_transaction\":true,")) (part []) line (before_line InTransaction) (behind_line InTransaction) refl refl

no_transaction : (line : ℕ) → Same line NoTransaction
unfolding escape_byte
no_transaction line = whole (part []) (part (codes ",\"no_transaction\":true")) line (before_line NoTransaction) (behind_line NoTransaction) refl refl

unknown_dim : (line : ℕ) (step : ℕ) → Same line (UnknownDim step)
unfolding escape_byte
unknown_dim line step =
    whole (part [])
    (both (part (codes ",\"unknown_dim\":{\"step\":")) (part (decimal step ++ codes "}"))) line
    (before_line (UnknownDim step)) (behind_line (UnknownDim step)) refl refl

repeated_dim : (line : ℕ) (step : ℕ) → Same line (RepeatedDim step)
unfolding escape_byte
repeated_dim line step =
    whole (part [])
    (both (part (codes ",\"repeated_dim\":{\"step\":")) (part (decimal step ++ codes "}"))) line
    (before_line (RepeatedDim step)) (behind_line (RepeatedDim step)) refl refl

refused_step : (line : ℕ) (step : ℕ) (cause : Cause) → Same line (RefusedStep step cause)
unfolding escape_byte
refused_step line step cause =
    whole (part [])
    (both (part (codes ",\"refused\":")) (part (compact_text (object_of ((codes "step", natural step) ∷ step_members cause))))) line
    (before_line (RefusedStep step cause)) (behind_line (RefusedStep step cause)) refl (rw (step_same cause step) refl)

refused_view : (line : ℕ) (cause : ComposeError) → Same line (RefusedView cause)
unfolding escape_byte
refused_view line cause =
    whole (part [])
    (both (part (codes ",\"refused\":")) (part (compact_text (object_of (compose_members cause))))) line
    (before_line (RefusedView cause)) (behind_line (RefusedView cause)) refl (rw (compose_same cause) refl)

refused_join : (line : ℕ) (cause : JoinError) → Same line (RefusedJoin cause)
unfolding escape_byte
refused_join line cause =
    whole (part [])
    (both (part (codes ",\"refused\":")) (part (compact_text (object_of (join_members cause))))) line
    (before_line (RefusedJoin cause)) (behind_line (RefusedJoin cause)) refl (rw (join_same cause) refl)

refused_spec : (line : ℕ) (path : List ℕ) (cause : BuildCause) (events : List ℕ) → Same line (RefusedSpec path cause events)
unfolding escape_byte events_text
refused_spec line path cause events =
    whole (row (part (codes "\"events\":")) (compact_text (numbers_data events) ∷ codes "," ∷ []))
    (both (part (codes ",\"refused\":")) (part (compact_text (object_of ((codes "path", string path) ∷ build_members cause))))) line
    (before_line (RefusedSpec path cause events)) (behind_line (RefusedSpec path cause events)) (rw (numbers_same events) refl) (rw (build_same cause path) refl)

not_found : (line : ℕ) (at : ℕ) (path : List ℕ) (events : List ℕ) → Same line (NotFound at path events)
unfolding escape_byte events_text
not_found line at path events =
    whole (row (part (codes "\"events\":")) (compact_text (numbers_data events) ∷ codes "," ∷ []))
    (both (part (codes ",\"not_found\":")) (part (compact_text (met_data at path)))) line
    (before_line (NotFound at path events)) (behind_line (NotFound at path events)) (rw (numbers_same events) refl) (rw (met_same at path) refl)

exists : (line : ℕ) (at : ℕ) (path : List ℕ) (events : List ℕ) → Same line (Exists at path events)
unfolding escape_byte events_text
exists line at path events =
    whole (both (both (both (row (part (codes "\"events\":")) (compact_text (numbers_data events) ∷ codes "," ∷ [])) (part (codes "\"exists\":"))) (part (compact_text (met_data at path)))) (part (codes ",")))
    (part []) line
    (before_line (Exists at path events)) (behind_line (Exists at path events)) (rw (numbers_same events, met_same at path) refl) refl

path_taken : (line : ℕ) (at : ℕ) (path : List ℕ) (events : List ℕ) → Same line (PathTaken at path events)
unfolding escape_byte events_text
path_taken line at path events =
    whole (row (part (codes "\"events\":")) (compact_text (numbers_data events) ∷ codes "," ∷ []))
    (both (part (codes ",\"path_taken\":")) (part (compact_text (met_data at path)))) line
    (before_line (PathTaken at path events)) (behind_line (PathTaken at path events)) (rw (numbers_same events) refl) (rw (met_same at path) refl)

mismatch : (line : ℕ) (at : ℕ) (member : List ℕ) (path : List ℕ) (events : List ℕ) → Same line (Mismatch at member path events)
unfolding escape_byte events_text
mismatch line at member path events =
    whole (row (part (codes "\"events\":")) (compact_text (numbers_data events) ∷ codes "," ∷ []))
    (row (part (codes ",\"mismatch\":")) (compact_text (mismatch_data at member path) ∷ [])) line
    (before_line (Mismatch at member path events)) (behind_line (Mismatch at member path events)) (rw (numbers_same events) refl) (rw (mismatch_same at member path) refl)

bad_meta : (line : ℕ) (key : List ℕ) (why : MetaWhy) (events : List ℕ) → Same line (BadMeta key why events)
unfolding escape_byte events_text
bad_meta line key why events =
    whole (both (both (both (part (codes "\"bad_meta\":")) (part (compact_text (object_of ((codes "key", string key) ∷ meta_members why))))) (part (codes ","))) (row (part (codes "\"events\":")) (compact_text (numbers_data events) ∷ codes "," ∷ [])))
    (part []) line
    (before_line (BadMeta key why events)) (behind_line (BadMeta key why events)) (rw (meta_same key why, numbers_same events) refl) refl

unbounded : (line : ℕ) (dim : ℕ) → Same line (Unbounded dim)
unfolding escape_byte
unbounded line dim =
    whole (part [])
    (both (part (codes ",\"unbounded\":{\"dim\":")) (part (decimal dim ++ codes "}"))) line
    (before_line (Unbounded dim)) (behind_line (Unbounded dim)) refl refl

too_many : (line : ℕ) (dim : ℕ) → Same line (TooMany dim)
unfolding escape_byte
too_many line dim =
    whole (part [])
    (both (part (codes ",\"too_many\":{\"dim\":")) (part (decimal dim ++ codes "}"))) line
    (before_line (TooMany dim)) (behind_line (TooMany dim)) refl refl

out_of_range : (line : ℕ) (cell : List ℤ) (dim : ℕ) → Same line (OutOfRange cell dim)
unfolding escape_byte
out_of_range line cell dim =
    whole (part [])
    (row (part (codes ",\"out_of_range\":")) (compact_text (cell_data cell dim) ∷ [])) line
    (before_line (OutOfRange cell dim)) (behind_line (OutOfRange cell dim)) refl (rw (cell_same cell dim) refl)

uncovered : (line : ℕ) (cell : List ℤ) → Same line (Uncovered cell)
unfolding escape_byte
uncovered line cell =
    whole (part [])
    (both (part (codes ",\"uncovered\":{\"cell\":")) (part (compact_text (indices_data cell) ++ codes "}"))) line
    (before_line (Uncovered cell)) (behind_line (Uncovered cell)) refl (rw (indices_same cell) refl)

bad_values : (line : ℕ) (path : List ℕ) → Same line (BadValues path)
unfolding escape_byte
bad_values line path =
    whole (both (both (part (codes "\"bad_values\":")) (part (compact_text (numbers_data path)))) (part (codes ",")))
    (part []) line
    (before_line (BadValues path)) (behind_line (BadValues path)) (rw (numbers_same path) refl) refl

conflict : (line : ℕ) (key : List ℕ) (read : ℕ) (now : ℕ) → Same line (Conflict key read now)
unfolding escape_byte
conflict line key read now =
    whole (row (part (codes "\"conflict\":")) (compact_text (conflict_data key read now) ∷ codes "," ∷ []))
    (part []) line
    (before_line (Conflict key read now)) (behind_line (Conflict key read now)) (rw (conflict_same key read now) refl) refl

shrunk : (line : ℕ) (key : List ℕ) (now : ℕ) → Same line (Shrunk key now)
unfolding escape_byte
shrunk line key now =
    whole (part [])
    (row (part (codes ",\"shrunk\":")) (compact_text (shrunk_data key now) ∷ [])) line
    (before_line (Shrunk key now)) (behind_line (Shrunk key now)) refl (rw (shrunk_same key now) refl)

not_atomic : (line : ℕ) (keys : ℕ) → Same line (NotAtomic keys)
unfolding escape_byte
not_atomic line keys =
    whole (part [])
    (both (part (codes ",\"not_atomic\":{\"keys\":")) (part (decimal keys ++ codes "}"))) line
    (before_line (NotAtomic keys)) (behind_line (NotAtomic keys)) refl refl

not_array : (line : ℕ) → Same line NotArray
unfolding escape_byte
not_array line = whole (part []) (part (codes ",\"not_array\":true")) line (before_line NotArray) (behind_line NotArray) refl refl

too_many_chunks : (line : ℕ) (at : ℕ) → Same line (TooManyChunks at)
unfolding escape_byte
too_many_chunks line at =
    whole (part [])
    (both (part (codes ",\"too_many_chunks\":{\"at\":")) (part (decimal at ++ codes "}"))) line
    (before_line (TooManyChunks at)) (behind_line (TooManyChunks at)) refl refl

store_failed : (line : ℕ) (event : ℕ) (done : List ℕ) (events : Option (List ℕ)) → Same line (StoreFailed event done events)
unfolding escape_byte events_text
store_failed line event done None =
    whole (part [])
    (row (part (codes ",\"store_failed\":")) (compact_text (store_data done event) ∷ [])) line
    (before_line (StoreFailed event done None)) (behind_line (StoreFailed event done None)) refl (rw (store_same done event) refl)
store_failed line event done (Some events) =
    whole (row (part (codes "\"events\":")) (compact_text (numbers_data events) ∷ codes "," ∷ []))
    (row (part (codes ",\"store_failed\":")) (compact_text (store_data done event) ∷ [])) line
    (before_line (StoreFailed event done (Some events))) (behind_line (StoreFailed event done (Some events))) (rw (numbers_same events) refl) (rw (store_same done event) refl)

damaged : (line : ℕ) (key : List ℕ) (why : Why) → Same line (Damaged key why)
unfolding escape_byte
damaged line key why =
    whole (both (both (part (codes "\"damaged\":")) (part (compact_text (object_of ((codes "key", string key) ∷ chunk_members why))))) (part (codes ",")))
    (part []) line
    (before_line (Damaged key why)) (behind_line (Damaged key why)) (rw (chunk_same key why) refl) refl

memory : (line : ℕ) → Same line Memory
unfolding escape_byte
memory line = whole (part []) (part (codes ",\"memory\":true")) line (before_line Memory) (behind_line Memory) refl refl

-- every answer's text is that of its data, with an LF
pub answer_text-compact_text : (answer : Answer) → answer_text answer ≡ compact_text (answer_data answer) ++ 10 ∷ []
answer_text-compact_text answer = by_body answer.line answer.body
  where
    by_body : (line : ℕ) (body : Body) → Same line body
    by_body line (Opened name dtype domain events) = opened line name dtype domain events
    by_body line (Viewed name dtype transform) = viewed line name dtype transform
    by_body line (Values origin shape dtype words) = values line origin shape dtype words
    by_body line (Staged cells) = staged line cells
    by_body line (Written cells events) = written line cells events
    by_body line Begun = begun line
    by_body line (Committed events) = committed line events
    by_body line Aborted = aborted line
    by_body line (Resized event) = resized line event
    by_body line (Resolved name dtype transform) = resolved line name dtype transform
    by_body line (BadLine text) = bad_line line text
    by_body line (BadSpec path events) = bad_spec line path events
    by_body line (Unsupported path) = unsupported line path
    by_body line (BadStep step) = bad_step line step
    by_body line (UnknownName name) = unknown_name line name
    by_body line InTransaction = in_transaction line
    by_body line NoTransaction = no_transaction line
    by_body line (UnknownDim step) = unknown_dim line step
    by_body line (RepeatedDim step) = repeated_dim line step
    by_body line (RefusedStep step cause) = refused_step line step cause
    by_body line (RefusedView cause) = refused_view line cause
    by_body line (RefusedJoin cause) = refused_join line cause
    by_body line (RefusedSpec path cause events) = refused_spec line path cause events
    by_body line (NotFound at path events) = not_found line at path events
    by_body line (Exists at path events) = exists line at path events
    by_body line (PathTaken at path events) = path_taken line at path events
    by_body line (Mismatch at member path events) = mismatch line at member path events
    by_body line (BadMeta key why events) = bad_meta line key why events
    by_body line (Unbounded dim) = unbounded line dim
    by_body line (TooMany dim) = too_many line dim
    by_body line (OutOfRange cell dim) = out_of_range line cell dim
    by_body line (Uncovered cell) = uncovered line cell
    by_body line (BadValues path) = bad_values line path
    by_body line (Conflict key read now) = conflict line key read now
    by_body line (Shrunk key now) = shrunk line key now
    by_body line (NotAtomic keys) = not_atomic line keys
    by_body line NotArray = not_array line
    by_body line (TooManyChunks at) = too_many_chunks line at
    by_body line (StoreFailed event done events) = store_failed line event done events
    by_body line (Damaged key why) = damaged line key why
    by_body line Memory = memory line
