-- Answers as JSON data.
use Rattle.std.specs.Prelude.{ℕ, ℤ, List, [], ◌∷◌, codes, true, Option, Some, None}
use Rattle.serde_json.specs.Data.{Data, boolean, string}
use Rattle.json_forms.specs.Members.{object_of}
use Rattle.json_forms.specs.Numbers.{natural}
use Rattle.transform_json.specs.Written.{domain_data, transform_data}
use Rattle.answer_text.specs.declared.answer.Answer.{Answer}
use Rattle.answer_text.specs.declared.answer.Body.{Body}
use Rattle.answer_text.specs.declared.answer.Body.TheVariants.{Opened, Viewed, Values, Staged, Written, Begun, Committed, Aborted, Resized, Resolved, BadLine, BadSpec, Unsupported, BadStep, UnknownName, InTransaction, NoTransaction, UnknownDim, RepeatedDim, RefusedStep, RefusedView, RefusedJoin, RefusedSpec, NotFound, Exists, PathTaken, Mismatch, BadMeta, Unbounded, TooMany, OutOfRange, Uncovered, BadValues, Conflict, Shrunk, NotAtomic, NotArray, TooManyChunks, StoreFailed, Damaged, Memory}
use Rattle.answer_data.specs.Causes.{Member, step_members, compose_members, build_members, join_members, meta_members, chunk_members}
use Rattle.answer_data.specs.Members.{numbers_data, indices_data, dtype_data, values_data}

-- a member that only says that it is so
abbrev pub true_member : List ℕ → Member
true_member name = (name, boolean true)

-- the events that a line added
abbrev pub events_member : List ℕ → Member
events_member events = (codes "events", numbers_data events)

-- the same, where they are told
abbrev pub events_members : Option (List ℕ) → List Member
events_members None = []
events_members (Some events) = events_member events ∷ []

-- how many events there are, and the path of an array
abbrev pub met_data : ℕ → List ℕ → Data
met_data at path = object_of ((codes "at", natural at) ∷ (codes "path", string path) ∷ [])

-- a chunk that was read, the event that touched it since, and the generation at which it was read
abbrev pub conflict_data : List ℕ → ℕ → ℕ → Data
conflict_data key read now =
    object_of ((codes "key", string key) ∷ (codes "now", natural now) ∷ (codes "read", natural read) ∷ [])

-- how many events there are, the member that differs, and the path of an array
abbrev pub mismatch_data : ℕ → List ℕ → List ℕ → Data
mismatch_data at member path =
    object_of ((codes "at", natural at) ∷ (codes "member", string member) ∷ (codes "path", string path) ∷ [])

-- a cell, and the dimension in which it lies outside
abbrev pub cell_data : List ℤ → ℕ → Data
cell_data cell dim = object_of ((codes "cell", indices_data cell) ∷ (codes "dim", natural dim) ∷ [])

-- a chunk of an array that shrank, and the event that shrank it
abbrev pub shrunk_data : List ℕ → ℕ → Data
shrunk_data key now = object_of ((codes "key", string key) ∷ (codes "now", natural now) ∷ [])

-- which events were done before a failed call, and which event the failure is
abbrev pub store_data : List ℕ → ℕ → Data
store_data done event = object_of ((codes "done", numbers_data done) ∷ (codes "event", natural event) ∷ [])

-- an object of one number
abbrev pub one_number : List ℕ → ℕ → Data
one_number name n = object_of ((name, natural n) ∷ [])

-- the members of an answer beside `line`
abbrev pub body_members : Body → List Member
body_members (Opened name dtype domain events) =
    (codes "domain", domain_data domain) ∷ (codes "dtype", dtype_data dtype) ∷ events_member events
    ∷ (codes "open", string name) ∷ []
body_members (Viewed name dtype transform) =
    (codes "dtype", dtype_data dtype) ∷ (codes "transform", transform_data transform) ∷ (codes "view", string name) ∷ []
body_members (Values origin shape dtype words) =
    (codes "origin", indices_data origin) ∷ (codes "values", values_data dtype shape words) ∷ []
body_members (Staged cells) = (codes "write", natural cells) ∷ []
body_members (Written cells events) = (codes "commit", numbers_data events) ∷ (codes "write", natural cells) ∷ []
body_members Begun = true_member (codes "begin") ∷ []
body_members (Committed events) = (codes "commit", numbers_data events) ∷ []
body_members Aborted = true_member (codes "abort") ∷ []
body_members (Resized event) = (codes "resize", natural event) ∷ []
body_members (Resolved name dtype transform) =
    (codes "dtype", dtype_data dtype) ∷ (codes "resolve", string name) ∷ (codes "transform", transform_data transform)
    ∷ []
body_members (BadLine text) = (codes "bad_line", string text) ∷ []
body_members (BadSpec path events) = (codes "bad_spec", string path) ∷ events_members events
body_members (Unsupported path) = (codes "unsupported", string path) ∷ []
body_members (BadStep step) = (codes "bad_step", one_number (codes "step") step) ∷ []
body_members (UnknownName name) = (codes "unknown_name", string name) ∷ []
body_members InTransaction = true_member (codes "in_transaction") ∷ []
body_members NoTransaction = true_member (codes "no_transaction") ∷ []
body_members (UnknownDim step) = (codes "unknown_dim", one_number (codes "step") step) ∷ []
body_members (RepeatedDim step) = (codes "repeated_dim", one_number (codes "step") step) ∷ []
body_members (RefusedStep step cause) =
    (codes "refused", object_of ((codes "step", natural step) ∷ step_members cause)) ∷ []
body_members (RefusedView cause) = (codes "refused", object_of (compose_members cause)) ∷ []
body_members (RefusedJoin cause) = (codes "refused", object_of (join_members cause)) ∷ []
body_members (RefusedSpec path cause events) =
    (codes "refused", object_of ((codes "path", string path) ∷ build_members cause)) ∷ events_member events ∷ []
body_members (NotFound at path events) = (codes "not_found", met_data at path) ∷ events_member events ∷ []
body_members (Exists at path events) = (codes "exists", met_data at path) ∷ events_member events ∷ []
body_members (PathTaken at path events) = (codes "path_taken", met_data at path) ∷ events_member events ∷ []
body_members (Mismatch at member path events) =
    (codes "mismatch", mismatch_data at member path) ∷ events_member events ∷ []
body_members (BadMeta key why events) =
    (codes "bad_meta", object_of ((codes "key", string key) ∷ meta_members why)) ∷ events_member events ∷ []
body_members (Unbounded dim) = (codes "unbounded", one_number (codes "dim") dim) ∷ []
body_members (TooMany dim) = (codes "too_many", one_number (codes "dim") dim) ∷ []
body_members (OutOfRange cell dim) = (codes "out_of_range", cell_data cell dim) ∷ []
body_members (Uncovered cell) = (codes "uncovered", object_of ((codes "cell", indices_data cell) ∷ [])) ∷ []
body_members (BadValues path) = (codes "bad_values", numbers_data path) ∷ []
body_members (Conflict key read now) = (codes "conflict", conflict_data key read now) ∷ []
body_members (Shrunk key now) = (codes "shrunk", shrunk_data key now) ∷ []
body_members (NotAtomic keys) = (codes "not_atomic", one_number (codes "keys") keys) ∷ []
body_members NotArray = true_member (codes "not_array") ∷ []
body_members (TooManyChunks at) = (codes "too_many_chunks", one_number (codes "at") at) ∷ []
body_members (StoreFailed event done events) = (codes "store_failed", store_data done event) ∷ events_members events
body_members (Damaged key why) =
    (codes "damaged", object_of ((codes "key", string key) ∷ chunk_members why)) ∷ []
body_members Memory = true_member (codes "memory") ∷ []

-- an answer: an object that has the number of its line, and what its body tells
abbrev pub answer_data : Answer → Data
answer_data answer = object_of ((codes "line", natural answer.line) ∷ body_members answer.body)
