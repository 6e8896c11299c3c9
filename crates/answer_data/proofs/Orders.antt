-- The data of answers has the members of each object in order.
use Rattle.std.proofs.Common.{ℕ, ℤ, pos, ◌*◌, Bool, true, false, cond, List, [], ◌∷◌, length, map, take, drop, Some, None}
use Rattle.std.specs.Prelude.{codes}
use Rattle.std.specs.List.{AllByRecursion, range_with_len}
use Rattle.std.specs.Ordering.{int_eq}
use Rattle.serde_json.specs.Data.{Data, Members, string, no_members, put}
use Rattle.json_forms.specs.Lists.{list_of}
use Rattle.json_forms.specs.Members.{members_from, object_of}
use Rattle.json_forms.specs.Numbers.{natural, integer}
use Rattle.cells.specs.Places.{cell_count}
use Rattle.cells.specs.declared.dtype.Dtype.{Dtype}
use Rattle.index_intervals.specs.Bounds.{Bounds, minus_infinity, plus_infinity}
use Rattle.index_transform.specs.Transforms.{DomainAndMaps}
use Rattle.index_transform.specs.declared.domain.Domain.{Domain}
use Rattle.index_transform.specs.declared.map.OutMap.{OutMap}
use Rattle.index_transform.specs.declared.map.OutMap.TheVariants.{Constant, Strided, Indexed}
use Rattle.transform_json.specs.Written.{flagged, lower_data, upper_data, are_unlabelled, with_labels, domain_data, with_number, nested_data, map_data, transform_data}
use Rattle.dim_changes.specs.declared.cause.Cause.{Cause}
use Rattle.dim_changes.specs.declared.cause.Cause.TheVariants as step
use Rattle.answer_text.specs.declared.JoinError.{JoinError}
use Rattle.answer_text.specs.declared.JoinError.TheVariants as join
use Rattle.transform_composition.specs.declared.error.ComposeError.{ComposeError}
use Rattle.transform_composition.specs.declared.error.ComposeError.TheVariants as compose
use Rattle.answer_text.specs.declared.BuildCause.{BuildCause}
use Rattle.answer_text.specs.declared.BuildCause.TheVariants as build
use Rattle.answer_text.specs.Nested.{rows}
use Rattle.answer_text.specs.declared.answer.Answer.{Answer}
use Rattle.answer_text.specs.declared.answer.Body.{Body}
use Rattle.answer_text.specs.declared.answer.Body.TheVariants.{Opened, Viewed, Values, Staged, Written, Begun, Committed, Aborted, Resized, Resolved, BadLine, BadSpec, Unsupported, BadStep, UnknownName, InTransaction, NoTransaction, UnknownDim, RepeatedDim, RefusedStep, RefusedView, RefusedJoin, RefusedSpec, NotFound, Exists, PathTaken, Mismatch, BadMeta, Unbounded, TooMany, OutOfRange, Uncovered, BadValues, Conflict, Shrunk, NotAtomic, NotArray, TooManyChunks, StoreFailed, Damaged, Memory}
use Rattle.answer_text.specs.declared.answer.MetaWhy.{MetaWhy}
use Rattle.answer_text.specs.declared.answer.MetaWhy.TheVariants as meta
use Rattle.answer_text.specs.declared.answer.Why.{Why}
use Rattle.answer_text.specs.declared.answer.Why.TheVariants as why
use Rattle.answer_data.specs.Answers.{body_members, answer_data, met_data}
use Rattle.answer_data.specs.Causes.{Member, bound_data, step_members, compose_members, build_members, join_members, meta_members, chunk_members}
use Rattle.answer_data.specs.Members.{numbers_data, indices_data, word_data, values_data}
use Rattle.answer_data.proofs.Members.{IsOrdered, HasOrdered, HasOrdered-put}

abbrev AreOrderedMembers : List Member → Type 0
AreOrderedMembers ms = AllByRecursion (λ (m : Member). IsOrdered m.1) ms

HasOrdered-members_from : (ms : List Member) → AreOrderedMembers ms → HasOrdered (members_from ms)
HasOrdered-members_from [] each = tt
HasOrdered-members_from (m ∷ ms) each = HasOrdered-put m.0 m.1 (members_from ms) each.0 (HasOrdered-members_from ms each.1)

-- an object of members, whatever their order
IsOrdered-object_of : (ms : List Member) → AreOrderedMembers ms → IsOrdered (object_of ms)
IsOrdered-object_of ms each = HasOrdered-members_from ms each

IsOrdered-list_of : {A : Type 0} (f : A → Data) → ((x : A) → IsOrdered (f x)) → (xs : List A) → IsOrdered (list_of (map f xs))
IsOrdered-list_of f each [] = tt
IsOrdered-list_of f each (x ∷ xs) = (each x, IsOrdered-list_of f each xs)

numbers_ordered : (ns : List ℕ) → IsOrdered (numbers_data ns)
numbers_ordered ns = IsOrdered-list_of natural (λ n. tt) ns

indices_ordered : (zs : List ℤ) → IsOrdered (indices_data zs)
indices_ordered zs = IsOrdered-list_of integer (λ z. tt) zs

values_ordered : (dtype : Dtype) (shape words : List ℕ) → IsOrdered (values_data dtype shape words)
values_ordered dtype [] words = tt
values_ordered dtype (size ∷ []) words = IsOrdered-list_of (word_data dtype) (λ w. tt) words
values_ordered dtype (size ∷ s ∷ shape) words =
    IsOrdered-list_of (values_data dtype (s ∷ shape)) (values_ordered dtype (s ∷ shape)) (rows size (cell_count (s ∷ shape)) words)

chosen_ordered : (b : Bool) (d e : Data) → IsOrdered d → IsOrdered e → IsOrdered (cond b d e)
chosen_ordered true d e one other = one
chosen_ordered false d e one other = other

-- ---- domains and transforms

flagged_ordered : (implicit : Bool) (d : Data) → IsOrdered d → IsOrdered (flagged implicit d)
flagged_ordered true d is = (is, tt)
flagged_ordered false d is = is

lower_ordered : (dim : Bounds) → IsOrdered (lower_data dim)
lower_ordered dim = flagged_ordered dim.lo_implicit _ (chosen_ordered (int_eq dim.lo minus_infinity) (string (codes "-inf")) _ tt tt)

upper_ordered : (dim : Bounds) → IsOrdered (upper_data dim)
upper_ordered dim = flagged_ordered dim.hi_implicit _ (chosen_ordered (int_eq dim.hi plus_infinity) (string (codes "+inf")) _ tt tt)

maybe_ordered : (b : Bool) (name : List ℕ) (d : Data) (ms : Members) → IsOrdered d → HasOrdered ms → HasOrdered (cond b ms (put name d ms))
maybe_ordered true name d ms value rest = rest
maybe_ordered false name d ms value rest = HasOrdered-put name d ms value rest

labels_ordered : (name : List ℕ) (labels : List (List ℕ)) (ms : Members) → HasOrdered ms → HasOrdered (with_labels name labels ms)
labels_ordered name labels ms rest = maybe_ordered (are_unlabelled labels) name _ ms (IsOrdered-list_of string (λ label. tt) labels) rest

number_ordered : (name : List ℕ) (usual number : ℤ) (ms : Members) → HasOrdered ms → HasOrdered (with_number name usual number ms)
number_ordered name usual number ms rest = maybe_ordered (int_eq number usual) name (integer number) ms tt rest

domain_ordered : (domain : Domain) → IsOrdered (domain_data domain)
domain_ordered domain =
    HasOrdered-put (codes "exclusive_max") _ _ (IsOrdered-list_of upper_data upper_ordered domain.dims)
    (HasOrdered-put (codes "inclusive_min") _ _ (IsOrdered-list_of lower_data lower_ordered domain.dims) (labels_ordered (codes "labels") domain.labels no_members tt))

nested_ordered : (sizes : List ℕ) (entries : List ℤ) → IsOrdered (nested_data sizes entries)
nested_ordered [] entries = tt
nested_ordered (size ∷ sizes) entries =
    IsOrdered-list_of (λ i. nested_data sizes (take (cell_count sizes) (drop (i * cell_count sizes) entries)))
    (λ i. nested_ordered sizes (take (cell_count sizes) (drop (i * cell_count sizes) entries))) (range_with_len 0 size)

numbers_of_map_ordered : (offset stride : ℤ) → HasOrdered (with_number (codes "offset") (pos 0) offset (with_number (codes "stride") (pos 1) stride no_members))
numbers_of_map_ordered offset stride = number_ordered (codes "offset") (pos 0) offset _ (number_ordered (codes "stride") (pos 1) stride no_members tt)

map_ordered : (m : OutMap) → IsOrdered (map_data m)
map_ordered (Constant offset) = number_ordered (codes "offset") (pos 0) offset no_members tt
map_ordered (Strided offset stride dim) = HasOrdered-put (codes "input_dimension") (natural dim) _ tt (numbers_of_map_ordered offset stride)
map_ordered (Indexed offset stride sizes entries) =
    HasOrdered-put (codes "index_array") (nested_data sizes entries) _ (nested_ordered sizes entries) (numbers_of_map_ordered offset stride)

-- the members behind the labels
abbrev ranked : DomainAndMaps → Members
ranked t = put (codes "input_rank") (natural (length t.domain.dims)) (put (codes "output") (list_of (map map_data t.maps)) no_members)

ranked_ordered : (t : DomainAndMaps) → HasOrdered (ranked t)
ranked_ordered t =
    HasOrdered-put (codes "input_rank") (natural (length t.domain.dims)) (put (codes "output") (list_of (map map_data t.maps)) no_members) tt
    (HasOrdered-put (codes "output") (list_of (map map_data t.maps)) no_members (IsOrdered-list_of map_data map_ordered t.maps) tt)

transform_ordered : (t : DomainAndMaps) → IsOrdered (transform_data t)
transform_ordered t =
    HasOrdered-put (codes "input_exclusive_max") _ _ (IsOrdered-list_of upper_data upper_ordered t.domain.dims)
    (HasOrdered-put (codes "input_inclusive_min") _ _ (IsOrdered-list_of lower_data lower_ordered t.domain.dims)
    (labels_ordered (codes "input_labels") t.domain.labels (ranked t) (ranked_ordered t)))

-- ---- causes

bound_ordered : (z : ℤ) → IsOrdered (bound_data z)
bound_ordered z = chosen_ordered (int_eq z minus_infinity) (string (codes "-inf")) _ tt (chosen_ordered (int_eq z plus_infinity) (string (codes "+inf")) (integer z) tt tt)

step_ordered : (cause : Cause) → AreOrderedMembers (step_members cause)
step_ordered step.Count = (tt, tt)
step_ordered step.Rank = (tt, tt)
step_ordered step.Target = (tt, tt)
step_ordered step.Label = (tt, tt)
step_ordered step.ZeroStep = (tt, tt)
step_ordered step.Unbounded = (tt, tt)
step_ordered step.BadOrder = (tt, tt)
step_ordered (step.OutOfRange lo hi) = (tt, (bound_ordered hi, (bound_ordered lo, tt)))
step_ordered step.IndexDim = (tt, tt)
step_ordered step.Overflow = (tt, tt)
step_ordered step.TooLarge = (tt, tt)

compose_ordered : (cause : ComposeError) → AreOrderedMembers (compose_members cause)
compose_ordered compose.Rank = (tt, tt)
compose_ordered (compose.Overflow k) = (tt, (tt, tt))
compose_ordered (compose.Outside k) = (tt, (tt, tt))
compose_ordered (compose.TooLarge k) = (tt, (tt, tt))
compose_ordered compose.Memory = (tt, tt)

build_ordered : (cause : BuildCause) → AreOrderedMembers (build_members cause)
build_ordered (build.Transform cause) = compose_ordered cause
build_ordered build.Layers = (tt, tt)

join_ordered : (cause : JoinError) → AreOrderedMembers (join_members cause)
join_ordered join.Depth = (tt, tt)
join_ordered (join.Layers k) = (tt, (tt, tt))
join_ordered join.Axis = (tt, tt)
join_ordered join.Rank = (tt, tt)
join_ordered (join.Unbounded k) = (tt, (tt, tt))
join_ordered (join.Overflow k) = (tt, (tt, tt))
join_ordered join.Memory = (tt, tt)

meta_ordered : (cause : MetaWhy) → AreOrderedMembers (meta_members cause)
meta_ordered meta.Json = (tt, tt)
meta_ordered (meta.Member name) = (tt, (tt, tt))
meta_ordered (meta.Unsupported name) = (tt, (tt, tt))

chunk_ordered : (cause : Why) → AreOrderedMembers (chunk_members cause)
chunk_ordered (why.Length have want) = (tt, (tt, (tt, tt)))
chunk_ordered (why.Mode have) = (tt, (tt, tt))
chunk_ordered (why.Rank have) = (tt, (tt, tt))
chunk_ordered (why.Size dim have) = (tt, (tt, (tt, tt)))

met_ordered : (at : ℕ) (path : List ℕ) → IsOrdered (met_data at path)
met_ordered at path = IsOrdered-object_of ((codes "at", natural at) ∷ (codes "path", string path) ∷ []) (tt, (tt, tt))

-- ---- bodies

body_ordered : (body : Body) → AreOrderedMembers (body_members body)
body_ordered (Opened name dtype domain events) = (domain_ordered domain, (tt, (numbers_ordered events, (tt, tt))))
body_ordered (Viewed name dtype transform) = (tt, (transform_ordered transform, (tt, tt)))
body_ordered (Values origin shape dtype words) = (indices_ordered origin, (values_ordered dtype shape words, tt))
body_ordered (Staged cells) = (tt, tt)
body_ordered (Written cells events) = (numbers_ordered events, (tt, tt))
body_ordered Begun = (tt, tt)
body_ordered (Committed events) = (numbers_ordered events, tt)
body_ordered Aborted = (tt, tt)
body_ordered (Resized event) = (tt, tt)
body_ordered (Resolved name dtype transform) = (tt, (tt, (transform_ordered transform, tt)))
body_ordered (BadLine text) = (tt, tt)
body_ordered (BadSpec path None) = (tt, tt)
body_ordered (BadSpec path (Some events)) = (tt, (numbers_ordered events, tt))
body_ordered (Unsupported path) = (tt, tt)
body_ordered (BadStep step) = (IsOrdered-object_of ((codes "step", natural step) ∷ []) (tt, tt), tt)
body_ordered (UnknownName name) = (tt, tt)
body_ordered InTransaction = (tt, tt)
body_ordered NoTransaction = (tt, tt)
body_ordered (UnknownDim step) = (IsOrdered-object_of ((codes "step", natural step) ∷ []) (tt, tt), tt)
body_ordered (RepeatedDim step) = (IsOrdered-object_of ((codes "step", natural step) ∷ []) (tt, tt), tt)
body_ordered (RefusedStep step cause) = (IsOrdered-object_of ((codes "step", natural step) ∷ step_members cause) (tt, step_ordered cause), tt)
body_ordered (RefusedView cause) = (IsOrdered-object_of (compose_members cause) (compose_ordered cause), tt)
body_ordered (RefusedJoin cause) = (IsOrdered-object_of (join_members cause) (join_ordered cause), tt)
body_ordered (RefusedSpec path cause events) =
    (IsOrdered-object_of ((codes "path", string path) ∷ build_members cause) (tt, build_ordered cause), (numbers_ordered events, tt))
body_ordered (NotFound at path events) = (met_ordered at path, (numbers_ordered events, tt))
body_ordered (Exists at path events) = (met_ordered at path, (numbers_ordered events, tt))
body_ordered (PathTaken at path events) = (met_ordered at path, (numbers_ordered events, tt))
body_ordered (Mismatch at member path events) =
    (IsOrdered-object_of ((codes "at", natural at) ∷ (codes "member", string member) ∷ (codes "path", string path) ∷ []) (tt, (tt, (tt, tt))), (numbers_ordered events, tt))
body_ordered (BadMeta key why events) =
    (IsOrdered-object_of ((codes "key", string key) ∷ meta_members why) (tt, meta_ordered why), (numbers_ordered events, tt))
body_ordered (Unbounded dim) = (IsOrdered-object_of ((codes "dim", natural dim) ∷ []) (tt, tt), tt)
body_ordered (TooMany dim) = (IsOrdered-object_of ((codes "dim", natural dim) ∷ []) (tt, tt), tt)
body_ordered (OutOfRange cell dim) =
    (IsOrdered-object_of ((codes "cell", indices_data cell) ∷ (codes "dim", natural dim) ∷ []) (indices_ordered cell, (tt, tt)), tt)
body_ordered (Uncovered cell) = (IsOrdered-object_of ((codes "cell", indices_data cell) ∷ []) (indices_ordered cell, tt), tt)
body_ordered (BadValues path) = (numbers_ordered path, tt)
body_ordered (Conflict key read now) =
    (IsOrdered-object_of ((codes "key", string key) ∷ (codes "now", natural now) ∷ (codes "read", natural read) ∷ []) (tt, (tt, (tt, tt))), tt)
body_ordered (Shrunk key now) = (IsOrdered-object_of ((codes "key", string key) ∷ (codes "now", natural now) ∷ []) (tt, (tt, tt)), tt)
body_ordered (NotAtomic keys) = (IsOrdered-object_of ((codes "keys", natural keys) ∷ []) (tt, tt), tt)
body_ordered NotArray = (tt, tt)
body_ordered (TooManyChunks at) = (IsOrdered-object_of ((codes "at", natural at) ∷ []) (tt, tt), tt)
body_ordered (StoreFailed event done None) =
    (IsOrdered-object_of ((codes "done", numbers_data done) ∷ (codes "event", natural event) ∷ []) (numbers_ordered done, (tt, tt)), tt)
body_ordered (StoreFailed event done (Some events)) =
    (IsOrdered-object_of ((codes "done", numbers_data done) ∷ (codes "event", natural event) ∷ []) (numbers_ordered done, (tt, tt)), (numbers_ordered events, tt))
body_ordered (Damaged key why) =
    (IsOrdered-object_of ((codes "key", string key) ∷ chunk_members why) (tt, chunk_ordered why), tt)
body_ordered Memory = (tt, tt)

pub answer_ordered : (a : Answer) → IsOrdered (answer_data a)
answer_ordered a = IsOrdered-object_of ((codes "line", natural a.line) ∷ body_members a.body) (tt, body_ordered a.body)
