-- An answer reads back whose texts are UTF-8 and whose numbers take 64 bits, where its values are along few dimensions.
use Rattle.std.proofs.Common.{◌<◌, ◌^◌, pos, ◌+ℤ◌, List, [], ◌∷◌, length, map, refl, arith}
use Rattle.std.specs.Prelude.{codes}
use Rattle.std.specs.List.{AllByRecursion}
use Rattle.std.specs.Ordering.{int_eq}
use Rattle.std.proofs.lemmas.Int.{ints}
use Rattle.serde_json.specs.Data.{Data, string, no_members}
use Rattle.json_forms.specs.Lists.{list_of}
use Rattle.json_forms.specs.Numbers.{natural, integer}
use Rattle.index_intervals.specs.Bounds.{Bounds, minus_infinity, plus_infinity}
use Rattle.index_transform.specs.Transforms.{DomainAndMaps}
use Rattle.index_transform.specs.declared.domain.Domain.{Domain}
use Rattle.index_transform.specs.declared.map.OutMap.{OutMap}
use Rattle.index_transform.specs.declared.map.OutMap.TheVariants.{Constant, Strided, Indexed}
use Rattle.transform_composition.specs.declared.error.ComposeError.{ComposeError}
use Rattle.transform_composition.specs.declared.error.ComposeError.TheVariants as compose
use Rattle.transform_json.specs.Written.{lower_data, upper_data, domain_data, map_data, transform_data}
use Rattle.history.specs.Answers as answer
use Rattle.history.specs.Answers.{Answer, Body, StepCause, BuildCause}
use Rattle.transcript_laws.specs.Bodies.{body_of, answer_of}
use Rattle.transcript_laws.specs.Causes.{step_members, compose_members, build_members}
use Rattle.transcript_laws.specs.LineCauses.{step_cause, build_cause}
use Rattle.transcript_laws.specs.Members.{indices_data}
use Rattle.transcript_laws.specs.Printable.{IsPrintable}
use Rattle.output_laws.specs.Flat.{IsFlat}
use Rattle.output_laws.specs.Plain.{IsPlain, IsPlainMember, IsWhole}
use Rattle.output_laws.specs.Typed.{IsFlatBody, IsTypedBody}
use Rattle.output_laws.specs.Small.{IsSmallDim, IsSmallMap, IsSmall, IsSmallFault}
use Rattle.output_laws.specs.Parts.{IsSmallDomain, IsSmallStepCause, IsSmallBuildCause, IsSmallBody}
use Rattle.output_laws.proofs.Plain.{outer, inner, wider, object_outer, list_plain, natural_plain, integer_plain, text_plain, true_plain, closed_plain, dtype_plain, numbers_plain, indices_plain, cause_plain, bound_plain, no_plain, flagged_plain, put_named, labels_plain, object_plain, either_plain, nested_plain, number_member}
use Rattle.output_laws.proofs.TypedBodies.{bad_spec_typed, body_typed, store_failed_typed, values_typed}

-- ---- domains and transforms

lower_plain : (dim : Bounds) → IsSmallDim dim → IsPlain 1 (lower_data dim)
lower_plain dim small =
    let is : IsWhole dim.lo = record { from_least = omega (arith, ints, small.lo.from_least); to_greatest = omega (arith, ints, small.lo.to_greatest) } in
    flagged_plain dim.lo_implicit _ (either_plain (int_eq dim.lo minus_infinity) 0 (string (codes "-inf")) (integer dim.lo) (closed_plain 0 (codes "-inf") refl) (integer_plain 0 dim.lo is))

upper_plain : (dim : Bounds) → IsSmallDim dim → IsPlain 1 (upper_data dim)
upper_plain dim small =
    let is : IsWhole (dim.hi +ℤ pos 1) = record { from_least = omega (arith, ints, small.hi.from_least); to_greatest = omega (arith, ints, small.hi.to_greatest) } in
    flagged_plain dim.hi_implicit _
    (either_plain (int_eq dim.hi plus_infinity) 0 (string (codes "+inf")) (integer (dim.hi +ℤ pos 1)) (closed_plain 0 (codes "+inf") refl) (integer_plain 0 (dim.hi +ℤ pos 1) is))

bounds_plain : (f : Bounds → Data) → ((dim : Bounds) → IsSmallDim dim → IsPlain 1 (f dim)) → (dims : List Bounds) → AllByRecursion IsSmallDim dims → IsPlain 2 (list_of (map f dims))
bounds_plain f each dims small = list_plain f dims 1 (go dims small)
  where
    go : (xs : List Bounds) → AllByRecursion IsSmallDim xs → AllByRecursion (λ dim. IsPlain 1 (f dim)) xs
    go [] all = tt
    go (x ∷ xs) all = (each x all.0, go xs all.1)

domain_plain : (domain : Domain) → IsSmallDomain domain → IsPlain 3 (domain_data domain)
domain_plain domain small =
    object_plain 2 _
    (put_named 2 (codes "exclusive_max") _ _ refl (bounds_plain upper_data upper_plain domain.dims small.dims)
    (put_named 2 (codes "inclusive_min") _ _ refl (bounds_plain lower_data lower_plain domain.dims small.dims)
    (labels_plain 2 (codes "labels") domain.labels no_members refl small.labels (omega arith) (no_plain 2))))

map_plain : (m : OutMap) → IsSmallMap m → IsPlain 33 (map_data m)
map_plain (Constant offset) small = object_plain 32 _ (number_member 32 (codes "offset") (pos 0) offset no_members refl small (no_plain 32))
map_plain (Strided offset stride dim) small =
    object_plain 32 _
    (put_named 32 (codes "input_dimension") _ _ refl (natural_plain 32 dim small.2)
    (number_member 32 (codes "offset") (pos 0) offset _ refl small.0
    (number_member 32 (codes "stride") (pos 1) stride no_members refl small.1 (no_plain 32))))
map_plain (Indexed offset stride sizes entries) small =
    object_plain 32 _
    (put_named 32 (codes "index_array") _ _ refl (wider (length sizes) 32 _ small.2 (nested_plain sizes entries small.3))
    (number_member 32 (codes "offset") (pos 0) offset _ refl small.0
    (number_member 32 (codes "stride") (pos 1) stride no_members refl small.1 (no_plain 32))))

transform_plain : (t : DomainAndMaps) → IsSmall t → IsPlain 35 (transform_data t)
transform_plain t small =
    let few = small.few in
    object_plain 34 _
    (put_named 34 (codes "input_exclusive_max") _ _ refl (wider 2 34 _ (omega arith) (bounds_plain upper_data upper_plain t.domain.dims small.dims))
    (put_named 34 (codes "input_inclusive_min") _ _ refl (wider 2 34 _ (omega arith) (bounds_plain lower_data lower_plain t.domain.dims small.dims))
    (labels_plain 34 (codes "input_labels") t.domain.labels _ refl small.labels (omega arith)
    (put_named 34 (codes "input_rank") _ _ refl (natural_plain 34 (length t.domain.dims) (omega (arith, few)))
    (put_named 34 (codes "output") _ no_members refl (list_plain map_data t.maps 33 (go t.maps small.maps)) (no_plain 34))))))
  where
    go : (xs : List OutMap) → AllByRecursion IsSmallMap xs → AllByRecursion (λ m. IsPlain 33 (map_data m)) xs
    go [] all = tt
    go (x ∷ xs) all = (map_plain x all.0, go xs all.1)

-- ---- causes

step_plain : (c : StepCause) → IsSmallStepCause c → AllByRecursion IsPlainMember (step_members (step_cause c))
step_plain answer.count small = (cause_plain (codes "count") refl, tt)
step_plain answer.rank small = (cause_plain (codes "rank") refl, tt)
step_plain answer.target small = (cause_plain (codes "target") refl, tt)
step_plain answer.label small = (cause_plain (codes "label") refl, tt)
step_plain answer.zero_step small = (cause_plain (codes "zero_step") refl, tt)
step_plain answer.unbounded_step small = (cause_plain (codes "unbounded") refl, tt)
step_plain answer.bad_order small = (cause_plain (codes "bad_order") refl, tt)
step_plain (answer.out_of_bounds lo hi) small = (cause_plain (codes "out_of_range") refl, (inner 0 refl (omega arith) (bound_plain 0 hi small.1), (inner 0 refl (omega arith) (bound_plain 0 lo small.0), tt)))
step_plain answer.index_dim small = (cause_plain (codes "index_dim") refl, tt)
step_plain answer.step_overflow small = (cause_plain (codes "overflow") refl, tt)
step_plain answer.too_large small = (cause_plain (codes "too_large") refl, tt)

compose_plain : (e : ComposeError) → IsSmallFault e → AllByRecursion IsPlainMember (compose_members e)
compose_plain compose.Rank small = (cause_plain (codes "rank") refl, tt)
compose_plain (compose.Overflow output) small = (cause_plain (codes "overflow") refl, (inner 0 refl (omega arith) (natural_plain 0 output small), tt))
compose_plain (compose.Outside output) small = (cause_plain (codes "outside") refl, (inner 0 refl (omega arith) (natural_plain 0 output small), tt))
compose_plain (compose.TooLarge output) small = (cause_plain (codes "too_large") refl, (inner 0 refl (omega arith) (natural_plain 0 output small), tt))
compose_plain compose.Memory small = (cause_plain (codes "memory") refl, tt)

build_plain : (c : BuildCause) → IsSmallBuildCause c → AllByRecursion IsPlainMember (build_members (build_cause c))
build_plain (answer.by_transform cause) small = compose_plain cause small
build_plain answer.layers small = (cause_plain (codes "layers") refl, tt)

-- ---- bodies

-- what such a body is printed as
pub small_typed : (b : Body) → IsSmallBody b → IsTypedBody (body_of b)
small_typed (answer.opened name dtype domain events) small =
    body_typed _ (outer 3 refl (omega arith) (domain_plain domain small.1), (outer 0 refl (omega arith) (dtype_plain 0 dtype), (outer 1 refl (omega arith) (numbers_plain events small.2), (outer 0 refl (omega arith) (text_plain 0 name small.0), tt))))
small_typed (answer.viewed name dtype transform) small =
    body_typed _ (outer 0 refl (omega arith) (dtype_plain 0 dtype), (outer 35 refl (omega arith) (transform_plain transform small.1), (outer 0 refl (omega arith) (text_plain 0 name small.0), tt)))
small_typed (answer.values origin shape dtype words) small = values_typed origin shape dtype words small.0 small.1
small_typed (answer.staged cells) small = body_typed _ (outer 0 refl (omega arith) (natural_plain 0 cells small), tt)
small_typed (answer.written cells events) small = body_typed _ (outer 1 refl (omega arith) (numbers_plain events small.1), (outer 0 refl (omega arith) (natural_plain 0 cells small.0), tt))
small_typed answer.begun small = body_typed _ (outer 0 refl (omega arith) (true_plain 0), tt)
small_typed (answer.committed events) small = body_typed _ (outer 1 refl (omega arith) (numbers_plain events small), tt)
small_typed answer.aborted small = body_typed _ (outer 0 refl (omega arith) (true_plain 0), tt)
small_typed (answer.resized event) small = body_typed _ (outer 0 refl (omega arith) (natural_plain 0 event small), tt)
small_typed (answer.resolved name dtype transform) small =
    body_typed _ (outer 0 refl (omega arith) (dtype_plain 0 dtype), (outer 0 refl (omega arith) (text_plain 0 name small.0), (outer 35 refl (omega arith) (transform_plain transform small.1), tt)))
small_typed (answer.bad_line text) small = body_typed _ (outer 0 refl (omega arith) (text_plain 0 text small), tt)
small_typed (answer.bad_spec path events) small = bad_spec_typed path events small.0 small.1
small_typed (answer.unsupported path) small = body_typed _ (outer 0 refl (omega arith) (text_plain 0 path small), tt)
small_typed (answer.bad_step step) small = body_typed _ (object_outer ((codes "step", natural step) ∷ []) refl (inner 0 refl (omega arith) (natural_plain 0 step small), tt), tt)
small_typed (answer.unknown_name name) small = body_typed _ (outer 0 refl (omega arith) (text_plain 0 name small), tt)
small_typed answer.in_transaction small = body_typed _ (outer 0 refl (omega arith) (true_plain 0), tt)
small_typed answer.no_transaction small = body_typed _ (outer 0 refl (omega arith) (true_plain 0), tt)
small_typed (answer.unknown_dim step) small = body_typed _ (object_outer ((codes "step", natural step) ∷ []) refl (inner 0 refl (omega arith) (natural_plain 0 step small), tt), tt)
small_typed (answer.repeated_dim step) small = body_typed _ (object_outer ((codes "step", natural step) ∷ []) refl (inner 0 refl (omega arith) (natural_plain 0 step small), tt), tt)
small_typed (answer.refused_step step cause) small =
    body_typed _ (object_outer ((codes "step", natural step) ∷ step_members (step_cause cause)) refl (inner 0 refl (omega arith) (natural_plain 0 step small.0), step_plain cause small.1), tt)
small_typed (answer.refused_view cause) small = body_typed _ (object_outer (compose_members cause) refl (compose_plain cause small), tt)
small_typed (answer.refused_join cause) small = absurd small
small_typed (answer.refused_spec path cause events) small =
    body_typed _ (object_outer ((codes "path", string path) ∷ build_members (build_cause cause)) refl (inner 0 refl (omega arith) (text_plain 0 path small.0), build_plain cause small.1), (outer 1 refl (omega arith) (numbers_plain events small.2), tt))
small_typed (answer.not_found at path events) small =
    body_typed _ (object_outer ((codes "at", natural at) ∷ (codes "path", string path) ∷ []) refl (inner 0 refl (omega arith) (natural_plain 0 at small.0), (inner 0 refl (omega arith) (text_plain 0 path small.1), tt)), (outer 1 refl (omega arith) (numbers_plain events small.2), tt))
small_typed (answer.exists at path events) small =
    body_typed _ (object_outer ((codes "at", natural at) ∷ (codes "path", string path) ∷ []) refl (inner 0 refl (omega arith) (natural_plain 0 at small.0), (inner 0 refl (omega arith) (text_plain 0 path small.1), tt)), (outer 1 refl (omega arith) (numbers_plain events small.2), tt))
small_typed (answer.path_taken at path events) small =
    body_typed _ (object_outer ((codes "at", natural at) ∷ (codes "path", string path) ∷ []) refl (inner 0 refl (omega arith) (natural_plain 0 at small.0), (inner 0 refl (omega arith) (text_plain 0 path small.1), tt)), (outer 1 refl (omega arith) (numbers_plain events small.2), tt))
small_typed (answer.mismatch at member path events) small =
    body_typed _ (
      object_outer ((codes "at", natural at) ∷ (codes "member", string member) ∷ (codes "path", string path) ∷ []) refl
          (inner 0 refl (omega arith) (natural_plain 0 at small.0), (inner 0 refl (omega arith) (text_plain 0 member small.1), (inner 0 refl (omega arith) (text_plain 0 path small.2), tt))),
      (outer 1 refl (omega arith) (numbers_plain events small.3), tt),
    )
small_typed (answer.bad_metadata key why events) small = absurd small
small_typed (answer.unbounded dim) small = body_typed _ (object_outer ((codes "dim", natural dim) ∷ []) refl (inner 0 refl (omega arith) (natural_plain 0 dim small), tt), tt)
small_typed (answer.too_many dim) small = body_typed _ (object_outer ((codes "dim", natural dim) ∷ []) refl (inner 0 refl (omega arith) (natural_plain 0 dim small), tt), tt)
small_typed (answer.out_of_range cell dim) small =
    body_typed _ (object_outer ((codes "cell", indices_data cell) ∷ (codes "dim", natural dim) ∷ []) refl (inner 1 refl (omega arith) (indices_plain cell small.0), (inner 0 refl (omega arith) (natural_plain 0 dim small.1), tt)), tt)
small_typed (answer.uncovered cell) small = body_typed _ (object_outer ((codes "cell", indices_data cell) ∷ []) refl (inner 1 refl (omega arith) (indices_plain cell small), tt), tt)
small_typed (answer.bad_values path) small = body_typed _ (outer 1 refl (omega arith) (numbers_plain path small), tt)
small_typed (answer.conflict key read now) small =
    body_typed _ (
      object_outer ((codes "key", string key) ∷ (codes "now", natural now) ∷ (codes "read", natural read) ∷ []) refl
          (inner 0 refl (omega arith) (text_plain 0 key small.0), (inner 0 refl (omega arith) (natural_plain 0 now small.2), (inner 0 refl (omega arith) (natural_plain 0 read small.1), tt))),
      tt,
    )
small_typed (answer.shrunk key now) small =
    body_typed _ (object_outer ((codes "key", string key) ∷ (codes "now", natural now) ∷ []) refl (inner 0 refl (omega arith) (text_plain 0 key small.0), (inner 0 refl (omega arith) (natural_plain 0 now small.1), tt)), tt)
small_typed (answer.not_atomic keys) small = body_typed _ (object_outer ((codes "keys", natural keys) ∷ []) refl (inner 0 refl (omega arith) (natural_plain 0 keys small), tt), tt)
small_typed answer.not_array small = body_typed _ (outer 0 refl (omega arith) (true_plain 0), tt)
small_typed (answer.too_many_chunks at) small = body_typed _ (object_outer ((codes "at", natural at) ∷ []) refl (inner 0 refl (omega arith) (natural_plain 0 at small), tt), tt)
small_typed (answer.store_failed event done events) small = store_failed_typed event done events small.0 small.1 small.2
small_typed (answer.damaged key cause) small = absurd small
small_typed answer.memory small = body_typed _ (outer 0 refl (omega arith) (true_plain 0), tt)

flat_small : (b : Body) → IsFlat b → IsSmallBody b → IsFlatBody (body_of b)
flat_small (answer.values origin shape dtype words) flat small = flat
flat_small (answer.bad_metadata key why events) flat small = absurd small
flat_small (answer.damaged key cause) flat small = absurd small
flat_small b flat small = tt

-- such an answer reads back
pub small_printable : (a : Answer) → a.line < 2 ^ 64 → IsFlat a.body → IsSmallBody a.body → IsPrintable (answer_of a)
small_printable a low flat small = ((small_typed a.body small).at_line a.line low).printable (flat_small a.body flat small)
