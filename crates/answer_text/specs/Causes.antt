-- The texts of causes.
use Rattle.std.specs.Prelude.{ℕ, ℤ, List, [], ◌++◌, codes, decimal}
use Rattle.dim_changes.specs.declared.cause.Cause.{Cause}
use Rattle.dim_changes.specs.declared.cause.Cause.TheVariants as step
use Rattle.layer_join.specs.declared.error.JoinError.{JoinError}
use Rattle.layer_join.specs.declared.error.JoinError.TheVariants as join
use Rattle.transform_composition.specs.declared.error.ComposeError.{ComposeError}
use Rattle.transform_composition.specs.declared.error.ComposeError.TheVariants as compose
use Rattle.spec_open.specs.declared.error.BuildCause.{BuildCause}
use Rattle.spec_open.specs.declared.error.BuildCause.TheVariants as build
use Rattle.answer_text.specs.declared.answer.MetaWhy.{MetaWhy}
use Rattle.answer_text.specs.declared.answer.MetaWhy.TheVariants as meta
use Rattle.answer_text.specs.declared.answer.Why.{Why}
use Rattle.answer_text.specs.declared.answer.Why.TheVariants as why
use Rattle.answer_text.specs.Pieces.{text_of, bound_text}

-- an index leaves these effective bounds
unfoldable pub bounds_text : ℤ → ℤ → List ℕ
bounds_text lo hi = codes "{\"cause\":\"out_of_range\",\"hi\":" ++ bound_text hi ++ codes ",\"lo\":" ++ bound_text lo

-- why a step is refused, with the effective bounds that an index leaves
unfoldable pub step_why : Cause → List ℕ
step_why step.Count = codes "{\"cause\":\"count\""
step_why step.Rank = codes "{\"cause\":\"rank\""
step_why step.Target = codes "{\"cause\":\"target\""
step_why step.Label = codes "{\"cause\":\"label\""
step_why step.ZeroStep = codes "{\"cause\":\"zero_step\""
step_why step.Unbounded = codes "{\"cause\":\"unbounded\""
step_why step.BadOrder = codes "{\"cause\":\"bad_order\""
step_why (step.OutOfRange lo hi) = bounds_text lo hi
step_why step.IndexDim = codes "{\"cause\":\"index_dim\""
step_why step.Overflow = codes "{\"cause\":\"overflow\""
step_why step.TooLarge = codes "{\"cause\":\"too_large\""

-- the same with the step's number
unfoldable pub step_cause : Cause → ℕ → List ℕ
step_cause cause k = step_why cause ++ (codes ",\"step\":" ++ decimal k ++ codes "}")

-- why transforms don't compose: `cause`, and `output` where it has one; want of memory is told by another answer
unfoldable pub compose_why : ComposeError → List ℕ
compose_why compose.Rank = codes "{\"cause\":\"rank\""
compose_why (compose.Overflow k) = codes "{\"cause\":\"overflow\",\"output\":" ++ decimal k ++ []
compose_why (compose.Outside k) = codes "{\"cause\":\"outside\",\"output\":" ++ decimal k ++ []
compose_why (compose.TooLarge k) = codes "{\"cause\":\"too_large\",\"output\":" ++ decimal k ++ []
compose_why compose.Memory = codes "{\"cause\":\"memory\""

unfoldable pub compose_cause : ComposeError → List ℕ
compose_cause cause = compose_why cause ++ codes "}"

-- why a node of a Spec gives no view
unfoldable pub build_why : BuildCause → List ℕ
build_why (build.Transform cause) = compose_why cause
build_why build.Layers = codes "{\"cause\":\"layers\""

unfoldable pub build_cause : BuildCause → List ℕ → List ℕ
build_cause cause path = build_why cause ++ (codes ",\"path\":" ++ text_of path ++ codes "}")

-- why views aren't joined
unfoldable pub join_cause : JoinError → List ℕ
join_cause join.Depth = codes "{\"cause\":\"depth\"}"
join_cause (join.Layers k) = codes "{\"cause\":\"layers\",\"layer\":" ++ decimal k ++ codes "}"
join_cause join.Axis = codes "{\"cause\":\"axis\"}"
join_cause join.Rank = codes "{\"cause\":\"rank\"}"
join_cause (join.Unbounded k) = codes "{\"cause\":\"unbounded\",\"layer\":" ++ decimal k ++ codes "}"
join_cause (join.Overflow k) = codes "{\"cause\":\"overflow\",\"layer\":" ++ decimal k ++ codes "}"
join_cause join.Memory = codes "{\"cause\":\"memory\"}"

-- why bytes are no metadata
unfoldable pub meta_why : List ℕ → MetaWhy → List ℕ
meta_why key meta.Json = codes "{\"key\":" ++ text_of key ++ codes ",\"why\":\"json\"}"
meta_why key (meta.Member name) = codes "{\"key\":" ++ text_of key ++ codes ",\"member\":" ++ text_of name ++ codes ",\"why\":\"member\"}"
meta_why key (meta.Unsupported name) = codes "{\"key\":" ++ text_of key ++ codes ",\"member\":" ++ text_of name ++ codes ",\"why\":\"unsupported\"}"

-- why bytes are no chunk
unfoldable pub chunk_why : List ℕ → Why → List ℕ
chunk_why key (why.Length have want) =
    codes "{\"have\":" ++ decimal have ++ codes ",\"key\":" ++ text_of key ++ codes ",\"want\":" ++ decimal want ++ codes ",\"why\":\"length\"}"
chunk_why key (why.Mode have) = codes "{\"have\":" ++ decimal have ++ codes ",\"key\":" ++ text_of key ++ codes ",\"why\":\"mode\"}"
chunk_why key (why.Rank have) = codes "{\"have\":" ++ decimal have ++ codes ",\"key\":" ++ text_of key ++ codes ",\"why\":\"rank\"}"
chunk_why key (why.Size dim have) =
    codes "{\"dim\":" ++ decimal dim ++ codes ",\"have\":" ++ decimal have ++ codes ",\"key\":" ++ text_of key ++ codes ",\"why\":\"size\"}"
