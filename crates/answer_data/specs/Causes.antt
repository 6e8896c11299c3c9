-- The members that tell why something was refused.
use Rattle.std.specs.Prelude.{ℕ, ℤ, List, [], ◌∷◌, codes, if◌then◌else◌}
use Rattle.std.specs.Ordering.{int_eq}
use Rattle.serde_json.specs.Data.{Data, string}
use Rattle.json_forms.specs.Numbers.{natural, integer}
use Rattle.dim_changes.specs.declared.cause.Cause.{Cause}
use Rattle.dim_changes.specs.declared.cause.Cause.TheVariants as step
use Rattle.index_intervals.specs.Bounds.{minus_infinity, plus_infinity}
use Rattle.answer_text.specs.declared.JoinError.{JoinError}
use Rattle.answer_text.specs.declared.JoinError.TheVariants as join
use Rattle.transform_composition.specs.declared.error.ComposeError.{ComposeError}
use Rattle.transform_composition.specs.declared.error.ComposeError.TheVariants as compose
use Rattle.answer_text.specs.declared.BuildCause.{BuildCause}
use Rattle.answer_text.specs.declared.BuildCause.TheVariants as build
use Rattle.answer_text.specs.declared.answer.MetaWhy.{MetaWhy}
use Rattle.answer_text.specs.declared.answer.MetaWhy.TheVariants as meta
use Rattle.answer_text.specs.declared.answer.Why.{Why}
use Rattle.answer_text.specs.declared.answer.Why.TheVariants as why

-- a member by its name
abbrev pub Member : Type 0
Member = List ℕ × Data

-- a bound: an index, or an infinity as a text
abbrev pub bound_data : ℤ → Data
bound_data z =
    if int_eq z minus_infinity then string (codes "-inf")
    else (if int_eq z plus_infinity then string (codes "+inf") else integer z)

-- the cause's name
abbrev pub cause_member : List ℕ → Member
cause_member name = (codes "cause", string name)

-- why a step is refused, with the effective bounds that an index leaves
abbrev pub step_members : Cause → List Member
step_members step.Count = cause_member (codes "count") ∷ []
step_members step.Rank = cause_member (codes "rank") ∷ []
step_members step.Target = cause_member (codes "target") ∷ []
step_members step.Label = cause_member (codes "label") ∷ []
step_members step.ZeroStep = cause_member (codes "zero_step") ∷ []
step_members step.Unbounded = cause_member (codes "unbounded") ∷ []
step_members step.BadOrder = cause_member (codes "bad_order") ∷ []
step_members (step.OutOfRange lo hi) =
    cause_member (codes "out_of_range") ∷ (codes "hi", bound_data hi) ∷ (codes "lo", bound_data lo) ∷ []
step_members step.IndexDim = cause_member (codes "index_dim") ∷ []
step_members step.Overflow = cause_member (codes "overflow") ∷ []
step_members step.TooLarge = cause_member (codes "too_large") ∷ []

-- why transforms don't compose, with the output at fault
abbrev pub compose_members : ComposeError → List Member
compose_members compose.Rank = cause_member (codes "rank") ∷ []
compose_members (compose.Overflow k) = cause_member (codes "overflow") ∷ (codes "output", natural k) ∷ []
compose_members (compose.Outside k) = cause_member (codes "outside") ∷ (codes "output", natural k) ∷ []
compose_members (compose.TooLarge k) = cause_member (codes "too_large") ∷ (codes "output", natural k) ∷ []
compose_members compose.Memory = cause_member (codes "memory") ∷ []

-- why a node of a Spec gives no view
abbrev pub build_members : BuildCause → List Member
build_members (build.Transform cause) = compose_members cause
build_members build.Layers = cause_member (codes "layers") ∷ []

-- why views aren't joined, with the layer at fault
abbrev pub join_members : JoinError → List Member
join_members join.Depth = cause_member (codes "depth") ∷ []
join_members (join.Layers k) = cause_member (codes "layers") ∷ (codes "layer", natural k) ∷ []
join_members join.Axis = cause_member (codes "axis") ∷ []
join_members join.Rank = cause_member (codes "rank") ∷ []
join_members (join.Unbounded k) = cause_member (codes "unbounded") ∷ (codes "layer", natural k) ∷ []
join_members (join.Overflow k) = cause_member (codes "overflow") ∷ (codes "layer", natural k) ∷ []
join_members join.Memory = cause_member (codes "memory") ∷ []

-- why bytes are no metadata
abbrev pub meta_members : MetaWhy → List Member
meta_members meta.Json = (codes "why", string (codes "json")) ∷ []
meta_members (meta.Member name) = (codes "member", string name) ∷ (codes "why", string (codes "member")) ∷ []
meta_members (meta.Unsupported name) = (codes "member", string name) ∷ (codes "why", string (codes "unsupported")) ∷ []

-- why bytes are no chunk
abbrev pub chunk_members : Why → List Member
chunk_members (why.Length have want) =
    (codes "have", natural have) ∷ (codes "want", natural want) ∷ (codes "why", string (codes "length")) ∷ []
chunk_members (why.Mode have) = (codes "have", natural have) ∷ (codes "why", string (codes "mode")) ∷ []
chunk_members (why.Rank have) = (codes "have", natural have) ∷ (codes "why", string (codes "rank")) ∷ []
chunk_members (why.Size dim have) =
    (codes "dim", natural dim) ∷ (codes "have", natural have) ∷ (codes "why", string (codes "size")) ∷ []
