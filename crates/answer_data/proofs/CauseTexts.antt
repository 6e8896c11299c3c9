-- The texts of causes are those of their data.
use Rattle.std.proofs.Common.{◌≡◌, ℕ, List, [], ◌∷◌, ◌++◌, decimal, refl, ap, ◌∙◌}
use Rattle.std.specs.Prelude.{codes}
use Rattle.json.specs.Print.{escape_byte}
use Rattle.serde_json.specs.Data.{string}
use Rattle.serde_json.specs.Written.{compact_text}
use Rattle.json_forms.specs.Members.{object_of}
use Rattle.json_forms.specs.Numbers.{natural}
use Rattle.dim_changes.specs.declared.cause.Cause.{Cause}
use Rattle.dim_changes.specs.declared.cause.Cause.TheVariants as step
use Rattle.answer_text.specs.declared.JoinError.{JoinError}
use Rattle.answer_text.specs.declared.JoinError.TheVariants as join
use Rattle.transform_composition.specs.declared.error.ComposeError.{ComposeError}
use Rattle.transform_composition.specs.declared.error.ComposeError.TheVariants as compose
use Rattle.answer_text.specs.declared.BuildCause.{BuildCause}
use Rattle.answer_text.specs.declared.BuildCause.TheVariants as build
use Rattle.answer_text.specs.declared.answer.MetaWhy.{MetaWhy}
use Rattle.answer_text.specs.declared.answer.MetaWhy.TheVariants as meta
use Rattle.answer_text.specs.declared.answer.Why.{Why}
use Rattle.answer_text.specs.declared.answer.Why.TheVariants as why
use Rattle.answer_text.specs.Causes.{bounds_text, step_why, step_cause, compose_why, compose_cause, build_why, build_cause, join_cause, meta_why, chunk_why}
use Rattle.answer_text.specs.Pieces.{text_of, bound_text}
use Rattle.answer_data.specs.Causes.{bound_data, step_members, compose_members, build_members, join_members, meta_members, chunk_members}
use Rattle.answer_data.proofs.Bracketing.{part, both, row, text-flat}
use Rattle.answer_data.proofs.Pieces.{bound_same}

pub step_same : (cause : Cause) (k : ℕ) → step_cause cause k ≡ compact_text (object_of ((codes "step", natural k) ∷ step_members cause))
unfolding step_cause step_why bounds_text escape_byte
step_same step.Count k = refl
step_same step.Rank k = refl
step_same step.Target k = refl
step_same step.Label k = refl
step_same step.ZeroStep k = refl
step_same step.Unbounded k = refl
step_same step.BadOrder k = refl
step_same (step.OutOfRange lo hi) k =
    ap (λ t. codes "{\"cause\":\"out_of_range\",\"hi\":" ++ t ++ codes ",\"lo\":" ++ bound_text lo ++ (codes ",\"step\":" ++ decimal k ++ codes "}")) (bound_same hi)
    ∙ ap (λ t. codes "{\"cause\":\"out_of_range\",\"hi\":" ++ compact_text (bound_data hi) ++ codes ",\"lo\":" ++ t ++ (codes ",\"step\":" ++ decimal k ++ codes "}")) (bound_same lo)
    ∙ text-flat (both (row (part (codes "{\"cause\":\"out_of_range\",\"hi\":")) (compact_text (bound_data hi) ∷ codes ",\"lo\":" ∷ compact_text (bound_data lo) ∷ [])) (row (part (codes ",\"step\":")) (decimal k ∷ codes "}" ∷ [])))
step_same step.IndexDim k = refl
step_same step.Overflow k = refl
step_same step.TooLarge k = refl

pub compose_same : (cause : ComposeError) → compose_cause cause ≡ compact_text (object_of (compose_members cause))
unfolding compose_cause compose_why escape_byte
compose_same compose.Rank = refl
compose_same (compose.Overflow k) = text-flat (row (part (codes "{\"cause\":\"overflow\",\"output\":")) (decimal k ∷ [] ∷ codes "}" ∷ []))
compose_same (compose.Outside k) = text-flat (row (part (codes "{\"cause\":\"outside\",\"output\":")) (decimal k ∷ [] ∷ codes "}" ∷ []))
compose_same (compose.TooLarge k) = text-flat (row (part (codes "{\"cause\":\"too_large\",\"output\":")) (decimal k ∷ [] ∷ codes "}" ∷ []))
compose_same compose.Memory = refl

pub build_same : (cause : BuildCause) (path : List ℕ) → build_cause cause path ≡ compact_text (object_of ((codes "path", string path) ∷ build_members cause))
unfolding build_cause build_why compose_why text_of escape_byte
build_same (build.Transform compose.Rank) path = refl
build_same (build.Transform (compose.Overflow k)) path =
    text-flat (both (row (part (codes "{\"cause\":\"overflow\",\"output\":")) (decimal k ∷ [] ∷ [])) (row (part (codes ",\"path\":")) (text_of path ∷ codes "}" ∷ [])))
build_same (build.Transform (compose.Outside k)) path =
    text-flat (both (row (part (codes "{\"cause\":\"outside\",\"output\":")) (decimal k ∷ [] ∷ [])) (row (part (codes ",\"path\":")) (text_of path ∷ codes "}" ∷ [])))
build_same (build.Transform (compose.TooLarge k)) path =
    text-flat (both (row (part (codes "{\"cause\":\"too_large\",\"output\":")) (decimal k ∷ [] ∷ [])) (row (part (codes ",\"path\":")) (text_of path ∷ codes "}" ∷ [])))
build_same (build.Transform compose.Memory) path = refl
build_same build.Layers path = refl

pub join_same : (cause : JoinError) → join_cause cause ≡ compact_text (object_of (join_members cause))
unfolding join_cause escape_byte
join_same join.Depth = refl
join_same (join.Layers k) = refl
join_same join.Axis = refl
join_same join.Rank = refl
join_same (join.Unbounded k) = refl
join_same (join.Overflow k) = refl
join_same join.Memory = refl

pub meta_same : (key : List ℕ) (cause : MetaWhy) → meta_why key cause ≡ compact_text (object_of ((codes "key", string key) ∷ meta_members cause))
unfolding meta_why text_of escape_byte
meta_same key meta.Json = refl
meta_same key (meta.Member name) = text-flat (row (part (codes "{\"key\":")) (text_of key ∷ codes ",\"member\":" ∷ text_of name ∷ codes ",\"why\":\"member\"}" ∷ []))
meta_same key (meta.Unsupported name) = text-flat (row (part (codes "{\"key\":")) (text_of key ∷ codes ",\"member\":" ∷ text_of name ∷ codes ",\"why\":\"unsupported\"}" ∷ []))

pub chunk_same : (key : List ℕ) (cause : Why) → chunk_why key cause ≡ compact_text (object_of ((codes "key", string key) ∷ chunk_members cause))
unfolding chunk_why text_of escape_byte
chunk_same key (why.Length have want) =
    text-flat (row (part (codes "{\"have\":")) (decimal have ∷ codes ",\"key\":" ∷ text_of key ∷ codes ",\"want\":" ∷ decimal want ∷ codes ",\"why\":\"length\"}" ∷ []))
chunk_same key (why.Mode have) = text-flat (row (part (codes "{\"have\":")) (decimal have ∷ codes ",\"key\":" ∷ text_of key ∷ codes ",\"why\":\"mode\"}" ∷ []))
chunk_same key (why.Rank have) = text-flat (row (part (codes "{\"have\":")) (decimal have ∷ codes ",\"key\":" ∷ text_of key ∷ codes ",\"why\":\"rank\"}" ∷ []))
chunk_same key (why.Size dim have) =
    text-flat (row (part (codes "{\"dim\":")) (decimal dim ∷ codes ",\"have\":" ∷ decimal have ∷ codes ",\"key\":" ∷ text_of key ∷ codes ",\"why\":\"size\"}" ∷ []))
