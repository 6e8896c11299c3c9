use Rattle.std.proofs.Common.{◌∷◌, [], sym, subst, refl, arith}
use Rattle.std.specs.Prelude.{codes}
use Rattle.serde_json.specs.Data.{string}
use Rattle.json_forms.specs.Numbers.{natural}
use Rattle.transcript_laws.specs.Causes.{step_members, compose_members, build_members, join_members, meta_members, chunk_members}
use Rattle.transcript_laws.specs.Members.{indices_data}
use Rattle.output_laws.specs.Typed.{IsTypedBody}
use Rattle.output_laws.proofs.Plain.{outer, inner, object_outer, natural_plain, text_plain, true_plain, dtype_plain}
use Rattle.output_laws.proofs.TypedBodies.{bad_spec_typed, body_typed, store_failed_typed, values_typed}
use Rattle.output_laws.proofs.bodies.look_at_body.Goals as goal

pub returns-in-Opened : goal.returns-in-Opened
returns-in-Opened c = subst IsTypedBody (sym c.in-Opened.is) (body_typed _ (outer 3 refl (omega arith) (c.look_at_domain.ensures), (outer 0 refl (omega arith) (dtype_plain 0 _), (outer 1 refl (omega arith) (c.look_at_numbers.ensures.plain), (outer 0 refl (omega arith) (text_plain 0 _ c.look_at_name.ensures), tt)))))

pub returns-in-Viewed : goal.returns-in-Viewed
returns-in-Viewed c = subst IsTypedBody (sym c.in-Viewed.is) (body_typed _ (outer 0 refl (omega arith) (dtype_plain 0 _), (outer 35 refl (omega arith) (c.look_at_transform.ensures), (outer 0 refl (omega arith) (text_plain 0 _ c.look_at_name-in-Viewed.ensures), tt))))

pub returns-in-Values : goal.returns-in-Values
returns-in-Values c = subst IsTypedBody (sym c.in-Values.is) (values_typed _ _ _ _ c.look_at_index.ensures.whole c.look_at_words.ensures)

pub returns-in-Staged : goal.returns-in-Staged
returns-in-Staged c = subst IsTypedBody (sym c.in-Staged.is) (body_typed _ (outer 0 refl (omega arith) (natural_plain 0 _ c.look_at_number.ensures), tt))

pub returns-in-Written : goal.returns-in-Written
returns-in-Written c = subst IsTypedBody (sym c.in-Written.is) (body_typed _ (outer 1 refl (omega arith) (c.look_at_numbers-in-Written.ensures.plain), (outer 0 refl (omega arith) (natural_plain 0 _ c.look_at_number-in-Written.ensures), tt)))

pub returns-in-Begun : goal.returns-in-Begun
returns-in-Begun c = subst IsTypedBody (sym c.in-Begun.is) (body_typed _ (outer 0 refl (omega arith) (true_plain 0), tt))

pub returns-in-Committed : goal.returns-in-Committed
returns-in-Committed c = subst IsTypedBody (sym c.in-Committed.is) (body_typed _ (outer 1 refl (omega arith) (c.look_at_numbers-in-Committed.ensures.plain), tt))

pub returns-in-Aborted : goal.returns-in-Aborted
returns-in-Aborted c = subst IsTypedBody (sym c.in-Aborted.is) (body_typed _ (outer 0 refl (omega arith) (true_plain 0), tt))

pub returns-in-Resized : goal.returns-in-Resized
returns-in-Resized c = subst IsTypedBody (sym c.in-Resized.is) (body_typed _ (outer 0 refl (omega arith) (natural_plain 0 _ c.look_at_number-in-Resized.ensures), tt))

pub returns-in-Resolved : goal.returns-in-Resolved
returns-in-Resolved c = subst IsTypedBody (sym c.in-Resolved.is) (body_typed _ (outer 0 refl (omega arith) (dtype_plain 0 _), (outer 0 refl (omega arith) (text_plain 0 _ c.look_at_name-in-Resolved.ensures), (outer 35 refl (omega arith) (c.look_at_transform-in-Resolved.ensures), tt))))

pub returns-in-BadLine : goal.returns-in-BadLine
returns-in-BadLine c = subst IsTypedBody (sym c.in-BadLine.is) (body_typed _ (outer 0 refl (omega arith) (text_plain 0 _ c.look_at_name-in-BadLine.ensures), tt))

pub returns-in-BadSpec : goal.returns-in-BadSpec
returns-in-BadSpec c = subst IsTypedBody (sym c.in-BadSpec.is) (bad_spec_typed _ _ c.look_at_name-in-BadSpec.ensures c.look_at_events.ensures)

pub returns-in-Unsupported : goal.returns-in-Unsupported
returns-in-Unsupported c = subst IsTypedBody (sym c.in-Unsupported.is) (body_typed _ (outer 0 refl (omega arith) (text_plain 0 _ c.look_at_name-in-Unsupported.ensures), tt))

pub returns-in-BadStep : goal.returns-in-BadStep
returns-in-BadStep c = subst IsTypedBody (sym c.in-BadStep.is) (body_typed _ (object_outer ((codes "step", natural _) ∷ []) refl (inner 0 refl (omega arith) (natural_plain 0 _ c.look_at_u32.ensures), tt), tt))

pub returns-in-UnknownName : goal.returns-in-UnknownName
returns-in-UnknownName c = subst IsTypedBody (sym c.in-UnknownName.is) (body_typed _ (outer 0 refl (omega arith) (text_plain 0 _ c.look_at_name-in-UnknownName.ensures), tt))

pub returns-in-InTransaction : goal.returns-in-InTransaction
returns-in-InTransaction c = subst IsTypedBody (sym c.in-InTransaction.is) (body_typed _ (outer 0 refl (omega arith) (true_plain 0), tt))

pub returns-in-NoTransaction : goal.returns-in-NoTransaction
returns-in-NoTransaction c = subst IsTypedBody (sym c.in-NoTransaction.is) (body_typed _ (outer 0 refl (omega arith) (true_plain 0), tt))

pub returns-in-UnknownDim : goal.returns-in-UnknownDim
returns-in-UnknownDim c = subst IsTypedBody (sym c.in-UnknownDim.is) (body_typed _ (object_outer ((codes "step", natural _) ∷ []) refl (inner 0 refl (omega arith) (natural_plain 0 _ c.look_at_u32-in-UnknownDim.ensures), tt), tt))

pub returns-in-RepeatedDim : goal.returns-in-RepeatedDim
returns-in-RepeatedDim c = subst IsTypedBody (sym c.in-RepeatedDim.is) (body_typed _ (object_outer ((codes "step", natural _) ∷ []) refl (inner 0 refl (omega arith) (natural_plain 0 _ c.look_at_u32-in-RepeatedDim.ensures), tt), tt))

pub returns-in-RefusedStep : goal.returns-in-RefusedStep
returns-in-RefusedStep c = subst IsTypedBody (sym c.in-RefusedStep.is) (body_typed _ (object_outer ((codes "step", natural _) ∷ step_members _) refl (inner 0 refl (omega arith) (natural_plain 0 _ c.look_at_u32-in-RefusedStep.ensures), c.look_at_step.ensures), tt))

pub returns-in-RefusedView : goal.returns-in-RefusedView
returns-in-RefusedView c = subst IsTypedBody (sym c.in-RefusedView.is) (body_typed _ (object_outer (compose_members _) refl c.look_at_compose.ensures, tt))

pub returns-in-RefusedJoin : goal.returns-in-RefusedJoin
returns-in-RefusedJoin c = subst IsTypedBody (sym c.in-RefusedJoin.is) (body_typed _ (object_outer (join_members _) refl c.look_at_join.ensures, tt))

pub returns-in-RefusedSpec : goal.returns-in-RefusedSpec
returns-in-RefusedSpec c = subst IsTypedBody (sym c.in-RefusedSpec.is) (body_typed _ (object_outer ((codes "path", string _) ∷ build_members _) refl (inner 0 refl (omega arith) (text_plain 0 _ c.look_at_name-in-RefusedSpec.ensures), c.look_at_build.ensures), (outer 1 refl (omega arith) (c.look_at_numbers-in-RefusedSpec.ensures.plain), tt)))

pub returns-in-NotFound : goal.returns-in-NotFound
returns-in-NotFound c = subst IsTypedBody (sym c.in-NotFound.is) (body_typed _ (object_outer ((codes "at", natural _) ∷ (codes "path", string _) ∷ []) refl (inner 0 refl (omega arith) (natural_plain 0 _ c.look_at_number-in-NotFound.ensures), (inner 0 refl (omega arith) (text_plain 0 _ c.look_at_name-in-NotFound.ensures), tt)), (outer 1 refl (omega arith) (c.look_at_numbers-in-NotFound.ensures.plain), tt)))

pub returns-in-Exists : goal.returns-in-Exists
returns-in-Exists c = subst IsTypedBody (sym c.in-Exists.is) (body_typed _ (object_outer ((codes "at", natural _) ∷ (codes "path", string _) ∷ []) refl (inner 0 refl (omega arith) (natural_plain 0 _ c.look_at_number-in-Exists.ensures), (inner 0 refl (omega arith) (text_plain 0 _ c.look_at_name-in-Exists.ensures), tt)), (outer 1 refl (omega arith) (c.look_at_numbers-in-Exists.ensures.plain), tt)))

pub returns-in-PathTaken : goal.returns-in-PathTaken
returns-in-PathTaken c = subst IsTypedBody (sym c.in-PathTaken.is) (body_typed _ (object_outer ((codes "at", natural _) ∷ (codes "path", string _) ∷ []) refl (inner 0 refl (omega arith) (natural_plain 0 _ c.look_at_number-in-PathTaken.ensures), (inner 0 refl (omega arith) (text_plain 0 _ c.look_at_name-in-PathTaken.ensures), tt)), (outer 1 refl (omega arith) (c.look_at_numbers-in-PathTaken.ensures.plain), tt)))

pub returns-in-Mismatch : goal.returns-in-Mismatch
returns-in-Mismatch c = subst IsTypedBody (sym c.in-Mismatch.is) (body_typed _ (object_outer ((codes "at", natural _) ∷ (codes "member", string _) ∷ (codes "path", string _) ∷ []) refl (inner 0 refl (omega arith) (natural_plain 0 _ c.look_at_number-in-Mismatch.ensures), (inner 0 refl (omega arith) (text_plain 0 _ c.look_at_name-in-Mismatch.ensures), (inner 0 refl (omega arith) (text_plain 0 _ c.look_at_name-in-Mismatch-2.ensures), tt))), (outer 1 refl (omega arith) (c.look_at_numbers-in-Mismatch.ensures.plain), tt)))

pub returns-in-BadMeta : goal.returns-in-BadMeta
returns-in-BadMeta c = subst IsTypedBody (sym c.in-BadMeta.is) (body_typed _ (object_outer ((codes "key", string _) ∷ meta_members _) refl (inner 0 refl (omega arith) (text_plain 0 _ c.look_at_name-in-BadMeta.ensures), c.look_at_meta.ensures), (outer 1 refl (omega arith) (c.look_at_numbers-in-BadMeta.ensures.plain), tt)))

pub returns-in-Unbounded : goal.returns-in-Unbounded
returns-in-Unbounded c = subst IsTypedBody (sym c.in-Unbounded.is) (body_typed _ (object_outer ((codes "dim", natural _) ∷ []) refl (inner 0 refl (omega arith) (natural_plain 0 _ c.look_at_u32-in-Unbounded.ensures), tt), tt))

pub returns-in-TooMany : goal.returns-in-TooMany
returns-in-TooMany c = subst IsTypedBody (sym c.in-TooMany.is) (body_typed _ (object_outer ((codes "dim", natural _) ∷ []) refl (inner 0 refl (omega arith) (natural_plain 0 _ c.look_at_u32-in-TooMany.ensures), tt), tt))

pub returns-in-OutOfRange : goal.returns-in-OutOfRange
returns-in-OutOfRange c = subst IsTypedBody (sym c.in-OutOfRange.is) (body_typed _ (object_outer ((codes "cell", indices_data _) ∷ (codes "dim", natural _) ∷ []) refl (inner 1 refl (omega arith) (c.look_at_index-in-OutOfRange.ensures.plain), (inner 0 refl (omega arith) (natural_plain 0 _ c.look_at_u32-in-OutOfRange.ensures), tt)), tt))

pub returns-in-Uncovered : goal.returns-in-Uncovered
returns-in-Uncovered c = subst IsTypedBody (sym c.in-Uncovered.is) (body_typed _ (object_outer ((codes "cell", indices_data _) ∷ []) refl (inner 1 refl (omega arith) (c.look_at_index-in-Uncovered.ensures.plain), tt), tt))

pub returns-in-BadValues : goal.returns-in-BadValues
returns-in-BadValues c = subst IsTypedBody (sym c.in-BadValues.is) (body_typed _ (outer 1 refl (omega arith) (c.look_at_numbers-in-BadValues.ensures.plain), tt))

pub returns-in-Conflict : goal.returns-in-Conflict
returns-in-Conflict c = subst IsTypedBody (sym c.in-Conflict.is) (body_typed _ (object_outer ((codes "key", string _) ∷ (codes "now", natural _) ∷ (codes "read", natural _) ∷ []) refl (inner 0 refl (omega arith) (text_plain 0 _ c.look_at_name-in-Conflict.ensures), (inner 0 refl (omega arith) (natural_plain 0 _ c.look_at_number-in-Conflict-2.ensures), (inner 0 refl (omega arith) (natural_plain 0 _ c.look_at_number-in-Conflict.ensures), tt))), tt))

pub returns-in-Shrunk : goal.returns-in-Shrunk
returns-in-Shrunk c = subst IsTypedBody (sym c.in-Shrunk.is) (body_typed _ (object_outer ((codes "key", string _) ∷ (codes "now", natural _) ∷ []) refl (inner 0 refl (omega arith) (text_plain 0 _ c.look_at_name-in-Shrunk.ensures), (inner 0 refl (omega arith) (natural_plain 0 _ c.look_at_number-in-Shrunk.ensures), tt)), tt))

pub returns-in-NotAtomic : goal.returns-in-NotAtomic
returns-in-NotAtomic c = subst IsTypedBody (sym c.in-NotAtomic.is) (body_typed _ (object_outer ((codes "keys", natural _) ∷ []) refl (inner 0 refl (omega arith) (natural_plain 0 _ c.look_at_number-in-NotAtomic.ensures), tt), tt))

pub returns-in-NotArray : goal.returns-in-NotArray
returns-in-NotArray c = subst IsTypedBody (sym c.in-NotArray.is) (body_typed _ (outer 0 refl (omega arith) (true_plain 0), tt))

pub returns-in-TooManyChunks : goal.returns-in-TooManyChunks
returns-in-TooManyChunks c = subst IsTypedBody (sym c.in-TooManyChunks.is) (body_typed _ (object_outer ((codes "at", natural _) ∷ []) refl (inner 0 refl (omega arith) (natural_plain 0 _ c.look_at_number-in-TooManyChunks.ensures), tt), tt))

pub returns-in-StoreFailed : goal.returns-in-StoreFailed
returns-in-StoreFailed c = subst IsTypedBody (sym c.in-StoreFailed.is) (store_failed_typed _ _ _ c.look_at_number-in-StoreFailed.ensures c.look_at_numbers-in-StoreFailed.ensures.small c.look_at_events-in-StoreFailed.ensures)

pub returns-in-Damaged : goal.returns-in-Damaged
returns-in-Damaged c = subst IsTypedBody (sym c.in-Damaged.is) (body_typed _ (object_outer ((codes "key", string _) ∷ chunk_members _) refl (inner 0 refl (omega arith) (text_plain 0 _ c.look_at_name-in-Damaged.ensures), c.look_at_chunk.ensures), tt))

pub returns-in-Memory : goal.returns-in-Memory
returns-in-Memory c = subst IsTypedBody (sym c.in-Memory.is) (body_typed _ (outer 0 refl (omega arith) (true_plain 0), tt))
