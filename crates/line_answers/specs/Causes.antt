-- Causes of the history, as answers tell them; want of memory is an answer of its own.
use Rattle.std.specs.Prelude.{ℕ, List}
use Rattle.answer_text.specs.declared.answer.Body.{Body}
use Rattle.answer_text.specs.declared.answer.Body.TheVariants as body
use Rattle.answer_text.specs.declared.answer.MetaWhy.TheVariants.{Json, Member, Unsupported}
use Rattle.answer_text.specs.declared.answer.Why.TheVariants.{Length, Mode, Rank, Size}
use Rattle.history.specs.declared.Damage.{Damage}
use Rattle.history.specs.declared.Damage.TheVariants as damage
use Rattle.dim_changes.specs.declared.cause.Cause.{Cause}
use Rattle.dim_changes.specs.declared.cause.Cause.TheVariants as step
use Rattle.answer_text.specs.declared.JoinError.{JoinError}
use Rattle.answer_text.specs.declared.JoinError.TheVariants as join
use Rattle.history.specs.Answers.{StepCause, count, rank, target, label, zero_step, unbounded_step, bad_order, out_of_bounds, index_dim, step_overflow, too_large}
use Rattle.history.specs.Answers as old
use Rattle.meta_forms.specs.declared.error.MetaError.{MetaError}
use Rattle.meta_forms.specs.declared.error.MetaError.TheVariants as meta
use Rattle.n5_blocks.specs.declared.chunk.BlockError.{BlockError}
use Rattle.n5_blocks.specs.declared.chunk.BlockError.TheVariants as block
use Rattle.answer_text.specs.declared.BuildCause.{BuildCause}
use Rattle.answer_text.specs.declared.BuildCause.TheVariants as build
use Rattle.chunk_elements.specs.declared.error.ChunkError.{ChunkError}
use Rattle.chunk_elements.specs.declared.error.ChunkError.TheVariants as chunk

-- why a step isn't done
abbrev pub step_cause : StepCause → Cause
step_cause count = step.Count
step_cause rank = step.Rank
step_cause target = step.Target
step_cause label = step.Label
step_cause zero_step = step.ZeroStep
step_cause unbounded_step = step.Unbounded
step_cause bad_order = step.BadOrder
step_cause (out_of_bounds lo hi) = step.OutOfRange lo hi
step_cause index_dim = step.IndexDim
step_cause step_overflow = step.Overflow
step_cause too_large = step.TooLarge

-- why views aren't joined
abbrev pub join_error : old.JoinCause → JoinError
join_error old.depth = join.Depth
join_error (old.join_layers layer) = join.Layers layer
join_error old.axis = join.Axis
join_error old.join_rank = join.Rank
join_error (old.join_unbounded layer) = join.Unbounded layer
join_error (old.join_overflow layer) = join.Overflow layer

-- why a node of a Spec isn't built
abbrev pub build_cause : old.BuildCause → BuildCause
build_cause (old.by_transform cause) = build.Transform cause
build_cause old.layers = build.Layers

-- the bytes under a key are no metadata
abbrev pub metadata_body : List ℕ → MetaError → List ℕ → Body
metadata_body key meta.NotJson events = body.BadMeta key Json events
metadata_body key (meta.BadMember name) events = body.BadMeta key (Member name) events
metadata_body key (meta.Unsupported name) events = body.BadMeta key (Unsupported name) events
metadata_body key meta.Memory events = body.Memory

-- the bytes under a key are no chunk
abbrev pub chunk_body : List ℕ → ChunkError → Body
chunk_body key (chunk.WrongLength have want) = body.Damaged key (Length have want)
chunk_body key chunk.Memory = body.Memory

-- the bytes under a key are no block
abbrev pub block_body : List ℕ → BlockError → Body
block_body key (block.WrongMode have) = body.Damaged key (Mode have)
block_body key (block.WrongRank have) = body.Damaged key (Rank have)
block_body key (block.WrongSize dim have) = body.Damaged key (Size dim have)
block_body key (block.WrongLength have want) = body.Damaged key (Length have want)
block_body key block.Memory = body.Memory

-- the bytes under a key are no chunk of its array
abbrev pub damage_body : List ℕ → Damage → Body
damage_body key (damage.Zarr cause) = chunk_body key cause
damage_body key (damage.N5 cause) = block_body key cause
