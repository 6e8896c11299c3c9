-- Answers whose texts are UTF-8 and whose numbers take 64 bits, part by part.
use Rattle.std.specs.Prelude.{◌<◌, ◌^◌, ℕ, List}
use Rattle.std.specs.List.{AllByRecursion}
use Rattle.std.specs.Str.{IsUtf8}
use Rattle.index_transform.specs.declared.domain.Domain.{Domain}
use Rattle.history.specs.Answers as answer
use Rattle.history.specs.Answers.{Answer, Body, StepCause, BuildCause}
use Rattle.transcript_laws.specs.Bodies.{answer_of}
use Rattle.transcript_laws.specs.Printable.{IsPrintable}
use Rattle.output_laws.specs.Flat.{IsFlat}
use Rattle.output_laws.specs.Plain.{IsWhole, AreSmall}
use Rattle.output_laws.specs.Small.{IsSmallDim, IsSmall, IsSmallFault}

-- numbers of 64 bits
abbrev pub AreNumbers : List ℕ → Type 0
AreNumbers ns = AllByRecursion (λ n. n < 2 ^ 64) ns

-- a domain with near bounds, whose labels are UTF-8
pub record IsSmallDomain (domain : Domain) : Type 0 where
  pub dims : AllByRecursion IsSmallDim domain.dims
  pub labels : AllByRecursion IsUtf8 domain.labels

-- why a step isn't done
abbrev pub IsSmallStepCause : StepCause → Type 0
IsSmallStepCause answer.count = Unit {0}
IsSmallStepCause answer.rank = Unit {0}
IsSmallStepCause answer.target = Unit {0}
IsSmallStepCause answer.label = Unit {0}
IsSmallStepCause answer.zero_step = Unit {0}
IsSmallStepCause answer.unbounded_step = Unit {0}
IsSmallStepCause answer.bad_order = Unit {0}
IsSmallStepCause (answer.out_of_bounds lo hi) = IsWhole lo × IsWhole hi
IsSmallStepCause answer.index_dim = Unit {0}
IsSmallStepCause answer.step_overflow = Unit {0}
IsSmallStepCause answer.too_large = Unit {0}

-- why a node of a Spec isn't built
abbrev pub IsSmallBuildCause : BuildCause → Type 0
IsSmallBuildCause (answer.by_transform cause) = IsSmallFault cause
IsSmallBuildCause answer.layers = Unit {0}

-- each text is UTF-8, and each number takes 64 bits; no log of checked scripts over a store that was empty has the
-- answers of which this is never so
abbrev pub IsSmallBody : Body → Type 0
IsSmallBody (answer.opened name dtype domain events) = IsUtf8 name × IsSmallDomain domain × AreNumbers events
IsSmallBody (answer.viewed name dtype transform) = IsUtf8 name × IsSmall transform
IsSmallBody (answer.values origin shape dtype words) = AllByRecursion IsWhole origin × AreNumbers words
IsSmallBody (answer.staged cells) = cells < 2 ^ 64
IsSmallBody (answer.written cells events) = (cells < 2 ^ 64) × AreNumbers events
IsSmallBody answer.begun = Unit {0}
IsSmallBody (answer.committed events) = AreNumbers events
IsSmallBody answer.aborted = Unit {0}
IsSmallBody (answer.resized event) = event < 2 ^ 64
IsSmallBody (answer.resolved name dtype transform) = IsUtf8 name × IsSmall transform
IsSmallBody (answer.bad_line text) = IsUtf8 text
IsSmallBody (answer.bad_spec path events) = IsUtf8 path × AreSmall events
IsSmallBody (answer.unsupported path) = IsUtf8 path
IsSmallBody (answer.bad_step step) = step < 2 ^ 64
IsSmallBody (answer.unknown_name name) = IsUtf8 name
IsSmallBody answer.in_transaction = Unit {0}
IsSmallBody answer.no_transaction = Unit {0}
IsSmallBody (answer.unknown_dim step) = step < 2 ^ 64
IsSmallBody (answer.repeated_dim step) = step < 2 ^ 64
IsSmallBody (answer.refused_step step cause) = (step < 2 ^ 64) × IsSmallStepCause cause
IsSmallBody (answer.refused_view cause) = IsSmallFault cause
IsSmallBody (answer.refused_join cause) = ⊥
IsSmallBody (answer.refused_spec path cause events) = IsUtf8 path × IsSmallBuildCause cause × AreNumbers events
IsSmallBody (answer.not_found at path events) = (at < 2 ^ 64) × IsUtf8 path × AreNumbers events
IsSmallBody (answer.exists at path events) = (at < 2 ^ 64) × IsUtf8 path × AreNumbers events
IsSmallBody (answer.path_taken at path events) = (at < 2 ^ 64) × IsUtf8 path × AreNumbers events
IsSmallBody (answer.mismatch at member path events) = (at < 2 ^ 64) × IsUtf8 member × IsUtf8 path × AreNumbers events
IsSmallBody (answer.bad_metadata key why events) = ⊥
IsSmallBody (answer.unbounded dim) = dim < 2 ^ 64
IsSmallBody (answer.too_many dim) = dim < 2 ^ 64
IsSmallBody (answer.out_of_range cell dim) = AllByRecursion IsWhole cell × (dim < 2 ^ 64)
IsSmallBody (answer.uncovered cell) = AllByRecursion IsWhole cell
IsSmallBody (answer.bad_values path) = AreNumbers path
IsSmallBody (answer.conflict key read now) = IsUtf8 key × (read < 2 ^ 64) × (now < 2 ^ 64)
IsSmallBody (answer.shrunk key now) = IsUtf8 key × (now < 2 ^ 64)
IsSmallBody (answer.not_atomic keys) = keys < 2 ^ 64
IsSmallBody answer.not_array = Unit {0}
IsSmallBody (answer.too_many_chunks at) = at < 2 ^ 64
IsSmallBody (answer.store_failed event done events) = (event < 2 ^ 64) × AreNumbers done × AreSmall events
IsSmallBody (answer.damaged key cause) = ⊥
IsSmallBody answer.memory = Unit {0}

-- an answer at a line of 64 bits reads back, where its texts are UTF-8, its numbers take 64 bits, and its values are
-- along at most 32 dimensions
abbrev pub SmallAnswersArePrintable : Type 0
SmallAnswersArePrintable = (a : Answer)
    → a.line < 2 ^ 64 → IsFlat a.body → IsSmallBody a.body → IsPrintable (answer_of a)
