-- Why a step can't be done, and which cause counts.
use Rattle.std.specs.Prelude.{◌≡◌, ℕ, ◌<◌, nat_lt, ℤ, pos, if◌then◌else◌, IsTrue, List, [], ◌∷◌, length, slice_index_or, Option, Some, None, Result, Ok, Err}
use Rattle.index_intervals.specs.Bounds.{Bounds, is_index}
use Rattle.index_intervals.specs.Members.{effective_lo, effective_hi}
use Rattle.transform_composition.specs.Values.{is_effective, value_at}
use Rattle.transform_composition.specs.Walks.{IsCell}
use Rattle.transform_composition.specs.Transforms.{DomainAndMaps}
use Rattle.transform_composition.specs.Composing.{joined_answer}
use Rattle.transform_composition.specs.Agreeing.{GoesInto}
use Rattle.transform_composition.specs.declared.error.ComposeError.{ComposeError}
use Rattle.dim_changes.specs.declared.cause.Cause.{Cause}
use Rattle.dim_changes.specs.declared.cause.Fault.{Fault}
use Rattle.dim_changes.specs.Dims.{dim_at}
use Rattle.dim_changes.specs.declared.cause.Cause.TheVariants.{Count, Rank, Target, Label, ZeroStep, Unbounded, BadOrder, OutOfRange, IndexDim, Overflow, TooLarge}
use Rattle.transform_composition.specs.declared.error.ComposeError.TheVariants as compose
use Rattle.dim_changes.specs.declared.cause.Fault.TheVariants as fault

-- the order in which causes are tried
abbrev pub turn_of : Cause → ℕ
turn_of Count = 0
turn_of Rank = 1
turn_of Target = 2
turn_of Label = 3
turn_of ZeroStep = 4
turn_of Unbounded = 5
turn_of BadOrder = 6
turn_of (OutOfRange lo hi) = 7
turn_of IndexDim = 8
turn_of Overflow = 9
turn_of TooLarge = 10

-- the one that is tried first; of two of the same turn the former
abbrev pub earlier : Cause → Option Cause → Cause
earlier c None = c
earlier c (Some d) = if nat_lt (turn_of d) (turn_of c) then d else c

-- of one cause, where there is one, and that of what comes later
abbrev pub with_cause : Option Cause → Option Cause → Option Cause
with_cause None later = later
with_cause (Some c) later = Some (earlier c later)

-- of the causes of several dimensions the one that counts
abbrev pub first_cause : List (Option Cause) → Option Cause
first_cause [] = None
first_cause (cause ∷ causes) = with_cause cause (first_cause causes)

-- the answer, where there is no cause against it
abbrev pub unless_refused : {A : Type 0} → Option Cause → Result A Cause → Result A Cause
unless_refused None answer = answer
unless_refused (Some c) answer = Err c

-- an index that lies outside the effective interval
abbrev pub outside_cause : Bounds → ℤ → Option Cause
outside_cause dim x = if is_effective dim x then None else Some (OutOfRange (effective_lo dim) (effective_hi dim))

-- why maps don't compose: only numbers and sizes can be too large
abbrev pub cause_of : ComposeError → Cause
cause_of compose.Rank = Overflow
cause_of (compose.Overflow output) = Overflow
cause_of (compose.Outside output) = Overflow
cause_of (compose.TooLarge output) = TooLarge
cause_of compose.Memory = Overflow

-- what a composition gives, or the cause against it
abbrev pub or_cause : Result DomainAndMaps ComposeError → Result DomainAndMaps Cause
or_cause (Ok t) = Ok t
or_cause (Err e) = Err (cause_of e)

-- a transform over new dimensions with their labels and one map per old dimension, which gives its old index
abbrev pub over : DomainAndMaps → DomainAndMaps → Result DomainAndMaps Cause
over u inner = or_cause (joined_answer u inner)

-- the fault is the cause of an answer, or that there is no memory
abbrev pub IsFaultOf : Result DomainAndMaps Cause → Fault → Type 0
IsFaultOf answer (fault.Refused c) = answer ≡ Err c
IsFaultOf answer fault.Memory = Unit {0}

abbrev pub fault_of : ComposeError → Fault
fault_of compose.Rank = fault.Refused Overflow
fault_of (compose.Overflow output) = fault.Refused Overflow
fault_of (compose.Outside output) = fault.Refused Overflow
fault_of (compose.TooLarge output) = fault.Refused TooLarge
fault_of compose.Memory = fault.Memory

-- wherever a cell of a domain, which may be infinite, goes to a finite index, the outer effective interval has it
abbrev pub ReachesInto : List Bounds → DomainAndMaps → List Bounds → Type 0
ReachesInto dims t outers =
    (cell : List ℤ) → IsCell dims cell → (k : ℕ) → k < length outers → IsTrue (is_index (slice_index_or (value_at t cell) k (pos 0)))
    → IsTrue (is_effective (dim_at outers k) (slice_index_or (value_at t cell) k (pos 0)))

-- at each index vector between its bounds a transform has the outer value at the inner value; where its domain is finite,
-- the inner value lies in the outer effective domain, and in any case each number of it that is a finite index does
pub record Follows (t outer inner : DomainAndMaps) : Type 0 where
  pub values : (index : List ℤ) → IsCell t.domain.dims index → value_at t index ≡ value_at outer (value_at inner index)
  pub inside : GoesInto t.domain.dims inner outer.domain.dims
  pub reached : ReachesInto t.domain.dims inner outer.domain.dims

-- what comes of a step that has a view: the transform of its answer, which follows the view, or the cause of its answer;
-- there may be no memory at any time
abbrev pub Gives : DomainAndMaps → DomainAndMaps → Result DomainAndMaps Cause → Result DomainAndMaps Fault → Type 0
Gives u view answer (Ok t) = (answer ≡ Ok t) × Follows t u view
Gives u view answer (Err f) = IsFaultOf answer f
