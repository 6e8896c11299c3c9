-- Transforms whose numbers and texts may be printed.
use Rattle.std.specs.Prelude.{◌<◌, ◌≤◌, ◌^◌, ℕ, ℤ, pos, negsuc, ◌≤ℤ◌, ◌≡◌, List, length, Result, Ok, Err}
use Rattle.std.specs.List.{AllByRecursion}
use Rattle.std.specs.Str.{IsUtf8}
use Rattle.index_intervals.specs.Bounds.{Bounds}
use Rattle.index_transform.specs.Transforms.{DomainAndMaps}
use Rattle.index_transform.specs.declared.map.OutMap.{OutMap}
use Rattle.index_transform.specs.declared.map.OutMap.TheVariants.{Constant, Strided, Indexed}
use Rattle.transform_composition.specs.declared.error.ComposeError.{ComposeError}
use Rattle.transform_composition.specs.declared.error.ComposeError.TheVariants as compose
use Rattle.step_forms.specs.Given.{part_for, IsIndexPart}
use Rattle.step_forms.specs.declared.act.Act.{Act}
use Rattle.step_forms.specs.declared.act.Act.TheVariants as act
use Rattle.step_forms.specs.declared.act.Step.{Step}
use Rattle.dim_changes.specs.declared.cause.Cause.{Cause}
use Rattle.dim_changes.specs.declared.cause.Cause.TheVariants as cause
use Rattle.dim_expressions.specs.Applying.{applied}
use Rattle.dim_expressions.specs.declared.error.ApplyError.{ApplyError}
use Rattle.dim_expressions.specs.declared.error.ApplyError.TheVariants as apply
use Rattle.output_laws.specs.Plain.{IsWhole}

-- a number less than 2^63 from 0
pub record IsNear (z : ℤ) : Type 0 where
  pub from_least : negsuc 9223372036854775806 ≤ℤ z
  pub to_greatest : z ≤ℤ pos 9223372036854775807

-- both bounds are near
pub record IsSmallDim (dim : Bounds) : Type 0 where
  pub lo : IsNear dim.lo
  pub hi : IsNear dim.hi

-- where a map leads from, whatever its offset and its stride are
abbrev pub IsLed : OutMap → Type 0
IsLed (Constant offset) = Unit {0}
IsLed (Strided offset stride dim) = dim < 2 ^ 64
IsLed (Indexed offset stride sizes entries) = (length sizes ≤ 32) × AllByRecursion IsWhole entries

-- the numbers of a map take 64 bits, and an index array has at most 32 dimensions
abbrev pub IsSmallMap : OutMap → Type 0
IsSmallMap (Constant offset) = IsWhole offset
IsSmallMap (Strided offset stride dim) = IsWhole offset × IsWhole stride × (dim < 2 ^ 64)
IsSmallMap (Indexed offset stride sizes entries) =
    IsWhole offset × IsWhole stride × (length sizes ≤ 32) × AllByRecursion IsWhole entries

-- at most 32 dimensions and outputs, the numbers of both take 64 bits, and labels are UTF-8
pub record IsSmall (t : DomainAndMaps) : Type 0 where
  pub dims : AllByRecursion IsSmallDim t.domain.dims
  pub labels : AllByRecursion IsUtf8 t.domain.labels
  pub maps : AllByRecursion IsSmallMap t.maps
  pub few : length t.domain.dims ≤ 32
  pub outputs : length t.maps ≤ 32

-- the same of what another transform is composed with
pub record IsSmallInner (t : DomainAndMaps) : Type 0 where
  pub dims : AllByRecursion IsSmallDim t.domain.dims
  pub labels : AllByRecursion IsUtf8 t.domain.labels
  pub maps : AllByRecursion IsLed t.maps
  pub few : length t.domain.dims ≤ 32

-- why transforms don't compose, by the number of an output
abbrev pub IsSmallFault : ComposeError → Type 0
IsSmallFault compose.Rank = Unit {0}
IsSmallFault (compose.Overflow output) = output < 2 ^ 64
IsSmallFault (compose.Outside output) = output < 2 ^ 64
IsSmallFault (compose.TooLarge output) = output < 2 ^ 64
IsSmallFault compose.Memory = Unit {0}

-- entries of 64 bits, and at most 2^63 of them
pub record IsSmallArray (entries : List ℤ) : Type 0 where
  pub short : length entries ≤ 2 ^ 63
  pub whole : AllByRecursion IsWhole entries

-- a step whose texts are UTF-8, whose slices are of finite indices, and whose arrays are small
abbrev pub IsSmallAct : Act → Type 0
IsSmallAct (act.Label labels) = AllByRecursion IsUtf8 labels
IsSmallAct (act.TranslateTo by) = Unit {0}
IsSmallAct (act.TranslateBy by) = Unit {0}
IsSmallAct (act.TranslateBackwardBy by) = Unit {0}
IsSmallAct (act.Stride by) = Unit {0}
IsSmallAct (act.Transpose targets) = Unit {0}
IsSmallAct act.Diagonal = Unit {0}
IsSmallAct (act.At by) = Unit {0}
IsSmallAct (act.Slice by) = (spot : ℕ) → IsIndexPart (part_for by spot)
IsSmallAct (act.Oindex arrays) = AllByRecursion IsSmallArray arrays
IsSmallAct (act.Vindex arrays) = AllByRecursion IsSmallArray arrays
IsSmallAct act.Newaxis = Unit {0}
IsSmallAct (act.MarkBoundsImplicit lower upper) = Unit {0}

abbrev pub IsSmallStep : Step → Type 0
IsSmallStep step = IsSmallAct step.act

-- why a step isn't done, with numbers of 64 bits
abbrev pub IsSmallCause : Cause → Type 0
IsSmallCause cause.Count = Unit {0}
IsSmallCause cause.Rank = Unit {0}
IsSmallCause cause.Target = Unit {0}
IsSmallCause cause.Label = Unit {0}
IsSmallCause cause.ZeroStep = Unit {0}
IsSmallCause cause.Unbounded = Unit {0}
IsSmallCause cause.BadOrder = Unit {0}
IsSmallCause (cause.OutOfRange lo hi) = IsWhole lo × IsWhole hi
IsSmallCause cause.IndexDim = Unit {0}
IsSmallCause cause.Overflow = Unit {0}
IsSmallCause cause.TooLarge = Unit {0}

-- what steps give, of which there are so many, or why they aren't done
abbrev pub IsSmallApplied : ℕ → Result DomainAndMaps ApplyError → Type 0
IsSmallApplied n (Ok t) = IsSmall t
IsSmallApplied n (Err (apply.UnknownDim number)) = number < n
IsSmallApplied n (Err (apply.RepeatedDim number)) = number < n
IsSmallApplied n (Err (apply.Refused number cause)) = (number < n) × IsSmallCause cause
IsSmallApplied n (Err apply.Memory) = Unit {0}

-- steps on a transform of small numbers give one, or a small cause; each dimension has a label
abbrev pub StepsStaySmall : Type 0
StepsStaySmall = (u : DomainAndMaps) (steps : List Step)
    → length u.domain.labels ≡ length u.domain.dims → IsSmall u → AllByRecursion IsSmallStep steps
    → IsSmallApplied (length steps) (applied u steps)
