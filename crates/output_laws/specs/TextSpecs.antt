-- What is said of Specs is UTF-8 where their texts are.
use Rattle.std.specs.Prelude.{◌<◌, ◌^◌, ℕ, [], ◌∷◌, Result, Ok, Err}
use Rattle.std.specs.List.{AllByRecursion}
use Rattle.std.specs.Str.{IsUtf8}
use Rattle.serde_json.specs.Data.{Data}
use Rattle.line_forms.specs.Specs.{plan_of_spec}
use Rattle.line_forms.specs.declared.LineError.TheVariants.{Spec}
use Rattle.line_forms.specs.declared.OpenPlan.{OpenPlan}
use Rattle.line_forms.specs.declared.SpecError.{SpecError}
use Rattle.line_forms.specs.declared.SpecLeaf.{SpecLeaf}
use Rattle.line_forms.specs.declared.SpecLeaf.TheVariants.{Zarr, N5, Zarr3, Given}
use Rattle.history.specs.Lines.{FormError, bad_line, bad_spec, unsupported, bad_step, Line, refused, opening, viewing, joining, reading, writing, beginning, committing, aborting, resizing, resolving}
use Rattle.transcript_laws.specs.Meanings.{line_in}
use Rattle.transcript_laws.specs.Transcript.{mount}
use Rattle.output_laws.specs.Held.{IsHeld}

-- a text of UTF-8, or a number of 64 bits
abbrev pub IsSmallFormError : FormError → Type 0
IsSmallFormError (bad_line text) = IsUtf8 text
IsSmallFormError (bad_spec path) = IsUtf8 path
IsSmallFormError (unsupported path) = IsUtf8 path
IsSmallFormError (bad_step step) = step < 2 ^ 64

-- a line that is refused for its form is refused by such
abbrev pub IsSmallRefused : Line → Type 0
IsSmallRefused (refused error) = IsSmallFormError error
IsSmallRefused (opening name leaves build) = Unit {0}
IsSmallRefused (viewing name of changes) = Unit {0}
IsSmallRefused (joining name of join changes) = Unit {0}
IsSmallRefused (reading name changes down) = Unit {0}
IsSmallRefused (writing name changes values) = Unit {0}
IsSmallRefused (beginning mode) = Unit {0}
IsSmallRefused committing = Unit {0}
IsSmallRefused aborting = Unit {0}
IsSmallRefused (resizing name shape) = Unit {0}
IsSmallRefused (resolving name) = Unit {0}

-- an array of a store is asked for at texts of UTF-8
abbrev pub IsTextPlace : SpecLeaf → Type 0
IsTextPlace (Zarr mount path want may_open may_create) = IsUtf8 mount × IsUtf8 path
IsTextPlace (N5 mount path want may_open may_create) = IsUtf8 mount × IsUtf8 path
IsTextPlace (Zarr3 mount path want may_open may_create) = IsUtf8 mount × IsUtf8 path
IsTextPlace (Given start) = Unit {0}

-- so are all arrays of a plan; where a Spec has none, a line with it is refused by a text of UTF-8
abbrev pub IsTextPlanned : Result OpenPlan SpecError → Type 0
IsTextPlanned (Ok plan) = AllByRecursion IsTextPlace plan.leaves
IsTextPlanned (Err e) = IsSmallRefused (line_in (Err (Spec e)))

-- so it is with each Spec that bytes may hold
abbrev pub SpecsAreTexts : Type 0
SpecsAreTexts = (n : ℕ) (spec : Data) → IsHeld n spec → IsTextPlanned (plan_of_spec (mount ∷ []) spec)
