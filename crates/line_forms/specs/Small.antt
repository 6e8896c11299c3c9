-- The commands without steps.
use Rattle.std.specs.Prelude.{ℕ, List, [], ◌∷◌, Bool, true, false, Option, Some, None, option_and_then, is_some, unwrap_or, Result, Ok, Err, codes, ◌++◌, if◌then◌else◌}
use Rattle.serde_json.specs.Data.{Data}
use Rattle.serde_json.specs.Find.{get, as_bool, as_object}
use Rattle.cells.specs.Shapes.{is_shape}
use Rattle.json_forms.specs.Lists.{u64_list}
use Rattle.json_forms.specs.Members.{least_unknown}
use Rattle.spec_open.specs.Specs.{plan_of_spec}
use Rattle.spec_open.specs.declared.plan.OpenPlan.{OpenPlan}
use Rattle.spec_open.specs.declared.SpecError.{SpecError}
use Rattle.line_forms.specs.Form.{Form, opening, beginning, resizing, resolving}
use Rattle.line_parts.specs.Parts.{◌>>=◌, has, earlier, unless_so, missing, no_name, name_in, needed, where_sound}
use Rattle.line_parts.specs.Within.{within}
use Rattle.line_parts.specs.declared.error.LineError.{LineError}
use Rattle.line_parts.specs.declared.error.LineError.TheVariants.{Spec}

-- the plan, or its fault
abbrev pub plan_read : Result OpenPlan SpecError → Result OpenPlan LineError
plan_read (Ok plan) = Ok plan
plan_read (Err e) = Err (Spec e)

-- what the Spec of a line asks to be opened, where these are the names of mounts
unfoldable pub plan_in : List (List ℕ) → Data → Result OpenPlan LineError
plan_in names d = needed (codes "spec") (get (codes "spec") d) >>= (λ spec. plan_read (plan_of_spec names spec))

-- the least faulty member of `{"open":NAME,"spec":SPEC}`
abbrev pub open_fault : Data → Option (List ℕ)
open_fault d = earlier (least_unknown (codes "open" ∷ codes "spec" ∷ []) d) (earlier (no_name (codes "open") d) (missing (codes "spec") d))

-- the opening under this name
abbrev pub opened_as : List (List ℕ) → Data → List ℕ → Result Form LineError
opened_as names d name = plan_in names d >>= (λ plan. Ok (opening name plan))

-- what a line opens
abbrev pub opened : List (List ℕ) → Data → Result Form LineError
opened names d = name_in (codes "open") d >>= opened_as names d

-- `{"open":NAME,"spec":SPEC}`
unfoldable pub open_form : List (List ℕ) → Data → Result Form LineError
open_form names d = where_sound (open_fault d) (opened names d)

-- the flag of a member, false where there is none
abbrev pub flag_at : List ℕ → Data → Bool
flag_at k d = unwrap_or (option_and_then as_bool (get k d)) false

-- the member stands and is no flag
abbrev pub no_flag : List ℕ → Data → Option (List ℕ)
no_flag k d = unless_so (if has k d then is_some (option_and_then as_bool (get k d)) else true) k

-- the members within `begin`
unfoldable pub flag_members : List (List ℕ)
flag_members = codes "atomic" ∷ codes "repeatable_read" ∷ []

-- the least faulty one
abbrev pub flags_fault : Data → Option (List ℕ)
flags_fault d = earlier (least_unknown flag_members d) (earlier (no_flag (codes "atomic") d) (no_flag (codes "repeatable_read") d))

-- the flags, where no member is at fault
abbrev pub flags_unless : Option (List ℕ) → Data → Result (Bool × Bool) (List ℕ)
flags_unless (Some k) d = Err (codes "begin/" ++ k)
flags_unless None d = Ok (flag_at (codes "atomic") d, flag_at (codes "repeatable_read") d)

-- whether a transaction is atomic, and whether its reads are repeatable, or where `begin` is at fault
abbrev pub flags_of : Data → Result (Bool × Bool) (List ℕ)
flags_of d = if is_some (as_object d) then flags_unless (flags_fault d) d else Err (codes "begin")

-- those of a member
abbrev pub flags_given : Option Data → Result (Bool × Bool) (List ℕ)
flags_given None = Err (codes "begin")
flags_given (Some d) = flags_of d

-- `{"begin":FLAGS}`
unfoldable pub begin_form : Data → Result Form LineError
begin_form d =
    within (codes "begin") (least_unknown (codes "begin" ∷ []) d) (flags_given (get (codes "begin") d)) (λ flags. Ok (beginning flags.0 flags.1))

-- the member is missing or not true
abbrev pub not_true : List ℕ → Data → Option (List ℕ)
not_true k d = unless_so (unwrap_or (option_and_then as_bool (get k d)) false) k

-- `{"commit":true}`, `{"abort":true}`
unfoldable pub word_form : List ℕ → Form → Data → Result Form LineError
word_form k form d = where_sound (earlier (least_unknown (k ∷ []) d) (not_true k d)) (Ok form)

-- the numbers, where they may be the sizes of an array
abbrev pub as_shape : List ℕ → Option (List ℕ)
as_shape sizes = if is_shape sizes then Some sizes else None

-- the shape of a line
abbrev pub shape_at : Data → Option (List ℕ)
shape_at d = option_and_then as_shape (option_and_then u64_list (get (codes "shape") d))

-- the least faulty member of `{"resize":NAME,"shape":SHAPE}`
abbrev pub resize_fault : Data → Option (List ℕ)
resize_fault d =
    earlier (least_unknown (codes "resize" ∷ codes "shape" ∷ []) d)
    (earlier (no_name (codes "resize") d) (unless_so (is_some (shape_at d)) (codes "shape")))

-- the new shape under this name
abbrev pub resized_as : Option (List ℕ) → List ℕ → Result Form LineError
resized_as shape name = needed (codes "shape") shape >>= (λ sizes. Ok (resizing name sizes))

-- the new shape that a line tells
abbrev pub resized : Option (List ℕ) → Data → Result Form LineError
resized shape d = name_in (codes "resize") d >>= resized_as shape

-- `{"resize":NAME,"shape":SHAPE}`
unfoldable pub resize_form : Data → Result Form LineError
resize_form d = where_sound (resize_fault d) (resized (shape_at d) d)

-- the name that a line resolves
abbrev pub resolved : Data → Result Form LineError
resolved d = name_in (codes "resolve") d >>= (λ name. Ok (resolving name))

-- `{"resolve":NAME}`
unfoldable pub resolve_form : Data → Result Form LineError
resolve_form d = where_sound (earlier (least_unknown (codes "resolve" ∷ []) d) (no_name (codes "resolve") d)) (resolved d)
