-- Reads and writes.
use Rattle.std.specs.Prelude.{ℕ, List, [], ◌∷◌, Bool, true, ◌&&◌, Option, Some, None, option_and_then, is_some, Result, Ok, codes, if◌then◌else◌}
use Rattle.std.specs.List.{list_all}
use Rattle.std.specs.Str.{bytes_eq}
use Rattle.serde_json.specs.Data.{Data}
use Rattle.serde_json.specs.Find.{get, as_str}
use Rattle.json_forms.specs.Lists.{u64_list}
use Rattle.json_forms.specs.Members.{least_unknown}
use Rattle.downsample_view.specs.Groups.{is_factor}
use Rattle.downsample_view.specs.declared.method.Method.{Method}
use Rattle.downsample_view.specs.declared.method.Method.TheVariants as method
use Rattle.step_forms.specs.declared.act.Step.{Step}
use Rattle.line_forms.specs.Form.{Form, reading, writing}
use Rattle.line_parts.specs.Parts.{◌>>=◌, has, earlier, unless_so, missing, no_name, name_in, needed, where_sound, steps_in}
use Rattle.line_forms.specs.declared.command.DownWant.{DownWant}
use Rattle.line_parts.specs.declared.error.LineError.{LineError}

-- the three methods
abbrev pub method_named : List ℕ → Option Method
method_named s =
    if bytes_eq s (codes "stride") then Some method.Stride
    else (if bytes_eq s (codes "min") then Some method.Min
    else (if bytes_eq s (codes "max") then Some method.Max
    else None))

-- the method of a line
abbrev pub method_at : Data → Option Method
method_at d = option_and_then method_named (option_and_then as_str (get (codes "downsample_method") d))

-- the numbers, where each is a factor
abbrev pub as_factors : List ℕ → Option (List ℕ)
as_factors fs = if list_all is_factor fs then Some fs else None

-- the factors of a line
abbrev pub factors_at : Data → Option (List ℕ)
factors_at d = option_and_then as_factors (option_and_then u64_list (get (codes "downsample_factors") d))

-- a member that stands without the other, or of a wrong form
abbrev pub half_fault : List ℕ → List ℕ → Bool → Data → Option (List ℕ)
half_fault k other good d = unless_so (if has k d then has other d && good else true) k

-- the members of a read
unfoldable pub read_members : List (List ℕ)
read_members = codes "downsample_factors" ∷ codes "downsample_method" ∷ codes "read" ∷ codes "steps" ∷ []

-- the least faulty member of `{"read":NAME,"steps":STEPS,"downsample_factors":FACTORS,"downsample_method":METHOD}`
abbrev pub read_fault : Data → Option (List ℕ)
read_fault d =
    earlier (least_unknown read_members d)
    (earlier (half_fault (codes "downsample_factors") (codes "downsample_method") (is_some (factors_at d)) d)
    (earlier (half_fault (codes "downsample_method") (codes "downsample_factors") (is_some (method_at d)) d)
    (no_name (codes "read") d)))

-- how a read is downsampled, where both parts are there
abbrev pub down_of : Option (List ℕ) → Option Method → Option DownWant
down_of None method = None
down_of (Some factors) None = None
down_of (Some factors) (Some method) = Some (record { factors = factors; method = method })

-- how a line is downsampled
abbrev pub down_at : Data → Option DownWant
down_at d = down_of (factors_at d) (method_at d)

-- the read under this name
abbrev pub read_as : Option DownWant → Data → List ℕ → Result Form LineError
read_as down d name = steps_in d >>= (λ steps. Ok (reading name steps down))

-- the read that a line tells
abbrev pub read_so : Option DownWant → Data → Result Form LineError
read_so down d = name_in (codes "read") d >>= read_as down d

-- `{"read":NAME,"steps":STEPS,"downsample_factors":FACTORS,"downsample_method":METHOD}`
unfoldable pub read_form : Data → Result Form LineError
read_form d = where_sound (read_fault d) (read_so (down_at d) d)

-- the least faulty member of `{"write":NAME,"steps":STEPS,"values":VALUES}`
abbrev pub write_fault : Data → Option (List ℕ)
write_fault d =
    earlier (least_unknown (codes "steps" ∷ codes "values" ∷ codes "write" ∷ []) d)
    (earlier (missing (codes "values") d) (no_name (codes "write") d))

-- the write under this name, by these steps
abbrev pub written_by : Data → List ℕ → List Step → Result Form LineError
written_by d name steps = needed (codes "values") (get (codes "values") d) >>= (λ values. Ok (writing name steps values))

-- the write under this name
abbrev pub written_as : Data → List ℕ → Result Form LineError
written_as d name = steps_in d >>= written_by d name

-- the write that a line tells
abbrev pub written : Data → Result Form LineError
written d = name_in (codes "write") d >>= written_as d

-- `{"write":NAME,"steps":STEPS,"values":VALUES}`
unfoldable pub write_form : Data → Result Form LineError
write_form d = where_sound (write_fault d) (written d)
