-- The members that Specs share.
use Rattle.std.specs.Prelude.{ℕ, List, codes, Bool, true, false, not, Option, Some, None, Result, Ok, Err, is_some, if◌then◌else◌}
use Rattle.serde_json.specs.Data.{Data}
use Rattle.serde_json.specs.Find.{get, as_str, as_bool, as_object}
use Rattle.cells.specs.DtypeNames.{dtype_named}
use Rattle.cells.specs.declared.dtype.Dtype.{Dtype}
use Rattle.want_forms.specs.FormWants.{same_dtype}
use Rattle.index_transform.specs.Transforms.{DomainAndMaps}
use Rattle.meta_forms.specs.declared.error.Fault.{Fault}
use Rattle.meta_forms.specs.declared.error.Fault.TheVariants.{Bad, Unsupported}
use Rattle.transform_json.specs.Transforms.{transform_of}
use Rattle.transform_json.specs.declared.error.JsonError.{JsonError}
use Rattle.transform_json.specs.declared.error.JsonError.TheVariants as json
use Rattle.spec_forms.specs.declared.error.SpecError.{SpecError}
use Rattle.spec_forms.specs.declared.error.SpecError.TheVariants as spec
use Rattle.spec_forms.specs.Faults.{joined, ◌>>=◌, none_left, in_turn, judged_in_turn}

-- a member that isn't supported, whatever it says
abbrev pub judged_absent : Option Data → Result (Unit {0}) Fault
judged_absent None = Ok tt
judged_absent (Some d) = Err Unsupported

abbrev pub said : Option Bool → Result (Unit {0}) Fault
said None = Err Unsupported
said (Some b) = if b then Err Unsupported else Ok tt

-- a member that may be false; another value isn't supported
abbrev pub judged_false : Option Data → Result (Unit {0}) Fault
judged_false None = Ok tt
judged_false (Some d) = said (as_bool d)

abbrev pub flag_of : Option Bool → Result (Option Bool) Fault
flag_of None = Err Bad
flag_of (Some b) = Ok (Some b)

-- true or false, or left out
abbrev pub judged_flag : Option Data → Result (Option Bool) Fault
judged_flag None = Ok None
judged_flag (Some d) = flag_of (as_bool d)

abbrev pub known : Option Dtype → Result (Option Dtype) Fault
known None = Err Unsupported
known (Some dtype) = Ok (Some dtype)

-- the dtype that a text names; another text isn't supported
abbrev pub dtype_of : Option (List ℕ) → Result (Option Dtype) Fault
dtype_of None = Err Bad
dtype_of (Some text) = known (dtype_named text)

-- the dtype of a member that may be left out
abbrev pub judged_dtype : Option Data → Result (Option Dtype) Fault
judged_dtype None = Ok None
judged_dtype (Some d) = dtype_of (as_str d)

-- what has to be there
abbrev pub required : {A : Type 0} → Result (Option A) Fault → Result A Fault
required (Err fault) = Err fault
required (Ok None) = Err Bad
required (Ok (Some x)) = Ok x

abbrev pub agrees : Option Dtype → Option Dtype → Bool
agrees None own = true
agrees (Some named) None = true
agrees (Some named) (Some own) = same_dtype named own

-- a dtype that has to be the same as another one, where both are named
abbrev pub agreeing : Option Dtype → Result (Option Dtype) Fault → Result (Option Dtype) Fault
agreeing named (Err fault) = Err fault
agreeing named (Ok own) = if agrees named own then Ok own else Err Bad

-- where the value at a path is at fault, by a path in it; a value that is no object is at fault itself
abbrev pub fault_in : List ℕ → Data → List ℕ → List ℕ
fault_in path d inner = if is_some (as_object d) then joined path inner else path

-- a transform that the value at a path is, or its first fault
abbrev pub placed : List ℕ → Data → Result DomainAndMaps JsonError → Result (Option DomainAndMaps) SpecError
placed path d (Ok t) = Ok (Some t)
placed path d (Err (json.BadMember inner)) = Err (spec.BadSpec (fault_in path d inner))
placed path d (Err json.Memory) = Err spec.Memory

-- a transform that may be left out
unfoldable pub transform_at : List ℕ → Option Data → Result (Option DomainAndMaps) SpecError
transform_at path None = Ok None
transform_at path (Some d) = placed path d (transform_of d)

-- a member that every Spec may have, and which may say false alone
unfoldable pub false_at : List ℕ → List ℕ → Option (List ℕ) → Data → Result (Unit {0}) SpecError
false_at name path unknown d = judged_in_turn path unknown name (judged_false (get name d))

-- the members of every Spec that come behind those of its driver, and the transform, which is the last
unfoldable pub tail_at : List ℕ → Option (List ℕ) → Data → Result (Option DomainAndMaps) SpecError
tail_at path unknown d = do
  _ ← judged_in_turn path unknown (codes "rank") (judged_absent (get (codes "rank") d))
  _ ← judged_in_turn path unknown (codes "schema") (judged_absent (get (codes "schema") d))
  _ ← false_at (codes "store_data_equal_to_fill_value") path unknown d
  transform ← in_turn path unknown (codes "transform") (transform_at (joined path (codes "transform")) (get (codes "transform") d))
  _ ← none_left path unknown
  Ok transform
