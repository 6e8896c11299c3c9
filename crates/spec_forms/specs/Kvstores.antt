-- Where a stored array lies: the mount and the path that a member `kvstore` names.
use Rattle.std.specs.Prelude.{ℕ, List, [], ◌∷◌, codes, Option, Some, None, Result, Ok, Err, option_and_then, is_some, if◌then◌else◌}
use Rattle.serde_json.specs.Data.{Data}
use Rattle.serde_json.specs.Find.{as_object, as_str}
use Rattle.json_forms.specs.Members.{is_among, least_unknown}
use Rattle.meta_forms.specs.Judged.{text_in}
use Rattle.meta_forms.specs.declared.error.Fault.{Fault}
use Rattle.meta_forms.specs.declared.error.Fault.TheVariants.{Bad, Unsupported}
use Rattle.spec_forms.specs.declared.error.SpecError.{SpecError}
use Rattle.spec_forms.specs.declared.error.SpecError.TheVariants as spec
use Rattle.spec_forms.specs.declared.kvstore.Location.{Location}
use Rattle.spec_forms.specs.Faults.{joined, at_path, ◌>>=◌, none_left, judged_in_turn}
use Rattle.spec_forms.specs.Paths.{path_of}

-- the name of a mount; another text isn't supported
abbrev pub judged_mount : List (List ℕ) → Option (List ℕ) → Result (List ℕ) Fault
judged_mount names None = Err Bad
judged_mount names (Some text) = if is_among text names then Ok text else Err Unsupported

abbrev pub right_path : Option (List ℕ) → Result (List ℕ) Fault
right_path None = Err Bad
right_path (Some path) = Ok path

-- a path that keeps the rules
abbrev pub judged_path : Option (List ℕ) → Result (List ℕ) Fault
judged_path text = right_path (option_and_then path_of text)

abbrev pub kvstore_members : List (List ℕ)
kvstore_members = codes "context" ∷ codes "driver" ∷ codes "path" ∷ []

-- the path that an object at a path names, and no unknown member behind it
unfoldable pub below_in : List ℕ → Option (List ℕ) → Data → Result (List ℕ) SpecError
below_in path unknown d = do
  below ← judged_in_turn path unknown (codes "path") (judged_path (text_in (codes "path") d))
  _ ← none_left path unknown
  Ok below

-- the location that an object at a path names: `driver` first, then the other members in byte order
unfoldable pub location_in : List (List ℕ) → List ℕ → Data → Result Location SpecError
location_in names path d = do
  mount ← at_path (joined path (codes "driver")) (judged_mount names (text_in (codes "driver") d))
  below ← below_in path (least_unknown kvstore_members d) d
  Ok (record { mount = mount; path = below })

-- the location that a value at a path names; a text isn't supported
unfoldable pub location_at : List (List ℕ) → List ℕ → Option Data → Result Location SpecError
location_at names path None = Err (spec.BadSpec path)
location_at names path (Some d) =
    if is_some (as_object d) then location_in names path d
    else (if is_some (as_str d) then Err (spec.Unsupported path) else Err (spec.BadSpec path))
