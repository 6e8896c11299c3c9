-- Members with members of their own: `begin` and `transform`.
use Rattle.std.specs.Prelude.{ℕ, List, Option, Some, None, Result, Ok, Err, ◌∷◌, ◌++◌, codes, is_some, if◌then◌else◌}
use Rattle.std.specs.Ordering.{nat_cmp, match_ordering}
use Rattle.std.specs.Cmp.Lexicographic.{slice_cmp}
use Rattle.serde_json.specs.Data.{Data}
use Rattle.serde_json.specs.Find.{get, as_object}
use Rattle.index_transform.specs.Transforms.{DomainAndMaps}
use Rattle.transform_json.specs.Transforms.{transform_of}
use Rattle.transform_json.specs.declared.error.JsonError.{JsonError}
use Rattle.transform_json.specs.declared.error.JsonError.TheVariants.{BadMember, Memory}
use Rattle.line_parts.specs.Parts.{where_sound}
use Rattle.line_parts.specs.declared.error.LineError.{LineError}
use Rattle.line_parts.specs.declared.error.LineError.TheVariants as line

-- the path of a fault within the member, or the member among the others that is at fault and comes before it
abbrev pub first_fault : List ℕ → Option (List ℕ) → List ℕ → List ℕ
first_fault name None path = path
first_fault name (Some k) path = match_ordering (slice_cmp nat_cmp k name) k path path

-- what f gives of the member's part, where neither that nor another member is at fault
abbrev pub within : {A B : Type 0} → List ℕ → Option (List ℕ) → Result A (List ℕ) → (A → Result B LineError) → Result B LineError
within name others (Ok x) f = where_sound others (f x)
within name others (Err path) f = Err (line.Member (first_fault name others path))

-- a path in the value of a member, behind the member's name and a slash; a value that is no object is at fault itself
abbrev pub behind : List ℕ → Data → List ℕ → List ℕ
behind name d path = if is_some (as_object d) then name ++ 47 ∷ path else name

-- where `transform` is at fault, by an error that has the path
abbrev pub transform_path : JsonError → List ℕ
transform_path (BadMember path) = path
transform_path Memory = codes "transform"

-- the same by an error that has the path in its value
abbrev pub transform_fault : Data → JsonError → List ℕ
transform_fault d (BadMember path) = behind (codes "transform") d path
transform_fault d Memory = codes "transform"

-- the transform, or where it is at fault
abbrev pub transform_read : Data → Result DomainAndMaps JsonError → Result (Option DomainAndMaps) (List ℕ)
transform_read d (Ok t) = Ok (Some t)
transform_read d (Err e) = Err (transform_fault d e)

-- that of a member
abbrev pub transform_given : Option Data → Result (Option DomainAndMaps) (List ℕ)
transform_given None = Ok None
transform_given (Some v) = transform_read v (transform_of v)

-- the transform of a line, if there is one, or the path at which it is at fault
unfoldable pub transform_in : Data → Result (Option DomainAndMaps) (List ℕ)
transform_in d = transform_given (get (codes "transform") d)
