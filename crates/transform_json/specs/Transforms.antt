-- The transform that a value is, or the path of the first faulty member.
use Rattle.std.specs.Prelude.{ℕ, List, [], ◌∷◌, map, codes, is_some, Result, Ok}
use Rattle.serde_json.specs.Data.{Data}
use Rattle.serde_json.specs.Find.{as_object}
use Rattle.json_forms.specs.Members.{least_unknown}
use Rattle.index_transform.specs.Maps.{plain_map}
use Rattle.index_transform.specs.Transforms.{DomainAndMaps}
use Rattle.transform_json.specs.declared.error.JsonError.{JsonError}
use Rattle.transform_json.specs.Faults.{◌>>=◌, unless_faulty, no_fault}
use Rattle.transform_json.specs.Input.{domain_of}
use Rattle.transform_json.specs.Members.{list_members}
use Rattle.transform_json.specs.Output.{maps_of}

-- the members of a transform
abbrev pub transform_members : List (List ℕ)
transform_members = codes "input_rank" ∷ codes "output" ∷ list_members

-- the transform by its members: the domain, then the maps; a stride of 0 makes a constant map
abbrev pub transform_in : Data → Result DomainAndMaps JsonError
transform_in d = do
  domain ← domain_of d
  maps ← maps_of d domain.dims
  Ok (record { domain = domain; maps = map plain_map maps })

-- a value that is no object is at fault itself; then the unknown members, then the others
abbrev pub transform_of : Data → Result DomainAndMaps JsonError
transform_of d = do
  _ ← unless_faulty [] (is_some (as_object d))
  _ ← no_fault (least_unknown transform_members d)
  transform_in d
