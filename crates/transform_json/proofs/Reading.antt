-- The maps that are read of a domain that is read are accepted.
use Rattle.std.proofs.Common.{◌≡◌, List, map, Ok, Err, refl, ap, ◌∙◌}
use Rattle.serde_json.specs.Data.{Data}
use Rattle.index_transform.specs.Maps.{plain_map}
use Rattle.index_transform.specs.Transforms.{DomainAndMaps, checked}
use Rattle.index_transform.specs.declared.domain.Domain.{Domain}
use Rattle.index_transform.specs.declared.error.TransformError.{TransformError}
use Rattle.index_transform.specs.declared.map.OutMap.{OutMap}
use Rattle.transform_json.specs.declared.error.JsonError.{JsonError}
use Rattle.transform_json.specs.Input.{domain_of}
use Rattle.transform_json.specs.Output.{maps_of}
use Rattle.transform_json.specs.Transforms.{transform_in}
use Rattle.transform_json.proofs.Accepted.{accepted}

pub domain_fault : (d : Data) (e : JsonError) → domain_of d ≡ Err e → transform_in d ≡ Err e
domain_fault d e is = rw is refl

pub maps_fault : (d : Data) (domain : Domain) (e : JsonError) → domain_of d ≡ Ok domain → maps_of d domain.dims ≡ Err e → transform_in d ≡ Err e
maps_fault d domain e as_domain is = rw (as_domain, is) refl

as_made : (d : Data) (domain : Domain) (maps : List OutMap) → domain_of d ≡ Ok domain → maps_of d domain.dims ≡ Ok maps → transform_in d ≡ Ok (record { domain = domain; maps = map plain_map maps })
as_made d domain maps as_domain is = rw (as_domain, is) refl

pub read_whole : (d : Data) (domain : Domain) (maps : List OutMap) (t : DomainAndMaps) → domain_of d ≡ Ok domain → maps_of d domain.dims ≡ Ok maps → checked domain maps ≡ Ok t → transform_in d ≡ Ok t
read_whole d domain maps t as_domain is made =
    let good = accepted d domain maps as_domain is in
    let same : record { domain = domain; maps = map plain_map maps } ≡ t = cc in
    as_made d domain maps as_domain is ∙ ap Ok same

pub not_refused : (d : Data) (domain : Domain) (maps : List OutMap) (e : TransformError) → domain_of d ≡ Ok domain → maps_of d domain.dims ≡ Ok maps → checked domain maps ≡ Err e → ⊥
not_refused d domain maps e as_domain is refused = let same = accepted d domain maps as_domain is in cc
