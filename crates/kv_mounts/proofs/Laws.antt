-- The laws of mounts that other crates rest on.
use Rattle.std.proofs.Common.{◌≡◌, List, Some, ap, ◌∙◌}
use Rattle.kv_face.specs.Store.{Contents}
use Rattle.kv_mounts.specs.Parts.{Part, AreMounts, below}
use Rattle.kv_mounts.specs.Union.{union_of, IsUnion}
use Rattle.kv_mounts.proofs.Begins.{begins-below, behind-below}
use Rattle.kv_mounts.proofs.UnionLaws.{get-union_of, lookup-at, names_from, nothing, own}
use Rattle.kv_mounts.proofs.Together.{none_of_all}

-- at NAME/REST the union has what the store NAME has at REST, and it has nothing else
pub union_of-is : (parts : List Part) (m : Contents) → AreMounts parts → union_of parts ≡ Some m → IsUnion parts m
union_of-is parts m are e = record {
  under = λ i p mine rest less is tells.
      get-union_of parts m e (below p.name rest) ∙ lookup-at (below p.name rest) parts i p (names_from parts are) less is (begins-below p.name rest)
      ∙ ap (own p.contents) (behind-below p.name rest) ∙ ap (λ o. own o rest) tells;
  elsewhere = λ key none. get-union_of parts m e key ∙ nothing key parts (none_of_all key parts none);
}
