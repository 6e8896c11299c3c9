-- The view of a whole array keeps the rules.
use Rattle.std.proofs.Common.{◌≡◌, ◌≤◌, ◌∙◌, ℕ, ◌+◌, true, List, [], ◌∷◌, length, map, refl, sym, subst, arith}
use Rattle.std.proofs.lemmas.List.{length-map}
use Rattle.cast_driver.specs.Shapes.{IsShape}
use Rattle.transform_composition.specs.Bounds.{Bounds}
use Rattle.transform_composition.specs.Transforms.{DomainAndMaps, IsDomain}
use Rattle.transform_composition.specs.Identity.{identity_maps, identity_over}
use Rattle.transform_composition.specs.Maps.{are_labels}
use Rattle.stack_driver.specs.References.{Reference}
use Rattle.stack_driver.specs.Conditions.{IsNode, IsView}
use Rattle.stack_driver.specs.Arrays.{array_dim, array_domain, whole_view}
use Rattle.stack_driver.specs.declared.view.View.{every_made-View}
use Rattle.stack_driver.specs.declared.view.View.TheOpen.{View-F}
use Rattle.stack_driver.specs.declared.view.View.TheVariants as view

-- empty labels differ, since they are none
no_labels : (shape : List ℕ) → are_labels (map (λ size. []) shape) ≡ true
no_labels [] = refl
no_labels (size ∷ shape) = no_labels shape

pub array_rules : (r : Reference) → IsShape r.shape → IsDomain (array_domain r)
array_rules r shape = record {
  rank = subst (λ n. n ≤ 32) (sym (length-map r.shape (array_dim r.local))) shape.rank;
  same = length-map r.shape (λ size. []) ∙ sym (length-map r.shape (array_dim r.local));
  labels = no_labels r.shape;
}

pub length-identity : (k : ℕ) (dims : List Bounds) → length (identity_maps k dims) ≡ length dims
length-identity k [] = refl
length-identity k (d ∷ ds) = let rest = length-identity (k + 1) ds in grind (arith, rest)

-- a leaf whose transform has an output for each dimension
pub leaf_view : (r : Reference) (t : DomainAndMaps) → length t.maps ≡ length r.shape → IsView (view.Leaf r t)
leaf_view r t same = subst IsView (view.rolls-Leaf r t) (every_made-View IsNode (View-F.Leaf r t) (View-F.Leaf r t) refl same)

pub whole_rules : (r : Reference) → IsView (whole_view r)
whole_rules r = leaf_view r (identity_over (array_domain r)) (length-identity 0 (array_domain r).dims ∙ length-map r.shape (array_dim r.local))
