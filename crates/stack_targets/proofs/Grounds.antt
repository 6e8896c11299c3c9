-- What is known of a view's leaves, by its form.
use Rattle.std.proofs.Common.{◌≡◌, List, map, sym, ap, ◌∙◌}
use Rattle.cells.specs.declared.dtype.Dtype.{Dtype}
use Rattle.index_transform.specs.Transforms.{DomainAndMaps}
use Rattle.stack_driver.specs.References.{Reference}
use Rattle.stack_driver.specs.declared.view.View.{View, fold-roll-View}
use Rattle.stack_driver.specs.declared.view.View.TheOpen.{View-F}
use Rattle.stack_driver.specs.declared.view.View.TheVariants as view
use Rattle.stack_targets.specs.Landings.{Ground, ground_of, ground_step}

pub ground-Leaf : (array : Reference) (t : DomainAndMaps) → ground_of (view.Leaf array t) ≡ ground_step (View-F.Leaf array t)
ground-Leaf array t = ap ground_of (sym (view.rolls-Leaf array t)) ∙ fold-roll-View Ground ground_step (View-F.Leaf array t)

pub ground-Cast : (to : Dtype) (base : View) → ground_of (view.Cast to base) ≡ ground_step (View-F.Cast to (ground_of base))
ground-Cast to base = ap ground_of (sym (view.rolls-Cast to base)) ∙ fold-roll-View Ground ground_step (View-F.Cast to base)

pub ground-Stack : (layers : List View) (t : DomainAndMaps) → ground_of (view.Stack layers t) ≡ ground_step (View-F.Stack (map ground_of layers) t)
ground-Stack layers t = ap ground_of (sym (view.rolls-Stack layers t)) ∙ fold-roll-View Ground ground_step (View-F.Stack layers t)
