-- The same view under another transform.
use Rattle.std.specs.Prelude.{◌≡◌, ℤ, List, length, map, Result, Ok, Err}
use Rattle.transform_composition.specs.Transforms.{DomainAndMaps}
use Rattle.transform_composition.specs.Values.{value_at}
use Rattle.transform_composition.specs.Agreeing.{IsCovered}
use Rattle.transform_composition.specs.Composing.{composed}
use Rattle.transform_composition.specs.declared.error.ComposeError.{ComposeError}
use Rattle.stack_driver.specs.Views.{look_of, target_of, own_transform}
use Rattle.stack_driver.specs.declared.view.View.{View, fold-View}
use Rattle.stack_driver.specs.declared.view.View.TheOpen.{View-F}
use Rattle.stack_driver.specs.declared.view.View.TheVariants as view

-- a view, and the same view under another own transform
abbrev pub under_step : DomainAndMaps → View-F (View × View) → View × View
under_step t (View-F.Leaf array u) = (view.Leaf array u, view.Leaf array t)
under_step t (View-F.Cast to base) = (view.Cast to base.0, view.Cast to base.1)
under_step t (View-F.Stack layers u) = (view.Stack (map (λ (l : View × View). l.0) layers) u, view.Stack (map (λ (l : View × View). l.0) layers) t)

-- the same view, whose own transform is this one: that of a leaf or a stack, and of a cast's base
abbrev pub under : DomainAndMaps → View → View
under t v = (fold-View (View × View) (under_step t) v).1

abbrev pub under_result : View → Result DomainAndMaps ComposeError → Result View ComposeError
under_result v (Ok t) = Ok (under t v)
under_result v (Err e) = Err e

-- the view seen through a further transform
abbrev pub moved : View → DomainAndMaps → Result View ComposeError
moved v inner = under_result v (composed (own_transform v) inner)

-- where the old view's cell is covered, the new view's cell at an index vector is the old one's at the transform's value
abbrev pub HasTargetsOf : View → View → DomainAndMaps → Type 0
HasTargetsOf w v inner =
    (index : List ℤ) → length index ≡ length (look_of w).dims → IsCovered (look_of w).dims (own_transform v).maps inner.maps index → target_of w index ≡ target_of v (value_at inner index)
