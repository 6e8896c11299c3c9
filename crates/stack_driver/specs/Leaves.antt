-- An array under casts: its targets, by the one transform and the casts.
use Rattle.std.specs.Prelude.{◌≡◌, ℤ, List, Result, Ok, Err}
use Rattle.cast_driver.specs.declared.cast.Cast.{Cast}
use Rattle.transform_composition.specs.Values.{value_at}
use Rattle.stack_driver.specs.Counts.{casts_of}
use Rattle.stack_driver.specs.References.{Reference}
use Rattle.stack_driver.specs.Targets.{Target, in_shape}
use Rattle.stack_driver.specs.Views.{leaf_target, own_transform, target_of}
use Rattle.stack_driver.specs.declared.error.TargetError.{TargetError}
use Rattle.stack_driver.specs.declared.view.View.{View}

-- a cell behind these casts
abbrev pub behind : List Cast → Result Target TargetError → Result Target TargetError
behind casts (Ok t) = Ok (record { cell = t.cell; casts = casts })
behind casts (Err fault) = Err fault

-- each target of the view is the array at the value of the view's own transform, behind the view's casts
abbrev pub IsLeafOf : View → Reference → Type 0
IsLeafOf v r = (index : List ℤ) → target_of v index ≡ behind (casts_of v) (leaf_target r (in_shape 0 (value_at (own_transform v) index) r.shape))
