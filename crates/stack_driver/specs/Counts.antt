-- A view's casts, how many leaves it has, and how deep it is nested.
use Rattle.std.specs.Prelude.{ℕ, ◌+◌, max, List, [], ◌∷◌, ◌++◌}
use Rattle.cast_driver.specs.declared.cast.Cast.{Cast}
use Rattle.cast_driver.specs.declared.Dtype.{Dtype}
use Rattle.cast_driver.specs.declared.Dtype.TheVariants.{I32}
use Rattle.stack_driver.specs.declared.view.View.{View, fold-View}
use Rattle.stack_driver.specs.declared.view.View.TheOpen.{View-F}

-- the dtype that a view shows, and the casts by which it comes from that of a leaf or a stack
pub record Shown : Type 0 where
  pub dtype : Dtype
  pub casts : List Cast

abbrev pub first_dtype : List Shown → Dtype
first_dtype [] = I32
first_dtype (s ∷ ss) = s.dtype

abbrev pub shown_step : View-F Shown → Shown
shown_step (View-F.Leaf array t) = record { dtype = array.dtype; casts = [] }
shown_step (View-F.Cast to base) = record { dtype = to; casts = base.casts ++ record { from = base.dtype; to = to } ∷ [] }
shown_step (View-F.Stack layers t) = record { dtype = first_dtype layers; casts = [] }

-- the casts of a view down to a leaf or a stack, the one next to it first
abbrev pub casts_of : View → List Cast
casts_of v = (fold-View Shown shown_step v).casts

abbrev pub sum_of : List ℕ → ℕ
sum_of [] = 0
sum_of (n ∷ ns) = n + sum_of ns

abbrev pub leaves_step : View-F ℕ → ℕ
leaves_step (View-F.Leaf array t) = 1
leaves_step (View-F.Cast to base) = base
leaves_step (View-F.Stack layers t) = sum_of layers

-- how many leaves a view has
abbrev pub leaves_of : View → ℕ
leaves_of = fold-View ℕ leaves_step

abbrev pub greatest_of : List ℕ → ℕ
greatest_of [] = 0
greatest_of (n ∷ ns) = max n (greatest_of ns)

abbrev pub depth_step : View-F ℕ → ℕ
depth_step (View-F.Leaf array t) = 0
depth_step (View-F.Cast to base) = 1 + base
depth_step (View-F.Stack layers t) = 1 + greatest_of layers

-- how many casts and stacks stand around a leaf of the view, at most
abbrev pub depth_of : View → ℕ
depth_of = fold-View ℕ depth_step
