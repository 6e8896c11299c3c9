-- In which leaf of a view a cell lands, the leaves counted from left to right, and at which index vector of its array.
use Rattle.std.specs.Prelude.{◌≡◌, ◌<◌, ℕ, ◌+◌, ℤ, List, [], ◌∷◌, ◌++◌, true, false, length, map, take, slice_index_or, Option, Some, None, Result, Ok, Err, if◌then◌else◌}
use Rattle.cast_driver.specs.declared.cast.Cast.{Cast}
use Rattle.cells.specs.declared.dtype.Dtype.{Dtype}
use Rattle.cells.specs.declared.dtype.Dtype.TheVariants.{I32}
use Rattle.index_intervals.specs.Bounds.{Bounds}
use Rattle.index_transform.specs.Values.{value_at}
use Rattle.stack_driver.specs.References.{Reference}
use Rattle.stack_driver.specs.Targets.{Target, in_shape, has_index}
use Rattle.stack_driver.specs.Views.{look_of}
use Rattle.stack_driver.specs.declared.error.TargetError.{TargetError}
use Rattle.stack_driver.specs.declared.error.TargetError.TheVariants.{OutOfRange, Uncovered}
use Rattle.stack_driver.specs.declared.view.View.{View, fold-View}
use Rattle.stack_driver.specs.declared.view.View.TheOpen.{View-F}

-- a leaf of a view: its array, and the casts from it outwards
pub record Seen : Type 0 where
  pub array : Reference
  pub casts : List Cast

-- a leaf's number, and an index vector of its array
pub record Landing : Type 0 where
  pub leaf : ℕ
  pub index : List ℕ

-- what is known of a view: its domain and dtype, its leaves, and where each cell lands
pub record Ground : Type 0 where
  pub dims : List Bounds
  pub dtype : Dtype
  pub leaves : List Seen
  pub landing : List ℤ → Result Landing TargetError

-- in a view of one leaf, at an index vector or outside along a dimension
abbrev pub first_landing : Result (List ℕ) ℕ → Result Landing TargetError
first_landing (Ok index) = Ok (record { leaf = 0; index = index })
first_landing (Err dim) = Err (OutOfRange dim)

-- a landing in a layer before which the stack has so many leaves
abbrev pub behind_leaves : ℕ → Result Landing TargetError → Result Landing TargetError
behind_leaves n (Ok l) = Ok (record { leaf = n + l.leaf; index = l.index })
behind_leaves n (Err fault) = Err fault

-- a stack's cell lands where it lands in the last layer whose domain has the index vector
abbrev pub last_landing : ℕ → List Ground → List ℤ → Result Landing TargetError → Result Landing TargetError
last_landing before [] x found = found
last_landing before (g ∷ gs) x found = last_landing (before + length g.leaves) gs x (if has_index g.dims x then behind_leaves before (g.landing x) else found)

-- a leaf with one cast more
abbrev pub with_cast : Cast → Seen → Seen
with_cast c l = record { array = l.array; casts = l.casts ++ c ∷ [] }

abbrev pub all_leaves : List Ground → List Seen
all_leaves [] = []
all_leaves (g ∷ gs) = g.leaves ++ all_leaves gs

abbrev pub ground_dtype : List Ground → Dtype
ground_dtype [] = I32
ground_dtype (g ∷ gs) = g.dtype

abbrev pub ground_step : View-F Ground → Ground
ground_step (View-F.Leaf array t) = record {
  dims = t.domain.dims;
  dtype = array.dtype;
  leaves = record { array = array; casts = [] } ∷ [];
  landing = λ x. first_landing (in_shape 0 (value_at t x) array.shape);
}
ground_step (View-F.Cast to base) = record {
  dims = base.dims;
  dtype = to;
  leaves = map (with_cast (record { from = base.dtype; to = to })) base.leaves;
  landing = base.landing;
}
ground_step (View-F.Stack layers t) = record {
  dims = t.domain.dims;
  dtype = ground_dtype layers;
  leaves = all_leaves layers;
  landing = λ x. last_landing 0 layers (value_at t x) (Err Uncovered);
}

abbrev pub ground_of : View → Ground
ground_of = fold-View Ground ground_step

-- a view's leaves, from left to right
abbrev pub leaves_of : View → List Seen
leaves_of v = (ground_of v).leaves

-- where a cell of a view lands, or why it lies nowhere
abbrev pub landing_of : View → List ℤ → Result Landing TargetError
landing_of v = (ground_of v).landing

-- no leaf
abbrev pub no_leaf : Seen
no_leaf = record { array = record { number = 0; dtype = I32; shape = []; chunk = []; local = false }; casts = [] }

-- the target of a landing among leaves
abbrev pub target_among : List Seen → Landing → Target
target_among leaves l = record {
  cell = record { array = (slice_index_or leaves l.leaf no_leaf).array.number; index = l.index };
  casts = (slice_index_or leaves l.leaf no_leaf).casts;
}

-- the place of the last of some layers whose domain has an index vector, and where a stack of them lands by it
abbrev pub IsLastLayer : List View → List ℤ → Option ℕ → Type 0
IsLastLayer layers x None = (found : Result Landing TargetError) → last_landing 0 (map ground_of layers) x found ≡ found
IsLastLayer layers x (Some place) =
    (place < length layers) × ((d : View) → has_index (look_of (slice_index_or layers place d)).dims x ≡ true)
    × ((d : View) (found : Result Landing TargetError) → last_landing 0 (map ground_of layers) x found
    ≡ behind_leaves (length (all_leaves (map ground_of (take place layers)))) (landing_of (slice_index_or layers place d) x))

-- a landing in this leaf, whose index vector was put behind the numbers before
pub record IsPut (landing : Result Landing TargetError) (leaf : ℕ) (before now : List ℕ) : Type 0 where
  pub index : List ℕ
  pub landed : landing ≡ Ok (record { leaf = leaf; index = index })
  pub put : now ≡ before ++ index

-- an index vector inside a shape, which was put behind the numbers before
pub record IsInside (inside : Result (List ℕ) ℕ) (before now : List ℕ) : Type 0 where
  pub index : List ℕ
  pub is : inside ≡ Ok index
  pub put : now ≡ before ++ index

-- a leaf of a stack is this one of a layer, by its place and the leaf's number among the layer's own
pub record IsLeafOfLayer (layers : List View) (leaf place own : ℕ) : Type 0 where
  pub inside : place < length layers
  pub is : leaf ≡ length (all_leaves (map ground_of (take place layers))) + own
  pub own_leaf : (d : View) → own < length (leaves_of (slice_index_or layers place d))
