-- Views whose numbers and texts may be printed, and why views aren't made.
use Rattle.std.proofs.Common.{◌≡◌, ◌+◌, ◌<◌, ◌≤◌, ◌^◌, ℕ, ℤ, pos, negsuc, nat_lt, Bool, true, false, cond, List, [], ◌∷◌, length, map, Result, Ok, Err, IsUtf8, refl, sym, ap, subst, arith}
use Rattle.std.specs.List.{AllByRecursion, list_all}
use Rattle.std.proofs.lemmas.Int.{ints}
use Rattle.std.proofs.lemmas.List.{length-map}
use Rattle.std.proofs.lemmas.Str.{IsUtf8-nil}
use Rattle.cells.specs.declared.dtype.Dtype.{Dtype}
use Rattle.index_intervals.specs.Bounds.{Bounds}
use Rattle.index_transform.specs.Identity.{identity_maps, identity_over}
use Rattle.index_transform.specs.Transforms.{DomainAndMaps}
use Rattle.index_transform.specs.Values.{value_at, map_value}
use Rattle.transform_composition.specs.Composing.{composed}
use Rattle.transform_composition.specs.declared.error.ComposeError.{ComposeError}
use Rattle.stack_driver.specs.Arrays.{array_dim, array_domain, whole_view}
use Rattle.stack_driver.specs.Changes.{under, under_result, moved}
use Rattle.stack_driver.specs.References.{Reference}
use Rattle.stack_driver.specs.Stacks.{column, stacked_dims, stacked_labels, has_label, stacked_domain}
use Rattle.stack_driver.specs.Targets.{Target, before, in_dim, in_shape, has_index}
use Rattle.stack_driver.specs.Views.{Look, look_of, look_step, leaf_target, cast_target, last_target, own_transform}
use Rattle.stack_driver.specs.declared.error.TargetError.{TargetError}
use Rattle.stack_driver.specs.declared.error.TargetError.TheVariants as target
use Rattle.stack_driver.specs.declared.view.View.{View, ind-View, roll-View, map-View, every-View, every_here-View, every_made-View}
use Rattle.stack_driver.specs.declared.view.View.TheOpen.{View-F}
use Rattle.stack_driver.specs.declared.view.View.TheVariants as view
use Rattle.stack_driver.proofs.Layers.{every_layer, every_base}
use Rattle.stack_driver.proofs.Looks.{look-Leaf, look-Cast, look-Stack, own-Leaf, own-Cast, own-Stack, own_dims}
use Rattle.stack_driver.proofs.StackRules.{length-stacked_dims}
use Rattle.stack_driver.proofs.Unders.{under-Leaf, under-Cast, under-Stack}
use Rattle.output_laws.specs.Small.{IsSmallDim, IsSmallMap, IsSmall, IsSmallFault}
use Rattle.output_laws.proofs.SmallDims.{all_around_small}
use Rattle.output_laws.proofs.SmallMaps.{all_at, map_all, map_of, zero_whole, IsSmallAnswer, IsFurther, composed_small}
use Rattle.output_laws.proofs.ViewRanks.{own_under}

-- a leaf has at most 32 outputs
abbrev pub IsFewNode : View-F View → Type 0
IsFewNode (View-F.Leaf array t) = length t.maps ≤ 32
IsFewNode (View-F.Cast to base) = Unit {0}
IsFewNode (View-F.Stack layers t) = Unit {0}

abbrev pub IsFewView : View → Type 0
IsFewView = every-View IsFewNode

-- the own transform's numbers and texts may be printed, and each leaf has few outputs
pub record IsSmallView (v : View) : Type 0 where
  pub own : IsSmall (own_transform v)
  pub few : IsFewView v

-- ---- few outputs

leaf_few : (array : Reference) (t : DomainAndMaps) → length t.maps ≤ 32 → IsFewView (view.Leaf array t)
leaf_few array t few = subst IsFewView (view.rolls-Leaf array t) (every_made-View IsFewNode (View-F.Leaf array t) (View-F.Leaf array t) refl few)

cast_few : (to : Dtype) (base : View) → IsFewView base → IsFewView (view.Cast to base)
cast_few to base is = subst IsFewView (view.rolls-Cast to base) (every_made-View IsFewNode (View-F.Cast to base) (View-F.Cast to (base, is)) refl tt)

abbrev pairs : (layers : List View) → AllByRecursion IsFewView layers → List ((z : View) × IsFewView z)
pairs [] all = []
pairs (l ∷ ls) all = (l, all.0) ∷ pairs ls all.1

pairs-are : (layers : List View) (all : AllByRecursion IsFewView layers) → map (λ (p : (z : View) × IsFewView z). p.0) (pairs layers all) ≡ layers
pairs-are [] all = refl
pairs-are (l ∷ ls) all = ap (λ vs. l ∷ vs) (pairs-are ls all.1)

stack_few : (layers : List View) (t : DomainAndMaps) → AllByRecursion IsFewView layers → IsFewView (view.Stack layers t)
stack_few layers t all =
    subst IsFewView (view.rolls-Stack layers t) (every_made-View IsFewNode (View-F.Stack layers t) (View-F.Stack (pairs layers all) t) (ap (λ vs. View-F.Stack vs t) (pairs-are layers all)) tt)

abbrev Keeps : DomainAndMaps → View → Type 0
Keeps t v = IsFewView v → IsFewView (under t v)

module _ (t : DomainAndMaps) (few : length t.maps ≤ 32) where
  kept_step : (x : View-F View) (y : View-F ((z : View) × Keeps t z)) → map-View ((z : View) × Keeps t z) View (λ e. e.0) y ≡ x → Keeps t (roll-View x)
  kept_step x (View-F.Leaf array u) e = subst (λ z. Keeps t (roll-View z)) e (subst (Keeps t) (sym (view.rolls-Leaf array u)) (λ is. subst IsFewView (sym (under-Leaf t array u)) (leaf_few array t few)))
  kept_step x (View-F.Cast to p) e =
      subst (λ z. Keeps t (roll-View z)) e (subst (Keeps t) (sym (view.rolls-Cast to p.0)) (λ is. subst IsFewView (sym (under-Cast t to p.0)) (cast_few to (under t p.0) (p.1 (every_base IsFewNode to p.0 is)))))
  kept_step x (View-F.Stack ys u) e =
      subst (λ z. Keeps t (roll-View z)) e
      (subst (Keeps t) (sym (view.rolls-Stack (map (λ y. y.0) ys) u)) (λ is. subst IsFewView (sym (under-Stack t (map (λ y. y.0) ys) u)) (stack_few (map (λ y. y.0) ys) t (every_layer IsFewNode (map (λ y. y.0) ys) u is))))

  under_few : (v : View) → Keeps t v
  under_few v = ind-View (Keeps t) kept_step v

pub under_small : (t : DomainAndMaps) (v : View) → IsSmall t → IsSmallView v → IsSmallView (under t v)
under_small t v small is = record { own = subst IsSmall (sym (own_under t v)) small; few = under_few t small.outputs v is.few }

-- a view seen through a further transform, or why not
abbrev pub IsMoved : Result View ComposeError → Type 0
IsMoved (Ok v) = IsSmallView v
IsMoved (Err e) = IsSmallFault e

pub moved_small : (v : View) (t : DomainAndMaps) → IsSmallView v → IsFurther t → IsMoved (moved v t)
moved_small v t is further = go (composed (own_transform v) t) (composed_small (own_transform v) t is.own further)
  where
    go : (r : Result DomainAndMaps ComposeError) → IsSmallAnswer r → IsMoved (under_result v r)
    go (Ok u) small = under_small u v small is
    go (Err e) fault = fault

-- ---- targets

abbrev pub IsSmallTarget : Result Target TargetError → Type 0
IsSmallTarget (Ok t) = Unit {0}
IsSmallTarget (Err (target.OutOfRange dim)) = dim < 2 ^ 64
IsSmallTarget (Err target.Uncovered) = Unit {0}
IsSmallTarget (Err target.Memory) = Unit {0}

-- a dimension of so many, or an index vector
abbrev IsWithin : ℕ → Result (List ℕ) ℕ → Type 0
IsWithin most (Ok index) = Unit {0}
IsWithin most (Err dim) = dim ≤ most

before_within : (most x : ℕ) (r : Result (List ℕ) ℕ) → IsWithin most r → IsWithin most (before x r)
before_within most x (Ok xs) is = tt
before_within most x (Err dim) is = is

dim_within : (most : ℕ) (x : ℤ) (size dim : ℕ) (r : Result (List ℕ) ℕ) → dim ≤ most → IsWithin most r → IsWithin most (in_dim x size dim r)
dim_within most (negsuc x) size dim r low is = low
dim_within most (pos x) size dim r low is = go (nat_lt x size)
  where
    go : (t : Bool) → IsWithin most (cond t (before x r) (Err dim))
    go true = before_within most x r is
    go false = low

shape_within : (dim most : ℕ) (xs : List ℤ) (shape : List ℕ) → dim + length xs ≤ most → IsWithin most (in_shape dim xs shape)
shape_within dim most [] [] low = tt
shape_within dim most [] (size ∷ shape) low = omega (arith, low)
shape_within dim most (x ∷ xs) [] low = omega (arith, low)
shape_within dim most (x ∷ xs) (size ∷ shape) low = dim_within most x size dim (in_shape (dim + 1) xs shape) (omega (arith, low)) (shape_within (dim + 1) most xs shape (omega (arith, low)))

leaf_targets : (array : Reference) (r : Result (List ℕ) ℕ) → IsWithin 32 r → IsSmallTarget (leaf_target array r)
leaf_targets array (Ok index) is = tt
leaf_targets array (Err dim) is = omega (arith, is)

abbrev AreSmallTargets : Look → Type 0
AreSmallTargets l = (x : List ℤ) → IsSmallTarget (l.target x)

cast_targets : (base : Look) (to : Dtype) → AreSmallTargets base → AreSmallTargets (look_step (View-F.Cast to base))
cast_targets base to are x = go (base.target x) (are x)
  where
    go : (r : Result Target TargetError) → IsSmallTarget r → IsSmallTarget (cast_target (record { from = base.dtype; to = to }) r)
    go (Ok t) is = tt
    go (Err (target.OutOfRange dim)) is = is
    go (Err target.Uncovered) is = tt
    go (Err target.Memory) is = tt

last_targets : (ls : List Look) (x : List ℤ) (found : Result Target TargetError) → AllByRecursion AreSmallTargets ls → IsSmallTarget found → IsSmallTarget (last_target ls x found)
last_targets [] x found all is = is
last_targets (l ∷ ls) x found all is = go (has_index l.dims x) (λ r one. last_targets ls x r all.1 one)
  where
    go : (t : Bool) → ((r : Result Target TargetError) → IsSmallTarget r → IsSmallTarget (last_target ls x r)) → IsSmallTarget (last_target ls x (cond t (l.target x) found))
    go true more = more (l.target x) (all.0 x)
    go false more = more found is

abbrev Targets : View → Type 0
Targets v = IsFewView v → AreSmallTargets (look_of v)

targets_leaf : (array : Reference) (t : DomainAndMaps) → Targets (view.Leaf array t)
targets_leaf array t is =
    let node : length t.maps ≤ 32 = subst IsFewNode (view.outs-Leaf array t) (every_here-View IsFewNode (view.Leaf array t) is) in
    subst AreSmallTargets (sym (look-Leaf array t))
    (λ x. let count = length-map t.maps (map_value t.domain.dims x) in leaf_targets array (in_shape 0 (value_at t x) array.shape) (shape_within 0 32 (value_at t x) array.shape (omega (arith, count, node))))

looks_of : (ys : List ((z : View) × Targets z)) → AllByRecursion IsFewView (map (λ y. y.0) ys) → AllByRecursion AreSmallTargets (map look_of (map (λ y. y.0) ys))
looks_of [] all = tt
looks_of (y ∷ ys) all = (y.1 all.0, looks_of ys all.1)

targets_step : (x : View-F View) (y : View-F ((z : View) × Targets z)) → map-View ((z : View) × Targets z) View (λ e. e.0) y ≡ x → Targets (roll-View x)
targets_step x (View-F.Leaf array u) e = subst (λ z. Targets (roll-View z)) e (subst Targets (sym (view.rolls-Leaf array u)) (targets_leaf array u))
targets_step x (View-F.Cast to p) e =
    subst (λ z. Targets (roll-View z)) e
    (subst Targets (sym (view.rolls-Cast to p.0)) (λ is. subst AreSmallTargets (sym (look-Cast to p.0)) (cast_targets (look_of p.0) to (p.1 (every_base IsFewNode to p.0 is)))))
targets_step x (View-F.Stack ys u) e =
    subst (λ z. Targets (roll-View z)) e
    (subst Targets (sym (view.rolls-Stack (map (λ y. y.0) ys) u))
    (λ is. subst AreSmallTargets (sym (look-Stack (map (λ y. y.0) ys) u))
    (λ x. last_targets (map look_of (map (λ y. y.0) ys)) (value_at u x) (Err target.Uncovered) (looks_of ys (every_layer IsFewNode (map (λ y. y.0) ys) u is)) tt)))

pub targets_small : (v : View) → IsFewView v → AreSmallTargets (look_of v)
targets_small v = ind-View Targets targets_step v

-- ---- whole arrays and stacks

-- an array has at most 32 sizes, each below 2^63
pub record IsSmallRef (r : Reference) : Type 0 where
  pub few : length r.shape ≤ 32
  pub sizes : AllByRecursion (λ size. size < 2 ^ 63) r.shape

identity_small : (k : ℕ) (dims : List Bounds) → k + length dims ≤ 32 → AllByRecursion IsSmallMap (identity_maps k dims)
identity_small k [] low = tt
identity_small k (d ∷ dims) low =
    ((zero_whole, record { from_least = omega (arith, ints); to_greatest = omega (arith, ints) }, omega (arith, low)), identity_small (k + 1) dims (omega (arith, low)))

count_identity : (k : ℕ) (dims : List Bounds) → length (identity_maps k dims) ≡ length dims
count_identity k [] = refl
count_identity k (d ∷ dims) = let rest = count_identity (k + 1) dims in omega (arith, rest)

array_small : (local : Bool) (size : ℕ) → size < 2 ^ 63 → IsSmallDim (array_dim local size)
array_small local size low = record {
  lo = record { from_least = omega (arith, ints); to_greatest = omega (arith, ints) };
  hi = record { from_least = omega (arith, ints, low); to_greatest = omega (arith, ints, low) };
}

pub whole_small : (r : Reference) → IsSmallRef r → IsSmallView (whole_view r)
whole_small r is =
    let t = identity_over (array_domain r) in
    let dims = map (array_dim r.local) r.shape in
    let count = length-map r.shape (array_dim r.local) in
    let outputs = count_identity 0 dims in
    record {
      own = subst IsSmall (sym (own-Leaf r t)) (record {
        dims = map_of (λ size. size < 2 ^ 63) IsSmallDim (array_dim r.local) r.shape (array_small r.local) is.sizes;
        labels = map_all IsUtf8 (λ (size : ℕ). []) r.shape (λ size. IsUtf8-nil);
        maps = identity_small 0 dims (omega (arith, count, is.few));
        few = omega (arith, count, is.few);
        outputs = omega (arith, outputs, count, is.few);
      });
      few = leaf_few r t (omega (arith, outputs, count, is.few));
    }

look_dims : (v : View) → IsSmallView v → AllByRecursion IsSmallDim (look_of v).dims
look_dims v is = subst (AllByRecursion IsSmallDim) (own_dims v) is.own.dims

column_small : (k : ℕ) (dim : Bounds) (layers : List View) → IsSmallDim dim → AllByRecursion IsSmallView layers → AllByRecursion IsSmallDim (column k dim layers)
column_small k dim [] small all = tt
column_small k dim (v ∷ vs) small all = (all_at IsSmallDim dim (look_of v).dims k small (look_dims v all.0), column_small k dim vs small all.1)

stacked_small : (k : ℕ) (dims : List Bounds) (layers : List View) → AllByRecursion IsSmallDim dims → AllByRecursion IsSmallView layers → AllByRecursion IsSmallDim (stacked_dims k dims layers)
stacked_small k [] layers small all = tt
stacked_small k (dim ∷ dims) layers small all = (all_around_small (column k dim layers) (column_small k dim layers small.0 all), stacked_small (k + 1) dims layers small.1 all)

labels_small : (k : ℕ) (labels : List (List ℕ)) (layers : List View) → AllByRecursion IsUtf8 labels → AllByRecursion IsUtf8 (stacked_labels k labels layers)
labels_small k [] layers all = tt
labels_small k (label ∷ labels) layers all = (go (list_all (has_label k label) layers), labels_small (k + 1) labels layers all.1)
  where
    go : (t : Bool) → IsUtf8 (cond t label [])
    go true = all.0
    go false = IsUtf8-nil

stack_domain_small : (layers : List View) → AllByRecursion IsSmallView layers → IsSmall (identity_over (stacked_domain layers))
stack_domain_small [] all = record { dims = tt; labels = tt; maps = tt; few = omega arith; outputs = omega arith }
stack_domain_small (v ∷ vs) all =
    let first : IsSmallView v = all.0 in
    let dims : length (own_transform v).domain.dims ≡ length (look_of v).dims = ap length (own_dims v) in
    let one = length-stacked_dims 0 (look_of v).dims (v ∷ vs) in
    let outputs = count_identity 0 (stacked_dims 0 (look_of v).dims (v ∷ vs)) in
    let few = first.own.few in
    record {
      dims = stacked_small 0 (look_of v).dims (v ∷ vs) (look_dims v first) all;
      labels = labels_small 0 (own_transform v).domain.labels (v ∷ vs) first.own.labels;
      maps = identity_small 0 (stacked_dims 0 (look_of v).dims (v ∷ vs)) (omega (arith, one, dims, few));
      few = omega (arith, one, dims, few);
      outputs = omega (arith, outputs, one, dims, few);
    }

few_layers : (layers : List View) → AllByRecursion IsSmallView layers → AllByRecursion IsFewView layers
few_layers [] all = tt
few_layers (v ∷ vs) all = (all.0.few, few_layers vs all.1)

pub stack_small : (layers : List View) → AllByRecursion IsSmallView layers → IsSmallView (view.Stack layers (identity_over (stacked_domain layers)))
stack_small layers all =
    let t = identity_over (stacked_domain layers) in
    record { own = subst IsSmall (sym (own-Stack layers t)) (stack_domain_small layers all); few = stack_few layers t (few_layers layers all) }

pub cast_small : (to : Dtype) (base : View) → IsSmallView base → IsSmallView (view.Cast to base)
cast_small to base is = record { own = subst IsSmall (sym (own-Cast to base)) is.own; few = cast_few to base is.few }
