-- A view of one array: its leaf, where its cells land, and their sites.
use Rattle.std.proofs.Common.{◌≡◌, ◌∙◌, ℕ, ◌+◌, ◌<◌, ℤ, pos, negsuc, true, cond, List, [], ◌∷◌, ◌++◌, length, map, Option, Some, None, Result, Ok, Err, refl, sym, ap, subst, arith, nat_lt, unwrap_or}
use Rattle.std.specs.List.{AllByRecursion}
use Rattle.std.proofs.lemmas.Bool.Decides.{nat_tests}
use Rattle.std.proofs.lemmas.Int.{ints}
use Rattle.std.proofs.lemmas.List.Elements.{recursion_from_All}
use Rattle.cast_driver.specs.declared.cast.Cast.{Cast}
use Rattle.cells.specs.declared.dtype.Dtype.{Dtype}
use Rattle.chunk_grid.specs.Grid.{IsInShape, numbers}
use Rattle.index_transform.specs.Cells.{cells_of}
use Rattle.index_transform.specs.Transforms.{DomainAndMaps}
use Rattle.index_transform.specs.Values.{value_at}
use Rattle.stack_driver.specs.Conditions.{IsView}
use Rattle.stack_driver.specs.References.{Reference}
use Rattle.stack_driver.specs.Renewed.{array_of}
use Rattle.stack_driver.specs.Targets.{before, in_dim, in_shape}
use Rattle.stack_driver.specs.Views.{own_transform}
use Rattle.stack_driver.specs.declared.error.TargetError.{TargetError}
use Rattle.stack_driver.specs.declared.view.View.{View, ind-View, roll-View, map-View}
use Rattle.stack_driver.specs.declared.view.View.TheOpen.{View-F}
use Rattle.stack_driver.specs.declared.view.View.TheVariants as view
use Rattle.stack_driver.proofs.Layers.{leaf_node, base_view}
use Rattle.stack_driver.proofs.Laws.{array-Leaf, array-Cast, array-Stack, own_dims}
use Rattle.stack_driver.proofs.Looks.{own-Leaf, own-Cast}
use Rattle.stack_targets.specs.Buffers.{all_landings, all_or_first, first_and}
use Rattle.stack_targets.specs.Landings.{Seen, Landing, Ground, ground_of, leaves_of, landing_of, first_landing, with_cast}
use Rattle.stack_targets.proofs.Laws.{ground-Leaf, ground-Cast}
use Rattle.transaction_cells.specs.Along.{IsWithin, targets_along}
use Rattle.transaction_cells.specs.Lanes.{lane_of}
use Rattle.transaction_cells.specs.Sites.{site_by, site_of, sites_in, sites_of}

-- a view of one array has one leaf, and its cells land there by its own transform
pub record IsOfOne (v : View) (array : Reference) : Type 0 where
  pub casts : List Cast
  pub leaves : leaves_of v ≡ record { array = array; casts = casts } ∷ []
  pub landing : (x : List ℤ) → landing_of v x ≡ first_landing (in_shape 0 (value_at (own_transform v) x) array.shape)
  pub rank : IsView v → length (own_transform v).maps ≡ length array.shape

abbrev Goes : View → Type 0
Goes v = (array : Reference) → array_of v ≡ Some array → IsOfOne v array

goes-Leaf : (r : Reference) (t : DomainAndMaps) → Goes (view.Leaf r t)
goes-Leaf r t array is =
    let same : r ≡ array = ap (λ (o : Option Reference). unwrap_or o r) (sym (array-Leaf r t) ∙ is) in
    subst (IsOfOne (view.Leaf r t)) same
    (record {
      casts = [];
      leaves = ap (λ (g : Ground). g.leaves) (ground-Leaf r t);
      landing = λ x. ap (λ (g : Ground). g.landing x) (ground-Leaf r t) ∙ ap (λ (u : DomainAndMaps). first_landing (in_shape 0 (value_at u x) r.shape)) (sym (own-Leaf r t));
      rank = λ valid. ap (λ (u : DomainAndMaps). length u.maps) (own-Leaf r t) ∙ leaf_node r t valid;
    })

goes-Cast : (to : Dtype) (base : View) → Goes base → Goes (view.Cast to base)
goes-Cast to base below array is =
    let h = below array (sym (array-Cast to base) ∙ is) in
    let c : Cast = record { from = (ground_of base).dtype; to = to } in
    record {
      casts = h.casts ++ c ∷ [];
      leaves = ap (λ (g : Ground). g.leaves) (ground-Cast to base) ∙ ap (map (with_cast c)) h.leaves;
      landing = λ x. ap (λ (g : Ground). g.landing x) (ground-Cast to base) ∙ h.landing x ∙ ap (λ (u : DomainAndMaps). first_landing (in_shape 0 (value_at u x) array.shape)) (sym (own-Cast to base));
      rank = λ valid. ap (λ (u : DomainAndMaps). length u.maps) (own-Cast to base) ∙ h.rank (base_view to base valid);
    }

goes-Stack : (layers : List View) (t : DomainAndMaps) → Goes (view.Stack layers t)
goes-Stack layers t array is = let never : None ≡ Some array = sym (array-Stack layers t) ∙ is in absurd (cc)

goes_step : (x : View-F View) (y : View-F ((z : View) × Goes z)) → map-View ((z : View) × Goes z) View (λ e. e.0) y ≡ x → Goes (roll-View x)
goes_step x (View-F.Leaf array u) e = subst (λ z. Goes (roll-View z)) e (subst Goes (sym (view.rolls-Leaf array u)) (goes-Leaf array u))
goes_step x (View-F.Cast to p) e = subst (λ z. Goes (roll-View z)) e (subst Goes (sym (view.rolls-Cast to p.0)) (goes-Cast to p.0 p.1))
goes_step x (View-F.Stack ys u) e =
    subst (λ z. Goes (roll-View z)) e (subst Goes (sym (view.rolls-Stack (map (λ y. y.0) ys) u)) (goes-Stack (map (λ y. y.0) ys) u))

pub of_one : (v : View) → Goes v
of_one v = ind-View Goes goes_step v

-- an index vector inside a shape is told by its numbers
one_inside : (n size dim : ℕ) (rest : Result (List ℕ) ℕ) (index : List ℕ) → n < size → rest ≡ Ok index → in_dim (pos n) size dim rest ≡ Ok (n ∷ index)
one_inside n size dim rest index less is =
    let below : nat_lt n size ≡ true = grind (arith, nat_tests, less) in
    ap (λ b. cond b (before n rest) (Err dim)) below ∙ ap (before n) is

inside_told : (dim : ℕ) (xs : List ℤ) (shape : List ℕ) → IsInShape shape xs → in_shape dim xs shape ≡ Ok (numbers xs)
inside_told dim [] [] h = refl
inside_told dim [] (size ∷ shape) h = absurd h
inside_told dim (x ∷ xs) [] h = absurd h
inside_told dim (pos n ∷ xs) (size ∷ shape) h =
    let less = h.1 in
    one_inside n size dim (in_shape (dim + 1) xs shape) (numbers xs) (omega (arith, ints, less)) (inside_told (dim + 1) xs shape h.2)
inside_told dim (negsuc n ∷ xs) (size ∷ shape) h = let from = h.0 in absurd (omega (arith, ints, from))

-- where each cell lands in the first leaf, all do
abbrev landing_at : List ℕ → Landing
landing_at index = record { leaf = 0; index = index }

all_first : (land : List ℤ → Result Landing TargetError) (target : List ℤ → List ℕ) (cells : List (List ℤ)) (k : ℕ) → AllByRecursion (λ x. land x ≡ Ok (landing_at (target x))) cells
    → all_or_first k (map land cells) ≡ Ok (map (λ x. landing_at (target x)) cells)
all_first land target [] k h = refl
all_first land target (x ∷ cells) k h =
    ap (λ r. all_or_first k (r ∷ map land cells)) h.0 ∙ ap (first_and (landing_at (target x))) (all_first land target cells (k + 1) h.1)

each_first : (land : List ℤ → Result Landing TargetError) (t : DomainAndMaps) (shape : List ℕ) → ((x : List ℤ) → land x ≡ first_landing (in_shape 0 (value_at t x) shape)) → (cells : List (List ℤ))
    → AllByRecursion (λ x. IsInShape shape (value_at t x)) cells → AllByRecursion (λ x. land x ≡ Ok (landing_at (numbers (value_at t x)))) cells
each_first land t shape is [] h = tt
each_first land t shape is (x ∷ cells) h = (is x ∙ ap first_landing (inside_told 0 (value_at t x) shape h.0), each_first land t shape is cells h.1)

-- the landings of a view of one array
abbrev pub landings_along : DomainAndMaps → List Landing
landings_along t = map (λ x. landing_at (numbers (value_at t x))) (cells_of t.domain.dims)

pub all_along : (v : View) (array : Reference) → IsWithin v array → all_landings v ≡ Ok (landings_along (own_transform v))
all_along v array h =
    let t = own_transform v in
    ap (λ dims. all_or_first 0 (map (landing_of v) (cells_of dims))) (sym (own_dims v))
    ∙ all_first (landing_of v) (λ x. numbers (value_at t x)) (cells_of t.domain.dims) 0
    (each_first (landing_of v) t array.shape (of_one v array h.of_array).landing (cells_of t.domain.dims)
    (recursion_from_All (λ x. IsInShape array.shape (value_at t x)) (cells_of t.domain.dims) h.inside))

-- the sites of landings in the one leaf
sites_first : (leaf : Seen) (target : List ℤ → List ℕ) (cells : List (List ℤ)) → map (site_of (leaf ∷ [])) (map (λ x. landing_at (target x)) cells) ≡ map (site_by (lane_of leaf)) (map target cells)
sites_first leaf target [] = refl
sites_first leaf target (x ∷ cells) = ap (λ ss. site_by (lane_of leaf) (target x) ∷ ss) (sites_first leaf target cells)

pub sites_along : (v : View) (array : Reference) (h : IsWithin v array)
    → sites_of v ≡ map (site_by (record { array = array.number; chunk = array.chunk; casts = (of_one v array h.of_array).casts })) (targets_along (own_transform v))
sites_along v array h =
    let one = of_one v array h.of_array in
    let t = own_transform v in
    ap (sites_in (leaves_of v)) (all_along v array h)
    ∙ ap (λ (leaves : List Seen). map (site_of leaves) (landings_along t)) one.leaves
    ∙ sites_first (record { array = array; casts = one.casts }) (λ x. numbers (value_at t x)) (cells_of t.domain.dims)
