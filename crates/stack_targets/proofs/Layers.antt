-- The last layer that has an index vector, and the leaves before it.
use Rattle.std.proofs.Common.{◌≡◌, ◌<◌, ◌≤◌, ◌∙◌, ℕ, ◌+◌, zero, suc, ℤ, true, false, List, [], ◌∷◌, ◌++◌, length, map, take, get_or, Some, Result, refl, sym, ap, subst, arith, length-append, append_assoc, append-nil}
use Rattle.std.specs.List.{AllByRecursion}
use Rattle.std.specs.Prelude.{if◌then◌else◌}
use Rattle.std.proofs.lemmas.List.{map_more}
use Rattle.cells.proofs.Laws.{then_from, else_from}
use Rattle.cells.specs.declared.dtype.Dtype.{Dtype}
use denote.Param.Weighed.{at_most}
use Rattle.index_intervals.specs.Bounds.{Bounds}
use Rattle.index_transform.specs.Transforms.{DomainAndMaps}
use Rattle.stack_driver.specs.Conditions.{IsNode, IsView}
use Rattle.stack_driver.specs.References.{Reference}
use Rattle.stack_driver.specs.Targets.{has_index}
use Rattle.stack_driver.specs.Views.{look_of}
use Rattle.stack_driver.specs.declared.error.TargetError.{TargetError}
use Rattle.stack_driver.specs.declared.view.View.{View, size_is-View, size-View, every_here-View}
use Rattle.stack_driver.specs.declared.view.View.TheVariants as view
use Rattle.stack_driver.proofs.Laws.{every_layer, every_base}
use Rattle.stack_targets.specs.Axes.{LackIndex}
use Rattle.stack_targets.specs.Landings.{Landing, Ground, ground_of, behind_leaves, last_landing, all_leaves, leaves_of, landing_of, IsLastLayer}
use Rattle.stack_targets.proofs.Meeting.{agrees}

-- what a node keeps, and each is smaller
pub leaf_node : (array : Reference) (t : DomainAndMaps) → IsView (view.Leaf array t) → length t.maps ≡ length array.shape
leaf_node array t h = subst IsNode (view.outs-Leaf array t) (every_here-View IsNode (view.Leaf array t) h)

-- what holds of each layer holds of the layer at a place
pub layer_at : (P : View → Type 0) (layers : List View) (k : ℕ) (d : View) → k < length layers → AllByRecursion P layers → P (get_or layers k d)
layer_at P [] k d h all = absurd (omega arith)
layer_at P (l ∷ ls) zero d h all = all.0
layer_at P (l ∷ ls) (suc k) d h all = layer_at P ls k d (omega (arith, h)) all.1

pub layer_view : (layers : List View) (t : DomainAndMaps) (k : ℕ) (d : View) → IsView (view.Stack layers t) → k < length layers → IsView (get_or layers k d)
layer_view layers t k d h b = layer_at IsView layers k d b (every_layer IsNode layers t h)

pub base_view : (to : Dtype) (base : View) → IsView (view.Cast to base) → IsView base
base_view to base h = every_base IsNode to base h

pub layer_smaller : (layers : List View) (t : DomainAndMaps) (k : ℕ) (d : View) → k < length layers → size-View (get_or layers k d) < size-View (view.Stack layers t)
layer_smaller layers t k d h = let small = at_most size-View layers k d h in rw (size_is-View (view.Stack layers t), view.outs-Stack layers t) (omega arith)

pub base_smaller : (to : Dtype) (base : View) → size-View base < size-View (view.Cast to base)
base_smaller to base = rw (size_is-View (view.Cast to base), view.outs-Cast to base) (omega arith)

-- one layer more
last-append : (before : ℕ) (gs : List Ground) (g : Ground) (x : List ℤ) (found : Result Landing TargetError)
    → last_landing before (gs ++ g ∷ []) x found ≡ (if has_index g.dims x then behind_leaves (before + length (all_leaves gs)) (g.landing x) else last_landing before gs x found)
last-append before [] g x found = ap (λ n. if has_index g.dims x then behind_leaves n (g.landing x) else found) (omega arith)
last-append before (h ∷ hs) g x found =
    let found_next = if has_index h.dims x then behind_leaves before (h.landing x) else found in
    last-append (before + length h.leaves) hs g x found_next
    ∙ ap (λ n. if has_index g.dims x then behind_leaves n (g.landing x) else last_landing (before + length h.leaves) hs x found_next) (let n = length-append h.leaves (all_leaves hs) in omega (arith, n))

last-more : (gs : List Ground) (g : Ground) (x : List ℤ) (found : Result Landing TargetError)
    → last_landing 0 (gs ++ g ∷ []) x found ≡ (if has_index g.dims x then behind_leaves (length (all_leaves gs)) (g.landing x) else last_landing 0 gs x found)
last-more gs g x found = last-append 0 gs g x found ∙ ap (λ n. if has_index g.dims x then behind_leaves n (g.landing x) else last_landing 0 gs x found) (omega arith)

leaves-append : (gs : List Ground) (g : Ground) → all_leaves (gs ++ g ∷ []) ≡ all_leaves gs ++ g.leaves
leaves-append [] g = append-nil g.leaves
leaves-append (h ∷ hs) g = ap (λ ls. h.leaves ++ ls) (leaves-append hs g) ∙ sym (append_assoc h.leaves (all_leaves hs) g.leaves)

pub leaves-more : (layers : List View) (k : ℕ) (d : View) → k < length layers
    → length (all_leaves (map ground_of (take (k + 1) layers))) ≡ length (all_leaves (map ground_of (take k layers))) + length (leaves_of (get_or layers k d))
leaves-more layers k d h =
    ap (λ gs. length (all_leaves gs)) (map_more ground_of layers k d h) ∙ ap length (leaves-append (map ground_of (take k layers)) (ground_of (get_or layers k d)))
    ∙ length-append (all_leaves (map ground_of (take k layers))) (leaves_of (get_or layers k d))

-- the leaves before a layer and its own are no more than all
pub leaves-within : (layers : List View) (k : ℕ) (d : View) → k < length layers
    → length (all_leaves (map ground_of (take k layers))) + length (leaves_of (get_or layers k d)) ≤ length (all_leaves (map ground_of layers))
leaves-within [] k d h = absurd (omega (arith, h))
leaves-within (l ∷ ls) zero d h = let n = length-append (leaves_of l) (all_leaves (map ground_of ls)) in omega (arith, n)
leaves-within (l ∷ ls) (suc k) d h =
    let rest = leaves-within ls k d (omega (arith, h)) in
    let n = length-append (leaves_of l) (all_leaves (map ground_of ls)) in
    let m = length-append (leaves_of l) (all_leaves (map ground_of (take k ls))) in
    omega (arith, rest, n, m)

-- a layer that has the index vector, behind which none has it
pub found_last : (layers : List View) (x : List ℤ) (k : ℕ) (v : View) → k < length layers → v ≡ get_or layers k v → has_index (look_of v).dims x ≡ true
    → ((found : Result Landing TargetError) → last_landing 0 (map ground_of layers) x found ≡ last_landing 0 (map ground_of (take (k + 1) layers)) x found) → IsLastLayer layers x (Some k)
found_last layers x k v h is has passed = (
  h,
  λ d. ap (λ w. has_index (look_of w).dims x) (sym (here d)) ∙ has,
  λ d found.
      passed found ∙ ap (λ gs. last_landing 0 gs x found) (map_more ground_of layers k v h) ∙ last-more (map ground_of (take k layers)) (ground_of (get_or layers k v)) x found
      ∙ then_from (has_index (ground_of (get_or layers k v)).dims x) (behind_leaves (length (all_leaves (map ground_of (take k layers)))) (landing_of (get_or layers k v) x)) (last_landing 0 (map ground_of (take k layers)) x found)
      (ap (λ ds. has_index ds x) ((agrees (get_or layers k v)).dims) ∙ ap (λ w. has_index (look_of w).dims x) (sym is) ∙ has)
      ∙ ap (λ w. behind_leaves (length (all_leaves (map ground_of (take k layers)))) (landing_of w x)) (sym is ∙ here d),
)
  where
    here : (d : View) → v ≡ get_or layers k d
    here d = is ∙ same layers k v d h
      where
        same : (ls : List View) (i : ℕ) (a b : View) → i < length ls → get_or ls i a ≡ get_or ls i b
        same [] i a b less = absurd (omega (arith, less))
        same (l ∷ ls) zero a b less = refl
        same (l ∷ ls) (suc i) a b less = same ls i a b (omega (arith, less))

-- a layer that doesn't have it is passed
pub passed_one : (layers : List View) (x : List ℤ) (k : ℕ) (v : View) → k < length layers → v ≡ get_or layers k v → has_index (look_of v).dims x ≡ false → (found : Result Landing TargetError)
    → last_landing 0 (map ground_of (take (k + 1) layers)) x found ≡ last_landing 0 (map ground_of (take k layers)) x found
passed_one layers x k v h is hasnt found =
    ap (λ gs. last_landing 0 gs x found) (map_more ground_of layers k v h) ∙ last-more (map ground_of (take k layers)) (ground_of (get_or layers k v)) x found
    ∙ else_from (has_index (ground_of (get_or layers k v)).dims x) (behind_leaves (length (all_leaves (map ground_of (take k layers)))) (landing_of (get_or layers k v) x)) (last_landing 0 (map ground_of (take k layers)) x found)
    (ap (λ ds. has_index ds x) ((agrees (get_or layers k v)).dims) ∙ ap (λ w. has_index (look_of w).dims x) (sym is) ∙ hasnt)

-- layers that don't have it leave what was found
none_found : (before : ℕ) (layers : List View) (x : List ℤ) → ((k : ℕ) (d : View) → k < length layers → has_index (look_of (get_or layers k d)).dims x ≡ false)
    → (found : Result Landing TargetError) → last_landing before (map ground_of layers) x found ≡ found
none_found before [] x none found = refl
none_found before (l ∷ ls) x none found =
    ap (λ f. last_landing (before + length (leaves_of l)) (map ground_of ls) x f)
    (else_from (has_index (ground_of l).dims x) (behind_leaves before (landing_of l x)) found (ap (λ ds. has_index ds x) (agrees l).dims ∙ none 0 l (omega arith)))
    ∙ none_found (before + length (leaves_of l)) ls x (λ k d less. none (suc k) d (omega (arith, less))) found

passed_behind : (before : ℕ) (layers : List View) (x : List ℤ) (n : ℕ) → ((k : ℕ) (d : View) → n ≤ k → k < length layers → has_index (look_of (get_or layers k d)).dims x ≡ false)
    → (found : Result Landing TargetError) → last_landing before (map ground_of layers) x found ≡ last_landing before (map ground_of (take n layers)) x found
passed_behind before [] x zero none found = refl
passed_behind before [] x (suc n) none found = refl
passed_behind before (l ∷ ls) x zero none found = none_found before (l ∷ ls) x (λ k d less. none k d (omega arith) less) found
passed_behind before (l ∷ ls) x (suc n) none found =
    passed_behind (before + length (leaves_of l)) ls x n (λ k d from inside. none (suc k) d (omega (arith, from)) (omega (arith, inside)))
    (if has_index (ground_of l).dims x then behind_leaves before (landing_of l x) else found)

-- layers from a place on that don't have it are passed
pub passed_later : (layers : List View) (x : List ℤ) (n : ℕ) → LackIndex n layers x → (found : Result Landing TargetError)
    → last_landing 0 (map ground_of layers) x found ≡ last_landing 0 (map ground_of (take n layers)) x found
passed_later layers x n none found = passed_behind 0 layers x n none found

-- where no domain has it no layer does
pub none_lands : (x : List ℤ) → ((dims : List Bounds) → has_index dims x ≡ false) → (before : ℕ) (gs : List Ground) (found : Result Landing TargetError) → last_landing before gs x found ≡ found
none_lands x none before [] found = refl
none_lands x none before (g ∷ gs) found =
    ap (λ f. last_landing (before + length g.leaves) gs x f) (else_from (has_index g.dims x) (behind_leaves before (g.landing x)) found (none g.dims)) ∙ none_lands x none (before + length g.leaves) gs found
