-- A leaf by its number, by the form of the view.
use Rattle.std.proofs.Common.{◌≡◌, ◌<◌, ◌≤◌, ◌∙◌, ◌+◌, ℕ, zero, suc, List, [], ◌∷◌, ◌++◌, length, map, take, get_or, min, ◌-◌, refl, sym, ap, subst, arith, length-append}
use Rattle.std.proofs.lemmas.List.{get_or_append_left, get_or-append-add, get_or-map, get_or_default, length-map}
use Rattle.cells.specs.declared.dtype.Dtype.{Dtype}
use Rattle.index_transform.specs.Transforms.{DomainAndMaps}
use Rattle.stack_driver.specs.Conditions.{IsNode, IsView, HasKind}
use Rattle.stack_driver.specs.Counts.{leaves_of as leaf_count}
use Rattle.stack_driver.specs.References.{Reference}
use Rattle.stack_driver.specs.Targets.{LeadTo}
use Rattle.stack_driver.specs.Views.{Look, look_of}
use Rattle.stack_driver.specs.declared.view.View.{View, size-View, every_here-View}
use Rattle.stack_driver.specs.declared.view.View.TheVariants as view
use Rattle.stack_targets.specs.Landings.{Seen, Ground, ground_of, all_leaves, leaves_of, with_cast, no_leaf, IsLeafOfLayer}
use Rattle.stack_driver.proofs.Laws.{look-Stack}
use Rattle.stack_targets.proofs.Grounds.{ground-Leaf, ground-Cast, ground-Stack}
use Rattle.stack_targets.proofs.Layers.{layer_at, layer_smaller, leaves-more, leaves-within}
use Rattle.stack_targets.proofs.Meeting.{agrees}

-- a leaf of a view
abbrev pub nth : View → ℕ → Seen
nth v n = get_or (leaves_of v) n no_leaf

pub leaves-Stack : (v : View) (layers : List View) (t : DomainAndMaps) → v ≡ view.Stack layers t → leaves_of v ≡ all_leaves (map ground_of layers)
leaves-Stack v layers t is = ap leaves_of is ∙ ap (λ (g : Ground). g.leaves) (ground-Stack layers t)

pub leaves-Leaf : (v : View) (array : Reference) (t : DomainAndMaps) → v ≡ view.Leaf array t → leaves_of v ≡ record { array = array; casts = [] } ∷ []
leaves-Leaf v array t is = ap leaves_of is ∙ ap (λ (g : Ground). g.leaves) (ground-Leaf array t)

pub leaves-Cast : (v : View) (to : Dtype) (base : View) → v ≡ view.Cast to base → leaves_of v ≡ map (with_cast (record { from = (ground_of base).dtype; to = to })) (leaves_of base)
leaves-Cast v to base is = ap leaves_of is ∙ ap (λ (g : Ground). g.leaves) (ground-Cast to base)

-- a cast's leaf is its base's with one cast more
pub nth-Cast : (v : View) (to : Dtype) (base : View) (n : ℕ) → v ≡ view.Cast to base → n < length (leaves_of v) → nth v n ≡ with_cast (record { from = (ground_of base).dtype; to = to }) (nth base n)
nth-Cast v to base n is less =
    let all = leaves-Cast v to base is in
    let c = with_cast (record { from = (ground_of base).dtype; to = to }) in
    let here : n < length (leaves_of base) = let same = ap length all in let m = length-map (leaves_of base) c in omega (arith, less, same, m) in
    ap (λ ls. get_or ls n no_leaf) all ∙ get_or-map c (leaves_of base) n no_leaf no_leaf here

pub below-Cast : (v : View) (to : Dtype) (base : View) → v ≡ view.Cast to base → length (leaves_of v) ≡ length (leaves_of base)
below-Cast v to base is = ap length (leaves-Cast v to base is) ∙ length-map (leaves_of base) (with_cast (record { from = (ground_of base).dtype; to = to }))

pub few-Cast : (v : View) (to : Dtype) (base : View) (n : ℕ) → v ≡ view.Cast to base → length (leaves_of v) < n → length (leaves_of base) < n
few-Cast v to base n is few = let same = below-Cast v to base is in omega (arith, few, same)

pub some-Cast : (v : View) (to : Dtype) (base : View) (n : ℕ) → v ≡ view.Cast to base → n < length (leaves_of v) → n < length (leaves_of base)
some-Cast v to base n is some = let same = below-Cast v to base is in omega (arith, some, same)

-- the leaf of a layer among those of all
in_layer : (layers : List View) (k own : ℕ) (d : View) → k < length layers → own < length (leaves_of (get_or layers k d))
    → get_or (all_leaves (map ground_of layers)) (length (all_leaves (map ground_of (take k layers))) + own) no_leaf ≡ nth (get_or layers k d) own
in_layer [] k own d h less = absurd (omega (arith, h))
in_layer (l ∷ ls) zero own d h less = ap (λ n. get_or (leaves_of l ++ all_leaves (map ground_of ls)) n no_leaf) (zero_and own) ∙ get_or_append_left (leaves_of l) (all_leaves (map ground_of ls)) no_leaf own less
  where
    zero_and : (n : ℕ) → 0 + n ≡ n
    zero_and n = omega arith
in_layer (l ∷ ls) (suc k) own d h less =
    let before = all_leaves (map ground_of (take k ls)) in
    ap (λ n. get_or (leaves_of l ++ all_leaves (map ground_of ls)) n no_leaf) (joined (length before) (length-append (leaves_of l) before))
    ∙ get_or-append-add (leaves_of l) (all_leaves (map ground_of ls)) (length before + own) no_leaf
    ∙ in_layer ls k own d (omega (arith, h)) less
  where
    joined : {m : ℕ} (b : ℕ) → m ≡ length (leaves_of l) + b → m + own ≡ length (leaves_of l) + (b + own)
    joined b e = omega (arith, e)

-- a stack's leaf is its layer's
pub nth-layer : (v : View) (layers items : List View) (t : DomainAndMaps) (n place own : ℕ) (d : View) → v ≡ view.Stack layers t → items ≡ layers → d ≡ get_or items place d → IsLeafOfLayer items n place own → nth v n ≡ nth d own
nth-layer v layers items t n place own d is same at h =
    ap (λ ls. get_or ls n no_leaf) (leaves-Stack v layers t is ∙ ap (λ ls. all_leaves (map ground_of ls)) (sym same)) ∙ ap (λ m. get_or (all_leaves (map ground_of items)) m no_leaf) h.is
    ∙ in_layer items place own d h.inside (h.own_leaf d) ∙ ap (λ w. nth w own) (sym at)

-- a layer at a place of a stack
pub record IsLayerAt (v : View) (layers : List View) (k : ℕ) (d : View) : Type 0 where
  pub at : d ≡ get_or layers k d
  pub inside : k < length layers
  pub few : length (leaves_of d) ≤ length (leaves_of v)
  pub smaller : size-View d < size-View v

pub layer_here : (v : View) (layers items : List View) (t : DomainAndMaps) (k : ℕ) (d : View) → v ≡ view.Stack layers t → items ≡ layers → d ≡ get_or items k d → k < length items → IsLayerAt v layers k d
layer_here v layers items t k d is same at inside =
    let there : k < length layers = let n = ap length same in omega (arith, inside, n) in
    let place : d ≡ get_or layers k d = at ∙ ap (λ ls. get_or ls k d) same in
    let within = leaves-within layers k d there in
    let all = ap length (leaves-Stack v layers t is) in
    let mine = ap (λ w. length (leaves_of w)) place in
    record {
      at = place;
      inside = there;
      few = omega (arith, within, all, mine);
      smaller = subst (λ w. size-View d < size-View w) (sym is) (subst (λ w. size-View w < size-View (view.Stack layers t)) (sym place) (layer_smaller layers t k d there));
    }

-- a layer's own leaf, whatever stands for the layer
pub own_here : (layers : List View) (k own n : ℕ) (v d : View) → k < length layers → v ≡ get_or layers k v → own < n → n ≡ min (leaf_count v) 4294967295 → own < length (leaves_of (get_or layers k d))
own_here layers k own n v d inside at less is =
    let count = (agrees v).leaves in
    let same = ap (λ w. length (leaves_of w)) (at ∙ get_or_default layers k v d inside) in
    omega (arith, less, is, count, same)

-- the leaves of one layer more are passed
pub passed_layer : (layers : List View) (k leaf rest n : ℕ) (v : View) → k < length layers → v ≡ get_or layers k v → n ≡ min (leaf_count v) 4294967295 → n ≤ rest → length (all_leaves (map ground_of layers)) < 4294967295
    → leaf ≡ length (all_leaves (map ground_of (take k layers))) + rest → leaf ≡ length (all_leaves (map ground_of (take (k + 1) layers))) + (rest - n)
passed_layer layers k leaf rest n v inside at is passed few h =
    let count = (agrees v).leaves in
    let same = ap (λ w. length (leaves_of w)) at in
    let within = leaves-within layers k v inside in
    let more = leaves-more layers k v inside in
    omega (arith, is, passed, few, h, count, same, within, more)

-- the casts of a leaf lead to the dtype of each stack around it
pub dtype_here : (v : View) (layers : List View) (t : DomainAndMaps) (k : ℕ) (d : View) → v ≡ view.Stack layers t → IsView v → k < length layers → d ≡ get_or layers k d → (look_of d).dtype ≡ (look_of v).dtype
dtype_here v layers t k d is h inside at =
    let node = subst IsNode (view.outs-Stack layers t) (every_here-View IsNode (view.Stack layers t) (subst IsView is h)) in
    let kind = HasKind node.dtype (length t.maps) in
    ap (λ w. (look_of w).dtype) at ∙ (layer_at kind layers k d inside node.alike).dtype_is ∙ sym (layer_at kind layers 0 d node.some node.alike).dtype_is ∙ sym (first layers d node.some) ∙ ap (λ w. (look_of w).dtype) (sym is)
  where
    first : (ls : List View) (e : View) → 0 < length ls → (look_of (view.Stack ls t)).dtype ≡ (look_of (get_or ls 0 e)).dtype
    first [] e less = absurd (omega (arith, less))
    first (l ∷ ls) e less = ap (λ (k : Look). k.dtype) (look-Stack (l ∷ ls) t)

pub no_casts : (dtype : Dtype) → LeadTo [] dtype
no_casts dtype = record { base = dtype; begins = tt; ends = refl }
