-- How a view's leaves are numbered, by the form of the view.
use Rattle.std.proofs.Common.{◌≡◌, ◌<◌, ◌∙◌, ◌+◌, ℕ, zero, suc, List, [], ◌∷◌, ◌++◌, length, map, take, get_or, min, refl, sym, ap, subst, arith, length-append}
use Rattle.std.proofs.lemmas.List.{get_or-map, map_more}
use Rattle.cells.specs.declared.dtype.Dtype.{Dtype}
use Rattle.index_intervals.specs.Bounds.{Bounds}
use Rattle.index_transform.specs.Transforms.{DomainAndMaps}
use Rattle.stack_driver.specs.References.{Reference}
use Rattle.stack_driver.specs.Views.{Look}
use Rattle.stack_driver.specs.declared.view.View.{View, ind-View, roll-View, map-View, fold-roll-View}
use Rattle.stack_driver.specs.declared.view.View.TheOpen.{View-F}
use Rattle.stack_driver.specs.declared.view.View.TheVariants as view
use Rattle.stack_driver.proofs.Laws.{look-Leaf, look-Cast, look-Stack}
use Rattle.stack_targets.specs.Axes.{axis_of, dims_of}
use Rattle.stack_targets.specs.Landings.{Ground, ground_of, leaves_of, all_leaves}
use Rattle.stack_targets.specs.Numberings.{Counted, axis_in, counted_of, counted_step, first_in, firsts_from, layer_in, numbering_of, size_in, size_of, stack_of, total_from}
use Rattle.stack_targets.specs.declared.numbering.Numbering.{Numbering, out-Numbering}
use Rattle.stack_targets.specs.declared.numbering.Numbering.TheVariants as numbering
use Rattle.stack_targets.proofs.Grounds.{ground-Leaf, ground-Stack}
use Rattle.stack_targets.proofs.Named.{below-Cast, leaves-Stack}

counted-Leaf : (array : Reference) (t : DomainAndMaps) → counted_of (view.Leaf array t) ≡ counted_step (View-F.Leaf array t)
counted-Leaf array t = ap counted_of (sym (view.rolls-Leaf array t)) ∙ fold-roll-View Counted counted_step (View-F.Leaf array t)

counted-Cast : (to : Dtype) (base : View) → counted_of (view.Cast to base) ≡ counted_of base
counted-Cast to base = ap counted_of (sym (view.rolls-Cast to base)) ∙ fold-roll-View Counted counted_step (View-F.Cast to base)

counted-Stack : (layers : List View) (t : DomainAndMaps) → counted_of (view.Stack layers t) ≡ counted_step (View-F.Stack (map counted_of layers) t)
counted-Stack layers t = ap counted_of (sym (view.rolls-Stack layers t)) ∙ fold-roll-View Counted counted_step (View-F.Stack layers t)

-- the domain that stands beside a numbering is the view's
abbrev IsSeen : View → Type 0
IsSeen v = (counted_of v).dims ≡ dims_of v

seen-Leaf : (array : Reference) (t : DomainAndMaps) → IsSeen (view.Leaf array t)
seen-Leaf array t = ap (λ (c : Counted). c.dims) (counted-Leaf array t) ∙ sym (ap (λ (l : Look). l.dims) (look-Leaf array t))

seen-Cast : (to : Dtype) (base : View) → IsSeen base → IsSeen (view.Cast to base)
seen-Cast to base own = ap (λ (c : Counted). c.dims) (counted-Cast to base) ∙ own ∙ sym (ap (λ (l : Look). l.dims) (look-Cast to base))

seen-Stack : (layers : List View) (t : DomainAndMaps) → IsSeen (view.Stack layers t)
seen-Stack layers t = ap (λ (c : Counted). c.dims) (counted-Stack layers t) ∙ sym (ap (λ (l : Look). l.dims) (look-Stack layers t))

seen_step : (x : View-F View) (y : View-F ((z : View) × IsSeen z)) → map-View ((z : View) × IsSeen z) View (λ e. e.0) y ≡ x → IsSeen (roll-View x)
seen_step x (View-F.Leaf array u) e = subst (λ z. IsSeen (roll-View z)) e (subst IsSeen (sym (view.rolls-Leaf array u)) (seen-Leaf array u))
seen_step x (View-F.Cast to p) e = subst (λ z. IsSeen (roll-View z)) e (subst IsSeen (sym (view.rolls-Cast to p.0)) (seen-Cast to p.0 p.1))
seen_step x (View-F.Stack ys u) e = subst (λ z. IsSeen (roll-View z)) e (subst IsSeen (sym (view.rolls-Stack (map (λ y. y.0) ys) u)) (seen-Stack (map (λ y. y.0) ys) u))

seen : (v : View) → IsSeen v
seen v = ind-View IsSeen seen_step v

seen_all : (layers : List View) → map (λ (c : Counted). c.dims) (map counted_of layers) ≡ map dims_of layers
seen_all [] = refl
seen_all (l ∷ ls) = λ i. seen l i ∷ seen_all ls i

numbered_all : (layers : List View) → map (λ (c : Counted). c.numbering) (map counted_of layers) ≡ map numbering_of layers
numbered_all [] = refl
numbered_all (l ∷ ls) = ap (λ ns. numbering_of l ∷ ns) (numbered_all ls)

numbering-Leaf : (array : Reference) (t : DomainAndMaps) → numbering_of (view.Leaf array t) ≡ numbering.Leaf
numbering-Leaf array t = ap (λ (c : Counted). c.numbering) (counted-Leaf array t)

numbering-Cast : (to : Dtype) (base : View) → numbering_of (view.Cast to base) ≡ numbering_of base
numbering-Cast to base = ap (λ (c : Counted). c.numbering) (counted-Cast to base)

numbering-Stack : (layers : List View) (t : DomainAndMaps) → numbering_of (view.Stack layers t) ≡ stack_of (length t.maps) (map dims_of layers) (map numbering_of layers)
numbering-Stack layers t = ap (λ (c : Counted). c.numbering) (counted-Stack layers t) ∙ (λ i. stack_of (length t.maps) (seen_all layers i) (numbered_all layers i))

-- a view's numbering by those of what it is made of
pub here-Leaf : (v : View) (array : Reference) (t : DomainAndMaps) → v ≡ view.Leaf array t → numbering.Leaf ≡ numbering_of v
here-Leaf v array t is = sym (ap numbering_of is ∙ numbering-Leaf array t)

pub here-Cast : (v : View) (to : Dtype) (base : View) → v ≡ view.Cast to base → numbering_of base ≡ numbering_of v
here-Cast v to base is = sym (ap numbering_of is ∙ numbering-Cast to base)

pub here-Stack : (v : View) (layers : List View) (t : DomainAndMaps) → v ≡ view.Stack layers t → stack_of (length t.maps) (map dims_of layers) (map numbering_of layers) ≡ numbering_of v
here-Stack v layers t is = sym (ap numbering_of is ∙ numbering-Stack layers t)

-- one layer more
total-append : (n : ℕ) (sizes : List ℕ) (size : ℕ) → total_from n (sizes ++ size ∷ []) ≡ min (total_from n sizes + size) 4294967295
total-append n [] size = refl
total-append n (s ∷ sizes) size = total-append (min (n + s) 4294967295) sizes size

firsts-append : (n : ℕ) (sizes : List ℕ) (size : ℕ) → firsts_from n (sizes ++ size ∷ []) ≡ firsts_from n sizes ++ total_from n sizes ∷ []
firsts-append n [] size = refl
firsts-append n (s ∷ sizes) size = ap (λ ns. n ∷ ns) (firsts-append (min (n + s) 4294967295) sizes size)

pub total_more : (layers : List Numbering) (k : ℕ) (d : Numbering) → k < length layers → d ≡ get_or layers k d
    → min (total_from 0 (map size_of (take k layers)) + size_of d) 4294967295 ≡ total_from 0 (map size_of (take (k + 1) layers))
total_more layers k d below is =
    ap (λ m. min (total_from 0 (map size_of (take k layers)) + size_of m) 4294967295) is
    ∙ sym (ap (total_from 0) (map_more size_of layers k d below) ∙ total-append 0 (map size_of (take k layers)) (size_of (get_or layers k d)))

pub firsts_more : (layers : List Numbering) (k : ℕ) (d : Numbering) → k < length layers
    → firsts_from 0 (map size_of (take k layers)) ++ total_from 0 (map size_of (take k layers)) ∷ [] ≡ firsts_from 0 (map size_of (take (k + 1) layers))
firsts_more layers k d below = sym (ap (firsts_from 0) (map_more size_of layers k d below) ∙ firsts-append 0 (map size_of (take k layers)) (size_of (get_or layers k d)))

-- a view's numbering has as many leaves as the view, up to 2^32 - 1
abbrev IsSized : View → Type 0
IsSized v = size_of (numbering_of v) ≡ min (length (leaves_of v)) 4294967295

size-Leaf : size_of numbering.Leaf ≡ 1
size-Leaf = ap size_in numbering.outs-Leaf

size-Stack : (rank : ℕ) (domains : List (List Bounds)) (layers : List Numbering) → size_of (stack_of rank domains layers) ≡ total_from 0 (map size_of layers)
size-Stack rank domains layers = ap size_in (numbering.outs-Stack (total_from 0 (map size_of layers)) (firsts_from 0 (map size_of layers)) (axis_of rank domains) layers)

capped : (n m : ℕ) → min (min n 4294967295 + min m 4294967295) 4294967295 ≡ min (n + m) 4294967295
capped n m = omega arith

totals : (n : ℕ) (ys : List ((z : View) × IsSized z))
    → total_from (min n 4294967295) (map size_of (map numbering_of (map (λ y. y.0) ys))) ≡ min (n + length (all_leaves (map ground_of (map (λ y. y.0) ys)))) 4294967295
totals n [] = omega arith
totals n (y ∷ ys) =
    let rest = map size_of (map numbering_of (map (λ y. y.0) ys)) in
    let all = all_leaves (map ground_of (map (λ y. y.0) ys)) in
    ap (λ s. total_from (min (min n 4294967295 + s) 4294967295) rest) y.1
    ∙ ap (λ m. total_from m rest) (capped n (length (leaves_of y.0)))
    ∙ totals (n + length (leaves_of y.0)) ys
    ∙ ap (λ k. min k 4294967295) (let both = length-append (leaves_of y.0) all in omega (arith, both))

sized-Leaf : (array : Reference) (t : DomainAndMaps) → IsSized (view.Leaf array t)
sized-Leaf array t = ap size_of (numbering-Leaf array t) ∙ size-Leaf ∙ ap (λ (g : Ground). min (length g.leaves) 4294967295) (sym (ground-Leaf array t))

sized-Cast : (to : Dtype) (base : View) → IsSized base → IsSized (view.Cast to base)
sized-Cast to base own = ap size_of (numbering-Cast to base) ∙ own ∙ ap (λ n. min n 4294967295) (sym (below-Cast (view.Cast to base) to base refl))

sized-Stack : (ys : List ((z : View) × IsSized z)) (t : DomainAndMaps) → IsSized (view.Stack (map (λ y. y.0) ys) t)
sized-Stack ys t =
    let layers = map (λ y. y.0) ys in
    ap size_of (numbering-Stack layers t) ∙ size-Stack (length t.maps) (map dims_of layers) (map numbering_of layers) ∙ totals 0 ys
    ∙ ap (λ n. min n 4294967295) (zero_and (length (all_leaves (map ground_of layers))))
    ∙ ap (λ (g : Ground). min (length g.leaves) 4294967295) (sym (ground-Stack layers t))
  where
    zero_and : (n : ℕ) → 0 + n ≡ n
    zero_and n = omega arith

sized_step : (x : View-F View) (y : View-F ((z : View) × IsSized z)) → map-View ((z : View) × IsSized z) View (λ e. e.0) y ≡ x → IsSized (roll-View x)
sized_step x (View-F.Leaf array u) e = subst (λ z. IsSized (roll-View z)) e (subst IsSized (sym (view.rolls-Leaf array u)) (sized-Leaf array u))
sized_step x (View-F.Cast to p) e = subst (λ z. IsSized (roll-View z)) e (subst IsSized (sym (view.rolls-Cast to p.0)) (sized-Cast to p.0 p.1))
sized_step x (View-F.Stack ys u) e = subst (λ z. IsSized (roll-View z)) e (subst IsSized (sym (view.rolls-Stack (map (λ y. y.0) ys) u)) (sized-Stack ys u))

sized : (v : View) → IsSized v
sized v = ind-View IsSized sized_step v

-- a layer begins behind the leaves of those before
first_at : (n : ℕ) (layers : List View) (k : ℕ) → n + length (all_leaves (map ground_of layers)) < 4294967295 → k < length layers
    → get_or (firsts_from n (map size_of (map numbering_of layers))) k 0 ≡ n + length (all_leaves (map ground_of (take k layers)))
first_at n [] k few below = absurd (omega (arith, below))
first_at n (l ∷ ls) zero few below = omega arith
first_at n (l ∷ ls) (suc k) few below =
    let all = length-append (leaves_of l) (all_leaves (map ground_of ls)) in
    let own = sized l in
    let next : min (n + size_of (numbering_of l)) 4294967295 ≡ n + length (leaves_of l) = omega (arith, own, few, all) in
    let done = length-append (leaves_of l) (all_leaves (map ground_of (take k ls))) in
    ap (λ m. get_or (firsts_from m (map size_of (map numbering_of ls))) k 0) next
    ∙ first_at (n + length (leaves_of l)) ls k (omega (arith, few, all)) (omega (arith, below))
    ∙ (omega (arith, done))

opened : (v : View) (layers : List View) (t : DomainAndMaps) (n : Numbering) → v ≡ view.Stack layers t → n ≡ numbering_of v
    → n ≡ stack_of (length t.maps) (map dims_of layers) (map numbering_of layers)
opened v layers t n is numbered = numbered ∙ ap numbering_of is ∙ numbering-Stack layers t

pub first_here : (v : View) (layers : List View) (t : DomainAndMaps) (n : Numbering) (k : ℕ) → v ≡ view.Stack layers t → n ≡ numbering_of v → length (leaves_of v) < 4294967295 → k < length layers
    → first_in (out-Numbering n) k ≡ length (all_leaves (map ground_of (take k layers)))
first_here v layers t n k is numbered few below =
    let sizes = map size_of (map numbering_of layers) in
    let all = ap length (leaves-Stack v layers t is) in
    let less : 0 + length (all_leaves (map ground_of layers)) < 4294967295 = omega (arith, few, all) in
    ap (λ m. first_in (out-Numbering m) k) (opened v layers t n is numbered)
    ∙ ap (λ x. first_in x k) (numbering.outs-Stack (total_from 0 sizes) (firsts_from 0 sizes) (axis_of (length t.maps) (map dims_of layers)) (map numbering_of layers))
    ∙ first_at 0 layers k less below ∙ zero_and (length (all_leaves (map ground_of (take k layers))))
  where
    zero_and : (n : ℕ) → 0 + n ≡ n
    zero_and n = omega arith

pub axis_here : (v : View) (layers : List View) (t : DomainAndMaps) (n : Numbering) → v ≡ view.Stack layers t → n ≡ numbering_of v
    → axis_in (out-Numbering n) ≡ axis_of (length t.maps) (map dims_of layers)
axis_here v layers t n is numbered =
    let sizes = map size_of (map numbering_of layers) in
    ap (λ m. axis_in (out-Numbering m)) (opened v layers t n is numbered)
    ∙ ap axis_in (numbering.outs-Stack (total_from 0 sizes) (firsts_from 0 sizes) (axis_of (length t.maps) (map dims_of layers)) (map numbering_of layers))

pub below_here : (v : View) (layers : List View) (t : DomainAndMaps) (n : Numbering) (k : ℕ) (d : View) → v ≡ view.Stack layers t → n ≡ numbering_of v → k < length layers
    → layer_in n (out-Numbering n) k ≡ numbering_of (get_or layers k d)
below_here v layers t n k d is numbered below =
    let sizes = map size_of (map numbering_of layers) in
    ap (λ m. layer_in n (out-Numbering m) k) (opened v layers t n is numbered)
    ∙ ap (λ x. layer_in n x k) (numbering.outs-Stack (total_from 0 sizes) (firsts_from 0 sizes) (axis_of (length t.maps) (map dims_of layers)) (map numbering_of layers))
    ∙ get_or-map numbering_of layers k d n below

pub base_here : (v : View) (to : Dtype) (base : View) (n : Numbering) → v ≡ view.Cast to base → n ≡ numbering_of v → n ≡ numbering_of base
base_here v to base n is numbered = numbered ∙ ap numbering_of is ∙ numbering-Cast to base
