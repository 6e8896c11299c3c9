use Rattle.std.proofs.Common.{◌≡◌, ◌∙◌, ◌<◌, ◌+◌, ◌-◌, ◌*◌, ℕ, List, Option, [], ◌∷◌, length, map, drop, get_or, sym, ap, arith}
use Rattle.std.proofs.lemmas.List.{drop_all}
use Rattle.std.specs.List.{flat_map}
use Rattle.index_intervals.specs.Bounds.{Bounds}
use Rattle.index_transform.proofs.Laws.{get_or-inside}
use Rattle.index_transform.specs.Cells.{cells_of, members_of}
use Rattle.downsample_view.specs.Groups.{new_size}
use Rattle.downsample_view.specs.Places.{joined_place, offset_of, new_count, place_of}
use Rattle.downsample_view.proofs.Cells.{places-more}
use Rattle.downsample_view.proofs.Lists.{factor-at, finite-at, rest-at}
use Rattle.downsample_view.proofs.places.places.Goals as goal

pub loop-k-init : goal.loop-k-init
loop-k-init c =
    let n = length c.args.dims.now in
    let m = c.args.method in
    let ranks = c.requires.ranks in
    let a : drop n c.args.factors.now ≡ [] = drop_all n c.args.factors.now (omega (arith, ranks)) in
    let b : drop n c.args.dims.now ≡ [] = drop_all n c.args.dims.now (omega arith) in (
      omega arith,
      sym (ap (λ (fs : List ℕ). new_count m fs (drop n c.args.dims.now)) a),
      c.in_ok-list.ensures
          ∙ sym (ap (λ (fs : List ℕ). map (place_of m fs (drop n c.args.dims.now)) (cells_of (drop n c.args.dims.now))) a ∙ ap (λ (ds : List Bounds). map (place_of m [] ds) (cells_of ds)) b),
    )

pub new_size-size-requires : goal.new_size-size-requires
new_size-size-requires c =
    let j = c.loop-k.k - 1 in
    let ranks = c.requires.ranks in
    let test = c.loop-k-test.true in
    let most = c.loop-k.invariant.0 in
    let below : j < length c.args.dims.now = omega (arith, test, most) in
    let below' : j < length c.args.factors.now = omega (arith, below, ranks) in
    record {
      finite = finite-at c.args.dims.now j c.index-dims-k.result c.requires.finite below c.index-dims-k.is;
      factor = factor-at c.args.factors.now j (get_or c.args.factors.now j 0) c.requires.factors below' (get_or-inside c.args.factors.now j 0 (get_or c.args.factors.now j 0) below');
    }

pub loop-k-preserved : goal.loop-k-preserved
loop-k-preserved c =
    let m = c.args.method in
    let j = c.loop-k.k - 1 in
    let fs = c.args.factors.now in
    let ds = c.args.dims.now in
    let ranks = c.requires.ranks in
    let test = c.loop-k-test.true in
    let most = c.loop-k.invariant.0 in
    let below : j < length ds = omega (arith, test, most) in
    let below' : j < length fs = omega (arith, below, ranks) in
    let f = get_or fs j 0 in
    let d = c.index-dims-k.result in
    let next : j + 1 ≡ c.loop-k.k = omega (arith, test) in
    let a : drop j fs ≡ f ∷ drop c.loop-k.k fs = rest-at fs j f below' (get_or-inside fs j 0 f below') ∙ ap (λ n. f ∷ drop n fs) next in
    let b : drop j ds ≡ d ∷ drop c.loop-k.k ds = rest-at ds j d below c.index-dims-k.is ∙ ap (λ n. d ∷ drop n ds) next in
    let count = c.loop-k.invariant.1 in
    let list = c.loop-k.invariant.2 in
    let k = c.loop-k.k in
    let here : c.in_ok-list-2.list.items ≡ flat_map (λ x. map (joined_place c.loop-k.count (offset_of m f d x)) c.loop-k.list.items) (members_of d) = c.in_ok-list-2.ensures in (
      omega (arith, below),
      c.in_ok-count.ensures ∙ ap (λ s. s * c.loop-k.count) c.new_size-size.ensures ∙ ap (λ n. new_size m f d * n) count
          ∙ sym (ap (λ (xs : List ℕ). new_count m xs (drop j ds)) a ∙ ap (λ (ys : List Bounds). new_count m (f ∷ drop k fs) ys) b),
      here
          ∙ ap (λ n. flat_map (λ x. map (joined_place n (offset_of m f d x)) c.loop-k.list.items) (members_of d)) count
          ∙ ap (λ (ps : List (Option ℕ)). flat_map (λ x. map (joined_place (new_count m (drop k fs) (drop k ds)) (offset_of m f d x)) ps) (members_of d)) list
          ∙ places-more m f (drop k fs) d (drop k ds)
          ∙ sym
          (ap (λ (xs : List ℕ). map (place_of m xs (drop j ds)) (cells_of (drop j ds))) a
          ∙ ap (λ (ys : List Bounds). map (place_of m (f ∷ drop k fs) ys) (cells_of ys)) b),
    )

pub returns-clause-count : goal.returns-clause-count
returns-clause-count c =
    let zero : c.loop-k.k ≡ 0 = (let h = c.loop-k-test.false in omega (arith, h)) in
    c.loop-k.invariant.1 ∙ ap (λ n. new_count c.args.method (drop n c.args.factors.now) (drop n c.args.dims.now)) zero

pub returns-clause-list : goal.returns-clause-list
returns-clause-list c =
    let zero : c.loop-k.k ≡ 0 = (let h = c.loop-k-test.false in omega (arith, h)) in
    c.loop-k.invariant.2 ∙ ap (λ n. map (place_of c.args.method (drop n c.args.factors.now) (drop n c.args.dims.now)) (cells_of (drop n c.args.dims.now))) zero
