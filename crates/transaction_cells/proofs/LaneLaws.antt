-- The lanes of a view's leaves, by its form.
use Rattle.std.proofs.Common.{◌≡◌, ◌<◌, ◌∙◌, ℕ, ◌+◌, List, [], ◌∷◌, ◌++◌, length, map, take, get_or, refl, sym, ap, subst, append_assoc, append-nil, arith}
use Rattle.std.specs.List.{AllByRecursion}
use denote.Param.Weighed.{most}
use Rattle.std.proofs.lemmas.List.{map_more, map-append}
use Rattle.cast_driver.specs.declared.cast.Cast.{Cast}
use Rattle.cells.specs.declared.dtype.Dtype.{Dtype}
use Rattle.index_transform.specs.Transforms.{DomainAndMaps}
use Rattle.stack_driver.specs.Conditions.{IsView}
use Rattle.stack_driver.specs.Targets.{LeadTo}
use Rattle.stack_driver.specs.Views.{look_of}
use Rattle.stack_driver.specs.declared.view.View.{View, size-View, size_is-View}
use Rattle.stack_driver.specs.declared.view.View.TheVariants as view
use Rattle.stack_targets.specs.Landings.{Seen, Ground, ground_of, leaves_of, all_leaves, with_cast}
use Rattle.stack_targets.proofs.Laws.{ground-Cast, agrees}
use Rattle.transaction_cells.specs.Lanes.{HasGrid, IsShownAs, LaneSeen, cast_lane, lane_of}
use Rattle.transaction_cells.proofs.TypeLaws.{shown_as}

leaves-append : (gs : List Ground) (g : Ground) → all_leaves (gs ++ g ∷ []) ≡ all_leaves gs ++ g.leaves
leaves-append [] g = append-nil g.leaves
leaves-append (h ∷ hs) g = ap (λ ls. h.leaves ++ ls) (leaves-append hs g) ∙ sym (append_assoc h.leaves (all_leaves hs) g.leaves)

-- one layer more
leaves_more : (layers : List View) (k : ℕ) (d : View) → k < length layers → d ≡ get_or layers k d
    → all_leaves (map ground_of (take (k + 1) layers)) ≡ all_leaves (map ground_of (take k layers)) ++ leaves_of d
leaves_more layers k d below is =
    ap all_leaves (map_more ground_of layers k d below) ∙ leaves-append (map ground_of (take k layers)) (ground_of (get_or layers k d))
    ∙ ap (λ w. all_leaves (map ground_of (take k layers)) ++ leaves_of w) (sym is)

pub lanes_more : (layers : List View) (k : ℕ) (d : View) (before now new : List LaneSeen) → k < length layers → d ≡ get_or layers k d
    → now ≡ before ++ map lane_of (all_leaves (map ground_of (take k layers))) → new ≡ now ++ map lane_of (leaves_of d)
    → new ≡ before ++ map lane_of (all_leaves (map ground_of (take (k + 1) layers)))
lanes_more layers k d before now new below is so put =
    let done = all_leaves (map ground_of (take k layers)) in
    put ∙ ap (λ ls. ls ++ map lane_of (leaves_of d)) so ∙ append_assoc before (map lane_of done) (map lane_of (leaves_of d))
    ∙ ap (λ ls. before ++ ls) (sym (map-append lane_of done (leaves_of d)) ∙ ap (map lane_of) (sym (leaves_more layers k d below is)))

joined : (xs ys : List Seen) → AllByRecursion HasGrid xs → AllByRecursion HasGrid ys → AllByRecursion HasGrid (xs ++ ys)
joined [] ys one other = other
joined (x ∷ xs) ys one other = (one.0, joined xs ys one.1 other)

pub grids_more : (layers : List View) (k : ℕ) (d : View) → k < length layers → d ≡ get_or layers k d → AllByRecursion HasGrid (all_leaves (map ground_of (take k layers))) → AllByRecursion HasGrid (leaves_of d)
    → AllByRecursion HasGrid (all_leaves (map ground_of (take (k + 1) layers)))
grids_more layers k d below is so own =
    subst (AllByRecursion HasGrid) (sym (leaves_more layers k d below is)) (joined (all_leaves (map ground_of (take k layers))) (leaves_of d) so own)

-- a cast's leaves are its base's, each with one cast more
leaves-Cast : (v : View) (to : Dtype) (base : View) → v ≡ view.Cast to base → leaves_of v ≡ map (with_cast (record { from = (look_of base).dtype; to = to })) (leaves_of base)
leaves-Cast v to base is =
    ap leaves_of is ∙ ap (λ (g : Ground). g.leaves) (ground-Cast to base)
    ∙ ap (λ (d : Dtype). map (with_cast (record { from = d; to = to })) (leaves_of base)) (agrees base).dtype

cast_all : (c : Cast) (leaves : List Seen) → map (cast_lane c) (map lane_of leaves) ≡ map lane_of (map (with_cast c) leaves)
cast_all c [] = refl
cast_all c (s ∷ leaves) = ap (λ ls. cast_lane c (lane_of s) ∷ ls) (cast_all c leaves)

pub lanes_cast : (v : View) (to from : Dtype) (base : View) (before below new : List LaneSeen) → v ≡ view.Cast to base → from ≡ (look_of base).dtype → below ≡ map lane_of (leaves_of base)
    → new ≡ before ++ map (cast_lane (record { from = from; to = to })) below → new ≡ before ++ map lane_of (leaves_of v)
lanes_cast v to from base before below new is dtype so put =
    put
    ∙ ap (λ (d : Dtype). before ++ map (cast_lane (record { from = d; to = to })) below) dtype
    ∙ ap (λ ls. before ++ map (cast_lane (record { from = (look_of base).dtype; to = to })) ls) so
    ∙ ap (λ ls. before ++ ls) (cast_all (record { from = (look_of base).dtype; to = to }) (leaves_of base) ∙ ap (map lane_of) (sym (leaves-Cast v to base is)))

grids_all : (c : Cast) (leaves : List Seen) → AllByRecursion HasGrid leaves → AllByRecursion HasGrid (map (with_cast c) leaves)
grids_all c [] all = tt
grids_all c (s ∷ leaves) all = (record { rank = all.0.rank; shape = all.0.shape }, grids_all c leaves all.1)

pub grids_cast : (v : View) (to : Dtype) (base : View) → v ≡ view.Cast to base → AllByRecursion HasGrid (leaves_of base) → AllByRecursion HasGrid (leaves_of v)
grids_cast v to base is all = subst (AllByRecursion HasGrid) (sym (leaves-Cast v to base is)) (grids_all (record { from = (look_of base).dtype; to = to }) (leaves_of base) all)

-- the casts of a view's lanes lead to its dtype
lead_all : (dtype : Dtype) (leaves : List Seen) → AllByRecursion (IsShownAs dtype) leaves → AllByRecursion (λ (lane : LaneSeen). LeadTo lane.casts dtype) (map lane_of leaves)
lead_all dtype [] all = tt
lead_all dtype (s ∷ leaves) all = (record { base = s.array.dtype; begins = all.0.begins; ends = all.0.ends }, lead_all dtype leaves all.1)

pub lanes_lead : (v : View) (from : Dtype) (lanes : List LaneSeen) → IsView v → from ≡ (look_of v).dtype → lanes ≡ map lane_of (leaves_of v) → AllByRecursion (λ (lane : LaneSeen). LeadTo lane.casts from) lanes
lanes_lead v from lanes valid dtype is =
    subst (AllByRecursion (λ (lane : LaneSeen). LeadTo lane.casts from)) (sym is)
    (subst (λ (d : Dtype). AllByRecursion (λ (lane : LaneSeen). LeadTo lane.casts d) (map lane_of (leaves_of v))) (sym dtype) (lead_all (look_of v).dtype (leaves_of v) (shown_as v valid)))

-- the layers of a stack and the base of a cast are smaller
pub layers_smaller : (layers : List View) (t : DomainAndMaps) → most size-View layers < size-View (view.Stack layers t)
layers_smaller layers t = rw (size_is-View (view.Stack layers t), view.outs-Stack layers t) (omega arith)

pub base_smaller : (to : Dtype) (base : View) → size-View base < size-View (view.Cast to base)
base_smaller to base = rw (size_is-View (view.Cast to base), view.outs-Cast to base) (omega arith)
