-- The leaves of a view whose references are known.
use Rattle.std.proofs.Common.{◌≡◌, ◌∙◌, zero, suc, Some, arith, ap, List, [], ◌∷◌, ◌++◌, map, sym, subst}
use Rattle.std.specs.Prelude.{Contains}
use Rattle.std.specs.List.{AllByRecursion}
use Rattle.history.proofs.Laws.{some_inj, known_still}
use Rattle.history.specs.Arrays.{Known, known_after, chunk_shape}
use Rattle.transaction_cells.specs.Lanes.{LaneSeen, AreAlike, lane_of}
use Rattle.cast_driver.specs.declared.cast.Cast.{Cast}
use Rattle.index_transform.specs.Transforms.{DomainAndMaps}
use Rattle.history.specs.History.{History}
use Rattle.history.specs.Legal.{IsLegal}
use Rattle.history.specs.Refs.{IsKnownRef, HasKnownRef, HasKnownRefs}
use Rattle.kv_face.specs.Store.{Contents}
use Rattle.stack_driver.specs.References.{Reference}
use Rattle.stack_driver.specs.declared.view.View.{View, ind-View, roll-View, map-View, every_here-View}
use Rattle.stack_driver.specs.declared.view.View.TheOpen.{View-F}
use Rattle.stack_driver.specs.declared.view.View.TheVariants as view
use Rattle.stack_driver.proofs.Laws.{every_base, every_layer}
use Rattle.stack_targets.specs.Landings.{Seen, Ground, ground_of, leaves_of, all_leaves, with_cast}
use Rattle.stack_targets.proofs.Laws.{ground-Leaf, ground-Cast, ground-Stack}
use Rattle.transaction_cells.specs.Operations.{IsLeafIn, IsGrowing}
use Rattle.transaction_cells.proofs.OperationLaws.{leaf_in}

module _ (events : History) where
  abbrev AreKnown : List Seen → Type 0
  AreKnown leaves = AllByRecursion (λ (s : Seen). IsKnownRef events s.array) leaves

  Goes : View → Type 0
  Goes v = HasKnownRefs events v → AreKnown (leaves_of v)

  leaf_known : (array : Reference) (t : DomainAndMaps) → HasKnownRefs events (view.Leaf array t) → IsKnownRef events array
  leaf_known array t refs = subst (HasKnownRef events) (view.outs-Leaf array t) (every_here-View (HasKnownRef events) (view.Leaf array t) refs)

  cast_known : (c : Cast) (leaves : List Seen) → AreKnown leaves → AreKnown (map (with_cast c) leaves)
  cast_known c [] all = tt
  cast_known c (s ∷ leaves) all = (all.0, cast_known c leaves all.1)

  joined_known : (xs ys : List Seen) → AreKnown xs → AreKnown ys → AreKnown (xs ++ ys)
  joined_known [] ys one other = other
  joined_known (x ∷ xs) ys one other = (one.0, joined_known xs ys one.1 other)

  layers_known : (ys : List ((z : View) × Goes z)) → AllByRecursion (HasKnownRefs events) (map (λ (y : (z : View) × Goes z). y.0) ys) → AreKnown (all_leaves (map ground_of (map (λ (y : (z : View) × Goes z). y.0) ys)))
  unfolding Goes
  layers_known [] all = tt
  layers_known (y ∷ ys) all = joined_known (leaves_of y.0) (all_leaves (map ground_of (map (λ (y : (z : View) × Goes z). y.0) ys))) (y.1 all.0) (layers_known ys all.1)

  goes_step : (x : View-F View) (y : View-F ((z : View) × Goes z)) → map-View ((z : View) × Goes z) View (λ e. e.0) y ≡ x → Goes (roll-View x)
  unfolding Goes
  goes_step x (View-F.Leaf array u) e =
      subst (λ z. Goes (roll-View z)) e
      (subst Goes (sym (view.rolls-Leaf array u)) (λ refs. subst (λ (g : Ground). AreKnown g.leaves) (sym (ground-Leaf array u)) (leaf_known array u refs, tt)))
  goes_step x (View-F.Cast to p) e =
      subst (λ z. Goes (roll-View z)) e
      (subst Goes (sym (view.rolls-Cast to p.0))
      (λ refs. subst (λ (g : Ground). AreKnown g.leaves) (sym (ground-Cast to p.0)) (cast_known (record { from = (ground_of p.0).dtype; to = to }) (leaves_of p.0) (p.1 (every_base (HasKnownRef events) to p.0 refs)))))
  goes_step x (View-F.Stack ys u) e =
      subst (λ z. Goes (roll-View z)) e
      (subst Goes (sym (view.rolls-Stack (map (λ (y : (z : View) × Goes z). y.0) ys) u))
      (λ refs. subst (λ (g : Ground). AreKnown g.leaves) (sym (ground-Stack (map (λ (y : (z : View) × Goes z). y.0) ys) u))
      (layers_known ys (every_layer (HasKnownRef events) (map (λ (y : (z : View) × Goes z). y.0) ys) u refs))))

  known_leaves : (v : View) → HasKnownRefs events v → AreKnown (leaves_of v)
  unfolding Goes
  known_leaves v = ind-View Goes goes_step v

-- a view of known references has leaves of arrays of a history, where arrays that are there stay
pub leaves_among : (events : History) (v : View) → IsGrowing events → HasKnownRefs events v → AllByRecursion (IsLeafIn events) (leaves_of v)
leaves_among events v grows refs = all (leaves_of v) (known_leaves events v refs)
  where
    all : (leaves : List Seen) → AllByRecursion (λ (s : Seen). IsKnownRef events s.array) leaves → AllByRecursion (IsLeafIn events) leaves
    all [] known = tt
    all (s ∷ leaves) known = (leaf_in events s grows known.0, all leaves known.1)

-- so do they in a legal history
pub leaves_in : (start : Contents) (events : History) (v : View) → IsLegal start events → HasKnownRefs events v → AllByRecursion (IsLeafIn events) (leaves_of v)
leaves_in start events v legal refs = leaves_among events v (λ n a k is. known_still start events a n k legal is) refs

-- a lane of an array of a history
record IsLaneIn (events : History) (lane : LaneSeen) : Type 0 where
  array : Known
  known : known_after events lane.array ≡ Some array
  chunk : lane.chunk ≡ chunk_shape array.info

lanes_in : (events : History) (leaves : List Seen) → AllByRecursion (IsLeafIn events) leaves → AllByRecursion (IsLaneIn events) (map lane_of leaves)
lanes_in events [] all = tt
lanes_in events (s ∷ leaves) all = (record { array = all.0.array; known = all.0.known; chunk = all.0.chunk }, lanes_in events leaves all.1)

lane_at : (events : History) (lanes : List LaneSeen) (lane : LaneSeen) → AllByRecursion (IsLaneIn events) lanes → Contains lanes lane → IsLaneIn events lane
lane_at events [] lane all there = absurd (omega (arith, there.1))
lane_at events (l ∷ lanes) lane all (zero, lt, is) = subst (IsLaneIn events) is all.0
lane_at events (l ∷ lanes) lane all (suc k, lt, is) = lane_at events lanes lane all.1 (k, omega (arith, lt), is)

-- leaves of arrays of a history have one chunk shape for each array
pub alike_in : (events : History) (leaves : List Seen) → AllByRecursion (IsLeafIn events) leaves → AreAlike leaves
alike_in events leaves all a b one other same =
    let lanes = lanes_in events leaves all in
    let first = lane_at events (map lane_of leaves) a lanes one in
    let second = lane_at events (map lane_of leaves) b lanes other in
    let array = some_inj first.array second.array (sym first.known ∙ ap (known_after events) same ∙ second.known) in
    first.chunk ∙ ap (λ (k : Known). chunk_shape k.info) array ∙ sym second.chunk
