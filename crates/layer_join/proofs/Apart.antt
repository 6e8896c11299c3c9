-- Views that are put behind one another have no cell in common.
use Rattle.std.proofs.Common.{◌≡◌, ◌<◌, ℕ, zero, suc, ℤ, pos, ◌≤ℤ◌, int_le, Bool, true, false, ◌&&◌, List, [], ◌∷◌, length, map, get_or, refl, subst, arith}
use Rattle.std.proofs.lemmas.Int.{ints}
use Rattle.std.proofs.lemmas.List.{get_or-set_same}
use Rattle.std.specs.List.{AllByRecursion, zip}
use Rattle.cells.proofs.Laws.{both}
use Rattle.index_intervals.specs.Bounds.{Bounds, AreBounds, is_index}
use Rattle.stack_driver.specs.Reading.{point}
use Rattle.stack_driver.specs.Targets.{is_member, has_index}
use Rattle.stack_driver.specs.Views.{Look, look_of}
use Rattle.stack_driver.specs.declared.view.View.{View}
use Rattle.layer_join.specs.Slid.{slid, slid_dims, slid_look, along, shift_to, behind, shifts_from, start_of}
use Rattle.layer_join.specs.Joins.{AreApart}
use Rattle.layer_join.proofs.Slides.{length-slid_dims}

-- a view that can be put at an axis: it has the dimension, whose bounds are in order
pub record IsPut (axis : ℕ) (v : View) : Type 0 where
  pub has : axis < length (look_of v).dims
  pub bounds : AreBounds (along axis v)

abbrev looks_from : ℤ → ℕ → List View → List Look
looks_from next axis views = map (λ p. slid_look axis p.0 (look_of p.1)) (zip (shifts_from next axis views) views)

member_at : (dims : List Bounds) (index : List ℤ) (axis : ℕ) → has_index dims index ≡ true → axis < length dims → is_member (get_or dims axis point) (get_or index axis (pos 0)) ≡ true
member_at [] [] axis h b = absurd (omega (arith, b))
member_at [] (x ∷ index) axis h b = absurd (omega (arith, b))
member_at (d ∷ dims) [] axis h b = absurd (let no_such : ⊥ = cc in no_such)
member_at (d ∷ dims) (x ∷ index) zero h b = (both (is_member d x) (has_index dims index) h).0
member_at (d ∷ dims) (x ∷ index) (suc axis) h b = member_at dims index axis (both (is_member d x) (has_index dims index) h).1 (omega (arith, b))

record IsBetween (dim : Bounds) (x : ℤ) : Type 0 where
  above : dim.lo ≤ℤ x
  below : x ≤ℤ dim.hi

between : (dim : Bounds) (x : ℤ) → is_member dim x ≡ true → IsBetween dim x
between dim x h =
    let p = both (is_index x) (int_le dim.lo x && int_le x dim.hi) h in
    let q = both (int_le dim.lo x) (int_le x dim.hi) p.1 in
    record { above = grind (arith, ints, q.0); below = grind (arith, ints, q.1) }

slid_at : (axis : ℕ) (by : ℤ) (dims : List Bounds) → axis < length dims → get_or (slid_dims axis by dims) axis point ≡ slid by (get_or dims axis point)
slid_at axis by dims b = get_or-set_same dims axis (slid by (get_or dims axis point)) point b

slid_between : (axis : ℕ) (by : ℤ) (dims : List Bounds) (index : List ℤ) → axis < length dims → has_index (slid_dims axis by dims) index ≡ true
    → length (slid_dims axis by dims) ≡ length dims → IsBetween (slid by (get_or dims axis point)) (get_or index axis (pos 0))
slid_between axis by dims index b h same =
    subst (λ (d : Bounds). IsBetween d (get_or index axis (pos 0))) (slid_at axis by dims b)
    (between (get_or (slid_dims axis by dims) axis point) (get_or index axis (pos 0)) (member_at (slid_dims axis by dims) index axis h (omega (arith, b, same))))

-- an index vector of one of the views lies behind the index where the first one begins
from_next : (axis : ℕ) (next : ℤ) (views : List View) (k : ℕ) (index : List ℤ) (d : Look) → AllByRecursion (IsPut axis) views → k < length views
    → has_index (get_or (looks_from next axis views) k d).dims index ≡ true → next ≤ℤ get_or index axis (pos 0)
from_next axis next [] k index d all b h = absurd (omega (arith, b))
from_next axis next (v ∷ vs) zero index d all b h =
    let p = slid_between axis (shift_to next axis v) (look_of v).dims index all.0.has h (length-slid_dims axis (shift_to next axis v) (look_of v).dims) in
    let low = p.above in omega (arith, ints, low)
from_next axis next (v ∷ vs) (suc k) index d all b h =
    let later = from_next axis (behind next axis v) vs k index d all.1 (omega (arith, b)) h in
    let order = all.0.bounds.ordered in
    omega (arith, ints, later, order)

parted : (axis : ℕ) (next : ℤ) (views : List View) → AllByRecursion (IsPut axis) views → (j k : ℕ) → j < k → k < length views → (index : List ℤ) (d : Look)
    → has_index (get_or (looks_from next axis views) j d).dims index ≡ true → has_index (get_or (looks_from next axis views) k d).dims index ≡ false
parted axis next [] all j k jk b index d h = absurd (omega (arith, b))
parted axis next (v ∷ vs) all j zero jk b index d h = absurd (omega (arith, jk))
parted axis next (v ∷ vs) all zero (suc k) jk b index d h = told (has_index (get_or (looks_from (behind next axis v) axis vs) k d).dims index) refl
  where
    told : (t : Bool) → has_index (get_or (looks_from (behind next axis v) axis vs) k d).dims index ≡ t → t ≡ false
    told false e = refl
    told true e =
        let later = from_next axis (behind next axis v) vs k index d all.1 (omega (arith, b)) e in
        let p = slid_between axis (shift_to next axis v) (look_of v).dims index all.0.has h (length-slid_dims axis (shift_to next axis v) (look_of v).dims) in
        let high = p.below in
        absurd (omega (arith, ints, later, high))
parted axis next (v ∷ vs) all (suc j) (suc k) jk b index d h = parted axis (behind next axis v) vs all.1 j k (omega (arith, jk)) (omega (arith, b)) index d h

pub apart : (axis : ℕ) (layers : List View) → AllByRecursion (IsPut axis) layers → AreApart axis layers
apart axis layers all = parted axis (start_of axis layers) layers all
