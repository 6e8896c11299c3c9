-- Views changed one after another, and searched one after another.
use Rattle.std.proofs.Common.{◌≡◌, ◌∙◌, ◌<◌, ◌≤◌, ℕ, zero, suc, ◌+◌, ℤ, pos, negsuc, ◌+ℤ◌, ◌≤ℤ◌, Bool, true, false, cond, ◌&&◌, List, [], ◌∷◌, ◌++◌, length, map, take, drop, get_or, Some, None, drop-cons, refl, sym, ap, subst, arith}
use Rattle.std.proofs.Math.ListN.{set}
use Rattle.std.proofs.lemmas.List.{append-nil, drop_all, take_all}
use Rattle.std.specs.List.{AllByRecursion, list_all, zip}
use Rattle.cells.proofs.Laws.{both}
use Rattle.index_intervals.specs.Bounds.{IsIndex, is_index}
use Rattle.index_intervals.proofs.Laws.{is_index-true, AreBounds-true}
use Rattle.stack_driver.specs.Views.{look_of, own_transform}
use Rattle.index_transform.proofs.Laws.{set-more}
use Rattle.stack_driver.specs.declared.view.View.{View}
use Rattle.layer_join.specs.Slid.{along, behind, shift_to, shifts, shifts_from, slid_view, start_of}
use Rattle.layer_join.specs.Placed.{placed_view, placed_from}
use Rattle.layer_join.specs.Refusals.{can_slide, can_slide_map, first_stuck}
use Rattle.layer_join.specs.Joins.{is_ordered_along, moved_layers}
use Rattle.layer_join.proofs.Apart.{IsPut}
use Rattle.layer_join.proofs.Joinings.{length-moved}
use Rattle.layer_join.proofs.PlacedLaws.{length-placed_from}

-- an index to which the lower bound of a view can be brought
pub record IsNext (next : ℤ) : Type 0 where
  pub above : negsuc 4611686018427387902 ≤ℤ next
  pub below : next ≤ℤ pos 4611686018427387903

-- the search for a view that can't move, so far
pub record Searched (axis : ℕ) (layers : List View) (next : ℤ) (k : ℕ) : Type 0 where
  pub rest : first_stuck (start_of axis layers) 0 axis layers ≡ first_stuck next k axis (drop k layers)
  pub index : IsNext next

rest_of : {X : Type 0} (xs : List X) (k : ℕ) (x : X) → k < length xs → x ≡ get_or xs k x → drop k xs ≡ x ∷ drop (k + 1) xs
rest_of {X} xs k x below is =
    let one : suc k ≡ k + 1 = omega arith in
    drop-cons xs k x below ∙ ap (λ (z : X). z ∷ drop (suc k) xs) (sym is) ∙ ap (λ n. x ∷ drop n xs) one

stuck_here : (axis : ℕ) (next : ℤ) (k : ℕ) (v : View) (vs : List View) (b : Bool) → can_slide axis (shift_to next axis v) v ≡ b
    → first_stuck next k axis (v ∷ vs) ≡ cond b (first_stuck (behind next axis v) (k + 1) axis vs) (Some k)
stuck_here axis next k v vs b e = ap (λ t. cond t (first_stuck (behind next axis v) (k + 1) axis vs) (Some k)) e

pub searched-next : (axis : ℕ) (layers : List View) (next : ℤ) (k : ℕ) (v : View) → Searched axis layers next k → k < length layers → v ≡ get_or layers k v
    → can_slide axis (shift_to next axis v) v ≡ true → IsNext (behind next axis v) → Searched axis layers (behind next axis v) (k + 1)
searched-next axis layers next k v s below is able index = record {
  rest = s.rest ∙ ap (first_stuck next k axis) (rest_of layers k v below is) ∙ stuck_here axis next k v (drop (k + 1) layers) true able;
  index = index;
}

pub searched-found : (axis : ℕ) (layers : List View) (next : ℤ) (k : ℕ) (v : View) → Searched axis layers next k → k < length layers → v ≡ get_or layers k v
    → can_slide axis (shift_to next axis v) v ≡ false → first_stuck (start_of axis layers) 0 axis layers ≡ Some k
searched-found axis layers next k v s below is able =
    s.rest ∙ ap (first_stuck next k axis) (rest_of layers k v below is) ∙ stuck_here axis next k v (drop (k + 1) layers) false able

-- the views moved so far
pub record Moving (axis : ℕ) (olds news : List View) (next : ℤ) (k : ℕ) : Type 0 where
  pub done : news ≡ take k (moved_layers axis olds) ++ drop k olds
  pub shifts_left : drop k (shifts axis olds) ≡ shifts_from next axis (drop k olds)
  pub able : first_stuck next k axis (drop k olds) ≡ None
  pub index : IsNext next

-- what is behind the front is as it was
same_behind : {X : Type 0} (news olds : List X) (k : ℕ) (d : X) → k < length olds → length news ≡ length olds → get_or (take k news ++ drop k olds) k d ≡ get_or olds k d
same_behind [] [] k d below same = absurd (omega (arith, below))
same_behind [] (o ∷ olds) k d below same = absurd (omega (arith, same))
same_behind (n ∷ news) [] k d below same = absurd (omega (arith, same))
same_behind (n ∷ news) (o ∷ olds) zero d below same = refl
same_behind (n ∷ news) (o ∷ olds) (suc k) d below same = same_behind news olds k d (omega (arith, below)) (omega (arith, same))

pair_at : {A : Type 0} (f : ℤ × View → A) (ss : List ℤ) (vs : List View) (k : ℕ) (d : A) (s : ℤ) (v : View) (more : List ℤ) → drop k ss ≡ s ∷ more → v ≡ get_or vs k v → k < length vs
    → get_or (map f (zip ss vs)) k d ≡ f (s, v)
pair_at f [] vs zero d s v more e is below = absurd (let no_such : ⊥ = cc in no_such)
pair_at f [] vs (suc k) d s v more e is below = absurd (let no_such : ⊥ = cc in no_such)
pair_at f (x ∷ ss) [] k d s v more e is below = absurd (omega (arith, below))
pair_at f (x ∷ ss) (w ∷ vs) zero d s v more e is below = let same : x ≡ s = cc in ap (λ y. f (y, w)) same ∙ ap (λ y. f (s, y)) (sym is)
pair_at f (x ∷ ss) (w ∷ vs) (suc k) d s v more e is below = pair_at f ss vs k d s v more e is (omega (arith, below))

-- the view that is moved next, and where it goes
pub record Moved (axis : ℕ) (olds news : List View) (next : ℤ) (k : ℕ) (v : View) : Type 0 where
  pub old : v ≡ get_or olds k v
  pub able : can_slide axis (shift_to next axis v) v ≡ true
  pub more : IsNext (behind next axis v) → Moving axis olds (set news k (slid_view axis (shift_to next axis v) v)) (behind next axis v) (k + 1)

can : (axis : ℕ) (next : ℤ) (k : ℕ) (v : View) (vs : List View) → first_stuck next k axis (v ∷ vs) ≡ None
    → (can_slide axis (shift_to next axis v) v ≡ true) × (first_stuck (behind next axis v) (k + 1) axis vs ≡ None)
can axis next k v vs e = told (can_slide axis (shift_to next axis v) v) refl
  where
    told : (b : Bool) → can_slide axis (shift_to next axis v) v ≡ b → (b ≡ true) × (first_stuck (behind next axis v) (k + 1) axis vs ≡ None)
    told true f = (refl, sym (stuck_here axis next k v vs true f) ∙ e)
    told false f = let no_such : Some k ≡ None = sym (stuck_here axis next k v vs false f) ∙ e in absurd (let never : ⊥ = cc in never)

behind_one : {X : Type 0} (xs : List X) (k : ℕ) (x : X) (more : List X) → drop k xs ≡ x ∷ more → drop (k + 1) xs ≡ more
behind_one [] zero x more e = absurd (let no_such : ⊥ = cc in no_such)
behind_one [] (suc k) x more e = absurd (let no_such : ⊥ = cc in no_such)
behind_one (y ∷ xs) zero x more e = cc
behind_one {X} (y ∷ xs) (suc k) x more e = let one : suc k + 1 ≡ suc (k + 1) = omega arith in ap (λ n. drop n (y ∷ xs)) one ∙ behind_one xs k x more e

pub moving-next : (axis : ℕ) (olds news : List View) (next : ℤ) (k : ℕ) (v : View) → Moving axis olds news next k → k < length olds → v ≡ get_or news k v → Moved axis olds news next k v
moving-next axis olds news next k v m below is =
    let old : v ≡ get_or olds k v = is ∙ ap (λ vs. get_or vs k v) m.done ∙ same_behind (moved_layers axis olds) olds k v below (length-moved axis olds) in
    let rest = rest_of olds k v below old in
    let c = can axis next k v (drop (k + 1) olds) (sym (ap (first_stuck next k axis) rest) ∙ m.able) in
    let left : drop k (shifts axis olds) ≡ shift_to next axis v ∷ shifts_from (behind next axis v) axis (drop (k + 1) olds) = m.shifts_left ∙ ap (shifts_from next axis) rest in
    let y = slid_view axis (shift_to next axis v) v in
    let at : y ≡ get_or (moved_layers axis olds) k y =
    sym (pair_at (λ p. slid_view axis p.0 p.1) (shifts axis olds) olds k y (shift_to next axis v) v (shifts_from (behind next axis v) axis (drop (k + 1) olds)) left old below) in
    let one : suc k ≡ k + 1 = omega arith in
    record {
      old = old;
      able = c.0;
      more = λ index. record {
        done =
            ap (λ vs. set vs k y) m.done ∙ set-more (moved_layers axis olds) olds k y (length-moved axis olds) below at
            ∙ ap (λ n. take n (moved_layers axis olds) ++ drop n olds) one;
        shifts_left = behind_one (shifts axis olds) k (shift_to next axis v) (shifts_from (behind next axis v) axis (drop (k + 1) olds)) left;
        able = c.1;
        index = index;
      };
    }

placed_at : (axis place : ℕ) (views : List View) (k : ℕ) (d v : View) → v ≡ get_or views k v → k < length views → get_or (placed_from place axis views) k d ≡ placed_view axis (place + k) v
placed_at axis place [] k d v is below = absurd (omega (arith, below))
placed_at axis place (w ∷ vs) zero d v is below = ap (placed_view axis place) (sym is) ∙ ap (λ n. placed_view axis n v) (omega arith)
placed_at axis place (w ∷ vs) (suc k) d v is below = placed_at axis (place + 1) vs k d v is (omega (arith, below)) ∙ ap (λ n. placed_view axis n v) (omega arith)

-- the views placed so far, with one more
pub placing-old : (axis : ℕ) (olds news : List View) (k : ℕ) (v : View) → news ≡ take k (placed_from 0 axis olds) ++ drop k olds → k < length olds → v ≡ get_or news k v → v ≡ get_or olds k v
placing-old axis olds news k v done below is = is ∙ ap (λ vs. get_or vs k v) done ∙ same_behind (placed_from 0 axis olds) olds k v below (length-placed_from axis 0 olds)

pub placing-next : (axis : ℕ) (olds news : List View) (k : ℕ) (v : View) → news ≡ take k (placed_from 0 axis olds) ++ drop k olds → k < length olds → v ≡ get_or news k v
    → set news k (placed_view axis k v) ≡ take (k + 1) (placed_from 0 axis olds) ++ drop (k + 1) olds
placing-next axis olds news k v done below is =
    let y = placed_view axis k v in
    let at : y ≡ get_or (placed_from 0 axis olds) k y = ap (λ n. placed_view axis n v) (omega arith) ∙ sym (placed_at axis 0 olds k y v (placing-old axis olds news k v done below is) below) in
    let one : suc k ≡ k + 1 = omega arith in
    ap (λ vs. set vs k y) done ∙ set-more (placed_from 0 axis olds) olds k y (length-placed_from axis 0 olds) below at
    ∙ ap (λ n. take n (placed_from 0 axis olds) ++ drop n olds) one

-- a slice that was written over the whole of a vector
pub whole_written : {X : Type 0} (olds news : List X) (n : ℕ) → length news ≡ length olds → length olds ≡ n → take n (news ++ drop (length news) olds) ≡ news
whole_written {X} olds news n same count =
    let none : drop (length news) olds ≡ [] = drop_all (length news) olds (omega (arith, same)) in
    ap (λ (ys : List X). take n (news ++ ys)) none ∙ ap (take n) (append-nil news) ∙ take_all n news (omega (arith, same, count))

-- where the first view stands before it moves
pub moving-first : (axis : ℕ) (olds : List View) (next : ℤ) (d : View) → 0 < length olds → next ≡ (along axis (get_or olds 0 d)).lo → IsNext next
    → first_stuck (start_of axis olds) 0 axis olds ≡ None → Moving axis olds olds next 0
moving-first axis [] next d some is index able = absurd (omega (arith, some))
moving-first axis (v ∷ vs) next d some is index able = record {
  done = refl;
  shifts_left = ap (λ n. shifts_from n axis (v ∷ vs)) (sym is);
  able = ap (λ n. first_stuck n 0 axis (v ∷ vs)) is ∙ able;
  index = index;
}

pub searched-first : (axis : ℕ) (olds : List View) (next : ℤ) (d : View) → 0 < length olds → next ≡ (along axis (get_or olds 0 d)).lo → IsNext next → Searched axis olds next 0
searched-first axis [] next d some is index = absurd (omega (arith, some))
searched-first axis (v ∷ vs) next d some is index = record { rest = ap (λ n. first_stuck n 0 axis (v ∷ vs)) (sym is); index = index }

-- the moved interval of a view that can move
pub end_index : (axis : ℕ) (by : ℤ) (v : View) → can_slide axis by v ≡ true → IsIndex ((along axis v).hi +ℤ by)
end_index axis by v e =
    let p = both (is_index ((along axis v).lo +ℤ by) && is_index ((along axis v).hi +ℤ by)) (list_all (can_slide_map axis by) (own_transform v).maps) e in
    is_index-true ((along axis v).hi +ℤ by) (both (is_index ((along axis v).lo +ℤ by)) (is_index ((along axis v).hi +ℤ by)) p.0).1

pub start_index : (axis : ℕ) (by : ℤ) (v : View) → can_slide axis by v ≡ true → IsIndex ((along axis v).lo +ℤ by)
start_index axis by v e =
    let p = both (is_index ((along axis v).lo +ℤ by) && is_index ((along axis v).hi +ℤ by)) (list_all (can_slide_map axis by) (own_transform v).maps) e in
    is_index-true ((along axis v).lo +ℤ by) (both (is_index ((along axis v).lo +ℤ by)) (is_index ((along axis v).hi +ℤ by)) p.0).0

pub can_slide_maps : (axis : ℕ) (by : ℤ) (v : View) → can_slide axis by v ≡ true → list_all (can_slide_map axis by) (own_transform v).maps ≡ true
can_slide_maps axis by v e =
    (both (is_index ((along axis v).lo +ℤ by) && is_index ((along axis v).hi +ℤ by)) (list_all (can_slide_map axis by) (own_transform v).maps) e).1

pub has_at : (P : View → Type 0) (views : List View) (k : ℕ) (v : View) → AllByRecursion P views → k < length views → v ≡ get_or views k v → P v
has_at P [] k v all below is = absurd (omega (arith, below))
has_at P (w ∷ ws) zero v all below is = subst P (sym is) all.0
has_at P (w ∷ ws) (suc k) v all below is = has_at P ws k v all.1 (omega (arith, below)) is

pub all_put : (axis : ℕ) (views : List View) → AllByRecursion (λ v. axis < length (look_of v).dims) views → list_all (is_ordered_along axis) views ≡ true → AllByRecursion (IsPut axis) views
all_put axis [] has ordered = tt
all_put axis (v ∷ vs) has ordered =
    let p = both (is_ordered_along axis v) (list_all (is_ordered_along axis) vs) ordered in
    (record { has = has.0; bounds = AreBounds-true (along axis v) p.0 }, all_put axis vs has.1 p.1)

pub all_done : {X : Type 0} (news olds : List X) (k : ℕ) → length news ≡ length olds → length olds ≤ k → take k news ++ drop k olds ≡ news
all_done {X} news olds k same all =
    ap (λ (ys : List X). take k news ++ ys) (drop_all k olds all) ∙ append-nil (take k news) ∙ take_all k news (omega (arith, same, all))
