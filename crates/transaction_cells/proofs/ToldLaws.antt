-- Sites that buffers tell, one after another.
use Rattle.std.proofs.Common.{◌≡◌, ◌∙◌, ℕ, zero, suc, ◌+◌, ◌<◌, ◌≤◌, ℤ, List, [], ◌∷◌, ◌++◌, length, map, take, drop, get_or, Result, Ok, Err, refl, sym, ap, subst, arith}
use Rattle.std.specs.List.{AllByRecursion}
use Rattle.std.proofs.lemmas.List.{get_or-map, length-map}
use Rattle.stack_driver.specs.Targets.{Target}
use Rattle.stack_driver.specs.Views.{look_of, targets_of}
use Rattle.index_transform.specs.Cells.{cells_of}
use Rattle.stack_driver.specs.declared.view.View.{View}
use Rattle.stack_targets.specs.Buffers.{told_landings, all_landings, all_or_first, first_and}
use Rattle.stack_targets.specs.Landings.{Seen, Landing, landing_of, leaves_of, no_leaf, target_among}
use Rattle.stack_targets.specs.declared.error.TargetsError.{TargetsError}
use Rattle.stack_driver.specs.declared.error.TargetError.{TargetError}
use Rattle.stack_driver.specs.Conditions.{IsView}
use Rattle.stack_targets.proofs.Laws.{Meets, agrees}
use Rattle.transaction_cells.proofs.TypeLaws.{shown_as}
use Rattle.transaction_cells.specs.Casting.{HasLane, casts_at}
use Rattle.transaction_cells.specs.Lanes.{LaneSeen, lane_of, HasGrid}
use Rattle.transaction_cells.specs.Operations.{HasSites}
use Rattle.transaction_cells.specs.Pieces.{AreCells, ArePieces}
use Rattle.transaction_cells.specs.Sites.{Site, site_by, site_of, sites_in, sites_of, told_sites, AreTold, IsLanded, no_lane}
use Rattle.transaction_cells.specs.declared.view_cells.Piece.{Piece}

-- there is a site for each number of a leaf
pub length-told : (lanes : List LaneSeen) (leaves numbers : List ℕ) → length (told_sites lanes leaves numbers) ≡ length leaves
length-told lanes [] numbers = refl
length-told lanes (leaf ∷ more) numbers = ap suc (length-told lanes more _)

-- what is left of a list begins with an element
pub record IsNext {X : Type 0} (xs : List X) (k : ℕ) (x : X) (rest : List X) : Type 0 where
  pub below : k < length xs
  pub done : take (k + 1) xs ≡ take k xs ++ x ∷ []
  pub left : drop (k + 1) xs ≡ rest

pub next : {X : Type 0} (xs : List X) (k : ℕ) (x : X) (rest : List X) → drop k xs ≡ x ∷ rest → IsNext xs k x rest
next [] zero x rest is = absurd (let no_such : ⊥ = cc in no_such)
next [] (suc k) x rest is = absurd (let no_such : ⊥ = cc in no_such)
next (y ∷ xs) zero x rest is = record {
  below = omega arith;
  done = (let h : y ≡ x = cc in ap (λ z. z ∷ []) h);
  left = (let h : xs ≡ rest = cc in h);
}
next (y ∷ xs) (suc k) x rest is =
    let more = next xs k x rest is in
    let z : suc k + 1 ≡ suc (k + 1) = omega arith in
    record {
      below = omega (arith, more.below);
      done = ap (λ n. take n (y ∷ xs)) z ∙ ap (λ zs. y ∷ zs) more.done;
      left = ap (λ n. drop n (y ∷ xs)) z ∙ more.left;
    }

-- one cell more of what buffers tell
pub record IsToldNext (lanes : List LaneSeen) (leaves numbers : List ℕ) (sites : List Site) (view from leaf : ℕ) : Type 0 where
  pub lane : leaf < length lanes
  pub room : length (get_or lanes leaf no_lane).chunk ≤ length (drop from numbers)
  pub next_is : IsNext sites view (site_by (get_or lanes leaf no_lane) (take (length (get_or lanes leaf no_lane).chunk) (drop from numbers)))
      (told_sites lanes (drop (view + 1) leaves) (drop (length (get_or lanes leaf no_lane).chunk) (drop from numbers)))
  pub told : AreTold lanes (drop (view + 1) leaves) (drop (length (get_or lanes leaf no_lane).chunk) (drop from numbers))

pub told_next : (lanes : List LaneSeen) (leaves numbers : List ℕ) (sites : List Site) (view from leaf : ℕ) → drop view leaves ≡ leaf ∷ drop (view + 1) leaves
    → drop view sites ≡ told_sites lanes (drop view leaves) (drop from numbers) → AreTold lanes (drop view leaves) (drop from numbers)
    → IsToldNext lanes leaves numbers sites view from leaf
told_next lanes leaves numbers sites view from leaf here rest told =
    let t : AreTold lanes (leaf ∷ drop (view + 1) leaves) (drop from numbers) = subst (λ ls. AreTold lanes ls (drop from numbers)) here told in
    record {
      lane = t.0;
      room = t.1;
      next_is = next sites view _ _ (rest ∙ ap (λ ls. told_sites lanes ls (drop from numbers)) here);
      told = t.2;
    }

-- the lane of a leaf
lane_at : (leaves : List Seen) (leaf : ℕ) → leaf < length leaves → get_or (map lane_of leaves) leaf no_lane ≡ lane_of (get_or leaves leaf no_leaf)
lane_at leaves leaf lt = get_or-map lane_of leaves leaf no_leaf no_lane lt

-- the rank at a place
rank_at : (leaves : List Seen) (leaf : ℕ) → AllByRecursion HasGrid leaves → leaf < length leaves → HasGrid (get_or leaves leaf no_leaf)
rank_at [] leaf h lt = absurd (omega (arith, lt))
rank_at (s ∷ leaves) zero h lt = h.0
rank_at (s ∷ leaves) (suc leaf) h lt = rank_at leaves leaf h.1 (omega (arith, lt))

short_take : (n : ℕ) (xs : List ℕ) → length (take n xs) ≡ n → n ≤ length xs
short_take zero xs is = omega arith
short_take (suc n) [] is = absurd (omega (arith, is))
short_take (suc n) (x ∷ xs) is = let more = short_take n xs (omega (arith, is)) in omega (arith, more)

-- landings that buffers tell are sites that they tell
module _ (leaves : List Seen) (ranks : AllByRecursion HasGrid leaves) where
  pub told_landed : (cells numbers : List ℕ) → AllByRecursion (IsLanded leaves) (told_landings leaves cells numbers)
      → AreTold (map lane_of leaves) cells numbers × (map (site_of leaves) (told_landings leaves cells numbers) ≡ told_sites (map lane_of leaves) cells numbers)
  told_landed [] numbers h = (tt, refl)
  told_landed (leaf ∷ more) numbers h =
      let seen = get_or leaves leaf no_leaf in
      let lane = lane_at leaves leaf h.0.0 in
      let count = length-map leaves lane_of in
      let rank : length (get_or (map lane_of leaves) leaf no_lane).chunk ≡ length seen.array.shape = ap (λ (l : LaneSeen). length l.chunk) lane ∙ (rank_at leaves leaf ranks h.0.0).rank in
      let rest = told_landed more (drop (length seen.array.shape) numbers) h.1 in
      let inside = h.0.0 in
      let room = short_take (length seen.array.shape) numbers h.0.1 in (
        (
          omega (arith, count, inside),
          omega (arith, room, rank),
          subst (λ n. AreTold (map lane_of leaves) more (drop n numbers)) (sym rank) rest.0,
        ),
        (λ i. site_by (sym lane i) (take (sym rank i) numbers) ∷ (rest.1 ∙ ap (λ n. told_sites (map lane_of leaves) more (drop n numbers)) (sym rank)) i),
      )

-- landings of cells of a view are in its leaves
landed : (v : View) (x : List ℤ) (l : Landing) → landing_of v x ≡ Ok l → IsLanded (leaves_of v) l
landed v x l is = let m = subst (Meets (leaves_of v) ((look_of v).target x)) is ((agrees v).meets x) in (m.0, m.2)

-- the targets of landings
pub all_targeted : (v : View) (cells : List (List ℤ)) (k : ℕ) (ls : List Landing) → all_or_first k (map (landing_of v) cells) ≡ Ok ls → map (look_of v).target cells ≡ map (λ l. Ok (target_among (leaves_of v) l)) ls
all_targeted v [] k [] is = refl
all_targeted v [] k (l ∷ ls) is = absurd (let no_such : ⊥ = cc in no_such)
all_targeted v (x ∷ cells) k ls is = by (λ ms e. all_targeted v cells (k + 1) ms e) (landing_of v x) refl is
  where
    by_rest : ((ms : List Landing) → all_or_first (k + 1) (map (landing_of v) cells) ≡ Ok ms → map (look_of v).target cells ≡ map (λ l. Ok (target_among (leaves_of v) l)) ms)
        → (l : Landing) (ls : List Landing) → landing_of v x ≡ Ok l → (r : Result (List Landing) TargetsError) → all_or_first (k + 1) (map (landing_of v) cells) ≡ r → first_and l r ≡ Ok ls
        → map (look_of v).target (x ∷ cells) ≡ map (λ l. Ok (target_among (leaves_of v) l)) ls
    by_rest rest_of l [] here (Ok more) e is = absurd (let no_such : ⊥ = cc in no_such)
    by_rest rest_of l (m ∷ ls) here (Ok more) e is =
        let first : l ≡ m = cc in
        let others : more ≡ ls = cc in
        let meets = subst (Meets (leaves_of v) ((look_of v).target x)) here ((agrees v).meets x) in
        (λ i. (meets.1 ∙ ap (λ n. Ok (target_among (leaves_of v) n)) first) i ∷ rest_of ls (e ∙ ap Ok others) i)
    by_rest rest_of l ls here (Err f) e is = absurd (let no_such : ⊥ = cc in no_such)

    by : ((ms : List Landing) → all_or_first (k + 1) (map (landing_of v) cells) ≡ Ok ms → map (look_of v).target cells ≡ map (λ l. Ok (target_among (leaves_of v) l)) ms)
        → (r : Result Landing TargetError) → landing_of v x ≡ r → all_or_first k (r ∷ map (landing_of v) cells) ≡ Ok ls → map (look_of v).target (x ∷ cells) ≡ map (λ l. Ok (target_among (leaves_of v) l)) ls
    by rest_of (Ok l) here is = by_rest rest_of l ls here (all_or_first (k + 1) (map (landing_of v) cells)) refl is
    by rest_of (Err e) here is = absurd (let no_such : ⊥ = cc in no_such)

-- a target that there is
abbrev there_is : Target → Result Target TargetError
there_is t = Ok t

sites_targeted : (leaves : List Seen) (ls : List Landing) → map (λ (l : Landing). there_is (target_among leaves l)) ls ≡ map (λ (s : Site). there_is s.target) (map (site_of leaves) ls)
sites_targeted leaves [] = refl
sites_targeted leaves (l ∷ ls) = ap (λ ts. there_is (target_among leaves l) ∷ ts) (sites_targeted leaves ls)

-- where all cells land, the sites are the targets
pub has_sites : (v : View) (ls : List Landing) → all_landings v ≡ Ok ls → AllByRecursion HasGrid (leaves_of v) → IsView v → HasSites v
unfolding targets_of
has_sites v ls is grids valid = record {
  targets = all_targeted v (cells_of (look_of v).dims) 0 ls is ∙ sites_targeted (leaves_of v) ls ∙ ap (map (λ (s : Site). there_is s.target)) (sym (ap (sites_in (leaves_of v)) is));
  grids = grids;
  typed = shown_as v valid;
}

-- the same of the other cells
abbrev Rest : View → List (List ℤ) → ℕ → Type 0
Rest v cells k = (ms : List Landing) → all_or_first k (map (landing_of v) cells) ≡ Ok ms → AllByRecursion (IsLanded (leaves_of v)) ms × (length ms ≡ length cells)

pub all_landed : (v : View) (cells : List (List ℤ)) (k : ℕ) (ls : List Landing) → all_or_first k (map (landing_of v) cells) ≡ Ok ls → AllByRecursion (IsLanded (leaves_of v)) ls × (length ls ≡ length cells)
all_landed v [] k [] is = (tt, refl)
all_landed v [] k (l ∷ ls) is = absurd (let no_such : ⊥ = cc in no_such)
all_landed v (x ∷ cells) k ls is = by (λ ms e. all_landed v cells (k + 1) ms e) (landing_of v x) refl is
  where
    by_rest : Rest v cells (k + 1) → (l : Landing) (ls : List Landing) → landing_of v x ≡ Ok l → (r : Result (List Landing) TargetsError) → all_or_first (k + 1) (map (landing_of v) cells) ≡ r → first_and l r ≡ Ok ls
        → AllByRecursion (IsLanded (leaves_of v)) ls × (length ls ≡ length (x ∷ cells))
    by_rest rest_of l [] here (Ok more) e is = absurd (let no_such : ⊥ = cc in no_such)
    by_rest rest_of l (m ∷ ls) here (Ok more) e is =
        let first : l ≡ m = cc in
        let others : more ≡ ls = cc in
        let rest = rest_of ls (e ∙ ap Ok others) in
        ((subst (IsLanded (leaves_of v)) first (landed v x l here), rest.0), ap suc rest.1)
    by_rest rest_of l ls here (Err f) e is = absurd (let no_such : ⊥ = cc in no_such)

    by : Rest v cells (k + 1) → (r : Result Landing TargetError) → landing_of v x ≡ r → all_or_first k (r ∷ map (landing_of v) cells) ≡ Ok ls → AllByRecursion (IsLanded (leaves_of v)) ls × (length ls ≡ length (x ∷ cells))
    by rest_of (Ok l) here is = by_rest rest_of l ls here (all_or_first (k + 1) (map (landing_of v) cells)) refl is
    by rest_of (Err e) here is = absurd (let no_such : ⊥ = cc in no_such)

pub length-landings : (leaves : List Seen) (cells numbers : List ℕ) → length (told_landings leaves cells numbers) ≡ length cells
length-landings leaves [] numbers = refl
length-landings leaves (leaf ∷ more) numbers = ap suc (length-landings leaves more _)

-- each leaf's number is that of a lane, and tells the casts of its site
pub told_lanes : (lanes : List LaneSeen) (cells numbers : List ℕ) → AreTold lanes cells numbers → AllByRecursion (HasLane lanes) cells
told_lanes lanes [] numbers h = tt
told_lanes lanes (leaf ∷ more) numbers h = (h.0, told_lanes lanes more _ h.2)

pub told_casts : (lanes : List LaneSeen) (cells numbers : List ℕ) → map (λ (s : Site). s.target.casts) (told_sites lanes cells numbers) ≡ map (casts_at lanes) cells
told_casts lanes [] numbers = refl
told_casts lanes (leaf ∷ more) numbers = ap (λ cs. (get_or lanes leaf no_lane).casts ∷ cs) (told_casts lanes more _)

-- what is told of all cells of a view
pub cells_told : (v : View) (cells numbers : List ℕ) (pieces : List Piece) (lanes : List LaneSeen) → AllByRecursion HasGrid (leaves_of v) → AllByRecursion (IsLanded (leaves_of v)) (told_landings (leaves_of v) cells numbers)
    → all_landings v ≡ Ok (told_landings (leaves_of v) cells numbers) → lanes ≡ map lane_of (leaves_of v) → ArePieces (told_sites (map lane_of (leaves_of v)) cells numbers) pieces
    → AreCells (sites_of v) (record { leaves = cells; lanes = lanes; pieces = pieces })
cells_told v cells numbers pieces lanes ranks landed is same are =
    let told = told_landed (leaves_of v) ranks cells numbers landed in
    let sites : sites_of v ≡ told_sites (map lane_of (leaves_of v)) cells numbers = ap (sites_in (leaves_of v)) is ∙ told.1 in
    let made : AreCells (told_sites (map lane_of (leaves_of v)) cells numbers) (record { leaves = cells; lanes = map lane_of (leaves_of v); pieces = pieces }) = record {
      lanes = told_lanes (map lane_of (leaves_of v)) cells numbers told.0;
      casts = told_casts (map lane_of (leaves_of v)) cells numbers;
      pieces = are;
    } in
    subst (λ (p : List Site × List LaneSeen). AreCells p.0 (record { leaves = cells; lanes = p.1; pieces = pieces })) (λ i. (sym sites i, sym same i)) made
