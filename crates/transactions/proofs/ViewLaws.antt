-- Views that may be read or written, and their arrays.
use Rattle.std.proofs.Common.{◌≡◌, ◌∙◌, ℕ, ◌+◌, ◌*◌, ◌≤◌, Bool, true, false, cond, not, List, [], ◌∷◌, length, map, Option, Some, None, Ok, Err, refl, sym, ap, arith}
use Rattle.std.specs.Prelude.{nat_le, ◌==◌}
use Rattle.std.specs.FinMap as finmap
use Rattle.std.specs.List.{AllByRecursion, list_all, list_any, position_from}
use Rattle.std.proofs.lemmas.List.{length-map}
use Rattle.std.proofs.lemmas.Bool.Decides.{nat_tests}
use Rattle.history.specs.History.{History}
use Rattle.history.specs.Legal.{IsLegal}
use Rattle.history.specs.Refs.{HasKnownRefs}
use Rattle.index_intervals.specs.Bounds.{Bounds}
use Rattle.index_transform.specs.Cells.{cells_of, is_finite, counted_from, unless_infinite, count_answer}
use Rattle.index_transform.specs.Maps.{size_of}
use Rattle.index_transform.specs.declared.error.CountError.TheVariants.{TooMany}
use Rattle.index_transform.proofs.Laws.{list_all-position_from}
use Rattle.stack_driver.specs.Views.{look_of, target_of, targets_of}
use Rattle.stack_driver.specs.declared.view.View.{View}
use Rattle.stack_targets.specs.Landings.{leaves_of}
use Rattle.chunk_fetches.specs.Outline.{outline}
use Rattle.chunk_fetches.proofs.Laws.{grows_in}
use Rattle.chunk_fetches.specs.Lanes.{AreAlike}
use Rattle.chunk_fetches.specs.Operations.{HasSites, IsLeafIn}
use Rattle.chunk_fetches.specs.Pieces.{AreCells}
use Rattle.chunk_fetches.specs.Sites.{Site, sites_of}
use Rattle.chunk_fetches.specs.declared.ViewCells.{ViewCells}
use Rattle.chunk_fetches.proofs.Laws.{alike_in, leaves_among, count_of}

-- a product that is told is small
counted_small : (product dim n : ℕ) (sizes : List ℕ) → product ≤ 4194304 → counted_from product dim sizes ≡ Ok n → n ≤ 4194304
counted_small product dim n [] small is = let same : product ≡ n = cc in omega (arith, same, small)
counted_small product dim n (size ∷ sizes) small is = told (nat_le (product * size) 4194304) refl is (λ below h. counted_small (product * size) (dim + 1) n sizes below h)
  where
    told : (b : Bool) → nat_le (product * size) 4194304 ≡ b → cond b (counted_from (product * size) (dim + 1) sizes) (Err (TooMany dim)) ≡ Ok n
        → (product * size ≤ 4194304 → counted_from (product * size) (dim + 1) sizes ≡ Ok n → n ≤ 4194304) → n ≤ 4194304
    told true e h rest = rest (grind (arith, nat_tests, e)) h
    told false e h rest = absurd (let no_such : ⊥ = cc in no_such)

-- a view whose cells are counted is finite and has few
pub counted_view : (dims : List Bounds) (n : ℕ) → count_answer dims ≡ Ok n → (list_all is_finite dims ≡ true) × (n ≤ 4194304)
counted_view dims n is = by (position_from (λ dim. not (is_finite dim)) 0 dims) refl is
  where
    few : (b : Bool) → cond b (Ok 0) (counted_from 1 0 (map size_of dims)) ≡ Ok n → n ≤ 4194304
    few true e = let same : 0 ≡ n = cc in omega (arith, same)
    few false e = counted_small 1 0 n (map size_of dims) (omega arith) e

    by : (o : Option ℕ) → position_from (λ dim. not (is_finite dim)) 0 dims ≡ o → unless_infinite o (cond (list_any (λ dim. size_of dim == 0) dims) (Ok 0) (counted_from 1 0 (map size_of dims))) ≡ Ok n
        → (list_all is_finite dims ≡ true) × (n ≤ 4194304)
    by None e h = (list_all-position_from is_finite 0 dims e, few (list_any (λ dim. size_of dim == 0) dims) h)
    by (Some dim) e h = absurd (let no_such : ⊥ = cc in no_such)

-- there are as many leaves of cells as cells
pub leaf_count : (v : View) (cells : ViewCells) → HasSites v → AreCells (sites_of v) cells → length cells.leaves ≡ length (cells_of (look_of v).dims)
unfolding targets_of
leaf_count v cells has are =
    sym (count_of (sites_of v) cells.lanes cells.leaves are.casts) ∙ sym (length-map (sites_of v) (λ (s : Site). Ok s.target)) ∙ sym (ap length has.targets)
    ∙ length-map (cells_of (look_of v).dims) (target_of v)

-- so a view of them has leaves of them, which tell one chunk shape for each
pub leaves_of_known : (events : History) (v : View) → IsLegal finmap.empty (outline events) → HasKnownRefs events v → AllByRecursion (IsLeafIn events) (leaves_of v)
leaves_of_known events v legal refs = leaves_among events v (grows_in events legal) refs

pub alike_known : (events : History) (v : View) → IsLegal finmap.empty (outline events) → HasKnownRefs events v → AreAlike (leaves_of v)
alike_known events v legal refs = alike_in events (leaves_of v) (leaves_of_known events v legal refs)
