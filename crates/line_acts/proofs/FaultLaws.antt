-- What refuses a line on a view, by the count of its cells and by the first cell without a target.
use Rattle.std.proofs.Common.{◌≡◌, ◌≢◌, ◌∙◌, inr, ℕ, suc, ◌+◌, ◌*◌, ◌<◌, ◌≤◌, ◌==◌, ℤ, Bool, true, false, cond, not, ◌||◌, List, [], ◌∷◌, length, map, Option, Some, None, Result, Ok, Err, refl, sym, ap, arith}
use Rattle.std.specs.Prelude.{nat_le, slice_index_or}
use Rattle.std.specs.List.{AllByRecursion, list_all, list_any, position_from}
use Rattle.std.proofs.lemmas.List.{length-map}
use Rattle.std.proofs.lemmas.Bool.Decides.{nat_tests}
use Rattle.history.specs.Acts.{Asked, without}
use Rattle.history.specs.Answers as body
use Rattle.history.specs.Answers.{Body}
use Rattle.history.specs.Staged.{IsFound}
use Rattle.history.specs.Viewing.{shape_of, first_infinite, first_over, too_many, size_fault, view_fault, target_body, first_fault, cell_fault}
use Rattle.index_intervals.specs.Bounds.{Bounds}
use Rattle.index_intervals.specs.Members.{size_of}
use Rattle.index_transform.specs.Cells.{cells_of, is_finite, counted_from, unless_infinite, count_answer}
use Rattle.index_transform.specs.declared.error.CountError.{CountError}
use Rattle.index_transform.specs.declared.error.CountError.TheVariants as count
use Rattle.index_transform.proofs.Laws.{list_all-position_from}
use Rattle.line_meanings.specs.Bodies.{body_of}
use Rattle.line_acts.specs.Refused.{IsAnswerTo}
use Rattle.stack_driver.specs.Targets.{Target}
use Rattle.stack_driver.specs.Views.{look_of, targets_of}
use Rattle.stack_driver.specs.declared.error.TargetError.{TargetError}
use Rattle.stack_driver.specs.declared.error.TargetError.TheVariants as target
use Rattle.stack_driver.specs.declared.view.View.{View}
use Rattle.stack_targets.specs.Buffers.{fault_at, first_and, all_or_first, all_targets}
use Rattle.stack_targets.specs.declared.error.TargetsError.{TargetsError}
use Rattle.stack_targets.specs.declared.error.TargetsError.TheVariants as targets

-- the first dimension that isn't finite
infinite_at : (k : ℕ) (dims : List Bounds) → first_infinite k dims ≡ position_from (λ dim. not (is_finite dim)) k dims
infinite_at k [] = refl
infinite_at k (d ∷ dims) = by (is_finite d) (infinite_at (k + 1) dims)
  where
    by : (b : Bool) → first_infinite (k + 1) dims ≡ position_from (λ dim. not (is_finite dim)) (k + 1) dims
        → cond b (first_infinite (k + 1) dims) (Some k) ≡ cond (not b) (Some k) (position_from (λ dim. not (is_finite dim)) (k + 1) dims)
    by true rest = rest
    by false rest = refl

-- the fault that a count tells, if it tells one
abbrev pub counted_fault : Result ℕ CountError → Option Body
counted_fault (Ok n) = None
counted_fault (Err (count.Unbounded dim)) = Some (body.unbounded dim)
counted_fault (Err (count.TooMany dim)) = Some (body.too_many dim)

-- the dimension up to which there are too many cells
over_at : (product dim : ℕ) (sizes : List ℕ) → size_fault None (first_over product dim sizes) ≡ counted_fault (counted_from product dim sizes)
over_at product dim [] = refl
over_at product dim (size ∷ sizes) = by (nat_le (product * size) 4194304) (over_at (product * size) (dim + 1) sizes)
  where
    by : (b : Bool) → size_fault None (first_over (product * size) (dim + 1) sizes) ≡ counted_fault (counted_from (product * size) (dim + 1) sizes)
        → size_fault None (cond b (first_over (product * size) (dim + 1) sizes) (Some dim)) ≡ counted_fault (cond b (counted_from (product * size) (dim + 1) sizes) (Err (count.TooMany dim)))
    by true rest = rest
    by false rest = refl

any_mapped : (dims : List Bounds) → list_any (λ size. size == 0) (map size_of dims) ≡ list_any (λ dim. size_of dim == 0) dims
any_mapped [] = refl
any_mapped (d ∷ dims) = by (size_of d == 0) (any_mapped dims)
  where
    by : (b : Bool) → list_any (λ size. size == 0) (map size_of dims) ≡ list_any (λ dim. size_of dim == 0) dims → (b || list_any (λ size. size == 0) (map size_of dims)) ≡ (b || list_any (λ dim. size_of dim == 0) dims)
    by true rest = refl
    by false rest = rest

-- a view is refused as its cells are counted
pub fault_of_count : (v : View) → view_fault v ≡ counted_fault (count_answer (look_of v).dims)
fault_of_count v = ap (λ o. size_fault o (too_many (shape_of v))) (infinite_at 0 dims) ∙ ap (λ b. size_fault first (cond b None (first_over 1 0 (map size_of dims)))) (any_mapped dims) ∙ by first (list_any (λ dim. size_of dim == 0) dims)
  where
    dims : List Bounds
    dims = (look_of v).dims

    first : Option ℕ
    first = position_from (λ dim. not (is_finite dim)) 0 (look_of v).dims

    by : (o : Option ℕ) (b : Bool) → size_fault o (cond b None (first_over 1 0 (map size_of (look_of v).dims))) ≡ counted_fault (unless_infinite o (cond b (Ok 0) (counted_from 1 0 (map size_of (look_of v).dims))))
    by (Some dim) b = ignored dim (cond b None (first_over 1 0 (map size_of (look_of v).dims)))
      where
        ignored : (dim : ℕ) (many : Option ℕ) → size_fault (Some dim) many ≡ Some (body.unbounded dim)
        ignored dim many = refl
    by None true = refl
    by None false = over_at 1 0 (map size_of (look_of v).dims)

-- the first cell without a target, by its place; d is whatever stands past the cells
fault_from : (k : ℕ) (xs : List (List ℤ)) (ts : List (Result Target TargetError)) (d : List ℤ) (e : TargetsError) → length ts ≡ length xs → all_or_first k ts ≡ Err e
    → (n : ℕ) × (n < length xs) × (cause : TargetError) × (e ≡ fault_at (k + n) cause) × (first_fault xs ts ≡ Some (target_body (slice_index_or xs n d) cause))
fault_from k xs [] d e same is = absurd (let no_such : ⊥ = cc in no_such)
fault_from k [] (t ∷ ts) d e same is = absurd (omega (arith, same))
fault_from k (x ∷ xs) (Err cause ∷ ts) d e same is = (0, omega arith, cause, sym (let one : fault_at k cause ≡ e = cc in one) ∙ ap (λ n. fault_at n cause) (omega arith), refl)
fault_from k (x ∷ xs) (Ok t ∷ ts) d e same is =
    let rest = fault_from (k + 1) xs ts d e (omega (arith, same)) (unfirst (all_or_first (k + 1) ts) is) in
    let below = rest.1 in
    (suc rest.0, omega (arith, below), rest.2, rest.3 ∙ ap (λ n. fault_at n rest.2) (omega arith), rest.4)
  where
    unfirst : (r : Result (List Target) TargetsError) → first_and t r ≡ Err e → r ≡ Err e
    unfirst (Ok ts) is = absurd (let no_such : ⊥ = cc in no_such)
    unfirst (Err f) is = let same : f ≡ e = cc in ap Err same

targets-count : (v : View) → length (targets_of v) ≡ length (cells_of (look_of v).dims)
unfolding targets_of
targets-count v = length-map (cells_of (look_of v).dims) (look_of v).target

-- each cell has a target where no cell is at fault
no_fault : (xs : List (List ℤ)) (ts : List (Result Target TargetError)) → AllByRecursion IsFound ts → first_fault xs ts ≡ None
no_fault [] ts found = refl
no_fault (x ∷ xs) [] found = refl
no_fault (x ∷ xs) (Ok t ∷ ts) found = no_fault xs ts found.1
no_fault (x ∷ xs) (Err e ∷ ts) found = absurd found.0

pub found_all : (v : View) → AllByRecursion IsFound (targets_of v) → cell_fault v ≡ None
found_all v found = no_fault (cells_of (look_of v).dims) (targets_of v) found

-- so the index vector at the place of the first cell without a target tells the fault
pub out_of_range_fault : (v : View) (cell dim : ℕ) → all_targets v ≡ Err (targets.OutOfRange cell dim)
    → (cell < length (cells_of (look_of v).dims)) × ((x : List ℤ) → slice_index_or (cells_of (look_of v).dims) cell x ≡ x → cell_fault v ≡ Some (body.out_of_range x dim))
out_of_range_fault v cell dim is = (below (first []), λ x at. told x at (first x))
  where
    First : List ℤ → Type 0
    First d = (n : ℕ) × (n < length (cells_of (look_of v).dims)) × (cause : TargetError) × (targets.OutOfRange cell dim ≡ fault_at (0 + n) cause) × (cell_fault v ≡ Some (target_body (slice_index_or (cells_of (look_of v).dims) n d) cause))

    first : (d : List ℤ) → First d
    first d = fault_from 0 (cells_of (look_of v).dims) (targets_of v) d (targets.OutOfRange cell dim) (targets-count v) is

    below : First [] → cell < length (cells_of (look_of v).dims)
    below (n, low, target.OutOfRange other, e, told) = let same : cell ≡ 0 + n = cc in omega (arith, same, low)
    below (n, low, target.Uncovered, e, told) = absurd (let no_such : ⊥ = cc in no_such)
    below (n, low, target.Memory, e, told) = absurd (let no_such : ⊥ = cc in no_such)

    told : (x : List ℤ) → slice_index_or (cells_of (look_of v).dims) cell x ≡ x → First x → cell_fault v ≡ Some (body.out_of_range x dim)
    told x at (n, low, target.OutOfRange other, e, is_told) =
        let same : cell ≡ 0 + n = cc in
        let place : n ≡ cell = omega (arith, same) in
        let dims : other ≡ dim = cc in
        is_told ∙ ap (λ m. Some (body.out_of_range (slice_index_or (cells_of (look_of v).dims) m x) other)) place ∙ ap (λ y. Some (body.out_of_range y other)) at ∙ ap (λ m. Some (body.out_of_range x m)) dims
    told x at (n, low, target.Uncovered, e, is_told) = absurd (let no_such : ⊥ = cc in no_such)
    told x at (n, low, target.Memory, e, is_told) = absurd (let no_such : ⊥ = cc in no_such)

pub uncovered_fault : (v : View) (cell : ℕ) → all_targets v ≡ Err (targets.Uncovered cell)
    → (cell < length (cells_of (look_of v).dims)) × ((x : List ℤ) → slice_index_or (cells_of (look_of v).dims) cell x ≡ x → cell_fault v ≡ Some (body.uncovered x))
uncovered_fault v cell is = (below (first []), λ x at. told x at (first x))
  where
    First : List ℤ → Type 0
    First d = (n : ℕ) × (n < length (cells_of (look_of v).dims)) × (cause : TargetError) × (targets.Uncovered cell ≡ fault_at (0 + n) cause) × (cell_fault v ≡ Some (target_body (slice_index_or (cells_of (look_of v).dims) n d) cause))

    first : (d : List ℤ) → First d
    first d = fault_from 0 (cells_of (look_of v).dims) (targets_of v) d (targets.Uncovered cell) (targets-count v) is

    below : First [] → cell < length (cells_of (look_of v).dims)
    below (n, low, target.OutOfRange other, e, told) = absurd (let no_such : ⊥ = cc in no_such)
    below (n, low, target.Uncovered, e, told) = let same : cell ≡ 0 + n = cc in omega (arith, same, low)
    below (n, low, target.Memory, e, told) = absurd (let no_such : ⊥ = cc in no_such)

    told : (x : List ℤ) → slice_index_or (cells_of (look_of v).dims) cell x ≡ x → First x → cell_fault v ≡ Some (body.uncovered x)
    told x at (n, low, target.OutOfRange other, e, is_told) = absurd (let no_such : ⊥ = cc in no_such)
    told x at (n, low, target.Uncovered, e, is_told) =
        let same : cell ≡ 0 + n = cc in
        let place : n ≡ cell = omega (arith, same) in
        is_told ∙ ap (λ m. Some (body.uncovered (slice_index_or (cells_of (look_of v).dims) m x))) place ∙ ap (λ y. Some (body.uncovered y)) at
    told x at (n, low, target.Memory, e, is_told) = absurd (let no_such : ⊥ = cc in no_such)

-- an answer that isn't want of memory is what the targets tell
pub told_out_of_range : (v : View) (e : TargetsError) (cell dim : ℕ) → e ≡ targets.OutOfRange cell dim → (e ≢ targets.Memory → all_targets v ≡ Err e) → all_targets v ≡ Err (targets.OutOfRange cell dim)
told_out_of_range v e cell dim same told = told (λ m. let clash = sym same ∙ m in cc) ∙ ap Err same

pub told_uncovered : (v : View) (e : TargetsError) (cell : ℕ) → e ≡ targets.Uncovered cell → (e ≢ targets.Memory → all_targets v ≡ Err e) → all_targets v ≡ Err (targets.Uncovered cell)
told_uncovered v e cell same told = told (λ m. let clash = sym same ∙ m in cc) ∙ ap Err same

-- a view whose cells are counted is finite, and has few
counted_few : (product dim n : ℕ) (sizes : List ℕ) → product ≤ 4194304 → counted_from product dim sizes ≡ Ok n → n ≤ 4194304
counted_few product dim n [] few is = let same : product ≡ n = cc in omega (arith, same, few)
counted_few product dim n (size ∷ sizes) few is = by (nat_le (product * size) 4194304) refl is (λ low e. counted_few (product * size) (dim + 1) n sizes low e)
  where
    by : (b : Bool) → nat_le (product * size) 4194304 ≡ b → cond b (counted_from (product * size) (dim + 1) sizes) (Err (count.TooMany dim)) ≡ Ok n
        → (product * size ≤ 4194304 → counted_from (product * size) (dim + 1) sizes ≡ Ok n → n ≤ 4194304) → n ≤ 4194304
    by true e told rest = rest (grind (arith, nat_tests, e)) told
    by false e told rest = absurd (let no_such : ⊥ = cc in no_such)

pub counted_view : (v : View) (n : ℕ) → count_answer (look_of v).dims ≡ Ok n → (list_all is_finite (look_of v).dims ≡ true) × (n ≤ 4194304)
counted_view v n is = by (position_from (λ dim. not (is_finite dim)) 0 (look_of v).dims) refl is
  where
    few : (b : Bool) → cond b (Ok 0) (counted_from 1 0 (map size_of (look_of v).dims)) ≡ Ok n → n ≤ 4194304
    few true e = let same : 0 ≡ n = cc in omega (arith, same)
    few false e = counted_few 1 0 n (map size_of (look_of v).dims) (omega arith) e

    by : (o : Option ℕ) → position_from (λ dim. not (is_finite dim)) 0 (look_of v).dims ≡ o
        → unless_infinite o (cond (list_any (λ dim. size_of dim == 0) (look_of v).dims) (Ok 0) (counted_from 1 0 (map size_of (look_of v).dims))) ≡ Ok n → (list_all is_finite (look_of v).dims ≡ true) × (n ≤ 4194304)
    by None e told = (list_all-position_from is_finite 0 (look_of v).dims e, few (list_any (λ dim. size_of dim == 0) (look_of v).dims) told)
    by (Some dim) e told = absurd (let no_such : ⊥ = cc in no_such)

-- the answers to what refuses it
pub refused_by_count : (v : View) (e : CountError) (b : Body) → count_answer (look_of v).dims ≡ Err e → counted_fault (Err e) ≡ Some b → (next : Asked) → IsAnswerTo (without (view_fault v) next) (body_of b)
refused_by_count v e b is told next = inr (b, ap (λ f. without f next) (fault_of_count v ∙ ap counted_fault is ∙ told), refl)

pub refused_by_cell : (v : View) (b : Body) → cell_fault v ≡ Some b → (next : Asked) → IsAnswerTo (without (cell_fault v) next) (body_of b)
refused_by_cell v b told next = inr (b, ap (λ f. without f next) told, refl)

-- nothing refuses a view whose cells are counted
pub counted_sound : (v : View) (n : ℕ) → count_answer (look_of v).dims ≡ Ok n → view_fault v ≡ None
counted_sound v n is = fault_of_count v ∙ ap counted_fault is
