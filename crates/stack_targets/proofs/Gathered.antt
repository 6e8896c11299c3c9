-- Landings one after another, and what buffers tell of them.
use Rattle.std.proofs.Common.{◌≡◌, ◌≤◌, ◌≤ℤ◌, ◌∙◌, ℕ, ◌+◌, ℤ, true, ◌&&◌, List, [], ◌∷◌, ◌++◌, length, map, take, drop, Result, Ok, Err, refl, sym, ap, subst, arith, length-append, append_assoc, append-nil}
use Rattle.std.specs.List.{list_all, AllByRecursion}
use Rattle.std.specs.Prelude.{int_le, int_lt}
use Rattle.std.proofs.lemmas.Int.{ints}
use Rattle.std.proofs.lemmas.List.{take_all, take-append-le, drop-append-le, length-drop}
use Rattle.cells.proofs.Laws.{both}
use Rattle.index_intervals.specs.Bounds.{Bounds, is_index, is_ordered, are_bounds, minus_infinity, plus_infinity}
use Rattle.index_transform.specs.Cells.{cells_of, is_finite}
use Rattle.index_transform.specs.Walks.{IsCell}
use Rattle.index_transform.proofs.Laws.{AreCells, AreCells-cells_of}
use Rattle.stack_driver.specs.Targets.{Target, is_member, has_index}
use Rattle.stack_driver.specs.Views.{look_of, targets_of}
use Rattle.stack_driver.specs.declared.error.TargetError.{TargetError}
use Rattle.stack_driver.specs.declared.view.View.{View}
use Rattle.stack_targets.specs.Buffers.{all_or_first, first_and, fault_at, all_landings, all_targets, rank_of, told_landings, told_targets}
use Rattle.stack_targets.specs.Landings.{Seen, Landing, leaves_of, landing_of, target_among}
use Rattle.stack_targets.specs.declared.error.TargetsError.{TargetsError}
use Rattle.stack_targets.proofs.Meeting.{Meets, agrees}

-- values that are known before the others, or their fault
abbrev pub after_all : {X : Type 0} → List X → Result (List X) TargetsError → Result (List X) TargetsError
after_all xs (Ok ys) = Ok (xs ++ ys)
after_all xs (Err e) = Err e

after-none : {X : Type 0} (r : Result (List X) TargetsError) → r ≡ after_all [] r
after-none (Ok xs) = refl
after-none (Err e) = refl

after-first : {X : Type 0} (xs : List X) (x : X) (r : Result (List X) TargetsError) → after_all xs (first_and x r) ≡ after_all (xs ++ x ∷ []) r
after-first xs x (Ok ys) = ap Ok (sym (append_assoc xs (x ∷ []) ys))
after-first xs x (Err e) = refl

-- as many numbers as the leaves' index vectors have
abbrev pub ranks_of : List Seen → List ℕ → ℕ
ranks_of leaves [] = 0
ranks_of leaves (leaf ∷ more) = rank_of leaves leaf + ranks_of leaves more

pub ranks-append : (leaves : List Seen) (ls : List ℕ) (leaf : ℕ) → ranks_of leaves (ls ++ leaf ∷ []) ≡ ranks_of leaves ls + rank_of leaves leaf
ranks-append leaves [] leaf = omega arith
ranks-append leaves (l ∷ ls) leaf = let rest = ranks-append leaves ls leaf in omega (arith, rest)

none : (numbers : List ℕ) → length numbers ≡ 0 → numbers ≡ []
none [] e = refl
none (n ∷ ns) e = absurd (omega (arith, e))

-- one cell more
pub told-append : (leaves : List Seen) (ls : List ℕ) (leaf : ℕ) (numbers index : List ℕ) → length numbers ≡ ranks_of leaves ls → length index ≡ rank_of leaves leaf
    → told_landings leaves (ls ++ leaf ∷ []) (numbers ++ index) ≡ told_landings leaves ls numbers ++ record { leaf = leaf; index = index } ∷ []
told-append leaves [] leaf numbers index fits rank =
    let here : numbers ++ index ≡ index = ap (λ ns. ns ++ index) (none numbers fits) in
    ap (λ ns. record { leaf = leaf; index = ns } ∷ []) (ap (take (rank_of leaves leaf)) here ∙ take_all (rank_of leaves leaf) index (omega (arith, rank)))
told-append leaves (l ∷ ls) leaf numbers index fits rank =
    let n = rank_of leaves l in
    let small : n ≤ length numbers = omega (arith, fits) in
    let rest : length (drop n numbers) ≡ ranks_of leaves ls = (let dropped = length-drop n numbers in omega (arith, fits, dropped)) in
    (λ i. record { leaf = l; index = take-append-le n numbers index small i } ∷ told_landings leaves (ls ++ leaf ∷ []) (drop-append-le n numbers index small i))
    ∙ ap (λ more. record { leaf = l; index = take n numbers } ∷ more) (told-append leaves ls leaf (drop n numbers) index rest rank)

-- all cells so far have landed, and the others are still to come
pub record IsGathered (v : View) (cells : List (List ℤ)) (ls numbers : List ℕ) : Type 0 where
  pub all : all_landings v ≡ after_all (told_landings (leaves_of v) ls numbers) (all_or_first (length ls) (map (landing_of v) cells))
  pub fits : length numbers ≡ ranks_of (leaves_of v) ls
  pub inside : AllByRecursion (λ x. has_index (look_of v).dims x ≡ true) cells

pub gathered_none : (v : View) (cells : List (List ℤ)) (ls numbers : List ℕ) → cells ≡ cells_of (look_of v).dims → ls ≡ [] → numbers ≡ [] → list_all is_finite (look_of v).dims ≡ true → list_all is_ordered (look_of v).dims ≡ true → IsGathered v cells ls numbers
gathered_none v cells ls numbers is no_leaves no_numbers finite ordered =
    subst (λ cs. IsGathered v cs ls numbers) (sym is)
    (subst (λ (l : List ℕ). IsGathered v (cells_of (look_of v).dims) l numbers) (sym no_leaves)
    (subst (λ (n : List ℕ). IsGathered v (cells_of (look_of v).dims) [] n) (sym no_numbers)
    (record { all = after-none (all_landings v); fits = refl; inside = all_inside (look_of v).dims (cells_of (look_of v).dims) finite (AreCells-cells_of (look_of v).dims ordered) })))
  where
    member : (d : Bounds) (x : ℤ) → is_finite d ≡ true → d.lo ≤ℤ x → x ≤ℤ d.hi → is_member d x ≡ true
    member d x f l h = let p = both (is_index d.lo) (is_index d.hi) f in grind (arith, ints, p.0, p.1, l, h)

    cell_inside : (dims : List Bounds) (x : List ℤ) → list_all is_finite dims ≡ true → IsCell dims x → has_index dims x ≡ true
    cell_inside [] [] f c = refl
    cell_inside [] (x ∷ xs) f c = absurd c
    cell_inside (d ∷ ds) [] f c = absurd c
    cell_inside (d ∷ ds) (x ∷ xs) f c = let p = both (is_finite d) (list_all is_finite ds) f in (λ i. member d x p.0 c.0 c.1 i && cell_inside ds xs p.1 c.2 i)

    all_inside : (dims : List Bounds) (xs : List (List ℤ)) → list_all is_finite dims ≡ true → AreCells dims xs → AllByRecursion (λ x. has_index dims x ≡ true) xs
    all_inside dims [] f a = tt
    all_inside dims (x ∷ xs) f a = (cell_inside dims x f a.0, all_inside dims xs f a.1)

-- one cell more has landed
pub gathered_more : (v : View) (x : List ℤ) (cells now : List (List ℤ)) (ls numbers numbers_now index : List ℕ) (leaf : ℕ) → cells ≡ x ∷ now → landing_of v x ≡ Ok (record { leaf = leaf; index = index }) → numbers_now ≡ numbers ++ index
    → IsGathered v cells ls numbers → IsGathered v now (ls ++ leaf ∷ []) numbers_now
gathered_more v x cells now ls numbers numbers_now index leaf is landed put g =
    let leaves = leaves_of v in
    let l : Landing = record { leaf = leaf; index = index } in
    let rank : length index ≡ rank_of leaves leaf = (subst (Meets leaves ((look_of v).target x)) landed ((agrees v).meets x)).2 in
    let count : length (ls ++ leaf ∷ []) ≡ length ls + 1 = length-append ls (leaf ∷ []) in
    let told = told-append leaves ls leaf numbers index g.fits rank in
    let one : IsGathered v now (ls ++ leaf ∷ []) (numbers ++ index) = record {
      all = g.all ∙ ap (λ cs. after_all (told_landings leaves ls numbers) (all_or_first (length ls) (map (landing_of v) cs))) is
          ∙ ap (λ r. after_all (told_landings leaves ls numbers) (all_or_first (length ls) (r ∷ map (landing_of v) now))) landed
          ∙ after-first (told_landings leaves ls numbers) l (all_or_first (length ls + 1) (map (landing_of v) now))
          ∙ sym (λ i. after_all (told i) (all_or_first (count i) (map (landing_of v) now)));
      fits = let n = length-append numbers index in let m = ranks-append leaves ls leaf in omega (arith, n, m, g.fits, rank);
      inside = (subst (AllByRecursion (λ y. has_index (look_of v).dims y ≡ true)) is g.inside).1;
    } in
    subst (λ (n : List ℕ). IsGathered v now (ls ++ leaf ∷ []) n) (sym put) one

-- the first cell that can't land
pub gathered_fault : (v : View) (x : List ℤ) (cells now : List (List ℤ)) (ls numbers : List ℕ) (e : TargetError) → cells ≡ x ∷ now → landing_of v x ≡ Err e → IsGathered v cells ls numbers → all_landings v ≡ Err (fault_at (length ls) e)
gathered_fault v x cells now ls numbers e is fault g =
    g.all ∙ ap (λ cs. after_all (told_landings (leaves_of v) ls numbers) (all_or_first (length ls) (map (landing_of v) cs))) is
    ∙ ap (λ r. after_all (told_landings (leaves_of v) ls numbers) (all_or_first (length ls) (r ∷ map (landing_of v) now))) fault

-- all cells have landed
pub gathered_all : (v : View) (cells : List (List ℤ)) (ls numbers : List ℕ) → cells ≡ [] → IsGathered v cells ls numbers → all_landings v ≡ Ok (told_landings (leaves_of v) ls numbers)
gathered_all v cells ls numbers is g =
    g.all ∙ ap (λ cs. after_all (told_landings (leaves_of v) ls numbers) (all_or_first (length ls) (map (landing_of v) cs))) is ∙ ap Ok (append-nil (told_landings (leaves_of v) ls numbers))

-- the targets of landings
abbrev mapped : List Seen → Result (List Landing) TargetsError → Result (List Target) TargetsError
mapped leaves (Ok ls) = Ok (map (target_among leaves) ls)
mapped leaves (Err e) = Err e

mapped-first : (leaves : List Seen) (l : Landing) (r : Result (List Landing) TargetsError) → first_and (target_among leaves l) (mapped leaves r) ≡ mapped leaves (first_and l r)
mapped-first leaves l (Ok ls) = refl
mapped-first leaves l (Err e) = refl

one_target : (leaves : List Seen) (k : ℕ) (t : Result Target TargetError) (r : Result Landing TargetError) (ts : List (Result Target TargetError)) (rs : List (Result Landing TargetError)) → Meets leaves t r
    → all_or_first (k + 1) ts ≡ mapped leaves (all_or_first (k + 1) rs) → all_or_first k (t ∷ ts) ≡ mapped leaves (all_or_first k (r ∷ rs))
one_target leaves k t (Ok l) ts rs m rest = ap (λ s. all_or_first k (s ∷ ts)) m.1 ∙ ap (first_and (target_among leaves l)) rest ∙ mapped-first leaves l (all_or_first (k + 1) rs)
one_target leaves k t (Err e) ts rs m rest = ap (λ s. all_or_first k (s ∷ ts)) m

all_mapped : (v : View) (k : ℕ) (cells : List (List ℤ)) → all_or_first k (map (look_of v).target cells) ≡ mapped (leaves_of v) (all_or_first k (map (landing_of v) cells))
all_mapped v k [] = refl
all_mapped v k (x ∷ xs) = one_target (leaves_of v) k ((look_of v).target x) (landing_of v x) (map (look_of v).target xs) (map (landing_of v) xs) ((agrees v).meets x) (all_mapped v (k + 1) xs)

-- the targets of all cells are those of the leaves in which they land
targets_mapped : (v : View) → all_targets v ≡ mapped (leaves_of v) (all_landings v)
unfolding targets_of
targets_mapped v = all_mapped v 0 (cells_of (look_of v).dims)

pub targets_told : (v : View) (ls numbers : List ℕ) → all_landings v ≡ Ok (told_landings (leaves_of v) ls numbers) → all_targets v ≡ Ok (told_targets (leaves_of v) ls numbers)
targets_told v ls numbers is = targets_mapped v ∙ ap (mapped (leaves_of v)) is

pub targets_fault : (v : View) (e : TargetsError) → all_landings v ≡ Err e → all_targets v ≡ Err e
targets_fault v e is = targets_mapped v ∙ ap (mapped (leaves_of v)) is

-- bounds are in order
pub ordered : (dims : List Bounds) → list_all are_bounds dims ≡ true → list_all is_ordered dims ≡ true
ordered [] h = refl
ordered (d ∷ ds) h =
    let p = both (are_bounds d) (list_all are_bounds ds) h in
    let here = both (int_le minus_infinity d.lo && int_lt d.lo plus_infinity && int_lt minus_infinity d.hi && int_le d.hi plus_infinity) (is_ordered d) p.0 in
    (λ i. here.1 i && ordered ds p.1 i)
