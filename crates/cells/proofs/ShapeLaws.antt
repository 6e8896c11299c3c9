-- The tests of shapes hold exactly where the rules do.
use Rattle.std.proofs.Common.{◌≡◌, ℕ, ◌-◌, ◌<◌, ◌^◌, List, [], ◌∷◌, length, get_or, true, false, refl, sym, arith}
use Rattle.std.specs.Prelude.{◌&&◌, nat_le, nat_lt, IsTrue}
use Rattle.std.specs.List.{list_all}
use Rattle.std.proofs.lemmas.Bool.{leb-true, le-leb}
use Rattle.std.proofs.lemmas.Bool.Decides.{nat_tests}
use Rattle.cells.specs.Places.{cell_count, IsInside}
use Rattle.cells.proofs.TestLaws.{both, both_true, list_all-at, list_all-from}
use Rattle.cells.specs.Shapes.{IsShape, IsChunkShape, is_shape, is_chunk_shape, is_inside}

-- sizes that pass the test are an array's
pub IsShape-from_test : (shape : List ℕ) → is_shape shape ≡ true → IsShape shape
IsShape-from_test shape is =
    let parts = both (nat_le (length shape) 32) (list_all (λ n. nat_le n (2 ^ 62 - 2)) shape) is in
    record {
      rank = leb-true (length shape) 32 parts.0;
      sizes = λ k less. leb-true (get_or shape k 0) (2 ^ 62 - 2) (list_all-at (λ n. nat_le n (2 ^ 62 - 2)) shape 0 parts.1 k less);
    }

-- an array's sizes pass the test
pub test-IsShape : (shape : List ℕ) → IsShape shape → is_shape shape ≡ true
test-IsShape shape rules =
    both_true (nat_le (length shape) 32) (list_all (λ n. nat_le n (2 ^ 62 - 2)) shape) (le-leb (length shape) 32 rules.rank)
    (list_all-from (λ n. nat_le n (2 ^ 62 - 2)) shape 0 (λ k less. le-leb (get_or shape k 0) (2 ^ 62 - 2) (rules.sizes k less)))

-- sizes that pass the test are a chunk's
pub IsChunkShape-from_test : (chunks : List ℕ) → is_chunk_shape chunks ≡ true → IsChunkShape chunks
IsChunkShape-from_test ns is =
    let all = both (list_all (λ n. nat_le 1 n) ns) (list_all (λ n. nat_le n (2 ^ 24)) ns && nat_le (cell_count ns) (2 ^ 24)) is in
    let rest = both (list_all (λ n. nat_le n (2 ^ 24)) ns) (nat_le (cell_count ns) (2 ^ 24)) all.1 in
    record {
      least = λ k less. leb-true 1 (get_or ns k 0) (list_all-at (λ n. nat_le 1 n) ns 0 all.0 k less);
      greatest = λ k less. leb-true (get_or ns k 0) (2 ^ 24) (list_all-at (λ n. nat_le n (2 ^ 24)) ns 0 rest.0 k less);
      volume = leb-true (cell_count ns) (2 ^ 24) rest.1;
    }

-- a chunk's sizes pass the test
pub test-IsChunkShape : (chunks : List ℕ) → IsChunkShape chunks → is_chunk_shape chunks ≡ true
test-IsChunkShape ns rules =
    both_true (list_all (λ n. nat_le 1 n) ns) (list_all (λ n. nat_le n (2 ^ 24)) ns && nat_le (cell_count ns) (2 ^ 24))
    (list_all-from (λ n. nat_le 1 n) ns 0 (λ k less. le-leb 1 (get_or ns k 0) (rules.least k less)))
    (both_true (list_all (λ n. nat_le n (2 ^ 24)) ns) (nat_le (cell_count ns) (2 ^ 24))
    (list_all-from (λ n. nat_le n (2 ^ 24)) ns 0 (λ k less. le-leb (get_or ns k 0) (2 ^ 24) (rules.greatest k less))) (le-leb (cell_count ns) (2 ^ 24) rules.volume))

-- an index vector inside passes the test
pub test-IsInside : (shape index : List ℕ) → IsInside shape index → is_inside shape index ≡ true
test-IsInside [] [] inside = refl
test-IsInside [] (i ∷ index) inside = absurd inside
test-IsInside (size ∷ shape) [] inside = absurd inside
test-IsInside (size ∷ shape) (i ∷ index) inside =
    let less : i < size = inside.0 in
    let first : nat_lt i size ≡ true = grind (arith, nat_tests) in
    both_true (nat_lt i size) (is_inside shape index) first (test-IsInside shape index inside.1)

-- an index vector that passes the test is inside
pub IsInside-from_test : (shape index : List ℕ) → is_inside shape index ≡ true → IsInside shape index
IsInside-from_test [] [] is = tt
IsInside-from_test [] (i ∷ index) is = absurd (let no_such : ⊥ = cc in no_such)
IsInside-from_test (size ∷ shape) [] is = absurd (let no_such : ⊥ = cc in no_such)
IsInside-from_test (size ∷ shape) (i ∷ index) is =
    let parts = both (nat_lt i size) (is_inside shape index) is in
    let less : i < size = (let first : nat_lt i size ≡ true = parts.0 in grind (arith, nat_tests)) in
    (less, IsInside-from_test shape index parts.1)

-- the test is true exactly of index vectors inside
pub inside_tested : (shape index : List ℕ) → IsInside shape index → (true ≡ is_inside shape index) × ((IsTrue true → IsInside shape index) × (IsInside shape index → IsTrue true))
inside_tested shape index inside = (sym (test-IsInside shape index inside), (λ _. inside, λ _. refl))

pub outside_tested : (shape index : List ℕ) → ¬ IsInside shape index → (false ≡ is_inside shape index) × ((IsTrue false → IsInside shape index) × (IsInside shape index → IsTrue false))
outside_tested shape index outside = (
  elim (is_inside shape index) as (λ b. is_inside shape index ≡ b → false ≡ b) [
    | true ↦ λ t. absurd (outside (IsInside-from_test shape index t))
    | false ↦ λ t. refl
  ] refl,
  (λ no_such. absurd (let none : ⊥ = cc in none), λ inside. absurd (outside inside)),
)
