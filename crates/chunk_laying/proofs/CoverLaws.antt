-- What is said of places and rows, said of index vectors and of all cells.
use Rattle.std.proofs.Common.{◌≡◌, ℕ, ◌+◌, ◌-◌, ◌*◌, ◌<◌, ◌≤◌, List, length, get_or, nat_lt, cond, Bool, true, false, Option, inl, inr, sym, ap, subst, ◌∙◌, arith}
use Rattle.std.specs.Prelude.{IsSome, IsTrue, ◌↔◌}
use Rattle.std.proofs.Math.Nat.{mul-le-mul_right, add-mul}
use Rattle.std.proofs.lemmas.Bool.Decides.{nat_tests}
use Rattle.cells.specs.Places.{cell_count, c_place, c_index}
use Rattle.cells.proofs.Laws.{IsInside-c_index, c_place-c_index, c_place-lt, less_or_not}
use Rattle.rebase_writes.specs.Staged.{staged_at}
use Rattle.chunk_laying.specs.Laid.{IsCovered}
use Rattle.chunk_laying.specs.Rows.{is_place_inside}
use Rattle.chunk_laying.proofs.RowLaws.{inside-place}

-- each place that is inside has a staged word
abbrev pub ArePlacesCovered : List ℕ → List ℕ → List ℕ → List (Option ℕ) → Type 0
ArePlacesCovered ns ss cs staged = (p : ℕ) → p < cell_count ns → is_place_inside ns ss cs p ≡ true → IsSome (staged_at staged p)

pub covered-places : (ns ss cs : List ℕ) (staged : List (Option ℕ)) → length ss ≡ length ns → length cs ≡ length ns → IsCovered ss ns cs staged → ArePlacesCovered ns ss cs staged
covered-places ns ss cs staged e f covered p lt test =
    let same = c_place-c_index ns p lt in
    let inside = IsInside-c_index ns p lt in
    subst (λ q. IsSome (staged_at staged q)) same (covered (c_index ns p) inside (inside-place ns ss cs (c_index ns p) e f inside ∙ ap (is_place_inside ns ss cs) same ∙ test))

pub places-covered : (ns ss cs : List ℕ) (staged : List (Option ℕ)) → length ss ≡ length ns → length cs ≡ length ns → ArePlacesCovered ns ss cs staged → IsCovered ss ns cs staged
places-covered ns ss cs staged e f covered index inside test = covered (c_place ns index) (c_place-lt ns index inside) (sym (inside-place ns ss cs index e f inside) ∙ test)

-- a row is within the whole
pub row-fits : (row count len cells : ℕ) → row < count → count * len ≡ cells → row * len + len ≤ cells
row-fits row count len cells lt all =
    let grown : (row + 1) * len ≤ count * len = mul-le-mul_right len (omega arith) in
    let same : (row + 1) * len ≡ row * len + 1 * len = add-mul row 1 len in
    omega arith

pub to_less : (a b : ℕ) → a < b → nat_lt a b ≡ true
to_less a b h = grind (arith, nat_tests, h)

pub to_not_less : (a b : ℕ) → b ≤ a → nat_lt a b ≡ false
to_not_less a b h = grind (arith, nat_tests, h)

less : (a b : ℕ) → nat_lt a b ≡ true → a < b
less a b h = grind (arith, nat_tests, h)

-- the test of a place in a row
pub in_row : (test : ℕ → Bool) (row len inside p : ℕ) → ((i : ℕ) → i < len → test (row * len + i) ≡ nat_lt i inside) → row * len ≤ p → p < row * len + len → test p ≡ nat_lt (p - row * len) inside
in_row test row len inside p is low high =
    let split : p ≡ row * len + (p - row * len) = omega arith in
    ap test split ∙ is (p - row * len) (omega arith)

-- one row more of staged words
pub covered-more : (test : ℕ → Bool) (staged : List (Option ℕ)) (row len inside : ℕ) → inside ≤ len → ((i : ℕ) → i < len → test (row * len + i) ≡ nat_lt i inside)
    → ((p : ℕ) → p < row * len → test p ≡ true → IsSome (staged_at staged p))
    → ((p : ℕ) → row * len ≤ p → p < row * len + inside → IsSome (staged_at staged p))
    → (p : ℕ) → p < (row + 1) * len → test p ≡ true → IsSome (staged_at staged p)
covered-more test staged row len inside most is so_far run p lt tested =
    let grown : (row + 1) * len ≡ row * len + 1 * len = add-mul row 1 len in
    elim (less_or_not p (row * len)) [
      | inl before ↦ so_far p before tested
      | inr from ↦ (let low = less (p - row * len) inside (sym (in_row test row len inside p is from (omega arith)) ∙ tested) in run p from (omega arith))
    ]

-- a row that isn't covered
pub run-covered : (ns ss cs : List ℕ) (staged : List (Option ℕ)) (row len inside : ℕ) → inside ≤ len → row * len + len ≤ cell_count ns → ((i : ℕ) → i < len → is_place_inside ns ss cs (row * len + i) ≡ nat_lt i inside)
    → ArePlacesCovered ns ss cs staged → (p : ℕ) → row * len ≤ p → p < row * len + inside → IsSome (staged_at staged p)
run-covered ns ss cs staged row len inside most fits is covered p low high =
    covered p (omega arith) (in_row (is_place_inside ns ss cs) row len inside p is low (omega arith) ∙ to_less (p - row * len) inside (omega arith))

-- one row more that has the fill past the shape
pub filled-more : (test : ℕ → Bool) (first before after : List ℕ) (row len inside fill : ℕ) → inside ≤ len → ((i : ℕ) → i < len → test (row * len + i) ≡ nat_lt i inside)
    → ((p : ℕ) → p < row * len → get_or before p 0 ≡ cond (test p) (get_or first p 0) fill)
    → ((p : ℕ) → row * len ≤ p → get_or before p 0 ≡ get_or first p 0)
    → ((p : ℕ) → row * len + inside ≤ p → p < row * len + len → get_or after p 0 ≡ fill)
    → ((p : ℕ) → p < row * len + inside → get_or after p 0 ≡ get_or before p 0)
    → (p : ℕ) → p < (row + 1) * len → get_or after p 0 ≡ cond (test p) (get_or first p 0) fill
filled-more test first before after row len inside fill most is done left filled kept p lt =
    let grown : (row + 1) * len ≡ row * len + 1 * len = add-mul row 1 len in
    elim (less_or_not p (row * len)) [
      | inl early ↦ kept p (omega arith) ∙ done p early
      | inr from ↦
          let tested = in_row test row len inside p is from (omega arith) in
          elim (less_or_not p (row * len + inside)) [
            | inl within ↦ kept p within ∙ left p from ∙ sym (ap (λ b. cond b (get_or first p 0) fill) (tested ∙ to_less (p - row * len) inside (omega arith)))
            | inr past ↦ filled p past (omega arith) ∙ sym (ap (λ b. cond b (get_or first p 0) fill) (tested ∙ to_not_less (p - row * len) inside (omega arith)))
          ]
    ]

-- the rows that are done are all
pub row-past : (row count len cells p : ℕ) → count ≤ row → count * len ≡ cells → p < cells → p < row * len
row-past row count len cells p le all lt = let wide : count * len ≤ row * len = mul-le-mul_right len le in omega arith

-- a test that fails shows that what it tests doesn't hold, nor what would give that
pub not_both_ways : (b : Bool) (P Q : Type 0) → IsTrue b ↔ P → b ≡ false → (Q → P) → (IsTrue false → Q) × (Q → IsTrue false)
not_both_ways true P Q tells fails gives = absurd (let no_such : ⊥ = cc in no_such)
not_both_ways false P Q tells fails gives = (λ holds. absurd (let no_such : ⊥ = cc in no_such), λ q. tells.1 (gives q))
