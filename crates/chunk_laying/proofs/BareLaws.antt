-- What is said of staged words past the shape, by places and rows.
use Rattle.std.proofs.Common.{None, ◌≡◌, ℕ, ◌+◌, ◌-◌, ◌*◌, ◌<◌, ◌≤◌, List, length, get_or, nat_lt, cond, Bool, true, false, Option, inl, inr, sym, ap, subst, ◌∙◌, arith}
use Rattle.std.specs.Prelude.{IsSome, IsTrue, ◌↔◌}
use Rattle.std.proofs.Math.Nat.{mul-le-mul_right, add-mul}
use Rattle.std.proofs.lemmas.Bool.Decides.{nat_tests}
use Rattle.cells.specs.Places.{cell_count, c_place, c_index}
use Rattle.cells.proofs.Laws.{IsInside-c_index, c_place-c_index, c_place-lt, less_or_not}
use Rattle.rebase_writes.specs.Staged.{staged_at}
use Rattle.chunk_laying.specs.Laid.{IsCovered}
use Rattle.chunk_laying.specs.Rows.{is_place_inside}
use Rattle.chunk_laying.proofs.RowLaws.{inside-place}
use Rattle.chunk_laying.specs.Laid.{IsStagedWithin}
use Rattle.chunk_laying.proofs.CoverLaws.{to_less, to_not_less, in_row}

-- no place past the shape has a staged word
abbrev pub ArePlacesBare : List ℕ → List ℕ → List ℕ → List (Option ℕ) → Type 0
ArePlacesBare ns ss cs staged = (p : ℕ) → p < cell_count ns → is_place_inside ns ss cs p ≡ false → staged_at staged p ≡ None

pub bare-places : (ns ss cs : List ℕ) (staged : List (Option ℕ)) → length ss ≡ length ns → length cs ≡ length ns → IsStagedWithin ss ns cs staged → ArePlacesBare ns ss cs staged
bare-places ns ss cs staged e f within p lt test =
    let same = c_place-c_index ns p lt in
    let inside = IsInside-c_index ns p lt in
    subst (λ q. staged_at staged q ≡ None) same (within (c_index ns p) inside (inside-place ns ss cs (c_index ns p) e f inside ∙ ap (is_place_inside ns ss cs) same ∙ test))

pub places-bare : (ns ss cs : List ℕ) (staged : List (Option ℕ)) → length ss ≡ length ns → length cs ≡ length ns → ArePlacesBare ns ss cs staged → IsStagedWithin ss ns cs staged
places-bare ns ss cs staged e f bare index inside test = bare (c_place ns index) (c_place-lt ns index inside) (sym (inside-place ns ss cs index e f inside) ∙ test)

not_less_than : (a b : ℕ) → nat_lt a b ≡ false → b ≤ a
not_less_than a b h = grind (arith, nat_tests, h)

-- one row more without staged words past the shape
pub bare-more : (test : ℕ → Bool) (staged : List (Option ℕ)) (row len inside : ℕ) → ((i : ℕ) → i < len → test (row * len + i) ≡ nat_lt i inside)
    → ((p : ℕ) → p < row * len → test p ≡ false → staged_at staged p ≡ None)
    → ((p : ℕ) → row * len + inside ≤ p → p < row * len + len → staged_at staged p ≡ None)
    → (p : ℕ) → p < (row + 1) * len → test p ≡ false → staged_at staged p ≡ None
bare-more test staged row len inside is so_far run p lt tested =
    let grown : (row + 1) * len ≡ row * len + 1 * len = add-mul row 1 len in
    elim (less_or_not p (row * len)) [
      | inl before ↦ so_far p before tested
      | inr from ↦ (let high = not_less_than (p - row * len) inside (sym (in_row test row len inside p is from (omega arith)) ∙ tested) in run p (omega arith) (omega arith))
    ]

-- a row with a staged word past the shape
pub run-bare : (ns ss cs : List ℕ) (staged : List (Option ℕ)) (row len inside : ℕ) → row * len + len ≤ cell_count ns → ((i : ℕ) → i < len → is_place_inside ns ss cs (row * len + i) ≡ nat_lt i inside)
    → ArePlacesBare ns ss cs staged → (p : ℕ) → row * len + inside ≤ p → p < row * len + len → staged_at staged p ≡ None
run-bare ns ss cs staged row len inside fits is bare p low high =
    bare p (omega arith) (in_row (is_place_inside ns ss cs) row len inside p is (omega arith) high ∙ to_not_less (p - row * len) inside (omega arith))
