-- Laws of marks, a bit for each place.
use Rattle.std.proofs.Common.{◌≡◌, ◌≢◌, ◌⊎◌, inl, inr, ℕ, zero, suc, ◌+◌, ◌-◌, ◌*◌, ◌/◌, ◌%◌, ◌<◌, ◌≤◌, ◌^◌, ◌↔◌, Bool, true, false, List, length, map, get_or, set, replicate, Option, Some, None, refl, sym, ◌∙◌, ap, arith, get_or-set_same, get_or-set_other, eqb-true, eq-eqb, eq-or-lt_of_le, w64}
use Rattle.std.proofs.lemmas.Bool.Decides.{nat_tests}
use Rattle.std.proofs.lemmas.Nat.{pow_below}
use Rattle.std.proofs.lemmas.Grind.{pow_more}
use Rattle.std.proofs.lemmas.List.{length-set, ext_get_or, get_or-replicate, length-replicate, get_or_default}
use Rattle.std.proofs.lemmas.List.FromFn.{length-map-range_with_len, get_or-map-range_with_len}
use Rattle.std.proofs.lemmas.Nat.Bits.{bit_at-lt, bit_at-zero, bit_at_ones, bit_at_or, bit_at_mask_inside, bit_at_mask_below, bit_at_mask_above, same_from_bits_below, bit_at_set_same, bit_at_set_other}
use Rattle.std.specs.Int.{bit_at}
use Rattle.std.specs.List.{range_with_len}
use Rattle.std.specs.Prelude.{nat_eq, bit_or, max, if◌then◌else◌}
use Rattle.cells.proofs.Laws.{equal_or_not, less_or_not}
use Rattle.rebase_writes.specs.Marks.{is_marked, marks_of}
use Rattle.rebase_writes.specs.Staged.{staged_cells, staged_at}
use Rattle.rebase_writes.proofs.StagedLaws.{staged_at-mask, staged_cells-set, staged_cells-none}

-- a mark by the bit
pub mark_is : (marks : List ℕ) (place : ℕ) → is_marked marks place ≡ nat_eq (bit_at (get_or marks (place / 64) 0) (place % 64)) 1
unfolding is_marked
mark_is marks place = refl

-- the bit of a place that is marked, and of one that isn't
pub bit_of_mark : (marks : List ℕ) (place : ℕ) → is_marked marks place ≡ true → bit_at (get_or marks (place / 64) 0) (place % 64) ≡ 1
unfolding is_marked
bit_of_mark marks place is = eqb-true (bit_at (get_or marks (place / 64) 0) (place % 64)) 1 is

pub bit_of_none : (marks : List ℕ) (place : ℕ) → is_marked marks place ≡ false → bit_at (get_or marks (place / 64) 0) (place % 64) ≡ 0
bit_of_none marks place is =
    let few = bit_at-lt (get_or marks (place / 64) 0) (place % 64) in
    not_one _ few (sym (mark_is marks place) ∙ is)
  where
    not_one : (bit : ℕ) → bit < 2 → nat_eq bit 1 ≡ false → bit ≡ 0
    not_one bit few is = grind (arith, nat_tests, few, is)

-- a place by its word and its bit
pub in_word : (at k : ℕ) → k < 64 → ((64 * at + k) / 64 ≡ at) × ((64 * at + k) % 64 ≡ k)
in_word at k less = (omega (arith, less), omega (arith, less))

-- a word of marks is all ones where each place of it is marked
pub full_word : (marks : List ℕ) (at : ℕ) → get_or marks at 0 < 2 ^ 64 → (get_or marks at 0 ≡ 2 ^ 64 - 1) ↔ ((k : ℕ) → k < 64 → is_marked marks (64 * at + k) ≡ true)
full_word marks at small = (
  λ ones k less.
      let is = in_word at k less in
      mark_is marks (64 * at + k) ∙ (λ i. nat_eq (bit_at (get_or marks (is.0 i) 0) (is.1 i)) 1) ∙ ap (λ w. nat_eq (bit_at w k) 1) ones ∙ ap (λ b. nat_eq b 1) (bit_at_ones 64 k less),
  λ all.
      same_from_bits_below 64 (get_or marks at 0) (2 ^ 64 - 1) small (omega arith)
      (λ k less.
      let is = in_word at k less in
      sym (λ i. bit_at (get_or marks (is.0 i) 0) (is.1 i)) ∙ bit_of_mark marks (64 * at + k) (all k less) ∙ sym (bit_at_ones 64 k less)),
)

-- and 0 where none is
pub bare_word : (marks : List ℕ) (at : ℕ) → get_or marks at 0 < 2 ^ 64 → (get_or marks at 0 ≡ 0) ↔ ((k : ℕ) → k < 64 → is_marked marks (64 * at + k) ≡ false)
bare_word marks at small = (
  λ zero k less.
      let is = in_word at k less in
      mark_is marks (64 * at + k) ∙ (λ i. nat_eq (bit_at (get_or marks (is.0 i) 0) (is.1 i)) 1) ∙ ap (λ w. nat_eq (bit_at w k) 1) zero ∙ ap (λ b. nat_eq b 1) (bit_at-zero k),
  λ all.
      same_from_bits_below 64 (get_or marks at 0) 0 small (omega arith)
      (λ k less.
      let is = in_word at k less in
      sym (λ i. bit_at (get_or marks (is.0 i) 0) (is.1 i)) ∙ bit_of_none marks (64 * at + k) (all k less) ∙ sym (bit_at-zero k)),
)

-- a bit that is set marks its place
pub marked_here : (marks : List ℕ) (place : ℕ) → place < 64 * length marks
    → is_marked (set marks (place / 64) (bit_or (get_or marks (place / 64) 0) (1 * 2 ^ (place % 64) % 2 ^ 64))) place ≡ true
marked_here marks place inside =
    let at : place / 64 < length marks = omega (arith, inside) in
    mark_is (set marks (place / 64) (bit_or (get_or marks (place / 64) 0) (1 * 2 ^ (place % 64) % 2 ^ 64))) place
    ∙ ap (λ w. nat_eq (bit_at w (place % 64)) 1) (get_or-set_same marks (place / 64) (bit_or (get_or marks (place / 64) 0) (1 * 2 ^ (place % 64) % 2 ^ 64)) 0 at)
    ∙ ap (λ b. nat_eq b 1) (bit_at_set_same w64 (get_or marks (place / 64) 0) (place % 64) (omega arith))

-- and no other
pub marked_others : (marks : List ℕ) (place other : ℕ) → place < 64 * length marks → other ≢ place
    → is_marked (set marks (place / 64) (bit_or (get_or marks (place / 64) 0) (1 * 2 ^ (place % 64) % 2 ^ 64))) other ≡ is_marked marks other
marked_others marks place other inside apart =
    let word = bit_or (get_or marks (place / 64) 0) (1 * 2 ^ (place % 64) % 2 ^ 64) in
    mark_is (set marks (place / 64) word) other
    ∙ ap (λ b. nat_eq b 1) (elim (equal_or_not (other / 64) (place / 64)) [
      | inl same ↦
          let differs : other % 64 ≢ place % 64 = λ bit. apart (omega (arith, same, bit)) in
          ap (λ n. bit_at (get_or (set marks (place / 64) word) n 0) (other % 64)) same
          ∙ ap (λ w. bit_at w (other % 64)) (get_or-set_same marks (place / 64) word 0 (omega (arith, inside)))
          ∙ bit_at_set_other w64 (get_or marks (place / 64) 0) (place % 64) (omega arith) (other % 64) differs
          ∙ ap (λ n. bit_at (get_or marks n 0) (other % 64)) (sym same)
      | inr differs ↦ ap (λ w. bit_at w (other % 64)) (get_or-set_other marks (place / 64) (other / 64) word 0 differs)
    ])
    ∙ sym (mark_is marks other)

bit_small : (n : ℕ) → n < 64 → 1 * 2 ^ n % 2 ^ 64 ≡ 2 ^ n
bit_small n less = omega (arith, pow_below n 64 less)

bits_rise : (n m : ℕ) → n ≤ m → 2 ^ n ≤ 2 ^ m
bits_rise n m far = elim (eq-or-lt_of_le far) [
  | inl same ↦ omega (arith, ap (λ k. 2 ^ k) same)
  | inr less ↦ omega (arith, pow_below n m less)
]

-- a bit is no more than the last of those from it on
pub first_to_last : (first end : ℕ) → first < end → end ≤ 64 → 1 * 2 ^ first % 2 ^ 64 ≤ 1 * 2 ^ (end - 1) % 2 ^ 64
first_to_last first end some few =
    omega (arith, bit_small first (omega (arith, some, few)), bit_small (end - 1) (omega (arith, some, few)), bits_rise first (end - 1) (omega (arith, some)))

-- the bits from one on up to another
pub bits_between : (first end : ℕ) → first < end → end ≤ 64
    → 1 * 2 ^ (end - 1) % 2 ^ 64 - 1 * 2 ^ first % 2 ^ 64 + 1 * 2 ^ (end - 1) % 2 ^ 64 ≡ 2 ^ end - 2 ^ first
bits_between first end some few =
    let on : end ≡ end - 1 + 1 = omega (arith, some) in
    let twice : 2 ^ end ≡ 2 ^ (end - 1) * 2 = ap (λ k. 2 ^ k) on ∙ pow_more 2 (end - 1) in
    omega (arith, twice, bit_small first (omega (arith, some, few)), bit_small (end - 1) (omega (arith, some, few)), bits_rise first (end - 1) (omega (arith, some)))

most_one : (x : ℕ) → x < 2 → max x 1 ≡ 1
most_one x few = omega (arith, few)

most_zero : (x : ℕ) → max x 0 ≡ x
most_zero x = omega arith

-- bits that are set from one on up to another mark their places
pub bits_here : (marks : List ℕ) (at first end place : ℕ) → at < length marks → end ≤ 64 → 64 * at + first ≤ place → place < 64 * at + end
    → is_marked (set marks at (bit_or (get_or marks at 0) (2 ^ end - 2 ^ first))) place ≡ true
bits_here marks at first end place inside few from below =
    let word = bit_or (get_or marks at 0) (2 ^ end - 2 ^ first) in
    let in_at : place / 64 ≡ at = omega (arith, few, from, below) in
    let one : bit_at (2 ^ end - 2 ^ first) (place % 64) ≡ 1 = bit_at_mask_inside first end (place % 64) (omega (arith, in_at, from)) (omega (arith, in_at, below)) in
    mark_is (set marks at word) place
    ∙ ap (λ n. nat_eq (bit_at (get_or (set marks at word) n 0) (place % 64)) 1) in_at
    ∙ ap (λ w. nat_eq (bit_at w (place % 64)) 1) (get_or-set_same marks at word 0 inside)
    ∙ ap (λ b. nat_eq b 1)
    (bit_at_or (get_or marks at 0) (2 ^ end - 2 ^ first) (place % 64) ∙ ap (max (bit_at (get_or marks at 0) (place % 64))) one
    ∙ most_one (bit_at (get_or marks at 0) (place % 64)) (bit_at-lt (get_or marks at 0) (place % 64)))

-- and no other
pub bits_others : (marks : List ℕ) (at first end place : ℕ) → at < length marks → end ≤ 64 → (place < 64 * at + first) ⊎ (64 * at + end ≤ place)
    → is_marked (set marks at (bit_or (get_or marks at 0) (2 ^ end - 2 ^ first))) place ≡ is_marked marks place
bits_others marks at first end place inside few out =
    let word = bit_or (get_or marks at 0) (2 ^ end - 2 ^ first) in
    mark_is (set marks at word) place
    ∙ ap (λ b. nat_eq b 1) (elim (equal_or_not (place / 64) at) [
      | inl same ↦
          let zero : bit_at (2 ^ end - 2 ^ first) (place % 64) ≡ 0 = none_set same out in
          ap (λ n. bit_at (get_or (set marks at word) n 0) (place % 64)) same
          ∙ ap (λ w. bit_at w (place % 64)) (get_or-set_same marks at word 0 inside)
          ∙ bit_at_or (get_or marks at 0) (2 ^ end - 2 ^ first) (place % 64) ∙ ap (max (bit_at (get_or marks at 0) (place % 64))) zero
          ∙ most_zero (bit_at (get_or marks at 0) (place % 64))
          ∙ ap (λ n. bit_at (get_or marks n 0) (place % 64)) (sym same)
      | inr differs ↦ ap (λ w. bit_at w (place % 64)) (get_or-set_other marks at (place / 64) word 0 differs)
    ])
    ∙ sym (mark_is marks place)
  where
    none_set : place / 64 ≡ at → (place < 64 * at + first) ⊎ (64 * at + end ≤ place) → bit_at (2 ^ end - 2 ^ first) (place % 64) ≡ 0
    none_set same (inl before) = bit_at_mask_below first end (place % 64) (omega (arith, same, before))
    none_set same (inr behind) = bit_at_mask_above first end (place % 64) (omega (arith, same, behind))

-- there is a mark for each place
pub length-marks_of : (count : ℕ) (marks : List ℕ) → length (marks_of count marks) ≡ count
length-marks_of count marks = length-map-range_with_len (is_marked marks) 0 count

pub get_or-marks_of : (count : ℕ) (marks : List ℕ) (place : ℕ) → place < count → get_or (marks_of count marks) place false ≡ is_marked marks place
get_or-marks_of count marks place less = get_or-map-range_with_len (is_marked marks) 0 count place place false less (omega arith)

-- marks that differ at one place, which is marked
pub marks_of-set : (count : ℕ) (old new : List ℕ) (place : ℕ) → is_marked new place ≡ true → ((other : ℕ) → other ≢ place → is_marked new other ≡ is_marked old other)
    → marks_of count new ≡ set (marks_of count old) place true
marks_of-set count old new place here others =
    let size = length-set (marks_of count old) place true ∙ length-marks_of count old in
    ext_get_or false (marks_of count new) (set (marks_of count old) place true) (length-marks_of count new ∙ sym size)
    (λ k inside.
    let less : k < count = omega (arith, inside, length-marks_of count new) in
    get_or-marks_of count new k less
    ∙ (elim (equal_or_not k place) [
      | inl same ↦ ap (is_marked new) same ∙ here ∙ sym (ap (λ n. get_or (set (marks_of count old) place true) n false) same ∙ get_or-set_same (marks_of count old) place true false (omega (arith, same, less, length-marks_of count old)))
      | inr apart ↦ others k apart ∙ sym (get_or-set_other (marks_of count old) place k true false apart ∙ get_or-marks_of count old k less)
    ]))

-- zeros mark nothing
pub unmarked_zeros : (n place : ℕ) → is_marked (replicate n 0) place ≡ false
unmarked_zeros n place =
    mark_is (replicate n 0) place ∙ ap (λ w. nat_eq (bit_at w (place % 64)) 1) (zero_at n (place / 64)) ∙ ap (λ b. nat_eq b 1) (bit_at-zero (place % 64))
  where
    zero_at : (n k : ℕ) → get_or (replicate {A = ℕ} n 0) k 0 ≡ 0
    zero_at zero k = refl
    zero_at (suc n) zero = refl
    zero_at (suc n) (suc k) = zero_at n k

pub marks_of-zeros : (count n : ℕ) → marks_of count (replicate n 0) ≡ replicate count false
marks_of-zeros count n =
    ext_get_or false (marks_of count (replicate n 0)) (replicate count false) (length-marks_of count (replicate n 0) ∙ sym (length-replicate count false))
    (λ k inside.
    let less : k < count = omega (arith, inside, length-marks_of count (replicate n 0)) in
    get_or-marks_of count (replicate n 0) k less ∙ unmarked_zeros n k ∙ sym (get_or-replicate count k false false less))

-- the cell at a place: its word, where the place is marked
abbrev pub cell_at : List ℕ → List ℕ → ℕ → Option ℕ
cell_at marks words place = if is_marked marks place then Some (get_or words place 0) else None

pub staged_at-marks : (count : ℕ) (marks words : List ℕ) (place : ℕ) → length words ≡ count → place < count → staged_at (staged_cells (marks_of count marks) words) place ≡ cell_at marks words place
staged_at-marks count marks words place full inside =
    let size = length-marks_of count marks in
    staged_at-mask (marks_of count marks) words place (size ∙ sym full) (omega (arith, inside, size))
    ∙ ap (λ (b : Bool). if b then Some (get_or words place 0) else None) (get_or-marks_of count marks place inside)

pub marked_cell : (marks words : List ℕ) (place word : ℕ) → is_marked marks place ≡ true → get_or words place 0 ≡ word → cell_at marks words place ≡ Some word
marked_cell marks words place word mark is = ap (λ (b : Bool). if b then Some (get_or words place 0) else None) mark ∙ ap Some is

pub bare_cell : (marks words : List ℕ) (place : ℕ) → is_marked marks place ≡ false → cell_at marks words place ≡ None
bare_cell marks words place mark = ap (λ (b : Bool). if b then Some (get_or words place 0) else None) mark

pub same_cell : (marks others words more : List ℕ) (place : ℕ) → is_marked marks place ≡ is_marked others place → get_or words place 0 ≡ get_or more place 0
    → cell_at marks words place ≡ cell_at others more place
same_cell marks others words more place mark word = λ i. if mark i then Some (word i) else None

-- a mark and a word at a place are a staged word there
pub staged_marks-set : (count : ℕ) (old new words : List ℕ) (place word : ℕ) → length words ≡ count → is_marked new place ≡ true
    → ((other : ℕ) → other ≢ place → is_marked new other ≡ is_marked old other)
    → staged_cells (marks_of count new) (set words place word) ≡ set (staged_cells (marks_of count old) words) place (Some word)
staged_marks-set count old new words place word full here others =
    ap (λ (m : List Bool). staged_cells m (set words place word)) (marks_of-set count old new place here others)
    ∙ staged_cells-set (marks_of count old) words place word (length-marks_of count old ∙ sym full)

-- at first nothing is staged
pub staged_marks-none : (count n word : ℕ) → staged_cells (marks_of count (replicate n 0)) (replicate count word) ≡ replicate count None
staged_marks-none count n word = ap (λ (m : List Bool). staged_cells m (replicate count word)) (marks_of-zeros count n) ∙ staged_cells-none count word
