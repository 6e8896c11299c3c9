-- The chunks that events touch are chunks of their arrays.
use Rattle.std.proofs.Common.{◌≡◌, ℕ, suc, ◌-◌, ◌*◌, ◌/◌, ◌<◌, ◌≤◌, ◌^◌, List, [], ◌∷◌, ◌++◌, length, map, max, Bool, true, false, Some, ◌⊎◌, inl, inr, refl, sym, ap, subst, ◌∙◌, arith, nat_lt}
use Rattle.std.specs.Prelude.{◌||◌, slice_index, IsTrue, filter_map}
use Rattle.std.specs.List.{AllByRecursion, list_any, zip}
use Rattle.std.proofs.lemmas.Nat.{div-add-mod', div_below}
use Rattle.kv_face.specs.Store.{Contents}
use Rattle.chunk_forms.specs.Words.{is_inside}
use Rattle.stack_driver.specs.Targets.{Cell, Target}
use Rattle.stack_driver.specs.Views.{targets_of}
use Rattle.stack_driver.specs.declared.error.TargetError.{TargetError}
use Rattle.std.proofs.Common.{Result, Ok, Err}
use Rattle.history.specs.declared.array.ArrayInfo.{ArrayInfo}
use Rattle.history.specs.declared.array.Home.{Home}
use Rattle.history.specs.declared.array.Home.TheVariants.{Zarr, N5, Zarr3, Local}
use Rattle.history.specs.declared.event.Op.{Op}
use Rattle.history.specs.declared.event.Op.TheVariants.{Write, Read}
use Rattle.history.specs.History.{History}
use Rattle.history.specs.Arrays.{Known, known_after, chunk_shape, chunk_shape_in, is_local}
use Rattle.history.specs.Chunks.{Chunk, is_chunk, chunk_of, chunk_in, chunk_index, AreStarts, IsIndexOf, IsWholeIfLocal}
use Rattle.history.specs.Resizes.{reaches_into, is_cut}
use Rattle.history.specs.Writes.{Put, put_at, puts_of, puts_of_op}
use Rattle.history.specs.Touch.{writes_chunk}
use Rattle.history.specs.Legal.{IsLegal, IsAsKept, IsLegalOp, HasTarget, is_present, is_present_in}
use Rattle.history.proofs.Tests.{true_or_false, less}
use Rattle.history.proofs.Histories.{each_history, legal_step}
use Rattle.history.proofs.Known.{known_good, known_split, good_rank, resize_of, opening_of, no_array}
use Rattle.history.proofs.Shapes.{and_left, and_right}
use Rattle.history.proofs.Untouched.{chunk_array}
use Rattle.history.proofs.Geometry.{length-chunk_index}
use Rattle.history.proofs.Ordering.{or_second}
use Rattle.history.proofs.Written.{same_chunks}

-- sizes that an array may have
abbrev pub AreSizes : List ℕ → Type 0
AreSizes shape = AllByRecursion (λ s. s ≤ 2 ^ 62 - 2) shape

all_sizes : (shape : List ℕ) → ((k : ℕ) → k < length shape → slice_index shape k ≤ 2 ^ 62 - 2) → AreSizes shape
all_sizes [] h = tt
all_sizes (s ∷ shape) h = (h 0 (omega arith), all_sizes shape (λ k lt. h (suc k) (omega arith)))

kept_sizes : (info : ArrayInfo) (home : Home) → IsAsKept info home → is_local home ≡ false → AreSizes info.shape
kept_sizes info (Zarr mount path meta) is stored = subst AreSizes (sym is.shape) (all_sizes meta.shape is.valid.shape.sizes)
kept_sizes info (N5 mount path meta) is stored = subst AreSizes (sym is.shape) (all_sizes meta.dimensions is.valid.dimensions.sizes)
kept_sizes info (Zarr3 mount path meta) is stored = subst AreSizes (sym is.shape) (all_sizes meta.shape is.valid.shape.sizes)
kept_sizes info (Local start) is stored = absurd (cc)

-- the sizes of a stored array are those that metadata may have
pub known_sizes : (start : Contents) (a : ℕ) (events : History) → IsLegal start events → (k : Known) → known_after events a ≡ Some k → is_local k.info.home ≡ false → AreSizes k.shape
known_sizes start a =
    each_history (λ h. IsLegal start h → (k : Known) → known_after h a ≡ Some k → is_local k.info.home ≡ false → AreSizes k.shape) (λ legal k is. absurd (no_array a k is))
    (λ h e before legal k is stored.
    let parts = legal_step start h e legal in
    elim (known_split h e a k is) [
      | inl new ↦
          let opening = opening_of start h e.kind new.0 new.1 parts.1 in
          subst (λ (l : Known). AreSizes l.shape) (sym new.3) (kept_sizes new.0 new.0.home opening.kept (ap (λ (l : Known). is_local l.info.home) (sym new.3) ∙ stored))
      | inr (inl cut) ↦ let resize = resize_of start h e.kind a cut.1 cut.0 cut.2 cut.3 parts.1 in subst (λ (l : Known). AreSizes l.shape) (sym cut.4) resize.sizes
      | inr (inr old) ↦ before parts.0 k old stored
    ])

-- a local array keeps its shape
pub local_shape : (start : Contents) (a : ℕ) (events : History) → IsLegal start events → (k : Known) → known_after events a ≡ Some k → is_local k.info.home ≡ true → k.shape ≡ k.info.shape
local_shape start a =
    each_history (λ h. IsLegal start h → (k : Known) → known_after h a ≡ Some k → is_local k.info.home ≡ true → k.shape ≡ k.info.shape) (λ legal k is. absurd (no_array a k is))
    (λ h e before legal k is local.
    let parts = legal_step start h e legal in
    elim (known_split h e a k is) [
      | inl new ↦ subst (λ (l : Known). l.shape ≡ l.info.shape) (sym new.3) refl
      | inr (inl cut) ↦
          let resize = resize_of start h e.kind a cut.1 cut.0 cut.2 cut.3 parts.1 in
          let clash : true ≡ false = sym local ∙ ap (λ (l : Known). is_local l.info.home) cut.4 ∙ resize.stored in
          absurd (cc)
      | inr (inr old) ↦ before parts.0 k old local
    ])

inside_length : (shape index : List ℕ) → is_inside shape index ≡ true → length index ≡ length shape
inside_length [] [] e = refl
inside_length [] (i ∷ index) e = absurd (cc)
inside_length (s ∷ shape) [] e = absurd (cc)
inside_length (s ∷ shape) (i ∷ index) e = ap suc (inside_length shape index (and_right (nat_lt i s) (is_inside shape index) e))

starts_of : (ns shape xs : List ℕ) → length ns ≡ length shape → AreSizes shape → is_inside shape xs ≡ true → AreStarts ns (chunk_index ns xs)
starts_of [] shape xs size sizes e = tt
starts_of (n ∷ ns) [] xs size sizes e = absurd (omega arith)
starts_of (n ∷ ns) (s ∷ shape) [] size sizes e = absurd (cc)
starts_of (n ∷ ns) (s ∷ shape) (x ∷ xs) size sizes e =
    let low = less x s (and_left (nat_lt x s) (is_inside shape xs) e) in
    let most : s ≤ 2 ^ 62 - 2 = sizes.0 in
    (omega (arith, div-add-mod' x n), starts_of ns shape xs (omega arith) sizes.1 (and_right (nat_lt x s) (is_inside shape xs) e))

first_of_one : (x n : ℕ) → x < n → x / max 1 n ≡ 0
first_of_one x n lt = let below = div_below x (max 1 n) 1 (omega arith) (omega arith) in omega arith

all_first : (shape xs : List ℕ) → is_inside shape xs ≡ true → AllByRecursion (λ c. c ≡ 0) (chunk_index (map (max 1) shape) xs)
all_first [] xs e = tt
all_first (s ∷ shape) [] e = absurd (cc)
all_first (s ∷ shape) (x ∷ xs) e = (first_of_one x s (less x s (and_left (nat_lt x s) (is_inside shape xs) e)), all_first shape xs (and_right (nat_lt x s) (is_inside shape xs) e))

whole_of : (home : Home) (shape xs : List ℕ) → is_inside shape xs ≡ true → IsWholeIfLocal home (chunk_index (chunk_shape_in home shape) xs)
whole_of (Zarr mount path meta) shape xs e = tt
whole_of (N5 mount path meta) shape xs e = tt
whole_of (Zarr3 mount path meta) shape xs e = tt
whole_of (Local start) shape xs e = all_first shape xs e

zero_starts : (ns cs : List ℕ) → AllByRecursion (λ c. c ≡ 0) cs → AreStarts ns cs
zero_starts [] cs zeros = tt
zero_starts (n ∷ ns) [] zeros = tt
zero_starts (n ∷ ns) (c ∷ cs) zeros = let zero_times : 0 * n ≡ 0 = omega arith in let none : c * n ≡ 0 = ap (λ m. m * n) zeros.0 ∙ zero_times in (omega arith, zero_starts ns cs zeros.1)

whole_zero : (home : Home) (cs : List ℕ) → is_local home ≡ true → IsWholeIfLocal home cs → AllByRecursion (λ c. c ≡ 0) cs
whole_zero (Zarr mount path meta) cs e whole = absurd (cc)
whole_zero (N5 mount path meta) cs e whole = absurd (cc)
whole_zero (Zarr3 mount path meta) cs e whole = absurd (cc)
whole_zero (Local start) cs e whole = whole

whole_stored : (home : Home) (cs : List ℕ) → is_local home ≡ false → IsWholeIfLocal home cs
whole_stored (Zarr mount path meta) cs e = tt
whole_stored (N5 mount path meta) cs e = tt
whole_stored (Zarr3 mount path meta) cs e = tt
whole_stored (Local start) cs e = absurd (cc)

-- the chunk of a cell of an array is one of its chunks
pub valid_of_cell : (start : Contents) (a : ℕ) (events : History) (k : Known) (xs : List ℕ) → IsLegal start events → known_after events a ≡ Some k → is_inside k.shape xs ≡ true → IsIndexOf k.info (chunk_index (chunk_shape k.info) xs)
valid_of_cell start a events k xs legal is inside =
    let good = known_good start a events legal k is in
    let ranks = good_rank a k good in
    let size : length xs ≡ length (chunk_shape k.info) = inside_length k.shape xs inside ∙ sym ranks in
    let rank = length-chunk_index (chunk_shape k.info) xs size in
    elim (true_or_false (is_local k.info.home)) [
      | inl local ↦
          let same = local_shape start a events legal k is local in
          let whole = whole_of k.info.home k.info.shape xs (ap (λ s. is_inside s xs) (sym same) ∙ inside) in
          record { rank = rank; starts = zero_starts (chunk_shape k.info) (chunk_index (chunk_shape k.info) xs) (whole_zero k.info.home (chunk_index (chunk_shape k.info) xs) local whole); whole = whole }
      | inr stored ↦
          record {
            rank = rank;
            starts = starts_of (chunk_shape k.info) k.shape xs ranks (known_sizes start a events legal k is stored) inside;
            whole = whole_stored k.info.home (chunk_index (chunk_shape k.info) xs) stored;
          }
    ]

reached_rank : (ns shape cs : List ℕ) → reaches_into ns shape cs ≡ true → length cs ≡ length ns
reached_rank [] [] [] e = refl
reached_rank [] [] (c ∷ cs) e = absurd (cc)
reached_rank [] (s ∷ shape) cs e = absurd (cc)
reached_rank (n ∷ ns) [] cs e = absurd (cc)
reached_rank (n ∷ ns) (s ∷ shape) [] e = absurd (cc)
reached_rank (n ∷ ns) (s ∷ shape) (c ∷ cs) e = ap suc (reached_rank ns shape cs (and_right (nat_lt (c * n) s) (reaches_into ns shape cs) e))

reached_starts : (ns shape cs : List ℕ) → AreSizes shape → reaches_into ns shape cs ≡ true → AreStarts ns cs
reached_starts [] shape cs sizes e = tt
reached_starts (n ∷ ns) shape [] sizes e = tt
reached_starts (n ∷ ns) [] (c ∷ cs) sizes e = absurd (cc)
reached_starts (n ∷ ns) (s ∷ shape) (c ∷ cs) sizes e =
    let low = less (c * n) s (and_left (nat_lt (c * n) s) (reaches_into ns shape cs) e) in
    let most : s ≤ 2 ^ 62 - 2 = sizes.0 in
    (omega arith, reached_starts ns shape cs sizes.1 (and_right (nat_lt (c * n) s) (reaches_into ns shape cs) e))

-- a chunk that a new shape cuts is one of the array's
pub valid_of_cut : (start : Contents) (a : ℕ) (events : History) (k : Known) (new index : List ℕ) → IsLegal start events → known_after events a ≡ Some k → is_local k.info.home ≡ false → is_cut (chunk_shape k.info) k.shape new index ≡ true → IsIndexOf k.info index
valid_of_cut start a events k new index legal is stored cut =
    let reached = and_left (reaches_into (chunk_shape k.info) k.shape index) _ cut in
    record {
      rank = reached_rank (chunk_shape k.info) k.shape index reached;
      starts = reached_starts (chunk_shape k.info) k.shape index (known_sizes start a events legal k is stored) reached;
      whole = whole_stored k.info.home index stored;
    }

-- a written cell of a chunk
pub record HasWritten (events : History) (c : Chunk) : Type 0 where
  pub cell : Cell
  pub present : is_present events cell ≡ true
  pub inside : chunk_of events cell ≡ c

or_true : (a b : Bool) → (a || b) ≡ true → (a ≡ true) ⊎ (b ≡ true)
or_true true b e = inl refl
or_true false b e = inr e

any_append : (f : Put → Bool) (ps qs : List Put) → list_any f (ps ++ qs) ≡ true → (list_any f ps ≡ true) ⊎ (list_any f qs ≡ true)
any_append f [] qs e = inr e
any_append f (p ∷ ps) qs e =
    elim (or_true (f p) (list_any f (ps ++ qs)) e) [
      | inl h ↦ inl (ap (λ b. b || list_any f ps) h)
      | inr h ↦ elim (any_append f ps qs h) [ inl g ↦ inl (or_second (f p) (list_any f ps) g) | inr g ↦ inr g ]
    ]

is_true : (b : Bool) → IsTrue b → b ≡ true
is_true b h = h

in_puts : (before : History) (c : Chunk) (ts : List (Result Target TargetError)) (ws : List ℕ) → AllByRecursion (HasTarget before) ts → list_any (λ p. is_chunk (chunk_of before p.0) c) (filter_map put_at (zip ts ws)) ≡ true → HasWritten before c
in_puts before c [] ws all e = absurd (cc)
in_puts before c (t ∷ ts) [] all e = absurd (cc)
in_puts before c (Ok t ∷ ts) (w ∷ ws) all e =
    elim (or_true (is_chunk (chunk_of before t.cell) c) (list_any (λ p. is_chunk (chunk_of before p.0) c) (filter_map put_at (zip ts ws))) e) [
      | inl h ↦ record { cell = t.cell; present = is_true (is_present before t.cell) all.0; inside = same_chunks (chunk_of before t.cell) c h }
      | inr h ↦ in_puts before c ts ws all.1 h
    ]
in_puts before c (Err x ∷ ts) (w ∷ ws) all e = absurd all.0

written_by : (before : History) (c : Chunk) (op : Op) → IsLegalOp before op → list_any (λ p. is_chunk (chunk_of before p.0) c) (puts_of_op op) ≡ true → HasWritten before c
written_by before c (Write view words) legal e = in_puts before c (targets_of view) words legal.targets e
written_by before c (Read view words) legal e = absurd (cc)

-- a chunk that legal operations write has a cell inside its array
pub written_by_all : (before : History) (c : Chunk) (ops : List Op) → AllByRecursion (IsLegalOp before) ops → writes_chunk before ops c ≡ true → HasWritten before c
written_by_all before c [] all e = absurd (cc)
written_by_all before c (op ∷ ops) all e =
    elim (any_append (λ p. is_chunk (chunk_of before p.0) c) (puts_of_op op) (puts_of ops) e) [ inl h ↦ written_by before c op all.0 h | inr h ↦ written_by_all before c ops all.1 h ]

-- and it is one of the array's chunks
pub valid_of_written : (start : Contents) (events : History) (c : Chunk) (k : Known) → IsLegal start events → known_after events c.array ≡ Some k → HasWritten events c → IsIndexOf k.info c.index
valid_of_written start events c k legal is w =
    let number : w.cell.array ≡ c.array = sym (chunk_array (known_after events w.cell.array) w.cell) ∙ ap (λ (d : Chunk). d.array) w.inside in
    let here : known_after events w.cell.array ≡ Some k = ap (known_after events) number ∙ is in
    let inside : is_inside k.shape w.cell.index ≡ true = sym (ap (λ o. is_present_in o w.cell) here) ∙ w.present in
    let index : chunk_index (chunk_shape k.info) w.cell.index ≡ c.index = ap (λ (d : Chunk). d.index) (sym (ap (λ o. chunk_in o w.cell) here) ∙ w.inside) in
    subst (IsIndexOf k.info) index (valid_of_cell start w.cell.array events k w.cell.index legal here inside)
