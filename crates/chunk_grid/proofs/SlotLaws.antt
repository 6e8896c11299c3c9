-- Cells put to their slots, one after another.
use Rattle.std.proofs.Common.{◌≡◌, ◌≢◌, ◌∙◌, ℕ, zero, suc, ◌+◌, ◌*◌, ◌<◌, ◌==◌, Bool, true, false, cond, List, [], ◌∷◌, ◌++◌, length, map, take, get_or, Option, Some, None, IfSome, refl, sym, ap, subst, arith}
use Rattle.std.specs.Prelude.{filter, replicate}
use Rattle.std.specs.List.{fold, enumerate_from, AllByRecursion}
use Rattle.std.proofs.lemmas.Bool.Decides.{nat_tests}
use Rattle.std.proofs.lemmas.List.{take_more, map-append, length-map, length-append, length-take-le, append-nil, replicate-append-replicate, get_or-set_same, get_or-set_other, length-replicate}
use Rattle.std.proofs.lemmas.Grind.{flat_map-append}
use Rattle.std.proofs.Math.ListN.{length-set}
use Rattle.cells.specs.Places.{c_place, c_index}
use Rattle.chunk_grid.specs.declared.slots.Located.{Located}
use Rattle.chunk_grid.specs.Grid.{chunk_index, place_within}
use Rattle.chunk_grid.specs.Pieces.{Pair, pair_of}
use Rattle.strided_runs.specs.Growing.{Grown, runs_of_growing}
use Rattle.chunk_grid.specs.Cuts.{with_pair, grown_of, IsUpTo}
use Rattle.chunk_grid.specs.Slots.{located, together, products, slot_at, AreUpTo, put_at, put_all, pieces_from}
use Rattle.strided_runs.proofs.Laws.{next, up_to-more, up_to-later}

-- as many slots as before
pub length-put_at : (slots : List (Option Grown)) (view : ℕ) (c : Located) → length (put_at slots view c) ≡ length slots
length-put_at slots view c = length-set slots c.number (Some (with_pair (record { view = view; chunk = c.place }) (slot_at slots c.number)))

pub length-put_all : (cells : List Located) (slots : List (Option Grown)) (view : ℕ) → length (put_all slots view cells) ≡ length slots
length-put_all [] slots view = refl
length-put_all (c ∷ cells) slots view = length-put_all cells (put_at slots view c) (view + 1) ∙ length-put_at slots view c

-- some cells after others
pub put_all-append : (xs ys : List Located) (slots : List (Option Grown)) (view : ℕ)
    → put_all slots view (xs ++ ys) ≡ put_all (put_all slots view xs) (view + length xs) ys
put_all-append [] ys slots view = let e : view ≡ view + 0 = omega arith in ap (λ v. put_all slots v ys) e
put_all-append (x ∷ xs) ys slots view =
    let e : (view + 1) + length xs ≡ view + length (x ∷ xs) = omega arith in
    put_all-append xs ys (put_at slots view x) (view + 1) ∙ ap (λ v. put_all (put_all slots view (x ∷ xs)) v ys) e

-- what a slot holds then
pub slot_at-put : (slots : List (Option Grown)) (view : ℕ) (c : Located) (n : ℕ) → c.number < length slots
    → slot_at (put_at slots view c) n ≡ cond (c.number == n) (Some (with_pair (record { view = view; chunk = c.place }) (slot_at slots n))) (slot_at slots n)
slot_at-put slots view c n within = told (c.number == n) refl
  where
    pair : Pair
    pair = record { view = view; chunk = c.place }

    told : (b : Bool) → (c.number == n) ≡ b → slot_at (put_at slots view c) n ≡ cond b (Some (with_pair (record { view = view; chunk = c.place }) (slot_at slots n))) (slot_at slots n)
    told true e =
        let same : c.number ≡ n = grind (arith, nat_tests, e) in
        subst (λ (k : ℕ). slot_at (put_at slots view c) k ≡ Some (with_pair (record { view = view; chunk = c.place }) (slot_at slots k))) same
        (get_or-set_same slots c.number (Some (with_pair (record { view = view; chunk = c.place }) (slot_at slots c.number))) None within)
    told false e =
        let other : n ≢ c.number = grind (arith, nat_tests, e) in
        get_or-set_other slots c.number n (Some (with_pair (record { view = view; chunk = c.place }) (slot_at slots c.number))) None other

-- no run reaches further than the pairs do
pub up_to-put : (slots : List (Option Grown)) (view : ℕ) (c : Located) → c.number < length slots → AreUpTo view slots → AreUpTo (view + 1) (put_at slots view c)
up_to-put slots view c within before n =
    subst (λ o. IfSome o (IsUpTo (view + 1))) (sym (slot_at-put slots view c n within)) (told (c.number == n))
  where
    told : (b : Bool) → IfSome (cond b (Some (with_pair (record { view = view; chunk = c.place }) (slot_at slots n))) (slot_at slots n)) (IsUpTo (view + 1))
    told true = up_to-more (slot_at slots n) (record { view = view; chunk = c.place }) (before n)
    told false = up_to-later (slot_at slots n) view (before n)

pub empty-slots : (count n : ℕ) → slot_at (replicate count None) n ≡ None
empty-slots zero n = refl
empty-slots (suc count) zero = refl
empty-slots (suc count) (suc n) = empty-slots count n

pub up_to-empty : (count : ℕ) → AreUpTo 0 (replicate count None)
up_to-empty count n = subst (λ (o : Option Grown). IfSome o (IsUpTo 0)) (sym (empty-slots count n)) tt

-- the index vectors of a slot, with their places in the list
module _ (counts chunk : List ℕ) where
  abbrev pub numbered : ℕ → ℕ × List ℕ → Bool
  numbered n p = c_place counts (chunk_index chunk p.1) == n

  abbrev pub IsNumbered : ℕ → List ℕ → Type 0
  IsNumbered count target = c_place counts (chunk_index chunk target) < count

  pub slot_at-all : (targets : List (List ℕ)) (slots : List (Option Grown)) (view n : ℕ) → AllByRecursion (IsNumbered (length slots)) targets
      → slot_at (put_all slots view (map (located counts chunk) targets)) n
      ≡ fold next (slot_at slots n) (map (pair_of chunk) (filter (numbered n) (enumerate_from view targets)))
  slot_at-all [] slots view n h = refl
  slot_at-all (t ∷ targets) slots view n h =
      slot_at-all targets (put_at slots view (located counts chunk t)) (view + 1) n
      (subst (λ (k : ℕ). AllByRecursion (IsNumbered k) targets) (sym (length-put_at slots view (located counts chunk t))) h.1)
      ∙ ap (λ o. fold next o rest) (slot_at-put slots view (located counts chunk t) n h.0)
      ∙ told (c_place counts (chunk_index chunk t) == n)
    where
      rest : List Pair
      rest = map (pair_of chunk) (filter (numbered n) (enumerate_from (view + 1) targets))

      told : (b : Bool) → fold next (cond b (Some (with_pair (record { view = view; chunk = place_within chunk t }) (slot_at slots n))) (slot_at slots n)) (map (pair_of chunk) (filter (numbered n) (enumerate_from (view + 1) targets)))
          ≡ fold next (slot_at slots n) (map (pair_of chunk) (cond b ((view, t) ∷ filter (numbered n) (enumerate_from (view + 1) targets)) (filter (numbered n) (enumerate_from (view + 1) targets))))
      told true = refl
      told false = refl

  -- from no run on
  pub slot_at-empty : (targets : List (List ℕ)) (count n : ℕ) → AllByRecursion (IsNumbered count) targets
      → slot_at (put_all (replicate count None) 0 (map (located counts chunk) targets)) n ≡ grown_of (map (pair_of chunk) (filter (numbered n) (enumerate_from 0 targets)))
  slot_at-empty targets count n h =
      slot_at-all targets (replicate count None) 0 n (subst (λ (k : ℕ). AllByRecursion (IsNumbered k) targets) (sym (length-replicate count None)) h)
      ∙ ap (λ o. fold next o (map (pair_of chunk) (filter (numbered n) (enumerate_from 0 targets)))) (empty-slots count n)

-- one cell of a row more
pub put_all-more : (f : Located → Located) (row : List Located) (slots : List (Option Grown)) (view k : ℕ) (d : Located) → k < length row
    → put_at (put_all slots view (map f (take k row))) (view + k) (f (get_or row k d)) ≡ put_all slots view (map f (take (k + 1) row))
put_all-more f row slots view k d l =
    let long : length (map f (take k row)) ≡ k = length-map (take k row) f ∙ length-take-le k row (omega (arith, l)) in
    sym (ap (λ xs. put_all slots view (map f xs)) (take_more row k d l)
    ∙ ap (put_all slots view) (map-append f (take k row) (get_or row k d ∷ []))
    ∙ put_all-append (map f (take k row)) (f (get_or row k d) ∷ []) slots view
    ∙ ap (λ n. put_at (put_all slots view (map f (take k row))) (view + n) (f (get_or row k d))) long)

-- one head more
pub length-products : (heads row : List Located) → length (products heads row) ≡ length heads * length row
length-products [] row = omega arith
length-products (h ∷ heads) row =
    let a : length (map (together h) row) ≡ length row = length-map row (together h) in
    let b = length-products heads row in
    length-append (map (together h) row) (products heads row) ∙ omega (arith, a, b)

pub products-more : (heads row : List Located) (slots : List (Option Grown)) (view i : ℕ) (d : Located) → i < length heads → view ≡ i * length row
    → put_all (put_all slots 0 (products (take i heads) row)) view (map (together (get_or heads i d)) row) ≡ put_all slots 0 (products (take (i + 1) heads) row)
products-more heads row slots view i d l at =
    let long : 0 + length (products (take i heads) row) ≡ view = omega (arith, length-products (take i heads) row, ap (λ n. n * length row) (length-take-le i heads (omega (arith, l))), at) in
    sym (ap (λ hs. put_all slots 0 (products hs row)) (take_more heads i d l)
    ∙ ap (put_all slots 0) (flat_map-append (λ h. map (together h) row) (take i heads) (get_or heads i d ∷ []) ∙ ap (λ xs. products (take i heads) row ++ xs) (append-nil (map (together (get_or heads i d)) row)))
    ∙ put_all-append (products (take i heads) row) (map (together (get_or heads i d)) row) slots 0
    ∙ ap (λ n. put_all (put_all slots 0 (products (take i heads) row)) n (map (together (get_or heads i d)) row)) long)

-- the slots in a row
pub pieces_from-more : (counts : List ℕ) (slots : List (Option Grown)) (o : Option Grown) (n : ℕ) → pieces_from counts n (slots ++ o ∷ []) ≡ pieces_from counts n slots ++ pieces_from counts (n + length slots) (o ∷ [])
pieces_from-more counts [] o n = let e : n ≡ n + 0 = omega arith in ap (λ m. pieces_from counts m (o ∷ [])) e
pieces_from-more counts (None ∷ slots) o n =
    let e : (n + 1) + length slots ≡ n + suc (length slots) = omega arith in
    pieces_from-more counts slots o (n + 1) ∙ ap (λ m. pieces_from counts (n + 1) slots ++ pieces_from counts m (o ∷ [])) e
pieces_from-more counts (Some g ∷ slots) o n =
    let e : (n + 1) + length slots ≡ n + suc (length slots) = omega arith in
    ap (λ ps. record { chunk = c_index counts n; runs = runs_of_growing g } ∷ ps) (pieces_from-more counts slots o (n + 1) ∙ ap (λ m. pieces_from counts (n + 1) slots ++ pieces_from counts m (o ∷ [])) e)

pub replicate-more : {X : Type 0} (n : ℕ) (x : X) → replicate n x ++ x ∷ [] ≡ replicate (n + 1) x
replicate-more n x = replicate-append-replicate n 1 x

-- what stands past the end of a list of cells
abbrev pub nowhere : Located
nowhere = record { number = 0; place = 0 }
