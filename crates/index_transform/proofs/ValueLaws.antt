-- The conditions of values without a check, at the cells of a finite domain.
use Rattle.std.proofs.Common.{◌≡◌, suc, ℕ, ◌≤◌, ◌^◌, Bool, true, false, ◌&&◌, ◌||◌, int_le, List, [], ◌∷◌, length, refl, ap, arith, ℤ, ◌≤ℤ◌}
use Rattle.std.proofs.lemmas.Int.{ints}
use Rattle.std.specs.List.{list_all, zip, AllByRecursion}
use Rattle.cells.proofs.Laws.{both, both_true}
use Rattle.index_intervals.specs.Bounds.{Bounds, is_index}
use Rattle.index_transform.specs.Cells.{is_finite}
use Rattle.index_transform.specs.Transforms.{DomainAndMaps, IsTransform}
use Rattle.index_transform.specs.Values.{has_value, is_effective, is_word}
use Rattle.index_transform.specs.Walks.{IsCell}
use Rattle.index_transform.specs.Shapes.{IsInShape}
use Rattle.index_transform.proofs.InsideLemmas.{all_have_value}

effective : (d : Bounds) (x : ℤ) → is_finite d ≡ true → d.lo ≤ℤ x → x ≤ℤ d.hi → is_effective d x ≡ true
effective d x f l h = told d.lo_implicit d.hi_implicit
  where
    index : is_index x ≡ true
    index = grind (arith, ints, f)

    low : (b : Bool) → (b || int_le d.lo x) ≡ true
    low true = refl
    low false = grind (arith, ints)

    high : (b : Bool) → (b || int_le x d.hi) ≡ true
    high true = refl
    high false = grind (arith, ints)

    told : (a b : Bool) → (is_index x && (a || int_le d.lo x) && (b || int_le x d.hi)) ≡ true
    told a b = both_true (is_index x && (a || int_le d.lo x)) (b || int_le x d.hi) (both_true (is_index x) (a || int_le d.lo x) index (low a)) (high b)

-- a cell of finite bounds is an effective member along each dimension
pub effective-cell : (ds : List Bounds) (cell : List ℤ) → list_all is_finite ds ≡ true → IsCell ds cell → list_all (λ p. is_effective p.0 p.1) (zip ds cell) ≡ true
effective-cell [] [] f c = refl
effective-cell [] (x ∷ xs) f c = absurd c
effective-cell (d ∷ ds) [] f c = absurd c
effective-cell (d ∷ ds) (x ∷ xs) f c =
    let p = both (is_finite d) (list_all is_finite ds) f in
    both_true (is_effective d x) (list_all (λ p. is_effective p.0 p.1) (zip ds xs)) (effective d x p.0 c.0 c.1) (effective-cell ds xs p.1 c.2)

pub length-cell : (ds : List Bounds) (cell : List ℤ) → IsCell ds cell → length cell ≡ length ds
length-cell [] [] c = refl
length-cell [] (x ∷ xs) c = absurd c
length-cell (d ∷ ds) [] c = absurd c
length-cell (d ∷ ds) (x ∷ xs) c = ap suc (length-cell ds xs c.2)

-- each map of a transform has a number at each cell
pub has_value-cell : (t : DomainAndMaps) (cell : List ℤ) → IsTransform t → list_all is_finite t.domain.dims ≡ true → IsCell t.domain.dims cell
    → list_all (has_value t.domain.dims cell) t.maps ≡ true
has_value-cell t cell rules f c =
    all_have_value t.domain.dims cell t.maps (length-cell t.domain.dims cell c) (effective-cell t.domain.dims cell f c) rules.maps

-- numbers inside a shape whose sizes fit 63 bits fit 64 bits with a sign
pub are_words-in_shape : (shape : List ℕ) (index : List ℤ) → IsInShape shape index → AllByRecursion (λ size. size ≤ 2 ^ 63) shape → list_all is_word index ≡ true
are_words-in_shape [] [] i s = refl
are_words-in_shape [] (x ∷ index) i s = absurd i
are_words-in_shape (n ∷ shape) [] i s = absurd i
are_words-in_shape (n ∷ shape) (x ∷ index) i s =
    let a = i.0 in
    let b = i.1 in
    let w : is_word x ≡ true = let q = s.0 in grind (arith, ints, a, b, q) in
    both_true (is_word x) (list_all is_word index) w (are_words-in_shape shape index i.2 s.1)
