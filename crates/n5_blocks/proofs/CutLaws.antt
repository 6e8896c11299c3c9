-- The sizes of a block as far as the array reaches.
use Rattle.std.proofs.Common.{◌≡◌, ℕ, zero, suc, ◌-◌, ◌*◌, ◌<◌, ◌≤◌, min, List, [], ◌∷◌, length, get_or, refl, ap, arith}
use Rattle.n5_blocks.specs.Block.{AreWithin, cut_sizes}

-- there is a size for each dimension
pub length-cut_sizes : (block dimensions index : List ℕ) → length dimensions ≡ length block → length index ≡ length block → length (cut_sizes block dimensions index) ≡ length block
length-cut_sizes [] dimensions index same rank = refl
length-cut_sizes (n ∷ block) [] index same rank = absurd (omega (arith, same))
length-cut_sizes (n ∷ block) (s ∷ dimensions) [] same rank = absurd (omega (arith, rank))
length-cut_sizes (n ∷ block) (s ∷ dimensions) (c ∷ index) same rank = ap suc (length-cut_sizes block dimensions index (omega (arith, same)) (omega (arith, rank)))

-- it is the block's, or what is left of the array
pub get_or-cut_sizes : (block dimensions index : List ℕ) (k : ℕ) → length dimensions ≡ length block → length index ≡ length block → k < length block
    → get_or (cut_sizes block dimensions index) k 0 ≡ min (get_or block k 0) (get_or dimensions k 0 - get_or index k 0 * get_or block k 0)
get_or-cut_sizes [] dimensions index k same rank less = absurd (omega arith)
get_or-cut_sizes (n ∷ block) [] index k same rank less = absurd (omega (arith, same))
get_or-cut_sizes (n ∷ block) (s ∷ dimensions) [] k same rank less = absurd (omega (arith, rank))
get_or-cut_sizes (n ∷ block) (s ∷ dimensions) (c ∷ index) zero same rank less = refl
get_or-cut_sizes (n ∷ block) (s ∷ dimensions) (c ∷ index) (suc k) same rank less = get_or-cut_sizes block dimensions index k (omega (arith, same)) (omega (arith, rank)) (omega arith)

min-le : (a b : ℕ) → min a b ≤ a
min-le a b = omega arith

-- none is greater than the block's
pub within-cut_sizes : (block dimensions index : List ℕ) → length dimensions ≡ length block → length index ≡ length block → AreWithin block (cut_sizes block dimensions index)
within-cut_sizes block dimensions index same rank = record {
  ranks = length-cut_sizes block dimensions index same rank;
  fit = λ k less. rw (get_or-cut_sizes block dimensions index k same rank less) (min-le (get_or block k 0) (get_or dimensions k 0 - get_or index k 0 * get_or block k 0));
}
