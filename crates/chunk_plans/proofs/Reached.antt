-- What is written for a chunk that reaches into its array loses no word.
use Rattle.std.proofs.lemmas.Bool.Decides.{nat_tests}
use Rattle.std.proofs.Common.{◌≡◌, ℕ, zero, suc, ◌*◌, ◌<◌, List, [], ◌∷◌, length, true, refl, ap, arith}
use Rattle.std.specs.Prelude.{◌+◌, ◌-◌, nat_lt, min}
use Rattle.cells.specs.Places.{IsInside}
use Rattle.cells.proofs.Laws.{both}
use Rattle.chunk_forms.specs.Words.{is_inside}
use Rattle.n5_blocks.specs.Block.{cut_sizes}
use Rattle.history.specs.Chunks.{in_array}
use Rattle.history.specs.Resizes.{reaches_into}
use Rattle.std.specs.Prelude.{slice_index}

pub below : (a b : ℕ) → nat_lt a b ≡ true → a < b
below a b h = grind (arith, nat_tests, h)

least : (x n s from : ℕ) → x < n → from + x < s → x < min n (s - from)
least x n s from low high = omega (arith, low, high)

-- a chunk that reaches into the shape begins in it
pub reached_ranks : (chunk shape index : List ℕ) → reaches_into chunk shape index ≡ true → (length index ≡ length shape) × (length index ≡ length chunk)
reached_ranks [] [] [] r = (refl, refl)
reached_ranks [] [] (c ∷ index) r = absurd (cc)
reached_ranks [] (s ∷ shape) index r = absurd (cc)
reached_ranks (n ∷ chunk) [] index r = absurd (cc)
reached_ranks (n ∷ chunk) (s ∷ shape) [] r = absurd (cc)
reached_ranks (n ∷ chunk) (s ∷ shape) (c ∷ index) r =
    let more = reached_ranks chunk shape index (both (nat_lt (c * n) s) (reaches_into chunk shape index) r).1 in (ap suc more.0, ap suc more.1)

pub reached_begins : (chunk shape index : List ℕ) → reaches_into chunk shape index ≡ true → (k : ℕ) → k < length shape → slice_index index k * slice_index chunk k < slice_index shape k
reached_begins [] [] index r k less = absurd (omega (arith, less))
reached_begins [] (s ∷ shape) index r k less = absurd (cc)
reached_begins (n ∷ chunk) [] index r k less = absurd (cc)
reached_begins (n ∷ chunk) (s ∷ shape) [] r k less = absurd (cc)
reached_begins (n ∷ chunk) (s ∷ shape) (c ∷ index) r zero less = below (c * n) s (both (nat_lt (c * n) s) (reaches_into chunk shape index) r).0
reached_begins (n ∷ chunk) (s ∷ shape) (c ∷ index) r (suc k) less =
    reached_begins chunk shape index (both (nat_lt (c * n) s) (reaches_into chunk shape index) r).1 k (omega (arith, less))

-- a cell of a block that lies in the array is stored
pub within_cut : (block shape index at : List ℕ) → IsInside block at → is_inside shape (in_array block index at) ≡ true → length index ≡ length block → IsInside (cut_sizes block shape index) at
within_cut [] shape index [] inside here rank = tt
within_cut [] shape index (x ∷ at) inside here rank = absurd inside
within_cut (n ∷ block) shape index [] inside here rank = absurd inside
within_cut (n ∷ block) shape [] (x ∷ at) inside here rank = absurd (omega (arith, rank))
within_cut (n ∷ block) [] (c ∷ index) (x ∷ at) inside here rank = absurd (cc)
within_cut (n ∷ block) (s ∷ shape) (c ∷ index) (x ∷ at) inside here rank =
    let parts = both (nat_lt (c * n + x) s) (is_inside shape (in_array block index at)) here in
    (least x n s (c * n) inside.0 (below (c * n + x) s parts.0), within_cut block shape index at inside.1 parts.1 (omega (arith, rank)))
