-- The only block of an array is written whole.
use Rattle.std.proofs.Common.{◌≡◌, ℕ, zero, suc, ◌-◌, ◌*◌, ◌<◌, ◌≤◌, List, [], ◌∷◌, length, get_or, refl, sym, ap, subst, ◌∙◌, arith}
use Rattle.std.specs.Prelude.{min}
use Rattle.cells.specs.Places.{IsInside}
use Rattle.n5_blocks.specs.Metadata.{Metadata, IsMetadata}
use Rattle.n5_blocks.specs.Block.{IsReached, IsZeroOutside, cut_sizes}

-- nothing is cut off
cut_whole : (block index : List ℕ) → length index ≡ length block → ((k : ℕ) → k < length index → get_or index k 0 ≡ 0) → cut_sizes block block index ≡ block
cut_whole [] index same zeros = refl
cut_whole (n ∷ ns) [] same zeros = absurd (omega (arith, same))
cut_whole (n ∷ ns) (c ∷ cs) same zeros =
    let none : c ≡ 0 = zeros 0 (omega arith) in
    let here : min n (n - c * n) ≡ n = rw none (omega arith) in
    let rest = cut_whole ns cs (omega (arith, same)) (λ k less. zeros (suc k) (omega arith)) in
    rw (here, rest) refl

pub whole : (m : Metadata) (index : List ℕ) → IsMetadata m → length index ≡ length m.dimensions → ((k : ℕ) → k < length index → get_or index k 0 ≡ 0) → m.dimensions ≡ m.block
    → IsReached m index × ((word : List ℕ → ℕ) → IsZeroOutside m index word)
whole m index rules same zeros is = (
  record {
    rank = same;
    inside = λ k less.
        let none : get_or index k 0 ≡ 0 = zeros k (omega arith) in
        let some : 1 ≤ get_or m.block k 0 = rules.block.least k (omega (arith, rules.ranks)) in
        let size : get_or m.dimensions k 0 ≡ get_or m.block k 0 = ap (λ l. get_or l k 0) is in
        rw none (omega (arith, some, size));
  },
  λ word cell inside outside.
      let cut : cut_sizes m.block m.dimensions index ≡ m.block = ap (λ d. cut_sizes m.block d index) is ∙ cut_whole m.block index (same ∙ ap length is) zeros in
      absurd (outside (subst (λ s. IsInside s cell) (sym cut) inside)),
)
