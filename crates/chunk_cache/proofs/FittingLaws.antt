-- Laws of the first entries that fit.
use Rattle.std.proofs.Common.{◌≡◌, ℕ, zero, suc, ◌-◌, ◌^◌, ◌<◌, ◌≤◌, Bool, true, false, ◌&&◌, List, [], ◌∷◌, ◌++◌, length, take, nat_le, nat_lt, if◌then◌else◌, ◌⊎◌, inl, inr, refl, ap, arith}
use Rattle.std.specs.List.{AllByRecursion, IsDistinct}
use Rattle.std.specs.Map.{keys_of}
use Rattle.std.specs.Str.{bytes_eq}
use Rattle.std.proofs.lemmas.Bool.{and_parts, leb-true, ltb-true, le-leb, lt-ltb}
use Rattle.chunk_cache.specs.Snapshot.{SnapshotCells, size_of}
use Rattle.chunk_cache.specs.Cache.{IsCache, IsLongestFront, cells_of, fitting, most_chunks}
use Rattle.chunk_cache.proofs.CacheLaws.{cells_of-cons}

-- whether the first entry fits
abbrev fits : (entry : List ℕ × SnapshotCells) (cells chunks : ℕ) → Bool
fits entry cells chunks = nat_le (size_of entry.1) cells && nat_lt 0 chunks

fits-cells : (entry : List ℕ × SnapshotCells) (cells chunks : ℕ) → fits entry cells chunks ≡ true → size_of entry.1 ≤ cells
fits-cells entry cells chunks t = leb-true _ _ (and_parts (nat_le (size_of entry.1) cells) (nat_lt 0 chunks) t).0

fits-chunks : (entry : List ℕ × SnapshotCells) (cells chunks : ℕ) → fits entry cells chunks ≡ true → 0 < chunks
fits-chunks entry cells chunks t = ltb-true _ _ (and_parts (nat_le (size_of entry.1) cells) (nat_lt 0 chunks) t).1

-- entries within both bounds all fit
pub fitting-all : (cells chunks : ℕ) (entries : List (List ℕ × SnapshotCells)) → cells_of entries ≤ cells → length entries ≤ chunks → fitting cells chunks entries ≡ entries
fitting-all cells chunks [] in_cells in_chunks = refl
fitting-all cells chunks (e ∷ es) in_cells in_chunks =
    let first = cells_of-cons e es in
    let size : nat_le (size_of e.1) cells ≡ true = le-leb _ _ (omega (arith, first, in_cells)) in
    let room : nat_lt 0 chunks ≡ true = lt-ltb _ _ (omega (arith, in_chunks)) in
    rw (size, room) (ap (λ rest. e ∷ rest) (fitting-all (cells - size_of e.1) (chunks - 1) es (omega (arith, first, in_cells)) (omega (arith, in_chunks))))

-- where entries pass a bound, the last one doesn't fit
pub fitting-push : (cells chunks : ℕ) (entries : List (List ℕ × SnapshotCells)) (last : List ℕ × SnapshotCells)
    → (cells < cells_of (entries ++ last ∷ [])) ⊎ (chunks < length (entries ++ last ∷ [])) → fitting cells chunks (entries ++ last ∷ []) ≡ fitting cells chunks entries
fitting-push cells chunks [] last past = (elim (fits last cells chunks) as (λ b. fits last cells chunks ≡ b → (if b then last ∷ [] else []) ≡ []) [
  | true ↦ λ t. absurd (elim past [
    | inl more ↦ let one = cells_of-cons last [] in omega (arith, one, more, fits-cells last cells chunks t)
    | inr more ↦ omega (arith, more, fits-chunks last cells chunks t)
  ])
  | false ↦ λ t. refl
]) refl
fitting-push cells chunks (e ∷ es) last past =
    (elim (fits e cells chunks) as (λ b. fits e cells chunks ≡ b
    → (if b then e ∷ fitting (cells - size_of e.1) (chunks - 1) (es ++ last ∷ []) else []) ≡ (if b then e ∷ fitting (cells - size_of e.1) (chunks - 1) es else [])) [
      | true ↦ λ t. ap (λ rest. e ∷ rest) (fitting-push (cells - size_of e.1) (chunks - 1) es last (elim past [
        | inl more ↦ inl (let first = cells_of-cons e (es ++ last ∷ []) in let size = fits-cells e cells chunks t in omega (arith, first, size, more))
        | inr more ↦ inr (let room = fits-chunks e cells chunks t in omega (arith, room, more))
      ]))
      | false ↦ λ t. refl
    ]) refl

-- what fits keeps the bounds
pub cells_of-fitting : (cells chunks : ℕ) (entries : List (List ℕ × SnapshotCells)) → cells_of (fitting cells chunks entries) ≤ cells
cells_of-fitting cells chunks [] = omega arith
cells_of-fitting cells chunks (e ∷ es) =
    (elim (fits e cells chunks) as (λ b. fits e cells chunks ≡ b → cells_of (if b then e ∷ fitting (cells - size_of e.1) (chunks - 1) es else []) ≤ cells) [
      | true ↦ λ t.
          let first = cells_of-cons e (fitting (cells - size_of e.1) (chunks - 1) es) in
          let rest = cells_of-fitting (cells - size_of e.1) (chunks - 1) es in
          omega (arith, first, rest, fits-cells e cells chunks t)
      | false ↦ λ t. omega arith
    ]) refl

pub length-fitting : (cells chunks : ℕ) (entries : List (List ℕ × SnapshotCells)) → length (fitting cells chunks entries) ≤ chunks
length-fitting cells chunks [] = omega arith
length-fitting cells chunks (e ∷ es) =
    (elim (fits e cells chunks) as (λ b. fits e cells chunks ≡ b → length (if b then e ∷ fitting (cells - size_of e.1) (chunks - 1) es else []) ≤ chunks) [
      | true ↦ λ t. let rest = length-fitting (cells - size_of e.1) (chunks - 1) es in omega (arith, rest, fits-chunks e cells chunks t)
      | false ↦ λ t. omega arith
    ]) refl

-- what fits is among the entries
AllByRecursion-fitting : (P : List ℕ → Type 0) (cells chunks : ℕ) (entries : List (List ℕ × SnapshotCells)) → AllByRecursion P (keys_of entries)
    → AllByRecursion P (keys_of (fitting cells chunks entries))
AllByRecursion-fitting P cells chunks [] all = tt
AllByRecursion-fitting P cells chunks (e ∷ es) all =
    elim (fits e cells chunks) as (λ b. AllByRecursion P (keys_of (if b then e ∷ fitting (cells - size_of e.1) (chunks - 1) es else []))) [
      | true ↦ (all.0, AllByRecursion-fitting P (cells - size_of e.1) (chunks - 1) es all.1)
      | false ↦ tt
    ]

pub IsDistinct-fitting : (cells chunks : ℕ) (entries : List (List ℕ × SnapshotCells)) → IsDistinct bytes_eq (keys_of entries) → IsDistinct bytes_eq (keys_of (fitting cells chunks entries))
unfolding IsDistinct
IsDistinct-fitting cells chunks [] apart = tt
IsDistinct-fitting cells chunks (e ∷ es) apart =
    elim (fits e cells chunks) as (λ b. IsDistinct bytes_eq (keys_of (if b then e ∷ fitting (cells - size_of e.1) (chunks - 1) es else []))) [
      | true ↦ (
        AllByRecursion-fitting (λ other. bytes_eq e.0 other ≡ false) (cells - size_of e.1) (chunks - 1) es apart.0,
        IsDistinct-fitting (cells - size_of e.1) (chunks - 1) es apart.1,
      )
      | false ↦ tt
    ]

-- so the entries that fit a limit are a cache
pub IsCache-fitting : (limit : ℕ) (entries : List (List ℕ × SnapshotCells)) → limit ≤ 2 ^ 27 → IsDistinct bytes_eq (keys_of entries)
    → IsCache (record { limit = limit; entries = fitting limit most_chunks entries })
IsCache-fitting limit entries small apart = record {
  small = small;
  in_cells = cells_of-fitting limit most_chunks entries;
  in_chunks = length-fitting limit most_chunks entries;
  apart = IsDistinct-fitting limit most_chunks entries apart;
}

begins : (cells chunks : ℕ) (entries : List (List ℕ × SnapshotCells)) → take (length (fitting cells chunks entries)) entries ≡ fitting cells chunks entries
begins cells chunks [] = refl
begins cells chunks (e ∷ es) =
    elim (fits e cells chunks) as (λ b. take (length (if b then e ∷ fitting (cells - size_of e.1) (chunks - 1) es else [])) (e ∷ es) ≡ (if b then e ∷ fitting (cells - size_of e.1) (chunks - 1) es else [])) [
      | true ↦ ap (λ rest. e ∷ rest) (begins (cells - size_of e.1) (chunks - 1) es)
      | false ↦ refl
    ]

-- entries that keep both bounds are among those that fit
longest : (cells chunks : ℕ) (entries : List (List ℕ × SnapshotCells)) (n : ℕ) → n ≤ length entries → cells_of (take n entries) ≤ cells → n ≤ chunks → n ≤ length (fitting cells chunks entries)
longest cells chunks [] n inside in_cells in_chunks = inside
longest cells chunks (e ∷ es) zero inside in_cells in_chunks = omega arith
longest cells chunks (e ∷ es) (suc n) inside in_cells in_chunks =
    let first = cells_of-cons e (take n es) in
    let size : nat_le (size_of e.1) cells ≡ true = le-leb _ _ (omega (arith, first, in_cells)) in
    let room : nat_lt 0 chunks ≡ true = lt-ltb _ _ (omega (arith, in_chunks)) in
    let rest = longest (cells - size_of e.1) (chunks - 1) es n (omega (arith, inside)) (omega (arith, first, in_cells)) (omega (arith, in_chunks)) in
    rw (size, room) (omega (arith, rest))

-- what fits is the longest front within both bounds
pub IsLongestFront-fitting : (cells chunks : ℕ) (entries : List (List ℕ × SnapshotCells)) → IsLongestFront cells chunks entries (fitting cells chunks entries)
IsLongestFront-fitting cells chunks entries = record {
  begins = begins cells chunks entries;
  in_cells = cells_of-fitting cells chunks entries;
  in_chunks = length-fitting cells chunks entries;
  longest = longest cells chunks entries;
}
