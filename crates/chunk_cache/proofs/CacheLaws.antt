-- Laws of a cache's list: what stays without a key, and what is counted.
use Rattle.std.proofs.Common.{◌≡◌, ℕ, ◌+◌, ◌^◌, ◌<◌, ◌≤◌, true, false, not, List, [], ◌∷◌, length, Option, Some, None, unwrap_or, refl, sym, ap, subst, arith}
use Rattle.std.specs.List.{AllByRecursion, IsDistinct}
use Rattle.std.specs.Map.{remove_entry, keys_of, values_of}
use Rattle.std.specs.Option.{option_map, option_map_or}
use Rattle.std.specs.Str.{bytes_eq}
use Rattle.std.specs.Cmp.Lexicographic.{same_text}
use Rattle.std.proofs.lemmas.List.Sums.{sum_by-cons}
use Rattle.std.proofs.lemmas.Map.Entries.{sum_by-remove_entry}
use Rattle.std.proofs.lemmas.Map.Made.{IsDistinct-keys_filter}
use Rattle.chunk_cache.specs.Snapshot.{SnapshotCells, size_of}
use Rattle.chunk_cache.specs.Cache.{CacheList, IsCache, cells_of, kept, without, after_hit}

-- one entry more has its cells more
pub cells_of-cons : (entry : List ℕ × SnapshotCells) (entries : List (List ℕ × SnapshotCells)) → cells_of (entry ∷ entries) ≡ size_of entry.1 + cells_of entries
cells_of-cons entry entries = sum_by-cons size_of entry.1 (values_of entries)

-- nothing is kept under a key that was taken out
pub kept-without : (key : List ℕ) (entries : List (List ℕ × SnapshotCells)) → kept key (without key entries) ≡ None
kept-without key [] = refl
kept-without key (e ∷ es) = (elim (bytes_eq key e.0) as (λ b. bytes_eq key e.0 ≡ b → kept key (without key (e ∷ es)) ≡ None) [
  | true ↦ λ t. rw t (kept-without key es)
  | false ↦ λ t. rw (t, t) (kept-without key es)
]) refl

-- a key that no entry has takes nothing out
without-absent : (key : List ℕ) (entries : List (List ℕ × SnapshotCells)) → AllByRecursion (λ other. bytes_eq key other ≡ false) (keys_of entries) → without key entries ≡ entries
without-absent key [] absent = refl
without-absent key (e ∷ es) absent = let here = absent.0 in rw here (ap (λ rest. e ∷ rest) (without-absent key es absent.1))

-- nor does one under which nothing is kept
pub without-missed : (key : List ℕ) (entries : List (List ℕ × SnapshotCells)) → kept key entries ≡ None → without key entries ≡ entries
without-missed key [] is = refl
without-missed key (e ∷ es) is = (elim (bytes_eq key e.0) as (λ b. bytes_eq key e.0 ≡ b → without key (e ∷ es) ≡ e ∷ es) [
  | true ↦ λ t. let at = rw t at is in cc
  | false ↦ λ t. rw t (ap (λ rest. e ∷ rest) (without-missed key es (rw t at is)))
]) refl

-- where keys are apart, one entry at most goes
pub remove_entry-without : (key : List ℕ) (entries : List (List ℕ × SnapshotCells)) → IsDistinct bytes_eq (keys_of entries)
    → remove_entry (bytes_eq key) entries ≡ without key entries
unfolding IsDistinct
remove_entry-without key [] apart = refl
remove_entry-without key (e ∷ es) apart = (elim (bytes_eq key e.0) as (λ b. bytes_eq key e.0 ≡ b → remove_entry (bytes_eq key) (e ∷ es) ≡ without key (e ∷ es)) [
  | true ↦ λ t. rw t (sym (without-absent key es
      (subst (λ k. AllByRecursion (λ other. bytes_eq k other ≡ false) (keys_of es)) (sym (same_text key e.0 (sym t))) apart.0)))
  | false ↦ λ t. rw t (ap (λ rest. e ∷ rest) (remove_entry-without key es apart.1))
]) refl

-- the entries that stay have other keys
absent_without : (key : List ℕ) (entries : List (List ℕ × SnapshotCells)) → AllByRecursion (λ other. bytes_eq key other ≡ false) (keys_of (without key entries))
absent_without key [] = tt
absent_without key (e ∷ es) = (elim (bytes_eq key e.0) as (λ b. bytes_eq key e.0 ≡ b → AllByRecursion (λ other. bytes_eq key other ≡ false) (keys_of (without key (e ∷ es)))) [
  | true ↦ λ t. rw t (absent_without key es)
  | false ↦ λ t. rw t (t, absent_without key es)
]) refl

pub IsDistinct-without : (key : List ℕ) (entries : List (List ℕ × SnapshotCells)) → IsDistinct bytes_eq (keys_of entries) → IsDistinct bytes_eq (keys_of (without key entries))
IsDistinct-without key entries apart = IsDistinct-keys_filter bytes_eq (λ entry. not (bytes_eq key entry.0)) entries apart

-- an entry may come first once its key was taken out
pub IsDistinct-first : (key : List ℕ) (snapshot : SnapshotCells) (entries : List (List ℕ × SnapshotCells)) → IsDistinct bytes_eq (keys_of entries)
    → IsDistinct bytes_eq (keys_of ((key, snapshot) ∷ without key entries))
unfolding IsDistinct
IsDistinct-first key snapshot entries apart = (absent_without key entries, IsDistinct-without key entries apart)

counted : (found : Option SnapshotCells) → unwrap_or (option_map size_of found) 0 ≡ option_map_or size_of found 0
counted None = refl
counted (Some snapshot) = refl

-- the cells of what was taken out, and of what stays
pub cells_of-without : (key : List ℕ) (entries : List (List ℕ × SnapshotCells)) → IsDistinct bytes_eq (keys_of entries)
    → cells_of (without key entries) + option_map_or size_of (kept key entries) 0 ≡ cells_of entries
cells_of-without key entries apart =
    let rest = ap cells_of (remove_entry-without key entries apart) in
    let all = sum_by-remove_entry size_of (bytes_eq key) entries in
    omega (arith, rest, all, counted (kept key entries))

pub length-without : (key : List ℕ) (entries : List (List ℕ × SnapshotCells)) → length (without key entries) ≤ length entries
length-without key [] = omega arith
length-without key (e ∷ es) = (elim (bytes_eq key e.0) as (λ b. bytes_eq key e.0 ≡ b → length (without key (e ∷ es)) ≤ length (e ∷ es)) [
  | true ↦ λ t. rw t (let rest = length-without key es in omega (arith, rest))
  | false ↦ λ t. rw t (let rest = length-without key es in omega (arith, rest))
]) refl

-- where something is kept under the key, there is one entry fewer at least
length-without-lt : (key : List ℕ) (snapshot : SnapshotCells) (entries : List (List ℕ × SnapshotCells)) → kept key entries ≡ Some snapshot → length (without key entries) < length entries
length-without-lt key snapshot [] is = cc
length-without-lt key snapshot (e ∷ es) is = (elim (bytes_eq key e.0) as (λ b. bytes_eq key e.0 ≡ b → length (without key (e ∷ es)) < length (e ∷ es)) [
  | true ↦ λ t. rw t (let rest = length-without key es in omega (arith, rest))
  | false ↦ λ t. rw t (let rest = length-without-lt key snapshot es (rw t at is) in omega (arith, rest))
]) refl

-- what stays of a cache without a key is a cache
pub IsCache-without : (key : List ℕ) (cache : CacheList) → IsCache cache → IsCache (record cache { entries = without key cache.entries })
IsCache-without key cache is =
    let cells = cells_of-without key cache.entries is.apart in
    let chunks = length-without key cache.entries in
    record {
      small = is.small;
      in_cells = omega (arith, cells, is.in_cells);
      in_chunks = omega (arith, chunks, is.in_chunks);
      apart = IsDistinct-without key cache.entries is.apart;
    }

-- a hit counts no cell more
cells_after_hit : (key : List ℕ) (entries : List (List ℕ × SnapshotCells)) (found : Option SnapshotCells) → IsDistinct bytes_eq (keys_of entries) → kept key entries ≡ found
    → cells_of (option_map_or (λ snapshot. (key, snapshot) ∷ without key entries) found entries) ≡ cells_of entries
cells_after_hit key entries None apart is = refl
cells_after_hit key entries (Some snapshot) apart is =
    let first = cells_of-cons (key, snapshot) (without key entries) in
    let rest = subst (λ o. cells_of (without key entries) + option_map_or size_of o 0 ≡ cells_of entries) is (cells_of-without key entries apart) in
    omega (arith, first, rest)

pub cells_of-after_hit : (key : List ℕ) (entries : List (List ℕ × SnapshotCells)) → IsDistinct bytes_eq (keys_of entries) → cells_of (after_hit key entries) ≡ cells_of entries
cells_of-after_hit key entries apart = cells_after_hit key entries (kept key entries) apart refl

-- nor a chunk more
chunks_after_hit : (key : List ℕ) (entries : List (List ℕ × SnapshotCells)) (found : Option SnapshotCells) → kept key entries ≡ found
    → length (option_map_or (λ snapshot. (key, snapshot) ∷ without key entries) found entries) ≤ length entries
chunks_after_hit key entries None is = omega arith
chunks_after_hit key entries (Some snapshot) is = let rest = length-without-lt key snapshot entries is in omega (arith, rest)

apart_after_hit : (key : List ℕ) (entries : List (List ℕ × SnapshotCells)) (found : Option SnapshotCells) → IsDistinct bytes_eq (keys_of entries)
    → IsDistinct bytes_eq (keys_of (option_map_or (λ snapshot. (key, snapshot) ∷ without key entries) found entries))
apart_after_hit key entries None apart = apart
apart_after_hit key entries (Some snapshot) apart = IsDistinct-first key snapshot entries apart

pub IsCache-after_hit : (key : List ℕ) (cache : CacheList) → IsCache cache → IsCache (record cache { entries = after_hit key cache.entries })
IsCache-after_hit key cache is =
    let cells = cells_of-after_hit key cache.entries is.apart in
    let chunks = chunks_after_hit key cache.entries (kept key cache.entries) refl in
    record {
      small = is.small;
      in_cells = omega (arith, cells, is.in_cells);
      in_chunks = omega (arith, chunks, is.in_chunks);
      apart = apart_after_hit key cache.entries (kept key cache.entries) is.apart;
    }

-- an empty list is a cache
pub IsCache-empty : (limit : ℕ) → limit ≤ 2 ^ 27 → IsCache (record { limit = limit; entries = [] })
unfolding IsDistinct
IsCache-empty limit small = record { small = small; in_cells = omega arith; in_chunks = omega arith; apart = tt }

-- a look-up that finds nothing leaves the order
pub after_hit-missed : (key : List ℕ) (entries : List (List ℕ × SnapshotCells)) → kept key entries ≡ None → after_hit key entries ≡ entries
after_hit-missed key entries is = ap (λ found. option_map_or (λ snapshot. (key, snapshot) ∷ without key entries) found entries) is
