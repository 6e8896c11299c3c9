-- A cache as a list of keys with what is kept under them, the last used first.
use Rattle.std.specs.Prelude.{◌≡◌, ℕ, ◌-◌, ◌^◌, ◌≤◌, ◌&&◌, not, if◌then◌else◌, nat_le, nat_lt, List, [], ◌∷◌, length, take, Option}
use Rattle.std.specs.List.{filter, sum_by, IsDistinct}
use Rattle.std.specs.Map.{lookup, keys_of, values_of}
use Rattle.std.specs.Option.{option_map_or}
use Rattle.std.specs.Str.{bytes_eq}
use Rattle.chunk_cache.specs.Snapshot.{SnapshotCells, size_of}

-- the most chunks that a cache keeps
abbrev pub most_chunks : ℕ
most_chunks = 65536

-- what contracts see of a cache: the most cells, and what is kept, the last used first
pub record CacheList : Type 0 where
  pub limit : ℕ
  pub entries : List (List ℕ × SnapshotCells)

-- how many cells are kept
abbrev pub cells_of : List (List ℕ × SnapshotCells) → ℕ
cells_of entries = sum_by size_of (values_of entries)

-- what is kept under a key
abbrev pub kept : List ℕ → List (List ℕ × SnapshotCells) → Option SnapshotCells
kept key entries = lookup (bytes_eq key) entries

-- what is kept under other keys
abbrev pub without : List ℕ → List (List ℕ × SnapshotCells) → List (List ℕ × SnapshotCells)
without key entries = filter (λ entry. not (bytes_eq key entry.0)) entries

-- the first entries, as many as fit so many cells and chunks
abbrev pub fitting : ℕ → ℕ → List (List ℕ × SnapshotCells) → List (List ℕ × SnapshotCells)
fitting cells chunks [] = []
fitting cells chunks (entry ∷ entries) =
    if nat_le (size_of entry.1) cells && nat_lt 0 chunks then entry ∷ fitting (cells - size_of entry.1) (chunks - 1) entries else []

-- the first of the entries: they keep both bounds, and no more of them do
pub record IsLongestFront (cells chunks : ℕ) (entries front : List (List ℕ × SnapshotCells)) : Type 0 where
  pub begins : take (length front) entries ≡ front
  pub in_cells : cells_of front ≤ cells
  pub in_chunks : length front ≤ chunks
  pub longest : (n : ℕ) → n ≤ length entries → cells_of (take n entries) ≤ cells → n ≤ chunks → n ≤ length front

-- a look-up brings the entry of its key to the front
abbrev pub after_hit : List ℕ → List (List ℕ × SnapshotCells) → List (List ℕ × SnapshotCells)
after_hit key entries = option_map_or (λ snapshot. (key, snapshot) ∷ without key entries) (kept key entries) entries

-- a chunk that is kept comes first, in place of what was kept under its key, and the last entries go until the limits are kept; a
-- chunk larger than the limit isn't kept
abbrev pub after_keep : ℕ → List ℕ → SnapshotCells → List (List ℕ × SnapshotCells) → List (List ℕ × SnapshotCells)
after_keep limit key snapshot entries =
    if nat_le (size_of snapshot) limit then fitting limit most_chunks ((key, snapshot) ∷ without key entries) else without key entries

-- a key that is dropped goes
abbrev pub after_drop : List ℕ → List (List ℕ × SnapshotCells) → List (List ℕ × SnapshotCells)
after_drop key entries = without key entries

-- what holds of every cache
pub record IsCache (cache : CacheList) : Type 0 where
  pub small : cache.limit ≤ 2 ^ 27
  pub in_cells : cells_of cache.entries ≤ cache.limit
  pub in_chunks : length cache.entries ≤ most_chunks
  pub apart : IsDistinct bytes_eq (keys_of cache.entries)
