-- The list that a cache keeps, by its keys' bytes.
use Rattle.std.specs.Prelude.{ℕ, List, map, String, string_bytes}
use Rattle.chunk_cache.specs.Snapshot.{SnapshotCells}

-- the entries, with the bytes of their keys
abbrev pub entries_of : {Z : Type 0} → List (String Z × SnapshotCells) → List (List ℕ × SnapshotCells)
entries_of entries = map (λ entry. (string_bytes entry.0, entry.1)) entries
