-- What mounts are together, as one store.
use Rattle.std.specs.Prelude.{◌≡◌, ◌<◌, ℕ, ◌+◌, length, slice_index_or, List, [], ◌∷◌, ◌++◌, map, sum_by, Bool, true, false, Option, Some, None, option_map, option_and_then, if◌then◌else◌}
use Rattle.std.specs.List.{flat_map, list_any}
use Rattle.std.specs.FinMap as finmap
use Rattle.kv_face.specs.Store.{Contents, Standing, StoreSeen, opened, finished, failing}
use Rattle.kv_mounts.specs.Parts.{Part, below, begins, names_of}

-- keys and their bytes
abbrev pub Entries : Type 0
Entries = List (List ℕ × List ℕ)

-- what a store holds, each key behind the mount's name and a slash
abbrev pub entries_below : List ℕ → Contents → Entries
entries_below name m = map (λ (e : List ℕ × List ℕ). (below name e.0, e.1)) (finmap.entries m)

-- what all stores hold, where each tells it
abbrev pub entries_of : List Part → Option Entries
entries_of [] = Some []
entries_of (p ∷ ps) = option_and_then (λ m. option_map (λ es. entries_below p.name m ++ es) (entries_of ps)) p.contents

-- the disjoint union of the stores' maps under the names, where each store tells its own
abbrev pub union_of : List Part → Option Contents
union_of parts = option_map (λ es. finmap.from_entries es) (entries_of parts)

-- the sum of the counts of faults
abbrev pub faults_of : List Part → ℕ
faults_of parts = sum_by (λ (p : Part). p.faults) parts

-- the counts of faults of the stores
abbrev pub counts_of : List Part → List ℕ
counts_of parts = map (λ (p : Part). p.faults) parts

-- the prefixes of all stores, each behind the mount's name and a slash
abbrev pub prefixes_of : List Part → List (List ℕ)
prefixes_of parts = flat_map (λ (p : Part). map (below p.name) p.prefixes) parts

abbrev pub is_open : Part → Bool
is_open p = elim p.standing [ opened ↦ true | finished ↦ false | failing ↦ false ]

abbrev pub has_failed : Part → Bool
has_failed p = elim p.standing [ opened ↦ false | finished ↦ false | failing ↦ true ]

-- open where one is, else failed where one is, else finished
abbrev pub standing_of : List Part → Standing
standing_of parts = if list_any is_open parts then opened else if list_any has_failed parts then failing else finished

-- the sum of numbers, where each is told
abbrev pub sum_told : List (Option ℕ) → Option ℕ
sum_told [] = Some 0
sum_told (n ∷ ns) = option_and_then (λ a. option_map (λ b. a + b) (sum_told ns)) n

-- the sum of the numbers of changes, where each store tells its own
abbrev pub change_count_of : List Part → Option ℕ
change_count_of parts = sum_told (map (λ (p : Part). p.change_count) parts)

-- what mounts tell as one store
abbrev pub seen_of : List Part → StoreSeen
seen_of parts = record {
  contents = union_of parts;
  faults = faults_of parts;
  counts = counts_of parts;
  prefixes = prefixes_of parts;
  names = Some (names_of parts);
  standing = standing_of parts;
  changes = change_count_of parts;
}

-- a map is the disjoint union: it has under NAME/REST what the store of the mount NAME has under REST, and nothing else
pub record IsUnion (parts : List Part) (m : Contents) : Type 0 where
  pub under : (i : ℕ) (p : Part) (mine : Contents) (rest : List ℕ) → i < length parts → p ≡ slice_index_or parts i p → p.contents ≡ Some mine → finmap.get m (below p.name rest) ≡ finmap.get mine rest
  pub elsewhere : (key : List ℕ) → list_any (λ (p : Part). begins p.name key) parts ≡ false → finmap.get m key ≡ None
