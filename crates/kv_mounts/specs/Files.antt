-- What a contract sees of a store of files: how many faults there were, and whether it is finished; and which keys are files.
use Rattle.std.specs.Prelude.{ℕ, List, [], None, codes, Bool, not, ◌&&◌, ◌||◌, ◌==◌, length, nat_eq, if◌then◌else◌}
use Rattle.std.specs.List.{list_all, slice_split, ends_with}
use Rattle.std.specs.Str.{bytes_eq}
use Rattle.kv_face.specs.Store.{Standing, StoreSeen, opened, finished}

pub record FileStore : Type 0 where
  pub faults : ℕ
  pub is_finished : Bool

-- finished by `finish`, open again by a change
abbrev pub file_standing : FileStore → Standing
file_standing s = if s.is_finished then finished else opened

-- what it tells of itself: no contents and no number of changes; it takes every key, and makes one change at a time
abbrev pub file_seen : FileStore → StoreSeen
file_seen s = record {
  contents = None;
  faults = s.faults;
  counts = [];
  prefixes = [];
  names = None;
  standing = file_standing s;
  changes = None;
}

-- a part of a key that names no file of its own: empty, "." or ".."
abbrev pub is_step : List ℕ → Bool
is_step part = length part == 0 || (bytes_eq part (codes ".") || bytes_eq part (codes ".."))

-- a part of a key that may name a file or a folder: none of these, and no name under which bytes are written first
abbrev pub is_part : List ℕ → Bool
is_part part = not (is_step part) && not (ends_with nat_eq part (codes "~new"))

-- the key names a file below the folder: each of its parts between slashes may name one
abbrev pub is_inside : List ℕ → Bool
is_inside key = list_all is_part (slice_split (λ b. b == 47) key)
