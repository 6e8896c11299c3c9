-- Which words at the front of a command line name a folder.
use Rattle.std.specs.Prelude.{ℕ, Bool, true, false, List, [], ◌∷◌, codes, if◌then◌else◌}
use Rattle.std.specs.Str.{bytes_eq}

-- the first word is `--root`, and a folder stands behind it
abbrev pub names_folder : List (List ℕ) → Bool
names_folder [] = false
names_folder (option ∷ []) = false
names_folder (option ∷ folder ∷ rest) = bytes_eq option (codes "--root")

-- so many words at the front are about the mounts
abbrev pub mount_words : List (List ℕ) → ℕ
mount_words words = if names_folder words then 2 else 0
