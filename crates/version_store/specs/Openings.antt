-- How the chunks of arrays begin.
use Rattle.std.specs.Prelude.{◌≡◌, ℕ, [], ◌∷◌, nat_le, Option, Some, None, if◌then◌else◌}
use Rattle.chunk_versions.specs.Versions.{Versions, word_as_of}
use Rattle.version_store.specs.declared.opening.Opening.{Opening}

-- that of no array
abbrev pub no_opening : Opening
no_opening = record { opened = 0; size = 0; fill = 0 }

-- a chunk that only the opening of its array touched: the same word at each place from then on
pub record IsNew (o : Opening) (v : Versions) : Type 0 where
  pub size : v.size ≡ o.size
  pub touches : v.touches ≡ o.opened ∷ []
  pub words : (m place : ℕ) → word_as_of v m place ≡ (if nat_le o.opened m then Some o.fill else None)

-- the versions of a chunk, by what is kept of it; where nothing is, it is new
abbrev pub IsKeptAs : Opening → Option Versions → Versions → Type 0
IsKeptAs o None v = IsNew o v
IsKeptAs o (Some kept) v = v ≡ kept
