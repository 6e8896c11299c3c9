-- The cells of a view in one chunk: words that are put there, and words that are asked for.
use Rattle.std.specs.Prelude.{◌≡◌, ℕ, ◌+◌, List, [], ◌∷◌, true, Some, option_map, slice_index}
use Rattle.std.specs.Str.{bytes_eq}
use Rattle.cells.specs.Runs.{Pair}
use Rattle.chunk_versions.specs.declared.asked.AskedCell.{AskedCell}
use Rattle.history.specs.Writes.{Content}
use Rattle.stack_driver.specs.Targets.{inwards, outwards}
use Rattle.transaction_cells.specs.Sites.{Site}
use Rattle.version_store.specs.declared.placed.PlacedWord.{PlacedWord}

-- the view's word of a pair, at the pair's place in the chunk
abbrev pub placed_word : List ℕ → Pair → PlacedWord
placed_word words pair = record { place = pair.chunk; word = slice_index words pair.view }

-- the same of a read: also which leaf's casts the word is shown through
abbrev pub asked_cell : List ℕ → List ℕ → Pair → AskedCell
asked_cell leaves words pair = record { place = pair.chunk; leaf = slice_index leaves pair.view; word = slice_index words pair.view }

-- from this place on the words are those that are kept for the view's, each taken back through the casts of its cell
abbrev pub AreKept : List ℕ → ℕ → List Site → List ℕ → Type 0
AreKept kept at [] words = Unit {0}
AreKept kept at (s ∷ sites) [] = Unit {0}
AreKept kept at (s ∷ sites) (word ∷ words) = (slice_index kept at ≡ inwards s.target.casts word) × AreKept kept (at + 1) sites words

-- a content shows the word at a cell, through its casts
abbrev pub IsShownAt : Content → Site → ℕ → Type 0
IsShownAt content s word = option_map (outwards s.target.casts) (content s.target.cell) ≡ Some word

-- so it does at each of the cells that lie in the chunk of this id
abbrev pub AreShownIn : Content → List ℕ → List Site → List ℕ → Type 0
AreShownIn content id [] words = Unit {0}
AreShownIn content id (s ∷ sites) [] = Unit {0}
AreShownIn content id (s ∷ sites) (word ∷ words) = (bytes_eq s.id id ≡ true → IsShownAt content s word) × AreShownIn content id sites words

-- and at each cell
abbrev pub AreShown : Content → List Site → List ℕ → Type 0
AreShown content [] words = Unit {0}
AreShown content (s ∷ sites) [] = Unit {0}
AreShown content (s ∷ sites) (word ∷ words) = IsShownAt content s word × AreShown content sites words
