-- Moments at which a chunk shows the cells of a read.
use Rattle.std.specs.Prelude.{◌≡◌, ◌<◌, ◌≤◌, ℕ, max, List, [], length, get_or, Some, option_map}
use Rattle.std.specs.List.{AllByRecursion}
use Rattle.cast_driver.specs.declared.cast.Cast.{Cast}
use Rattle.cast_driver.specs.Chain.{word_out}
use Rattle.chunk_versions.specs.Moments.{newest}
use Rattle.chunk_versions.specs.Versions.{Versions, word_as_of, word_in}
use Rattle.chunk_versions.specs.declared.asked.AskedCell.{AskedCell}

-- no cell
abbrev pub no_cell : AskedCell
no_cell = record { place = 0; leaf = 0; word = 0 }

-- the casts of a cell are among these
abbrev pub HasCasts : List (List Cast) → AskedCell → Type 0
HasCasts casts cell = cell.leaf < length casts

-- the casts of a cell
abbrev pub casts_of : List (List Cast) → AskedCell → List Cast
casts_of casts cell = get_or casts cell.leaf []

-- at a moment a cell has a word, which is shown as it was asked for
abbrev pub IsShown : Versions → List (List Cast) → ℕ → AskedCell → Type 0
IsShown v casts m cell = option_map (word_out (casts_of casts cell)) (word_as_of v m cell.place) ≡ Some cell.word

-- so have all of the cells
abbrev pub AreShown : Versions → List (List Cast) → ℕ → List AskedCell → Type 0
AreShown v casts m asked = AllByRecursion (IsShown v casts m) asked

-- the same behind the first `count` touches
abbrev pub IsShownBehind : Versions → List (List Cast) → ℕ → AskedCell → Type 0
IsShownBehind v casts count cell = word_out (casts_of casts cell) (word_in v cell.place count) ≡ cell.word

-- so are all of the cells
abbrev pub AreShownBehind : Versions → List (List Cast) → ℕ → List AskedCell → Type 0
AreShownBehind v casts count asked = AllByRecursion (IsShownBehind v casts count) asked

-- a moment at which all are shown, from this one on, and not behind both it and the newest touch
pub record IsMark (v : Versions) (casts : List (List Cast)) (asked : List AskedCell) (from m : ℕ) : Type 0 where
  pub not_before : from ≤ m
  pub not_behind : m ≤ max from (newest v.touches)
  pub shown : AreShown v casts m asked

-- there is no such moment from this one on, however late
abbrev pub HasNoMark : Versions → List (List Cast) → List AskedCell → ℕ → Type 0
HasNoMark v casts asked from = (m : ℕ) → from ≤ m → ¬ AreShown v casts m asked
