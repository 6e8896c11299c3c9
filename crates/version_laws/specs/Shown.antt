-- The cells that a read asks for of one chunk, and what the history shows of them.
use Rattle.std.specs.Prelude.{◌≡◌, ◌≤◌, ℕ, List, length, take, Some, option_map}
use Rattle.std.specs.FinMap as finmap
use Rattle.std.specs.List.{AllByRecursion}
use Rattle.cast_driver.specs.Chain.{word_out}
use Rattle.cast_driver.specs.declared.cast.Cast.{Cast}
use Rattle.history.specs.Arrays.{Known}
use Rattle.history.specs.Chunks.{Chunk}
use Rattle.history.specs.Content.{world_after}
use Rattle.history.specs.History.{History}
use Rattle.history.specs.Targets.{Cell}
use Rattle.chunk_versions.specs.Marks.{casts_of}
use Rattle.chunk_versions.specs.declared.asked.AskedCell.{AskedCell}
use Rattle.version_laws.specs.Kept.{place_in, IsCellOf}

-- what is asked for is this cell of the chunk
pub record IsAskedOf (history : History) (k : Known) (c : Chunk) (cell_of : AskedCell → Cell) (asked : AskedCell) : Type 0 where
  pub cell : IsCellOf history c (cell_of asked)
  pub place : asked.place ≡ place_in k (cell_of asked)

-- so is each of them
abbrev pub AreAskedOf : History → Known → Chunk → (AskedCell → Cell) → List AskedCell → Type 0
AreAskedOf history k c cell_of asked = AllByRecursion (IsAskedOf history k c cell_of) asked

-- the history's arrays show the cell at a moment as it was asked for
abbrev pub IsShownThen : History → List (List Cast) → (AskedCell → Cell) → ℕ → AskedCell → Type 0
IsShownThen history casts cell_of m asked = option_map (word_out (casts_of casts asked)) (world_after finmap.empty (take m history) (cell_of asked)) ≡ Some asked.word

-- so are all of them
abbrev pub AreShownThen : History → List (List Cast) → (AskedCell → Cell) → ℕ → List AskedCell → Type 0
AreShownThen history casts cell_of m asked = AllByRecursion (IsShownThen history casts cell_of m) asked

-- at a moment of the history from this one on all of them are shown
pub record IsShownFrom (history : History) (casts : List (List Cast)) (cell_of : AskedCell → Cell) (asked : List AskedCell) (from m : ℕ) : Type 0 where
  pub not_before : from ≤ m
  pub within : m ≤ length history
  pub shown : AreShownThen history casts cell_of m asked
