-- A mark that is found among what is kept is one of the history.
use Rattle.std.proofs.Common.{◌≤◌, ℕ, List, [], ◌∷◌, length, sym, ap, ◌∙◌, arith}
use Rattle.std.specs.Prelude.{◌↔◌, option_map}
use Rattle.cast_driver.specs.Chain.{word_out}
use Rattle.cast_driver.specs.declared.cast.Cast.{Cast}
use Rattle.history.specs.Arrays.{Known}
use Rattle.history.specs.Chunks.{Chunk}
use Rattle.history.specs.History.{History}
use Rattle.history.specs.Targets.{Cell}
use Rattle.chunk_versions.specs.Marks.{casts_of, AreShown, IsMark, HasNoMark}
use Rattle.chunk_versions.specs.Versions.{Versions, IsVersions, word_as_of}
use Rattle.chunk_versions.specs.declared.asked.AskedCell.{AskedCell}
use Rattle.version_laws.specs.Kept.{AreVersionsOf}
use Rattle.version_laws.specs.Shown.{AreAskedOf, AreShownThen, IsShownFrom}
use Rattle.version_laws.proofs.Later.{newest_low}

-- at each moment what is kept shows the cells as the history does
shown_then : (h : History) (k : Known) (c : Chunk) (v : Versions) (casts : List (List Cast)) (cell_of : AskedCell → Cell) (m : ℕ) → AreVersionsOf h k c v → m ≤ length h → (asked : List AskedCell) → AreAskedOf h k c cell_of asked
    → AreShown v casts m asked ↔ AreShownThen h casts cell_of m asked
shown_then h k c v casts cell_of m of low [] all = (λ shown. tt, λ shown. tt)
shown_then h k c v casts cell_of m of low (a ∷ asked) all =
    let rest = shown_then h k c v casts cell_of m of low asked all.1 in
    let word = ap (word_as_of v m) all.0.place ∙ of.words m low (cell_of a) all.0.cell in
    let same = ap (option_map (word_out (casts_of casts a))) word in
    (λ shown. (sym same ∙ shown.0, rest.0 shown.1), λ shown. (same ∙ shown.0, rest.1 shown.1))

-- a mark from a moment of the history on shows the cells in the history
pub mark_shown : (h : History) (k : Known) (c : Chunk) (v : Versions) (casts : List (List Cast)) (cell_of : AskedCell → Cell) (asked : List AskedCell) (from m : ℕ) → IsVersions v → AreVersionsOf h k c v → AreAskedOf h k c cell_of asked → from ≤ length h → IsMark v casts asked from m
    → IsShownFrom h casts cell_of asked from m
mark_shown h k c v casts cell_of asked from m is of all low mark =
    let newest = newest_low h k c v is of in
    let high = mark.not_behind in
    let within : m ≤ length h = omega (arith, newest, high, low) in
    record { not_before = mark.not_before; within = within; shown = (shown_then h k c v casts cell_of m of within asked all).0 mark.shown }

-- where there is no mark, no moment of the history shows them
pub never_shown : (h : History) (k : Known) (c : Chunk) (v : Versions) (casts : List (List Cast)) (cell_of : AskedCell → Cell) (asked : List AskedCell) (from m : ℕ) → AreVersionsOf h k c v → AreAskedOf h k c cell_of asked → HasNoMark v casts asked from → ¬ IsShownFrom h casts cell_of asked from m
never_shown h k c v casts cell_of asked from m of all none shown = none m shown.not_before ((shown_then h k c v casts cell_of m of shown.within asked all).1 shown.shown)
