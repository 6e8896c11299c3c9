-- Windows by the numbers that lines print.
use Rattle.std.specs.Prelude.{◌≡◌, ◌<◌, ℕ, ◌+◌, List, [], ◌∷◌, ◌++◌, length, take, drop, get_or, Some, unwrap_or}
use Rattle.std.specs.List.{flat_map, last_or}
use Rattle.transcript_cut.specs.ToldNumbers.{single}
use Rattle.transcript_cut.specs.Transcript.{Told}
use Rattle.transcript_cut.specs.Windows.{last_of, before_first}
use Rattle.transcript_cut.specs.Numbers.{PrintsNumbers, all_numbers}
use Rattle.transcript_cut.specs.declared.numbers.EventNumbers.{EventNumbers}
use Rattle.transcript_cut.specs.declared.said.Said.{Said}

-- the lines print these numbers, one after another
abbrev pub numbers_said : List Said → List ℕ
numbers_said said = flat_map (λ (s : Said). all_numbers s.numbers) said

-- the last of some numbers, and where there is none this one
abbrev pub last_from : ℕ → List ℕ → ℕ
last_from seen numbers = unwrap_or (last_or (Some seen) numbers) 0

-- of the first so many lines the last number
abbrev pub last_before : List Said → ℕ → ℕ
last_before said k = last_of (numbers_said (take k said))

-- where the window of a line with these numbers ends, which these lines follow
abbrev pub end_of : ℕ → EventNumbers → List Said → ℕ
end_of total numbers behind = before_first total ((numbers.done ++ single numbers.failed) ++ numbers_said behind)

-- for each line the last number before it
pub record AreLasts (said : List Said) (lasts : List ℕ) : Type 0 where
  pub long : length lasts ≡ length said
  pub last : (k : ℕ) → k < length said → get_or lasts k 0 ≡ last_before said k

-- for each line where its window ends, of so many events
pub record AreEnds (total : ℕ) (said : List Said) (ends : List ℕ) : Type 0 where
  pub long : length ends ≡ length said
  pub end : (k : ℕ) (d : Said) → k < length said
      → get_or ends k 0 ≡ end_of total (get_or said k d).numbers (drop (k + 1) said)

-- this is kept of the numbers of what is told of lines
abbrev pub ArePrintedBy : List Said → List Told → Type 0
ArePrintedBy [] [] = Unit {0}
ArePrintedBy [] (told ∷ more) = ⊥
ArePrintedBy (said ∷ more) [] = ⊥
ArePrintedBy (said ∷ more) (told ∷ others) = PrintsNumbers told.answer said.numbers × ArePrintedBy more others
