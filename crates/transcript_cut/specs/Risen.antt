-- Numbers that rise behind a last one.
use Rattle.std.specs.Prelude.{◌≡◌, ℕ, List, ◌++◌, Option, None, ◌↔◌, Bool, true, false, slice_index_or, slice_set}
use Rattle.transcript_laws.specs.Numbers.{AreRising, single}
use Rattle.transcript_cut.specs.Numbered.{session_numbers}
use Rattle.transcript_cut.specs.declared.rise.Rise.{Rise}
use Rattle.transcript_cut.specs.declared.rise.Rise.TheVariants.{Up, Down}
use Rattle.transcript_cut.specs.declared.said.Said.{Said}

-- behind the last number these rise, and whatever follows goes on as it does behind the next
abbrev pub GoOn : Option ℕ → List ℕ → Option ℕ → Type 0
GoOn last numbers next =
    (more : List ℕ) → AreRising (single last ++ (numbers ++ more)) ↔ AreRising (single next ++ more)

-- they don't rise, whatever follows
abbrev pub Stop : Option ℕ → List ℕ → Type 0
Stop last numbers = (more : List ℕ) → ¬ AreRising (single last ++ (numbers ++ more))

-- the numbers go on so behind the last
abbrev pub IsRise : Option ℕ → List ℕ → Rise → Type 0
IsRise last numbers (Up next) = GoOn last numbers next
IsRise last numbers Down = Stop last numbers

-- the numbers go on behind the last one of a session, which is the last of them then, or not
abbrev pub IsRiseAt : List (Option ℕ) → List (Option ℕ) → ℕ → List ℕ → Bool → Type 0
IsRiseAt old new session numbers true =
    (next : Option ℕ) × GoOn (slice_index_or old session None) numbers next × (new ≡ slice_set old session next)
IsRiseAt old new session numbers false = Stop (slice_index_or old session None) numbers

-- whether the numbers of each session rise
abbrev pub TellsRise : List Said → Bool → Type 0
TellsRise said true = (session : ℕ) → AreRising (session_numbers session said)
TellsRise said false = (session : ℕ) × (¬ AreRising (session_numbers session said))
