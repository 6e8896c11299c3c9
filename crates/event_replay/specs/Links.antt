-- Which windows end at a number of events.
use Rattle.std.specs.Prelude.{◌≡◌, ◌≢◌, ◌≤◌, ◌<◌, ℕ, ◌+◌, ◌-◌, List, length, get_or}
use Rattle.event_replay.specs.declared.waiting.Waiting.{Waiting}

-- of the first few demands, the link leads to the last whose window ends at the number. Links count from 1; 0 where there is none
pub record LeadsTo (waiting : List Waiting) (number few link : ℕ) : Type 0 where
  pub low : link ≤ few
  pub own : (d : Waiting) → 0 < link → (get_or waiting (link - 1) d).upto ≡ number
  pub none : (i : ℕ) (d : Waiting) → link ≤ i → i < few → (get_or waiting i d).upto ≢ number

-- for each number a link to the last of the first few demands, and for each of these one to the last before it whose window ends there too
pub record AreLinked (waiting : List Waiting) (few : ℕ) (last earlier : List ℕ) : Type 0 where
  pub count : length earlier ≡ few
  pub at_number : (number : ℕ) → number < length last → LeadsTo waiting number few (get_or last number 0)
  pub at_place : (i : ℕ) (d : Waiting) → i < few → LeadsTo waiting (get_or waiting i d).upto i (get_or earlier i 0)

-- so it is of all of them, up to a number
pub record AreEnds (waiting : List Waiting) (most : ℕ) (last earlier : List ℕ) : Type 0 where
  pub numbers : length last ≡ most + 1
  pub links : AreLinked waiting (length waiting) last earlier
