-- What is kept of what an answer prints.
use Rattle.std.specs.Prelude.{◌≡◌, ℕ, List, ◌++◌}
use Rattle.serde_json.specs.Data.{Data}
use Rattle.transcript_laws.specs.Numbers.{opened_in, done_in, failed_in, damaged_in, single}
use Rattle.transcript_cut.specs.declared.numbers.EventNumbers.{EventNumbers}

-- the answer prints these numbers and no others, and says or doesn't say that a chunk is damaged
pub record PrintsNumbers (answer : Data) (numbers : EventNumbers) : Type 0 where
  pub opened : opened_in answer ≡ numbers.opened
  pub done : done_in answer ≡ numbers.done
  pub failed : failed_in answer ≡ single numbers.failed
  pub damaged : damaged_in answer ≡ numbers.damaged

-- all of them, in the order in which a line adds its events
abbrev pub all_numbers : EventNumbers → List ℕ
all_numbers numbers = numbers.opened ++ (numbers.done ++ single numbers.failed)
