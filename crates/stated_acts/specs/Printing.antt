-- Which numbers of events a line may print.
use Rattle.std.specs.Prelude.{◌≡◌, ℕ, List, [], ◌∷◌, Bool, true, false, ◌&&◌, ◌||◌, filter_map, not, is_some}
use Rattle.serde_json.specs.Data.{Data}
use Rattle.history.specs.History.{History}
use Rattle.history.specs.Own.{numbers_of}
use Rattle.line_acts.specs.Openings.{leaves_of}
use Rattle.stated_arrays.specs.Claimed.{opening_of}
use Rattle.stated_arrays.specs.Takings.{takings}
use Rattle.stated_arrays.specs.ToldNumbers.{opened_in}
use Rattle.stated_arrays.specs.declared.EventNumbers.{EventNumbers}
use Rattle.stated_acts.specs.declared.acts.Act.{Act}
use Rattle.stated_acts.specs.declared.acts.Act.TheVariants.{Opens, Reads, Writes, Commits}

-- each number that an open line prints for a new array is that of the array that a leaf opens
abbrev pub OpensAll : History → ℕ → Act → Data → Type 0
OpensAll history owner (Opens name plan) answer =
    numbers_of (filter_map (opening_of history owner) (takings history (leaves_of plan) (opened_in answer)))
    ≡ opened_in answer
OpensAll history owner _ answer = Unit {0}

-- there are none
abbrev pub is_empty : List ℕ → Bool
is_empty [] = true
is_empty (n ∷ numbers) = false

-- no commit and no failed call is printed
abbrev pub ends_none : EventNumbers → Bool
ends_none numbers = is_empty numbers.done && not (is_some numbers.failed)

-- what may be printed of an act, where a transaction stands or not: new arrays of an open line alone, commits of a
-- commit and of a write outside of a transaction, a failed call of these and of a read
abbrev pub may_by : Act → Bool → EventNumbers → Bool
may_by (Opens name plan) stands numbers = is_empty numbers.done
may_by (Reads view) stands numbers = is_empty numbers.opened && is_empty numbers.done
may_by (Writes view words) stands numbers = is_empty numbers.opened && (not stands || ends_none numbers)
may_by Commits stands numbers = is_empty numbers.opened
may_by _ stands numbers = is_empty numbers.opened && ends_none numbers
