-- Whole numbers.
use Rattle.std.specs.Prelude.{ℕ, ℤ, Option, option_and_then}
use Rattle.serde_json.specs.Data.{Data, number, unsigned}
use Rattle.serde_json.specs.Find.{as_number, as_integer, of_integer}

-- the integer of a number that is held as a signed or an unsigned integer of 64 bits
abbrev pub whole_number : Data → Option ℤ
whole_number d = option_and_then as_integer (as_number d)

-- a natural number as data
abbrev pub natural : ℕ → Data
natural n = number (unsigned n)

-- an integer as data
abbrev pub integer : ℤ → Data
integer z = number (of_integer z)
