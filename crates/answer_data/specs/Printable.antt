-- Which answers read back.
use Rattle.std.specs.Prelude.{◌<◌, ◌≤◌, ◌^◌, ℤ, pos, negsuc}
use Rattle.std.specs.Str.{IsUtf8}
use Rattle.serde_json.specs.Data.{Num, unsigned, negative, float, Data, null, boolean, number, string, array, object, Items, no_items, item, Members, no_members, member, depth}
use Rattle.serde_json.specs.Read.{max_depth}
use Rattle.answer_text.specs.declared.answer.Answer.{Answer}
use Rattle.answer_data.specs.Answers.{answer_data}

-- an integer below 0 that takes 64 bits
abbrev pub IsNegative : ℤ → Type 0
IsNegative (pos n) = ⊥
IsNegative (negsuc n) = n < 2 ^ 63

-- an integer from -2^63 to 2^64 - 1
abbrev pub IsInteger : Num → Type 0
IsInteger (unsigned n) = n < 2 ^ 64
IsInteger (negative z) = IsNegative z
IsInteger (float x) = ⊥

-- each text is UTF-8, and each number an integer from -2^63 to 2^64 - 1
abbrev mutual
  pub IsSpelled : Data → Type 0
  IsSpelled null = Unit {0}
  IsSpelled (boolean b) = Unit {0}
  IsSpelled (number n) = IsInteger n
  IsSpelled (string s) = IsUtf8 s
  IsSpelled (array ds) = AreSpelled ds
  IsSpelled (object ms) = HasSpelled ms

  pub AreSpelled : Items → Type 0
  AreSpelled no_items = Unit {0}
  AreSpelled (item d ds) = IsSpelled d × AreSpelled ds

  pub HasSpelled : Members → Type 0
  HasSpelled no_members = Unit {0}
  HasSpelled (member k d ms) = IsUtf8 k × IsSpelled d × HasSpelled ms

-- the answer's texts are UTF-8, its numbers integers from -2^63 to 2^64 - 1, and it nests no deeper than JSON may
pub record IsPrintable (answer : Answer) : Type 0 where
  pub spelled : IsSpelled (answer_data answer)
  pub shallow : depth (answer_data answer) ≤ max_depth
