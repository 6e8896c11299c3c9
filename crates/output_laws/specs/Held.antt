-- Data that bytes may hold.
use Rattle.std.specs.Prelude.{◌≡◌, ◌<◌, ◌≤◌, ◌^◌, ◌*◌, ℕ, suc, pos, negsuc, ◌≤ℤ◌, List, length, Some}
use Rattle.std.specs.Str.{IsUtf8}
use Rattle.serde_json.specs.Data.{Num, unsigned, negative, float, Data, null, boolean, number, string, array, object, Items, no_items, item, Members, no_members, member}
use Rattle.json_forms.specs.Bytes.{data_of}

-- how many items there are
abbrev pub count_of : Items → ℕ
count_of no_items = 0
count_of (item d ds) = suc (count_of ds)

-- an integer of 64 bits, or a float
abbrev pub IsNumber : Num → Type 0
IsNumber (unsigned n) = n < 2 ^ 64
IsNumber (negative z) = (negsuc 9223372036854775807 ≤ℤ z) × (z ≤ℤ pos 0)
IsNumber (float x) = Unit {0}

-- each text is UTF-8, each integer takes 64 bits, and no list has more than half so many items
abbrev mutual
  pub IsHeld : ℕ → Data → Type 0
  IsHeld n null = Unit {0}
  IsHeld n (boolean b) = Unit {0}
  IsHeld n (number x) = IsNumber x
  IsHeld n (string s) = IsUtf8 s
  IsHeld n (array ds) = (2 * count_of ds ≤ n) × AreHeld n ds
  IsHeld n (object ms) = HaveHeld n ms

  pub AreHeld : ℕ → Items → Type 0
  AreHeld n no_items = Unit {0}
  AreHeld n (item d ds) = IsHeld n d × AreHeld n ds

  pub HaveHeld : ℕ → Members → Type 0
  HaveHeld n no_members = Unit {0}
  HaveHeld n (member k d ms) = IsUtf8 k × IsHeld n d × HaveHeld n ms

-- so are the data that bytes are, by the number of the bytes
abbrev pub DataIsHeld : Type 0
DataIsHeld = (bytes : List ℕ) (d : Data) → data_of bytes ≡ Some d → IsHeld (length bytes) d
