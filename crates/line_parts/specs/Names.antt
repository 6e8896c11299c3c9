-- Which texts are names.
use Rattle.std.specs.Prelude.{ℕ, List, length, Bool, ◌&&◌, ◌||◌, ◌==◌, nat_le, option_and_then, Option, Some, None, if◌then◌else◌}
use Rattle.std.specs.List.{list_all}
use Rattle.std.specs.Char.{is_ascii_alphanumeric}
use Rattle.serde_json.specs.Data.{Data}
use Rattle.serde_json.specs.Find.{as_str}

-- an ASCII letter, a digit or `_`
abbrev pub is_name_byte : ℕ → Bool
is_name_byte b = is_ascii_alphanumeric b || b == 95

-- 1 to 64 of these
abbrev pub is_name : List ℕ → Bool
is_name s = nat_le 1 (length s) && (nat_le (length s) 64 && list_all is_name_byte s)

-- the text, where it is a name
abbrev pub as_name : List ℕ → Option (List ℕ)
as_name s = if is_name s then Some s else None

-- the name that a value is
abbrev pub name_of : Data → Option (List ℕ)
name_of d = option_and_then as_name (as_str d)
