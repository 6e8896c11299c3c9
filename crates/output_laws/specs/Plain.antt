-- Values whose numbers take 64 bits and whose texts are UTF-8, and that nest little.
use Rattle.std.specs.Prelude.{◌<◌, ◌≤◌, ◌^◌, ℕ, ℤ, pos, negsuc, ◌≤ℤ◌, ◌<ℤ◌, List, Option, Some, None}
use Rattle.std.specs.List.{AllByRecursion}
use Rattle.std.specs.Str.{IsUtf8}
use Rattle.serde_json.specs.Data.{Data, depth}
use Rattle.index_transform.specs.declared.map.OutMap.{OutMap}
use Rattle.index_transform.specs.declared.map.OutMap.TheVariants.{Constant, Strided, Indexed}
use Rattle.transcript_laws.specs.Causes.{Member}
use Rattle.transcript_laws.specs.Printable.{IsSpelled}

-- a value that JSON spells, and that nests no deeper than this
pub record IsPlain (room : ℕ) (d : Data) : Type 0 where
  pub spelled : IsSpelled d
  pub shallow : depth d ≤ room

-- a member of an object in an answer's object: a text as its name, and a value that nests little
pub record IsPlainMember (m : Member) : Type 0 where
  pub name : IsUtf8 m.0
  pub value : IsPlain 50 m.1

-- an integer from -2^63 to 2^64 - 1
pub record IsWhole (z : ℤ) : Type 0 where
  pub from_least : negsuc 9223372036854775807 ≤ℤ z
  pub to_greatest : z <ℤ pos 18446744073709551616

-- the numbers of a map, but for the entries of an index array
abbrev pub HasNumbers : OutMap → Type 0
HasNumbers (Constant offset) = IsWhole offset
HasNumbers (Strided offset stride dim) = IsWhole offset × (IsWhole stride × (dim < 2 ^ 64))
HasNumbers (Indexed offset stride sizes entries) = IsWhole offset × IsWhole stride

-- numbers of 64 bits, where there are some
abbrev pub AreSmall : Option (List ℕ) → Type 0
AreSmall None = Unit {0}
AreSmall (Some ns) = AllByRecursion (λ n. n < 2 ^ 64) ns
