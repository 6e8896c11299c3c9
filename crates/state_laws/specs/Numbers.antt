-- Numbers of events by keys, as they are held.
use Rattle.std.specs.Prelude.{ℕ, ◌==◌, List, [], ◌∷◌, String, string_bytes, IsSome, if◌then◌else◌}
use Rattle.std.specs.Coded.{Coded, coded_list, coded_ℕ}
use Rattle.std.specs.declared.alloc.Global.{Global}
use Rattle.std.specs.FinMap as finmap
use Rattle.history.specs.Generations.{Generations}

abbrev pub generations_code : Coded Generations
generations_code = finmap.code (coded_list coded_ℕ) coded_ℕ

-- the numbers that entries have; one with 0 has none yet
abbrev pub numbers_of : List (String Global × ℕ) → Generations
numbers_of [] = finmap.empty
numbers_of (e ∷ es) = if e.1 == 0 then finmap.remove (numbers_of es) (string_bytes e.0) else finmap.insert (numbers_of es) (string_bytes e.0) e.1

-- the keys that have an entry
abbrev pub prepared_of : List (String Global × ℕ) → Generations
prepared_of [] = finmap.empty
prepared_of (e ∷ es) = finmap.insert (prepared_of es) (string_bytes e.0) e.1

-- what contracts see of a table: numbers by keys, and the keys at which a number may be put without memory, with what stands there
pub record KeyTable : Type 0 where
  pub numbers : Generations
  pub prepared : Generations

abbrev pub key_table : List (String Global × ℕ) → KeyTable
key_table entries = record { numbers = numbers_of entries; prepared = prepared_of entries }

-- a number may be put at the key without memory
abbrev pub IsPrepared : Generations → List ℕ → Type 0
IsPrepared prepared key = IsSome (finmap.get prepared key)

-- so it may where it could before
abbrev pub KeepsPrepared : Generations → Generations → Type 0
KeepsPrepared old new = (key : List ℕ) → IsPrepared old key → IsPrepared new key
