-- Scripts that are read one after another, and their limits.
use Rattle.std.specs.Prelude.{◌≡◌, ◌≤◌, ◌<◌, ◌+◌, ◌^◌, ◌⊎◌, ◌++◌, ◌∷◌, ℕ, List, [], length, map, take, All, sum_by, Option, Some, String, string_bytes, Vec}
use Rattle.std.specs.FinMap as finmap
use Rattle.std.specs.declared.alloc.Global.{Global}
use Rattle.kv_face.specs.Store.{Contents}
use Rattle.kv_face.specs.Streams.{WhereTold}
use Rattle.script_streams.specs.declared.reading.Unread.{Unread}
use Rattle.script_streams.specs.declared.reading.Unread.TheVariants.{Failed, TooLong, Memory}

abbrev pub names_in : List (String Global) → List (List ℕ)
names_in names = map (λ name. string_bytes name) names

abbrev pub texts_in : List (Vec ℕ Global) → List (List ℕ)
texts_in read = map (λ v. v.items) read

-- each name has a script, and the texts are these scripts, in the order of the names
abbrev pub AreScripts : Contents → List (List ℕ) → List (List ℕ) → Type 0
AreScripts told names texts = map (finmap.get told) names ≡ map Some texts

-- a text has at most 2^26 bytes, and all together have at most 2^28
pub record AreShort (texts : List (List ℕ)) : Type 0 where
  pub each : All (λ text. length text ≤ 2 ^ 26) texts
  pub together : sum_by length texts ≤ 2 ^ 28

-- each name has a script, and the scripts are within the limits
pub record CanBeRead (told : Contents) (names : List (List ℕ)) : Type 0 where
  pub texts : List (List ℕ)
  pub scripts : AreScripts told names texts
  pub short : AreShort texts

-- the scripts before a place are within the limits; the one at the place is too long, or all up to it are too long together
pub record IsPassedAt (told : Contents) (names : List (List ℕ)) (place : ℕ) : Type 0 where
  pub before : List (List ℕ)
  pub text : List ℕ
  pub scripts : AreScripts told (take (place + 1) names) (before ++ text ∷ [])
  pub short : AreShort before
  pub passed : (2 ^ 26 < length text) ⊎ (2 ^ 28 < sum_by length before + length text)

-- what holds of the place that an error tells: it is one of the names' places; where scripts are told, those before it can be read, and at
-- `TooLong` the one at it passes a limit, by itself or with them. Of want of memory nothing is said
abbrev pub IsCause : Option Contents → List (List ℕ) → Unread → Type 0
IsCause contents names (Failed place) = (place < length names) × WhereTold contents (λ told. CanBeRead told (take place names))
IsCause contents names (TooLong place) = (place < length names) × WhereTold contents (λ told. IsPassedAt told names place)
IsCause contents names Memory = Unit {0}

-- the answer is that a script can't be read
abbrev pub IsFailure : Unread → Type 0
IsFailure (Failed place) = Unit {0}
IsFailure (TooLong place) = ⊥
IsFailure Memory = ⊥
