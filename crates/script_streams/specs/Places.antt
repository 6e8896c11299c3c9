-- One script of several.
use Rattle.std.specs.Prelude.{◌≡◌, ◌<◌, ◌^◌, ◌⊎◌, ℕ, List, length, Option, Some}
use Rattle.std.specs.FinMap as finmap
use Rattle.kv_face.specs.Store.{Contents}
use Rattle.kv_face.specs.Streams.{WhereTold}
use Rattle.script_streams.specs.declared.reading.Unread.{Unread}
use Rattle.script_streams.specs.declared.reading.Unread.TheVariants.{Failed, TooLong, Memory}

-- the script of the name has more than 2^26 bytes, or more than there is room for
pub record IsTooLong (told : Contents) (name : List ℕ) (room : ℕ) : Type 0 where
  pub text : List ℕ
  pub script : finmap.get told name ≡ Some text
  pub passed : (2 ^ 26 < length text) ⊎ (room < length text)

-- why the script of the name, which stands at this place, was not read
abbrev pub IsCauseAt : Option Contents → List ℕ → ℕ → ℕ → Unread → Type 0
IsCauseAt contents name room place (Failed at) = at ≡ place
IsCauseAt contents name room place (TooLong at) = (at ≡ place) × WhereTold contents (λ told. IsTooLong told name room)
IsCauseAt contents name room place Memory = Unit {0}
