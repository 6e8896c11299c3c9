-- The options of a command line: how they are spelled, and which numbers they take.
use Rattle.std.specs.Prelude.{◌≤◌, ◌++◌, ℕ, Bool, true, false, List, [], ◌∷◌, String}
use Rattle.std.specs.Prelude.{codes, if◌then◌else◌, map, string_bytes}
use Rattle.std.specs.List.{flat_map}
use Rattle.std.specs.Str.Parse.{IsNumeral, digits_value}
use Rattle.run_words.specs.declared.settings.Kind.{Kind}
use Rattle.run_words.specs.declared.settings.Kind.TheVariants.{Workers, Cache, Make}

-- a word, as its bytes
abbrev pub Text : Type 0
Text = List ℕ

-- the texts of words
abbrev pub texts_of : {Z : Type 0} → List (String Z) → List Text
texts_of = map string_bytes

-- how an option is called
abbrev pub name_of : Kind → Text
name_of Workers = codes "--workers"
name_of Cache = codes "--cache"
name_of Make = codes "--make"

-- the least number that an option takes
abbrev pub least_of : Kind → ℕ
least_of Workers = 1
least_of Cache = 0
least_of Make = 0

-- the greatest one
abbrev pub most_of : Kind → ℕ
most_of Workers = 64
most_of Cache = 134217728
most_of Make = 4294967295

-- the value is decimal digits alone, at least one, and the option takes their number
pub record Takes (kind : Kind) (value : Text) : Type 0 where
  pub numeral : IsNumeral 10 value
  pub above : least_of kind ≤ digits_value 10 value
  pub below : digits_value 10 value ≤ most_of kind

-- the word `NAME=VALUE`
abbrev pub joined : Kind → Text → Text
joined kind value = name_of kind ++ 61 ∷ value

-- an option among the words, spelled `NAME=VALUE` where it is joined, else `NAME VALUE`
pub record Given : Type 0 where
  pub is_joined : Bool
  pub kind : Kind
  pub value : Text

-- the words of an option with this value
abbrev pub spelled : Bool → Kind → Text → List Text
spelled true kind value = joined kind value ∷ []
spelled false kind value = name_of kind ∷ value ∷ []

-- the words that spell an option
abbrev pub words_of : Given → List Text
words_of given = spelled given.is_joined given.kind given.value

-- the number that an option gives
abbrev pub number_of : Given → ℕ
number_of given = digits_value 10 given.value

-- the option takes its value
abbrev pub IsRight : Given → Type 0
IsRight given = Takes given.kind given.value

-- both are one kind
abbrev pub is_same : Kind → Kind → Bool
is_same Workers Workers = true
is_same Cache Cache = true
is_same Make Make = true
is_same _ _ = false

-- the number, if it is given for this kind
abbrev pub number_if : Kind → Kind → ℕ → List ℕ
number_if kind other number = if is_same kind other then number ∷ [] else []

-- the numbers that options give for a kind, in their order
abbrev pub numbers_of : Kind → List Given → List ℕ
numbers_of kind = flat_map (λ given. number_if kind given.kind (number_of given))
