-- How far the words are read.
use Rattle.std.specs.Prelude.{◌≡◌, ◌≢◌, ◌+◌, ◌++◌, ℕ, List, ◌∷◌, Option, codes, length, drop, slice_index}
use Rattle.std.specs.List.{All, flat_map}
use Rattle.std.specs.Option.{option_to_list}
use Rattle.std.specs.Str.Parse.{digits_value}
use Rattle.run_words.specs.Options.{Text, Given, IsRight, Takes, words_of, number_if, numbers_of}
use Rattle.run_words.specs.declared.settings.Kind.{Kind}
use Rattle.run_words.specs.declared.settings.Kind.TheVariants.{Workers, Cache, Make}
use Rattle.run_words.specs.declared.options.Options.{Options}
use Rattle.run_words.specs.declared.options.Choice.{Choice}

-- the number that was given for a kind
abbrev pub number_in : Options → Kind → Option ℕ
number_in options Workers = options.workers
number_in options Cache = options.cache
number_in options Make = options.make

-- the choice is an option of this kind and value, in so many words
pub record IsChosen (kind : Kind) (value : Text) (words : ℕ) (choice : Choice) : Type 0 where
  pub right : Takes kind value
  pub same_kind : choice.kind ≡ kind
  pub number : choice.number ≡ digits_value 10 value
  pub taken : choice.words ≡ words

-- the value of an option stands first
abbrev pub IsValueFirst : Kind → List Text → Choice → Type 0
IsValueFirst kind words choice = (value : Text) × (rest : List Text) × (words ≡ value ∷ rest)
    × IsChosen kind value 2 choice

-- no value of an option stands first
abbrev pub IsNoValueFirst : Kind → List Text → Type 0
IsNoValueFirst kind words = (value : Text) (rest : List Text) → words ≡ value ∷ rest → ¬ Takes kind value

-- the words begin with an option, which is the choice
pub record IsChoice (words : List Text) (choice : Choice) : Type 0 where
  pub given : Given
  pub rest : List Text
  pub split : words ≡ words_of given ++ rest
  pub chosen : IsChosen given.kind given.value (length (words_of given)) choice

-- no option begins the words
abbrev pub BeginsWithNone : List Text → Type 0
BeginsWithNone words = (given : Given) (rest : List Text) → words ≢ words_of given ++ rest

-- the words begin with one that begins with `-` and isn't `--`
pub record BeginsWithDash (words : List Text) : Type 0 where
  pub word : Text
  pub rest : List Text
  pub split : words ≡ word ∷ rest
  pub dash : slice_index word 0 ≡ 45
  pub more : word ≢ codes "--"

-- the words begin like an option, and with none that takes its value
pub record IsFaulty (words : List Text) : Type 0 where
  pub dash : BeginsWithDash words
  pub wrong : (given : Given) (rest : List Text) → IsRight given → words ≢ words_of given ++ rest

-- the options with the choice added
pub record IsAdded (before : Options) (choice : Choice) (after : Options) : Type 0 where
  pub first : after.first ≡ before.first + choice.words
  pub numbers : (kind : Kind) → option_to_list (number_in after kind)
      ≡ option_to_list (number_in before kind) ++ number_if kind choice.kind choice.number

-- the options tell what stands before their end, of each kind at most one
pub record AreUnderWay (words : List Text) (options : Options) : Type 0 where
  pub given : List Given
  pub right : All IsRight given
  pub split : words ≡ flat_map words_of given ++ drop options.first words
  pub first : options.first ≡ length (flat_map words_of given)
  pub numbers : (kind : Kind) → option_to_list (number_in options kind) ≡ numbers_of kind given

-- the options tell all options of the words
pub record AreRead (words : List Text) (options : Options) : Type 0 where
  pub way : AreUnderWay words options
  pub ended : BeginsWithNone (drop options.first words)
