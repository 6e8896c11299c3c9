-- What the words of a command line ask for.
use Rattle.std.specs.Prelude.{◌≡◌, ◌≢◌, ◌⊎◌, ◌≤◌, ◌<◌, ◌+◌, ◌++◌, ℕ, List, [], ◌∷◌, codes}
use Rattle.std.specs.Prelude.{length, drop, slice_index, slice_index_or}
use Rattle.std.specs.List.{All, flat_map}
use Rattle.run_words.specs.Options.{Text, Given, IsRight, words_of, numbers_of}
use Rattle.run_words.specs.declared.settings.Kind.{Kind}
use Rattle.run_words.specs.declared.settings.Kind.TheVariants.{Workers, Cache, Make}
use Rattle.run_words.specs.declared.settings.Settings.{Settings}
use Rattle.run_words.specs.declared.settings.Input.{Input}
use Rattle.run_words.specs.declared.settings.Input.TheVariants.{Files, Made}

-- the files stand behind the word `--`, which stands at place `start`
abbrev pub IsMarked : ℕ → List Text → ℕ → List Text → Type 0
IsMarked start rest first files = (rest ≡ codes "--" ∷ files) × (first ≡ start + 1)

-- the files stand alone, and none begins with `-`
abbrev pub IsPlain : ℕ → List Text → ℕ → List Text → Type 0
IsPlain start rest first files = (rest ≡ files) × (first ≡ start) × All (λ file. slice_index file 0 ≢ 45) files

-- there are 1 to 1,024 files, and none is the empty word
pub record AreFiles (files : List Text) : Type 0 where
  pub some : 1 ≤ length files
  pub few : length files ≤ 1024
  pub named : All (λ file. file ≢ []) files

-- the rest of the words, which begins at place `start`, names files, the first of them at place `first`
pub record HasFiles (start : ℕ) (rest : List Text) (first : ℕ) : Type 0 where
  pub files : List Text
  pub place : IsMarked start rest first files ⊎ IsPlain start rest first files
  pub good : AreFiles files

-- the rest of the words asks for this input: for files where no number was given to make scripts of, else for that
-- number alone
abbrev pub IsInput : ℕ → List ℕ → List Text → Input → Type 0
IsInput start made rest (Files first) = (made ≡ []) × HasFiles start rest first
IsInput start made rest (Made number) = (made ≡ number ∷ []) × (rest ≡ [])

-- the words ask for these settings: they are options, of each kind at most one, and then the rest
pub record IsSettings (words : List Text) (settings : Settings) : Type 0 where
  pub options : List Given
  pub rest : List Text
  pub split : words ≡ flat_map words_of options ++ rest
  pub right : All IsRight options
  pub once : (kind : Kind) → length (numbers_of kind options) ≤ 1
  pub workers : settings.workers ≡ slice_index_or (numbers_of Workers options) 0 1
  pub cache : settings.cache ≡ slice_index_or (numbers_of Cache options) 0 1048576
  pub input : IsInput (length (flat_map words_of options)) (numbers_of Make options) rest settings.input

-- the words from `first` on are files
abbrev pub HasFilesFrom : List Text → Input → Type 0
HasFilesFrom words (Files first) = (first < length words) × (length words ≤ first + 1024)
    × All (λ file. file ≢ []) (drop first words)
HasFilesFrom words (Made number) = Unit {0}

-- the settings keep to their limits, and the files are within the words
pub record KeepsLimits (words : List Text) (settings : Settings) : Type 0 where
  pub some_workers : 1 ≤ settings.workers
  pub few_workers : settings.workers ≤ 64
  pub cache : settings.cache ≤ 134217728
  pub files : HasFilesFrom words settings.input
