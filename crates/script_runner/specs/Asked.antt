-- What the words of a run ask for, and the scripts that are run.
use Rattle.std.specs.Prelude.{◌≡◌, ◌≢◌, ◌⊎◌, ℕ, List, [], length, drop, Option, Some, Result, Ok, Err, Vec}
use Rattle.std.specs.declared.alloc.Global.{Global}
use Rattle.kv_face.specs.Store.{Contents}
use Rattle.kv_face.specs.Streams.{HasRisen, WhereTold}
use Rattle.made_scripts.specs.Scripts.{made}
use Rattle.run_words.specs.Words.{IsSettings}
use Rattle.run_words.specs.declared.settings.Input.TheVariants.{Files, Made}
use Rattle.run_words.specs.declared.settings.Settings.{Settings}
use Rattle.script_runner.specs.declared.outcome.Outcome.{Outcome}
use Rattle.script_streams.specs.Asking.{Gives, IsRun}
use Rattle.script_streams.specs.Reading.{AreScripts, AreShort, IsCause, texts_in}
use Rattle.script_streams.specs.declared.reading.Unread.{Unread}
use Rattle.script_streams.specs.declared.reading.Unread.TheVariants.{Failed, TooLong, Memory}

-- the words ask that these files are run, with these settings
pub record AskFor (words files : List (List ℕ)) : Type 0 where
  pub settings : Settings
  pub asked : IsSettings words settings
  pub first : ℕ
  pub from : settings.input ≡ Files first
  pub are : files ≡ drop first words

-- the words ask for scripts that are made from this number
pub record AskToMake (words : List (List ℕ)) (number : ℕ) : Type 0 where
  pub settings : Settings
  pub asked : IsSettings words settings
  pub from : settings.input ≡ Made number

-- the words ask for nothing
abbrev pub AreRefused : List (List ℕ) → Type 0
AreRefused words = (settings : Settings) → ¬ IsSettings words settings

-- these scripts were read: where scripts are told, they are those of the files, in their order
pub record AreOfFiles (contents : Option Contents) (files scripts : List (List ℕ)) : Type 0 where
  pub count : length scripts ≡ length files
  pub told : WhereTold contents (λ told. AreScripts told files scripts)
  pub short : AreShort scripts

-- they are of the files that the words ask for
pub record AreReadOf (contents : Option Contents) (words scripts : List (List ℕ)) : Type 0 where
  pub files : List (List ℕ)
  pub asked : AskFor words files
  pub read : AreOfFiles contents files scripts

-- they are the nine that are made from the number that the words ask for
pub record AreMadeFor (words scripts : List (List ℕ)) : Type 0 where
  pub number : ℕ
  pub asked : AskToMake words number
  pub are : scripts ≡ made number

-- they are the scripts that the words ask for: those of files, or those that are made
abbrev pub AreAskedFor : Option Contents → List (List ℕ) → List (List ℕ) → Type 0
AreAskedFor contents words scripts = AreReadOf contents words scripts ⊎ AreMadeFor words scripts

-- the script at this place was not read: the scripts failed, or it passes a limit, by itself or with those before it
pub record IsUnreadFile (contents : Option Contents) (files : List (List ℕ)) (before now : ℕ) (place : Option ℕ) : Type 0 where
  pub at : ℕ
  pub place_is : place ≡ Some at
  pub cause : (HasRisen before now × IsCause contents files (Failed at)) ⊎ IsCause contents files (TooLong at)

-- it is of a file that the words ask for
pub record IsUnread (contents : Option Contents) (words : List (List ℕ)) (before now : ℕ) (place : Option ℕ) : Type 0 where
  pub files : List (List ℕ)
  pub asked : AskFor words files
  pub unread : IsUnreadFile contents files before now place

-- what the answer for the scripts of files comes to: those that were given were run, if any session was started; else status and place tell why not
abbrev pub IsAnsweredBy : Outcome → (List (List ℕ) → Type 0) → Result (Vec (Vec ℕ Global) Global) Unread → Type 0
IsAnsweredBy outcome ran (Ok texts) = (outcome.status ≢ 3) × (outcome.logs ≢ [] → ran (texts_in texts.items))
IsAnsweredBy outcome ran (Err (Failed place)) = (outcome.status ≡ 3) × (outcome.script ≡ Some place)
IsAnsweredBy outcome ran (Err (TooLong place)) = (outcome.status ≡ 3) × (outcome.script ≡ Some place)
IsAnsweredBy outcome ran (Err Memory) = (outcome.status ≡ 5) × (outcome.logs ≡ [])

-- the scripts of the files were asked for in their order, each once and none behind the first that wasn't given, and this came of it
pub record HasAsked {X : Type 0} (gives : Gives X) (from : X) (files : List (List ℕ)) (outcome : Outcome) (ran : List (List ℕ) → Type 0) (to : X) : Type 0 where
  pub answer : Result (Vec (Vec ℕ Global) Global) Unread
  pub asked : IsRun gives from files answer to
  pub answered : IsAnsweredBy outcome ran answer
