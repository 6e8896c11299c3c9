-- A check of files: the transcript first, and the scripts behind it.
use Rattle.std.specs.Prelude.{◌≡◌, ◌≢◌, ◌<◌, ◌⊎◌, ◌^◌, ℕ, List, [], ◌∷◌, ◌++◌, length, take, drop, sum_by, Option, Result, Ok, Err, Vec}
use Rattle.std.specs.declared.alloc.Global.{Global}
use Rattle.kv_face.specs.Store.{Contents}
use Rattle.kv_face.specs.Streams.{WhereTold, HasRisen}
use Rattle.script_streams.specs.Asking.{Gives, IsRun}
use Rattle.script_streams.specs.Putting.{Takes, IsGoing, IsBroken}
use Rattle.script_streams.specs.Reading.{AreScripts, AreShort, CanBeRead, texts_in}
use Rattle.script_streams.specs.declared.reading.Unread.{Unread}
use Rattle.script_streams.specs.declared.reading.Unread.TheVariants.{Failed, TooLong, Memory}
use Rattle.transcript_check.specs.declared.files.Files.{Files}
use Rattle.transcript_fits.specs.Verdicts.{Verdict, IsVerdict, verdict_text, verdict_status}

-- what the files of the words hold, the transcript first; they count together against the limits of scripts
pub record AreFiles (contents : Option Contents) (words : List (List ℕ)) (transcript : List ℕ)
    (scripts : List (List ℕ)) : Type 0 where
  pub count : length words ≡ length (transcript ∷ scripts)
  pub read : WhereTold contents (λ told. AreScripts told words (transcript ∷ scripts))
  pub short : AreShort (transcript ∷ scripts)

-- they are these texts
pub record AreFilesOf (first rest : List (List ℕ)) (transcript : List ℕ) (scripts : List (List ℕ)) : Type 0 where
  pub transcript_is : first ≡ transcript ∷ []
  pub scripts_are : scripts ≡ rest
  pub short : AreShort (transcript ∷ scripts)

-- the files of some first words are there, and pass a limit, one of them or all together
pub record PassLimit (told : Contents) (words : List (List ℕ)) : Type 0 where
  pub count : ℕ
  pub texts : List (List ℕ)
  pub are : AreScripts told (take count words) texts
  pub passed : ¬ CanBeRead told (take count words)

-- reading failed, or, as far as files are told, they pass a limit
abbrev pub IsUnread : Option Contents → List (List ℕ) → ℕ → ℕ → Type 0
IsUnread contents words before now = HasRisen before now ⊎ WhereTold contents (λ told. PassLimit told words)

-- so it is where the answer isn't want of memory
abbrev pub IsCauseBy : Option Contents → List (List ℕ) → ℕ → ℕ → Unread → Type 0
IsCauseBy contents words before now (Failed place) = IsUnread contents words before now
IsCauseBy contents words before now (TooLong place) = IsUnread contents words before now
IsCauseBy contents words before now Memory = Unit {0}

-- texts pass the limit together, or memory was wanting
abbrev pub IsTooLongBy : List (List ℕ) → Unread → Type 0
IsTooLongBy texts (Failed place) = ⊥
IsTooLongBy texts (TooLong place) = 2 ^ 28 < sum_by length texts
IsTooLongBy texts Memory = Unit {0}

-- a verdict was told
abbrev pub HasVerdict : ℕ → Type 0
HasVerdict status = (status ≡ 0) ⊎ (status ≡ 1)

-- the verdict on a transcript is right, its line was given to the sink and taken, and this is its status
pub record IsTold {X : Type 0} (scripts : List (List ℕ)) (transcript : List ℕ) (takes : Takes X) (from to : X)
    (status : ℕ) : Type 0 where
  pub verdict : Verdict
  pub right : IsVerdict scripts transcript verdict
  pub status_is : status ≡ verdict_status verdict
  pub put : IsGoing takes from (verdict_text verdict) [] to

-- it is right, and its line wasn't taken
pub record IsUntold {X : Type 0} (scripts : List (List ℕ)) (transcript : List ℕ) (takes : Takes X)
    (from to : X) : Type 0 where
  pub verdict : Verdict
  pub right : IsVerdict scripts transcript verdict
  pub put : IsBroken takes from (verdict_text verdict) to

-- the files of the words were read to their ends, and the verdict on them was told
pub record IsCheckTold {X : Type 0} (contents : Option Contents) (words : List (List ℕ)) (takes : Takes X) (from to : X)
    (status : ℕ) : Type 0 where
  pub transcript : List ℕ
  pub scripts : List (List ℕ)
  pub files : AreFiles contents words transcript scripts
  pub told : IsTold scripts transcript takes from to status

-- they were, and its line wasn't taken
pub record IsCheckUntold {X : Type 0} (contents : Option Contents) (words : List (List ℕ)) (takes : Takes X)
    (from to : X) : Type 0 where
  pub transcript : List ℕ
  pub scripts : List (List ℕ)
  pub files : AreFiles contents words transcript scripts
  pub untold : IsUntold scripts transcript takes from to

-- what the answer for scripts comes to: why they weren't given, or what is done with those that were
abbrev pub IsAnsweredBy : (Unread → Type 0) → (List (List ℕ) → Type 0) → Result (Vec (Vec ℕ Global) Global) Unread → Type 0
IsAnsweredBy unread given (Ok texts) = given (texts_in texts.items)
IsAnsweredBy unread given (Err e) = unread e

-- the scripts of the names were asked for in their order, each once and none behind the first that wasn't given, and this came of it
pub record HasAskedFor {X : Type 0} (gives : Gives X) (from : X) (names : List (List ℕ)) (unread : Unread → Type 0)
    (given : List (List ℕ) → Type 0) (to : X) : Type 0 where
  pub answer : Result (Vec (Vec ℕ Global) Global) Unread
  pub asked : IsRun gives from names answer to
  pub answered : IsAnsweredBy unread given answer

-- the transcript, which the first word names, was asked for, and then, where it was given, the scripts of the other words, and this came of
-- all their texts, the transcript's first
abbrev pub HasAskedFiles : {X : Type 0} → Gives X → X → List (List ℕ) → (Unread → Type 0) → (List (List ℕ) → Type 0) → X → Type 0
HasAskedFiles {X} gives from words unread given to =
    (between : X) × HasAskedFor gives from (take 1 words) (λ e. (between ≡ to) × unread e)
    (λ first. HasAskedFor gives between (drop 1 words) unread (λ rest. given (first ++ rest)) to) between

-- the texts are those of files, or together too long for them, or memory was wanting
abbrev pub IsFilesAnswer : Result Files Unread → List (List ℕ) → Type 0
IsFilesAnswer (Ok files) texts = texts ≡ files.transcript ∷ files.scripts
IsFilesAnswer (Err e) texts = IsTooLongBy texts e

-- the status where files weren't read
abbrev pub status_unread : Unread → ℕ
status_unread (Failed place) = 3
status_unread (TooLong place) = 3
status_unread Memory = 5

-- the verdict on these texts, the transcript's first, was told, or its line wasn't taken
pub record IsEnded {X : Type 0} (takes : Takes X) (from to : X) (status : ℕ) (texts : List (List ℕ)) : Type 0 where
  pub transcript : List ℕ
  pub scripts : List (List ℕ)
  pub are : texts ≡ transcript ∷ scripts
  pub read : status ≢ 3
  pub told : HasVerdict status → IsTold scripts transcript takes from to status
  pub untold : status ≡ 4 → IsUntold scripts transcript takes from to

-- what comes of texts that were given: they are too long together, memory is wanting, or there is a verdict
abbrev pub IsCheckOf : {X : Type 0} → Takes X → X → X → ℕ → List (List ℕ) → Type 0
IsCheckOf takes from to status texts =
    ((2 ^ 28 < sum_by length texts) × (status ≡ 3)) ⊎ ((status ≡ 5) ⊎ IsEnded takes from to status texts)
