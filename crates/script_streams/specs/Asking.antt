-- How scripts are asked for by their names, one after another.
use Rattle.std.specs.Prelude.{◌≡◌, ◌<◌, ◌≤◌, ◌+◌, ◌^◌, ◌⊎◌, ℕ, List, [], ◌∷◌, length, take, get_or, sum_by, Option, Result, Ok, Err, Vec, IfOk, IsErrOf}
use Rattle.std.specs.declared.alloc.Global.{Global}
use Rattle.kv_face.specs.Store.{Contents}
use Rattle.kv_face.specs.Streams.{WhereTold, Rises, IsMissing, script_of}
use Rattle.kv_face.specs.declared.reading.ReadError.{ReadError}
use Rattle.kv_face.specs.declared.reading.ReadError.TheVariants as read
use Rattle.script_streams.specs.Reading.{texts_in}
use Rattle.script_streams.specs.declared.reading.Unread.{Unread}
use Rattle.script_streams.specs.declared.reading.Unread.TheVariants.{Failed, TooLong, Memory}

-- what may be answered for a name, and what is left of what was asked
abbrev pub Gives : Type 0 → Type 1
Gives X = X → List ℕ → Result (Vec ℕ Global) ReadError → X → Type 0

-- what scripts may answer for a name, by what they tell and their count of faults before and after
pub record IsRead (contents : Option Contents) (before after : ℕ) (name : List ℕ) (result : Result (Vec ℕ Global) ReadError) : Type 0 where
  pub all : IfOk result (λ v. WhereTold (script_of contents name) (λ bytes. v.items ≡ bytes))
  pub short : IfOk result (λ v. length v.items ≤ 2 ^ 26)
  pub long : IsErrOf result read.TooLong → WhereTold (script_of contents name) (λ bytes. 2 ^ 26 < length bytes)
  pub missing : IsMissing contents name → result ≡ Err read.Failed
  pub cause : Rises before after (IsErrOf result read.Failed)

-- the names were asked for one after another, and for each its text was given
abbrev pub AreGiven : {X : Type 0} → Gives X → X → List (List ℕ) → List (Vec ℕ Global) → X → Type 0
AreGiven gives from [] [] to = from ≡ to
AreGiven {X} gives from (name ∷ names) (text ∷ texts) to = (between : X) × gives from name (Ok text) between × AreGiven gives between names texts to
AreGiven gives from names texts to = ⊥

-- the texts of the names before a place were given, and this was the answer for the name at the place
pub record IsAnswered {X : Type 0} (gives : Gives X) (from : X) (names : List (List ℕ)) (place : ℕ) (texts : List (Vec ℕ Global)) (answer : Result (Vec ℕ Global) ReadError) (to : X) : Type 0 where
  pub before : X
  pub given : AreGiven gives from (take place names) texts before
  pub last : gives before (get_or names place []) answer to

-- the script at the place is too long by itself, or with those before it
abbrev pub IsPassed : {X : Type 0} → Gives X → X → List (List ℕ) → ℕ → List (Vec ℕ Global) → X → Type 0
IsPassed gives from names place texts to =
    IsAnswered gives from names place texts (Err read.TooLong) to
    ⊎ ((text : Vec ℕ Global) × IsAnswered gives from names place texts (Ok text) to × (2 ^ 28 < sum_by length (texts_in texts) + length text.items))

-- memory was wanting behind the texts of some first names, or for the next one
abbrev pub IsWanting : {X : Type 0} → Gives X → X → List (List ℕ) → ℕ → List (Vec ℕ Global) → X → Type 0
IsWanting gives from names place texts to =
    AreGiven gives from (take place names) texts to ⊎ IsAnswered gives from names place texts (Err read.Memory) to

-- the scripts were asked for in the order of the names, each once and none behind the first that wasn't given, and this is the answer
abbrev pub IsRun : {X : Type 0} → Gives X → X → List (List ℕ) → Result (Vec (Vec ℕ Global) Global) Unread → X → Type 0
IsRun gives from names (Ok all) to = AreGiven gives from names all.items to
IsRun gives from names (Err (Failed place)) to = (texts : List (Vec ℕ Global)) × IsAnswered gives from names place texts (Err read.Failed) to
IsRun gives from names (Err (TooLong place)) to = (texts : List (Vec ℕ Global)) × IsPassed gives from names place texts to
IsRun gives from names (Err Memory) to = (place : ℕ) × (texts : List (Vec ℕ Global)) × IsWanting gives from names place texts to

-- the answer for one name, which stands at this place, where there is room for so many bytes
abbrev pub IsAnswerAt : {X : Type 0} → Gives X → X → List ℕ → ℕ → ℕ → Result (Vec ℕ Global) Unread → X → Type 0
IsAnswerAt gives from name room place (Ok text) to = gives from name (Ok text) to
IsAnswerAt gives from name room place (Err (Failed at)) to = (at ≡ place) × gives from name (Err read.Failed) to
IsAnswerAt gives from name room place (Err (TooLong at)) to =
    (at ≡ place) × (gives from name (Err read.TooLong) to ⊎ ((text : Vec ℕ Global) × gives from name (Ok text) to × (room < length text.items)))
IsAnswerAt gives from name room place (Err Memory) to = gives from name (Err read.Memory) to
