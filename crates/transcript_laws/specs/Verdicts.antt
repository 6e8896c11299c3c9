-- What a checker says of a transcript.
use Rattle.std.specs.Prelude.{◌≡◌, ℕ, List, ◌++◌, length, codes, decimal}
use Rattle.history.specs.History.{History}
use Rattle.transcript_laws.specs.Transcript.{ScriptLine, Told, IsCut}
use Rattle.transcript_laws.specs.Numbers.{AreNumbered}
use Rattle.transcript_laws.specs.Claimed.{IsClaimed}
use Rattle.transcript_laws.specs.Fitting.{IsAnswered, ArePlain, Fits}
use Rattle.transcript_laws.specs.Unchecked.{IsNotChecked}

-- it fits, by so many events; the least part that fails; or the line because of which it isn't checked
pub data Verdict : Type 0 where
  yes : (events : ℕ) → Verdict
  no : (part : ℕ) → Verdict
  not_checked : (session line : ℕ) → Verdict

-- the transcript can't be cut
abbrev pub FailsPart1 : List (List ℕ) → List ℕ → Type 0
FailsPart1 scripts transcript = (told : List Told) → ¬ IsCut scripts transcript told

-- part 1 holds, and part 2 doesn't
pub record FailsPart2 (scripts : List (List ℕ)) (transcript : List ℕ) : Type 0 where
  pub told : List Told
  pub cut : IsCut scripts transcript told
  pub fails : ¬ AreNumbered told

-- parts 1 and 2 hold, and no history is the one that is stated and legal
pub record FailsPart3 (scripts : List (List ℕ)) (transcript : List ℕ) : Type 0 where
  pub told : List Told
  pub cut : IsCut scripts transcript told
  pub numbered : AreNumbered told
  pub fails : (history : History) → ¬ IsClaimed told history

-- parts 1 to 3 hold by this history
pub record IsStatedLegally (scripts : List (List ℕ)) (transcript : List ℕ) (told : List Told)
    (history : History) : Type 0 where
  pub cut : IsCut scripts transcript told
  pub numbered : AreNumbered told
  pub claimed : IsClaimed told history

-- parts 1 to 3 hold, and part 4 doesn't
pub record FailsPart4 (scripts : List (List ℕ)) (transcript : List ℕ) : Type 0 where
  pub told : List Told
  pub history : History
  pub stated : IsStatedLegally scripts transcript told history
  pub fails : ¬ IsAnswered told history

-- parts 1 to 4 hold, and part 5 doesn't; it never is so
pub record FailsPart5 (scripts : List (List ℕ)) (transcript : List ℕ) : Type 0 where
  pub told : List Told
  pub history : History
  pub stated : IsStatedLegally scripts transcript told history
  pub answered : IsAnswered told history
  pub fails : ¬ ArePlain told

-- the least part that fails, each being read with those before it
pub data IsFirstFailing (scripts : List (List ℕ)) (transcript : List ℕ) : ℕ → Type 0 where
  part_1 : FailsPart1 scripts transcript → IsFirstFailing scripts transcript 1
  part_2 : FailsPart2 scripts transcript → IsFirstFailing scripts transcript 2
  part_3 : FailsPart3 scripts transcript → IsFirstFailing scripts transcript 3
  part_4 : FailsPart4 scripts transcript → IsFirstFailing scripts transcript 4
  part_5 : FailsPart5 scripts transcript → IsFirstFailing scripts transcript 5

-- every transcript is checked of which no line says otherwise
abbrev pub IsChecked : List (List ℕ) → List ℕ → Type 0
IsChecked scripts transcript = (line : ScriptLine) → ¬ IsNotChecked scripts transcript line

-- the verdict is right
pub data IsVerdict (scripts : List (List ℕ)) (transcript : List ℕ) : Verdict → Type 0 where
  is_yes : {history : History} → IsChecked scripts transcript → Fits scripts transcript history
      → IsVerdict scripts transcript (yes (length history))
  is_no : {part : ℕ} → IsChecked scripts transcript → IsFirstFailing scripts transcript part
      → IsVerdict scripts transcript (no part)
  is_not_checked : {line : ScriptLine} → IsNotChecked scripts transcript line
      → IsVerdict scripts transcript (not_checked line.session line.number)

-- the verdict's line
abbrev pub verdict_text : Verdict → List ℕ
verdict_text (yes events) = codes "{\"events\":" ++ decimal events ++ codes ",\"legal\":true}\n"
verdict_text (no part) = codes "{\"legal\":false,\"part\":" ++ decimal part ++ codes "}\n"
verdict_text (not_checked session line) =
    codes "{\"line\":" ++ decimal line ++ codes ",\"not_checked\":" ++ decimal session ++ codes "}\n"

-- its status
abbrev pub verdict_status : Verdict → ℕ
verdict_status (yes events) = 0
verdict_status (no part) = 1
verdict_status (not_checked session line) = 1

-- a transcript is cut in one way at most
abbrev pub HasOneCut : Type 0
HasOneCut =
    (scripts : List (List ℕ)) (transcript : List ℕ) (told other : List Told) → IsCut scripts transcript told
    → IsCut scripts transcript other → told ≡ other

-- one verdict at most is right for scripts and a transcript
abbrev pub HaveOneVerdict : Type 0
HaveOneVerdict =
    (scripts : List (List ℕ)) (transcript : List ℕ) (v w : Verdict) → IsVerdict scripts transcript v
    → IsVerdict scripts transcript w → v ≡ w

-- what is told states one history at most
abbrev pub HasOneHistory : Type 0
HasOneHistory = (told : List Told) (h k : History) → AreNumbered told → IsClaimed told h → IsClaimed told k → h ≡ k

-- where part 4 holds, so does part 5
abbrev pub Part5Follows : Type 0
Part5Follows = (told : List Told) (history : History) → IsAnswered told history → ArePlain told
