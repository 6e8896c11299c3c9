-- What is written of logs.
use Rattle.std.specs.Prelude.{◌≡◌, ℕ, List, ◌++◌, Option, Some}
use Rattle.std.specs.List.{flat_map}
use Rattle.answer_text.specs.Text.{text_of_log}
use Rattle.answer_text.specs.declared.answer.Answer.{Answer}

-- the lines of all answers, log after log
abbrev pub text_of_logs : List (List Answer) → List ℕ
text_of_logs logs = flat_map text_of_log logs

-- a front part of the text was written behind what was there, and the rest of it waits
pub record IsUnderWay (now : Option (List ℕ)) (before text waiting : List ℕ) : Type 0 where
  pub front : List ℕ
  pub written : now ≡ Some (before ++ front)
  pub parts : front ++ waiting ≡ text
